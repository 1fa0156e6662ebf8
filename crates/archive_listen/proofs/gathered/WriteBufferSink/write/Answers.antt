use Rattle.std.proofs.Common.{arith, ◌≡◌, ◌<◌, ◌-◌, ◌∙◌, ap, sym, length, subst, ℕ}
use Rattle.byte_device.specs.Device.{failures_of_write}
use Rattle.std.proofs.Common.{Ok}
use Rattle.archive_listen.proofs.GatheringLemmas.{taken_fits}
use Rattle.archive_listen.proofs.gathered.WriteBufferSink.write.Goals as goal

pub returns-clause-faults : goal.returns-clause-faults
returns-clause-faults g c =
    let view = c.self.view_is in
    let some : 0 < g.row.N - c.self.inside.last = subst (λ (n : ℕ). 0 < n) (sym (ap (λ s. s.free) view)) c.in_ok-make_room.ensures.ok in
    let same : length c.self.inside.faults.bytes ≡ c.args.self.now.failures = ap (λ s. s.failures) view ∙ c.in_ok-make_room.ensures.quiet in
    let none = taken_fits ℕ c.args.bytes.now (g.row.N - c.self.inside.last) some in
    let took = ap (λ (n : ℕ). failures_of_write {E = ℕ} c.args.bytes.now (Ok n)) c.fill-count.ensures.count ∙ none in
    omega (arith, same, took)
