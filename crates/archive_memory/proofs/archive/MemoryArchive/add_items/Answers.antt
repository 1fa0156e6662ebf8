use Rattle.std.proofs.Common.{◌≡◌, ◌∙◌, ◌+◌, ◌<◌, ap, sym, refl, arith, bytes_eq, length}
use Rattle.std.specs.List.{list_any}
use Rattle.archive_model.specs.Questions.{has_list}
use Rattle.archive_memory.specs.State.{archive_in_memory}
use Rattle.archive_memory.proofs.AddLemmas.{none_taken, none_told, stops_at, taken_more, told_more}
use Rattle.archive_memory.proofs.archive.MemoryArchive.add_items.Goals as goal

pub returns-then-not-has_list-clause-added : goal.returns-then-not-has_list-clause-added
returns-then-not-has_list-clause-added c =
    let listed : c.has_list.result ≡ has_list (archive_in_memory c.args.self.now) c.args.list.now = cc in
    (none_taken (archive_in_memory c.args.self.now) c.args.list.now, (refl, sym listed ∙ c.if-not-has_list.true))

pub loop-done-init : goal.loop-done-init
loop-done-init c =
    let listed : c.has_list.result ≡ has_list (archive_in_memory c.args.self.now) c.args.list.now = cc in
    (none_taken (archive_in_memory c.args.self.now) c.args.list.now, none_told (archive_in_memory c.args.self.now) c.args.list.now, refl, sym listed ∙ c.if-not-has_list.false, refl)

pub returns-in-Err-clause-added : goal.returns-in-Err-clause-added
returns-in-Err-clause-added c =
    let so_far = c.loop-done.invariant in
    let stop = c.in-Err.ensures.added so_far.3 in
    let within : c.loop-done.done < length c.args.items.now = omega arith in (
      stop.0 ∙ so_far.0,
      stops_at (archive_in_memory c.args.self.now) c.args.list.now c.args.items.now c.loop-done.done c.index-items-done.result within c.index-items-done.is (archive_in_memory c.loop-done.self) _
          so_far.0 stop.1,
    )

pub loop-done-preserved : goal.loop-done-preserved
loop-done-preserved c =
    let a = archive_in_memory c.args.self.now in
    let so_far = c.loop-done.invariant in
    let added = c.in-Ok.ensures.added so_far.3 in
    let within : c.loop-done.done < length c.args.items.now = omega arith in (
      taken_more a c.args.list.now c.args.items.now c.loop-done.done c.index-items-done.result within c.index-items-done.is (archive_in_memory c.loop-done.self) (archive_in_memory c.add_one.new.self)
          so_far.0 added.0,
      told_more a c.args.list.now c.args.items.now c.loop-done.done c.index-items-done.result within c.index-items-done.is (archive_in_memory c.loop-done.self) c.loop-done.told c.in-Ok.report
          so_far.0 added.1 so_far.1,
      added.1.one_more ∙ ap (λ n. n + 1) so_far.2,
      ap (λ lists. list_any (λ known. bytes_eq known c.args.list.now) lists) c.in-Ok.ensures.lists ∙ so_far.3,
      c.in-Ok.ensures.counted.1 ∙ so_far.4,
    )
