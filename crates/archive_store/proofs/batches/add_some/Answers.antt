use Rattle.std.proofs.Common.{◌≡◌, ◌<◌, ◌+◌, ◌-◌, ◌∙◌, ap, get_or, length, take, drop, length-drop, arith, refl, rules, subst, Some, inl, inr}
use Rattle.sqlite.specs.Held.{state}
use Rattle.archive_model.specs.Commands.{taken_in, already_known, refused, too_large}
use Rattle.archive_model.specs.Runs.{taken}
use Rattle.archive_tables.proofs.RunLemmas.{on_fault}
use Rattle.archive_port.specs.Wanting.{IsMemoryRefusal}
use Rattle.archive_port.proofs.WantLemmas.{raises_after, raises_on}
use Rattle.archive_port.specs.Adding.{reported_count, tally_of_report}
use Rattle.archive_store.proofs.BatchLemmas.{one_taken, none_taken, held_or_back, told_new, told_known, told_too_large}
use Rattle.archive_tables.specs.Tables.{archive_of}
use Rattle.archive_store.specs.Refusals.{MakeRows}
use Rattle.archive_store.proofs.FindLemmas.{more_since, passed_on}
use Rattle.archive_store.proofs.StopLemmas.{among_later, no_rows, rows_next, stops_there}
use Rattle.archive_store.proofs.batches.add_some.Goals.{in-New, in-Known, in-TooLarge}
use Rattle.archive_tables.proofs.LastLemmas.{lasts_then, lasts_same}
use Rattle.archive_tables.proofs.CrashLemmas.{never_adds}
use Rattle.archive_store.proofs.batches.add_some.Goals as goal

pub returns-in-Full-clause-step : goal.returns-in-Full-clause-step
returns-in-Full-clause-step g c = λ clean db a from.
    let so_far = c.loop-at.invariant.4 (c.add_counted.ensures.ends.remains_open.disk_was_clean clean) db a from in
    let items = c.args.additions.now.items.now in
    let within : c.loop-at.at < length items = omega (arith, c.loop-at-test.true, c.requires.begins.to_in_range) in
    let it = none_taken (Some db) (state g.S.Store c.loop-at.store.conn) (state g.S.Store c.add_counted.new.store.conn) a c.args.additions.now.list.now items
    c.loop-at.at c.loop-at.count c.add_counted.new.count
    (get_or items c.loop-at.at c.index-additions-at.result) c.loop-at.report so_far within (ap (get_or items c.loop-at.at) c.index-additions-at.is)
    (rw c.in-Full.is at (c.in_ok-add_counted.ensures.step clean (Some db) so_far.is_open_archive so_far.list_has_count)) in
    (it.0, inr it.1)

pub returns-in_err-add_counted-clause-step : goal.returns-in_err-add_counted-clause-step
returns-in_err-add_counted-clause-step g c = λ clean db a from.
    let so_far = c.loop-at.invariant.4 (c.add_counted.ensures.ends.remains_open.disk_was_clean clean) db a from in
    on_fault _ _ c.from_residual.result c.from_residual.ensures.1
    (held_or_back db (state g.S.Store c.loop-at.store.conn) (state g.S.Store c.add_counted.new.store.conn)
    (c.in_err-add_counted.ensures.step clean (Some db) so_far.is_open_archive so_far.list_has_count))

pub loop-at-preserved : goal.loop-at-preserved
loop-at-preserved g c = (
  omega (arith, c.loop-at.invariant.0),
  omega (arith, c.loop-at-test.true),
  elim c.match-branch-2.branch [
    | in-New w ↦ (let told = ap reported_count w.report-is in omega (arith, told, c.loop-at.invariant.2))
    | in-Known w ↦ (let told = ap reported_count w.report-is in omega (arith, told, c.loop-at.invariant.2))
    | in-TooLarge w ↦ (let told = ap reported_count w.report-is in omega (arith, told, c.loop-at.invariant.2))
  ],
  (λ clean. c.loop-at.invariant.3 (c.add_counted.ensures.ends.remains_open.disk_was_clean clean)),
  (λ clean db a from.
      let so_far = c.loop-at.invariant.4 (c.add_counted.ensures.ends.remains_open.disk_was_clean clean) db a from in
      let items = c.args.additions.now.items.now in
      let within : c.loop-at.at < length items = omega (arith, c.loop-at-test.true, c.requires.begins.to_in_range) in
      let more = one_taken (Some db) (state g.S.Store c.loop-at.store.conn) (state g.S.Store c.add_counted.new.store.conn) a c.args.additions.now.list.now items
      c.loop-at.at c.loop-at.count c.add_counted.new.count
      (get_or items c.loop-at.at c.index-additions-at.result) c.loop-at.report so_far within (ap (get_or items c.loop-at.at) c.index-additions-at.is) in
      let adds = c.in_ok-add_counted.ensures.step clean (Some db) so_far.is_open_archive so_far.list_has_count in
      let replies = (taken a c.args.additions.now.list.now (take c.loop-at.at items)).replies in
      elim c.match-branch-2.branch [
        | in-New w ↦ more taken_in c.match-branch-2.report (rw w.in-New.is at adds) (ap tally_of_report w.report-is ∙ told_new c.loop-at.report replies so_far.tally_is)
        | in-Known w ↦ more already_known c.match-branch-2.report (rw w.in-Known.is at adds) (ap tally_of_report w.report-is ∙ told_known c.loop-at.report replies so_far.tally_is)
        | in-TooLarge w ↦ more (refused too_large) c.match-branch-2.report (rw w.in-TooLarge.is at adds) (ap tally_of_report w.report-is ∙ told_too_large c.loop-at.report replies so_far.tally_is)
      ]),
  lasts_then _ _ _ c.loop-at.invariant.5 c.add_counted.ensures.ends.remains_open,
  omega (arith, c.loop-at.invariant.6, c.in_ok-add_counted.ensures.ends.refusals_counted.0),
  (λ clean db a from left may.
      let was = c.add_counted.ensures.ends.remains_open.disk_was_clean clean in
      let so_far = c.loop-at.invariant.4 was db a from in
      c.loop-at.invariant.7 was db a from left
      (never_adds g.S.Store c.loop-at.store.conn c.add_counted.new.store.conn db _ (c.add_counted.ensures.crash (Some db) so_far.is_open_archive so_far.list_has_count) clean left may)),
  (λ clean free db a from.
      let was = c.add_counted.ensures.ends.remains_open.disk_was_clean clean in
      let so_far = c.loop-at.invariant.4 was db a from in
      let list = c.args.additions.now.list.now in
      let items = c.args.additions.now.items.now in
      let rest = drop c.args.from items in
      let i = c.loop-at.at - c.args.from in
      let item = get_or items c.loop-at.at c.index-additions-at.result in
      let within : i < length rest = omega (arith, c.loop-at-test.true, c.requires.begins.to_in_range, c.loop-at.invariant.0, length-drop c.args.from items) in
      let first = state g.S.Store c.args.store.now.conn in
      let loop = state g.S.Store c.loop-at.store.conn in
      let new = state g.S.Store c.add_counted.new.store.conn in
      let next = rows_next list rest i item within (among_later items c.args.from c.loop-at.at item c.loop-at.invariant.0 (ap (get_or items c.loop-at.at) c.index-additions-at.is))
      first.now loop.now (c.loop-at.invariant.8 was free db a from) in
      let adds = c.in_ok-add_counted.ensures.step clean (Some db) so_far.is_open_archive so_far.list_has_count in
      let writes = c.in_ok-add_counted.ensures.rows clean (Some db) so_far.is_open_archive (c.loop-at.invariant.5.step_limit_is_same ∙ free) in
      let on : i + 1 ≡ c.loop-at.at + 1 - c.args.from = omega (arith, c.loop-at.invariant.0) in
      subst (λ n. MakeRows list (take n rest) first.now new.now) on (elim c.match-branch-2.branch [
        | in-New w ↦ (let told = rw w.in-New.is at adds in next taken_in (archive_of loop) (archive_of new) new.now refl told.1 (rw w.in-New.is at writes))
        | in-Known w ↦ (let told = rw w.in-Known.is at adds in next already_known (archive_of loop) (archive_of new) new.now refl told.1 (rw w.in-Known.is at writes))
        | in-TooLarge w ↦ (let told = rw w.in-TooLarge.is at adds in next (refused too_large) (archive_of loop) (archive_of new) new.now refl told.1 (rw w.in-TooLarge.is at writes))
      ])),
)

pub loop-at-init : goal.loop-at-init
loop-at-init g c = (
  omega arith,
  omega (arith, c.requires.begins.from_at_most_to),
  c.requires.begins.starts_at_count,
  (λ clean. clean),
  (λ clean db a from. from),
  lasts_same _,
  omega arith,
  (λ clean db a from left may. may),
  (λ clean free db a from.
      let list = c.args.additions.now.list.now in
      let first = state g.S.Store c.args.store.now.conn in
      let none : 0 ≡ c.args.from - c.args.from = omega arith in
      subst (λ n. MakeRows list (take n (drop c.args.from c.args.additions.now.items.now)) first.now first.now) none (no_rows list first.now)),
)

pub returns-in-Full-clause-ends : goal.returns-in-Full-clause-ends
returns-in-Full-clause-ends g c = record {
  remains_open = lasts_then _ _ _ c.loop-at.invariant.5 c.add_counted.ensures.ends.remains_open;
  refusals_counted = (omega (arith, c.loop-at.invariant.6, c.in_ok-add_counted.ensures.ends.refusals_counted.0), tt);
  fault_has_cause = λ db clean free a from. tt;
}

pub returns-in_err-add_counted-clause-ends : goal.returns-in_err-add_counted-clause-ends
returns-in_err-add_counted-clause-ends g c = record {
  remains_open = lasts_then _ _ _ c.loop-at.invariant.5 c.add_counted.ensures.ends.remains_open;
  refusals_counted = raises_after IsMemoryRefusal _ _ _ c.from_residual.result c.loop-at.invariant.6
      (raises_on (Unit {0}) _ _ c.from_residual.result c.in_err-add_counted.field-0.0 c.from_residual.ensures.1 c.in_err-add_counted.ensures.ends.refusals_counted);
  fault_has_cause = λ db clean free a from.
      let was = c.add_counted.ensures.ends.remains_open.disk_was_clean clean in
      let so_far = c.loop-at.invariant.4 was db a from in
      let items = c.args.additions.now.items.now in
      let rest = drop c.args.from items in
      let i = c.loop-at.at - c.args.from in
      let item = get_or items c.loop-at.at c.index-additions-at.result in
      let within : i < length rest = omega (arith, c.loop-at-test.true, c.requires.begins.to_in_range, c.loop-at.invariant.0, length-drop c.args.from items) in
      let first = state g.S.Store c.args.store.now.conn in
      let loop = state g.S.Store c.loop-at.store.conn in
      passed_on c.from_residual.result c.in_err-add_counted.field-0.0 _ c.from_residual.ensures.1
      (λ it. elim (c.in_err-add_counted.ensures.rows clean (Some db) so_far.is_open_archive (c.loop-at.invariant.5.step_limit_is_same ∙ free) it) [
        | inl more ↦ inl (more_since first loop (state g.S.Store c.add_counted.new.store.conn) c.loop-at.invariant.5 more)
        | inr against ↦ inr (stops_there c.args.additions.now.list.now rest i item within
            (among_later items c.args.from c.loop-at.at item c.loop-at.invariant.0 (ap (get_or items c.loop-at.at) c.index-additions-at.is))
            first.now loop.now (c.loop-at.invariant.8 was free db a from) (record { would_execute = against.1 so_far.list_has_count; refuses_rows = against.0 }))
      ]);
}

pub returns-clause-ends : goal.returns-clause-ends
returns-clause-ends g c =
    let lasts = c.loop-at.invariant.5 in
    let counted = c.loop-at.invariant.6 in
    search rules

-- ---- what a stop leaves

pub returns-in-Full-clause-quiet : goal.returns-in-Full-clause-quiet
returns-in-Full-clause-quiet g c = λ db a from clean left may.
    let was = c.add_counted.ensures.ends.remains_open.disk_was_clean clean in
    let so_far = c.loop-at.invariant.4 was db a from in
    c.loop-at.invariant.7 was db a from left
    (never_adds g.S.Store c.loop-at.store.conn c.add_counted.new.store.conn db _ (c.add_counted.ensures.crash (Some db) so_far.is_open_archive so_far.list_has_count) clean left may)

pub returns-in_err-add_counted-clause-quiet : goal.returns-in_err-add_counted-clause-quiet
returns-in_err-add_counted-clause-quiet g c = λ db a from clean left may.
    let was = c.add_counted.ensures.ends.remains_open.disk_was_clean clean in
    let so_far = c.loop-at.invariant.4 was db a from in
    c.loop-at.invariant.7 was db a from left
    (never_adds g.S.Store c.loop-at.store.conn c.add_counted.new.store.conn db _ (c.add_counted.ensures.crash (Some db) so_far.is_open_archive so_far.list_has_count) clean left may)

pub returns-clause-quiet : goal.returns-clause-quiet
returns-clause-quiet g c = λ db a from clean left may. c.loop-at.invariant.7 clean db a from left may
