use Rattle.std.proofs.Common.{rules, ◌≡◌, ◌∙◌, pos, get_or, arith, to_z, of_z, w64}
use Rattle.archive_store.proofs.CheckLemmas.{looks_first, looks_next, looked_all, same_archive, both_stay, fails_to_check, check_failed}
use Rattle.archive_tables.proofs.LastLemmas.{lasts_then}
use Rattle.sqlite.specs.Held.{state}
use Rattle.archive_store.proofs.FindLemmas.{more_since}
use Rattle.archive_store.proofs.store.Store.check.Goals as goal

pub loop-place-init : goal.loop-place-init
loop-place-init g c = (
  c.in_ok-places.ensures.ends.remains_open.disk_was_clean,
  (λ returned held.
      let found = c.in_ok-places.ensures.found returned held in
      looks_first g.S.Store c.args.self.now c.find_all_places.new.store c.deref-place-items.result.now held (c.deref-place-items.ensures.value ∙ found.0) found.1),
  c.in_ok-places.ensures.ends.remains_open,
  c.in_ok-places.ensures.was_open,
  c.in_ok-places.ensures.ends.refusals_counted.0,
  c.find_all_places.ensures.writes_nothing,
)

pub loop-place-preserved : goal.loop-place-preserved
loop-place-preserved g c =
    let now = c.loop-place.self in
    let place = get_or c.deref-place-items.result.now c.loop-place.place-index (pos 0) in
    let it : to_z w64 (of_z w64 place) ≡ place = search rules in
    let looks = looks_next g.S.Store c.args.self.now now c.deref-place-items.result.now c.loop-place.place-index (to_z w64 (of_z w64 place)) (pos 0) in (
      (λ returned. c.loop-place.invariant.0 (c.damage_at.ensures.ends.remains_open.disk_was_clean returned)),
      (λ returned held.
          let so_far = c.loop-place.invariant.1 (c.damage_at.ensures.ends.remains_open.disk_was_clean returned) held in
          let next = looks so_far (omega (arith, c.loop-place-test.true)) it in
          let looked = rw c.in_default.is at (c.in_ok-list.ensures.looked returned so_far.stays.1 next.it next.found) in
          next.goes_on c.damage_at.new.store looked.0 looked.1),
      lasts_then _ _ _ c.loop-place.invariant.2 c.damage_at.ensures.ends.remains_open,
      (λ returned. c.loop-place.invariant.3 (c.damage_at.ensures.ends.remains_open.disk_was_clean returned)),
      omega (arith, c.loop-place.invariant.4, c.in_ok-list.ensures.ends.refusals_counted.0),
      (λ db may. c.loop-place.invariant.5 db (c.damage_at.ensures.writes_nothing db may)),
    )

pub returns-in_err-list : goal.returns-in_err-list
returns-in_err-list g c =
    let now = c.loop-place.self in
    let place = get_or c.deref-place-items.result.now c.loop-place.place-index (pos 0) in
    let it : to_z w64 (of_z w64 place) ≡ place = search rules in
    let looks = looks_next g.S.Store c.args.self.now now c.deref-place-items.result.now c.loop-place.place-index (to_z w64 (of_z w64 place)) (pos 0) in record {
      checked = fails_to_check g.S.Store c.args.self.now c.damage_at.new.store c.from_residual-in_err-list.result _ c.from_residual-in_err-list.ensures.1
          (lasts_then _ _ _ c.loop-place.invariant.2 c.damage_at.ensures.ends.remains_open) (λ returned held up.
          let so_far = c.loop-place.invariant.1 (c.damage_at.ensures.ends.remains_open.disk_was_clean returned) held in
          let next = looks so_far (omega (arith, c.loop-place-test.true)) it in
          both_stay g.S.Store c.args.self.now now c.damage_at.new.store so_far.stays (c.in_err-list.ensures.looked returned so_far.stays.1 next.it next.found up));
      ends = record {
        was_open = search rules;
        fault_is_no_refusal = search rules;
        fault_has_cause = λ returned held free.
            let so_far = c.loop-place.invariant.1 (c.damage_at.ensures.ends.remains_open.disk_was_clean returned) held in
            let next = looks so_far (omega (arith, c.loop-place-test.true)) it in
            check_failed c.from_residual-in_err-list.result c.in_err-list.field-0.0 _ c.from_residual-in_err-list.ensures.1
            (λ is. more_since (state g.S.Store c.args.self.now.conn) (state g.S.Store now.conn) (state g.S.Store c.damage_at.new.store.conn) c.loop-place.invariant.2
            (c.in_err-list.ensures.caused returned so_far.stays.1 (c.loop-place.invariant.2.step_limit_is_same ∙ free) next.it next.found is));
        refusals_counted = search rules;
      };
      writes_nothing = search rules;
    }

pub returns-in-Some-clause-checked : goal.returns-in-Some-clause-checked
returns-in-Some-clause-checked g c =
    let now = c.loop-place.self in
    let place = get_or c.deref-place-items.result.now c.loop-place.place-index (pos 0) in
    let it : to_z w64 (of_z w64 place) ≡ place = search rules in
    let looks = looks_next g.S.Store c.args.self.now now c.deref-place-items.result.now c.loop-place.place-index (to_z w64 (of_z w64 place)) (pos 0) in (
      lasts_then _ _ _ c.loop-place.invariant.2 c.damage_at.ensures.ends.remains_open,
      (λ returned held.
          let so_far = c.loop-place.invariant.1 (c.damage_at.ensures.ends.remains_open.disk_was_clean returned) held in
          let next = looks so_far (omega (arith, c.loop-place-test.true)) it in
          let looked = rw c.in-Some.is at (c.in_ok-list.ensures.looked returned so_far.stays.1 next.it next.found) in
          let stays = both_stay g.S.Store c.args.self.now now c.damage_at.new.store so_far.stays looked.1 in
          (stays.1, (same_archive g.S.Store c.args.self.now c.damage_at.new.store stays, next.stops _ _ looked.0.0 looked.0.1 looked.0.2))),
    )

pub returns-clause-checked : goal.returns-clause-checked
returns-clause-checked g c = (
  c.loop-place.invariant.2,
  (λ returned held.
      let so_far = c.loop-place.invariant.1 returned held in
      let all = looked_all g.S.Store c.args.self.now c.loop-place.self c.deref-place-items.result.now c.loop-place.place-index so_far (search rules) in
      (so_far.stays.1, (same_archive g.S.Store c.args.self.now c.loop-place.self so_far.stays, all))),
)

pub returns-in_err-places-clause-ends : goal.returns-in_err-places-clause-ends
returns-in_err-places-clause-ends g c = record {
  was_open = search rules;
  fault_is_no_refusal = search rules;
  fault_has_cause = λ returned held free.
      check_failed c.from_residual.result c.in_err-places.field-0.0 _ c.from_residual.ensures.1 (c.in_err-places.ensures.caused returned held free);
  refusals_counted = search rules;
}
