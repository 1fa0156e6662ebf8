use Rattle.std.proofs.Common.{rules, ◌≡◌, Err, sym, ap, ◌∙◌, None, Some, w64}
use Rattle.std.specs.Prelude.{slice_get, option_map}
use Rattle.std.proofs.lemmas.Int.{to_z-of_z}
use Rattle.archive_tables.specs.Listed.{indexed_result_row}
use Rattle.archive_tables.proofs.RunLemmas.{on_fault}
use Rattle.archive_store.proofs.FindLemmas.{passed_on, blames_disk, blames_read, finds_read, not_both, passed_rows, passed_no_rows}
use Rattle.archive_store.proofs.checking.damage_at.Goals as goal

some_is : {A : Type 0} {x y : A} → Some x ≡ Some y → x ≡ y
some_is e = cc

pub returns-in_err-rows-clause-looked : goal.returns-in_err-rows-clause-looked
returns-in_err-rows-clause-looked g c = λ returned held f is.
    on_fault _ _ c.from_residual.result c.from_residual.ensures.1 (passed_no_rows _ _ c.filed_at-rows.ensures c.in_err-rows.ensures.passed returned held)

pub returns-in_default-clause-looked : goal.returns-in_default-clause-looked
returns-in_default-clause-looked g c = λ returned held f is up.
    let rows = passed_rows c.filed_at-rows.ensures c.in_ok-rows.ensures.passed returned held in
    (rows.1, rows.2)

pub returns-clause-looked : goal.returns-clause-looked
returns-clause-looked g c = λ returned held f is.
    let itself = to_z-of_z w64 c.args.place c.ranges.place in
    let rows = rw itself at (passed_rows c.filed_at-rows.ensures c.in_ok-rows.ensures.passed returned held) in
    let first : slice_get c.in_ok-rows.rows.items 0 ≡ Some c.in-Some.row.now = search rules in
    let shown : c.in-Some.row.now ≡ indexed_result_row f = some_is (sym first ∙ rows.0 ∙ ap (option_map indexed_result_row) is) in
    let found = c.find_damage.ensures.found f shown in
    finds_read c.find_damage.result c.pass_fault.result _ _ c.pass_fault.ensures.passed found (λ damage says. (says, (rows.1, rows.2))) (λ up. (rows.1, rows.2))

pub returns-in_err-rows-clause-caused : goal.returns-in_err-rows-clause-caused
returns-in_err-rows-clause-caused g c = λ returned held free f is.
    passed_on c.from_residual.result c.in_err-rows.field-0.0 _ c.from_residual.ensures.1
    (blames_disk g.S.Store c.args.store.now.conn c.filed_at-rows.new.conn c.filed_at-rows.result (Err c.in_err-rows.field-0.0) c.in_err-rows.ensures.passed
    c.filed_at-rows.ensures.fault_has_cause returned held free)

pub returns-in_default-clause-caused : goal.returns-in_default-clause-caused
returns-in_default-clause-caused g c = λ returned held free f is it.
    let itself = to_z-of_z w64 c.args.place c.ranges.place in
    let rows = rw itself at (passed_rows c.filed_at-rows.ensures c.in_ok-rows.ensures.passed returned held) in
    let none : slice_get c.in_ok-rows.rows.items 0 ≡ None = search rules in
    absurd (let bad : None ≡ Some (indexed_result_row f) = sym none ∙ rows.0 ∙ ap (option_map indexed_result_row) is in cc)

pub returns-clause-caused : goal.returns-clause-caused
returns-clause-caused g c = λ returned held free f is.
    let itself = to_z-of_z w64 c.args.place c.ranges.place in
    let rows = rw itself at (passed_rows c.filed_at-rows.ensures c.in_ok-rows.ensures.passed returned held) in
    let first : slice_get c.in_ok-rows.rows.items 0 ≡ Some c.in-Some.row.now = search rules in
    let shown : c.in-Some.row.now ≡ indexed_result_row f = some_is (sym first ∙ rows.0 ∙ ap (option_map indexed_result_row) is) in
    blames_read c.find_damage.result c.pass_fault.result _ c.pass_fault.ensures.passed (c.find_damage.ensures.fault f shown) (λ e wants is. not_both e wants is)
