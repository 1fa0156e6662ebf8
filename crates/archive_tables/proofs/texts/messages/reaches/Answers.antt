use Rattle.std.proofs.Common.{ℕ, ap, sym, ◌∙◌, arith, false, None}
use Rattle.std.specs.Prelude.{◌≡◌, not, ◌==◌}
use Rattle.sqlite.specs.Held.{state}
use Rattle.archive_tables.proofs.ReachLemmas.{reach}
use Rattle.archive_tables.proofs.AskLemmas.{of_archive, answers, fails}
use Rattle.archive_tables.proofs.texts.messages.reaches.Goals as goal

empty_is : (n : ℕ) → not (n == 0) ≡ false → n ≡ 0
empty_is n h = grind arith

pub returns-clause-asks : goal.returns-clause-asks
returns-clause-asks g c =
    of_archive (answers (reach c.args.limit) c.query_all.result c.query_all.ensures.survives c.query_all.ensures.ok c.query_all.ensures.err (rw c.params-to_sql.ensures)
    c.in_ok-rows.rows.items c.in_ok-rows.ensures.ok (λ it some missed. it.fewer some (sym c.in_ok-rows.rows.ok.0 ∙ empty_is _ (ap not (sym c.is_empty.ensures) ∙ missed))))

pub returns-clause-number : goal.returns-clause-number
returns-clause-number g c clean k =
    let it = (reach c.args.limit).tells None (state g.S.Store c.args.conn.now) (state g.S.Store c.query_all.new.self) k c.in_ok-rows.rows.items
    (rw c.params-to_sql.ensures at (c.in_ok-rows.ensures.ok clean)) in
    ap not c.is_empty.ensures ∙ ap (λ n. not (n == 0)) c.in_ok-rows.rows.ok.0 ∙ it.0.number

pub returns-in_err-rows-clause-asks : goal.returns-in_err-rows-clause-asks
returns-in_err-rows-clause-asks g c =
    of_archive (fails (reach c.args.limit) c.query_all.result c.query_all.ensures.survives c.query_all.ensures.ok c.query_all.ensures.err (rw c.params-to_sql.ensures)
    c.in_err-rows.field-0.0 c.from_residual.ensures.1 c.in_err-rows.ensures.err)
