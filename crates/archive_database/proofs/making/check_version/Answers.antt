use Rattle.std.proofs.Common.{◌≡◌, pos, ap, sym, subst, ◌∙◌, to_z, of_z, w64, [], ◌∷◌, ◌<◌, length, get_or, arith, rules, inl, inr, refl}
use Rattle.std.specs.List.Sorted.{IsPermutation}
use Rattle.std.proofs.lemmas.Grind.{common_steps}
use Rattle.std.proofs.lemmas.Int.{to_z-of_z}
use Rattle.sqlite.specs.declared.types.Value.TheVariants.{Int}
use Rattle.sqlite.specs.Order.{Row, column}
use Rattle.sqlite.specs.Values.{IsInt}
use Rattle.sqlite.specs.Held.{state}
use Rattle.archive_tables.specs.Rows.{version_result_rows}
use Rattle.archive_tables.specs.Tables.{HasVersionRow}
use Rattle.archive_database.proofs.CauseLemmas.{fails_by}
use Rattle.archive_database.proofs.MakingLemmas.{shows_version, version_shown}
use Rattle.archive_database.proofs.StepsLemmas.{unread}
use Rattle.archive_database.proofs.making.check_version.Goals as goal

pub returns-clause-version : goal.returns-clause-version
returns-clause-version g c clean known form =
    let trees = (state g.S.Store c.args.conn.now).now.trees in
    let fits = rw c.in_ok-found.was at c.get.type_inv in
    let zero : c.in_ok-found.found ≡ pos c.args.number =
    sym (to_z-of_z w64 c.in_ok-found.found (record { sfits = assumption fits })) ∙ ap (to_z w64) c.if-found-wanted.false
    ∙ to_z-of_z w64 c.from-wanted.result (record { sfits = c.from-wanted.type_inv }) ∙ c.from-wanted.ensures in
    shows_version (pos c.args.number) trees c.as_slice.result.now c.row-item.result
    (subst (λ rows. IsPermutation (version_result_rows trees) rows) (sym c.as_slice.ensures.value) (c.in_ok-rows.ensures.numbers clean c.args.number known form))
    c.in-len1.len_at_least c.in-len1.len_below c.row-item.is (c.in_ok-found.ensures.ok.1 ∙ ap Int zero)

-- ---- how it ends

pub returns-in_err-rows-clause-ends : goal.returns-in_err-rows-clause-ends
returns-in_err-rows-clause-ends g c =
    let old = state g.S.Store c.args.conn.now in
    let new = state g.S.Store c.versions.new.conn in
    record {
      remains_open = c.versions.ensures.asks.ends_call.remains_open;
      was_open = λ clean. search rules;
      fault_has_cause = λ clean it free. fails_by old new c.from_residual.result c.in_err-rows.field-0.0 (¬ HasVersionRow (pos c.args.number) old.now.trees)
          c.from_residual.ensures.1 (inl (c.in_err-rows.ensures.caused clean c.args.number it.0 it.1 free));
    }

pub returns-in_default-clause-ends : goal.returns-in_default-clause-ends
returns-in_default-clause-ends g c = record {
  remains_open = c.versions.ensures.asks.ends_call.remains_open;
  was_open = λ clean. tt;
  fault_has_cause = λ clean it free why. inr (λ of.
      let shown = version_shown (pos c.args.number) (state g.S.Store c.args.conn.now).now.trees c.in_ok-rows.rows.items of (c.in_ok-rows.ensures.numbers clean c.args.number it.0 it.1) in
      let one : length c.as_slice.result.now ≡ 1 = ap length (c.as_slice.ensures.value ∙ shown) in
      grind (arith, common_steps));
}

pub returns-in_err-found-clause-ends : goal.returns-in_err-found-clause-ends
returns-in_err-found-clause-ends g c =
    let old = state g.S.Store c.args.conn.now in
    let new = state g.S.Store c.versions.new.conn in
    record {
      remains_open = c.versions.ensures.asks.ends_call.remains_open;
      was_open = λ clean. search rules;
      fault_has_cause = λ clean it free. unread old new c.from_residual-in_err-found.result c.in_err-found.field-0.0 (¬ HasVersionRow (pos c.args.number) old.now.trees)
          c.from_residual-in_err-found.ensures.1 (λ other of.
          let shown = version_shown (pos c.args.number) old.now.trees c.in_ok-rows.rows.items of (c.in_ok-rows.ensures.numbers clean c.args.number it.0 it.1) in
          let row : c.row-item.result ≡ Int (pos c.args.number) ∷ [] = c.row-item.is ∙ ap (λ l. get_or l 0 c.row-item.result) (c.as_slice.ensures.value ∙ shown) in
          c.in_err-found.ensures.kind other (subst (λ (l : Row). 0 < length l) (sym row) (omega arith)) (subst IsInt (sym (ap (λ r. column r 0) row)) (pos c.args.number, refl)));
    }

pub returns-then-found-wanted-clause-ends : goal.returns-then-found-wanted-clause-ends
returns-then-found-wanted-clause-ends g c = record {
  remains_open = c.versions.ensures.asks.ends_call.remains_open;
  was_open = λ clean. tt;
  fault_has_cause = λ clean it free why. inr (λ of.
      let shown = version_shown (pos c.args.number) (state g.S.Store c.args.conn.now).now.trees c.in_ok-rows.rows.items of (c.in_ok-rows.ensures.numbers clean c.args.number it.0 it.1) in
      let row : c.row-item.result ≡ Int (pos c.args.number) ∷ [] = c.row-item.is ∙ ap (λ l. get_or l 0 c.row-item.result) (c.as_slice.ensures.value ∙ shown) in
      let read : Int (pos c.args.number) ≡ Int c.in_ok-found.found = sym (ap (λ r. column r 0) row) ∙ c.in_ok-found.ensures.ok.1 in
      let found : c.in_ok-found.found ≡ pos c.args.number = cc in
      c.if-found-wanted.true (ap (of_z w64) (found ∙ sym c.from-wanted.ensures)));
}

pub returns-clause-ends : goal.returns-clause-ends
returns-clause-ends g c = record { remains_open = c.versions.ensures.asks.ends_call.remains_open; was_open = λ clean. search rules; fault_has_cause = λ clean it free. tt }
