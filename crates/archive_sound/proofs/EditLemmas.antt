-- Which edits of a table SQL does not refuse.
use Rattle.std.proofs.Common.{◌≡◌, inl, inr, ℕ, zero, suc, [], ◌∷◌, length, Err, Option, true, sym, ap, ◌∙◌, arith, length-append}
use Rattle.std.specs.List.{list_all}
use Rattle.sqlite.specs.declared.error.Error.{Error}
use Rattle.sqlite.specs.Edit.{Edit, edited, left_by, taken_by, are_fresh, have_rowids, IsRefused, IsOversized, is_referred, id_in}
use Rattle.sqlite.specs.Ops.{fits_i64}
use Rattle.sqlite.specs.Order.{Row}
use Rattle.sqlite.specs.Rows.{Edited}
use Rattle.sqlite.specs.Tree.{Trees, with_tree, rowid}
use Rattle.sqlite_rules.specs.declared.error.Refusal.{Refusal}
use Rattle.sqlite_rules.specs.declared.error.Refusal.TheVariants.{Violates, Mismatch, NoRowid, BadReference, TooDeep}
use Rattle.sqlite_rules.specs.Action.{Writes, Leads}
use Rattle.sqlite_rules.specs.Lists.{Has}
use Rattle.sqlite_schema.specs.declared.schema.Constraint.TheVariants.{Datatype, NotNull, Check, PrimaryKey, Unique, ForeignKey}
use Rattle.sqlite_schema.specs.declared.schema.Keys.TheVariants.{Enforced}
use Rattle.sqlite_schema.specs.Rules.{passes, Keeps}
use Rattle.archive_tables.specs.Schema.{archive_schema}
use Rattle.archive_tables.proofs.RunLemmas.{no_action}

-- each rule but the foreign keys holds of what it makes, and each new row has a number and can be stored
pub record IsAccepted (db : Trees) (edit : Edit) : Type 0 where
  pub typed : list_all (passes Datatype archive_schema db edit.table) edit.news ≡ true
  pub present : list_all (passes NotNull archive_schema db edit.table) edit.news ≡ true
  pub checked : list_all (passes Check archive_schema db edit.table) edit.news ≡ true
  pub fresh : are_fresh (left_by db edit) edit.news ≡ true
  pub unique : Keeps Unique archive_schema (with_tree db edit.table.tree (edited db edit))
  pub keyed : have_rowids edit.news ≡ true
  pub numbers : list_all (λ r. fits_i64 (id_in (rowid r))) edit.news ≡ true
  pub referred : is_referred archive_schema Enforced edit ≡ true
  pub small : (row : Row) → Has edit.news row → ¬ IsOversized archive_schema edit.table row

module _ (db : Trees) (edit : Edit) (it : IsAccepted db edit) where
  never_wrong : (why : Refusal) → ¬ IsRefused archive_schema Enforced db edit why
  never_wrong (Violates Datatype) h = let bad = sym it.typed ∙ h in cc
  never_wrong (Violates NotNull) h = let bad = sym it.present ∙ h in cc
  never_wrong (Violates Check) h = let bad = sym it.checked ∙ h in cc
  never_wrong (Violates PrimaryKey) h = let bad = sym it.fresh ∙ h in cc
  never_wrong (Violates Unique) h = h it.unique
  never_wrong (Violates ForeignKey) h = h
  never_wrong Mismatch h = let bad = sym it.keyed ∙ h in cc
  never_wrong NoRowid h = let bad = sym it.numbers ∙ h in cc
  never_wrong BadReference h = let bad = sym it.referred ∙ h in cc
  never_wrong TooDeep h = h

  settled : (n : ℕ) (next : Trees) (why : Option Refusal) → ¬ Leads archive_schema Enforced n next [] (Err why)
  settled zero next why h = let bad = h.1 in cc
  settled (suc n) next why h = omega (arith, ap length h.2, length-append h.0 (h.1 ∷ []))

  never_writes : (why : Option Refusal) → ¬ Writes archive_schema Enforced db edit (Err why)
  never_writes why (inl wrong) = never_wrong wrong.0 wrong.1
  never_writes why (inr (inl big)) = it.small big.0 big.1 big.2
  never_writes why (inr (inr on)) = settled on.2.0 on.0 why (rw (no_action edit.table.tree (taken_by db edit) edit.news) at on.2.1)

  pub never_edits : (stop : Option Error) → ¬ Edited archive_schema Enforced db edit (Err stop)
  never_edits stop h = never_writes h.0 h.1
