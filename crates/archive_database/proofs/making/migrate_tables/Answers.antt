use Rattle.std.proofs.Common.{inl, rules}
use Rattle.sqlite.specs.Held.{state}
use Rattle.archive_tables.proofs.LastLemmas.{lasts_same}
use Rattle.archive_database.specs.Adopting.{IsAdoptionRefused}
use Rattle.archive_database.proofs.MakingLemmas.{told_version, told_none, idle_form, migrates}
use Rattle.archive_database.proofs.StepsLemmas.{passes}
use Rattle.archive_database.proofs.making.migrate_tables.Goals as goal

pub returns-clause-migrated : goal.returns-clause-migrated
returns-clause-migrated g c = migrates g.S.Store c.args.conn.now c.bring_over.new.conn c.bring_over.result (search rules) (search rules) (search rules) (search rules)

pub returns-in_default-clause-ends : goal.returns-in_default-clause-ends
returns-in_default-clause-ends g c =
    let old = state g.S.Store c.args.conn.now in
    record {
      remains_open = lasts_same old;
      was_open = λ clean. tt;
      fault_has_cause = λ clean it free why. absurd (told_none old.now.schema it.1 c.version_of_objects.result c.version_of_objects.ensures.own (search rules));
    }

pub returns-in_err-check_version-clause-ends : goal.returns-in_err-check_version-clause-ends
returns-in_err-check_version-clause-ends g c =
    let old = state g.S.Store c.args.conn.now in
    let new = state g.S.Store c.check_version.new.conn in
    record {
      remains_open = c.check_version.ensures.ends.remains_open;
      was_open = λ clean. search rules;
      fault_has_cause = λ clean it free.
          let told = told_version old.now.schema it.1 c.version_of_objects.result c.version_of_objects.ensures.own c.in-Some.number (search rules) in
          passes old new c.from_residual.result c.in_err-check_version.field-0.0 _ (IsAdoptionRefused old.now) (search rules)
          (λ no. inl (c.in-Some.number, told.0, told.1, no)) (c.in_err-check_version.ensures.ends.fault_has_cause clean (told.0, idle_form c.in-Some.number old it.0 told.1) free);
    }
