use Rattle.std.proofs.Common.{rules, sym, subst, ◌∙◌, ◌⊎◌, inl, inr, None}
use Rattle.std.proofs.lemmas.Result.{IfOk-at_ok, IfErr-at_err}
use Rattle.sqlite.specs.Held.{state}
use Rattle.sqlite.specs.State.{HasCleanDisk}
use Rattle.sqlite_disk.specs.Disk.{MoreFaults}
use Rattle.archive_tables.specs.Making.{IsRolledBackIfOpen}
use Rattle.archive_database.specs.Adopting.{MayBeAdopted, IsAdoptionRefused, IsMigrated, IsNotMigrated}
use Rattle.archive_database.proofs.MakingLemmas.{newest_archive_kept, newest_rows_kept}
use Rattle.archive_store.proofs.AdoptLemmas.{refused_by, has_version}
use Rattle.archive_store.proofs.FindLemmas.{is_database}
use Rattle.archive_store.proofs.CrashLemmas.{adopts_as, adopts_at, none_held}
use Rattle.archive_store.proofs.store.Store.adopt.Goals.{then-is_empty_database, else-is_empty_database}
use Rattle.archive_store.proofs.store.Store.adopt.Goals as goal

pub returns-in-Ok-clause-adopted : goal.returns-in-Ok-clause-adopted
returns-in-Ok-clause-adopted g c =
    elim c.if-is_empty_database.branch [
      | then-is_empty_database w ↦
          let objects : MayBeAdopted (state g.S.Store c.args.connection).now.schema = inl (c.is_empty_database.ensures.0 w.if-is_empty_database.true) in
          let stop = adopts_as g.S.Store c.args.connection w.make_tables-done.new.conn c.if-is_empty_database.conn c.set_step_limit.new.self None w.conn-is c.set_step_limit.ensures
          (record {
            makes_if_empty = w.make_tables-done.ensures.crash;
            migrates_older = λ number known held. absurd (none_held number (state g.S.Store c.args.connection) (c.is_empty_database.ensures.0 w.if-is_empty_database.true) held);
          }) in
          search rules
      | else-is_empty_database w ↦
          let migrated = IfOk-at_ok (λ _. IsMigrated g.S.Store c.args.connection w.migrate_tables-done.new.conn) (sym w.done-is ∙ c.in-Ok.is) w.migrate_tables-done.ensures.migrated in
          let same = newest_archive_kept g.S.Store c.args.connection w.migrate_tables-done.new.conn migrated in
          let stop = adopts_as g.S.Store c.args.connection w.migrate_tables-done.new.conn c.if-is_empty_database.conn c.set_step_limit.new.self None w.conn-is c.set_step_limit.ensures
          (record {
            makes_if_empty = λ empty. absurd (let is = c.is_empty_database.ensures.1 empty in let none = w.if-is_empty_database.false in cc);
            migrates_older = w.migrate_tables-done.ensures.crash;
          }) in
          search rules
    ]

pub returns-in-Err-clause-refused : goal.returns-in-Err-clause-refused
returns-in-Err-clause-refused g c =
    elim c.if-is_empty_database.branch [
      | then-is_empty_database w ↦ record {
        keeps_rows = search rules;
        new_tables_are_undone = search rules;
        rows_restored = search rules;
        foreign_is_untouched = search rules;
        foreign_fault_is_store = search rules;
        fault_has_cause = λ clean idle understood free store.
            let old = state g.S.Store c.args.connection in
            let clean_1 = subst (λ h. HasCleanDisk (state g.S.Store h)) w.conn-is clean in
            let premise = c.is_empty_database.ensures.0 w.if-is_empty_database.true in
            let why = refused_by old (state g.S.Store w.make_tables-done.new.conn) _ c.in-Err.fault _ (sym w.done-is ∙ c.in-Err.is)
            (w.make_tables-done.ensures.ends.fault_has_cause clean_1 (idle, premise) free) (is_database _ (search rules)) in
            subst (λ h. MoreFaults old.faults (state g.S.Store h).faults ⊎ IsAdoptionRefused old.now) (sym w.conn-is) (elim why [ inl more ↦ inl more | inr refused ↦ absurd refused ]);
        fault_is_no_refusal = search rules;
        refusal_is_counted = search rules;
        disk_was_clean = search rules;
        crash = adopts_at g.S.Store c.args.connection w.make_tables-done.new.conn c.if-is_empty_database.conn w.conn-is
            (record {
              makes_if_empty = w.make_tables-done.ensures.crash;
              migrates_older = λ number known held. absurd
                  (none_held number (state g.S.Store c.args.connection) (c.is_empty_database.ensures.0 w.if-is_empty_database.true) held);
            });
        remains_open = search rules;
      }
      | else-is_empty_database w ↦
          let left = IfErr-at_err (λ fault. IsNotMigrated g.S.Store c.args.connection w.migrate_tables-done.new.conn fault) (sym w.done-is ∙ c.in-Err.is) w.migrate_tables-done.ensures.refused in
          record {
            keeps_rows = let kept = newest_rows_kept g.S.Store c.args.connection w.migrate_tables-done.new.conn left in search rules;
            new_tables_are_undone = search rules;
            rows_restored = λ clean idle understood.
                let old = state g.S.Store c.args.connection in
                let clean_1 = subst (λ h. HasCleanDisk (state g.S.Store h)) w.conn-is clean in
                let premise = has_version (λ empty. let is = c.is_empty_database.ensures.1 empty in let none = w.if-is_empty_database.false in cc) understood in
                subst (λ h. IsRolledBackIfOpen (state g.S.Store h) old.now) (sym w.conn-is) (left.rows_restored clean_1 idle premise);
            foreign_is_untouched = search rules;
            foreign_fault_is_store = search rules;
            fault_has_cause = λ clean idle understood free store.
                let old = state g.S.Store c.args.connection in
                let clean_1 = subst (λ h. HasCleanDisk (state g.S.Store h)) w.conn-is clean in
                let premise = has_version (λ empty. let is = c.is_empty_database.ensures.1 empty in let none = w.if-is_empty_database.false in cc) understood in
                let why = refused_by old (state g.S.Store w.migrate_tables-done.new.conn) _ c.in-Err.fault _ (sym w.done-is ∙ c.in-Err.is)
                (w.migrate_tables-done.ensures.ends.fault_has_cause clean_1 (idle, premise) free) (is_database _ (search rules)) in
                subst (λ h. MoreFaults old.faults (state g.S.Store h).faults ⊎ IsAdoptionRefused old.now) (sym w.conn-is) why;
            fault_is_no_refusal = search rules;
            refusal_is_counted = search rules;
            disk_was_clean = search rules;
            crash = adopts_at g.S.Store c.args.connection w.migrate_tables-done.new.conn c.if-is_empty_database.conn w.conn-is
                (record {
                  makes_if_empty = λ empty. absurd (let is = c.is_empty_database.ensures.1 empty in let none = w.if-is_empty_database.false
                      in cc);
                  migrates_older = w.migrate_tables-done.ensures.crash;
                });
            remains_open = search rules;
          }
    ]
