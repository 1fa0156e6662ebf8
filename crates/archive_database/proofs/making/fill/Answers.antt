use Rattle.std.proofs.Common.{[], ◌++◌, inl}
use Rattle.archive_tables.specs.Schema.{empty_schema, schema_with_persons, schema_with_messages, schema_1}
use Rattle.archive_tables.specs.Making.{empty_archive}
use Rattle.archive_tables.specs.Statements.{second_create_statements, create_index_statements, last_create_statements}
use Rattle.archive_tables.proofs.CauseLemmas.{answers_none}
use Rattle.archive_tables.proofs.CrashLemmas.{is_within}
use Rattle.archive_database.proofs.CauseLemmas.{on_err}
use Rattle.archive_database.proofs.StepsLemmas.{Creating, Ready, Kept, leads, then_leads, fails, commit_stops, commit_ends, commit_adds, done_ends, fails_ends}
use Rattle.archive_database.proofs.making.fill.Goals as goal

pub returns-in_err-make_first : goal.returns-in_err-make_first
returns-in_err-make_first g c =
    let first = c.in_err-make_first.ensures in
    let all = fails Kept (leads empty_schema (Creating schema_with_persons) first.ends first.made first.stopped first.quiet)
    (second_create_statements ++ create_index_statements ++ last_create_statements) c.from_residual.result c.from_residual.ensures.1 in
    record { kept = all.made; stopped = all.stopped; crash = λ before making clean db may. inl (all.quiet before making clean db may); ends = all.ends }

pub returns-in_err-make_second : goal.returns-in_err-make_second
returns-in_err-make_second g c =
    let first = c.in_ok-make_first.ensures in
    let second = c.in_err-make_second.ensures in
    let exit = c.from_residual-in_err-make_second in
    let all = then_leads (leads empty_schema (Creating schema_with_persons) first.ends first.made first.stopped first.quiet)
    (fails Kept (leads schema_with_persons (Creating schema_with_messages) second.ends second.made second.stopped second.quiet) (create_index_statements ++ last_create_statements)
    exit.result exit.ensures.1) in
    record { kept = all.made; stopped = all.stopped; crash = λ before making clean db may. inl (all.quiet before making clean db may); ends = all.ends }

pub returns-in_err-make_indexes : goal.returns-in_err-make_indexes
returns-in_err-make_indexes g c =
    let first = c.in_ok-make_first.ensures in
    let second = c.in_ok-make_second.ensures in
    let indexes = c.in_err-make_indexes.ensures in
    let exit = c.from_residual-in_err-make_indexes in
    let all = then_leads (leads empty_schema (Creating schema_with_persons) first.ends first.made first.stopped first.quiet)
    (then_leads (leads schema_with_persons (Creating schema_with_messages) second.ends second.made second.stopped second.quiet)
    (fails Kept (leads schema_with_messages (Creating schema_1) indexes.ends indexes.made indexes.stopped indexes.quiet) last_create_statements exit.result exit.ensures.1)) in
    record { kept = all.made; stopped = all.stopped; crash = λ before making clean db may. inl (all.quiet before making clean db may); ends = all.ends }

pub returns-in_err-make_later : goal.returns-in_err-make_later
returns-in_err-make_later g c =
    let first = c.in_ok-make_first.ensures in
    let second = c.in_ok-make_second.ensures in
    let indexes = c.in_ok-make_indexes.ensures in
    let later = c.in_err-make_later.ensures in
    let exit = c.from_residual-in_err-make_later in
    let all = then_leads (leads empty_schema (Creating schema_with_persons) first.ends first.made first.stopped first.quiet)
    (then_leads (leads schema_with_persons (Creating schema_with_messages) second.ends second.made second.stopped second.quiet)
    (then_leads (leads schema_with_messages (Creating schema_1) indexes.ends indexes.made indexes.stopped indexes.quiet)
    (fails Kept (leads schema_1 Ready later.ends later.made later.stopped later.quiet) [] exit.result exit.ensures.1))) in
    record { kept = all.made; stopped = all.stopped; crash = λ before making clean db may. inl (all.quiet before making clean db may); ends = all.ends }

pub returns-in_err-commit : goal.returns-in_err-commit
returns-in_err-commit g c =
    let first = c.in_ok-make_first.ensures in
    let second = c.in_ok-make_second.ensures in
    let indexes = c.in_ok-make_indexes.ensures in
    let later = c.in_ok-make_later.ensures in
    let commit = c.in_err-commit.ensures.ends in
    let exit = c.from_residual-in_err-commit in
    let all = then_leads (leads empty_schema (Creating schema_with_persons) first.ends first.made first.stopped first.quiet)
    (then_leads (leads schema_with_persons (Creating schema_with_messages) second.ends second.made second.stopped second.quiet)
    (then_leads (leads schema_with_messages (Creating schema_1) indexes.ends indexes.made indexes.stopped indexes.quiet) (leads schema_1 Ready later.ends later.made later.stopped later.quiet))) in
    record {
      kept = λ clean before k. answers_none exit.result _ _ exit.ensures.1;
      stopped = λ clean before k. on_err exit.result _ (commit_stops all (λ before made. is_within _ _ _ _ _ _ made) commit clean before k);
      crash = λ before k. commit_adds all (λ before made. is_within _ _ _ _ _ _ made) commit before empty_archive k (λ clean. all.made clean before k);
      ends = fails_ends (commit_ends all (λ before made. is_within _ _ _ _ _ _ made) commit) exit.result exit.ensures.1;
    }

pub returns : goal.returns
returns g c =
    let first = c.in_ok-make_first.ensures in
    let second = c.in_ok-make_second.ensures in
    let indexes = c.in_ok-make_indexes.ensures in
    let later = c.in_ok-make_later.ensures in
    let commit = c.in_ok-commit.ensures in
    let all = then_leads (leads empty_schema (Creating schema_with_persons) first.ends first.made first.stopped first.quiet)
    (then_leads (leads schema_with_persons (Creating schema_with_messages) second.ends second.made second.stopped second.quiet)
    (then_leads (leads schema_with_messages (Creating schema_1) indexes.ends indexes.made indexes.stopped indexes.quiet) (leads schema_1 Ready later.ends later.made later.stopped later.quiet))) in
    record {
      kept = λ clean before k. commit.kept clean before empty_archive (all.made (commit.ends.remains_open.disk_was_clean clean) before k);
      stopped = λ clean before k. tt;
      crash = λ before k. commit_adds all (λ before made. is_within _ _ _ _ _ _ made) commit.ends before empty_archive k (λ clean. all.made clean before k);
      ends = done_ends (commit_ends all (λ before made. is_within _ _ _ _ _ _ made) commit.ends);
    }
