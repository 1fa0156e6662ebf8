use Rattle.std.proofs.Common.{pos, inl, [], ◌∷◌}
use Rattle.archive_tables.specs.Schema.{archive_schema}
use Rattle.archive_tables.specs.Statements.{create_address_statement, update_version_statement}
use Rattle.archive_tables.proofs.CauseLemmas.{answers_none}
use Rattle.archive_tables.proofs.CrashLemmas.{is_within}
use Rattle.archive_database.proofs.CauseLemmas.{on_err}
use Rattle.archive_database.proofs.StepsLemmas.{Within, older_leads, moves, then_leads, fails, commit_stops, commit_ends, commit_adds, done_ends, fails_ends}
use Rattle.archive_database.proofs.making.move_tables.Goals as goal

pub returns-in_err-move_options : goal.returns-in_err-move_options
returns-in_err-move_options g c =
    let options = c.in_err-move_options.ensures in
    let exit = c.from_residual in
    let all = fails (Within archive_schema) (older_leads c.args.number options.ends options.within options.stopped options.quiet) (create_address_statement ∷ update_version_statement ∷ [])
    exit.result exit.ensures.1 in
    record {
      moved = λ clean older before archive moving. answers_none exit.result _ _ exit.ensures.1;
      stopped = λ clean older before k. all.stopped clean before (older, k);
      crash = λ older before archive moving clean db may. inl (all.quiet before (older, is_within _ _ _ _ _ _ moving) clean db may);
      ends = all.ends;
    }

pub returns-in_err-create_address_table : goal.returns-in_err-create_address_table
returns-in_err-create_address_table g c =
    let options = c.in_ok-move_options.ensures in
    let address = c.in_err-create_address_table.ensures in
    let exit = c.from_residual-in_err-create_address_table in
    let all = then_leads (older_leads c.args.number options.ends options.within options.stopped options.quiet)
    (fails (Within archive_schema) (moves archive_schema address.ends address.within address.quiet) (update_version_statement ∷ []) exit.result exit.ensures.1) in
    record {
      moved = λ clean older before archive moving. answers_none exit.result _ _ exit.ensures.1;
      stopped = λ clean older before k. all.stopped clean before (older, k);
      crash = λ older before archive moving clean db may. inl (all.quiet before (older, is_within _ _ _ _ _ _ moving) clean db may);
      ends = all.ends;
    }

pub returns-in_err-set_version : goal.returns-in_err-set_version
returns-in_err-set_version g c =
    let options = c.in_ok-move_options.ensures in
    let address = c.in_ok-create_address_table.ensures in
    let version = c.in_err-set_version.ensures in
    let exit = c.from_residual-in_err-set_version in
    let all = then_leads (older_leads c.args.number options.ends options.within options.stopped options.quiet) (then_leads (moves archive_schema address.ends address.within address.quiet)
    (fails (Within archive_schema) (moves archive_schema version.ends version.within version.quiet) [] exit.result exit.ensures.1)) in
    record {
      moved = λ clean older before archive moving. answers_none exit.result _ _ exit.ensures.1;
      stopped = λ clean older before k. all.stopped clean before (older, k);
      crash = λ older before archive moving clean db may. inl (all.quiet before (older, is_within _ _ _ _ _ _ moving) clean db may);
      ends = all.ends;
    }

pub returns-in_err-commit : goal.returns-in_err-commit
returns-in_err-commit g c =
    let options = c.in_ok-move_options.ensures in
    let address = c.in_ok-create_address_table.ensures in
    let version = c.in_ok-set_version.ensures in
    let commit = c.in_err-commit.ensures.ends in
    let exit = c.from_residual-in_err-commit in
    let said = pos c.args.number in
    let all = then_leads (older_leads c.args.number options.ends options.within options.stopped options.quiet)
    (then_leads (moves archive_schema address.ends address.within address.quiet) (moves archive_schema version.ends version.within version.quiet)) in
    record {
      moved = λ clean older before archive moving. answers_none exit.result _ _ exit.ensures.1;
      stopped = λ clean older before k. on_err exit.result _ (commit_stops all (λ before k. k) commit clean before (older, k));
      crash = λ older before archive moving. commit_adds all (λ before k. k) commit before archive (older, is_within _ _ _ _ _ _ moving) (λ clean.
          let clean_1 = version.ends.remains_open.disk_was_clean clean in
          let options_moved = options.moved (address.ends.remains_open.disk_was_clean clean_1) older before archive moving in
          version.moved clean before said archive (address.moved clean_1 before said archive options_moved));
      ends = fails_ends (commit_ends all (λ before k. k) commit) exit.result exit.ensures.1;
    }

pub returns : goal.returns
returns g c =
    let options = c.in_ok-move_options.ensures in
    let address = c.in_ok-create_address_table.ensures in
    let version = c.in_ok-set_version.ensures in
    let commit = c.in_ok-commit.ensures in
    let said = pos c.args.number in
    let all = then_leads (older_leads c.args.number options.ends options.within options.stopped options.quiet)
    (then_leads (moves archive_schema address.ends address.within address.quiet) (moves archive_schema version.ends version.within version.quiet)) in
    record {
      moved = λ clean older before archive moving.
          let clean_2 = commit.ends.remains_open.disk_was_clean clean in
          let clean_1 = version.ends.remains_open.disk_was_clean clean_2 in
          let options_moved = options.moved (address.ends.remains_open.disk_was_clean clean_1) older before archive moving in
          commit.kept clean before archive (version.moved clean_2 before said archive (address.moved clean_1 before said archive options_moved));
      stopped = λ clean older before k. tt;
      crash = λ older before archive moving. commit_adds all (λ before k. k) commit.ends before archive (older, is_within _ _ _ _ _ _ moving) (λ clean.
          let clean_1 = version.ends.remains_open.disk_was_clean clean in
          let options_moved = options.moved (address.ends.remains_open.disk_was_clean clean_1) older before archive moving in
          version.moved clean before said archive (address.moved clean_1 before said archive options_moved));
      ends = done_ends (commit_ends all (λ before k. k) commit.ends);
    }
