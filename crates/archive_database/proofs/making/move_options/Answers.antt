use Rattle.std.proofs.Common.{◌≡◌, ℕ, pos, subst, [], ◌∷◌}
use Rattle.sqlite.specs.Held.{state}
use Rattle.archive_tables.specs.Schema.{schema_2, schema_of_version}
use Rattle.archive_tables.specs.Statements.{backfill_options_statement}
use Rattle.archive_tables.specs.Making.{IsMigratingTables}
use Rattle.archive_tables.proofs.CauseLemmas.{answers_none}
use Rattle.archive_database.proofs.StepsLemmas.{Within, WithinOlder, one_leads, moves, then_leads, done, fails, from_first, same_ends}
use Rattle.archive_database.proofs.making.move_options.Goals as goal

pub returns-then-number-ne1-clause-quiet : goal.returns-then-number-ne1-clause-quiet
returns-then-number-ne1-clause-quiet g c = λ older before within clean db may. may

pub returns-then-number-ne1-clause-ends : goal.returns-then-number-ne1-clause-ends
returns-then-number-ne1-clause-ends g c = same_ends c.args.conn.now c.args.number _ c.if-number-ne1.true

pub returns-in_err-create_option_table : goal.returns-in_err-create_option_table
returns-in_err-create_option_table g c =
    let option = c.in_err-create_option_table.ensures in
    let exit = c.from_residual in
    let all = from_first c.args.number c.if-number-ne1.false
    (fails (Within schema_2) (one_leads (WithinOlder 1) (Within schema_2) option.ends (λ before k. k.1) (λ clean before k. option.within clean before k.1) option.quiet)
    (backfill_options_statement ∷ []) exit.result exit.ensures.1) in
    record {
      moved = λ clean older before archive moving. answers_none exit.result _ _ exit.ensures.1;
      within = λ clean older before k. all.made clean before (older, k);
      stopped = λ clean older before k. all.stopped clean before (older, k);
      quiet = λ older before k. all.quiet before (older, k);
      ends = all.ends;
    }

pub returns-in_err-copy_options : goal.returns-in_err-copy_options
returns-in_err-copy_options g c =
    let option = c.in_ok-create_option_table.ensures in
    let copy = c.in_err-copy_options.ensures in
    let exit = c.from_residual-in_err-copy_options in
    let all = from_first c.args.number c.if-number-ne1.false
    (then_leads (one_leads (WithinOlder 1) (Within schema_2) option.ends (λ before k. k.1) (λ clean before k. option.within clean before k.1) option.quiet)
    (fails (Within schema_2) (moves schema_2 copy.ends copy.within copy.quiet) [] exit.result exit.ensures.1)) in
    record {
      moved = λ clean older before archive moving. answers_none exit.result _ _ exit.ensures.1;
      within = λ clean older before k. all.made clean before (older, k);
      stopped = λ clean older before k. all.stopped clean before (older, k);
      quiet = λ older before k. all.quiet before (older, k);
      ends = all.ends;
    }

pub returns : goal.returns
returns g c =
    let option = c.in_ok-create_option_table.ensures in
    let copy = c.in_ok-copy_options.ensures in
    let first : c.args.number ≡ 1 = c.if-number-ne1.false in
    let said = pos c.args.number in
    let all = from_first c.args.number first
    (then_leads (one_leads (WithinOlder 1) (Within schema_2) option.ends (λ before k. k.1) (λ clean before k. option.within clean before k.1) option.quiet)
    (done (moves schema_2 copy.ends copy.within copy.quiet))) in
    record {
      moved = λ clean older before archive moving.
          let start = subst (λ (n : ℕ). IsMigratingTables (state g.S.Store c.args.conn.now) before (schema_of_version n) said n archive) first moving in
          let made = option.moved (copy.ends.remains_open.disk_was_clean clean) before said archive start in
          copy.moved clean before said archive made.0 made.1;
      within = λ clean older before k. all.made clean before (older, k);
      stopped = λ clean older before k. tt;
      quiet = λ older before k. all.quiet before (older, k);
      ends = all.ends;
    }
