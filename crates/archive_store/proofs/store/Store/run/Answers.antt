use Rattle.std.proofs.Common.{rules, vec_len, List, ◌≡◌, ◌⊎◌, inl, inr, ◌++◌, ◌∷◌, [], ◌+◌, map, length, length-append, take, refl, ap, sym, subst, ◌∙◌, arith}
use Rattle.std.proofs.lemmas.List.{length-map, take_all}
use Rattle.sqlite_disk.specs.Disk.{MoreFaults}
use Rattle.sqlite.specs.Effect.{Database}
use Rattle.sqlite.specs.Held.{state}
use Rattle.archive_model.specs.Machine.{step}
use Rattle.archive_model.specs.Runs.{run}
use Rattle.archive_tables.specs.Tables.{archive_of}
use Rattle.archive_tables.proofs.LastLemmas.{lasts_then, lasts_same}
use Rattle.archive_port.specs.Commands.{spec_command}
use Rattle.archive_port.specs.declared.commands.Command.{Command as Given}
use Rattle.archive_port.specs.declared.faults.StoreFault.TheVariants as faults
use Rattle.archive_store.specs.CommandRuns.{outcome_reply, HasRunAllCommands}
use Rattle.archive_store.specs.Refusals.{RowsRefuseNextCommand}
use Rattle.archive_store.proofs.FindLemmas.{more_since}
use Rattle.archive_store.proofs.CrashLemmas.{answered_safe, broken_run, ran_crash}
use Rattle.archive_store.proofs.RunLemmas.{next_archive, ran_first, ran_next, ran_none, ran_stop, run_nothing, stops_run}
use Rattle.archive_store.proofs.StopLemmas.{left_or_failed}
use Rattle.archive_store.proofs.store.Store.run.Goals as goal

pub returns-in-Err : goal.returns-in-Err
returns-in-Err g c =
    let first = state g.S.Store c.args.self.now.conn in
    let none = run_nothing (archive_of first) in record {
      step = λ clean kept up. (kept, none);
      crash = broken_run g.S.Store c.args.self.now.conn c.args.self.now.conn (map spec_command c.args.commands.now) _ 0 (omega arith) (omega arith)
          (λ clean kept safe db may. (archive_of first, (0, omega arith, omega arith, none), safe db may));
      bound = omega arith;
      ends = record {
        remains_open = lasts_same _;
        fault_is_no_refusal = search rules;
        refusals_counted = search rules;
        fault_has_cause = λ clean kept free it. absurd (let bad : faults.Memory ≡ faults.Store = sym c.refuse-fault.ensures.fault ∙ it in cc);
      };
    }

pub loop-command-init : goal.loop-command-init
loop-command-init g c =
    let first = state g.S.Store c.args.self.now.conn in (
      ap length c.in-Ok.ensures.items,
      (λ clean. clean),
      (λ clean kept. subst (λ outcomes. HasRunAllCommands first (run (archive_of first) []) first outcomes) (sym c.in-Ok.ensures.items) (ran_none first kept)),
      lasts_same _,
      omega arith,
      (λ clean kept safe. safe),
    )

pub loop-command-preserved : goal.loop-command-preserved
loop-command-preserved g c =
    let first = state g.S.Store c.args.self.now.conn in
    let mid = state g.S.Store c.loop-command.self.conn in
    let new = state g.S.Store c.carry_out.new.self.conn in
    let o = c.in-Ok-carry_out.outcome in
    let outcomes = c.loop-command.outcomes.items in (
      omega (arith, c.loop-command.invariant.0, ap length c.in-Ok-push.ensures.items, length-append outcomes (o ∷ [])),
      (λ clean. c.loop-command.invariant.1 (c.carry_out.ensures.ends.remains_open.disk_was_clean clean)),
      (λ clean kept.
          let ran = c.loop-command.invariant.2 (c.carry_out.ensures.ends.remains_open.disk_was_clean clean) kept in
          let steps = c.in-Ok-carry_out.ensures.step clean ran.0 in
          ran_next first mid new c.args.commands.now c.loop-command.command-index c.command-item.result outcomes c.push.new.self.items o ran
          c.in-Ok-carry_out.ensures.told steps (omega (arith, c.loop-command-test.true)) c.command-item.is c.in-Ok-push.ensures.items),
      lasts_then _ _ _ c.loop-command.invariant.3 c.carry_out.ensures.ends.remains_open,
      omega (arith, c.loop-command.invariant.4, c.in-Ok-carry_out.ensures.ends.refusals_counted.0),
      (λ clean kept safe.
          let was = c.carry_out.ensures.ends.remains_open.disk_was_clean clean in
          let ran = c.loop-command.invariant.2 was kept in
          answered_safe g.S.Store c.loop-command.self.conn c.carry_out.new.self.conn (λ db up may. g.met.S.Store.settled c.carry_out.new.self.conn.store db up may)
          (λ a. step a (spec_command c.command-item.result)) (outcome_reply o) c.in-Ok-carry_out.ensures.told (c.in-Ok-carry_out.ensures.step clean ran.0)
          (c.carry_out.ensures.crash ran.0) clean (c.loop-command.invariant.5 was kept safe)),
    )

-- a command fails
pub returns-in-Err-carry_out : goal.returns-in-Err-carry_out
returns-in-Err-carry_out g c =
    let first = state g.S.Store c.args.self.now.conn in
    let mid = state g.S.Store c.loop-command.self.conn in
    let new = state g.S.Store c.carry_out.new.self.conn in
    let at = c.loop-command.command-index in
    let d = c.command-item.result in
    let done = c.len.result in
    let commands = c.args.commands.now in
    let lasts = c.carry_out.ensures.ends.remains_open in
    let len : vec_len c.loop-command.outcomes ≡ length c.loop-command.outcomes.items = search rules in
    let done_is : done ≡ at = c.len.ensures ∙ len ∙ c.loop-command.invariant.0 in record {
      step = λ clean kept up.
          let before = c.loop-command.invariant.2 (lasts.disk_was_clean clean) kept in
          let stopped = ran_stop first mid new (map spec_command (take at commands)) c.loop-command.outcomes.items before (c.in-Err-carry_out.ensures.step clean before.0) up in
          (stopped.0, stopped.1 ∙ ran_first (archive_of first) commands done_is);
      crash = broken_run g.S.Store c.args.self.now.conn c.carry_out.new.self.conn (map spec_command commands) _ (done + 1) (omega arith)
          (omega (arith, done_is, length-map commands spec_command, c.loop-command-test.true)) (λ clean kept safe db may.
          let was = lasts.disk_was_clean clean in
          let before = c.loop-command.invariant.2 was kept in
          elim (c.carry_out.ensures.crash before.0 clean db may) [
            | inl earlier ↦ (
              archive_of mid,
              (done, omega arith, omega arith, before.1 ∙ ran_first (archive_of first) commands done_is),
              c.loop-command.invariant.5 was kept safe db earlier,
            )
            | inr next ↦ (
              (step (archive_of mid) (spec_command d)).0,
              (
                done + 1,
                omega arith,
                omega arith,
                next_archive (archive_of first) (archive_of mid) commands at d before.1 (omega (arith, c.loop-command-test.true)) c.command-item.is
                    ∙ ran_first (archive_of first) commands (ap (λ n. n + 1) done_is),
              ),
              next,
            )
          ]);
      bound = omega (arith, done_is, c.loop-command-test.true);
      ends = record {
        remains_open = lasts_then _ _ _ c.loop-command.invariant.3 lasts;
        fault_is_no_refusal = c.in-Err-carry_out.ensures.told;
        refusals_counted = search rules;
        fault_has_cause = λ clean kept free it.
            let before = c.loop-command.invariant.2 (lasts.disk_was_clean clean) kept in
            let Stops : Database → Type 0 = RowsRefuseNextCommand (map spec_command commands) done in
            let free_1 = c.loop-command.invariant.3.step_limit_is_same ∙ free in
            let why : MoreFaults mid.faults new.faults ⊎ Stops new.now = elim (c.in-Err-carry_out.ensures.ends.fault_has_cause clean before.0 free_1 it) [
              | inl more ↦ inl more
              | inr refused ↦ left_or_failed mid new Stops lasts clean before.0.is_open (λ up. (c.in-Err-carry_out.ensures.step clean before.0 up).1)
                  (stops_run commands done at d mid.now done_is (omega (arith, c.loop-command-test.true)) c.command-item.is refused)
            ] in
            elim why [ inl more ↦ inl (more_since first mid new c.loop-command.invariant.3 more) | inr stop ↦ inr stop ];
      };
    }

-- it was carried out, and there is no room for its outcome
pub returns-in-Err-push : goal.returns-in-Err-push
returns-in-Err-push g c =
    let first = state g.S.Store c.args.self.now.conn in
    let mid = state g.S.Store c.loop-command.self.conn in
    let new = state g.S.Store c.carry_out.new.self.conn in
    let at = c.loop-command.command-index in
    let d = c.command-item.result in
    let o = c.in-Ok-carry_out.outcome in
    let outcomes = c.loop-command.outcomes.items in
    let commands = c.args.commands.now in
    let lasts = c.carry_out.ensures.ends.remains_open in
    let len : vec_len c.loop-command.outcomes ≡ length outcomes = search rules in
    let done_is : c.len-done.result ≡ at = c.len-done.ensures ∙ len ∙ c.loop-command.invariant.0 in
    let more = ran_first (archive_of first) commands (ap (λ n. n + 1) done_is) in
    let next = ran_next first mid new commands at d outcomes (outcomes ++ o ∷ []) o in record {
      step = λ clean kept up.
          let before = c.loop-command.invariant.2 (lasts.disk_was_clean clean) kept in
          let ran = next before c.in-Ok-carry_out.ensures.told (c.in-Ok-carry_out.ensures.step clean before.0) (omega (arith, c.loop-command-test.true)) c.command-item.is refl in
          (ran.0, ran.1 ∙ more);
      crash = broken_run g.S.Store c.args.self.now.conn c.carry_out.new.self.conn (map spec_command commands) _ (c.len-done.result + 1) (omega arith)
          (omega (arith, done_is, length-map commands spec_command, c.loop-command-test.true)) (λ clean kept safe db may.
          let was = lasts.disk_was_clean clean in
          let before = c.loop-command.invariant.2 was kept in
          let steps = c.in-Ok-carry_out.ensures.step clean before.0 in
          let ran = next before c.in-Ok-carry_out.ensures.told steps (omega (arith, c.loop-command-test.true)) c.command-item.is refl in
          let last = answered_safe g.S.Store c.loop-command.self.conn c.carry_out.new.self.conn (λ db up may. g.met.S.Store.settled c.carry_out.new.self.conn.store db up may)
          (λ a. step a (spec_command d)) (outcome_reply o) c.in-Ok-carry_out.ensures.told steps (c.carry_out.ensures.crash before.0) clean (c.loop-command.invariant.5 was kept safe) in
          (archive_of new, (c.len-done.result + 1, omega arith, omega arith, ran.1 ∙ more), last db may));
      bound = omega (arith, done_is, c.loop-command-test.true);
      ends = record {
        remains_open = lasts_then _ _ _ c.loop-command.invariant.3 lasts;
        fault_is_no_refusal = search rules;
        refusals_counted = search rules;
        fault_has_cause = λ clean kept free it. absurd (let bad : faults.Memory ≡ faults.Store = sym c.refuse-fault-in-Err-push.ensures.fault ∙ it in cc);
      };
    }

pub returns : goal.returns
returns g c =
    let first = state g.S.Store c.args.self.now.conn in
    let Ran = λ (commands : List Given). HasRunAllCommands first (run (archive_of first) (map spec_command commands)) (state g.S.Store c.loop-command.self.conn) c.loop-command.outcomes.items in
    let all = take_all c.loop-command.command-index c.args.commands.now c.loop-command-test.false in record {
      step = λ clean kept. subst Ran all (c.loop-command.invariant.2 clean kept);
      crash = ran_crash g.S.Store c.args.self.now.conn c.loop-command.self.conn (map spec_command c.args.commands.now) c.loop-command.outcomes
          (λ clean kept. (subst Ran all (c.loop-command.invariant.2 clean kept)).1) c.loop-command.invariant.5;
      bound = tt;
      ends = (let lasts = c.loop-command.invariant.3 in let counted = c.loop-command.invariant.4 in search rules);
    }
