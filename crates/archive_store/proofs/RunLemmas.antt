-- Commands that are carried out one after the other.
use Rattle.std.proofs.Common.{◌≡◌, ◌⊎◌, ℕ, ◌+◌, ◌<◌, suc, true, List, [], ◌∷◌, ◌++◌, length, get_or, take, drop, map, length-take-le, take-append-drop, drop-cons, refl, ap, sym, subst, arith, ◌∙◌}
use Rattle.std.proofs.Common.{Option, Some, None, Result, Ok, Err, IfErr}
use Rattle.std.specs.Prelude.{IsTrue, is_some}
use Rattle.std.proofs.lemmas.List.{length-map, map-append, map_more, take-map}
use Rattle.sqlite.specs.Effect.{Database}
use Rattle.sqlite.specs.Store.{Ghosts}
use Rattle.sqlite.specs.Held.{state}
use Rattle.sqlite.specs.State.{State}
use Rattle.archive_model.specs.Records.{Archive}
use Rattle.archive_model.specs.Commands.{Command, Refusal, CommandReply}
use Rattle.archive_model.specs.Machine.{step}
use Rattle.archive_model.specs.Runs.{run}
use Rattle.archive_tables.specs.Tables.{IsArchiveAtRest, archive_of}
use Rattle.archive_tables.specs.Calls.{FaultKeepsRows}
use Rattle.archive_tables.proofs.EndLemmas.{archive_stays}
use Rattle.archive_store.specs.Held.{store_connection, memory_refusal_count}
use Rattle.archive_store.specs.Replies.{MatchesModelStep}
use Rattle.archive_store.specs.Refusals.{IsCommandRefused, RowsRefuseNextCommand}
use Rattle.archive_port.specs.Commands.{spec_command}
use Rattle.archive_model.specs.declared.found.CommandFacts.{CommandFacts}
use Rattle.archive_store.specs.CommandRuns.{outcome_reply, EndsCommand, HasRunAllCommands}
use Rattle.archive_store.specs.Told.{EndsWrite, DiskHasFailed}
use Rattle.archive_store.specs.declared.store.Store.{Store}
use Rattle.archive_port.specs.declared.faults.StoreFault.{StoreFault}
use Rattle.archive_port.specs.declared.faults.StoreFault.TheVariants as faults
use Rattle.archive_port.proofs.WantLemmas.{raises_carried}
use Rattle.archive_port.specs.declared.commands.Command.{Command as Given}
use Rattle.archive_store.specs.declared.running.Outcome.{Outcome}

-- one command more
pub run_archive : (a : Archive) (cs : List Command) (c : Command) → (run a (cs ++ c ∷ [])).archive ≡ (step (run a cs).archive c).0
unfolding run
run_archive a [] c = refl
run_archive a (d ∷ cs) c = run_archive (step a d).0 cs c

pub run_replies : (a : Archive) (cs : List Command) (c : Command) → (run a (cs ++ c ∷ [])).replies ≡ (run a cs).replies ++ (step (run a cs).archive c).1 ∷ []
unfolding run
run_replies a [] c = refl
run_replies a (d ∷ cs) c = ap (λ rs. (step a d).1 ∷ rs) (run_replies (step a d).0 cs c)

pub ran_none : (s : State) → IsArchiveAtRest s → HasRunAllCommands s (run (archive_of s) []) s []
unfolding run
ran_none s kept = (kept, refl, refl)

pub run_nothing : (a : Archive) → a ≡ (run a []).archive
unfolding run
run_nothing a = refl

pub ran_more : (old mid new : State) (cs : List Command) (c : Command) (outcomes : List Outcome) (o : Outcome)
    → HasRunAllCommands old (run (archive_of old) cs) mid outcomes → is_some (outcome_reply o) ≡ true → MatchesModelStep mid new (λ a. step a c) (outcome_reply o)
    → HasRunAllCommands old (run (archive_of old) (cs ++ c ∷ [])) new (outcomes ++ o ∷ [])
ran_more old mid new cs c outcomes o ran told steps = go (outcome_reply o) refl told steps
  where
    go : (r : Option CommandReply) → outcome_reply o ≡ r → is_some r ≡ true → MatchesModelStep mid new (λ a. step a c) r
        → HasRunAllCommands old (run (archive_of old) (cs ++ c ∷ [])) new (outcomes ++ o ∷ [])
    go None e bad s = absurd (cc)
    go (Some r) e some s =
        let a = archive_of old in
        let same : (r' : CommandReply) → r' ≡ (step (archive_of mid) c).1 → r' ≡ (step (run a cs).archive c).1 = λ r' h. h ∙ ap (λ x. (step x c).1) ran.1 in (
          s.0,
          ap (λ p. p.0) s.1 ∙ ap (λ x. (step x c).0) ran.1 ∙ sym (run_archive a cs c),
          map-append outcome_reply outcomes (o ∷ []) ∙ ap (λ xs. xs ++ outcome_reply o ∷ []) ran.2
              ∙ ap (λ x. map Some (run a cs).replies ++ x ∷ []) (e ∙ ap Some (same r (ap (λ p. p.1) s.1)))
              ∙ sym (map-append Some (run a cs).replies ((step (run a cs).archive c).1 ∷ [])) ∙ ap (map Some) (sym (run_replies a cs c)),
        )

-- a command that is stopped leaves what those before it made
pub ran_stop : (old mid new : State) (cs : List Command) (outcomes : List Outcome) → HasRunAllCommands old (run (archive_of old) cs) mid outcomes → FaultKeepsRows mid new
    → IsTrue new.is_open → IsArchiveAtRest new × (archive_of new ≡ (run (archive_of old) cs).archive)
ran_stop old mid new cs outcomes ran rests up = let r = rests up in (r.0, archive_stays r.1 ∙ ran.1)

pub ran_next : (old mid new : State) (commands : List Given) (i : ℕ) (d : Given) (outcomes outcomes' : List Outcome) (o : Outcome)
    → HasRunAllCommands old (run (archive_of old) (map spec_command (take i commands))) mid outcomes → is_some (outcome_reply o) ≡ true
    → MatchesModelStep mid new (λ a. step a (spec_command d)) (outcome_reply o) → i < length commands → d ≡ get_or commands i d → outcomes' ≡ outcomes ++ o ∷ []
    → HasRunAllCommands old (run (archive_of old) (map spec_command (take (i + 1) commands))) new outcomes'
ran_next old mid new commands i d outcomes outcomes' o ran told steps within is kept =
    subst (λ cs. HasRunAllCommands old (run (archive_of old) cs) new outcomes')
    (sym (map_more spec_command commands i d within ∙ ap (λ x. map spec_command (take i commands) ++ spec_command x ∷ []) (sym is)))
    (rw kept (ran_more old mid new (map spec_command (take i commands)) (spec_command d) outcomes o ran told steps))

-- what the next command makes of what those before it made
pub next_archive : (a b : Archive) (commands : List Given) (i : ℕ) (d : Given) → b ≡ (run a (map spec_command (take i commands))).archive → i < length commands → d ≡ get_or commands i d
    → (step b (spec_command d)).0 ≡ (run a (map spec_command (take (i + 1) commands))).archive
next_archive a b commands i d made within is =
    ap (λ x. (step x (spec_command d)).0) made ∙ sym (run_archive a (map spec_command (take i commands)) (spec_command d))
    ∙ ap (λ cs. (run a cs).archive) (sym (map_more spec_command commands i d within ∙ ap (λ x. map spec_command (take i commands) ++ spec_command x ∷ []) (sym is)))

-- the same commands, taken before they are told
pub ran_first : (a : Archive) (commands : List Given) {n i : ℕ} → n ≡ i → (run a (map spec_command (take i commands))).archive ≡ (run a (take n (map spec_command commands))).archive
ran_first a commands {i = i} is = ap (λ cs. (run a cs).archive) (sym (ap (λ k. take k (map spec_command commands)) is ∙ take-map spec_command i commands))

-- ---- why a command stops

told_on : {A B : Type 0} (X : Type 0) (answer : Result A StoreFault) (result : Result B StoreFault) → IfErr result (λ fault. answer ≡ Err fault)
    → IfErr answer (λ fault. fault ≡ faults.Store → X) → IfErr result (λ fault. fault ≡ faults.Store → X)
told_on X answer (Ok b) is why = tt
told_on {A = A} X answer (Err fault) is why = subst (λ (r : Result A StoreFault). IfErr r (λ f. f ≡ faults.Store → X)) is why

-- a command that was carried out
pub ends_told : {S : Type 0} (g : Ghosts S) (old new : Store S) (command : Command) (answer : Result CommandFacts StoreFault) (result : Result Outcome StoreFault)
    → IfErr result (λ fault. answer ≡ Err fault) → (reasons : List Refusal) → EndsWrite g old new answer reasons (IsCommandRefused command) → EndsCommand g old new command result
ends_told g old new command answer result told reasons ends = record {
  remains_open = ends.remains_open;
  refusals_counted = raises_carried (memory_refusal_count old) (memory_refusal_count new) result answer told ends.refusals_counted;
  fault_has_cause = λ clean kept free. told_on (DiskHasFailed g old new ⊎ IsCommandRefused command (state g (store_connection old)).now) answer result told (ends.fault_has_cause clean kept free);
}

-- the next of the commands is refused
pub stops_run : (commands : List Given) (done i : ℕ) (given : Given) (db : Database) → done ≡ i → i < length commands → given ≡ get_or commands i given
    → IsCommandRefused (spec_command given) db → RowsRefuseNextCommand (map spec_command commands) done db
stops_run commands done i given db at within is refused = record {
  commands_before = map spec_command (take i commands);
  command = spec_command given;
  commands_after = map spec_command (drop (suc i) commands);
  commands_are =
      let whole = ap (λ x. take i commands ++ x ∷ drop (suc i) commands) is ∙ ap (λ xs. take i commands ++ xs) (sym (drop-cons commands i given within)) ∙ take-append-drop i commands in
      sym (map-append spec_command (take i commands) (given ∷ drop (suc i) commands)) ∙ ap (map spec_command) whole;
  done_is_count = length-map (take i commands) spec_command ∙ length-take-le i commands (omega (arith, within)) ∙ sym at;
  is_refused = refused;
}
