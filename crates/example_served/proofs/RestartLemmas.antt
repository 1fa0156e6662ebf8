-- From four runs, one after the other, to one archive, out of which both servers answered and in which the withdrawn message is hidden.
use Rattle.std.proofs.Common.{◌≡◌, ◌≢◌, ◌<◌, ◌∙◌, inl, inr, ap, subst, sym, refl, ℕ, ℤ, false, List, [], ◌∷◌, Ok}
use Rattle.std.specs.List.{AllByRecursion}
use Rattle.std.proofs.lemmas.List.Elements.{All-nil}
use Rattle.archive_port.specs.declared.state.ArchiveState.{Ghosts}
use Rattle.policy_core.specs.Numbers.{withdrawn_by_number}
use Rattle.policy_core.specs.Rules.{Rule}
use Rattle.policy_core.specs.declared.access.Withdrawn.{Withdrawn}
use Rattle.policy_core.specs.declared.access.Withdrawn.TheVariants.{No}
use Rattle.policy_core.specs.declared.access.WithdrawnBy.{WithdrawnBy}
use Rattle.policy_core.specs.declared.access.WithdrawnBy.TheVariants.{Author, Board}
use Rattle.archive_model.specs.Records.{Archive}
use Rattle.archive_model.specs.Commands.{done, withdraw as withdrawal}
use Rattle.archive_model.specs.Lasting.{ends_withdrawal}
use Rattle.archive_model.specs.Machine.{StepOutcome, step}
use Rattle.archive_model.specs.Messages.{withdrawal_number}
use Rattle.archive_model.specs.Runs.{run}
use Rattle.archive_results.specs.Promise.{DeniesWithdrawnBy}
use Rattle.archive_pages.specs.Laws.{IsHiddenInReplies, StaysAsIfItNeverCame}
use Rattle.archive_listen.specs.Connections.{ConnectionResult, Exchange}
use Rattle.archive_serve.specs.Runs.{ExchangesAreAnsweredWithCause}
use Rattle.archive_args.specs.Values.{ServeValues}
use Rattle.archive_args.specs.declared.orders.Order.TheVariants.{Table, Import}
use Rattle.archive_run.specs.Holding.{HasServed, RunsOrderOnArchive}
use Rattle.archive_port.specs.Remembering.{ClosedDatabaseHoldsArchive, OpenedStoreHoldsArchive, UnopenedDatabaseHoldsArchive}
use Rattle.archive_run.specs.Runs.{RunsOrder}
use Rattle.archive_run.specs.Environments.{DeviceContracts}
use Rattle.archive_run.specs.declared.world.Environment.{Environment}
use Rattle.archive_life.specs.Peers.{HiddenMessageReachesNoPeer}
use Rattle.archive_life.specs.Restarts.{AnswersConnectionsFrom}
use Rattle.archive_life.specs.Sequences.{state_withdrawn_by}
use Rattle.example_served.specs.Publishing.{import_args_of, serve_args_of, withdraw_args_of}
use Rattle.example_served.specs.Restarting.{AnswersAndHidesMessage, HidesMessageFromClient, IsTrustedServer, PublishesOverRestarts, RestartedPublishing, ServerEnds, ServerHidesMessage}
use Rattle.example_served.specs.Restarting.{second_serve_args_of}
use Rattle.example_served.proofs.PublishLemmas.{archive_made}
use Rattle.example_served.proofs.ServerLemmas.{server_leaves}

-- ---- an archive out of which a message was withdrawn

number_is : (by : WithdrawnBy) → withdrawn_by_number by ≡ withdrawal_number (state_withdrawn_by by)
number_is Author = refl
number_is Board = refl

is_withdrawn : (by : WithdrawnBy) → state_withdrawn_by by ≢ No
is_withdrawn Author = λ same. cc
is_withdrawn Board = λ same. cc

none_run : (a : Archive) → (run a []).archive ≡ a
unfolding run
none_run a = refl

hidden : StaysAsIfItNeverCame → (list key : List ℕ) (by : WithdrawnBy) (before archive : Archive) → (archive, done) ≡ step before (withdrawal list key (withdrawn_by_number by))
    → IsHiddenInReplies (DeniesWithdrawnBy (state_withdrawn_by by)) archive list key
hidden stays list key by before archive made =
    let party = state_withdrawn_by by in
    let same : (archive, done) ≡ step before (withdrawal list key (withdrawal_number party)) =
    subst (λ (n : ℤ). (archive, done) ≡ step before (withdrawal list key n)) (number_is by) made in
    let is_done : (step before (withdrawal list key (withdrawal_number party))).1 ≡ done = ap (λ (o : StepOutcome). o.1) (sym same) in
    let is : (step before (withdrawal list key (withdrawal_number party))).0 ≡ archive = ap (λ (o : StepOutcome). o.0) (sym same) in
    subst (λ (a : Archive). IsHiddenInReplies (DeniesWithdrawnBy party) a list key)
    (none_run (step before (withdrawal list key (withdrawal_number party))).0 ∙ is)
    (stays before list key party [] (is_withdrawn by) is_done (All-nil (λ command. ends_withdrawal list key command ≡ false)))

-- ---- what went to each client

module _ {S W : Type 0} (g : Ghosts S W) (by : Withdrawn) (archive : Archive) (rules : List Rule) (day : ℤ) (list key : List ℕ) (reaches : HiddenMessageReachesNoPeer)
    (hides : IsHiddenInReplies (DeniesWithdrawnBy by) archive list key) (first : S) where
  each_hides : (old new : S) (outcomes : List ConnectionResult) (all : List Exchange) → ExchangesAreAnsweredWithCause g archive rules day first old new outcomes all
      → AllByRecursion (HidesMessageFromClient by archive rules day list key) all
  each_hides old new [] [] it = tt
  each_hides old new [] (over ∷ others) it = absurd it
  each_hides old new (outcome ∷ outcomes) [] it = tt
  each_hides old new (outcome ∷ outcomes) (over ∷ others) (inl (between, one, rest)) = (
    λ others_ask. (outcome, reaches by archive list key rules day outcome over hides one.answered others_ask),
    each_hides between new outcomes others rest,
  )
  each_hides old new (outcome ∷ outcomes) (over ∷ others) (inr (gone, rest)) = each_hides old new outcomes (over ∷ others) rest

module _ {Y S F D C P T R O E W I L K A B M : Type 0} (dev : DeviceContracts S W F I D C P L T R O E) (reaches : HiddenMessageReachesNoPeer) where
  module _ (by : Withdrawn) (archive : Archive) (list key : List ℕ) (hides : IsHiddenInReplies (DeniesWithdrawnBy by) archive list key) where
    answers_and_hides : (old new : Environment Y S F D C P T R O E W I L K A B M) (order : ServeValues) (Count : ℕ → Type 0) (served : HasServed dev old new order Count)
        → AnswersConnectionsFrom dev old new archive served → AnswersAndHidesMessage dev by archive list key old new served
    answers_and_hides old new order Count served it = record {
      answers_from_archive = it;
      hides_message = each_hides dev.archive by archive served.rules served.day list key reaches hides served.store served.store served.later served.outcomes served.exchanges it;
    }

    server_hides : (old new : Environment Y S F D C P T R O E W I L K A B M) (order : ServeValues) (status : ℕ) (ends : ServerEnds dev old new order status)
        → IsTrustedServer dev old new order status ends → dev.databases.holds old.databases order.file archive
        → ServerHidesMessage dev by archive list key old new order status ends
    server_hides old new order status (inl (none, carried_out)) clean held =
        answers_and_hides old new order (λ n. n ≡ order.count) carried_out.runs_on_archive (carried_out.runs_on_archive.serves_held_archive clean archive held).0
    server_hides old new order status (inr (one, refused, inl served)) clean held =
        answers_and_hides old refused.stopped order (λ n. n < order.count) served (served.serves_held_archive clean archive held).0
    server_hides old new order status (inr (one, refused, inr nobody)) trusted held = tt

  -- ---- four runs

  pub published_over_restarts : (stays : StaysAsIfItNeverCame) (opens : OpenedStoreHoldsArchive dev.archive dev.databases) (closes : ClosedDatabaseHoldsArchive dev.archive dev.databases)
      (unopened_holds : UnopenedDatabaseHoldsArchive dev.databases)
      → (old one two between new : Environment Y S F D C P T R O E W I L K A B M) (it : RestartedPublishing) (first second : ℕ)
      → RunsOrder dev old one (Import (import_args_of it.publishing)) (Ok tt) → RunsOrderOnArchive dev old one (Import (import_args_of it.publishing))
      → RunsOrder dev one two (Table (withdraw_args_of it.publishing)) (Ok tt) → RunsOrderOnArchive dev one two (Table (withdraw_args_of it.publishing))
      → between.files ≡ two.files → ServerEnds dev two between (serve_args_of it.publishing) first → ServerEnds dev between new (second_serve_args_of it) second
      → PublishesOverRestarts dev old new it first second
  published_over_restarts stays opens closes unopened_holds old one two between new it first second ran_one taken ran_two outcome files ends_first ends_second =
      let same_one : one ≡ record old { databases = one.databases; output = one.output } = ran_one.2.1 in
      let same_two : two ≡ record one { databases = two.databases; output = two.output } = ran_two.2.1 in
      let by = state_withdrawn_by it.publishing.by in
      record {
        after_import = one;
        after_withdrawal = two;
        between = between;
        imports = taken;
        withdraws = outcome;
        first_ends = ends_first;
        second_ends = ends_second;
        leaves_devices = same_two ∙ ap (λ (w : Environment Y S F D C P T R O E W I L K A B M). record w { databases = two.databases; output = two.output }) same_one;
        leaves_files = files;
        hides_in_both = λ clean_one clean_two trusted_first up_first trusted_second before held right.
            let made = archive_made dev old one two new it.publishing taken outcome clean_one clean_two before held right in
            let hides = hidden stays it.publishing.list it.publishing.key it.publishing.by made.1.imported made.0 made.1.withdraws in
            let left = server_leaves dev opens closes unopened_holds two between (serve_args_of it.publishing) first ends_first trusted_first up_first made.0 made.2 in (
              made.0,
              made.1,
              hides,
              server_hides by made.0 it.publishing.list it.publishing.key hides two between (serve_args_of it.publishing) first ends_first trusted_first made.2,
              server_hides by made.0 it.publishing.list it.publishing.key hides between new (second_serve_args_of it) second ends_second trusted_second left,
              λ up. server_leaves dev opens closes unopened_holds between new (second_serve_args_of it) second ends_second trusted_second up made.0 left,
            );
      }
