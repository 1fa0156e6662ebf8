-- From three orders that were carried out, one behind the other, to one archive.
use Rattle.std.proofs.Common.{◌≡◌, ◌≢◌, ◌≤◌, ◌∙◌, ◌⊎◌, inl, inr, ap, subst, sym, refl, arith, ℕ, Bool, true, false, List, Some, Ok, if◌then◌else◌}
use Rattle.policy_core.specs.declared.access.WithdrawnBy.{WithdrawnBy}
use Rattle.policy_core.specs.Numbers.{withdrawn_by_number}
use Rattle.archive_model.specs.Records.{Archive}
use Rattle.archive_model.specs.Commands.{Command, CommandReply, done, was_there, taken_in, already_known, refused, no_message, withdraw as withdrawal}
use Rattle.archive_model.specs.Keys.{is_key}
use Rattle.archive_model.specs.Machine.{refuse, step}
use Rattle.archive_model.specs.Sound.{IsIndexedCorrectly}
use Rattle.archive_port.specs.Told.{StoreHasCleanDisk}
use Rattle.archive_args.specs.Orders.{IsOrderStopOf}
use Rattle.archive_args.specs.Values.{withdraw}
use Rattle.archive_args.specs.declared.orders.Order.{Order}
use Rattle.archive_args.specs.declared.orders.Order.TheVariants.{Table, Import, Serve}
use Rattle.archive_args.specs.declared.orders.OrderStop.{OrderStop}
use Rattle.archive_commands.specs.Commands.{answer_to, command_outcome}
use Rattle.archive_commands.specs.declared.commands.Answer.{Answer}
use Rattle.sift_run.specs.Running.{ParseAsOrder, IsReadingDay, AreRulesOfPolicyFile}
use Rattle.archive_run.specs.Holding.{RunsOrderOnArchive}
use Rattle.archive_run.specs.Runs.{OrderIsCarriedOut, OrderIsRefused, RunsOrder, RunReportsOrderStop}
use Rattle.archive_run.specs.Environments.{DeviceContracts}
use Rattle.archive_run.specs.declared.world.Environment.{Environment}
use Rattle.example_served.specs.Publishing.{CommandLineSucceeds, CommandLineFails, ImportsWithdrawsAndServes, MakesPublishedArchive, Publishing, import_args_of, serve_args_of, withdraw_args_of}

-- ---- a withdrawal that was answered

-- the only reply that has a word is that it was done
told_done : (list key : List ℕ) (by : WithdrawnBy) (reply : CommandReply) (answer : Answer) → answer_to (withdraw list key by) reply ≡ Some answer → reply ≡ done
told_done list key by done answer told = refl
told_done list key by (was_there before) answer told = cc
told_done list key by taken_in answer told = cc
told_done list key by already_known answer told = cc
told_done list key by (refused why) answer told = cc

by_key : (is : Bool) (a b : Archive) (command : Command) → b ≡ (if is then step a command else refuse a no_message).0
    → (if is then step a command else refuse a no_message).1 ≡ done → (b, done) ≡ step a command
by_key true a b command same is_done =
    subst (λ c. (c, done) ≡ step a command) (sym same) (subst (λ r. ((step a command).0, r) ≡ step a command) is_done refl)
by_key false a b command same is_done = cc

pub withdrawn_so : (list key : List ℕ) (by : WithdrawnBy) (a b : Archive) (answer : Answer) → b ≡ (command_outcome a (withdraw list key by)).0
    → answer_to (withdraw list key by) (command_outcome a (withdraw list key by)).1 ≡ Some answer
    → (b, done) ≡ step a (withdrawal list key (withdrawn_by_number by))
withdrawn_so list key by a b answer same told =
    by_key (is_key key) a b (withdrawal list key (withdrawn_by_number by)) same (told_done list key by (command_outcome a (withdraw list key by)).1 answer told)

-- ---- three orders

module _ {Y S F D C P T R O E W I L K A B M : Type 0} (dev : DeviceContracts S W F I D C P L T R O E) where
  -- what the first two make of an archive
  pub archive_made : (old first second new : Environment Y S F D C P T R O E W I L K A B M) (it : Publishing)
      (taken : RunsOrderOnArchive dev old first (Import (import_args_of it))) (outcome : RunsOrderOnArchive dev first second (Table (withdraw_args_of it)))
      → StoreHasCleanDisk dev.archive taken.2.store_after → StoreHasCleanDisk dev.archive outcome.2.store_after
      → (before : Archive) → dev.databases.holds old.databases it.file before → IsIndexedCorrectly before
      → (archive : Archive) × MakesPublishedArchive dev old new it before archive × dev.databases.holds second.databases it.file archive
  archive_made old first second new it taken outcome returned_first returned_second before held right =
      let one = taken.2.store_changes returned_first before held right in
      let two = outcome.2.store_changes returned_second one.0 one.3 one.2 in (
        two.0,
        record {
          imported = one.0;
          report = taken.0;
          is_imported = one.1;
          withdraws = withdrawn_so it.list it.key it.by one.0 two.0 outcome.0 two.1.0 two.1.1;
        },
        two.3,
      )

  pub published : (old first second new : Environment Y S F D C P T R O E W I L K A B M) (it : Publishing)
      → RunsOrder dev old first (Import (import_args_of it)) (Ok tt) → RunsOrderOnArchive dev old first (Import (import_args_of it))
      → RunsOrder dev first second (Table (withdraw_args_of it)) (Ok tt) → RunsOrderOnArchive dev first second (Table (withdraw_args_of it))
      → RunsOrder dev second new (Serve (serve_args_of it)) (Ok tt) → RunsOrderOnArchive dev second new (Serve (serve_args_of it)) → ImportsWithdrawsAndServes dev old new it
  published old first second new it ran_first taken ran_second command_outcome ran served =
      let same_first : first ≡ record old { databases = first.databases; output = first.output } = ran_first.2.1 in
      let same_second : second ≡ record first { databases = second.databases; output = second.output } = ran_second.2.1 in
      let files : second.files ≡ old.files =
      ap (λ (w : Environment Y S F D C P T R O E W I L K A B M). w.files) same_second ∙ ap (λ (w : Environment Y S F D C P T R O E W I L K A B M). w.files) same_first in
      let clock : second.clock ≡ old.clock =
      ap (λ (w : Environment Y S F D C P T R O E W I L K A B M). w.clock) same_second ∙ ap (λ (w : Environment Y S F D C P T R O E W I L K A B M). w.clock) same_first in
      record {
        after_import = first;
        after_withdrawal = second;
        imports = taken;
        withdraws = command_outcome;
        runs_serve = ran;
        serves_all = served;
        rules_are_of_policy = subst (λ (f : F). AreRulesOfPolicyFile dev.gives f (Some it.policy) served.rules) files served.is_policy;
        day_is = subst (λ (c : C). IsReadingDay dev.clock it.day true c served.clock (Some served.day)) clock served.is_day;
        served_from_one_archive = λ returned_first returned_second returned before held right.
            let made = archive_made old first second new it taken command_outcome returned_first returned_second before held right in
            let last = served.serves_held_archive returned made.0 made.2 in (made.0, made.1, last.0, last.1);
      }

  -- ---- an order that was not carried out

  pub not_done : (old new : Environment Y S F D C P T R O E W I L K A B M) (words : List (List ℕ)) (status : ℕ) → status ≢ 0
      → ((order : Order) → ParseAsOrder words order → status ≡ 1 → OrderIsRefused dev old new order)
      → ((order : Order) × ParseAsOrder words order × (status ≤ 1)) ⊎ ((stop : OrderStop) × IsOrderStopOf words stop × RunReportsOrderStop dev old new stop status)
      → CommandLineFails dev old new words status
  not_done old new words status some refuses (inl (order, given, most)) =
      let one : status ≡ 1 = omega (arith, some, most) in inl (order, given, one, refuses order given one)
  not_done old new words status some refuses (inr stop) = inr stop

  -- ---- and one that was

  pub is_done : (old new : Environment Y S F D C P T R O E W I L K A B M) (words : List (List ℕ)) (status : ℕ) → status ≡ 0
      → ((order : Order) → ParseAsOrder words order → status ≡ 0 → OrderIsCarriedOut dev old new order)
      → ((order : Order) × ParseAsOrder words order × (status ≤ 1)) ⊎ ((stop : OrderStop) × IsOrderStopOf words stop × RunReportsOrderStop dev old new stop status)
      → CommandLineSucceeds dev old new words
  is_done old new words status zero does (inl (order, given, most)) = inl (order, given, (does order given zero).runs_order)
  is_done old new words status zero does (inr (stop, is, says)) = inr (stop, is, subst (λ s. RunReportsOrderStop dev old new stop s) zero says)
