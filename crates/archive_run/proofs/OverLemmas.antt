-- From an order that was carried out to what becomes of the archive that its database holds.
use Rattle.std.proofs.Common.{◌≡◌, ◌∙◌, ◌++◌, ◌<◌, ap, inl, inr, refl, subst, sym, ℕ, ℤ, Bool, true, List, [], ◌∷◌, length, Option, Some, Ok, Err, IsTrue}
use Rattle.policy_core.specs.Rules.{Rule}
use Rattle.archive_model.specs.Runs.{taken}
use Rattle.archive_port.proofs.Joins.{ready_with}
use Rattle.archive_port.proofs.RightLemmas.{taken_right}
use Rattle.archive_port.specs.Told.{archive_in}
use Rattle.archive_port.specs.Checking.{ChecksArchive, PassesCheck}
use Rattle.archive_desk.specs.Exporting.{exported_text}
use Rattle.archive_desk.specs.Importing.{IsImported}
use Rattle.archive_listen.specs.Connections.{Exchange, ConnectionResult, error_stream_state}
use Rattle.archive_listen.specs.Serving.{ServesAndReportsErrors, server_state}
use Rattle.archive_listen.specs.declared.connections.BoundListener.{BoundListener}
use Rattle.archive_listen.specs.declared.faults.AcceptError.{AcceptError}
use Rattle.archive_serve.specs.Announced.{WritesListeningLine}
use Rattle.archive_serve.specs.Runs.{ServingAnswerLaw}
use Rattle.archive_serve.proofs.PeerLemmas.{each_has_cause}
use Rattle.archive_args.specs.Values.{ServeValues}
use Rattle.archive_args.specs.declared.orders.Order.{Order}
use Rattle.archive_args.specs.declared.orders.Order.TheVariants.{Sift, Table, Import, Get, Export, Check, Serve}
use Rattle.archive_commands.specs.Commands.{answer_to, command_outcome}
use Rattle.archive_commands.specs.Getting.{message_or_refusal}
use Rattle.archive_commands.specs.Working.{CarriesOutCommand, GetsMessage}
use Rattle.archive_run.specs.Files.{ReadsOpenedFile}
use Rattle.archive_run.specs.Holding.{HasServedUntilF4, HasServed, RunsOrderOnArchive, after as told_after, before as told_before}
use Rattle.archive_run.specs.Orders.{ask_of_values}
use Rattle.archive_port.specs.Remembering.{ClosedDatabaseHoldsArchive, OpenedStoreHoldsArchive}
use Rattle.archive_run.specs.Runs.{RunsOrder}
use Rattle.archive_run.specs.Working.{ImportsFile, ExportsWholeList}
use Rattle.archive_run.specs.Environments.{DeviceContracts}
use Rattle.archive_run.specs.declared.faults.RunError.{RunError}
use Rattle.archive_run.specs.declared.faults.RunError.TheVariants.{Run, Store, Desk, Import as Importing, Damaged, Denied, Net}
use Rattle.archive_run.specs.declared.world.Environment.{Environment}
use Rattle.sift_run.specs.Running.{IsReadingDay, AreRulesOfPolicyFile}
use Rattle.sift_run.specs.declared.faults.CommandError.TheVariants.{Memory}
use Rattle.archive_run.proofs.HoldLemmas.{leads_by, leads_held, serves_held}

module _ {Y S F D C P T R O E W I L K A B M : Type 0} (dev : DeviceContracts S W F I D C P L T R O E) (opens : OpenedStoreHoldsArchive dev.archive dev.databases)
    (closes : ClosedDatabaseHoldsArchive dev.archive dev.databases) (rests_open : (store : S) → dev.archive.is_at_rest store → IsTrue (dev.archive.is_open store))
    (accepts_none : (before after : L) (fault : Option AcceptError) → dev.accepts before after fault → dev.over after ≡ dev.over before)
    (shuts_one : (before after : L) (went : Exchange) (broke_off : Bool) → dev.shuts before after went broke_off → dev.over after ≡ dev.over before ++ went ∷ [])
    (listens_none : (before after : P) (port : ℕ) (listening : BoundListener L) → dev.listens before after port (Ok listening)
    → (dev.went after ≡ dev.went before) × (dev.over listening.listener ≡ []))
    (old new : Environment Y S F D C P T R O E W I L K A B M) where
  -- an order to serve that was carried out, or whose listener gave no more, by what it comes to of an open store
  has_served : (order : ServeValues) (Count : ℕ → Type 0) (rules : List Rule) → AreRulesOfPolicyFile dev.gives old.files (Some order.policy) rules → (clock : C) (day : ℤ)
      → IsReadingDay dev.clock order.day true old.clock clock (Some day)
      → (device : D) (store later : S) → dev.databases.opens old.databases device order.file (Ok store) → dev.databases.closes device new.databases later
      → (listening : BoundListener L) (ports : P) → dev.listens old.ports ports order.port (Ok listening)
      → WritesListeningLine listening.port (told_before dev old new).written (told_after dev old new).written (told_after dev old new).passed
      → (end last : L) → dev.went new.ports ≡ dev.went ports ++ dev.over end → dev.over end ≡ dev.over last
      → (outcomes : List ConnectionResult) → Count (length outcomes)
      → ServesAndReportsErrors (ServingAnswerLaw dev.archive rules day store later) dev.accepts dev.shuts (server_state listening.listener store) (error_stream_state dev.notes old.faults)
      (error_stream_state dev.notes new.faults)
      outcomes (server_state last later)
      → HasServed dev old new order Count
  has_served order Count rules is clock day given device store later opened closed listening ports had said end last ended same outcomes count run =
      let none = listens_none old.ports ports order.port listening had in
      let causes = each_has_cause dev.archive dev.over dev.accepts dev.shuts accepts_none shuts_one rests_open in
      record {
        rules = rules;
        is_policy = is;
        clock = clock;
        day = day;
        is_day = given;
        listening = listening;
        ports = ports;
        listens_on_port = had;
        writes_listening_line = said;
        outcomes = outcomes;
        count_is = count;
        reports_outcomes = run.reports_outcomes;
        device = device;
        store = store;
        later = later;
        opens_database = opened;
        closes_database = closed;
        exchanges = dev.over last;
        went = ended ∙ (ap (λ (before : List Exchange). before ++ dev.over end) none.0 ∙ ap (λ (all : List Exchange). dev.went old.ports ++ all) same);
        serves_held_archive = λ returned archive held.
            serves_held dev.archive dev.over dev.accepts dev.shuts causes dev.databases opens closes old.databases device new.databases order.file rules day outcomes
            (server_state listening.listener store) (server_state last later) archive none.1 opened closed run.serves_each returned held;
      }

  pub runs_over : (order : Order) → RunsOrder dev old new order (Ok tt) → RunsOrderOnArchive dev old new order
  runs_over (Sift order) it = tt
  runs_over (Table order) (answer, works, sends) = (
    answer,
    sends.0,
    leads_by dev.archive dev.databases opens closes old.databases new.databases order.file
        (λ o c. CarriesOutCommand dev.archive o c order.command (Ok answer))
        (λ a b. (b ≡ (command_outcome a order.command).0) × (answer_to order.command (command_outcome a order.command).1 ≡ Some answer))
        (λ o c goes. goes) works,
  )
  runs_over (Import order) (report, works, sends) = (
    report,
    sends.0,
    leads_by dev.archive dev.databases opens closes old.databases new.databases order.file
        (λ o c. ImportsFile dev.archive o c dev.opens dev.input_of old.files order.list order.mbox report)
        (λ a b. ReadsOpenedFile dev.opens dev.input_of old.files order.mbox
        (λ text ended failed. (ended ≡ 1) × (failed ≡ 0) × IsImported order.list text a b report))
        (λ o c it. (
          it.input_becomes.2.0,
          λ returned ready.
              let there = it.input_becomes.2.1 returned ready.is_archive_at_rest in
              let a = archive_in dev.archive o in
              let items = there.1.1.items in (
                ready_with dev.archive c (taken a order.list items).archive there.0 there.1.1.adds_all.archive_is (taken_right a order.list items ready.is_indexed_correctly),
                record {
                  input_before = it.input_before;
                  input_after = it.input_after;
                  opens_input = it.opens_input;
                  text = it.text;
                  end_count = it.end_count;
                  failure_count = it.failure_count;
                  reads_text = it.reads_text;
                  adds_end_reads = it.adds_end_reads;
                  adds_failed_reads = it.adds_failed_reads;
                  input_becomes = (it.input_becomes.0, it.input_becomes.1, there.1.1);
                },
              ),
        ))
        works,
  )
  runs_over (Get order) (rules, is, (clock, day, given, (text, works, sends))) = (
    rules,
    is,
    (
      clock,
      day,
      given,
      (
        text,
        sends.0,
        leads_held dev.archive dev.databases opens closes old.databases new.databases order.ask.file
            (λ o c. GetsMessage dev.archive o c (ask_of_values order.ask rules day) order.key (Ok text))
            (λ a. message_or_refusal a (ask_of_values order.ask rules day) order.key ≡ Ok text.items)
            (λ o c goes. goes) works,
      ),
    ),
  )
  runs_over (Export order) (rules, is, (clock, day, given, (works, same))) =
      let before = told_before dev old new in
      let after = told_after dev old new in (
        rules,
        is,
        (
          clock,
          day,
          given,
          leads_held dev.archive dev.databases opens closes old.databases new.databases order.file
              (λ o c. ExportsWholeList dev.archive o c (ask_of_values order rules day) before after)
              (λ a. after.written ≡ before.written ++ exported_text a (ask_of_values order rules day))
              (λ o c it. (it.1.0, λ returned held. let there = it.1.1 returned held in (there.0, (there.1.0, there.1.2)))) works,
        ),
      )
  runs_over (Check order) (works, sends) =
      leads_held dev.archive dev.databases opens closes old.databases new.databases order.file (λ o c. ChecksArchive dev.archive o c (Ok tt)) PassesCheck (λ o c goes. goes) works
  runs_over (Serve order) (inr (made, e, same)) = cc
  runs_over (Serve order) (inl (made, (rules, is, (clock, day, given, (works, same))), more)) =
      let it = works.store_changes in
      let all = it.3 in
      let run = all.3 in
      has_served order (λ n. n ≡ order.count) rules is clock day given works.device works.store_before works.store_after works.opens_database works.closes_database it.0 it.1 it.2 all.0
      all.1 all.1 all.2 refl
      run.0 run.1 run.2

  -- a server that was refused
  fewer : (order : ServeValues) → RunsOrder dev old new (Serve order) (Err Net) → HasServedUntilF4 dev old new (Serve order) Net
  fewer order (inr (made, e, same)) = cc
  fewer order (inl (made, (inl (never, same)), more)) = absurd never
  fewer order (inl (made, (inr (rules, is, (inl (e, none, same)))), more)) = cc
  fewer order (inl (made, (inr (rules, is, (inr (clock, day, given, (inl (never, same)))))), more)) = absurd never
  fewer order (inl (made, (inr (rules, is, (inr (clock, day, given, (inr (works, same)))))), more)) = elim works.store_changes [
    | inl none ↦ inl (none.1, none.2)
    | inr it ↦
        let all = it.3 in
        let run = all.3 in
        let end = all.1 in
        let last = run.1 in
        inr (has_served order (λ n. n < order.count) rules is clock day given works.device works.store_before works.store_after works.opens_database works.closes_database it.0 it.1 it.2
        all.0 end last.listener
        all.2 (accepts_none last.listener end _ run.5) run.0 run.2
        (subst (λ (s : S). ServesAndReportsErrors (ServingAnswerLaw dev.archive rules day works.store_before works.store_after) dev.accepts dev.shuts (server_state it.0.listener works.store_before)
        (error_stream_state dev.notes old.faults) (error_stream_state dev.notes new.faults) run.0 (server_state last.listener s)) (sym run.4) run.3))
  ]

  pub ends_over : (order : Order) (refusal : RunError) → RunsOrder dev old new order (Err refusal) → HasServedUntilF4 dev old new order refusal
  ends_over (Serve order) Net it = fewer order it
  ends_over (Serve order) (Run fault) it = tt
  ends_over (Serve order) (Store fault) it = tt
  ends_over (Serve order) (Desk fault) it = tt
  ends_over (Serve order) (Importing stop) it = tt
  ends_over (Serve order) (Damaged list key) it = tt
  ends_over (Serve order) (Denied rule) it = tt
  ends_over (Sift order) refusal it = tt
  ends_over (Table order) refusal it = tt
  ends_over (Import order) refusal it = tt
  ends_over (Get order) refusal it = tt
  ends_over (Export order) refusal it = tt
  ends_over (Check order) refusal it = tt

  -- where there was no memory to read the words
  pub ends_unread : (order : Order) → HasServedUntilF4 dev old new order (Run Memory)
  ends_unread (Sift order) = tt
  ends_unread (Table order) = tt
  ends_unread (Import order) = tt
  ends_unread (Get order) = tt
  ends_unread (Export order) = tt
  ends_unread (Check order) = tt
  ends_unread (Serve order) = tt
