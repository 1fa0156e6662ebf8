-- How a server ended, by what `run` says of it, and what it left of its database.
use Rattle.std.proofs.Common.{◌≡◌, ◌≤◌, ◌∙◌, ◌⊎◌, ◌++◌, inl, inr, ap, subst, sym, refl, arith, append-nil, zero, suc, ℕ, ℤ, true, false, Bool, List, [], ◌∷◌, Option, Some, None, Ok, Err}
use Rattle.policy_core.specs.Rules.{Rule}
use Rattle.archive_model.specs.Records.{Archive}
use Rattle.archive_port.specs.Told.{HoldsTables, IsOpen, LeavesArchive, StoreHasCleanDisk}
use Rattle.archive_port.specs.declared.faults.StoreFault.{StoreFault}
use Rattle.archive_port.proofs.LastLemmas.{leaves_same}
use Rattle.archive_listen.specs.Connections.{Exchange, error_stream_state}
use Rattle.archive_listen.specs.Serving.{ServesAndReportsErrors, server_state}
use Rattle.archive_listen.specs.declared.connections.BoundListener.{BoundListener}
use Rattle.archive_listen.specs.declared.faults.AcceptError.{AcceptError}
use Rattle.archive_serve.specs.Runs.{ServingAnswerLaw}
use Rattle.archive_serve.proofs.PeerLemmas.{each_has_cause}
use Rattle.archive_args.specs.Orders.{IsOrderStopOf, IsUsageError, order_of_args}
use Rattle.archive_args.specs.Program.{archive_app}
use Rattle.archive_args.specs.Values.{ServeValues}
use Rattle.archive_args.specs.declared.orders.Order.{Order}
use Rattle.archive_args.specs.declared.orders.Order.TheVariants.{Serve}
use Rattle.archive_args.specs.declared.orders.OrderStop.{OrderStop}
use Rattle.archive_args.specs.declared.orders.OrderStop.TheVariants.{Help, Words, Memory}
use Rattle.clap.specs.Words.{takes}
use Rattle.sift_run.specs.Running.{AreRulesOfPolicyFile, IsReadingDay, ParseAsOrder}
use Rattle.sift_run.specs.declared.faults.CommandError.TheVariants as fault
use Rattle.sift_run.proofs.StatusLemmas.{memory_alone}
use Rattle.archive_run.specs.Databases.{GivesNoDatabase, UsesDatabase}
use Rattle.archive_run.specs.Holding.{HasServedFewer}
use Rattle.archive_port.specs.Remembering.{ClosedDatabaseHoldsArchive, OpenedStoreHoldsArchive, UnopenedDatabaseHoldsArchive}
use Rattle.archive_run.specs.Runs.{OrderIsCarriedOut, OrderIsRefused, RunsOrder, RunReportsOrderStop}
use Rattle.archive_run.specs.Serving.{AnnouncesThenServesFewer, RefusesServing, ServerOutput, server_output}
use Rattle.archive_run.specs.Working.{RefusesOpening}
use Rattle.archive_run.specs.Environments.{DeviceContracts}
use Rattle.archive_port.specs.declared.databases.Databases.{Ghosts as Keeps}
use Rattle.archive_run.specs.declared.faults.RunError.{RunError}
use Rattle.archive_run.specs.declared.faults.RunError.TheVariants.{Run, Store, Net}
use Rattle.archive_run.specs.declared.world.Environment.{Environment}
use Rattle.archive_run.proofs.HoldLemmas.{serves_held}
use Rattle.example_served.specs.Restarting.{CommandLineEnds, IsLeftAlone, IsTrustedServer, ServerEnds, ServerLeavesStoreOpen, ServesNobody}

-- ---- the status of words that order something

at_most_one : (n : ℕ) → n ≤ 1 → (n ≡ 0) ⊎ (n ≡ 1)
at_most_one zero most = inl refl
at_most_one (suc n) most = inr (omega (arith, most))

-- ---- a database that was not opened, or opened and closed again

module _ {S D : Type 0} (keeps : Keeps D S) (old new : D) (file : List ℕ) where
  unopened : (refusal : RunError) → RefusesOpening keeps old new file refusal → (e : StoreFault) × GivesNoDatabase keeps old new file e
  unopened (Store e) it = (e, it)
  unopened refusal it = absurd it

  used : {Becomes : S → S → Type 0} (Left : S → S → Type 0) (works : UsesDatabase keeps old new file Becomes) → Left works.store_before works.store_after
      → UsesDatabase keeps old new file Left
  used Left works leaves = record {
    device = works.device;
    store_before = works.store_before;
    store_after = works.store_after;
    opens_database = works.opens_database;
    store_changes = leaves;
    closes_database = works.closes_database;
  }

module _ {S F D C P T R O E W I L : Type 0} (dev : DeviceContracts S W F I D C P L T R O E) (opens : OpenedStoreHoldsArchive dev.archive dev.databases)
    (closes : ClosedDatabaseHoldsArchive dev.archive dev.databases) where
  left_alone : (before after : S) → IsLeftAlone dev.archive before after → LeavesArchive dev.archive before after
  left_alone before after (inl same) = subst (LeavesArchive dev.archive before) (sym same) (leaves_same dev.archive before)
  left_alone before after (inr counted) = counted.counts_one.leaves_archive

  closed_again : (old new : D) (file : List ℕ) (uses : UsesDatabase dev.databases old new file (IsLeftAlone dev.archive))
      → StoreHasCleanDisk dev.archive uses.store_after → (archive : Archive) → dev.databases.holds old file archive → dev.databases.holds new file archive
  closed_again old new file uses clean archive held =
      let leaves = left_alone uses.store_before uses.store_after uses.store_changes in
      let was = (opens old uses.device file uses.store_before archive held uses.opens_database).0 (leaves.remains_open.disk_was_clean clean) in
      let now = leaves.stays_at_rest was.0 in
      subst (λ a. dev.databases.holds new file a) (now.1 ∙ was.1)
      (closes old uses.device new file uses.store_before uses.store_after archive held uses.opens_database uses.closes_database clean now.0)

module _ {Y S F D C P T R O E W I L K A B M : Type 0} (dev : DeviceContracts S W F I D C P L T R O E) where
  module _ (old new : Environment Y S F D C P T R O E W I L K A B M) (words : List (List ℕ)) (order : Order) (status : ℕ) where
    -- words that order something end with 0 or 1
    zero_or_one : ParseAsOrder words order → (status ≡ 2 → IsUsageError words × ((takes archive_app words ≡ false) ⊎ (order_of_args words ≡ None)))
        → ((o : Order) × ParseAsOrder words o × (status ≤ 1)) ⊎ ((stop : OrderStop) × IsOrderStopOf words stop × RunReportsOrderStop dev old new stop status)
        → (status ≡ 0) ⊎ (status ≡ 1)
    zero_or_one given bad (inl (o, parsed, most)) = at_most_one status most
    zero_or_one given bad (inr (Memory, is, said)) = inr said.0.0
    zero_or_one given bad (inr (Help text, is, said)) = elim said.0 [
      | inl done ↦ inl done.0
      | inr failed ↦ inr failed.0
    ]
    zero_or_one given bad (inr (Words text, is, said)) = absurd (memory_alone words order (Words text) (inr (bad said.0.0).1) is given)

  -- whatever the words order
  pub line_ends : (old new : Environment Y S F D C P T R O E W I L K A B M) (words : List (List ℕ)) (status : ℕ)
      → ((order : Order) → ParseAsOrder words order → status ≡ 0 → OrderIsCarriedOut dev old new order)
      → ((order : Order) → ParseAsOrder words order → status ≡ 1 → OrderIsRefused dev old new order)
      → ((order : Order) × ParseAsOrder words order × (status ≤ 1)) ⊎ ((stop : OrderStop) × IsOrderStopOf words stop × RunReportsOrderStop dev old new stop status)
      → CommandLineEnds dev old new words status
  line_ends old new words status does refuses (inr stop) = inr stop
  line_ends old new words status does refuses (inl (order, given, most)) = elim (at_most_one status most) [
    | inl none ↦ inl (order, given, inl (none, does order given none))
    | inr one ↦ inl (order, given, inr (one, refuses order given one))
  ]

  module _ (opens : OpenedStoreHoldsArchive dev.archive dev.databases) (closes : ClosedDatabaseHoldsArchive dev.archive dev.databases)
      (accepts_none : (before after : L) (e : Option AcceptError) → dev.accepts before after e → dev.over after ≡ dev.over before)
      (shuts_one : (before after : L) (went : Exchange) (broke_off : Bool) → dev.shuts before after went broke_off → dev.over after ≡ dev.over before ++ went ∷ [])
      (listens_none : (before after : P) (port : ℕ) (listening : BoundListener L) → dev.listens before after port (Ok listening)
      → (dev.went after ≡ dev.went before) × (dev.over listening.listener ≡ [])) (rests_open : (store : S) → HoldsTables dev.archive store → IsOpen dev.archive store) where
    module _ (old stopped : Environment Y S F D C P T R O E W I L K A B M) (order : ServeValues) where
      abbrev told_before : ServerOutput
      told_before = server_output dev.takes dev.passes dev.notes old.output old.faults

      abbrev told_after : ServerOutput
      told_after = server_output dev.takes dev.passes dev.notes stopped.output stopped.faults

      -- a listener that gave no connection was ended
      ended_unused : (ports : P) (listening : BoundListener L) → dev.listens old.ports ports order.port (Ok listening)
          → dev.went stopped.ports ≡ dev.went ports ++ dev.over listening.listener → dev.went stopped.ports ≡ dev.went old.ports
      ended_unused ports listening had ended =
          let none = listens_none old.ports ports order.port listening had in
          ended ∙ ap (λ over. dev.went ports ++ over) none.1 ∙ append-nil (dev.went ports) ∙ none.0

      -- fewer than were ordered were served, by what it comes to of an open store
      served_fewer : (rules : List Rule) → AreRulesOfPolicyFile dev.gives old.files (Some order.policy) rules → (clock : C) (day : ℤ)
          → IsReadingDay dev.clock order.day true old.clock clock (Some day)
          → (device : D) (o c : S) → dev.databases.opens old.databases device order.file (Ok o) → dev.databases.closes device stopped.databases c
          → (listening : BoundListener L) (ports : P) → dev.listens old.ports ports order.port (Ok listening)
          → AnnouncesThenServesFewer dev.archive dev.accepts dev.shuts dev.over dev.went ports stopped.ports rules day listening o c told_before told_after order.count
          → HasServedFewer dev old stopped order
      served_fewer rules is clock day given device o c opened closed listening ports had all =
          let none = listens_none old.ports ports order.port listening had in
          let causes = each_has_cause dev.archive dev.over dev.accepts dev.shuts accepts_none shuts_one rests_open in
          let run = all.3 in
          let last = run.1 in
          let each = subst (λ (s : S). ServesAndReportsErrors (ServingAnswerLaw dev.archive rules day o c) dev.accepts dev.shuts (server_state listening.listener o)
          (error_stream_state dev.notes old.faults) (error_stream_state dev.notes stopped.faults) run.0 (server_state last.listener s)) (sym run.4) run.3 in
          record {
            rules = rules;
            is_policy = is;
            clock = clock;
            day = day;
            is_day = given;
            listening = listening;
            ports = ports;
            listens_on_port = had;
            writes_listening_line = all.0;
            outcomes = run.0;
            count_is = run.2;
            reports_outcomes = each.reports_outcomes;
            device = device;
            store = o;
            later = c;
            opens_database = opened;
            closes_database = closed;
            exchanges = dev.over last.listener;
            went = all.2 ∙ (ap (λ (before : List Exchange). before ++ dev.over all.1) none.0
                ∙ ap (λ (over : List Exchange). dev.went old.ports ++ over) (accepts_none last.listener all.1 _ run.5));
            serves_held_archive = λ returned archive held.
                serves_held dev.archive dev.over dev.accepts dev.shuts causes dev.databases opens closes old.databases device stopped.databases order.file rules day run.0
                (server_state listening.listener o) (server_state last.listener c) archive none.1 opened closed each.serves_each returned held;
          }

      -- what a refused server did, up to the line that tells the refusal
      abbrev EndsRefused : RunError → Type 0
      EndsRefused refusal = HasServedFewer dev old stopped order ⊎ ServesNobody dev old stopped order refusal

      refused_serving : (refusal : RunError) (rules : List Rule) → AreRulesOfPolicyFile dev.gives old.files (Some order.policy) rules → (clock : C) (day : ℤ)
          → IsReadingDay dev.clock order.day true old.clock clock (Some day)
          → {Becomes : S → S → Type 0} (works : UsesDatabase dev.databases old.databases stopped.databases order.file Becomes)
          → (listening : BoundListener L) (ports : P) → dev.listens old.ports ports order.port (Ok listening)
          → RefusesServing dev.archive dev.accepts dev.shuts dev.over dev.went ports stopped.ports rules day listening works.store_before works.store_after told_before told_after order.count refusal
          → EndsRefused refusal
      refused_serving Net rules is clock day given works listening ports had it =
          inl (served_fewer rules is clock day given works.device works.store_before works.store_after works.opens_database works.closes_database listening ports had it)
      refused_serving (Run fault.Write) rules is clock day given works listening ports had it = inr (
        λ other. ended_unused ports listening had it.0.1,
        inr (inr (used dev.databases old.databases stopped.databases order.file (IsLeftAlone dev.archive) works (inl it.1))),
      )
      refused_serving (Run fault.Memory) rules is clock day given works listening ports had it = inr (
        λ other. ended_unused ports listening had it.0.1,
        inr (inr (used dev.databases old.databases stopped.databases order.file (IsLeftAlone dev.archive) works (inr it.1))),
      )
      refused_serving refusal rules is clock day given works listening ports had it = absurd it

      -- nothing was touched but for the clock
      untouched : (refusal : RunError) (clock : C) → stopped ≡ record old { clock = clock } → EndsRefused refusal
      untouched refusal clock same = inr (
        λ other. ap (λ (w : Environment Y S F D C P T R O E W I L K A B M). dev.went w.ports) same,
        inl (ap (λ (w : Environment Y S F D C P T R O E W I L K A B M). w.databases) same),
      )

      after_cause : (refusal : RunError) → RunsOrder dev old stopped (Serve order) (Err refusal) → EndsRefused refusal
      after_cause refusal (inr (made, e, same)) = untouched refusal old.clock same
      after_cause refusal (inl (made, (inl (never, same)), more)) = untouched refusal old.clock same
      after_cause refusal (inl (made, (inr (rules, is, (inl (e, none, same)))), more)) = untouched refusal stopped.clock same
      after_cause refusal (inl (made, (inr (rules, is, (inr (clock, day, given, (inl (never, same)))))), more)) = inr (
        λ other. ap (λ (w : Environment Y S F D C P T R O E W I L K A B M). dev.went w.ports) same,
        inr (inl (unopened dev.databases old.databases stopped.databases order.file refusal never)),
      )
      after_cause refusal (inl (made, (inr (rules, is, (inr (clock, day, given, (inr (works, same)))))), more)) = elim works.store_changes [
        | inl none ↦ inr (
          λ other. absurd (other none.0),
          inr (inr (used dev.databases old.databases stopped.databases order.file (IsLeftAlone dev.archive) works (inl none.3))),
        )
        | inr it ↦ refused_serving refusal rules is clock day given works it.0 it.1 it.2 it.3
      ]

      -- the files are as before
      keeps_files : (refusal : RunError) → RunsOrder dev old stopped (Serve order) (Err refusal) → stopped.files ≡ old.files
      keeps_files refusal (inr (made, e, same)) = ap (λ (w : Environment Y S F D C P T R O E W I L K A B M). w.files) same
      keeps_files refusal (inl (made, (inl (never, same)), more)) = ap (λ (w : Environment Y S F D C P T R O E W I L K A B M). w.files) same
      keeps_files refusal (inl (made, (inr (rules, is, (inl (e, none, same)))), more)) = ap (λ (w : Environment Y S F D C P T R O E W I L K A B M). w.files) same
      keeps_files refusal (inl (made, (inr (rules, is, (inr (clock, day, given, (inl (never, same)))))), more)) = ap (λ (w : Environment Y S F D C P T R O E W I L K A B M). w.files) same
      keeps_files refusal (inl (made, (inr (rules, is, (inr (clock, day, given, (inr (works, same)))))), more)) = ap (λ (w : Environment Y S F D C P T R O E W I L K A B M). w.files) same

      done_keeps_files : RunsOrder dev old stopped (Serve order) (Ok tt) → stopped.files ≡ old.files
      done_keeps_files (inr (made, e, same)) = cc
      done_keeps_files (inl (made, (rules, is, (clock, day, given, (works, same))), more)) = ap (λ (w : Environment Y S F D C P T R O E W I L K A B M). w.files) same

    -- ---- a server that ended

    refused_ends : (old new : Environment Y S F D C P T R O E W I L K A B M) (order : ServeValues) (refused : OrderIsRefused dev old new (Serve order))
        → HasServedFewer dev old refused.stopped order ⊎ ServesNobody dev old refused.stopped order refused.refusal
    refused_ends old new order refused = elim refused.cause [
      | inl unread ↦ untouched old refused.stopped order refused.refusal old.clock unread.1
      | inr ran ↦ after_cause old refused.stopped order refused.refusal ran
    ]

    pub server_ends : (old new : Environment Y S F D C P T R O E W I L K A B M) (words : List (List ℕ)) (order : ServeValues) (status : ℕ) → ParseAsOrder words (Serve order)
        → ((o : Order) → ParseAsOrder words o → status ≡ 0 → OrderIsCarriedOut dev old new o)
        → ((o : Order) → ParseAsOrder words o → status ≡ 1 → OrderIsRefused dev old new o)
        → (status ≡ 2 → IsUsageError words × ((takes archive_app words ≡ false) ⊎ (order_of_args words ≡ None)))
        → ((o : Order) × ParseAsOrder words o × (status ≤ 1)) ⊎ ((stop : OrderStop) × IsOrderStopOf words stop × RunReportsOrderStop dev old new stop status)
        → ServerEnds dev old new order status
    server_ends old new words order status given does refuses bad ends = elim (zero_or_one old new words (Serve order) status given bad ends) [
      | inl none ↦ inl (none, does (Serve order) given none)
      | inr one ↦
          let refused = refuses (Serve order) given one in
          inr (
            one,
            refused,
            elim (refused_ends old new order refused) [
              | inl served ↦ inl served
              | inr nobody ↦ inr (subst (λ (w : Environment Y S F D C P T R O E W I L K A B M). ServesNobody dev old w order refused.refusal) (sym refused.reports_refusal.1) nobody)
            ],
          )
    ]

    pub leaves_files : (old new : Environment Y S F D C P T R O E W I L K A B M) (order : ServeValues) (status : ℕ) → ServerEnds dev old new order status → new.files ≡ old.files
    leaves_files old new order status (inl (none, done)) = done_keeps_files old new order done.runs_order
    leaves_files old new order status (inr (one, refused, how)) =
        let before : refused.stopped.files ≡ old.files = elim refused.cause [
          | inl unread ↦ ap (λ (w : Environment Y S F D C P T R O E W I L K A B M). w.files) unread.1
          | inr ran ↦ keeps_files old refused.stopped order refused.refusal ran
        ] in
        ap (λ (w : Environment Y S F D C P T R O E W I L K A B M). w.files) refused.reports_refusal.1 ∙ before

  -- ---- what it left of its database

  module _ (opens : OpenedStoreHoldsArchive dev.archive dev.databases) (closes : ClosedDatabaseHoldsArchive dev.archive dev.databases)
      (unopened_holds : UnopenedDatabaseHoldsArchive dev.databases) where
    pub server_leaves : (old new : Environment Y S F D C P T R O E W I L K A B M) (order : ServeValues) (status : ℕ) (ends : ServerEnds dev old new order status)
        → IsTrustedServer dev old new order status ends → ServerLeavesStoreOpen dev old new order status ends
        → (archive : Archive) → dev.databases.holds old.databases order.file archive → dev.databases.holds new.databases order.file archive
    server_leaves old new order status (inl (none, done)) clean up archive held = (done.runs_on_archive.serves_held_archive clean archive held).1 up
    server_leaves old new order status (inr (one, refused, inl served)) clean up archive held =
        let same : new.databases ≡ refused.stopped.databases = ap (λ (w : Environment Y S F D C P T R O E W I L K A B M). w.databases) refused.reports_refusal.1 in
        subst (λ (d : D). dev.databases.holds d order.file archive) (sym same) ((served.serves_held_archive clean archive held).1 up)
    server_leaves old new order status (inr (one, refused, inr (sends, inl same))) trusted up archive held =
        subst (λ (d : D). dev.databases.holds d order.file archive) (sym same) held
    server_leaves old new order status (inr (one, refused, inr (sends, inr (inl (why, never))))) trusted up archive held =
        unopened_holds old.databases new.databases order.file why archive held never
    server_leaves old new order status (inr (one, refused, inr (sends, inr (inr uses)))) clean up archive held =
        closed_again dev opens closes old.databases new.databases order.file uses clean archive held
