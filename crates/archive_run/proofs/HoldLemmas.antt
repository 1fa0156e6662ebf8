-- From what became of a store to what becomes of the archive that its database holds.
use Rattle.std.proofs.Common.{◌≡◌, ◌∙◌, inl, inr, ap, subst, sym, refl, ℕ, ℤ, Bool, List, [], ◌∷◌, ◌++◌, Option, Ok}
use Rattle.archive_port.specs.declared.state.ArchiveState.{Ghosts}
use Rattle.policy_core.specs.Rules.{Rule}
use Rattle.archive_model.specs.Records.{Archive}
use Rattle.archive_port.specs.Told.{RelatesReadyArchives, StoreHasCleanDisk, HoldsTables, IsOpen, archive_in}
use Rattle.archive_desk.specs.Holding.{RelatesTableArchives}
use Rattle.archive_port.proofs.Joins.{ready_with}
use Rattle.archive_listen.specs.Connections.{Exchange, ConnectionResult}
use Rattle.archive_listen.specs.Serving.{ServerState, ServesEachConnection, ServesOneConnection}
use Rattle.archive_listen.specs.declared.faults.AcceptError.{AcceptError}
use Rattle.archive_serve.specs.Runs.{AnswersFromArchiveInRun, Each503HasItsCause, ExchangesAreAnsweredWithCause, HasSoundStore, ServingAnswerLaw}
use Rattle.archive_serve.proofs.PeerLemmas.{had_before}
use Rattle.archive_run.specs.Databases.{UsesDatabase}
use Rattle.archive_run.specs.Holding.{RelatesHeldArchives, KeepsHeldArchive}
use Rattle.archive_port.specs.Remembering.{ClosedDatabaseHoldsArchive, OpenedStoreHoldsArchive}
use Rattle.archive_port.specs.declared.databases.Databases.{Ghosts as Keeps}

-- ---- one call, or none

module _ {S W D : Type 0} (g : Ghosts S W) (keeps : Keeps D S) (opens : OpenedStoreHoldsArchive g keeps) (closes : ClosedDatabaseHoldsArchive g keeps)
    (old new : D) (file : List ℕ) where
  -- a call that is promised of a store which is ready
  pub leads_by : (Becomes : S → S → Type 0) (R : Archive → Archive → Type 0) → ((o c : S) → Becomes o c → RelatesReadyArchives g o c R)
      → UsesDatabase keeps old new file Becomes → RelatesHeldArchives g keeps old new file R
  leads_by Becomes R goes works =
      let it = goes works.store_before works.store_after works.store_changes in
      record {
        device = works.device;
        store_before = works.store_before;
        store_after = works.store_after;
        opens_database = works.opens_database;
        closes_database = works.closes_database;
        store_changes = λ returned first held right.
            let was = (opens old works.device file works.store_before first held works.opens_database).0 (it.0.disk_was_clean returned) in
            let there = it.1 returned (ready_with g works.store_before first was.0 was.1 right) in (
              archive_in g works.store_after,
              subst (λ a. R a (archive_in g works.store_after)) was.1 there.1,
              there.0.is_indexed_correctly,
              closes old works.device new file works.store_before works.store_after first held works.opens_database works.closes_database returned there.0.is_archive_at_rest,
            );
      }

  -- a call that is promised of tables, whatever is filed of a message, and leaves the archive
  pub leads_held : (Becomes : S → S → Type 0) (Says : Archive → Type 0)
      → ((o c : S) → Becomes o c → RelatesTableArchives g o c (λ a b. (b ≡ a) × Says a)) → UsesDatabase keeps old new file Becomes → KeepsHeldArchive g keeps old new file Says
  leads_held Becomes Says goes works =
      let it = goes works.store_before works.store_after works.store_changes in
      record {
        device = works.device;
        store_before = works.store_before;
        store_after = works.store_after;
        opens_database = works.opens_database;
        closes_database = works.closes_database;
        store_changes = λ returned archive held.
            let was = (opens old works.device file works.store_before archive held works.opens_database).0 (it.0.disk_was_clean returned) in
            let there = it.1 returned was.0 in (
              subst Says was.1 there.1.1,
              subst (λ a. keeps.holds new file a) (there.1.0 ∙ was.1)
                  (closes old works.device new file works.store_before works.store_after archive held works.opens_database works.closes_database returned there.0),
            );
      }

-- ---- a run of connections

module _ {S W L : Type 0} (g : Ghosts S W) (accepts : L → L → Option AcceptError → Type 0) (closes : L → L → Exchange → Bool → Type 0)
    (If : Type 0) (archive : Archive) (rules : List Rule) (day : ℤ) where
  -- where its premise holds, the store remembers this archive behind the last connection, if it is still open
  remembers_one : If → (outcome : ConnectionResult) (before after : ServerState L S) → ServesOneConnection (AnswersFromArchiveInRun g If archive rules day) accepts closes outcome before after
      → (IsOpen g before.state → HoldsTables g before.state × (archive_in g before.state ≡ archive))
      → IsOpen g after.state → HoldsTables g after.state × (archive_in g after.state ≡ archive)
  remembers_one so outcome before after (inl takes) holds = takes.is_answered.is_answered.left so
  remembers_one so outcome before after (inr misses) holds =
      subst (λ (s : S). IsOpen g s → HoldsTables g s × (archive_in g s ≡ archive)) (sym misses.state_is_same) holds

  pub remembers_each : If → (outcomes : List ConnectionResult) (before after : ServerState L S)
      → ServesEachConnection (AnswersFromArchiveInRun g If archive rules day) accepts closes outcomes before after
      → (IsOpen g before.state → HoldsTables g before.state × (archive_in g before.state ≡ archive))
      → IsOpen g after.state → HoldsTables g after.state × (archive_in g after.state ≡ archive)
  remembers_each so [] before after same holds =
      subst (λ (s : ServerState L S). IsOpen g s.state → HoldsTables g s.state × (archive_in g s.state ≡ archive)) (sym same) holds
  remembers_each so (outcome ∷ outcomes) before after (between, first, rest) holds =
      remembers_each so outcomes between after rest (remembers_one so outcome before between first holds)

-- what was served, of the archive that its database held, over a listener that had taken no connection back
module _ {S W L D : Type 0} (g : Ghosts S W) (over : L → List Exchange) (accepts : L → L → Option AcceptError → Type 0) (closes : L → L → Exchange → Bool → Type 0)
    (causes : Each503HasItsCause g over accepts closes) (keeps : Keeps D S) (opened : OpenedStoreHoldsArchive g keeps) (closed : ClosedDatabaseHoldsArchive g keeps) where
  pub serves_held : (old device new : D) (file : List ℕ) (rules : List Rule) (day : ℤ) (outcomes : List ConnectionResult) (first last : ServerState L S) (archive : Archive)
      → over first.listener ≡ [] → keeps.opens old device file (Ok first.state) → keeps.closes device new last.state
      → ServesEachConnection (ServingAnswerLaw g rules day first.state last.state) accepts closes outcomes first last
      → StoreHasCleanDisk g last.state → keeps.holds old file archive
      → ExchangesAreAnsweredWithCause g archive rules day first.state first.state last.state outcomes (over last.listener)
      × (IsOpen g last.state → keeps.holds new file archive)
  serves_held old device new file rules day outcomes first last archive fresh opens shuts each returned held =
      let If = HasSoundStore g first.state last.state in
      let given = opened old device file first.state archive held opens in
      let was = given.0 (had_before g accepts closes If (archive_in g first.state) rules day outcomes first last each returned) in
      let so : If = (returned, was.0) in
      let it = causes rules day outcomes first.listener last.listener first.state last.state each so given.1 in
      let is_all : it.0 ≡ over last.listener = sym (it.1 ∙ ap (λ (before : List Exchange). before ++ it.0) fresh) in (
        subst (λ all. ExchangesAreAnsweredWithCause g archive rules day first.state first.state last.state outcomes all) is_all
            (subst (λ a. ExchangesAreAnsweredWithCause g a rules day first.state first.state last.state outcomes it.0) was.1 it.2),
        λ up.
            let left = remembers_each g accepts closes If (archive_in g first.state) rules day so outcomes first last each (λ was_up. (was.0, refl)) up in
            subst (λ a. keeps.holds new file a) (left.1 ∙ was.1) (closed old device new file first.state last.state archive held opens shuts returned left.0),
      )
