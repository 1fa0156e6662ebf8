-- Messages added to one list, many in one transaction.
use Rattle.std.specs.Prelude.{◌≡◌, ◌⊎◌, ℕ, ◌≤◌, true, IsTrue, List, length, take, drop, Option, Some, None, Result, IfErr, MatchResult, MatchOption}
use Rattle.sqlite.specs.Effect.{Database}
use Rattle.sqlite.specs.Store.{Ghosts}
use Rattle.sqlite.specs.Held.{Held, state}
use Rattle.sqlite.specs.State.{State, HasCleanDisk}
use Rattle.mbox_items.specs.Division.{Item}
use Rattle.archive_model.specs.Records.{Archive}
use Rattle.archive_model.specs.Commands.{list_full, too_large, CommandReply, taken_in, already_known, refused}
use Rattle.archive_model.specs.Questions.{has_list, messages_in}
use Rattle.archive_model.specs.Machine.{add_within_limit, message_limit}
use Rattle.archive_model.specs.Runs.{taken, tally_replies}
use Rattle.archive_tables.specs.Tables.{IsOpenArchive, IsArchiveAtRest, archive_of}
use Rattle.archive_tables.specs.Calls.{FaultKeepsRowsOrRollsBack, IsOpenArchiveOrRolledBack}
use Rattle.archive_store.specs.Held.{store_connection}
use Rattle.archive_port.specs.Replies.{refusal_of_fault}
use Rattle.archive_store.specs.Refusals.{IsExecutedReply, IsMessageRefused, WritesMessageIfAdded, RowsRefuseAnItem}
use Rattle.archive_store.specs.Told.{DiskHasFailed, StoreHasCleanDisk, HasNoStepLimit}
use Rattle.archive_store.specs.declared.store.Store.{Store}
use Rattle.archive_port.specs.declared.reports.AddReport.{AddReport}
use Rattle.archive_store.specs.declared.batches.Taken.{Taken}
use Rattle.archive_store.specs.declared.batches.Taken.TheVariants.{New, Known, TooLarge, Full}
use Rattle.archive_port.specs.declared.reports.AddError.{AddError}
use Rattle.archive_port.specs.declared.faults.StoreFault.{StoreFault}
use Rattle.archive_port.specs.declared.faults.StoreFault.TheVariants as faults
use Rattle.archive_port.specs.Adding.{tally_of_report, reported_count, IsListFullAt, IsRefusedAt}

abbrev pub added_message_reply : Taken → CommandReply
added_message_reply New = taken_in
added_message_reply Known = already_known
added_message_reply TooLarge = refused too_large
added_message_reply Full = refused list_full

-- the list is there, and holds so many messages
pub record ListHasMessageCount (a : Archive) (list : List ℕ) (count : ℕ) : Type 0 where
  pub list_exists : has_list a list ≡ true
  pub message_count_is : length (messages_in a list) ≡ count

-- one message more: the tables and the answer are what the machine says, and the count is right again
abbrev pub AddsMessageToState : Option Database → State → State → List ℕ → Item → ℕ → CommandReply → Type 0
AddsMessageToState behind old new list item after reply =
    IsOpenArchive behind new × ((archive_of new, reply) ≡ add_within_limit message_limit (archive_of old) list item) × ListHasMessageCount (archive_of new) list after

-- the archive is what these items make of that one, and the count and the report are right
pub record HoldsAddedItems (behind : Option Database) (s : State) (a : Archive) (list : List ℕ) (items : List Item) (count : ℕ) (report : AddReport) : Type 0 where
  pub is_open_archive : IsOpenArchive behind s
  pub archive_is : archive_of s ≡ (taken a list items).archive
  pub list_has_count : ListHasMessageCount (archive_of s) list count
  pub tally_is : tally_of_report report ≡ tally_replies (taken a list items).replies

-- the archive is what these items make of that one, if the connection is open
abbrev pub HoldsAddedItemsIfOpen : State → Archive → List ℕ → List Item → Type 0
HoldsAddedItemsIfOpen s a list items = IsTrue s.is_open → IsArchiveAtRest s × (archive_of s ≡ (taken a list items).archive)

-- Items from one place to another of a list of them, and the report tells of all before.
pub record IsBatchRange (items : List Item) (from to : ℕ) (telling : AddReport) : Type 0 where
  pub to_in_range : to ≤ length items
  pub from_at_most_to : from ≤ to
  pub starts_at_count : reported_count telling ≡ from

-- It came to a place between these, up to which the report tells, or memory or the database was at fault.
abbrev pub StopsAtIndex : Result ℕ StoreFault → (from to : ℕ) → AddReport → Type 0
StopsAtIndex result from to telling = MatchResult result (λ at. (reported_count telling ≡ at) × (from ≤ at) × (at ≤ to)) (λ fault. refusal_of_fault fault ≡ None)

module _ {S : Type 0} (g : Ghosts S) (old new : Held S) where
  abbrev pub AddsOneMessage : Result Taken StoreFault → List ℕ → Item → ℕ → ℕ → Type 0
  AddsOneMessage result list item before after =
      HasCleanDisk (state g new) → (behind : Option Database) → IsOpenArchive behind (state g old) → ListHasMessageCount (archive_of (state g old)) list before
      → MatchResult result (λ taken. AddsMessageToState behind (state g old) (state g new) list item after (added_message_reply taken))
      (λ _. FaultKeepsRowsOrRollsBack behind (state g old) (state g new))

  -- Within a transaction, where the first `from` items are taken: the items up to where it came are taken, which is the end
  -- unless the list is full. After a fault the connection is within it still, or back already, if it is open.
  abbrev pub AddsWithinTransaction : Result ℕ StoreFault → List ℕ → List Item → ℕ → ℕ → ℕ → AddReport → ℕ → AddReport → Type 0
  AddsWithinTransaction result list items from to before told after telling =
      HasCleanDisk (state g new) → (db : Database) (a : Archive) → HoldsAddedItems (Some db) (state g old) a list (take from items) before told
      → MatchResult result
      (λ at. HoldsAddedItems (Some db) (state g new) a list (take at items) after telling × ((at ≡ to) ⊎ IsListFullAt a list items at)) (λ _. IsOpenArchiveOrRolledBack db (state g new))

  -- A transaction of its own: the same, and after a fault the first `from` items are taken, if the connection is open.
  abbrev pub AddsBatch : Result ℕ StoreFault → List ℕ → List Item → ℕ → ℕ → ℕ → AddReport → ℕ → AddReport → Type 0
  AddsBatch result list items from to before told after telling =
      HasCleanDisk (state g new) → (a : Archive) → HoldsAddedItems None (state g old) a list (take from items) before told
      → MatchResult result
      (λ at. HoldsAddedItems None (state g new) a list (take at items) after telling × ((at ≡ to) ⊎ IsListFullAt a list items at)) (λ _. HoldsAddedItemsIfOpen (state g new) a list (take from items))

  -- All items, and the report counts the machine's replies. After a stop the first `done`, those of finished transactions: for
  -- a refusal with its cause, and where memory or the database was at fault, if the connection is still open.
  abbrev pub AddsAllMessages : Result AddReport AddError → List ℕ → List Item → Type 0
  AddsAllMessages result list items = HasCleanDisk (state g new) → IsArchiveAtRest (state g old) →
      let a = archive_of (state g old) in
      MatchResult result
      (λ report. IsArchiveAtRest (state g new) × (archive_of (state g new) ≡ (taken a list items).archive) × (tally_of_report report ≡ tally_replies (taken a list items).replies))
      (λ stop. MatchOption (refusal_of_fault stop.fault) (HoldsAddedItemsIfOpen (state g new) a list (take stop.done items))
      (λ r. IsArchiveAtRest (state g new) × (archive_of (state g new) ≡ (taken a list (take stop.done items)).archive) × IsRefusedAt a list items stop.done r))

module _ {S : Type 0} (g : Ghosts S) (old new : Store S) where
  -- One message more, outside a transaction or within one: what it makes of the rows, or why E15 comes. The machine takes in one that is
  -- refused, where the list is there and holds `before` messages.
  abbrev pub WritesOneMessage : Result Taken StoreFault → List ℕ → Item → ℕ → Type 0
  WritesOneMessage result list item before =
      StoreHasCleanDisk g new → (behind : Option Database) → IsOpenArchive behind (state g (store_connection old)) → HasNoStepLimit g old
      → MatchResult result
      (λ taken. WritesMessageIfAdded list item (added_message_reply taken) (state g (store_connection old)).now (state g (store_connection new)).now)
      (λ fault. fault ≡ faults.Store → DiskHasFailed g old new ⊎ (IsMessageRefused list item (state g (store_connection old)).now
      × (ListHasMessageCount (archive_of (state g (store_connection old))) list before → IsExecutedReply (add_within_limit message_limit (archive_of (state g (store_connection old))) list item).1)))

  -- Items from a place on: where E15 comes, the disk failed, or some of them make of these rows others that refuse the next.
  abbrev pub E15MeansBatchRefused : Option Database → Result ℕ StoreFault → List ℕ → List Item → ℕ → ℕ → AddReport → Database → Type 0
  E15MeansBatchRefused behind result list items from before told rows =
      StoreHasCleanDisk g new → HasNoStepLimit g old → (a : Archive) → HoldsAddedItems behind (state g (store_connection old)) a list (take from items) before told
      → IfErr result (λ fault. fault ≡ faults.Store → DiskHasFailed g old new ⊎ RowsRefuseAnItem list (drop from items) rows)
