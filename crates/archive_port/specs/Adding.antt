-- Messages added to one list: what is reported, and how many of them were added where the call stopped.
use Rattle.std.specs.Prelude.{IsTrue, ◌≡◌, ℕ, ◌+◌, ◌<◌, ◌≤◌, false, List, [], ◌∷◌, ◌++◌, length, take, Result, MatchResult, MatchOption}
use Rattle.std.specs.List.{sum_by}
use Rattle.mbox_items.specs.Division.{Item}
use Rattle.archive_model.specs.Records.{Archive}
use Rattle.archive_model.specs.Commands.{Refusal, no_list, list_full, refused}
use Rattle.archive_model.specs.Questions.{has_list, messages_in}
use Rattle.archive_model.specs.Runs.{taken, Tally, tally_replies}
use Rattle.archive_port.specs.Replies.{refusal_of_fault}
use Rattle.archive_port.specs.declared.state.ArchiveState.{Ghosts}
use Rattle.archive_port.specs.declared.reports.AddError.{AddError}
use Rattle.archive_port.specs.declared.reports.AddReport.{AddReport}

abbrev pub tally_of_report : AddReport → Tally
tally_of_report r = record { new = r.new; known = r.known; too_large = r.too_large }

-- how many messages a report tells of
abbrev pub reported_count : AddReport → ℕ
reported_count r = r.new + r.known + r.too_large

-- the bytes of their texts, as they stand in a file
abbrev pub total_text_bytes : List Item → ℕ
total_text_bytes = sum_by (λ (item : Item). length item.text)

-- the first `done` items were added, and no other
abbrev pub HasAddedFirstItems : List ℕ → List Item → ℕ → Archive → Archive → Type 0
HasAddedFirstItems list items done a b = (done ≤ length items) × (b ≡ (taken a list (take done items)).archive)

-- after the items before this place the list holds 50,000 messages, and the machine refuses the next for that
pub record IsListFullAt (a : Archive) (list : List ℕ) (items : List Item) (at : ℕ) : Type 0 where
  pub at_in_range : at < length items
  pub list_is_full : 50000 ≤ length (messages_in (taken a list (take at items)).archive list)
  pub item_is_refused : (taken a list (take (at + 1) items)).replies ≡ (taken a list (take at items)).replies ++ refused list_full ∷ []

-- why items are refused from this place on
abbrev pub IsRefusedAt : Archive → List ℕ → List Item → ℕ → Refusal → Type 0
IsRefusedAt a list items at no_list = (at ≡ 0) × (has_list a list ≡ false)
IsRefusedAt a list items at list_full = IsListFullAt a list items at
IsRefusedAt a list items at _ = ⊥

-- so many first messages were added, at least `done`
abbrev pub HasAddedAtLeast : List ℕ → List Item → ℕ → Archive → Archive → Type 0
HasAddedAtLeast list items done a b = (at : ℕ) × (done ≤ at) × HasAddedFirstItems list items at a b

-- Some of the messages make of what is held what refuses the next of them, which the machine takes in.
pub record RefusesAnItem {S W : Type 0} (g : Ghosts S W) (store : S) (list : List ℕ) (items : List Item) : Type 0 where
  pub items_before : List Item
  pub item : Item
  pub items_after : List Item
  pub items_are : items_before ++ item ∷ items_after ≡ items
  pub is_refused : g.refuses_after store list items_before item

module _ {S W : Type 0} (g : Ghosts S W) (old new : S) where
  -- All items, and the report counts the machine's replies. After a stop the first `done`, those of finished transactions: for a refusal
  -- with its cause, and where memory or the disk was at fault, if it is still open.
  abbrev pub AddsAllMessages : Result AddReport AddError → List ℕ → List Item → Type 0
  AddsAllMessages result list items = g.has_clean_disk new → g.is_at_rest old →
      let a = g.archive old in
      MatchResult result
      (λ report. g.is_at_rest new × (g.archive new ≡ (taken a list items).archive) × (tally_of_report report ≡ tally_replies (taken a list items).replies))
      (λ stop. MatchOption (refusal_of_fault stop.fault) (IsTrue (g.is_open new) → g.is_at_rest new × (g.archive new ≡ (taken a list (take stop.done items)).archive))
      (λ r. g.is_at_rest new × (g.archive new ≡ (taken a list (take stop.done items)).archive) × IsRefusedAt a list items stop.done r))
