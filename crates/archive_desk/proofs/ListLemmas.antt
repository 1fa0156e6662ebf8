-- The index of a view, and what is made of it.
use Rattle.std.proofs.Common.{◌≡◌, sym, ap, ◌∙◌, subst, ℕ, Bool, List, map, Option, Some, None, Result, arith}
use Rattle.archive_port.specs.declared.state.ArchiveState.{Ghosts}
use Rattle.archive_model.specs.Records.{Archive, Message as Remembered}
use Rattle.archive_model.specs.Questions.{merge_of}
use Rattle.archive_port.specs.Told.{HoldsTables, RelatesArchivesUnder, AnswersFromStoreUnder}
use Rattle.archive_port.proofs.Joins.{goes_in_as}
use Rattle.archive_results.specs.Access.{Ask, view_of}
use Rattle.archive_results.specs.Index.{MessageSummary, summary_of}
use Rattle.archive_results.specs.Results.{TreeLine, thread_lines}
use Rattle.archive_results.specs.Shown.{shown_message}
use Rattle.archive_desk.specs.Faults.{RefusalReason, not_in_view, ask_reason, missing_list_reason, refusal_reason}
use Rattle.archive_desk.specs.declared.faults.DeskError.{DeskError}
use Rattle.archive_desk.specs.Listing.{first_refusal_reason, missing_thread_reason, thread_reason}
use Rattle.archive_desk.proofs.AskLemmas.{no_such_list}
use Rattle.archive_desk.proofs.CallLemmas.{asks_after}

-- ---- why a thread is not shown

then_reason : {X : Type 0} (asked : Option RefusalReason) (thread : Option X) → asked ≡ None → first_refusal_reason asked (missing_thread_reason thread) ≡ missing_thread_reason thread
then_reason asked thread e = grind arith

-- the headers of a view, and how its list is threaded
abbrev pub IsIndexed : Archive → Ask → List MessageSummary → (merge : Bool) → Type 0
IsIndexed a ask headers merge = (headers ≡ map summary_of (view_of a ask)) × (merge ≡ merge_of a ask.list)

module _ {S W : Type 0} (g : Ghosts S W) (ask : Ask) where
  -- the list is asked how it is threaded, after the headers are read
  pub index_after : (old mid new : S) (headers : List MessageSummary) (result : Result Bool DeskError)
      → RelatesArchivesUnder g (HoldsTables g) old mid (λ a b. (b ≡ a) × (ask_reason a ask ≡ None) × (headers ≡ map summary_of (view_of a ask)))
      → AnswersFromStoreUnder g (HoldsTables g) mid new refusal_reason result (λ a. missing_list_reason a ask) (λ a merge. merge ≡ merge_of a ask.list)
      → AnswersFromStoreUnder g (HoldsTables g) old new refusal_reason result (λ a. ask_reason a ask) (λ a merge. IsIndexed a ask headers merge)
  index_after old mid new headers =
      asks_after g (HoldsTables g) old mid new refusal_reason (λ a. ask_reason a ask ≡ None) (λ a. headers ≡ map summary_of (view_of a ask)) (λ a. missing_list_reason a ask) (λ a. ask_reason a ask)
      (λ a merge. merge ≡ merge_of a ask.list) (λ a merge. IsIndexed a ask headers merge) (λ a there first none. there) (λ a why there first some. no_such_list a ask why some)
      (λ a merge there first it. (first, it))

module _ {S W : Type 0} (g : Ghosts S W) (old new : S) (ask : Ask) where
  module _ (headers : List MessageSummary) (merge : Bool) (indexed : RelatesArchivesUnder g (HoldsTables g) old new (λ a b. (b ≡ a) × (ask_reason a ask ≡ None) × IsIndexed a ask headers merge)) where
    -- what is made of them
    pub listed_from : (Says : Bool → List Remembered → Type 0) → ((view : List Remembered) → headers ≡ map summary_of view → Says merge view)
        → RelatesArchivesUnder g (HoldsTables g) old new (λ a b. (b ≡ a) × (ask_reason a ask ≡ None) × Says (merge_of a ask.list) (view_of a ask))
    listed_from Says says =
        goes_in_as g (HoldsTables g) old new (λ a b. (b ≡ a) × (ask_reason a ask ≡ None) × IsIndexed a ask headers merge)
        (λ a b. (b ≡ a) × (ask_reason a ask ≡ None) × Says (merge_of a ask.list) (view_of a ask))
        (λ a b h. (h.0, h.1, subst (λ on. Says on (view_of a ask)) h.2.1 (says (view_of a ask) h.2.0))) indexed

    -- the thread of a message
    pub thread_from : (key : List ℕ) (rows : List TreeLine) → ((view : List Remembered) → headers ≡ map summary_of view → Some rows ≡ thread_lines merge key (map shown_message view))
        → RelatesArchivesUnder g (HoldsTables g) old new
        (λ a b. (b ≡ a) × (thread_reason a ask key ≡ None) × (thread_lines (merge_of a ask.list) key (map shown_message (view_of a ask)) ≡ Some rows))
    thread_from key rows says =
        goes_in_as g (HoldsTables g) old new (λ a b. (b ≡ a) × (ask_reason a ask ≡ None) × IsIndexed a ask headers merge)
        (λ a b. (b ≡ a) × (thread_reason a ask key ≡ None) × (thread_lines (merge_of a ask.list) key (map shown_message (view_of a ask)) ≡ Some rows))
        (λ a b h.
        let is = sym (says (view_of a ask) h.2.0 ∙ ap (λ on. thread_lines on key (map shown_message (view_of a ask))) h.2.1) in
        (h.0, then_reason (ask_reason a ask) (thread_lines (merge_of a ask.list) key (map shown_message (view_of a ask))) h.1 ∙ ap missing_thread_reason is, is)) indexed

    -- the view does not hold it
    pub no_thread_from : (key : List ℕ) → ((view : List Remembered) → headers ≡ map summary_of view → None ≡ thread_lines merge key (map shown_message view))
        → RelatesArchivesUnder g (HoldsTables g) old new (λ a b. (b ≡ a) × (thread_reason a ask key ≡ Some not_in_view))
    no_thread_from key says =
        goes_in_as g (HoldsTables g) old new (λ a b. (b ≡ a) × (ask_reason a ask ≡ None) × IsIndexed a ask headers merge)
        (λ a b. (b ≡ a) × (thread_reason a ask key ≡ Some not_in_view))
        (λ a b h.
        let is = sym (says (view_of a ask) h.2.0 ∙ ap (λ on. thread_lines on key (map shown_message (view_of a ask))) h.2.1) in
        (h.0, then_reason (ask_reason a ask) (thread_lines (merge_of a ask.list) key (map shown_message (view_of a ask))) h.1 ∙ ap missing_thread_reason is)) indexed
