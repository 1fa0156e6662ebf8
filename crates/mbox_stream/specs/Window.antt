-- What a cutter keeps while more may be fed: the bytes that are not decided, and the message that is open before them.
use Rattle.std.specs.Prelude.{◌≡◌, ◌<◌, ◌≤◌, ◌^◌, ℕ, List, [], ◌∷◌, ◌++◌, length, take, drop, true, Some, None, codes}
use Rattle.std.specs.List.{AllByRecursion}
use Rattle.memchr.specs.Find.{OccursAt}
use Rattle.mail_core.specs.Lines.{lines, content}
use Rattle.mbox_core.specs.Separator.{Envelope, separator_of}
use Rattle.mbox_core.specs.Division.{Item, IsBlankLine, NoneSeparates, EndsUnblank, is_blank_line, items_after_separator}
use Rattle.mbox_stream.specs.Stream.{settled_bytes, file_items}

-- the bytes end in LF, or there is none
abbrev pub HoldsWholeLines : List ℕ → Type 0
HoldsWholeLines bytes = settled_bytes bytes ≡ bytes

-- an LF, and what a separator line begins with
abbrev pub lf_and_from : List ℕ
lf_and_from = 10 ∷ codes "From "

-- ---- before the first separator line

-- Blank lines alone went by, and so many bytes were counted.
pub record IsBeforeFirstMessage (stream window : List ℕ) (skipped : ℕ) (items : List Item) : Type 0 where
  pub bytes_before : List ℕ
  pub stream_is : stream ≡ bytes_before ++ window
  pub whole_lines : HoldsWholeLines bytes_before
  pub all_blank : AllByRecursion IsBlankLine (lines bytes_before)
  pub skipped_is_length : length stream < 2 ^ 64 → skipped ≡ length bytes_before
  pub no_item_yet : items ≡ []

-- blank whole lines up to this place, and no whole line after it
pub record SkipsBlankLinesTo (bytes : List ℕ) (at : ℕ) : Type 0 where
  pub at_in_range : at ≤ length bytes
  pub whole_lines : HoldsWholeLines (take at bytes)
  pub all_blank : AllByRecursion IsBlankLine (lines (take at bytes))
  pub nothing_settled_after : settled_bytes (drop at bytes) ≡ []

-- blank whole lines, and then a separator line up to this place
pub record OpensFirstMessage (bytes : List ℕ) (at : ℕ) (envelope : Envelope) : Type 0 where
  pub at_in_range : at ≤ length bytes
  pub blanks : List ℕ
  pub line : List ℕ
  pub bytes_are : take at bytes ≡ blanks ++ line
  pub whole_lines : HoldsWholeLines blanks
  pub whole_line : HoldsWholeLines line
  pub one_line : lines line ≡ line ∷ []
  pub all_blank : AllByRecursion IsBlankLine (lines blanks)
  pub line_separates : separator_of (content line) ≡ Some envelope

-- ---- while a message is open

-- Whole lines went by. Whatever follows them, the items are those given and then those of the open message and what follows.
pub record IsOpenMessageWindow (now : Envelope) (stream window : List ℕ) (items : List Item) : Type 0 where
  pub bytes_before : List ℕ
  pub stream_is : stream ≡ bytes_before ++ window
  pub whole_lines : HoldsWholeLines bytes_before
  pub items_after_more : (more : List ℕ) → file_items (bytes_before ++ more) ≡ items ++ items_after_separator (Some now) more

-- what is cut off the front of the window: whole lines, after which the next message is open
pub record EndsOpenMessage (now next : Envelope) (front : List ℕ) (item : Item) : Type 0 where
  pub whole_lines : HoldsWholeLines front
  pub items : (more : List ℕ) → items_after_separator (Some now) (front ++ more) ≡ item ∷ items_after_separator (Some next) more

-- No separating line begins before this place, whatever follows: whole lines stand in front of it that hold none and end in
-- one that is not blank, and from there on no mark.
pub record IsSearchedUpTo (bytes : List ℕ) (from : ℕ) : Type 0 where
  pub front : List ℕ
  pub unsearched : List ℕ
  pub bytes_are : bytes ≡ front ++ unsearched
  pub whole_lines : HoldsWholeLines front
  pub no_line_separates : NoneSeparates (lines front)
  pub ends_unblank : EndsUnblank (lines front)
  pub from_behind_front : length front ≤ from
  pub from_in_range : from ≤ length bytes
  pub no_mark_before : (more : List ℕ) (k : ℕ) → length front ≤ k → k < from → ¬ OccursAt (bytes ++ more) lf_and_from k

-- A line says an envelope and follows an empty line: the text before these two, and the envelope.
pub record SeparatesAfterBlankLine (front line text : List ℕ) (next : Envelope) : Type 0 where
  pub blank_line : List ℕ
  pub is_empty : is_blank_line blank_line ≡ true
  pub are_lines : lines front ≡ lines text ++ blank_line ∷ []
  pub line_separates : separator_of (content line) ≡ Some next

-- A line follows a line, and does not separate.
pub record IsNonSeparatingLine (front line : List ℕ) : Type 0 where
  pub lines_before : List (List ℕ)
  pub last : List ℕ
  pub are_lines : lines front ≡ lines_before ++ last ∷ []
  pub no_separator_after_blank : is_blank_line last ≡ true → separator_of (content line) ≡ None

-- The first `len` bytes end with the first separating line, which ends the message of this text.
pub record CutsAtFirstSeparator (bytes : List ℕ) (len : ℕ) (text : List ℕ) (next : Envelope) : Type 0 where
  pub len_is_positive : 0 < len
  pub len_in_range : len ≤ length bytes
  pub no_line_separates : NoneSeparates (lines text)
  pub ends_open_message : (now : Envelope) → EndsOpenMessage now next (take len bytes) (record { envelope = now; text = text })
