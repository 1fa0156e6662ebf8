-- Where the messages of an mbox stand in its bytes (RFC 4155, appendix A: each message is preceded by one separator line and
-- followed by one empty line). Which messages those are says `DividesIntoItems`, where the last one may lack its empty line.
use Rattle.std.specs.Prelude.{◌≡◌, ℕ, ◌+◌, List, [], ◌∷◌, ◌++◌, length, take, drop}
use Rattle.std.specs.List.{AllByRecursion}
use Rattle.mail_core.specs.Lines.{lines, content}
use Rattle.mbox_core.specs.Separator.{IsSeparator}
use Rattle.mbox_core.specs.Division.{Item, IsBlankLine, DividesIntoItems}
use Rattle.luvazhimba_c.specs.declared.messages.LuvMessage.{LuvMessage}

-- From `at` on the bytes are a separator line, the text of the message, an empty line or nothing, and what begins at `next`.
pub record IsMessageAtOffset (bytes : List ℕ) (at : ℕ) (item : Item) (place : LuvMessage) (next : ℕ) : Type 0 where
  pub heading : List ℕ
  pub blank_line : List ℕ
  pub heading_is_first_line : lines (drop at bytes) ≡ heading ∷ lines (drop place.start bytes)
  pub heading_separates : IsSeparator (content heading) item.envelope
  pub is_blank : IsBlankLine blank_line
  pub bytes_are : drop at bytes ≡ heading ++ (item.text ++ (blank_line ++ drop next bytes))
  pub start_is_after_heading : place.start ≡ at + length heading
  pub end_is_after_text : place.end ≡ place.start + length item.text
  pub next_is_after_blank : next ≡ place.end + length blank_line
  pub arrival_is : place.arrival ≡ item.envelope.arrival

-- from `at` on the messages stand one behind the other, and behind the last one nothing stands
abbrev pub AreMessagesFromOffset : List ℕ → ℕ → List Item → List LuvMessage → Type 0
AreMessagesFromOffset bytes at [] [] = drop at bytes ≡ []
AreMessagesFromOffset bytes at [] (place ∷ places) = ⊥
AreMessagesFromOffset bytes at (item ∷ items) [] = ⊥
AreMessagesFromOffset bytes at (item ∷ items) (place ∷ places) = (next : ℕ) × IsMessageAtOffset bytes at item place next × AreMessagesFromOffset bytes next items places

-- The messages of an mbox, in order. In front of the first separator line stand empty lines alone.
pub record ArePlacesOfMessages (bytes : List ℕ) (places : List LuvMessage) : Type 0 where
  pub items : List Item
  pub divides_into_items : DividesIntoItems bytes items
  pub first_offset : ℕ
  pub all_blank : AllByRecursion IsBlankLine (lines (take first_offset bytes))
  pub places_are_of_messages : AreMessagesFromOffset bytes first_offset items places

-- no line, or one that is not empty first
abbrev pub HasNoBlankFirstLine : List (List ℕ) → Type 0
HasNoBlankFirstLine [] = Unit {0}
HasNoBlankFirstLine (l ∷ ls) = ¬ IsBlankLine l
