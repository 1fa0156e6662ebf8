-- What an author is promised who has a message withdrawn: to others it is as if it had never come.
use Rattle.std.specs.Prelude.{◌≡◌, ◌≢◌, ℕ, ℤ, List, [], map, filter, Some, false, not, Bool, ◌&&◌, bytes_eq}
use Rattle.policy_core.specs.declared.access.Withdrawn.{Withdrawn}
use Rattle.policy_core.specs.declared.access.Withdrawn.TheVariants.{No}
use Rattle.archive_model.specs.Records.{Archive}
use Rattle.archive_model.specs.Commands.{Command, add, withdraw, restore, embargo, lift}
use Rattle.archive_model.specs.Filing.{IndexedMessage, indexed_messages}
use Rattle.archive_model.specs.Keys.{item_key}
use Rattle.archive_model.specs.Lasting.{HoldsForMessageAtKey}
use Rattle.archive_model.specs.Questions.{is_message_at_key}
use Rattle.archive_results.specs.Access.{Ask, ReaderFacts, MessageFacts, reader_facts, is_own_by_address, policy_allows, is_shown}

-- The archive in which no message of this list and key came: the others, and what is filed of them.
abbrev pub without_message : Archive → (list key : List ℕ) → Archive
without_message archive list key = record archive {
  messages = filter (λ m. not (is_message_at_key list key m)) archive.messages;
  index_columns = map (λ (f : IndexedMessage). f.1) (filter (λ (f : IndexedMessage). not (is_message_at_key list key f.0)) (indexed_messages archive));
}

-- what an archive remembers beside its messages
abbrev pub without_all_messages : Archive → Archive
without_all_messages archive = record archive { messages = []; index_columns = [] }

-- the reader is not shown the message
abbrev pub IsMessageHidden : Archive → Ask → (list key : List ℕ) → Type 0
IsMessageHidden archive ask list key = HoldsForMessageAtKey archive list key (λ m. is_shown ask (reader_facts archive ask) m ≡ false)

-- the message is not the reader's own
abbrev pub IsNotOwnMessage : Archive → Ask → (list key : List ℕ) → Type 0
IsNotOwnMessage archive ask list key = HoldsForMessageAtKey archive list key (λ m. is_own_by_address (reader_facts archive ask).address m ≡ false)

-- To this reader the policy denies each message that is withdrawn and not the reader's own: the first rule that fits denies it, or
-- none fits.
abbrev pub DeniesWithdrawn : Ask → ReaderFacts → Type 0
DeniesWithdrawn ask reader = (marks : MessageFacts) → marks.withdrawn ≢ No → marks.own ≡ false → policy_allows ask reader marks ≡ false

-- The same of each that this party withdrew: enough for what it withdrew, also under a policy that names one party alone.
abbrev pub DeniesWithdrawnBy : Withdrawn → Ask → ReaderFacts → Type 0
DeniesWithdrawnBy by ask reader = (marks : MessageFacts) → marks.withdrawn ≡ by → marks.own ≡ false → policy_allows ask reader marks ≡ false

-- the same of each that is held back up to this day
abbrev pub DeniesEmbargoed : (until : ℤ) → Ask → ReaderFacts → Type 0
DeniesEmbargoed until ask reader = (marks : MessageFacts) → marks.embargo_until ≡ Some until → marks.own ≡ false → policy_allows ask reader marks ≡ false

-- Where the message is not the reader's own, and the policy denies this to the reader, the message is withheld.
abbrev pub IsMessageHiddenIfDenied : (Ask → ReaderFacts → Type 0) → Archive → Ask → (list key : List ℕ) → Type 0
IsMessageHiddenIfDenied Denies archive ask list key = IsNotOwnMessage archive ask list key → Denies ask (reader_facts archive ask) → IsMessageHidden archive ask list key

-- It adds the message of this list and key, withdraws or restores it, or sets or lifts its embargo.
abbrev pub is_about_message : (list key : List ℕ) → Command → Bool
is_about_message list key (add other item) = bytes_eq other list && bytes_eq (item_key item) key
is_about_message list key (withdraw other other_key party) = bytes_eq other list && bytes_eq other_key key
is_about_message list key (restore other other_key) = bytes_eq other list && bytes_eq other_key key
is_about_message list key (embargo other other_key until_day) = bytes_eq other list && bytes_eq other_key key
is_about_message list key (lift other other_key) = bytes_eq other list && bytes_eq other_key key
is_about_message list key command = false
