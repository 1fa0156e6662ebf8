-- Which messages an archive holds that are not sound, and which is the first of them.
use Rattle.std.specs.Prelude.{◌≡◌, Bool, ℕ, List, [], ◌∷◌, ◌++◌, if◌then◌else◌}
use Rattle.std.specs.List.{All}
use Rattle.std.specs.Cmp.Lexicographic.{slice_cmp}
use Rattle.std.specs.Ordering.{is_lt, nat_cmp}
use Rattle.archive_model.specs.Records.{Archive}
use Rattle.archive_model.specs.Filing.{IndexedMessage, indexed_messages, message_index_columns}
use Rattle.archive_model.specs.Sound.{IsSoundMessage}

-- its sender, arrival and text make a complete item, its key is that text's, and what is filed of it is what its text says
pub record IsSoundlyIndexed (f : IndexedMessage) : Type 0 where
  pub message_is_sound : IsSoundMessage f.0
  pub columns_are_of_text : f.1 ≡ message_index_columns f.0

-- every message is undamaged: it can be written, its key is its text's, and it is filed by what its text says
abbrev pub HasNoDamagedMessage : Archive → Type 0
HasNoDamagedMessage archive = All IsSoundlyIndexed (indexed_messages archive)

-- ---- lists by the bytes of their names

abbrev pub has_lower_list_name : IndexedMessage → IndexedMessage → Bool
has_lower_list_name f g = is_lt (slice_cmp nat_cmp f.0.list g.0.list)

-- a message before the first that no list of a lower name holds
abbrev pub insert_by_list_name : IndexedMessage → List IndexedMessage → List IndexedMessage
insert_by_list_name f [] = f ∷ []
insert_by_list_name f (g ∷ gs) = if has_lower_list_name g f then g ∷ insert_by_list_name f gs else f ∷ g ∷ gs

-- By the names of their lists; those of one list stay in their order.
abbrev pub sort_by_list_name : List IndexedMessage → List IndexedMessage
sort_by_list_name [] = []
sort_by_list_name (f ∷ fs) = insert_by_list_name f (sort_by_list_name fs)

-- ---- the first that is not sound, lists by name and then in mailbox order, is of this list and key

-- Profile: a check names this message of all damaged ones: the first, lists in the byte order of their names, each list in
-- mailbox order.
pub record IsFirstDamaged (archive : Archive) (list key : List ℕ) : Type 0 where
  pub messages_before : List IndexedMessage
  pub damaged_message : IndexedMessage
  pub messages_after : List IndexedMessage
  pub messages_are : sort_by_list_name (indexed_messages archive) ≡ messages_before ++ damaged_message ∷ messages_after
  pub sound_before : All IsSoundlyIndexed messages_before
  pub is_damaged : ¬ IsSoundlyIndexed damaged_message
  pub list_matches : damaged_message.0.list ≡ list
  pub key_matches : damaged_message.0.key ≡ key
