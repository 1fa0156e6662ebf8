-- Worked examples of messages that are not sound.
use Rattle.std.proofs.Common.{◌≡◌, ℕ, ℤ, pos, List, [], ◌∷◌, None, refl, ap, ◌∙◌, codes}
use Rattle.std.proofs.lemmas.List.Elements.{All-nil}
use Rattle.mail_core.specs.Lines.{lines, content, is_empty_line}
use Rattle.mail_core.specs.Fields.{header_blocks, fields_of}
use Rattle.archive_model.specs.Records.{Message, IndexColumns}
use Rattle.archive_model.specs.Filing.{IndexedMessage, message_index_columns}
use Rattle.archive_model.specs.Damage.{IsSoundlyIndexed, sort_by_list_name, IsFirstDamaged}

-- a message of this list, key and text, which arrived on 1970-01-01
abbrev message : (list key text : List ℕ) → Message
message list key text = record {
  list = list;
  key = key;
  sender = codes "a@b";
  arrival = pos 0;
  text = text;
  withdrawn = pos 0;
  embargo = None;
}

-- filed under this month
abbrev under : ℤ → Message → IndexedMessage
under month m = (m, record { sent = pos 0; month = month; author = [] })

-- ---- lists by name, and mailbox order within a list

abbrev of_list : (list key : List ℕ) → IndexedMessage
of_list list key = under (pos 23640) (message list key (codes "\n"))

in_order : sort_by_list_name (of_list (codes "soc") (codes "1") ∷ of_list (codes "b") (codes "2") ∷ of_list (codes "soc") (codes "3") ∷ of_list (codes "a.b") (codes "4") ∷ [])
    ≡ of_list (codes "a.b") (codes "4") ∷ of_list (codes "b") (codes "2") ∷ of_list (codes "soc") (codes "1") ∷ of_list (codes "soc") (codes "3") ∷ []
in_order = refl

-- ---- what is not sound

-- a text that does not end in LF
cut_off : (list key : List ℕ) (month : ℤ) → ¬ IsSoundlyIndexed (under month (message list key (codes "hello")))
cut_off list key month sound = absurd (let cut = sound.message_is_sound.ends_with_newline in cc)

-- one that is filed under an author whom its text does not name
its_author : (list key : List ℕ) → (message_index_columns (message list key (codes "\n"))).author ≡ []
unfolding fields_of header_blocks lines content is_empty_line
its_author list key = refl

of_another : (list key : List ℕ) → ¬ IsSoundlyIndexed (message list key (codes "\n"), record { sent = pos 0; month = pos 23640; author = codes "x" })
of_another list key sound = not_same (ap (λ (f : IndexColumns). f.author) sound.columns_are_of_text ∙ its_author list key)
  where
    not_same : codes "x" ≡ [] → ⊥
    not_same e = absurd cc

-- the list of the lower name counts first, though its message came later
of_two : IsFirstDamaged (record {
  lists = [];
  persons = [];
  grants = [];
  messages = message (codes "soc") (codes "1") (codes "hello") ∷ message (codes "a") (codes "2") (codes "hello") ∷ [];
  index_columns = record { sent = pos 0; month = pos 0; author = [] } ∷ record { sent = pos 0; month = pos 0; author = [] } ∷ [];
  options = [];
  addresses = [];
}) (codes "a") (codes "2")
of_two = record {
  messages_before = [];
  damaged_message = under (pos 0) (message (codes "a") (codes "2") (codes "hello"));
  messages_after = under (pos 0) (message (codes "soc") (codes "1") (codes "hello")) ∷ [];
  messages_are = refl;
  sound_before = All-nil IsSoundlyIndexed;
  is_damaged = cut_off (codes "a") (codes "2") (pos 0);
  list_matches = refl;
  key_matches = refl;
}
