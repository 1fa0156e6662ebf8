-- Commands keep an archive sound.
use Rattle.std.proofs.Common.{◌≡◌, ℕ, ℤ, Bool, true, false, List, refl, Option, if◌then◌else◌}
use Rattle.std.proofs.lemmas.List.Elements.{All-map, All-push, All-weaker}
use Rattle.mbox_items.specs.Division.{Item, is_empty_or_ends_in_lf, whole}
use Rattle.mbox_items.specs.Written.{IsItem, whole_item}
use Rattle.archive_model.specs.Records.{Message, Archive}
use Rattle.archive_model.specs.Questions.{is_message_at_key}
use Rattle.archive_model.specs.Machine.{new_message, change_at_key, with_changed_message, with_withdrawal, with_embargo}
use Rattle.archive_model.specs.Sound.{IsSoundMessage, HasSoundMessages, AddsWritableItem}
use Rattle.archive_model.proofs.RunLemmas.{EachChangeKeeps}

-- what is used of whole texts: the laws of mbox files
pub record WholeLaws : Type 0 where
  pub whole : (text : List ℕ) → is_empty_or_ends_in_lf (whole text) ≡ true
  pub items : (item : Item) → IsItem item → IsItem (whole_item item)

-- ---- a message that is added, and one that is changed

new_is_sound : WholeLaws → (list : List ℕ) (item : Item) → IsItem item → IsSoundMessage (new_message list item)
new_is_sound laws list item is = record {
  ends_with_newline = laws.whole item.text;
  item_is_writable = laws.items item is;
  key_is_of_text = refl;
}

change_is_sound : (list key : List ℕ) (change : Message → Message) → ((m : Message) → IsSoundMessage m → IsSoundMessage (change m))
    → (m : Message) → IsSoundMessage m → IsSoundMessage (change_at_key list key change m)
change_is_sound list key change keeps m sound = cases (is_message_at_key list key m)
  where
    cases : (b : Bool) → IsSoundMessage (if b then change m else m)
    cases true = keeps m sound
    cases false = sound

changes_are_sound : (a : Archive) (list key : List ℕ) (change : Message → Message) → ((m : Message) → IsSoundMessage m → IsSoundMessage (change m))
    → HasSoundMessages a → HasSoundMessages (with_changed_message a list key change)
changes_are_sound a list key change keeps sound =
    All-map IsSoundMessage (change_at_key list key change) a.messages
    (All-weaker IsSoundMessage (λ m. IsSoundMessage (change_at_key list key change m)) (change_is_sound list key change keeps) a.messages sound)

withdrawal_is_sound : (party : ℤ) (m : Message) → IsSoundMessage m → IsSoundMessage (with_withdrawal party m)
withdrawal_is_sound party m sound = record { ends_with_newline = sound.ends_with_newline; item_is_writable = sound.item_is_writable; key_is_of_text = sound.key_is_of_text }

embargo_is_sound : (until : Option ℤ) (m : Message) → IsSoundMessage m → IsSoundMessage (with_embargo until m)
embargo_is_sound until m sound = record { ends_with_newline = sound.ends_with_newline; item_is_writable = sound.item_is_writable; key_is_of_text = sound.key_is_of_text }

pub soundness : WholeLaws → EachChangeKeeps HasSoundMessages AddsWritableItem
soundness laws = record {
  lists = λ a name named new sound. sound;
  persons = λ a p named told new free sound. sound;
  grants = λ a g sound. sound;
  revokes = λ a person list rank sound. sound;
  messages = λ a list item is new sound. All-push IsSoundMessage a.messages (new_message list item) sound (new_is_sound laws list item is);
  withdrawals = λ a list key party. changes_are_sound a list key (with_withdrawal party) (withdrawal_is_sound party);
  embargoes = λ a list key until. changes_are_sound a list key (with_embargo until) (embargo_is_sound until);
  merges = λ a list merge sound. sound;
  addresses = λ a person address told sound. sound;
}
