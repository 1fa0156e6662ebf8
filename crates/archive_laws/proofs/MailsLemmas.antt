-- The mbox of a list tells all that is shown of it.
use Rattle.std.proofs.Common.{◌≡◌, ◌∙◌, ℕ, List, [], ◌∷◌, map, bytes_eq, true, refl, sym, ap, subst}
use Rattle.std.specs.List.{All}
use Rattle.std.proofs.lemmas.List.Elements.{All-head, All-tail, All-filter, All-map, All-weaker}
use Rattle.mbox_items.specs.Division.{Item, DividesIntoItems, is_empty_or_ends_in_lf}
use Rattle.mbox_items.specs.Written.{IsItem, whole_item}
use Rattle.mbox_core.proofs.DivisionLaws.{each_text_has_at_most_one_division}
use Rattle.mbox_core.proofs.WrittenLaws.{written_messages_are_cut_again}
use Rattle.archive_model.specs.Records.{Archive, Message}
use Rattle.archive_model.specs.Questions.{messages_in}
use Rattle.archive_model.specs.Keys.{key_of}
use Rattle.archive_model.specs.Sound.{HasSoundMessages, IsSoundMessage}
use Rattle.archive_results.specs.Access.{Ask, is_shown, reader_facts, view_of}
use Rattle.archive_results.specs.Shown.{ShownMessage, shown_message}
use Rattle.archive_results.specs.Results.{export_text}
use Rattle.archive_pages.specs.Answers.{shown_view}

-- what is shown of a message that is sound
pub record IsSoundShown (s : ShownMessage) : Type 0 where
  pub complete : is_empty_or_ends_in_lf s.item.text ≡ true
  pub item : IsItem s.item
  pub key : s.key ≡ key_of s.item.text

sound_shown : (m : Message) → IsSoundMessage m → IsSoundShown (shown_message m)
sound_shown m sound = record { complete = sound.ends_with_newline; item = sound.item_is_writable; key = sound.key_is_of_text }

pub all_sound : (archive : Archive) (ask : Ask) → HasSoundMessages archive → All IsSoundShown (shown_view archive ask)
all_sound archive ask sound =
    All-map IsSoundShown shown_message (view_of archive ask)
    (All-weaker IsSoundMessage (λ m. IsSoundShown (shown_message m)) sound_shown (view_of archive ask)
    (All-filter (is_shown ask (reader_facts archive ask)) IsSoundMessage (messages_in archive ask.list)
    (All-filter (λ (m : Message). bytes_eq m.list ask.list) IsSoundMessage archive.messages sound)))

-- ---- from the items of a view

abbrev items : List ShownMessage → List Item
items view = map (λ s. s.item) view

shown_again : Item → ShownMessage
shown_again item = record { key = key_of item.text; item = item }

from_items : (view : List ShownMessage) → All IsSoundShown view → view ≡ map shown_again (items view)
unfolding shown_again
from_items [] all = refl
from_items (s ∷ view) all = rw (← first s (All-head IsSoundShown s view all)) (ap (λ rest. s ∷ rest) (from_items view (All-tail IsSoundShown s view all)))
  where
    first : (s : ShownMessage) → IsSoundShown s → s ≡ record { key = key_of s.item.text; item = s.item }
    first s sound = rw (← sound.key) refl

whole_again : (item : Item) → is_empty_or_ends_in_lf item.text ≡ true → whole_item item ≡ item
whole_again item complete = rw complete refl

all_whole : (view : List ShownMessage) → All IsSoundShown view → map whole_item (items view) ≡ items view
all_whole [] all = refl
all_whole (s ∷ view) all =
    rw (whole_again s.item (All-head IsSoundShown s view all).complete, all_whole view (All-tail IsSoundShown s view all)) refl

all_items : (view : List ShownMessage) → All IsSoundShown view → All IsItem (items view)
all_items view all = All-map IsItem (λ s. s.item) view (All-weaker IsSoundShown (λ s. IsItem s.item) (λ s sound. sound.item) view all)

divided : (view : List ShownMessage) → All IsSoundShown view → DividesIntoItems (export_text view) (items view)
divided view all = subst (DividesIntoItems (export_text view)) (all_whole view all) (written_messages_are_cut_again (items view) (all_items view all))

pub mbox_tells_view : (v w : List ShownMessage) → All IsSoundShown v → All IsSoundShown w → export_text v ≡ export_text w → v ≡ w
mbox_tells_view v w hv hw e =
    from_items v hv
    ∙ ap (map shown_again) (each_text_has_at_most_one_division (export_text w) (items v) (items w) (subst (λ (text : List ℕ). DividesIntoItems text (items v)) e (divided v hv)) (divided w hw))
    ∙ sym (from_items w hw)
