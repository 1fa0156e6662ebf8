-- Which messages a walk gives, by their places.
use Rattle.std.specs.Prelude.{◌≡◌, ⊤, ℕ, pos, int_lt, Bool, List, [], ◌∷◌, Some, bytes_eq, filter, slice_get, if◌then◌else◌}
use Rattle.archive_model.specs.Records.{Message}
use Rattle.archive_model.specs.Filing.{IndexedMessage, is_indexed_by_author, is_indexed_in_month, sort_by_indexed_date}
use Rattle.archive_port.specs.declared.walking.Selection.{Selection}
use Rattle.archive_port.specs.declared.walking.Selection.TheVariants.{Every, InMonth, ByAuthor}
use Rattle.archive_memory.specs.declared.selecting.DatedPlace.{DatedPlace}

-- ---- messages

abbrev pub is_selected : List ℕ → Selection → IndexedMessage → Bool
is_selected list Every f = bytes_eq f.0.list list
is_selected list (InMonth month) f = is_indexed_in_month list (pos month) f
is_selected list (ByAuthor key) f = is_indexed_by_author list key.now f

-- in mailbox order, or by the sent date that is filed
abbrev pub selected_in_order : List ℕ → Selection → List IndexedMessage → List IndexedMessage
selected_in_order list Every fs = filter (is_selected list Every) fs
selected_in_order list (InMonth month) fs = sort_by_indexed_date (filter (is_selected list (InMonth month)) fs)
selected_in_order list (ByAuthor key) fs = sort_by_indexed_date (filter (is_selected list (ByAuthor key)) fs)

-- ---- places

-- at this place is this message, and this is its sent date
pub record ShowsMessage (messages : List Message) (dated : DatedPlace) (f : IndexedMessage) : Type 0 where
  pub message_is : slice_get messages dated.place ≡ Some f.0
  pub sent_is : dated.sent ≡ f.1.sent

-- these places show these messages, one after the other
abbrev pub ShowMessages : List Message → List DatedPlace → List IndexedMessage → Type 0
ShowMessages messages [] [] = ⊤
ShowMessages messages [] (f ∷ fs) = ⊥
ShowMessages messages (p ∷ ps) [] = ⊥
ShowMessages messages (p ∷ ps) (f ∷ fs) = ShowsMessage messages p f × ShowMessages messages ps fs

-- a place before the first that was not sent before it
abbrev pub insert_place_by_date : DatedPlace → List DatedPlace → List DatedPlace
insert_place_by_date p [] = p ∷ []
insert_place_by_date p (q ∷ qs) = if int_lt q.sent p.sent then q ∷ insert_place_by_date p qs else p ∷ q ∷ qs

-- by sent date; those of one sent date stay in their order
abbrev pub sort_places_by_date : List DatedPlace → List DatedPlace
sort_places_by_date [] = []
sort_places_by_date (p ∷ ps) = insert_place_by_date p (sort_places_by_date ps)

-- in mailbox order as they are, or by sent date
abbrev pub places_in_order : Selection → List DatedPlace → List DatedPlace
places_in_order Every ps = ps
places_in_order (InMonth month) ps = sort_places_by_date ps
places_in_order (ByAuthor key) ps = sort_places_by_date ps
