-- The places that a walk holds show the messages that it gives.
use Rattle.std.proofs.Common.{◌≡◌, ◌<◌, ◌+◌, ◌&&◌, ℕ, ℤ, pos, Bool, true, false, List, [], ◌∷◌, ◌++◌, length}
use Rattle.std.proofs.Common.{get_or, take, map, filter, int_lt, Some, refl, ap, ap₂, sym, subst, ◌∙◌, inl, inr, bytes_eq}
use Rattle.std.specs.Prelude.{option_map, slice_get, zip}
use Rattle.std.specs.List.{AllByRecursion}
use Rattle.std.specs.Ordering.{int_eq}
use Rattle.std.proofs.lemmas.Bool.{cases_Bool}
use Rattle.std.proofs.lemmas.List.{append-nil, map_more}
use Rattle.std.proofs.lemmas.List.Elements.{filter-append}
use Rattle.std.proofs.lemmas.Slice.Eq.{bytes_eq-Decides}
use Rattle.std.proofs.lemmas.Option.{slice_get-map, slice_get_read}
use Rattle.archive_model.specs.Filing.{IndexedMessage, indexed_messages, insert_by_indexed_date, is_indexed_by_author}
use Rattle.archive_model.specs.Filing.{is_indexed_in_month, is_sent_before, messages_by_author, messages_in_month, sort_by_indexed_date}
use Rattle.archive_model.specs.Questions.{messages_in}
use Rattle.archive_model.specs.Records.{Archive, Message}
use Rattle.archive_port.specs.Walking.{selected_messages}
use Rattle.archive_port.specs.declared.walking.Selection.{Selection}
use Rattle.archive_port.specs.declared.walking.Selection.TheVariants.{Every, InMonth, ByAuthor}
use Rattle.archive_memory.specs.Entries.{columns_in, indexed_in, message_in}
use Rattle.archive_memory.specs.Selecting.{ShowMessages, ShowsMessage, insert_place_by_date, is_selected, places_in_order, selected_in_order, sort_places_by_date}
use Rattle.archive_memory.specs.State.{archive_in_memory}
use Rattle.archive_memory.specs.declared.archive.MemoryArchive.{MemoryArchive}
use Rattle.archive_memory.specs.declared.entries.MessageEntry.{MessageEntry}
use Rattle.archive_memory.specs.declared.selecting.DatedPlace.{DatedPlace}
use Rattle.archive_memory.proofs.MapLemmas.{filter_map}

module _ (messages : List Message) where
  pub show_more : (ps : List DatedPlace) (fs : List IndexedMessage) (p : DatedPlace) (f : IndexedMessage) → ShowMessages messages ps fs → ShowsMessage messages p f
      → ShowMessages messages (ps ++ p ∷ []) (fs ++ f ∷ [])
  show_more [] [] p f shown one = (one, tt)
  show_more [] (g ∷ gs) p f shown one = absurd shown
  show_more (q ∷ qs) [] p f shown one = absurd shown
  show_more (q ∷ qs) (g ∷ gs) p f shown one = (shown.0, show_more qs gs p f shown.1 one)

  put_shown : (p : DatedPlace) (f : IndexedMessage) (qs : List DatedPlace) (gs : List IndexedMessage) → ShowsMessage messages p f → ShowMessages messages qs gs
      → ShowMessages messages (insert_place_by_date p qs) (insert_by_indexed_date f gs)
  put_shown p f [] [] one shown = (one, tt)
  put_shown p f [] (g ∷ gs) one shown = absurd shown
  put_shown p f (q ∷ qs) [] one shown = absurd shown
  put_shown p f (q ∷ qs) (g ∷ gs) one shown =
      let alike : int_lt q.sent p.sent ≡ is_sent_before g f = ap₂ int_lt shown.0.sent_is one.sent_is in
      elim (cases_Bool (int_lt q.sent p.sent)) [
        | inl before ↦ rw (before, sym alike ∙ before) (shown.0, put_shown p f qs gs one shown.1)
        | inr after ↦ rw (after, sym alike ∙ after) (one, shown)
      ]

  pub show_sorted : (ps : List DatedPlace) (fs : List IndexedMessage) → ShowMessages messages ps fs → ShowMessages messages (sort_places_by_date ps) (sort_by_indexed_date fs)
  show_sorted [] [] shown = tt
  show_sorted [] (f ∷ fs) shown = absurd shown
  show_sorted (p ∷ ps) [] shown = absurd shown
  show_sorted (p ∷ ps) (f ∷ fs) shown = put_shown p f (sort_places_by_date ps) (sort_by_indexed_date fs) shown.0 (show_sorted ps fs shown.1)

  pub show_in_order : (list : List ℕ) (which : Selection) (ps : List DatedPlace) (fs : List IndexedMessage) → ShowMessages messages ps (filter (is_selected list which) fs)
      → ShowMessages messages (places_in_order which ps) (selected_in_order list which fs)
  show_in_order list Every ps fs shown = shown
  show_in_order list (InMonth month) ps fs shown = show_sorted ps (filter (is_selected list (InMonth month)) fs) shown
  show_in_order list (ByAuthor key) ps fs shown = show_sorted ps (filter (is_selected list (ByAuthor key)) fs) shown

  pub shown_at : (ps : List DatedPlace) (fs : List IndexedMessage) → ShowMessages messages ps fs
      → map (λ (p : DatedPlace). slice_get messages p.place) ps ≡ map Some (map (λ (f : IndexedMessage). f.0) fs)
  shown_at [] [] shown = refl
  shown_at [] (f ∷ fs) shown = absurd shown
  shown_at (p ∷ ps) [] shown = absurd shown
  shown_at (p ∷ ps) (f ∷ fs) shown = ap₂ ◌∷◌ shown.0.message_is (shown_at ps fs shown.1)

-- ---- one entry more

module _ (wanted : IndexedMessage → Bool) (entries : List MessageEntry) (i : ℕ) (entry : MessageEntry) (within : i < length entries) (is : entry ≡ get_or entries i entry) (ps : List DatedPlace)
    (so_far : ShowMessages (map message_in entries) ps (filter wanted (map indexed_in (take i entries)))) where
  one_more : filter wanted (map indexed_in (take (i + 1) entries)) ≡ filter wanted (map indexed_in (take i entries)) ++ filter wanted (indexed_in entry ∷ [])
  one_more = ap (filter wanted) (map_more indexed_in entries i entry within ∙ ap (λ e. map indexed_in (take i entries) ++ indexed_in e ∷ []) (sym is))
      ∙ filter-append wanted (map indexed_in (take i entries)) (indexed_in entry ∷ [])

  shows_entry : (p : DatedPlace) → p.place ≡ i → p.sent ≡ entry.columns.sent → ShowsMessage (map message_in entries) p (indexed_in entry)
  shows_entry p at sent = record {
    message_is = ap (slice_get (map message_in entries)) at ∙ slice_get-map message_in entries i
        ∙ ap (λ o. option_map message_in o) (slice_get_read entries (length entries) i entry refl within is);
    sent_is = sent;
  }

  pub place_kept : (p : DatedPlace) → p.place ≡ i → p.sent ≡ entry.columns.sent → wanted (indexed_in entry) ≡ true
      → ShowMessages (map message_in entries) (ps ++ p ∷ []) (filter wanted (map indexed_in (take (i + 1) entries)))
  place_kept p at sent there =
      let kept : filter wanted (indexed_in entry ∷ []) ≡ indexed_in entry ∷ [] = rw there refl in
      subst (ShowMessages (map message_in entries) (ps ++ p ∷ [])) (sym (one_more ∙ ap (λ l. filter wanted (map indexed_in (take i entries)) ++ l) kept))
      (show_more (map message_in entries) ps (filter wanted (map indexed_in (take i entries))) p (indexed_in entry) so_far (shows_entry p at sent))

  pub place_dropped : wanted (indexed_in entry) ≡ false → ShowMessages (map message_in entries) ps (filter wanted (map indexed_in (take (i + 1) entries)))
  place_dropped there =
      let none : filter wanted (indexed_in entry ∷ []) ≡ [] = rw there refl in
      subst (ShowMessages (map message_in entries) ps)
      (sym (one_more ∙ ap (λ l. filter wanted (map indexed_in (take i entries)) ++ l) none ∙ append-nil (filter wanted (map indexed_in (take i entries))))) so_far

-- ---- the messages of the archive

zip_maps : {X A B : Type 0} (f : X → A) (g : X → B) (xs : List X) → zip (map f xs) (map g xs) ≡ map (λ x. (f x, g x)) xs
zip_maps f g [] = refl
zip_maps f g (x ∷ xs) = ap (λ l. (f x, g x) ∷ l) (zip_maps f g xs)

first_maps : (entries : List MessageEntry) → map (λ (f : IndexedMessage). f.0) (map indexed_in entries) ≡ map message_in entries
first_maps [] = refl
first_maps (e ∷ es) = ap (λ l. message_in e ∷ l) (first_maps es)

indexed_are : (memory : MemoryArchive) → indexed_messages (archive_in_memory memory) ≡ map indexed_in memory.messages.items
indexed_are memory = zip_maps message_in columns_in memory.messages.items

pub selected_are : (memory : MemoryArchive) (list : List ℕ) (which : Selection)
    → map (λ (f : IndexedMessage). f.0) (selected_in_order list which (map indexed_in memory.messages.items)) ≡ selected_messages (archive_in_memory memory) list which
selected_are memory list Every =
    filter_map (λ (m : Message). bytes_eq m.list list) (λ (f : IndexedMessage). f.0) (map indexed_in memory.messages.items)
    ∙ ap (filter (λ (m : Message). bytes_eq m.list list)) (first_maps memory.messages.items)
selected_are memory list (InMonth month) =
    ap (λ fs. map (λ (f : IndexedMessage). f.0) (sort_by_indexed_date (filter (is_indexed_in_month list (pos month)) fs))) (sym (indexed_are memory))
selected_are memory list (ByAuthor key) =
    ap (λ fs. map (λ (f : IndexedMessage). f.0) (sort_by_indexed_date (filter (is_indexed_by_author list key.now) fs))) (sym (indexed_are memory))

-- ---- messages of one list

abbrev AreOfList : List ℕ → List Message → Type 0
AreOfList list = AllByRecursion (λ m. bytes_eq m.list list ≡ true)

-- a message among those of a list is of the list
pub is_of_list : (list : List ℕ) (given rest all : List Message) (m : Message) → AreOfList list all → given ++ m ∷ rest ≡ all → m.list ≡ list
is_of_list list given rest all m are joined = (bytes_eq-Decides m.list list).0 (behind given (subst (AreOfList list) (sym joined) are))
  where
    behind : (given : List Message) → AreOfList list (given ++ m ∷ rest) → bytes_eq m.list list ≡ true
    behind [] all = all.0
    behind (g ∷ given) all = behind given all.1

kept_of_list : (list : List ℕ) (ms : List Message) → AreOfList list (filter (λ m. bytes_eq m.list list) ms)
kept_of_list list [] = tt
kept_of_list list (m ∷ ms) = elim (cases_Bool (bytes_eq m.list list)) [
  | inl kept ↦ rw kept (kept, kept_of_list list ms)
  | inr dropped ↦ rw dropped (kept_of_list list ms)
]

mailbox_of_list : (list : List ℕ) (a : Archive) → AreOfList list (messages_in a list)
mailbox_of_list list a = kept_of_list list a.messages

-- the same of what is filed

abbrev AreFiledOf : List ℕ → List IndexedMessage → Type 0
AreFiledOf list = AllByRecursion (λ (f : IndexedMessage). bytes_eq f.0.list list ≡ true)

with_of_list : (list : List ℕ) (f : IndexedMessage) (fs : List IndexedMessage) → bytes_eq f.0.list list ≡ true → AreFiledOf list fs → AreFiledOf list (insert_by_indexed_date f fs)
with_of_list list f [] one all = (one, tt)
with_of_list list f (g ∷ fs) one all = elim (cases_Bool (is_sent_before g f)) [
  | inl before ↦ rw before (all.0, with_of_list list f fs one all.1)
  | inr after ↦ rw after (one, all)
]

sorted_of_list : (list : List ℕ) (fs : List IndexedMessage) → AreFiledOf list fs → AreFiledOf list (sort_by_indexed_date fs)
sorted_of_list list [] all = tt
sorted_of_list list (f ∷ fs) all = with_of_list list f (sort_by_indexed_date fs) all.0 (sorted_of_list list fs all.1)

first_of : (a b : Bool) → (a && b) ≡ true → a ≡ true
first_of true b h = refl
first_of false b h = absurd cc

wanted_of_list : (list : List ℕ) (test : IndexedMessage → Bool) (fs : List IndexedMessage) → AreFiledOf list (filter (λ (f : IndexedMessage). bytes_eq f.0.list list && test f) fs)
wanted_of_list list test [] = tt
wanted_of_list list test (f ∷ fs) = elim (cases_Bool (bytes_eq f.0.list list && test f)) [
  | inl kept ↦ rw kept (first_of (bytes_eq f.0.list list) (test f) kept, wanted_of_list list test fs)
  | inr dropped ↦ rw dropped (wanted_of_list list test fs)
]

messages_of_list : (list : List ℕ) (fs : List IndexedMessage) → AreFiledOf list fs → AreOfList list (map (λ (f : IndexedMessage). f.0) fs)
messages_of_list list [] all = tt
messages_of_list list (f ∷ fs) all = (all.0, messages_of_list list fs all.1)

month_of_list : (list : List ℕ) (month : ℤ) (a : Archive) → AreOfList list (messages_in_month a list month)
month_of_list list month a =
    messages_of_list list (sort_by_indexed_date (filter (is_indexed_in_month list month) (indexed_messages a)))
    (sorted_of_list list (filter (is_indexed_in_month list month) (indexed_messages a)) (wanted_of_list list (λ (f : IndexedMessage). int_eq f.1.month month) (indexed_messages a)))

author_of_list : (list key : List ℕ) (a : Archive) → AreOfList list (messages_by_author a list key)
author_of_list list key a =
    messages_of_list list (sort_by_indexed_date (filter (is_indexed_by_author list key) (indexed_messages a)))
    (sorted_of_list list (filter (is_indexed_by_author list key) (indexed_messages a)) (wanted_of_list list (λ (f : IndexedMessage). bytes_eq f.1.author key) (indexed_messages a)))

-- whichever they are
pub selected_of_list : (list : List ℕ) (which : Selection) (a : Archive) → AreOfList list (selected_messages a list which)
selected_of_list list Every a = mailbox_of_list list a
selected_of_list list (InMonth month) a = month_of_list list (pos month) a
selected_of_list list (ByAuthor key) a = author_of_list list key.now a
