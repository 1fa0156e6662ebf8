-- Ids that stand in one list of bytes: more bytes behind the others change none of them.
use Rattle.std.proofs.Common.{◌≡◌, ℕ, suc, ◌+◌, ◌-◌, ◌<◌, ◌≤◌, List, [], ◌∷◌, ◌++◌, length, map, take, drop, get_or, refl, sym, ap, ◌∙◌, arith, Result, Ok, Err, OnErr, length-drop, length-append}
use Rattle.std.proofs.lemmas.List.{take-append-le, drop-append-le, map-append, get_or-map}
use Rattle.std.proofs.lemmas.List.Elements.{All-push}
use Rattle.mail_core.specs.MsgIds.{MessageId}
use Rattle.mail_core.specs.Places.{between, id_at_place, ids_at_places, IsPlaceWithin, ArePlacesWithin, IsPrefixOfBytes}
use Rattle.mail_core.specs.declared.references.Place.{Place}

between_more : (bytes more : List ℕ) (from to : ℕ) → from ≤ to → to ≤ length bytes → between (bytes ++ more) from to ≡ between bytes from to
between_more bytes more from to low high =
    ap (take (to - from)) (drop-append-le from bytes more (omega (arith, low, high)))
    ∙ take-append-le (to - from) (drop from bytes) more fits
  where
    fits : to - from ≤ length (drop from bytes)
    fits = simp length-drop (omega (arith, low, high))

there_more : (bytes more : List ℕ) (place : Place) → IsPlaceWithin (length bytes) place → id_at_place (bytes ++ more) place ≡ id_at_place bytes place
there_more bytes more place w = λ i. record {
  left = between_more bytes more place.start place.middle w.start_at_most_middle (omega (arith, w.middle_at_most_end, w.end_in_range)) i;
  right = between_more bytes more place.middle place.end w.middle_at_most_end w.end_in_range i;
}

all_more : (bytes more : List ℕ) (places : List Place) → ArePlacesWithin (length bytes) places → ids_at_places (bytes ++ more) places ≡ ids_at_places bytes places
all_more bytes more [] h = refl
all_more bytes more (place ∷ places) h = λ i.
    there_more bytes more place (h 0 place (omega arith)) i ∷ all_more bytes more places (λ k d lt. h (suc k) d (omega (arith, lt))) i

pub same_there : (old new : List ℕ) (places : List Place) → IsPrefixOfBytes old new → ArePlacesWithin (length old) places → ids_at_places new places ≡ ids_at_places old places
same_there old new places begun h = ap (λ (bytes : List ℕ). ids_at_places bytes places) begun.1 ∙ all_more old begun.0 places h

pub within_more : (old new : List ℕ) (places : List Place) → IsPrefixOfBytes old new → ArePlacesWithin (length old) places → ArePlacesWithin (length new) places
within_more old new places begun h = λ k d lt. let w = h k d lt in record {
  start_at_most_middle = w.start_at_most_middle;
  middle_at_most_end = w.middle_at_most_end;
  end_in_range = omega (arith, w.end_in_range, ap length begun.1, length-append old begun.0);
}

-- one place more
pub within_push : (old new : List ℕ) (places after : List Place) (place : Place) → IsPrefixOfBytes old new → ArePlacesWithin (length old) places
    → IsPlaceWithin (length new) place → after ≡ places ++ place ∷ [] → ArePlacesWithin (length new) after
within_push old new places after place begun h w is =
    rw is (All-push (IsPlaceWithin (length new)) places place (within_more old new places begun h) w)

pub ids_push : (old new : List ℕ) (places after : List Place) (place : Place) (ids : List MessageId) (id : MessageId) → IsPrefixOfBytes old new → ArePlacesWithin (length old) places
    → id_at_place new place ≡ id → after ≡ places ++ place ∷ [] → ids_at_places old places ≡ ids → ids_at_places new after ≡ ids ++ id ∷ []
ids_push old new places after place ids id begun h there is seen =
    ap (ids_at_places new) is ∙ map-append (id_at_place new) places (place ∷ [])
    ∙ (λ i. (same_there old new places begun h ∙ seen) i ++ there i ∷ [])

pub id_got : (bytes : List ℕ) (places : List Place) (place : Place) (ids : List MessageId) (at : ℕ) (id other : MessageId) → at < length places
    → place ≡ get_or places at place → id ≡ id_at_place bytes place → ids_at_places bytes places ≡ ids → id ≡ get_or ids at other
id_got bytes places place ids at id other lt is there seen =
    there ∙ ap (id_at_place bytes) is ∙ sym (get_or-map (id_at_place bytes) places at place other lt) ∙ ap (λ (l : List MessageId). get_or l at other) seen

pub on_err : {A E : Type 0} (r : Result A E) (P : Type 0) → P → OnErr r P
on_err (Ok x) P p = tt
on_err (Err e) P p = p
