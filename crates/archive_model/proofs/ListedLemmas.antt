-- Messages by the names of their lists: the same messages, of which one at most is the first that is not sound.
use Rattle.std.proofs.Common.{◌≡◌, inl, inr, ℕ, List, [], ◌∷◌, ◌++◌, map, length, refl, sym, ap, ap₂, subst, ◌∙◌, arith}
use Rattle.std.specs.Prelude.{zip}
use Rattle.std.specs.List.{All, AllByRecursion}
use Rattle.std.specs.List.Sorted.{IsPermutation}
use Rattle.std.proofs.lemmas.Bool.{cases_Bool}
use Rattle.std.proofs.lemmas.List.Elements.{All-from_recursion, recursion_from_All, All-head, All-tail}
use Rattle.std.proofs.lemmas.List.Sorted.{All-permutation, IsPermutation-refl, IsPermutation-sym, IsPermutation-trans, IsPermutation-cons, IsPermutation-middle}
use Rattle.archive_model.specs.Records.{Message, IndexColumns, Archive}
use Rattle.archive_model.specs.Filing.{IndexedMessage, indexed_messages, message_index_columns}
use Rattle.archive_model.specs.Sound.{IsSoundMessage, HasSoundMessages, IsIndexedCorrectly}
use Rattle.archive_model.specs.Damage.{IsSoundlyIndexed, HasNoDamagedMessage, has_lower_list_name, insert_by_list_name, sort_by_list_name, IsFirstDamaged}

-- ---- the same messages

more_same : (f : IndexedMessage) (gs : List IndexedMessage) → IsPermutation (f ∷ gs) (insert_by_list_name f gs)
more_same f [] = IsPermutation-refl (f ∷ [])
more_same f (g ∷ gs) = elim (cases_Bool (has_lower_list_name g f)) [
  | inl before ↦ rw before (IsPermutation-trans (f ∷ g ∷ gs) (g ∷ f ∷ gs) (g ∷ insert_by_list_name f gs) (IsPermutation-middle (f ∷ []) g gs)
      (IsPermutation-cons g (f ∷ gs) (insert_by_list_name f gs) (more_same f gs)))
  | inr after ↦ rw after (IsPermutation-refl (f ∷ g ∷ gs))
]

pub same_messages : (fs : List IndexedMessage) → IsPermutation fs (sort_by_list_name fs)
same_messages [] = IsPermutation-refl []
same_messages (f ∷ fs) =
    IsPermutation-trans (f ∷ fs) (f ∷ sort_by_list_name fs) (insert_by_list_name f (sort_by_list_name fs))
    (IsPermutation-cons f fs (sort_by_list_name fs) (same_messages fs)) (more_same f (sort_by_list_name fs))

-- whole, where all are sound in that order
pub whole_in_order : (a : Archive) → All IsSoundlyIndexed (sort_by_list_name (indexed_messages a)) → HasNoDamagedMessage a
whole_in_order a all = All-permutation IsSoundlyIndexed (sort_by_list_name (indexed_messages a)) (indexed_messages a)
    (IsPermutation-sym (indexed_messages a) (sort_by_list_name (indexed_messages a)) (same_messages (indexed_messages a))) all

sound_in_order : (a : Archive) → HasNoDamagedMessage a → All IsSoundlyIndexed (sort_by_list_name (indexed_messages a))
sound_in_order a whole = All-permutation IsSoundlyIndexed (indexed_messages a) (sort_by_list_name (indexed_messages a)) (same_messages (indexed_messages a)) whole

-- ---- one answer alone

not_all : (before : List IndexedMessage) (it : IndexedMessage) (after : List IndexedMessage) → All IsSoundlyIndexed (before ++ it ∷ after) → IsSoundlyIndexed it
not_all [] it after all = All-head IsSoundlyIndexed it after all
not_all (f ∷ before) it after all = not_all before it after (All-tail IsSoundlyIndexed f (before ++ it ∷ after) all)

pub not_both : (a : Archive) (list key : List ℕ) → HasNoDamagedMessage a → IsFirstDamaged a list key → ⊥
not_both a list key whole first = first.is_damaged (not_all first.messages_before first.damaged_message first.messages_after (subst (All IsSoundlyIndexed) first.messages_are (sound_in_order a whole)))

head_of : (f g : IndexedMessage) (fs gs : List IndexedMessage) → f ∷ fs ≡ g ∷ gs → f ≡ g
head_of f g fs gs same = cc

tail_of : (f g : IndexedMessage) (fs gs : List IndexedMessage) → f ∷ fs ≡ g ∷ gs → fs ≡ gs
tail_of f g fs gs same = cc

same_first : (xs ys : List IndexedMessage) (x y : IndexedMessage) (us vs : List IndexedMessage) → xs ++ x ∷ us ≡ ys ++ y ∷ vs → All IsSoundlyIndexed xs → All IsSoundlyIndexed ys
    → ¬ IsSoundlyIndexed x → ¬ IsSoundlyIndexed y → x ≡ y
same_first [] [] x y us vs same p q n m = head_of x y us vs same
same_first [] (g ∷ ys) x y us vs same p q n m = absurd (n (subst IsSoundlyIndexed (sym (head_of x g us (ys ++ y ∷ vs) same)) (All-head IsSoundlyIndexed g ys q)))
same_first (f ∷ xs) [] x y us vs same p q n m = absurd (m (subst IsSoundlyIndexed (head_of f y (xs ++ x ∷ us) vs same) (All-head IsSoundlyIndexed f xs p)))
same_first (f ∷ xs) (g ∷ ys) x y us vs same p q n m =
    same_first xs ys x y us vs (tail_of f g (xs ++ x ∷ us) (ys ++ y ∷ vs) same) (All-tail IsSoundlyIndexed f xs p) (All-tail IsSoundlyIndexed g ys q) n m

pub one_first : (a : Archive) (list key other_list other_key : List ℕ) → IsFirstDamaged a list key → IsFirstDamaged a other_list other_key
    → (list ≡ other_list) × (key ≡ other_key)
one_first a list key other_list other_key first other =
    let same = same_first first.messages_before other.messages_before first.damaged_message other.damaged_message first.messages_after other.messages_after
    (sym first.messages_are ∙ other.messages_are) first.sound_before other.sound_before first.is_damaged other.is_damaged in
    (sym first.list_matches ∙ ap (λ (f : IndexedMessage). f.0.list) same ∙ other.list_matches, sym first.key_matches ∙ ap (λ (f : IndexedMessage). f.0.key) same ∙ other.key_matches)

-- ---- whole, and sound with what is filed right

sound_each : (ms : List Message) (fs : List IndexColumns) → length fs ≡ length ms → AllByRecursion IsSoundlyIndexed (zip ms fs)
    → AllByRecursion IsSoundMessage ms × (fs ≡ map message_index_columns ms)
sound_each [] [] same all = (tt, refl)
sound_each [] (f ∷ fs) same all = absurd (omega (arith, same))
sound_each (m ∷ ms) [] same all = absurd (omega (arith, same))
sound_each (m ∷ ms) (f ∷ fs) same all =
    let rest = sound_each ms fs (omega (arith, same)) all.1 in
    ((all.0.message_is_sound, rest.0), ap₂ ◌∷◌ all.0.columns_are_of_text rest.1)

each_sound : (ms : List Message) → AllByRecursion IsSoundMessage ms → AllByRecursion IsSoundlyIndexed (zip ms (map message_index_columns ms))
each_sound [] all = tt
each_sound (m ∷ ms) all = (record { message_is_sound = all.0; columns_are_of_text = refl }, each_sound ms all.1)

pub whole_is_sound : (a : Archive) → length a.index_columns ≡ length a.messages → HasNoDamagedMessage a → HasSoundMessages a × IsIndexedCorrectly a
whole_is_sound a same whole =
    let it = sound_each a.messages a.index_columns same (recursion_from_All IsSoundlyIndexed (indexed_messages a) whole) in
    (All-from_recursion IsSoundMessage a.messages it.0, it.1)

pub sound_is_whole : (a : Archive) → HasSoundMessages a × IsIndexedCorrectly a → HasNoDamagedMessage a
sound_is_whole a it =
    All-from_recursion IsSoundlyIndexed (indexed_messages a)
    (subst (λ fs. AllByRecursion IsSoundlyIndexed (zip a.messages fs)) (sym it.1) (each_sound a.messages (recursion_from_All IsSoundMessage a.messages it.0)))
