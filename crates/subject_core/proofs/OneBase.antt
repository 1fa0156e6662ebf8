-- The removals end at one base.
use Rattle.std.proofs.Common.{◌≡◌, ℕ, zero, suc, ◌≤◌, Bool, true, false, List, [], ◌∷◌, ◌++◌, length, refl, arith, ap, ◌∙◌, sym, Option, Some, None, append_assoc, subst, ◌⊎◌, inl, inr, take, drop}
use Rattle.std.specs.Prelude.{codes}
use Rattle.std.specs.Option.{option_map}
use Rattle.subject_core.specs.Spaces.{with_single_spaces}
use Rattle.subject_core.specs.Pieces.{AreSpaces, ascii_lowercase}
use Rattle.subject_core.specs.Removal.{StrippedSubject, stripped_subject, after_literal, after_leader, without_trailer, without_leader}
use Rattle.subject_core.specs.BaseSubject.{HasTrailer, RemovesPieces, HasNothingToRemove, IsBaseSubject, after_one_removal}
use Rattle.subject_core.specs.BaseSubject.{with_earlier_reply, after_bounded_removals, after_all_removals, base_subject_of, is_reply}
use Rattle.subject_core.specs.BaseSubject.RemovesPieces.{here, further}
use Rattle.subject_core.proofs.Options.{or_some, map_some, is_none}
use Rattle.subject_core.proofs.Removals.{at_space}
use Rattle.subject_core.proofs.Rests.{next-leader, next_sound, next_complete, next_shorter, IsNext, no_trailer_behind, within-done, within-more, rest-done, rest-next, empty_done}

pub is_done : (t : List ℕ) → after_one_removal t ≡ None → HasNothingToRemove t
is_done t h m u g = let x = next_complete t u m g in let e : None ≡ Some (stripped_subject m x.rest) = sym h ∙ x.next in cc

pub next-done : (t : List ℕ) → HasNothingToRemove t → after_one_removal t ≡ None
next-done t d = is_none (after_one_removal t) (λ (w : StrippedSubject) (e : after_one_removal t ≡ Some w). d w.reply w.text (next_sound t w e))

pub reaches : (n : ℕ) (t : List ℕ) → RemovesPieces t (after_bounded_removals n t).reply (after_bounded_removals n t).text
unfolding after_bounded_removals
reaches zero t = here
reaches (suc n) t = go (reaches n) (after_one_removal t) refl
  where
    go : ((t : List ℕ) → RemovesPieces t (after_bounded_removals n t).reply (after_bounded_removals n t).text) → (o : Option StrippedSubject) → after_one_removal t ≡ o
        → RemovesPieces t (after_bounded_removals (suc n) t).reply (after_bounded_removals (suc n) t).text
    go ih None e = let P : StrippedSubject → Type 0 = λ l. RemovesPieces t l.reply l.text in subst P (sym (within-done (suc n) t e)) here
    go ih (Some w) e = let P : StrippedSubject → Type 0 = λ l. RemovesPieces t l.reply l.text in subst P (sym (within-more n t w e)) (further (next_sound t w e) (ih w.text))

pub stops : (n : ℕ) (t : List ℕ) → length t ≤ n → after_one_removal (after_bounded_removals n t).text ≡ None
unfolding after_bounded_removals
stops zero t l = empty_done t l
stops (suc n) t l = go (stops n) (after_one_removal t) refl
  where
    go : ((t : List ℕ) → length t ≤ n → after_one_removal (after_bounded_removals n t).text ≡ None) → (o : Option StrippedSubject) → after_one_removal t ≡ o
        → after_one_removal (after_bounded_removals (suc n) t).text ≡ None
    go ih None e = ap (λ (l : StrippedSubject). after_one_removal l.text) (within-done (suc n) t e) ∙ e
    go ih (Some w) e = ap (λ (l : StrippedSubject). after_one_removal l.text) (within-more n t w e) ∙ ih w.text (let k = next_shorter t w e in omega (arith, k, l))

-- spaces in front make no difference where no trailer is left
space_goes : (b : ℕ) (u : List ℕ) → b ≡ 32 → without_trailer (b ∷ u) ≡ None → after_all_removals (b ∷ u) ≡ after_all_removals u
unfolding without_leader
space_goes b u e n =
    let f : after_literal (codes " ") (b ∷ u) ≡ Some u = ap (λ (x : ℕ). after_literal (codes " ") (x ∷ u)) e ∙ at_space u in
    rest-next (b ∷ u) (stripped_subject false u) (next-leader (b ∷ u) (stripped_subject false u) n
    (or_some (option_map (stripped_subject false) (after_literal (codes " ") (b ∷ u))) (option_map (stripped_subject true) (after_leader (length (b ∷ u)) (b ∷ u))) (stripped_subject false u)
    (map_some (stripped_subject false) (after_literal (codes " ") (b ∷ u)) u f)))

pub spaces_go : (s u : List ℕ) → AreSpaces s → without_trailer (s ++ u) ≡ None → after_all_removals (s ++ u) ≡ after_all_removals u
spaces_go [] u a n = refl
spaces_go (b ∷ s) u a n = space_goes b (s ++ u) a.0 n ∙ spaces_go s u a.1 (no_trailer_behind (b ∷ []) (s ++ u) n)

next_same : (t u : List ℕ) (m : Bool) → IsNext t u m → after_all_removals t ≡ with_earlier_reply m (after_all_removals u)
next_same t u m x = rest-next t (stripped_subject m x.rest) x.next ∙ ap (with_earlier_reply m) (sym (go x.end))
  where
    go : (x.spaces ≡ []) ⊎ (without_trailer u ≡ None) → after_all_removals u ≡ after_all_removals x.rest
    go (inl e) = ap after_all_removals (x.is ∙ ap (λ (s : List ℕ). s ++ x.rest) e)
    go (inr n) = ap after_all_removals x.is ∙ spaces_go x.spaces x.rest x.are_spaces (ap without_trailer (sym x.is) ∙ n)

pub one_rest : (t u : List ℕ) (m : Bool) → RemovesPieces t m u → HasNothingToRemove u → after_all_removals t ≡ stripped_subject m u
one_rest t u m here d = rest-done t (next-done t d)
one_rest t u m (further {next = v} {reply = p} {later = q} g r) d = next_same t v p (next_complete t v p g) ∙ ap (with_earlier_reply p) (one_rest v u q r d)

pub base_found : (subject : List ℕ) → IsBaseSubject subject (base_subject_of subject) (is_reply subject)
base_found subject = record {
  remaining_text = (after_all_removals (with_single_spaces subject)).text;
  removes_pieces = reaches (length (with_single_spaces subject)) (with_single_spaces subject);
  nothing_to_remove = is_done (after_all_removals (with_single_spaces subject)).text (stops (length (with_single_spaces subject)) (with_single_spaces subject) (omega arith));
  base_is_lowercase = refl;
}

pub one_base : (subject base : List ℕ) (reply : Bool) → IsBaseSubject subject base reply → (base ≡ base_subject_of subject) × (reply ≡ is_reply subject)
one_base subject base reply b =
    let e = one_rest (with_single_spaces subject) b.remaining_text reply b.removes_pieces b.nothing_to_remove in
    (b.base_is_lowercase ∙ ap (λ (l : StrippedSubject). ascii_lowercase l.text) (sym e), ap (λ (l : StrippedSubject). l.reply) (sym e))

pub trailer_stays : (front rest : List ℕ) → HasTrailer rest → HasTrailer (front ++ rest)
trailer_stays front rest (m, u, l) = (
  m,
  front ++ u,
  record {
    trailer = l.trailer;
    is_trailer = l.is_trailer;
    text_is = ap (λ (x : List ℕ). front ++ x) l.text_is ∙ sym (append_assoc front u l.trailer);
  },
)

-- a part of the text with single spaces, in lower case, is the base where that part is the rest
pub part_found : (subject text base : List ℕ) (from len : ℕ) (m : Bool) → text ≡ with_single_spaces subject → after_all_removals text ≡ stripped_subject m (take len (drop from text))
    → base ≡ ascii_lowercase (take len (drop from text)) → IsBaseSubject subject base m
part_found subject text base from len m e h b =
    let r : after_all_removals (with_single_spaces subject) ≡ stripped_subject m (take len (drop from text)) = ap after_all_removals (sym e) ∙ h in
    let P : List ℕ → Type 0 = λ l. IsBaseSubject subject l m in
    let Q : Bool → Type 0 = λ k. IsBaseSubject subject (base_subject_of subject) k in
    subst P (ap (λ (l : StrippedSubject). ascii_lowercase l.text) r ∙ sym b) (subst Q (ap (λ (l : StrippedSubject). l.reply) r) (base_found subject))
