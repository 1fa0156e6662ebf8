-- Removing piece after piece at the front leaves the rest that removing whole leaders leaves.
use Rattle.std.proofs.Common.{◌≡◌, ℕ, zero, suc, ◌+◌, ◌<◌, Bool, true, false, List, [], ◌∷◌, ◌++◌, length, refl, arith, ap, ◌∙◌, sym, Option, Some, None, length-append, subst, ◌⊎◌, inl, inr}
use Rattle.std.specs.Prelude.{codes}
use Rattle.std.specs.Option.{option_map, option_or, option_and_then}
use Rattle.subject_core.specs.Pieces.{IsBlob}
use Rattle.subject_core.specs.Removal.{StrippedSubject, stripped_subject, after_literal, after_spaces, after_blob, after_refwd}
use Rattle.subject_core.specs.Removal.{after_leader, if_not_empty, without_trailer, without_leader, without_blob, without_fwd_brackets}
use Rattle.subject_core.specs.BaseSubject.{after_one_removal, with_earlier_reply, after_all_removals}
use Rattle.subject_core.specs.Front.{without_front_piece}
use Rattle.subject_core.proofs.Options.{some_or, none_or, or_none, or_some, some_map, none_map, map_none, map_some, some_then, then_some, is_none}
use Rattle.subject_core.proofs.Steps.{spaces-more}
use Rattle.subject_core.proofs.Blobs.{spaces_sound, blob_sound}
use Rattle.subject_core.proofs.Marks.{refwd_sound, leader_sound, leader_complete, leader-more, leader-stop, leader-zero, leader-none}
use Rattle.subject_core.proofs.Removals.{space_at, if_any_is, if_any_some}
use Rattle.subject_core.proofs.Rests.{next-leader, next-blob, next-pair, next_shorter, rest-next, no_trailer_behind}

-- what a step at the front leaves
pub record IsStep (t u : List ℕ) (m : Bool) : Type 0 where
  pub front : List ℕ
  pub is : t ≡ front ++ u
  pub less : length u < length t
  pub none : without_trailer u ≡ None
  pub same : after_all_removals t ≡ with_earlier_reply m (after_all_removals u)

module _ (t : List ℕ) (n : without_trailer t ≡ None) where
  shorter : (f u : List ℕ) → t ≡ f ++ u → without_trailer u ≡ None
  shorter f u e = no_trailer_behind f u (ap without_trailer (sym e) ∙ n)

  space_goes : (u : List ℕ) → after_literal (codes " ") t ≡ Some u → IsStep t u false
  unfolding without_leader
  space_goes u h = record {
    front = 32 ∷ [];
    is = space_at t u h;
    less = let k : length t ≡ suc (length u) = ap length (space_at t u h) in omega (arith, k);
    none = shorter (32 ∷ []) u (space_at t u h);
    same = rest-next t (stripped_subject false u) (next-leader t (stripped_subject false u) n
        (or_some (option_map (stripped_subject false) (after_literal (codes " ") t)) (option_map (stripped_subject true) (after_leader (length t) t)) (stripped_subject false u)
        (map_some (stripped_subject false) (after_literal (codes " ") t) u h)));
  }

  without_leader-marked : (u : List ℕ) → after_literal (codes " ") t ≡ None → after_leader (length t) t ≡ Some u → without_leader t ≡ Some (stripped_subject true u)
  unfolding without_leader
  without_leader-marked u s h =
      or_none (option_map (stripped_subject false) (after_literal (codes " ") t)) (option_map (stripped_subject true) (after_leader (length t) t))
      (map_none (stripped_subject false) (after_literal (codes " ") t) s)
      ∙ map_some (stripped_subject true) (after_leader (length t) t) u h

  without_leader-none : after_literal (codes " ") t ≡ None → after_leader (length t) t ≡ None → without_leader t ≡ None
  unfolding without_leader
  without_leader-none s h =
      or_none (option_map (stripped_subject false) (after_literal (codes " ") t)) (option_map (stripped_subject true) (after_leader (length t) t))
      (map_none (stripped_subject false) (after_literal (codes " ") t) s)
      ∙ map_none (stripped_subject true) (after_leader (length t) t) h

  refwd_goes : (u : List ℕ) → after_literal (codes " ") t ≡ None → after_refwd t ≡ Some u → IsStep t u true
  refwd_goes u s h =
      let r = refwd_sound t u h in
      record {
        front = r.0;
        is = r.2;
        less = next_shorter t (stripped_subject true u) (next-leader t (stripped_subject true u) n (without_leader-marked u s (leader-stop (length t) t u h)));
        none = shorter r.0 u r.2;
        same = rest-next t (stripped_subject true u) (next-leader t (stripped_subject true u) n (without_leader-marked u s (leader-stop (length t) t u h)));
      }

-- a leader behind a blob is found from either place
leader_behind : (t u v : List ℕ) → without_trailer t ≡ None → without_trailer u ≡ None → after_literal (codes " ") t ≡ None → after_leader (length t) t ≡ Some v
    → after_leader (length u) u ≡ Some v → after_literal (codes " ") u ≡ None
    → after_all_removals t ≡ with_earlier_reply false (after_all_removals u)
leader_behind t u v n k s h g z =
    rest-next t (stripped_subject true v) (next-leader t (stripped_subject true v) n (without_leader-marked t n v s h))
    ∙ sym (rest-next u (stripped_subject true v) (next-leader u (stripped_subject true v) k (without_leader-marked u k v z g)))

-- a text without spaces in front does not lose one
solid : (u : List ℕ) → after_spaces u ≡ u → after_literal (codes " ") u ≡ None
solid u h = is_none (after_literal (codes " ") u) (λ (x : List ℕ) (e : after_literal (codes " ") u ≡ Some x).
    let f = space_at u x e in
    let s = spaces_sound x in
    let n : length x ≡ length s.0 + length (after_spaces x) = ap length s.2 ∙ length-append s.0 (after_spaces x) in
    let k : after_spaces x ≡ u = sym (spaces-more 32 x refl) ∙ ap after_spaces (sym f) ∙ h in
    let m : length u ≡ suc (length x) = ap length f in
    let l : length (after_spaces x) ≡ length u = ap length k in
    omega (arith, n, m, l))

shorter_by_blob : (t u blob : List ℕ) → IsBlob blob → t ≡ blob ++ u → length u < length t
shorter_by_blob t u blob b e =
    let n : length t ≡ length blob + length u = ap length e ∙ length-append blob u in
    let k : length blob ≡ suc (length (b.inside ++ 93 ∷ b.spaces)) = ap length b.text_is in
    omega (arith, n, k)

-- a blob goes before the mark that a leader has behind it
blob_goes : (t u : List ℕ) → without_trailer t ≡ None → after_literal (codes " ") t ≡ None → after_refwd t ≡ None → after_blob t ≡ Some u → if_not_empty u ≡ Some u → IsStep t u false
unfolding without_blob
blob_goes t u n s r b a = go (after_leader (length t) t) refl (length t) refl
  where
    behind_it : (v : List ℕ) → after_leader (length t) t ≡ Some v → (m : ℕ) → after_leader m u ≡ Some v → IsStep t u false
    behind_it v h m g =
        let w = blob_sound t u b in
        let l = leader_sound m u v g in
        let k : length u ≡ length l.0 + length v = ap length l.2 ∙ length-append l.0 v in
        let found : after_leader (length u) u ≡ Some v =
        ap (after_leader (length u)) l.2 ∙ leader_complete true l.0 v l.1 refl (length u) (omega (arith, k)) in
        record {
          front = w.0;
          is = w.2;
          less = shorter_by_blob t u w.0 w.1 w.2;
          none = shorter t n w.0 u w.2;
          same = leader_behind t u v n (shorter t n w.0 u w.2) s h found (solid u w.3);
        }

    go : (o : Option (List ℕ)) → after_leader (length t) t ≡ o → (m : ℕ) → length t ≡ m → IsStep t u false
    go None e m k =
        let w = blob_sound t u b in
        record {
          front = w.0;
          is = w.2;
          less = shorter_by_blob t u w.0 w.1 w.2;
          none = shorter t n w.0 u w.2;
          same = rest-next t (stripped_subject false u) (next-blob t (stripped_subject false u) n (without_leader-none t n s e)
              (map_some (stripped_subject false) (option_and_then if_not_empty (after_blob t)) u (then_some if_not_empty (after_blob t) u b ∙ a)));
        }
    go (Some v) e zero k = absurd (let f : None ≡ Some v = sym r ∙ leader-zero t ∙ ap (λ (i : ℕ). after_leader i t) (sym k) ∙ e in cc)
    go (Some v) e (suc m) k = behind_it v e m (sym (leader-more m t u r b) ∙ ap (λ (i : ℕ). after_leader i t) (sym k) ∙ e)

pub front_step : (t : List ℕ) (w : StrippedSubject) → without_trailer t ≡ None → without_front_piece t ≡ Some w → IsStep t w.text w.reply
unfolding without_front_piece
front_step t w n h =
    at_first (some_or (option_map (stripped_subject false) (after_literal (codes " ") t)) (option_or (option_map (stripped_subject true) (after_refwd t))
    (option_map (stripped_subject false) (option_and_then if_not_empty (after_blob t)))) w h)
  where
    at_last : after_literal (codes " ") t ≡ None → after_refwd t ≡ None → option_map (stripped_subject false) (option_and_then if_not_empty (after_blob t)) ≡ Some w → IsStep t w.text w.reply
    at_last s r e =
        let x = some_map (stripped_subject false) (option_and_then if_not_empty (after_blob t)) w e in
        let y = some_then if_not_empty (after_blob t) x.0 x.1 in
        let i = if_any_is y.0 x.0 y.2 in
        let P : StrippedSubject → Type 0 = λ l. IsStep t l.text l.reply in
        subst P x.2 (blob_goes t x.0 n s r (y.1 ∙ ap Some i.0) (if_any_some x.0 i.1))

    at_second : after_literal (codes " ") t ≡ None
        → (option_map (stripped_subject true) (after_refwd t) ≡ Some w) ⊎ ((option_map (stripped_subject true) (after_refwd t) ≡ None)
        × (option_map (stripped_subject false) (option_and_then if_not_empty (after_blob t)) ≡ Some w)) → IsStep t w.text w.reply
    at_second s (inl e) =
        let x = some_map (stripped_subject true) (after_refwd t) w e in
        let P : StrippedSubject → Type 0 = λ l. IsStep t l.text l.reply in
        subst P x.2 (refwd_goes t n x.0 s x.1)
    at_second s (inr e) = at_last s (none_map (stripped_subject true) (after_refwd t) e.0) e.1

    at_first : (option_map (stripped_subject false) (after_literal (codes " ") t) ≡ Some w) ⊎ ((option_map (stripped_subject false) (after_literal (codes " ") t) ≡ None)
        × (option_or (option_map (stripped_subject true) (after_refwd t)) (option_map (stripped_subject false) (option_and_then if_not_empty (after_blob t))) ≡ Some w)) → IsStep t w.text w.reply
    at_first (inl e) =
        let x = some_map (stripped_subject false) (after_literal (codes " ") t) w e in
        let P : StrippedSubject → Type 0 = λ l. IsStep t l.text l.reply in
        subst P x.2 (space_goes t n x.0 x.1)
    at_first (inr e) =
        at_second (none_map (stripped_subject false) (after_literal (codes " ") t) e.0) (some_or (option_map (stripped_subject true) (after_refwd t))
        (option_map (stripped_subject false) (option_and_then if_not_empty (after_blob t))) w e.1)

-- where no piece is left at the front, no leader and no blob is
nothing_left : after_refwd [] ≡ None
unfolding after_refwd after_literal after_spaces
nothing_left = refl

no_blob_left : after_blob [] ≡ None
unfolding after_literal
no_blob_left = refl

if_any_none : (t : List ℕ) → if_not_empty t ≡ None → t ≡ []
if_any_none [] h = refl
if_any_none (b ∷ bs) h = absurd (cc)

no_leader_left : (t : List ℕ) → after_refwd t ≡ None → option_and_then if_not_empty (after_blob t) ≡ None → (n : ℕ) → after_leader n t ≡ None
no_leader_left t r h n = go (after_blob t) refl n
  where
    go : (o : Option (List ℕ)) → after_blob t ≡ o → (n : ℕ) → after_leader n t ≡ None
    go None e n = leader-none n t r e
    go (Some u) e zero = sym (leader-zero t) ∙ r
    go (Some u) e (suc n) =
        let k : u ≡ [] = if_any_none u (sym (then_some if_not_empty (after_blob t) u e) ∙ h) in
        leader-more n t u r e ∙ ap (after_leader n) k ∙ leader-none n [] nothing_left no_blob_left

pub front_end : (t : List ℕ) → without_trailer t ≡ None → without_front_piece t ≡ None → after_one_removal t ≡ without_fwd_brackets t
unfolding without_front_piece without_blob
front_end t n h =
    let a = none_or (option_map (stripped_subject false) (after_literal (codes " ") t)) (option_or (option_map (stripped_subject true) (after_refwd t))
    (option_map (stripped_subject false) (option_and_then if_not_empty (after_blob t)))) h in
    let b = none_or (option_map (stripped_subject true) (after_refwd t)) (option_map (stripped_subject false) (option_and_then if_not_empty (after_blob t))) a.1 in
    let s = none_map (stripped_subject false) (after_literal (codes " ") t) a.0 in
    let r = none_map (stripped_subject true) (after_refwd t) b.0 in
    let l = no_leader_left t r (none_map (stripped_subject false) (option_and_then if_not_empty (after_blob t)) b.1) (length t) in
    next-pair t n (without_leader-none t n s l) b.1
