-- One removal shortens the text, and the removals end at one rest.
use Rattle.std.proofs.Common.{◌≡◌, ℕ, zero, suc, ◌+◌, ◌<◌, ◌≤◌, Bool, true, false, List, [], ◌∷◌, ◌++◌, length, refl, arith, ap}
use Rattle.std.proofs.Common.{◌∙◌, sym, Option, Some, None, append_assoc, length-append, subst, ◌⊎◌, inl, inr}
use Rattle.std.specs.Prelude.{codes}
use Rattle.std.proofs.lemmas.List.{append-nil}
use Rattle.std.specs.Option.{option_or}
use Rattle.subject_core.specs.Pieces.{AreSpaces, IsLeader, IsTrailer}
use Rattle.subject_core.specs.Pieces.IsLeader.{space as leading_space, refwd, behind}
use Rattle.subject_core.specs.Pieces.IsTrailer.{space as trailing_space, forwarded}
use Rattle.subject_core.specs.Removal.{StrippedSubject, stripped_subject, after_literal, after_spaces, after_refwd, after_leader, without_trailer, without_leader, without_blob, without_fwd_brackets}
use Rattle.subject_core.specs.BaseSubject.{HasTrailer, HasLeader, HasBlob, RemovesOnePiece, after_one_removal, with_earlier_reply, after_bounded_removals, after_all_removals}
use Rattle.subject_core.specs.BaseSubject.RemovesOnePiece.{trailer, leader, blob, pair}
use Rattle.subject_core.proofs.Options.{some_or, or_none, or_some, is_none}
use Rattle.subject_core.proofs.Literals.{literal_length}
use Rattle.subject_core.proofs.Blobs.{spaces_sound}
use Rattle.subject_core.proofs.Marks.{leader_first, blob_opens}
use Rattle.subject_core.proofs.Removals.{trailer_sound, trailer_complete, leaders_sound, leaders_complete, blobs_sound, blobs_complete, pair_sound, pair_complete}

-- each removal takes a byte or more
trailer_some : (m : Bool) (v : List ℕ) → IsTrailer m v → 0 < length v
trailer_some m v trailing_space = omega arith
trailer_some m v (forwarded l) = let n = literal_length (codes "(fwd)") v l in omega (arith, n)

leader_some : (m : Bool) (l : List ℕ) → IsLeader m l → 0 < length l
leader_some false l h = space_some l h refl
  where
    space_some : {m : Bool} (l : List ℕ) → IsLeader m l → m ≡ false → 0 < length l
    space_some l leading_space e = omega arith
    space_some l (refwd r) e = absurd (cc)
    space_some l (behind x y) e = absurd (cc)
leader_some true l h =
    let f = leader_first true l [] h refl in
    let n : length l ≡ suc (length f.1) = ap length (sym (append-nil l) ∙ f.2) in
    omega (arith, n)

pub goes_shorter : (t u : List ℕ) (m : Bool) → RemovesOnePiece t m u → length u < length t
goes_shorter t u m (trailer l) =
    let n : length t ≡ length u + length l.trailer = ap length l.text_is ∙ length-append u l.trailer in
    let k = trailer_some m l.trailer l.is_trailer in
    omega (arith, n, k)
goes_shorter t u m (leader never l) =
    let n : length t ≡ length l.leader + length u = ap length l.text_is ∙ length-append l.leader u in
    let k = leader_some m l.leader l.is_leader in
    omega (arith, n, k)
goes_shorter t u m (blob never none l) =
    let o = blob_opens l.blob u l.is_blob in
    let n : length t ≡ length l.blob + length u = ap length l.text_is ∙ length-append l.blob u in
    let k : length l.blob ≡ suc (length (l.is_blob.inside ++ 93 ∷ l.is_blob.spaces)) = ap length l.is_blob.text_is in
    omega (arith, n, k)
goes_shorter t u m (pair never none not l) =
    let n : length t ≡ length l.opening + length u + 1 = ap length l.text_is ∙ length-append (l.opening ++ u) (codes "]") ∙ ap (λ (x : ℕ). x + 1) (length-append l.opening u) in
    omega (arith, n)

-- where a function finds nothing, nothing is there
pub no_trailer : (t : List ℕ) → without_trailer t ≡ None → ¬ HasTrailer t
no_trailer t h w = let e : None ≡ Some (stripped_subject w.0 w.1) = sym h ∙ trailer_complete t w.1 w.0 w.2 in cc

trailer_none : (t : List ℕ) → ¬ HasTrailer t → without_trailer t ≡ None
trailer_none t h = is_none (without_trailer t) (λ (w : StrippedSubject) (e : without_trailer t ≡ Some w). h (w.reply, w.text, trailer_sound t w e))

no_leader : (t : List ℕ) → without_leader t ≡ None → ¬ HasLeader t
no_leader t h w = let e : None ≡ Some (stripped_subject w.0 w.1) = sym h ∙ leaders_complete t w.1 w.0 w.2 in cc

leader_none : (t : List ℕ) → ¬ HasLeader t → without_leader t ≡ None
leader_none t h = is_none (without_leader t) (λ (w : StrippedSubject) (e : without_leader t ≡ Some w). h (w.reply, w.text, leaders_sound t w e))

no_blob : (t : List ℕ) → without_trailer t ≡ None → without_blob t ≡ None → ¬ HasBlob t
no_blob t n h w = let e : None ≡ Some (stripped_subject false (after_spaces w.0)) = sym h ∙ blobs_complete t w.0 n w.1 in cc

blob_none : (t : List ℕ) → ¬ HasBlob t → without_blob t ≡ None
blob_none t h = is_none (without_blob t) (λ (w : StrippedSubject) (e : without_blob t ≡ Some w). h (w.text, (blobs_sound t w e).1))

-- the end of a text holds no trailer that the text does not hold
pub no_trailer_behind : (f u : List ℕ) → without_trailer (f ++ u) ≡ None → without_trailer u ≡ None
no_trailer_behind f u h = is_none (without_trailer u) (λ (w : StrippedSubject) (e : without_trailer u ≡ Some w).
    let l = trailer_sound u w e in
    no_trailer (f ++ u) h (
      w.reply,
      f ++ w.text,
      record {
        trailer = l.trailer;
        is_trailer = l.is_trailer;
        text_is = ap (λ (x : List ℕ). f ++ x) l.text_is ∙ sym (append_assoc f w.text l.trailer);
      },
    ))

-- the four removals in their order
pub next-trailer : (t : List ℕ) (w : StrippedSubject) → without_trailer t ≡ Some w → after_one_removal t ≡ Some w
unfolding after_one_removal
next-trailer t w h = or_some (without_trailer t) (option_or (without_leader t) (option_or (without_blob t) (without_fwd_brackets t))) w h

pub next-leader : (t : List ℕ) (w : StrippedSubject) → without_trailer t ≡ None → without_leader t ≡ Some w → after_one_removal t ≡ Some w
unfolding after_one_removal
next-leader t w n h =
    or_none (without_trailer t) (option_or (without_leader t) (option_or (without_blob t) (without_fwd_brackets t))) n
    ∙ or_some (without_leader t) (option_or (without_blob t) (without_fwd_brackets t)) w h

pub next-blob : (t : List ℕ) (w : StrippedSubject) → without_trailer t ≡ None → without_leader t ≡ None → without_blob t ≡ Some w → after_one_removal t ≡ Some w
unfolding after_one_removal
next-blob t w n m h =
    or_none (without_trailer t) (option_or (without_leader t) (option_or (without_blob t) (without_fwd_brackets t))) n
    ∙ or_none (without_leader t) (option_or (without_blob t) (without_fwd_brackets t)) m
    ∙ or_some (without_blob t) (without_fwd_brackets t) w h

pub next-pair : (t : List ℕ) → without_trailer t ≡ None → without_leader t ≡ None → without_blob t ≡ None → after_one_removal t ≡ without_fwd_brackets t
unfolding after_one_removal
next-pair t n m b =
    or_none (without_trailer t) (option_or (without_leader t) (option_or (without_blob t) (without_fwd_brackets t))) n
    ∙ or_none (without_leader t) (option_or (without_blob t) (without_fwd_brackets t)) m
    ∙ or_none (without_blob t) (without_fwd_brackets t) b

pub next_sound : (t : List ℕ) (w : StrippedSubject) → after_one_removal t ≡ Some w → RemovesOnePiece t w.reply w.text
unfolding after_one_removal
next_sound t w h = at_first (some_or (without_trailer t) (option_or (without_leader t) (option_or (without_blob t) (without_fwd_brackets t))) w h)
  where
    at_last : without_trailer t ≡ None → without_leader t ≡ None
        → (without_blob t ≡ Some w) ⊎ ((without_blob t ≡ None) × (without_fwd_brackets t ≡ Some w)) → RemovesOnePiece t w.reply w.text
    at_last n m (inl e) =
        let l = blobs_sound t w e in
        let P : Bool → Type 0 = λ r. RemovesOnePiece t r w.text in
        subst P (sym l.0) (blob (no_trailer t n) (no_leader t m) l.1)
    at_last n m (inr e) =
        let l = pair_sound t w e.1 in
        let P : Bool → Type 0 = λ r. RemovesOnePiece t r w.text in
        subst P (sym l.0) (pair (no_trailer t n) (no_leader t m) (no_blob t n e.0) l.1)

    at_second : without_trailer t ≡ None
        → (without_leader t ≡ Some w) ⊎ ((without_leader t ≡ None) × (option_or (without_blob t) (without_fwd_brackets t) ≡ Some w)) → RemovesOnePiece t w.reply w.text
    at_second n (inl e) = leader (no_trailer t n) (leaders_sound t w e)
    at_second n (inr e) = at_last n e.0 (some_or (without_blob t) (without_fwd_brackets t) w e.1)

    at_first : (without_trailer t ≡ Some w) ⊎ ((without_trailer t ≡ None) × (option_or (without_leader t) (option_or (without_blob t) (without_fwd_brackets t)) ≡ Some w))
        → RemovesOnePiece t w.reply w.text
    at_first (inl e) = trailer (trailer_sound t w e)
    at_first (inr e) = at_second e.0 (some_or (without_leader t) (option_or (without_blob t) (without_fwd_brackets t)) w e.1)

-- What a removal of the relation leaves is what the function leaves, behind spaces that a blob left.
pub record IsNext (t u : List ℕ) (m : Bool) : Type 0 where
  pub spaces : List ℕ
  pub rest : List ℕ
  pub are_spaces : AreSpaces spaces
  pub is : u ≡ spaces ++ rest
  pub next : after_one_removal t ≡ Some (stripped_subject m rest)
  pub end : (spaces ≡ []) ⊎ (without_trailer u ≡ None)

pub next_complete : (t u : List ℕ) (m : Bool) → RemovesOnePiece t m u → IsNext t u m
next_complete t u m (trailer l) =
    record { spaces = []; rest = u; are_spaces = tt; is = refl; next = next-trailer t (stripped_subject m u) (trailer_complete t u m l); end = inl refl }
next_complete t u m (leader never l) =
    record { spaces = []; rest = u; are_spaces = tt; is = refl; next = next-leader t (stripped_subject m u) (trailer_none t never) (leaders_complete t u m l); end = inl refl }
next_complete t u m (blob never none l) =
    let n = trailer_none t never in
    let s = spaces_sound u in
    record {
      spaces = s.0;
      rest = after_spaces u;
      are_spaces = s.1;
      is = s.2;
      next = next-blob t (stripped_subject false (after_spaces u)) n (leader_none t none) (blobs_complete t u n l);
      end = inr (no_trailer_behind l.blob u (ap without_trailer (sym l.text_is) ∙ n));
    }
next_complete t u m (pair never none not l) =
    record {
      spaces = [];
      rest = u;
      are_spaces = tt;
      is = refl;
      next = next-pair t (trailer_none t never) (leader_none t none) (blob_none t not) ∙ pair_complete t u l;
      end = inl refl;
    }

pub next_shorter : (t : List ℕ) (w : StrippedSubject) → after_one_removal t ≡ Some w → length w.text < length t
next_shorter t w h = goes_shorter t w.text w.reply (next_sound t w h)

-- the rest, step by step
next_empty : after_one_removal [] ≡ None
unfolding after_one_removal without_trailer without_leader without_blob without_fwd_brackets after_literal after_spaces after_refwd after_leader
next_empty = refl

pub within-done : (n : ℕ) (t : List ℕ) → after_one_removal t ≡ None → after_bounded_removals n t ≡ stripped_subject false t
unfolding after_bounded_removals
within-done zero t h = refl
within-done (suc n) t h = rw (h, after_bounded_removals) refl

pub within-more : (n : ℕ) (t : List ℕ) (w : StrippedSubject) → after_one_removal t ≡ Some w → after_bounded_removals (suc n) t ≡ with_earlier_reply w.reply (after_bounded_removals n w.text)
unfolding after_bounded_removals
within-more n t w h = rw (h, after_bounded_removals) refl

pub empty_done : (t : List ℕ) → length t ≤ 0 → after_one_removal t ≡ None
empty_done [] h = next_empty
empty_done (b ∷ bs) h = absurd (omega arith)

pub within_enough : (n m : ℕ) (t : List ℕ) → length t ≤ n → length t ≤ m → after_bounded_removals n t ≡ after_bounded_removals m t
within_enough zero m t p q = let e = empty_done t p in within-done zero t e ∙ sym (within-done m t e)
within_enough (suc n) zero t p q = let e = empty_done t q in within-done (suc n) t e ∙ sym (within-done zero t e)
within_enough (suc n) (suc m) t p q = go (after_one_removal t) refl (within_enough n m)
  where
    go : (o : Option StrippedSubject) → after_one_removal t ≡ o → ((t : List ℕ) → length t ≤ n → length t ≤ m → after_bounded_removals n t ≡ after_bounded_removals m t)
        → after_bounded_removals (suc n) t ≡ after_bounded_removals (suc m) t
    go None e ih = within-done (suc n) t e ∙ sym (within-done (suc m) t e)
    go (Some w) e ih =
        let l = next_shorter t w e in
        within-more n t w e ∙ ap (with_earlier_reply w.reply) (ih w.text (omega (arith, l, p)) (omega (arith, l, q))) ∙ sym (within-more m t w e)

pub rest-done : (t : List ℕ) → after_one_removal t ≡ None → after_all_removals t ≡ stripped_subject false t
rest-done t h = within-done (length t) t h

pub rest-next : (t : List ℕ) (w : StrippedSubject) → after_one_removal t ≡ Some w → after_all_removals t ≡ with_earlier_reply w.reply (after_all_removals w.text)
rest-next t w h = go (length t) refl
  where
    go : (n : ℕ) → length t ≡ n → after_bounded_removals n t ≡ with_earlier_reply w.reply (after_all_removals w.text)
    go zero e = absurd (let l = next_shorter t w h in omega (arith, l, e))
    go (suc n) e = let l = next_shorter t w h in within-more n t w h ∙ ap (with_earlier_reply w.reply) (within_enough n (length w.text) w.text (omega (arith, l, e)) (omega arith))
