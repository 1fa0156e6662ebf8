-- Each removal: the function finds what the grammar says, and says where there is none.
use Rattle.std.proofs.Common.{◌≡◌, ◌≢◌, ℕ, ◌+◌, ◌≤◌, Bool, true, false, List, [], ◌∷◌, ◌++◌, length, refl, arith, ap, ◌∙◌, sym, Some, None, append_assoc, length-append, subst, ◌⊎◌, inl, inr, reverse}
use Rattle.std.proofs.lemmas.List.{reverse-append, append-nil}
use Rattle.std.specs.Prelude.{codes}
use Rattle.std.specs.Option.{option_map, option_and_then}
use Rattle.std.specs.Char.{to_ascii_lowercase}
use Rattle.subject_core.specs.Pieces.{AreSpaces, EqualsIgnoringCase, IsLeader, IsTrailer}
use Rattle.subject_core.specs.Pieces.IsLeader.{space as leading_space, refwd, behind}
use Rattle.subject_core.specs.Pieces.IsTrailer.{space as trailing_space, forwarded}
use Rattle.subject_core.specs.Removal.{StrippedSubject, stripped_subject, after_literal, before_literal, after_spaces, after_blob}
use Rattle.subject_core.specs.Removal.{after_leader, if_not_empty, without_trailer, without_leader, without_blob, without_fwd_brackets}
use Rattle.subject_core.specs.BaseSubject.{LosesTrailer, LosesLeader, LosesBlob, LosesFwdBrackets}
use Rattle.subject_core.proofs.Steps.{after-nothing, after-same, after-other}
use Rattle.subject_core.proofs.Options.{some_or, or_none, or_some, some_map, map_none, map_some, some_then, then_some, is_none}
use Rattle.subject_core.proofs.Literals.{after_sound, after_complete, before_sound, before_complete}
use Rattle.subject_core.proofs.Blobs.{that_byte, spaces_sound, blob_sound, blob_complete}
use Rattle.subject_core.proofs.Marks.{leader_sound, leader_complete, leader_first}

-- a space at the front
pub space_at : (t u : List ℕ) → after_literal (codes " ") t ≡ Some u → t ≡ 32 ∷ u
space_at t u h = let w = after_sound (codes " ") t u h in w.2 ∙ ap (λ (l : List ℕ). l ++ u) (that_byte w.0 32 (omega arith) w.1)

pub at_space : (u : List ℕ) → after_literal (codes " ") (32 ∷ u) ≡ Some u
at_space u = after-same 32 32 [] u refl ∙ after-nothing u

pub no_space_at : (t rest : List ℕ) (b : ℕ) → t ≡ b ∷ rest → 91 ≤ to_ascii_lowercase b → after_literal (codes " ") t ≡ None
no_space_at t rest b e h = ap (after_literal (codes " ")) e ∙ after-other 32 b [] rest (λ (n : to_ascii_lowercase b ≡ 32). omega (arith, n, h))

-- trailers
pub trailer_sound : (t : List ℕ) (w : StrippedSubject) → without_trailer t ≡ Some w → LosesTrailer t w.reply w.text
unfolding without_trailer
trailer_sound t w h = go (some_or (option_map (stripped_subject false) (before_literal (codes " ") t)) (option_map (stripped_subject true) (before_literal (codes "(fwd)") t)) w h)
  where
    ends : (k : List ℕ) (m : Bool) → ((v : List ℕ) → EqualsIgnoringCase k v → IsTrailer m v) → option_map (stripped_subject m) (before_literal k t) ≡ Some w → LosesTrailer t w.reply w.text
    ends k m make e =
        let x = some_map (stripped_subject m) (before_literal k t) w e in
        let v = before_sound k t x.0 x.1 in
        let P : StrippedSubject → Type 0 = λ l. LosesTrailer t l.reply l.text in
        subst P x.2 (record { trailer = v.0; is_trailer = make v.0 v.1; text_is = v.2 })

    a_space : (v : List ℕ) → EqualsIgnoringCase (codes " ") v → IsTrailer false v
    a_space v l = let P : List ℕ → Type 0 = IsTrailer false in subst P (sym (that_byte v 32 (omega arith) l)) trailing_space

    go : (option_map (stripped_subject false) (before_literal (codes " ") t) ≡ Some w) ⊎ ((option_map (stripped_subject false) (before_literal (codes " ") t) ≡ None)
        × (option_map (stripped_subject true) (before_literal (codes "(fwd)") t) ≡ Some w)) → LosesTrailer t w.reply w.text
    go (inl e) = ends (codes " ") false a_space e
    go (inr e) = ends (codes "(fwd)") true (λ (v : List ℕ) (l : EqualsIgnoringCase (codes "(fwd)") v). forwarded l) e.1

-- the last byte
last_same : (a b : List ℕ) (x y : ℕ) → a ++ x ∷ [] ≡ b ++ y ∷ [] → x ≡ y
last_same a b x y h =
    let e : x ∷ reverse a ≡ y ∷ reverse b = sym (reverse-append a (x ∷ [])) ∙ ap reverse h ∙ reverse-append b (y ∷ []) in cc

five_bytes : (v : List ℕ) → EqualsIgnoringCase (codes "(fwd)") v → (f : List ℕ) × (b : ℕ) × (v ≡ f ++ b ∷ []) × (to_ascii_lowercase b ≡ 41)
five_bytes [] h = absurd (cc)
five_bytes (a ∷ []) h = absurd (cc)
five_bytes (a ∷ b ∷ []) h = absurd (cc)
five_bytes (a ∷ b ∷ c ∷ []) h = absurd (cc)
five_bytes (a ∷ b ∷ c ∷ d ∷ []) h = absurd (cc)
five_bytes (a ∷ b ∷ c ∷ d ∷ e ∷ []) h = (a ∷ b ∷ c ∷ d ∷ [], e, refl, cc)
five_bytes (a ∷ b ∷ c ∷ d ∷ e ∷ f ∷ g) h = absurd (cc)

pub trailer_complete : (t u : List ℕ) (m : Bool) → LosesTrailer t m u → without_trailer t ≡ Some (stripped_subject m u)
unfolding without_trailer
trailer_complete t u m h = go m h.trailer h.is_trailer h.text_is
  where
    go : (m : Bool) (v : List ℕ) → IsTrailer m v → t ≡ u ++ v → without_trailer t ≡ Some (stripped_subject m u)
    go m v trailing_space e =
        or_some (option_map (stripped_subject false) (before_literal (codes " ") t)) (option_map (stripped_subject true) (before_literal (codes "(fwd)") t)) (stripped_subject false u)
        (map_some (stripped_subject false) (before_literal (codes " ") t) u (ap (before_literal (codes " ")) e ∙ before_complete (codes " ") u (32 ∷ []) refl))
    go m v (forwarded l) e =
        or_none (option_map (stripped_subject false) (before_literal (codes " ") t)) (option_map (stripped_subject true) (before_literal (codes "(fwd)") t))
        (map_none (stripped_subject false) (before_literal (codes " ") t) (is_none (before_literal (codes " ") t) (λ (x : List ℕ) (g : before_literal (codes " ") t ≡ Some x).
        let w = before_sound (codes " ") t x g in
        let s = that_byte w.0 32 (omega arith) w.1 in
        let f = five_bytes v l in
        let same : f.1 ≡ 32 = last_same (u ++ f.0) x f.1 32
        (append_assoc u f.0 (f.1 ∷ []) ∙ ap (λ (y : List ℕ). u ++ y) (sym f.2) ∙ sym e ∙ w.2 ∙ ap (λ (y : List ℕ). x ++ y) s) in
        let n : to_ascii_lowercase f.1 ≡ 32 = ap to_ascii_lowercase same in
        omega (arith, n, f.3))))
        ∙ map_some (stripped_subject true) (before_literal (codes "(fwd)") t) u (ap (before_literal (codes "(fwd)")) e ∙ before_complete (codes "(fwd)") u v l)

-- leaders
pub leaders_sound : (t : List ℕ) (w : StrippedSubject) → without_leader t ≡ Some w → LosesLeader t w.reply w.text
unfolding without_leader
leaders_sound t w h = go (some_or (option_map (stripped_subject false) (after_literal (codes " ") t)) (option_map (stripped_subject true) (after_leader (length t) t)) w h)
  where
    go : (option_map (stripped_subject false) (after_literal (codes " ") t) ≡ Some w) ⊎ ((option_map (stripped_subject false) (after_literal (codes " ") t) ≡ None)
        × (option_map (stripped_subject true) (after_leader (length t) t) ≡ Some w)) → LosesLeader t w.reply w.text
    go (inl e) =
        let x = some_map (stripped_subject false) (after_literal (codes " ") t) w e in
        let P : StrippedSubject → Type 0 = λ l. LosesLeader t l.reply l.text in
        subst P x.2 (record { leader = 32 ∷ []; is_leader = leading_space; text_is = space_at t x.0 x.1 })
    go (inr e) =
        let x = some_map (stripped_subject true) (after_leader (length t) t) w e.1 in
        let l = leader_sound (length t) t x.0 x.1 in
        let P : StrippedSubject → Type 0 = λ l. LosesLeader t l.reply l.text in
        subst P x.2 (record { leader = l.0; is_leader = l.1; text_is = l.2 })

pub leaders_complete : (t u : List ℕ) (m : Bool) → LosesLeader t m u → without_leader t ≡ Some (stripped_subject m u)
unfolding without_leader
leaders_complete t u m h = go m h.leader h.is_leader h.text_is
  where
    marked_one : (l : List ℕ) → IsLeader true l → t ≡ l ++ u → without_leader t ≡ Some (stripped_subject true u)
    marked_one l x e =
        let f = leader_first true l u x refl in
        let n : length t ≡ length l + length u = ap length e ∙ length-append l u in
        or_none (option_map (stripped_subject false) (after_literal (codes " ") t)) (option_map (stripped_subject true) (after_leader (length t) t))
        (map_none (stripped_subject false) (after_literal (codes " ") t) (no_space_at t f.1 f.0 (e ∙ f.2) f.3))
        ∙ map_some (stripped_subject true) (after_leader (length t) t) u (ap (after_leader (length t)) e ∙ leader_complete true l u x refl (length t) (omega (arith, n)))

    go : (m : Bool) (l : List ℕ) → IsLeader m l → t ≡ l ++ u → without_leader t ≡ Some (stripped_subject m u)
    go m l leading_space e =
        or_some (option_map (stripped_subject false) (after_literal (codes " ") t)) (option_map (stripped_subject true) (after_leader (length t) t)) (stripped_subject false u)
        (map_some (stripped_subject false) (after_literal (codes " ") t) u (ap (after_literal (codes " ")) e ∙ at_space u))
    go m l (refwd r) e = marked_one l (refwd r) e
    go m l (behind x y) e = marked_one l (behind x y) e

-- blobs
pub if_any_is : (t u : List ℕ) → if_not_empty t ≡ Some u → (t ≡ u) × (u ≢ [])
if_any_is [] u h = absurd (cc)
if_any_is (b ∷ bs) u h = let e : (b ∷ bs) ≡ u = cc in (e, λ (n : u ≡ []). let k : (b ∷ bs) ≡ [] = e ∙ n in cc)

pub if_any_some : (t : List ℕ) → t ≢ [] → if_not_empty t ≡ Some t
if_any_some [] h = absurd (h refl)
if_any_some (b ∷ bs) h = refl

pub blobs_sound : (t : List ℕ) (w : StrippedSubject) → without_blob t ≡ Some w → (w.reply ≡ false) × LosesBlob t w.text
unfolding without_blob
blobs_sound t w h =
    let x = some_map (stripped_subject false) (option_and_then if_not_empty (after_blob t)) w h in
    let y = some_then if_not_empty (after_blob t) x.0 x.1 in
    let a = if_any_is y.0 x.0 y.2 in
    let b = blob_sound t y.0 y.1 in
    let P : StrippedSubject → Type 0 = λ l. (l.reply ≡ false) × LosesBlob t l.text in
    subst P x.2 (refl, record { blob = b.0; is_blob = b.1; leaves_some = a.1; text_is = b.2 ∙ ap (λ (l : List ℕ). b.0 ++ l) a.0 })

-- spaces alone end in a space
spaces_end : (s : List ℕ) → AreSpaces s → s ≢ [] → (r : List ℕ) × (s ≡ r ++ 32 ∷ [])
spaces_end [] a n = absurd (n refl)
spaces_end (b ∷ []) a n = ([], ap (λ (x : ℕ). x ∷ []) a.0)
spaces_end (b ∷ c ∷ s) a n =
    let r = spaces_end (c ∷ s) a.1 (λ (k : (c ∷ s) ≡ []). cc) in
    (b ∷ r.0, ap (λ (l : List ℕ). b ∷ l) r.1)

pub blobs_complete : (t u : List ℕ) → without_trailer t ≡ None → LosesBlob t u → without_blob t ≡ Some (stripped_subject false (after_spaces u))
unfolding without_blob
blobs_complete t u none h =
    map_some (stripped_subject false) (option_and_then if_not_empty (after_blob t)) (after_spaces u)
    (then_some if_not_empty (after_blob t) (after_spaces u) (ap after_blob h.text_is ∙ blob_complete h.blob u h.is_blob)
    ∙ if_any_some (after_spaces u) (λ (n : after_spaces u ≡ []).
    let s = spaces_sound u in
    let all : u ≡ s.0 = s.2 ∙ ap (λ (l : List ℕ). s.0 ++ l) n ∙ append-nil s.0 in
    let r = spaces_end s.0 s.1 (λ (k : s.0 ≡ []). h.leaves_some (all ∙ k)) in
    let e : t ≡ (h.blob ++ r.0) ++ 32 ∷ [] = h.text_is ∙ ap (λ (l : List ℕ). h.blob ++ l) (all ∙ r.1) ∙ sym (append_assoc h.blob r.0 (32 ∷ [])) in
    let l : LosesTrailer t false (h.blob ++ r.0) = record { trailer = 32 ∷ []; is_trailer = trailing_space; text_is = e } in
    let k : None ≡ Some (stripped_subject false (h.blob ++ r.0)) = sym none ∙ trailer_complete t (h.blob ++ r.0) false l in
    cc))

-- the pair
pub pair_sound : (t : List ℕ) (w : StrippedSubject) → without_fwd_brackets t ≡ Some w → (w.reply ≡ true) × LosesFwdBrackets t w.text
unfolding without_fwd_brackets
pair_sound t w h =
    let x = some_map (stripped_subject true) (option_and_then (before_literal (codes "]")) (after_literal (codes "[fwd:") t)) w h in
    let y = some_then (before_literal (codes "]")) (after_literal (codes "[fwd:") t) x.0 x.1 in
    let o = after_sound (codes "[fwd:") t y.0 y.1 in
    let c = before_sound (codes "]") y.0 x.0 y.2 in
    let P : StrippedSubject → Type 0 = λ l. (l.reply ≡ true) × LosesFwdBrackets t l.text in
    subst P x.2 (
      refl,
      record {
        opening = o.0;
        is_opening = o.1;
        text_is = o.2 ∙ ap (λ (l : List ℕ). o.0 ++ l) (c.2 ∙ ap (λ (l : List ℕ). x.0 ++ l) (that_byte c.0 93 (omega arith) c.1)) ∙ sym (append_assoc o.0 x.0 (93 ∷ []));
      },
    )

pub pair_complete : (t u : List ℕ) → LosesFwdBrackets t u → without_fwd_brackets t ≡ Some (stripped_subject true u)
unfolding without_fwd_brackets
pair_complete t u h =
    map_some (stripped_subject true) (option_and_then (before_literal (codes "]")) (after_literal (codes "[fwd:") t)) u
    (then_some (before_literal (codes "]")) (after_literal (codes "[fwd:") t) (u ++ 93 ∷ [])
    (ap (after_literal (codes "[fwd:")) (h.text_is ∙ append_assoc h.opening u (93 ∷ [])) ∙ after_complete (codes "[fwd:") h.opening (u ++ 93 ∷ []) h.is_opening)
    ∙ before_complete (codes "]") u (93 ∷ []) refl)
