-- The steps of the loops over removals: what was removed before, and one removal more.
use Rattle.std.proofs.Common.{◌≡◌, ℕ, ◌+◌, ◌-◌, ◌<◌, ◌≤◌, arith, length-append, Bool, true, false, ◌||◌, List, ◌++◌, length, refl, ap, ◌∙◌, sym, Some, None, append_assoc}
use Rattle.std.specs.Prelude.{codes}
use Rattle.subject_core.specs.Removal.{StrippedSubject, stripped_subject, without_trailer, without_fwd_brackets}
use Rattle.subject_core.specs.BaseSubject.{with_earlier_reply, after_all_removals}
use Rattle.subject_core.specs.Front.{without_front_piece, StripsTrailers, StripsFrontPieces}
use Rattle.subject_core.proofs.Literals.{literal_length}
use Rattle.subject_core.proofs.Parts.{IsPart, without_end, without_start}
use Rattle.subject_core.proofs.Removals.{trailer_sound, pair_sound}
use Rattle.subject_core.proofs.Rests.{next-trailer, next_shorter, rest-next, rest-done}
use Rattle.subject_core.proofs.Fronts.{front_step, front_end}

pub marked-more : (a b : Bool) (w : StrippedSubject) → with_earlier_reply a (with_earlier_reply b w) ≡ with_earlier_reply (a || b) w
marked-more true b w = refl
marked-more false b w = refl

pub marked-none : (w : StrippedSubject) → with_earlier_reply false w ≡ w
marked-none w = refl

-- one more at the end
pub end_less : (rest : List ℕ) (w : StrippedSubject) → without_trailer rest ≡ Some w → length w.text < length rest
end_less rest w h = next_shorter rest w (next-trailer rest w h)

pub end_same : (t rest : List ℕ) (m : Bool) (w : StrippedSubject) → after_all_removals t ≡ with_earlier_reply m (after_all_removals rest) → without_trailer rest ≡ Some w
    → after_all_removals t ≡ with_earlier_reply (m || w.reply) (after_all_removals w.text)
end_same t rest m w h e = h ∙ ap (with_earlier_reply m) (rest-next rest w (next-trailer rest w e)) ∙ marked-more m w.reply (after_all_removals w.text)

pub end_within : (t rest : List ℕ) (w : StrippedSubject) → (trailer : List ℕ) × (t ≡ rest ++ trailer) → without_trailer rest ≡ Some w → (trailer : List ℕ) × (t ≡ w.text ++ trailer)
end_within t rest w h e =
    let l = trailer_sound rest w e in
    (l.trailer ++ h.0, h.1 ∙ ap (λ (x : List ℕ). x ++ h.0) l.text_is ∙ append_assoc w.text l.trailer h.0)

-- one more at the front
pub front_less : (rest : List ℕ) (w : StrippedSubject) → without_trailer rest ≡ None → without_front_piece rest ≡ Some w → length w.text < length rest
front_less rest w n h = (front_step rest w n h).less

pub front_none : (rest : List ℕ) (w : StrippedSubject) → without_trailer rest ≡ None → without_front_piece rest ≡ Some w → without_trailer w.text ≡ None
front_none rest w n h = (front_step rest w n h).none

pub front_same : (t rest : List ℕ) (m : Bool) (w : StrippedSubject) → after_all_removals t ≡ with_earlier_reply m (after_all_removals rest) → without_trailer rest ≡ None
    → without_front_piece rest ≡ Some w
    → after_all_removals t ≡ with_earlier_reply (m || w.reply) (after_all_removals w.text)
front_same t rest m w h n e = h ∙ ap (with_earlier_reply m) (front_step rest w n e).same ∙ marked-more m w.reply (after_all_removals w.text)

pub front_within : (t rest : List ℕ) (w : StrippedSubject) → (leader : List ℕ) × (t ≡ leader ++ rest) → without_trailer rest ≡ None → without_front_piece rest ≡ Some w → (leader : List ℕ)
    × (t ≡ leader ++ w.text)
front_within t rest w h n e =
    let s = front_step rest w n e in
    (h.0 ++ s.front, h.1 ∙ ap (λ (x : List ℕ). h.0 ++ x) s.is ∙ sym (append_assoc h.0 s.front w.text))

-- a turn of removals at the end, at the front and of the pair
pub turn_same : (t rest ended begun : List ℕ) (m p q : Bool) → after_all_removals t ≡ with_earlier_reply m (after_all_removals rest) → StripsTrailers rest ended p → StripsFrontPieces ended begun q
    → after_all_removals t ≡ with_earlier_reply (m || (p || q)) (after_all_removals begun)
turn_same t rest ended begun m p q h e f =
    h ∙ ap (with_earlier_reply m) (e.same_removals ∙ ap (with_earlier_reply p) f.same_removals ∙ marked-more p q (after_all_removals begun)) ∙ marked-more m (p || q) (after_all_removals begun)

pub turn_done : (t begun : List ℕ) (m : Bool) → after_all_removals t ≡ with_earlier_reply m (after_all_removals begun) → without_trailer begun ≡ None → without_front_piece begun ≡ None
    → without_fwd_brackets begun ≡ None → after_all_removals t ≡ stripped_subject m begun
turn_done t begun m h n f p = h ∙ ap (with_earlier_reply m) (rest-done begun (front_end begun n f ∙ p)) ∙ flat m
  where
    flat : (m : Bool) → with_earlier_reply m (stripped_subject false begun) ≡ stripped_subject m begun
    flat true = refl
    flat false = refl

pub turn_pair : (t begun inner : List ℕ) (m : Bool) → after_all_removals t ≡ with_earlier_reply m (after_all_removals begun) → without_trailer begun ≡ None → without_front_piece begun ≡ None
    → without_fwd_brackets begun ≡ Some (stripped_subject true inner)
    → after_all_removals t ≡ with_earlier_reply true (after_all_removals inner)
turn_pair t begun inner m h n f p = h ∙ ap (with_earlier_reply m) (rest-next begun (stripped_subject true inner) (front_end begun n f ∙ p)) ∙ all m
  where
    all : (m : Bool) → with_earlier_reply m (with_earlier_reply true (after_all_removals inner)) ≡ with_earlier_reply true (after_all_removals inner)
    all true = refl
    all false = refl

pub inside_pair : (begun inner : List ℕ) → without_fwd_brackets begun ≡ Some (stripped_subject true inner) → (opening : List ℕ) × (length opening ≡ 5) × (begun ≡ opening ++ (inner ++ codes "]"))
inside_pair begun inner h =
    let p = (pair_sound begun (stripped_subject true inner) h).1 in
    (p.opening, literal_length (codes "[fwd:") p.opening p.is_opening, p.text_is ∙ append_assoc p.opening inner (codes "]"))

pub pair_less : (begun inner : List ℕ) → without_fwd_brackets begun ≡ Some (stripped_subject true inner) → length inner < length begun
pair_less begun inner h =
    let p = inside_pair begun inner h in
    let n : length begun ≡ length p.0 + (length inner + 1) = ap length p.2 ∙ length-append p.0 (inner ++ codes "]") ∙ ap (λ (m : ℕ). length p.0 + m) (length-append inner (codes "]")) in
    omega (arith, n, p.1)

pub turn_less : (rest ended begun : List ℕ) (p q : Bool) → StripsTrailers rest ended p → StripsFrontPieces ended begun q → length begun ≤ length rest
turn_less rest ended begun p q e f =
    let n : length rest ≡ length ended + length e.trailer = ap length e.text_is ∙ length-append ended e.trailer in
    let m : length ended ≡ length f.leader + length begun = ap length f.text_is ∙ length-append f.leader begun in
    omega (arith, n, m)

pub turn_part : (t rest ended begun : List ℕ) (from : ℕ) (p q : Bool) → IsPart t from rest → StripsTrailers rest ended p → StripsFrontPieces ended begun q
    → IsPart t (from + (length ended - length begun)) begun
turn_part t rest ended begun from p q h e f =
    let m : length ended ≡ length f.leader + length begun = ap length f.text_is ∙ length-append f.leader begun in
    without_start t ended f.leader begun from (from + (length ended - length begun)) (without_end t rest ended e.trailer from h e.text_is) f.text_is (omega (arith, m))

pub pair_part : (t begun inner : List ℕ) (from : ℕ) → IsPart t from begun → without_fwd_brackets begun ≡ Some (stripped_subject true inner) → IsPart t (from + 5) inner
pair_part t begun inner from h e =
    let p = inside_pair begun inner e in
    without_end t (inner ++ codes "]") inner (codes "]") (from + 5)
    (without_start t begun p.0 (inner ++ codes "]") from (from + 5) h p.2 (omega (arith, p.1)))
    refl
