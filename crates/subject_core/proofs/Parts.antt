-- A part of a text, by its place.
use Rattle.std.proofs.Common.{◌≡◌, ℕ, ◌+◌, ◌-◌, ◌<◌, ◌≤◌, List, [], ◌++◌, length, refl, arith, ap, ◌∙◌, sym, take, drop, get_or, append_assoc, length-append}
use Rattle.std.proofs.lemmas.List.{append-nil, take_at, drop_at, length-map, length-drop, length-take-le, get_or-take, get_or-drop, get_or-map, ext_get_or}
use Rattle.std.specs.Char.{to_ascii_lowercase}
use Rattle.subject_core.specs.Pieces.{ascii_lowercase}

pub record IsPart (text : List ℕ) (from : ℕ) (part : List ℕ) : Type 0 where
  pub front : List ℕ
  pub back : List ℕ
  pub is : text ≡ front ++ (part ++ back)
  pub place : length front ≡ from

pub whole : (text : List ℕ) → IsPart text 0 text
whole text = record { front = []; back = []; is = sym (append-nil text); place = refl }

pub without_end : (text part rest trailer : List ℕ) (from : ℕ) → IsPart text from part → part ≡ rest ++ trailer → IsPart text from rest
without_end text part rest trailer from p e = record {
  front = p.front;
  back = trailer ++ p.back;
  is = p.is ∙ ap (λ (l : List ℕ). p.front ++ l) (ap (λ (l : List ℕ). l ++ p.back) e ∙ append_assoc rest trailer p.back);
  place = p.place;
}

pub without_start : (text part leader rest : List ℕ) (from to : ℕ) → IsPart text from part → part ≡ leader ++ rest → to ≡ from + length leader → IsPart text to rest
without_start text part leader rest from to p e t = record {
  front = p.front ++ leader;
  back = p.back;
  is = p.is ∙ ap (λ (l : List ℕ). p.front ++ l) (ap (λ (l : List ℕ). l ++ p.back) e ∙ append_assoc leader rest p.back) ∙ sym (append_assoc p.front leader (rest ++ p.back));
  place = length-append p.front leader ∙ ap (λ (n : ℕ). n + length leader) p.place ∙ sym t;
}

pub part_within : (text part : List ℕ) (from : ℕ) → IsPart text from part → from + length part ≤ length text
part_within text part from p =
    let n : length text ≡ length p.front + (length part + length p.back) = ap length p.is ∙ length-append p.front (part ++ p.back) ∙ ap (λ (m : ℕ). length p.front + m) (length-append part p.back) in
    let m = p.place in
    omega (arith, n, m)

pub part_is : (text part : List ℕ) (from : ℕ) → IsPart text from part → take (length part) (drop from text) ≡ part
part_is text part from p =
    ap (λ (l : List ℕ). take (length part) (drop from l)) p.is
    ∙ ap (take (length part)) (drop_at p.front (part ++ p.back) from p.place)
    ∙ take_at part p.back (length part) refl

-- bytes that were moved to the front in lower case
pub moved_part : (new old : List ℕ) (from len : ℕ) → from + len ≤ length old → length new ≡ length old
    → ((k : ℕ) → k < len → get_or new k 0 ≡ to_ascii_lowercase (get_or old (from + k) 0)) → take len new ≡ ascii_lowercase (take len (drop from old))
moved_part new old from len l n h =
    let a : length (take len new) ≡ len = length-take-le len new (omega (arith, l, n)) in
    let d : length (drop from old) ≡ length old - from = length-drop from old in
    let b : length (take len (drop from old)) ≡ len = length-take-le len (drop from old) (omega (arith, l, d)) in
    let m : length (ascii_lowercase (take len (drop from old))) ≡ len = length-map (take len (drop from old)) to_ascii_lowercase ∙ b in
    ext_get_or 0 (take len new) (ascii_lowercase (take len (drop from old))) (a ∙ sym m)
    (λ (i : ℕ) (k : i < length (take len new)).
    let j : i < len = omega (arith, k, a) in
    get_or-take len new i 0 j
    ∙ h i j
    ∙ ap to_ascii_lowercase (sym (get_or-drop from old i 0) ∙ sym (get_or-take len (drop from old) i 0 j))
    ∙ sym (get_or-map to_ascii_lowercase (take len (drop from old)) i 0 0 (omega (arith, j, b))))
