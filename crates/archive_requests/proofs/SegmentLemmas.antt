-- A text at its first slash.
use Rattle.std.proofs.Common.{◌≡◌, ℕ, List, [], ◌∷◌, ◌++◌, Bool, true, false, cond, refl, sym, subst, arith, ◌==◌}
use Rattle.std.proofs.lemmas.Bool.Decides.{nat_tests}
use Rattle.matchit.specs.Seek.{segment, has_slash}
use Rattle.archive_requests.specs.Routes.{segments}

-- a text with no slash, or what stands before the first one and after it
pub data Cut : List ℕ → Type 0 where
  whole : (w : List ℕ) → has_slash w ≡ false → Cut w
  parted : (w r : List ℕ) → has_slash w ≡ false → Cut (w ++ 47 ∷ r)

unslashed : (b : ℕ) (w : List ℕ) → (b == 47) ≡ false → has_slash w ≡ false → has_slash (b ∷ w) ≡ false
unslashed b w e h = rw e h

further : (b : ℕ) (p : List ℕ) → (b == 47) ≡ false → Cut p → Cut (b ∷ p)
further b _ e (whole w h) = whole (b ∷ w) (unslashed b w e h)
further b _ e (parted w r h) = parted (b ∷ w) r (unslashed b w e h)

by_byte : (b : ℕ) (p : List ℕ) (v : Bool) → (b == 47) ≡ v → Cut p → Cut (b ∷ p)
by_byte b p true e c =
    let is : b ≡ 47 = grind (arith, nat_tests) in
    subst (λ x. Cut (x ∷ p)) (sym is) (parted [] p refl)
by_byte b p false e c = further b p e c

pub cut : (p : List ℕ) → Cut p
cut [] = whole [] refl
cut (b ∷ p) = by_byte b p (b == 47) refl (cut p)

-- a byte of a text with no slash is none, and what follows has none
pub first_byte : (b : ℕ) (w : List ℕ) → has_slash (b ∷ w) ≡ false → (b == 47) ≡ false
first_byte b w h = by (b == 47) refl h
  where
    by : (v : Bool) → (b == 47) ≡ v → cond v true (has_slash w) ≡ false → (b == 47) ≡ false
    by true e q = cc
    by false e q = e

pub rest_bytes : (b : ℕ) (w : List ℕ) → has_slash (b ∷ w) ≡ false → has_slash w ≡ false
rest_bytes b w h = rw (first_byte b w h) at h

pub segments-whole : (w : List ℕ) → has_slash w ≡ false → segments w ≡ w ∷ []
segments-whole [] h = refl
segments-whole (b ∷ w) h = rw (first_byte b w h, segments-whole w (rest_bytes b w h)) refl

pub segments-parted : (w r : List ℕ) → has_slash w ≡ false → segments (w ++ 47 ∷ r) ≡ w ∷ segments r
segments-parted [] r h = refl
segments-parted (b ∷ w) r h = rw (first_byte b w h, segments-parted w r (rest_bytes b w h)) refl

pub segment-whole : (w : List ℕ) → has_slash w ≡ false → segment w ≡ w
segment-whole [] h = refl
segment-whole (b ∷ w) h = rw (first_byte b w h, segment-whole w (rest_bytes b w h)) refl

pub segment-parted : (w r : List ℕ) → has_slash w ≡ false → segment (w ++ 47 ∷ r) ≡ w ++ 47 ∷ []
segment-parted [] r h = refl
segment-parted (b ∷ w) r h = rw (first_byte b w h, segment-parted w r (rest_bytes b w h)) refl

pub slash-parted : (w r : List ℕ) → has_slash (w ++ 47 ∷ r) ≡ true
slash-parted [] r = refl
slash-parted (b ∷ w) r = by (b == 47) (slash-parted w r)
  where
    by : (v : Bool) → has_slash (w ++ 47 ∷ r) ≡ true → cond v true (has_slash (w ++ 47 ∷ r)) ≡ true
    by true h = refl
    by false h = h
