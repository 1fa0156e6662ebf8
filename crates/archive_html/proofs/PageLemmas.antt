-- Pages, piece by piece.
use Rattle.std.proofs.Common.{◌≡◌, List, ℕ, [], ◌∷◌, ◌++◌, map, ap, refl, codes, append_assoc}
use Rattle.std.specs.Prelude.{flat_map}
use Rattle.archive_html.specs.Pages.{page_head}

pub page_head_is : (title p0 p1 p2 p3 p4 p5 : List ℕ) → p0 ≡ [] → p1 ≡ p0 ++ codes "<!DOCTYPE html>\n<html><head><title>" → p2 ≡ p1 ++ title
    → p3 ≡ p2 ++ codes "</title></head><body>\n<h1>" → p4 ≡ p3 ++ title → p5 ≡ p4 ++ codes "</h1>\n" → p5 ≡ page_head title
unfolding page_head
page_head_is title p0 p1 p2 p3 p4 p5 e0 e1 e2 e3 e4 e5 = rw (e5, e4, e3, e2, e1, e0) (simp append_assoc)

pub flat_map-map : (A B : Type 0) (f : B → List ℕ) (g : A → B) (xs : List A) → flat_map (λ x. f (g x)) xs ≡ flat_map f (map g xs)
flat_map-map A B f g [] = refl
flat_map-map A B f g (x ∷ xs) = ap (λ (ys : List ℕ). f (g x) ++ ys) (flat_map-map A B f g xs)

pub page_is : (head rows rows' foot p1 p2 p3 : List ℕ) → p1 ≡ head → p2 ≡ p1 ++ rows → p3 ≡ p2 ++ foot → rows ≡ rows' → p3 ≡ head ++ (rows' ++ foot)
page_is head rows rows' foot p1 p2 p3 e1 e2 e3 e = rw (e3, e2, e1, e) (simp append_assoc)
