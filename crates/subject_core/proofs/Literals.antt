-- What after and before say: a literal stands at the front or at the end of the text.
use Rattle.std.proofs.Common.{◌≡◌, ℕ, suc, ◌+◌, ◌<◌, ◌≤◌, Bool, true, false, ◌==◌, List, [], ◌∷◌, ◌++◌, length, refl, arith, ap, ◌∙◌, sym, Some, None, drop, reverse, length-append}
use Rattle.std.proofs.lemmas.List.{reverse-append, reverse-reverse, map-append, length-map, drop_at, append-nil}
use Rattle.std.specs.Char.{to_ascii_lowercase}
use Rattle.subject_core.specs.Pieces.{ascii_lowercase, EqualsIgnoringCase}
use Rattle.subject_core.specs.Removal.{after_literal, before_literal}
use Rattle.subject_core.proofs.Steps.{is_it, is_not, after-nothing, after-past, after-same, after-other}
use Rattle.subject_core.proofs.Options.{some_map, map_some, is_none}

pub after_sound : (k t u : List ℕ) → after_literal k t ≡ Some u → (w : List ℕ) × EqualsIgnoringCase k w × (t ≡ w ++ u)
after_sound [] t u h = ([], refl, let e : Some t ≡ Some u = sym (after-nothing t) ∙ h in cc)
after_sound (k ∷ ks) [] u h = absurd (let e : None ≡ Some u = sym (after-past k ks) ∙ h in cc)
after_sound (k ∷ ks) (b ∷ bs) u h = go (after_sound ks bs u) (to_ascii_lowercase b == k) refl
  where
    go : (after_literal ks bs ≡ Some u → (w : List ℕ) × EqualsIgnoringCase ks w × (bs ≡ w ++ u)) → (s : Bool) → (to_ascii_lowercase b == k) ≡ s → (w : List ℕ) × EqualsIgnoringCase (k ∷ ks) w
        × ((b ∷ bs) ≡ w ++ u)
    go ih true e =
        let i : to_ascii_lowercase b ≡ k = is_it (to_ascii_lowercase b) k e in
        let w = ih (sym (after-same k b ks bs i) ∙ h) in
        (b ∷ w.0, ap (λ (x : ℕ). x ∷ ascii_lowercase w.0) i ∙ ap (λ (l : List ℕ). k ∷ l) w.1, ap (λ (l : List ℕ). b ∷ l) w.2)
    go ih false e = absurd (let n : None ≡ Some u = sym (after-other k b ks bs (is_not (to_ascii_lowercase b) k e)) ∙ h in cc)

after_lower : (w u : List ℕ) → after_literal (ascii_lowercase w) (w ++ u) ≡ Some u
after_lower [] u = after-nothing u
after_lower (b ∷ w) u = after-same (to_ascii_lowercase b) b (ascii_lowercase w) (w ++ u) refl ∙ after_lower w u

pub after_complete : (k w u : List ℕ) → EqualsIgnoringCase k w → after_literal k (w ++ u) ≡ Some u
after_complete k w u h = ap (λ (l : List ℕ). after_literal l (w ++ u)) (sym h) ∙ after_lower w u

pub lower-reverse : (w : List ℕ) → ascii_lowercase (reverse w) ≡ reverse (ascii_lowercase w)
lower-reverse [] = refl
lower-reverse (b ∷ w) =
    ap ascii_lowercase (reverse-append (b ∷ []) w)
    ∙ map-append to_ascii_lowercase (reverse w) (b ∷ [])
    ∙ ap (λ (l : List ℕ). l ++ to_ascii_lowercase b ∷ []) (lower-reverse w)
    ∙ sym (reverse-append (to_ascii_lowercase b ∷ []) (ascii_lowercase w))

pub literal_length : (k w : List ℕ) → EqualsIgnoringCase k w → length w ≡ length k
literal_length k w h = sym (length-map w to_ascii_lowercase) ∙ ap length h

pub before_sound : (k t u : List ℕ) → before_literal k t ≡ Some u → (w : List ℕ) × EqualsIgnoringCase k w × (t ≡ u ++ w)
before_sound k t u h =
    let v = some_map reverse (after_literal (reverse k) (reverse t)) u h in
    let w = after_sound (reverse k) (reverse t) v.0 v.1 in (
      reverse w.0,
      lower-reverse w.0 ∙ ap reverse w.1 ∙ reverse-reverse k,
      sym (reverse-reverse t) ∙ ap reverse w.2 ∙ reverse-append w.0 v.0 ∙ ap (λ (l : List ℕ). l ++ reverse w.0) v.2,
    )

pub before_complete : (k u w : List ℕ) → EqualsIgnoringCase k w → before_literal k (u ++ w) ≡ Some u
before_complete k u w h =
    map_some reverse (after_literal (reverse k) (reverse (u ++ w))) (reverse u)
    (ap (after_literal (reverse k)) (reverse-append u w) ∙ after_complete (reverse k) (reverse w) (reverse u) (lower-reverse w ∙ ap reverse h))
    ∙ ap Some (reverse-reverse u)

-- the same at a text that is divided where the literal would begin
pub before-short : (k t : List ℕ) → length t < length k → before_literal k t ≡ None
before-short k t l = is_none (before_literal k t) (λ (u : List ℕ) (h : before_literal k t ≡ Some u).
    let w = before_sound k t u h in
    let n = literal_length k w.0 w.1 in
    let m : length t ≡ length u + length w.0 = ap length w.2 ∙ length-append u w.0 in
    omega arith)

no_rest : (w v : List ℕ) → length (w ++ v) ≤ length w → v ≡ []
no_rest w [] h = refl
no_rest w (b ∷ v) h = absurd (let m : length (w ++ b ∷ v) ≡ length w + suc (length v) = length-append w (b ∷ v) in omega arith)

pub before-end : (k rest end v : List ℕ) → length end ≡ length k → after_literal k end ≡ Some v → before_literal k (rest ++ end) ≡ Some rest
before-end k rest end v l h =
    let w = after_sound k end v h in
    let n = literal_length k w.0 w.1 in
    let e : v ≡ [] = no_rest w.0 v (let m : length end ≡ length (w.0 ++ v) = ap length w.2 in omega arith) in
    let same : end ≡ w.0 = w.2 ∙ ap (λ (x : List ℕ). w.0 ++ x) e ∙ append-nil w.0 in
    ap (λ (x : List ℕ). before_literal k (rest ++ x)) same ∙ before_complete k rest w.0 w.1

-- two ends of one length
pub same_end : (a b x y : List ℕ) → a ++ x ≡ b ++ y → length x ≡ length y → x ≡ y
same_end a b x y h l =
    let m : length a + length x ≡ length b + length y = sym (length-append a x) ∙ ap length h ∙ length-append b y in
    sym (drop_at a x (length a) refl) ∙ ap (drop (length a)) h ∙ drop_at b y (length a) (omega arith)

pub before-not_end : (k rest end : List ℕ) → length end ≡ length k → after_literal k end ≡ None → before_literal k (rest ++ end) ≡ None
before-not_end k rest end l h = is_none (before_literal k (rest ++ end)) (λ (u : List ℕ) (g : before_literal k (rest ++ end) ≡ Some u).
    let w = before_sound k (rest ++ end) u g in
    let n = literal_length k w.0 w.1 in
    let same : end ≡ w.0 = same_end rest u end w.0 w.2 (omega arith) in
    let found : after_literal k end ≡ Some [] = ap (after_literal k) (same ∙ sym (append-nil w.0)) ∙ after_complete k w.0 [] w.1 in
    let e : None ≡ Some [] = sym h ∙ found in cc)
