-- The sides of a msg-id, by places.
use Rattle.std.proofs.Common.{◌≡◌, ◌≢◌, ℕ, zero, suc, ◌+◌, ◌-◌, ◌<◌, ◌≤◌, Bool, true, false, ◌==◌, List, [], ◌∷◌, ◌++◌, length, refl, arith, ap, ◌∙◌, sym, Option, Some, None}
use Rattle.std.proofs.Common.{take, drop, get_or, length-drop, drop-drop, get_or-drop, option_map, ◌⊎◌, inl, inr, append_assoc, append-nil, length-take}
use Rattle.std.proofs.Math.Seq.{take-suc}
use Rattle.std.specs.Option.{option_and_then}
use Rattle.mail_core.specs.MsgIds.{MessageId, is_id_left_byte, is_id_right_byte, after_leading_byte, prepend_byte, id_right_to_close, nonempty_id_right}
use Rattle.mail_core.specs.MsgIds.{Sides, prepend_to_left, sides_of, quoted_id, id_with_quoted_left, id_of_plain_sides, plain_id, id_at}
use Rattle.mail_core.specs.Quotes.{after_closing_quote, unquoted}
use Rattle.mail_core.proofs.CommentLemmas.{is_it, is_not, not_equal}
use Rattle.mail_core.proofs.CommentTable.{drop-at, drop-past}

pub right-62 : is_id_right_byte 62 ≡ false
unfolding is_id_right_byte
right-62 = refl

pub left-62 : is_id_left_byte 62 ≡ false
unfolding is_id_left_byte
left-62 = refl

pub left-64 : is_id_left_byte 64 ≡ true
unfolding is_id_left_byte
left-64 = refl

pub right-64 : is_id_right_byte 64 ≡ false
unfolding is_id_right_byte
right-64 = refl

-- one byte of a right side
pub right-more : (x : ℕ) (xs : List ℕ) → is_id_right_byte x ≡ true → id_right_to_close (x ∷ xs) ≡ option_map (prepend_byte x) (id_right_to_close xs)
unfolding id_right_to_close
right-more x xs h = rw (h, id_right_to_close) refl

pub right-closing_rest : (xs : List ℕ) → id_right_to_close (62 ∷ xs) ≡ Some ([], xs)
unfolding id_right_to_close is_id_right_byte
right-closing_rest xs = refl

pub right-stops : (x : ℕ) (xs : List ℕ) → is_id_right_byte x ≡ false → x ≢ 62 → id_right_to_close (x ∷ xs) ≡ None
unfolding id_right_to_close
right-stops x xs h n = rw (h, not_equal x 62 n, id_right_to_close, after_leading_byte) refl

pub right-over : id_right_to_close [] ≡ None
unfolding id_right_to_close
right-over = refl

under : (k n : ℕ) → suc k < suc n → k < n
under k n h = omega (arith, h)

right-found : (xs : List ℕ) (k : ℕ) → k < length xs → ((j : ℕ) → j < k → is_id_right_byte (get_or xs j 0) ≡ true) → get_or xs k 0 ≡ 62
    → id_right_to_close xs ≡ Some (take k xs, drop (suc k) xs)
right-found [] k lt run h = absurd (let bad : k < 0 = lt in omega (arith, bad))
right-found (x ∷ xs) zero lt run h = let e : x ≡ 62 = h in ap (λ (b : ℕ). id_right_to_close (b ∷ xs)) e ∙ right-closing_rest xs
right-found (x ∷ xs) (suc k) lt run h =
    right-more x xs (run 0 (omega arith))
    ∙ ap (option_map (prepend_byte x)) (right-found xs k (under k (length xs) lt) (λ j l. run (suc j) (omega (arith, l))) h)

right-none : (xs : List ℕ) (k : ℕ) → k ≤ length xs → ((j : ℕ) → j < k → is_id_right_byte (get_or xs j 0) ≡ true)
    → (k < length xs → (is_id_right_byte (get_or xs k 0) ≡ false) × (get_or xs k 0 ≢ 62)) → id_right_to_close xs ≡ None
right-none [] k le run h = right-over
right-none (x ∷ xs) zero le run h = let w = h (let g : 0 < suc (length xs) = omega arith in g) in right-stops x xs w.0 w.1
right-none (x ∷ xs) (suc k) le run h =
    right-more x xs (run 0 (omega arith))
    ∙ ap (option_map (prepend_byte x)) (right-none xs k (let g : suc k ≤ suc (length xs) = le in omega (arith, g)) (λ j l. run (suc j) (omega (arith, l)))
    (λ l. h (let g : suc k < suc (length xs) = omega (arith, l) in g)))

pub right-begins : (xs : List ℕ) → 0 < length xs → is_id_right_byte (get_or xs 0 0) ≡ true → nonempty_id_right xs ≡ id_right_to_close xs
right-begins [] lt h = absurd (let bad : 0 < 0 = lt in omega (arith, bad))
right-begins (x ∷ xs) lt h = let e : is_id_right_byte x ≡ true = h in rw (e, nonempty_id_right) refl

pub right-no_byte : (xs : List ℕ) → (0 < length xs → is_id_right_byte (get_or xs 0 0) ≡ false) → nonempty_id_right xs ≡ None
right-no_byte [] h = refl
right-no_byte (x ∷ xs) h = let e : is_id_right_byte x ≡ false = h (let g : 0 < suc (length xs) = omega arith in g) in rw (e, nonempty_id_right) refl

-- all bytes from i to j are of a right side
abbrev pub RightRun : List ℕ → ℕ → ℕ → Type 0
RightRun text i j = (k : ℕ) → i ≤ k → k < j → is_id_right_byte (get_or text k 0) ≡ true

shifted : (text : List ℕ) (i j : ℕ) → get_or (drop i text) j 0 ≡ get_or text (i + j) 0
shifted text i j = get_or-drop i text j 0

shifted_to : (text : List ℕ) (i j : ℕ) → i ≤ j → get_or (drop i text) (j - i) 0 ≡ get_or text j 0
shifted_to text i j h = shifted text i (j - i) ∙ ap (λ (n : ℕ). get_or text n 0) (let k : i + (j - i) ≡ j = omega (arith, h) in k)

run_of : (text : List ℕ) (i j : ℕ) → RightRun text i j → (k : ℕ) → k < j - i → is_id_right_byte (get_or (drop i text) k 0) ≡ true
run_of text i j run k h = ap is_id_right_byte (shifted text i k) ∙ run (i + k) (omega arith) (omega (arith, h))

pub right_at-found : (text : List ℕ) (i j : ℕ) → i < j → j < length text → RightRun text i j → get_or text j 0 ≡ 62
    → nonempty_id_right (drop i text) ≡ Some (take (j - i) (drop i text), drop (j + 1) text)
right_at-found text i j lt end run h =
    right-begins (drop i text) (simp length-drop (omega arith)) (run_of text i j run 0 (omega arith))
    ∙ right-found (drop i text) (j - i) (simp length-drop (omega arith)) (run_of text i j run) (shifted_to text i j (omega arith) ∙ h)
    ∙ ap (λ (l : List ℕ). Some (take (j - i) (drop i text), l)) (drop-drop (suc (j - i)) i text ∙ ap (λ (n : ℕ). drop n text) (let k : i + suc (j - i) ≡ j + 1 = omega (arith, lt) in k))

pub right_at-none : (text : List ℕ) (i j : ℕ) → i < j → j ≤ length text → RightRun text i j
    → (j < length text → (is_id_right_byte (get_or text j 0) ≡ false) × (get_or text j 0 ≢ 62)) → nonempty_id_right (drop i text) ≡ None
right_at-none text i j lt end run h =
    right-begins (drop i text) (simp length-drop (omega arith)) (run_of text i j run 0 (omega arith))
    ∙ right-none (drop i text) (j - i) (simp length-drop (omega arith)) (run_of text i j run)
    (λ g. let w = h (let k : j - i < length text - i = simp length-drop at g in omega (arith, k)) in
    let e = shifted_to text i j (omega arith) in (ap is_id_right_byte e ∙ w.0, λ b. w.1 (sym e ∙ b)))

pub right_at-nothing : (text : List ℕ) (i : ℕ) → (i < length text → is_id_right_byte (get_or text i 0) ≡ false) → nonempty_id_right (drop i text) ≡ None
right_at-nothing text i h =
    right-no_byte (drop i text) (λ g. ap is_id_right_byte (shifted text i 0 ∙ ap (λ (n : ℕ). get_or text n 0) (let k : i + 0 ≡ i = omega arith in k))
    ∙ h (let k : 0 < length text - i = simp length-drop at g in omega (arith, k)))

-- one more byte of the run
pub run-more : (text : List ℕ) (i j : ℕ) → RightRun text i j → is_id_right_byte (get_or text j 0) ≡ true → RightRun text i (j + 1)
run-more text i j run h k low high = go (let c : (k < j) ⊎ (k ≡ j) = grind arith in c)
  where
    go : (k < j) ⊎ (k ≡ j) → is_id_right_byte (get_or text k 0) ≡ true
    go (inl lt) = run k low lt
    go (inr e) = ap (λ (n : ℕ). is_id_right_byte (get_or text n 0)) e ∙ h

-- the division of a plain msg-id, byte by byte
abbrev pub joined : List ℕ → Sides → Sides
joined p w = (p ++ w.0, w.1, w.2)

pub sides_of-over : sides_of [] ≡ None
unfolding sides_of
sides_of-over = refl

pub sides_of-stops : (x : ℕ) (xs : List ℕ) → is_id_left_byte x ≡ false → sides_of (x ∷ xs) ≡ None
unfolding sides_of
sides_of-stops x xs h = rw (h, sides_of) refl

-- a byte that divides nothing
pub sides_of-more : (x : ℕ) (xs : List ℕ) → is_id_left_byte x ≡ true → (x ≡ 64 → nonempty_id_right xs ≡ None) → sides_of (x ∷ xs) ≡ option_map (prepend_to_left x) (sides_of xs)
unfolding sides_of
sides_of-more x xs h n = rw (h, sides_of) (go (sides_of xs) (x == 64) refl)
  where
    go : (o : Option Sides) (t : Bool) → (x == 64) ≡ t
        → elim o as (λ _. Option Sides) [
          | Some w ↦ Some (prepend_to_left x w)
          | None ↦ option_and_then (λ (r : List ℕ). option_map (λ (w : List ℕ × List ℕ). ([], w.0, w.1)) (nonempty_id_right r)) (elim t as (λ _. Option (List ℕ)) [ true ↦ Some xs | false ↦ None ])
        ] ≡ option_map (prepend_to_left x) o
    go (Some w) t e = refl
    go None true e = rw (n (is_it x 64 e)) refl
    go None false e = refl

-- a right side has no second division
pub sides_of-right : (xs : List ℕ) (w : List ℕ × List ℕ) → id_right_to_close xs ≡ Some w → sides_of xs ≡ None
sides_of-right [] w h = sides_of-over
sides_of-right (x ∷ xs) w h = go (is_id_right_byte x) refl (x == 62) refl (is_id_left_byte x) refl (id_right_to_close xs) refl (sides_of-right xs)
  where
    go : (r : Bool) → is_id_right_byte x ≡ r → (t : Bool) → (x == 62) ≡ t → (l : Bool) → is_id_left_byte x ≡ l → (o : Option (List ℕ × List ℕ)) → id_right_to_close xs ≡ o
        → ((w : List ℕ × List ℕ) → id_right_to_close xs ≡ Some w → sides_of xs ≡ None) → sides_of (x ∷ xs) ≡ None
    go r er t et false el o eo ih = sides_of-stops x xs el
    go false er true et true el o eo ih = absurd (let bad : true ≡ false = sym el ∙ ap is_id_left_byte (is_it x 62 et) ∙ left-62 in cc)
    go false er false et true el o eo ih = absurd (let bad : None ≡ Some w = sym (right-stops x xs er (is_not x 62 et)) ∙ h in cc)
    go true er t et true el None eo ih =
        absurd (let bad : None ≡ Some w = sym (right-more x xs er ∙ ap (option_map (prepend_byte x)) eo) ∙ h in cc)
    go true er t et true el (Some v) eo ih =
        sides_of-more x xs el (λ e. absurd (let bad : true ≡ false = sym er ∙ ap is_id_right_byte e ∙ right-64 in cc))
        ∙ ap (option_map (prepend_to_left x)) (ih v eo)

pub right_at-is : (xs : List ℕ) (w : List ℕ × List ℕ) → nonempty_id_right xs ≡ Some w → id_right_to_close xs ≡ Some w
right_at-is [] w h = absurd (let bad : None ≡ Some w = h in cc)
right_at-is (x ∷ xs) w h = go (is_id_right_byte x) refl
  where
    go : (t : Bool) → is_id_right_byte x ≡ t → id_right_to_close (x ∷ xs) ≡ Some w
    go false e = absurd (let bad : None ≡ Some w = sym (right-no_byte (x ∷ xs) (λ g. e)) ∙ h in cc)
    go true e = sym (right-begins (x ∷ xs) (let g : 0 < suc (length xs) = omega arith in g) e) ∙ h

pub sides_of-here : (xs : List ℕ) (w : List ℕ × List ℕ) → nonempty_id_right xs ≡ Some w → sides_of (64 ∷ xs) ≡ Some ([], w.0, w.1)
unfolding sides_of is_id_left_byte
sides_of-here xs w h = let none : sides_of xs ≡ None = sides_of-right xs w (right_at-is xs w h) in rw (none, h) refl

-- by places: what is left of at is a left side so far
abbrev pub Divides : List ℕ → ℕ → ℕ → Type 0
Divides text i at = sides_of (drop i text) ≡ option_map (joined (take (at - i) (drop i text))) (sides_of (drop at text))

joined-nothing : (o : Option Sides) → option_map (joined []) o ≡ o
joined-nothing None = refl
joined-nothing (Some w) = refl

joined-with_left_first : (p : List ℕ) (b : ℕ) (o : Option Sides) → option_map (joined p) (option_map (prepend_to_left b) o) ≡ option_map (joined (p ++ b ∷ [])) o
joined-with_left_first p b None = refl
joined-with_left_first p b (Some w) = ap (λ (l : List ℕ). Some (l, w.1, w.2)) (sym (append_assoc p (b ∷ []) w.0))

pub divides-start : (text : List ℕ) (i : ℕ) → Divides text i i
divides-start text i = sym (joined-nothing (sides_of (drop i text))) ∙ ap (λ (n : ℕ). option_map (joined (take n (drop i text))) (sides_of (drop i text))) (let k : 0 ≡ i - i = omega arith in k)

pub divides-more : (text : List ℕ) (i at : ℕ) → i ≤ at → at < length text → is_id_left_byte (get_or text at 0) ≡ true
    → (get_or text at 0 ≡ 64 → nonempty_id_right (drop (at + 1) text) ≡ None) → Divides text i at → Divides text i (at + 1)
divides-more text i at le lt h n d =
    let b : ℕ = get_or text at 0 in
    let short : at - i < length (drop i text) = simp length-drop (omega arith) in
    let longer_run : take (at + 1 - i) (drop i text) ≡ take (at - i) (drop i text) ++ b ∷ [] = grown in
    d ∙ ap (λ (o : Option Sides). option_map (joined (take (at - i) (drop i text))) o) (ap sides_of (drop-at text at b lt refl) ∙ sides_of-more b (drop (at + 1) text) h n)
    ∙ joined-with_left_first (take (at - i) (drop i text)) b (sides_of (drop (at + 1) text))
    ∙ ap (λ (l : List ℕ). option_map (joined l) (sides_of (drop (at + 1) text))) (sym longer_run)
  where
    grown : take (at + 1 - i) (drop i text) ≡ take (at - i) (drop i text) ++ get_or text at 0 ∷ []
    grown =
        ap (λ (n : ℕ). take n (drop i text)) (let k : at + 1 - i ≡ suc (at - i) = omega (arith, le) in k)
        ∙ take-suc (drop i text) (at - i) 0 (simp length-drop (omega (arith, le, lt)))
        ∙ ap (λ (b : ℕ). take (at - i) (drop i text) ++ b ∷ []) (shifted_to text i at le)

pub divides-stop : (text : List ℕ) (i at : ℕ) → (at < length text → is_id_left_byte (get_or text at 0) ≡ false) → Divides text i at → sides_of (drop i text) ≡ None
divides-stop text i at h d = d ∙ ap (option_map (joined (take (at - i) (drop i text)))) (go (let c : (at < length text) ⊎ (length text ≤ at) = grind arith in c))
  where
    go : (at < length text) ⊎ (length text ≤ at) → sides_of (drop at text) ≡ None
    go (inl lt) = ap sides_of (drop-at text at (get_or text at 0) lt refl) ∙ sides_of-stops (get_or text at 0) (drop (at + 1) text) (h lt)
    go (inr ge) = ap sides_of (drop-past text at ge) ∙ sides_of-over

pub divides-here : (text : List ℕ) (i at : ℕ) (r rest : List ℕ) → at < length text → get_or text at 0 ≡ 64 → nonempty_id_right (drop (at + 1) text) ≡ Some (r, rest)
    → Divides text i at → sides_of (drop i text) ≡ Some (take (at - i) (drop i text), r, rest)
divides-here text i at r rest lt h e d =
    d ∙ ap (option_map (joined (take (at - i) (drop i text)))) (ap sides_of (drop-at text at 64 lt h) ∙ sides_of-here (drop (at + 1) text) (r, rest) e)
    ∙ ap (λ (l : List ℕ). Some (l, r, rest)) (append-nil (take (at - i) (drop i text)))

-- @ in front
pub after_leading_byte-found : (text : List ℕ) (e : ℕ) → e < length text → get_or text e 0 ≡ 64 → after_leading_byte 64 (drop e text) ≡ Some (drop (e + 1) text)
after_leading_byte-found text e lt h = ap (after_leading_byte 64) (drop-at text e 64 lt h)

pub after_leading_byte-none : (text : List ℕ) (e : ℕ) → (e < length text → get_or text e 0 ≢ 64) → after_leading_byte 64 (drop e text) ≡ None
after_leading_byte-none text e h = go (let c : (e < length text) ⊎ (length text ≤ e) = grind arith in c)
  where
    go : (e < length text) ⊎ (length text ≤ e) → after_leading_byte 64 (drop e text) ≡ None
    go (inl lt) = ap (after_leading_byte 64) (drop-at text e (get_or text e 0) lt refl) ∙ rw (not_equal (get_or text e 0) 64 (h lt), after_leading_byte) refl
    go (inr ge) = ap (after_leading_byte 64) (drop-past text e ge)

-- the msg-id with a quoted left side
pub quoted-step : (bs rest r : List ℕ) (w : List ℕ × List ℕ) → after_closing_quote false bs ≡ Some rest → after_leading_byte 64 rest ≡ Some r → nonempty_id_right r ≡ Some w
    → quoted_id bs ≡ Some (id_with_quoted_left bs rest w)
quoted-step bs rest r w h k m =
    ap (option_and_then (λ (rest : List ℕ). option_and_then (λ (r : List ℕ). option_map (id_with_quoted_left bs rest) (nonempty_id_right r)) (after_leading_byte 64 rest))) h
    ∙ ap (option_and_then (λ (r : List ℕ). option_map (id_with_quoted_left bs rest) (nonempty_id_right r))) k
    ∙ ap (option_map (id_with_quoted_left bs rest)) m

pub quoted-found : (text : List ℕ) (s e close : ℕ) (l r : List ℕ) → s < e → e < length text → after_closing_quote false (drop s text) ≡ Some (drop e text) → get_or text e 0 ≡ 64
    → nonempty_id_right (drop (e + 1) text) ≡ Some (r, drop close text) → l ≡ unquoted false (take (e - 1 - s) (drop s text))
    → quoted_id (drop s text) ≡ Some (record { left = l; right = r }, drop close text)
quoted-found text s e close l r lt end h a k same =
    quoted-step (drop s text) (drop e text) (drop (e + 1) text) (r, drop close text) h (after_leading_byte-found text e end a) k
    ∙ ap (λ (l : List ℕ). Some (record { left = l; right = r }, drop close text))
    (ap (λ (n : ℕ). unquoted false (take n (drop s text))) (let g : length (drop s text) - (length (drop e text) + 1) ≡ e - 1 - s = simp length-drop (omega (arith, lt, end)) in g) ∙ sym same)

pub quoted-open : (text : List ℕ) (s : ℕ) → after_closing_quote false (drop s text) ≡ None → quoted_id (drop s text) ≡ None
quoted-open text s h = ap (option_and_then (λ (rest : List ℕ). option_and_then (λ (r : List ℕ). option_map (id_with_quoted_left (drop s text) rest) (nonempty_id_right r))
    (after_leading_byte 64 rest))) h

pub quoted-no_at : (text : List ℕ) (s e : ℕ) → after_closing_quote false (drop s text) ≡ Some (drop e text) → (e < length text → get_or text e 0 ≢ 64) → quoted_id (drop s text) ≡ None
quoted-no_at text s e h a =
    ap (option_and_then (λ (rest : List ℕ). option_and_then (λ (r : List ℕ). option_map (id_with_quoted_left (drop s text) rest) (nonempty_id_right r)) (after_leading_byte 64 rest))) h
    ∙ ap (option_and_then (λ (r : List ℕ). option_map (id_with_quoted_left (drop s text) (drop e text)) (nonempty_id_right r))) (after_leading_byte-none text e a)

pub quoted-no_right : (text : List ℕ) (s e : ℕ) → e < length text → after_closing_quote false (drop s text) ≡ Some (drop e text) → get_or text e 0 ≡ 64
    → nonempty_id_right (drop (e + 1) text) ≡ None → quoted_id (drop s text) ≡ None
quoted-no_right text s e end h a k =
    ap (option_and_then (λ (rest : List ℕ). option_and_then (λ (r : List ℕ). option_map (id_with_quoted_left (drop s text) rest) (nonempty_id_right r)) (after_leading_byte 64 rest))) h
    ∙ ap (option_and_then (λ (r : List ℕ). option_map (id_with_quoted_left (drop s text) (drop e text)) (nonempty_id_right r))) (after_leading_byte-found text e end a)
    ∙ ap (option_map (id_with_quoted_left (drop s text) (drop e text))) k

-- the msg-id without quotes
pub parts-some : (l r rest : List ℕ) → 0 < length l → id_of_plain_sides (l, r, rest) ≡ Some (record { left = l; right = r }, rest)
parts-some [] r rest h = absurd (let bad : 0 < 0 = h in omega (arith, bad))
parts-some (b ∷ l) r rest h = refl

pub plain-found : (text : List ℕ) (s at close : ℕ) (l r rest : List ℕ) → s < at → at < length text → l ≡ take (at - s) (drop s text)
    → sides_of (drop s text) ≡ Some (take (at - s) (drop s text), r, rest) → plain_id (drop s text) ≡ Some (record { left = l; right = r }, rest)
plain-found text s at close l r rest lt end same h =
    ap (option_and_then id_of_plain_sides) h
    ∙ ap (λ (l : List ℕ). id_of_plain_sides (l, r, rest)) (sym same)
    ∙ parts-some l r rest (rw same (simp (length-take, length-drop) (omega (arith, lt, end))))

pub plain-none : (text : List ℕ) (s : ℕ) → sides_of (drop s text) ≡ None → plain_id (drop s text) ≡ None
plain-none text s h = ap (option_and_then id_of_plain_sides) h

pub plain-no_left : (text : List ℕ) (s at : ℕ) (r rest : List ℕ) → at ≡ s → sides_of (drop s text) ≡ Some (take (at - s) (drop s text), r, rest) → plain_id (drop s text) ≡ None
plain-no_left text s at r rest e h =
    ap (option_and_then id_of_plain_sides) h ∙ ap (λ (n : ℕ). id_of_plain_sides (take n (drop s text), r, rest)) (let k : at - s ≡ 0 = omega (arith, e) in k)

-- < and what follows
pub id_at-cons : (b : ℕ) (bs : List ℕ) → id_at (60 ∷ b ∷ bs) ≡ elim (b == 34) as (λ _. Option (MessageId × List ℕ)) [ true ↦ quoted_id bs | false ↦ plain_id (b ∷ bs) ]
unfolding id_at
id_at-cons b bs = refl

pub id-quoted : (text : List ℕ) (i : ℕ) → i + 1 < length text → get_or text i 0 ≡ 60 → get_or text (i + 1) 0 ≡ 34 → id_at (drop i text) ≡ quoted_id (drop (i + 2) text)
id-quoted text i lt h q =
    ap id_at (drop-at text i 60 (omega (arith, lt)) h ∙ ap (λ (l : List ℕ). 60 ∷ l) (drop-at text (i + 1) 34 lt q))
    ∙ id_at-cons 34 (drop (i + 1 + 1) text) ∙ ap (λ (n : ℕ). quoted_id (drop n text)) (let k : i + 1 + 1 ≡ i + 2 = omega arith in k)

pub id-plain : (text : List ℕ) (i : ℕ) → i + 1 < length text → get_or text i 0 ≡ 60 → get_or text (i + 1) 0 ≢ 34 → id_at (drop i text) ≡ plain_id (drop (i + 1) text)
id-plain text i lt h q =
    let next = drop-at text (i + 1) (get_or text (i + 1) 0) lt refl in
    ap id_at (drop-at text i 60 (omega (arith, lt)) h ∙ ap (λ (l : List ℕ). 60 ∷ l) next)
    ∙ id_at-cons (get_or text (i + 1) 0) (drop (i + 1 + 1) text)
    ∙ rw (not_equal (get_or text (i + 1) 0) 34 q) (ap plain_id (sym next))

pub short-none : (xs : List ℕ) → length xs ≤ 1 → id_at xs ≡ None
unfolding id_at
short-none [] k = refl
short-none (a ∷ []) k = refl
short-none (a ∷ b ∷ xs) k = absurd (let g : suc (suc (length xs)) ≤ 1 = k in omega (arith, g))

pub id-short : (text : List ℕ) (i : ℕ) → length text ≤ i + 1 → id_at (drop i text) ≡ None
id-short text i h = short-none (drop i text) (let k : length (drop i text) ≤ 1 = simp length-drop (omega (arith, h)) in k)
