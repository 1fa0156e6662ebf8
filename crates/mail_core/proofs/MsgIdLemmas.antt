-- The grammar of msg-ids and the function that reads one are one.
use Rattle.std.proofs.Common.{◌≡◌, ◌≢◌, ℕ, suc, ◌+◌, ◌-◌, ◌<◌, ◌≤◌, Bool, true, false, ◌==◌, List, [], ◌∷◌, ◌++◌, length, refl, arith, ap, ◌∙◌}
use Rattle.std.proofs.Common.{sym, Option, Some, None, subst, take, option_map, inl, inr, append_assoc, IsTrue, length-append}
use Rattle.std.specs.List.{AllByRecursion}
use Rattle.std.specs.Option.{option_and_then}
use Rattle.std.proofs.Math.Seq.{take-append_seam}
use Rattle.mail_core.specs.MsgIds.{MessageId, IsMsgId, OneOrMore, is_id_left_byte, is_id_right_byte, after_leading_byte, prepend_byte, id_right_to_close, nonempty_id_right, Sides}
use Rattle.mail_core.specs.MsgIds.{prepend_to_left, sides_of, quoted_id, id_with_quoted_left, id_of_plain_sides, plain_id, id_at}
use Rattle.mail_core.specs.Quotes.{IsQuotedContent, after_closing_quote, unquoted}
use Rattle.mail_core.proofs.CommentLemmas.{is_it, is_not, not_equal}
use Rattle.mail_core.proofs.QuoteLemmas.{quote_ends, quoted_of, means}
use Rattle.mail_core.proofs.SideLemmas.{right-62, right-more, right-closing_rest, right-stops, right-over, right-begins, right-no_byte, right_at-is}
use Rattle.mail_core.proofs.SideLemmas.{sides_of-over, sides_of-stops, sides_of-more, sides_of-here, id_at-cons, quoted-step, short-none}
use Rattle.mail_core.proofs.ScanLemmas.{no_id}

true_of : (b : Bool) → IsTrue b → b ≡ true
true_of b h = h

-- what the grammar allows, the function reads
right_reads : (r rest : List ℕ) → AllByRecursion (λ b. IsTrue (is_id_right_byte b)) r → id_right_to_close (r ++ 62 ∷ rest) ≡ Some (r, rest)
right_reads [] rest h = right-closing_rest rest
right_reads (b ∷ r) rest h = right-more b (r ++ 62 ∷ rest) (true_of (is_id_right_byte b) h.0) ∙ ap (option_map (prepend_byte b)) (right_reads r rest h.1)

right_at-reads : (r rest : List ℕ) → OneOrMore is_id_right_byte r → nonempty_id_right (r ++ 62 ∷ rest) ≡ Some (r, rest)
right_at-reads [] rest h = absurd (h.0 refl)
right_at-reads (b ∷ r) rest h =
    right-begins (b ∷ r ++ 62 ∷ rest) (let g : 0 < suc (length (r ++ 62 ∷ rest)) = omega arith in g) (true_of (is_id_right_byte b) h.1.0) ∙ right_reads (b ∷ r) rest h.1

sides_of-on : (x : ℕ) (xs : List ℕ) (w : Sides) → is_id_left_byte x ≡ true → sides_of xs ≡ Some w → sides_of (x ∷ xs) ≡ Some (prepend_to_left x w)
unfolding sides_of
sides_of-on x xs w h e = rw (h, e, sides_of) refl

divided_reads : (l r rest : List ℕ) → AllByRecursion (λ b. IsTrue (is_id_left_byte b)) l → OneOrMore is_id_right_byte r → sides_of (l ++ 64 ∷ r ++ 62 ∷ rest) ≡ Some (l, r, rest)
divided_reads [] r rest h k = sides_of-here (r ++ 62 ∷ rest) (r, rest) (right_at-reads r rest k)
divided_reads (b ∷ l) r rest h k = sides_of-on b (l ++ 64 ∷ r ++ 62 ∷ rest) (l, r, rest) (true_of (is_id_left_byte b) h.0) (divided_reads l r rest h.1 k)

-- a left side does not begin with a quote
left_no_quote : (b : ℕ) → is_id_left_byte b ≡ true → b ≢ 34
unfolding is_id_left_byte
left_no_quote b h e = let bad : false ≡ true = sym (ap is_id_left_byte e) ∙ h in cc

plain_reads : (b : ℕ) (l r rest : List ℕ) → AllByRecursion (λ b. IsTrue (is_id_left_byte b)) (b ∷ l) → OneOrMore is_id_right_byte r
    → id_at (60 ∷ b ∷ l ++ 64 ∷ r ++ 62 ∷ rest) ≡ Some (record { left = b ∷ l; right = r }, rest)
plain_reads b l r rest h k =
    id_at-cons b (l ++ 64 ∷ r ++ 62 ∷ rest)
    ∙ rw (not_equal b 34 (left_no_quote b (true_of (is_id_left_byte b) h.0))) (ap (option_and_then id_of_plain_sides) (divided_reads (b ∷ l) r rest h k))

quoted_reads : (inside v r rest : List ℕ) → IsQuotedContent inside v → OneOrMore is_id_right_byte r
    → id_at (60 ∷ 34 ∷ (inside ++ 34 ∷ 64 ∷ (r ++ 62 ∷ rest))) ≡ Some (record { left = v; right = r }, rest)
quoted_reads inside v r rest h k =
    let tail : List ℕ = 64 ∷ (r ++ 62 ∷ rest) in
    let count : length (inside ++ 34 ∷ tail) - (length tail + 1) ≡ length inside = simp length-append (omega arith) in
    id_at-cons 34 (inside ++ 34 ∷ tail)
    ∙ quoted-step (inside ++ 34 ∷ tail) tail (r ++ 62 ∷ rest) (r, rest) (quote_ends tail h) refl (right_at-reads r rest k)
    ∙ ap (λ (l : List ℕ). Some (record { left = l; right = r }, rest))
    (ap (λ (n : ℕ). unquoted false (take n (inside ++ 34 ∷ tail))) count ∙ ap (unquoted false) (take-append_seam inside (34 ∷ tail)) ∙ means h)

-- a msg-id of the grammar at the front is what the function reads
pub id_reads : (m rest : List ℕ) (id : MessageId) → IsMsgId m id → id_at (m ++ rest) ≡ Some (id, rest)
id_reads m rest id (q, inl (inside, h, eq), k, e) =
    let whole : m ++ rest ≡ 60 ∷ 34 ∷ (inside ++ 34 ∷ 64 ∷ (id.right ++ 62 ∷ rest)) =
    ap (λ (l : List ℕ). l ++ rest) (e ∙ ap (λ (l : List ℕ). 60 ∷ l ++ 64 ∷ id.right ++ 62 ∷ []) eq) ∙ simp append_assoc in
    ap id_at whole ∙ quoted_reads inside id.left id.right rest h k
id_reads m rest id (q, inr (eq, l), k, e) = go id.left refl l
  where
    go : (left : List ℕ) → id.left ≡ left → OneOrMore is_id_left_byte left → id_at (m ++ rest) ≡ Some (id, rest)
    go [] same h = absurd (h.0 refl)
    go (b ∷ l) same h =
        let whole : m ++ rest ≡ 60 ∷ b ∷ l ++ 64 ∷ id.right ++ 62 ∷ rest =
        ap (λ (l : List ℕ). l ++ rest) (e ∙ ap (λ (l : List ℕ). 60 ∷ l ++ 64 ∷ id.right ++ 62 ∷ []) (eq ∙ same)) ∙ simp append_assoc in
        ap id_at whole ∙ plain_reads b l id.right rest h.1 k ∙ ap (λ (l : List ℕ). Some (record { left = l; right = id.right }, rest)) (sym same)

identity_or : MessageId → Option (MessageId × List ℕ) → MessageId
identity_or d None = d
identity_or d (Some w) = w.0

-- no msg-id has two readings
pub each_msg_id_has_one_reading : (m n : List ℕ) (i j : MessageId) (r s : List ℕ) → IsMsgId m i → IsMsgId n j → m ++ r ≡ n ++ s → i ≡ j
unfolding identity_or
each_msg_id_has_one_reading m n i j r s h k e = ap (identity_or i) (sym (id_reads m r i h) ∙ ap id_at e ∙ id_reads n s j k)

-- what the function reads, the grammar allows
behind_sound : (k : ℕ) (bs rest : List ℕ) → after_leading_byte k bs ≡ Some rest → bs ≡ k ∷ rest
behind_sound k [] rest h = absurd (let bad : None ≡ Some rest = h in cc)
behind_sound k (b ∷ bs) rest h = go (b == k) refl h
  where
    go : (t : Bool) → (b == k) ≡ t → elim t as (λ _. Option (List ℕ)) [ true ↦ Some bs | false ↦ None ] ≡ Some rest → b ∷ bs ≡ k ∷ rest
    go true e h = let f : b ≡ k = is_it b k e in let g : bs ≡ rest = cc h in cc
    go false e h = absurd (let bad : None ≡ Some rest = h in cc)

abbrev IsRightThen : List ℕ → List ℕ × List ℕ → Type 0
IsRightThen xs w = AllByRecursion (λ b. IsTrue (is_id_right_byte b)) w.0 × (xs ≡ w.0 ++ 62 ∷ w.1)

none_some : {A : Type 0} (o : Option A) (w : A) → o ≡ None → o ≡ Some w → ⊥
none_some o w e h = let bad : None ≡ Some w = sym e ∙ h in cc

some_some : {A : Type 0} (o : Option A) (v w : A) → o ≡ Some v → o ≡ Some w → v ≡ w
some_some o v w e h = let same : Some v ≡ Some w = sym e ∙ h in cc

right_sound : (xs : List ℕ) (w : List ℕ × List ℕ) → id_right_to_close xs ≡ Some w → IsRightThen xs w
right_sound [] w h = absurd (none_some (id_right_to_close []) w right-over h)
right_sound (x ∷ xs) w h = go (is_id_right_byte x) refl (x == 62) refl (id_right_to_close xs) refl (right_sound xs)
  where
    go : (t : Bool) → is_id_right_byte x ≡ t → (e : Bool) → (x == 62) ≡ e → (o : Option (List ℕ × List ℕ)) → id_right_to_close xs ≡ o
        → ((v : List ℕ × List ℕ) → id_right_to_close xs ≡ Some v → IsRightThen xs v) → IsRightThen (x ∷ xs) w
    go true ht e he None ho ih = absurd (none_some (id_right_to_close (x ∷ xs)) w (right-more x xs ht ∙ ap (option_map (prepend_byte x)) ho) h)
    go true ht e he (Some v) ho ih =
        let same : prepend_byte x v ≡ w = some_some (id_right_to_close (x ∷ xs)) (prepend_byte x v) w (right-more x xs ht ∙ ap (option_map (prepend_byte x)) ho) h in
        let k = ih v ho in
        subst (IsRightThen (x ∷ xs)) same ((ht, k.0), ap (λ (l : List ℕ). x ∷ l) k.1)
    go false ht true he o ho ih =
        let at : x ≡ 62 = is_it x 62 he in
        let same : ([], xs) ≡ w = some_some (id_right_to_close (x ∷ xs)) ([], xs) w (ap (λ (b : ℕ). id_right_to_close (b ∷ xs)) at ∙ right-closing_rest xs) h in
        subst (IsRightThen (x ∷ xs)) same (tt, ap (λ (b : ℕ). b ∷ xs) at)
    go false ht false he o ho ih = absurd (none_some (id_right_to_close (x ∷ xs)) w (right-stops x xs ht (is_not x 62 he)) h)

right_at_sound : (xs : List ℕ) (w : List ℕ × List ℕ) → nonempty_id_right xs ≡ Some w → OneOrMore is_id_right_byte w.0 × (xs ≡ w.0 ++ 62 ∷ w.1)
right_at_sound [] w h = absurd (none_some (nonempty_id_right []) w refl h)
right_at_sound (x ∷ xs) w h = go (is_id_right_byte x) refl
  where
    go : (t : Bool) → is_id_right_byte x ≡ t → OneOrMore is_id_right_byte w.0 × (x ∷ xs ≡ w.0 ++ 62 ∷ w.1)
    go false e = absurd (none_some (nonempty_id_right (x ∷ xs)) w (right-no_byte (x ∷ xs) (λ g. e)) h)
    go true e =
        let k = right_sound (x ∷ xs) w (right_at-is (x ∷ xs) w h) in (
          (
            (λ n. let f : x ∷ xs ≡ 62 ∷ w.1 = k.1 ∙ ap (λ (l : List ℕ). l ++ 62 ∷ w.1) n in
                let at : x ≡ 62 = cc f in let bad : false ≡ true = sym (ap is_id_right_byte at ∙ right-62) ∙ e in let z : ⊥ = cc bad in z),
            k.0,
          ),
          k.1,
        )

abbrev IsDivided : List ℕ → Sides → Type 0
IsDivided xs w = AllByRecursion (λ b. IsTrue (is_id_left_byte b)) w.0 × OneOrMore is_id_right_byte w.1 × (xs ≡ w.0 ++ 64 ∷ w.1 ++ 62 ∷ w.2)

divided_sound : (xs : List ℕ) (w : Sides) → sides_of xs ≡ Some w → IsDivided xs w
divided_sound [] w h = absurd (none_some (sides_of []) w sides_of-over h)
divided_sound (x ∷ xs) w h = go (is_id_left_byte x) refl (x == 64) refl (nonempty_id_right xs) refl (sides_of xs) refl (divided_sound xs)
  where
    go : (t : Bool) → is_id_left_byte x ≡ t → (e : Bool) → (x == 64) ≡ e → (r : Option (List ℕ × List ℕ)) → nonempty_id_right xs ≡ r → (o : Option Sides) → sides_of xs ≡ o
        → ((v : Sides) → sides_of xs ≡ Some v → IsDivided xs v) → IsDivided (x ∷ xs) w
    go false ht e he r hr o ho ih = absurd (none_some (sides_of (x ∷ xs)) w (sides_of-stops x xs ht) h)
    go true ht e he r hr (Some v) ho ih =
        let same : prepend_to_left x v ≡ w = some_some (sides_of (x ∷ xs)) (prepend_to_left x v) w (sides_of-on x xs v ht ho) h in
        let k = ih v ho in
        subst (IsDivided (x ∷ xs)) same ((ht, k.0), k.1, ap (λ (l : List ℕ). x ∷ l) k.2)
    go true ht true he (Some u) hr None ho ih =
        let at : x ≡ 64 = is_it x 64 he in
        let same : ([], u.0, u.1) ≡ w = some_some (sides_of (x ∷ xs)) ([], u.0, u.1) w (ap (λ (b : ℕ). sides_of (b ∷ xs)) at ∙ sides_of-here xs u hr) h in
        let k = right_at_sound xs u hr in
        subst (IsDivided (x ∷ xs)) same (tt, k.0, (let f : x ∷ xs ≡ 64 ∷ (u.0 ++ 62 ∷ u.1) = ap (λ (b : ℕ). b ∷ xs) at ∙ ap (λ (l : List ℕ). 64 ∷ l) k.1 in f))
    go true ht true he None hr None ho ih = absurd (none_some (sides_of (x ∷ xs)) w (sides_of-more x xs ht (λ e. hr) ∙ ap (option_map (prepend_to_left x)) ho) h)
    go true ht false he r hr None ho ih = absurd (none_some (sides_of (x ∷ xs)) w (sides_of-more x xs ht (λ e. absurd (is_not x 64 he e)) ∙ ap (option_map (prepend_to_left x)) ho) h)

plain_sound : (bs rest : List ℕ) (id : MessageId) → plain_id bs ≡ Some (id, rest) → (m : List ℕ) × IsMsgId m id × (60 ∷ bs ≡ m ++ rest)
plain_sound bs rest id h = go (sides_of bs) refl
  where
    P : MessageId × List ℕ → Type 0
    P w = (m : List ℕ) × IsMsgId m w.0 × (60 ∷ bs ≡ m ++ w.1)

    go : (o : Option Sides) → sides_of bs ≡ o → P (id, rest)
    go None e = absurd (none_some (plain_id bs) (id, rest) (ap (option_and_then id_of_plain_sides) e) h)
    go (Some ([], r, s)) e = absurd (none_some (plain_id bs) (id, rest) (ap (option_and_then id_of_plain_sides) e) h)
    go (Some (b ∷ l, r, s)) e =
        let k = divided_sound bs (b ∷ l, r, s) e in
        let same : (record { left = b ∷ l; right = r }, s) ≡ (id, rest) = some_some (plain_id bs) _ (id, rest) (ap (option_and_then id_of_plain_sides) e) h in
        subst P same (
          60 ∷ (b ∷ l) ++ 64 ∷ r ++ 62 ∷ [],
          (b ∷ l, inr (refl, ((λ n. let z : ⊥ = cc n in z), k.0)), k.1, refl),
          ap (λ (l : List ℕ). 60 ∷ l) k.2 ∙ simp append_assoc,
        )

quoted_sound : (bs rest : List ℕ) (id : MessageId) → quoted_id bs ≡ Some (id, rest) → (m : List ℕ) × IsMsgId m id × (60 ∷ 34 ∷ bs ≡ m ++ rest)
quoted_sound bs rest id h = ends (after_closing_quote false bs) refl
  where
    P : MessageId × List ℕ → Type 0
    P w = (m : List ℕ) × IsMsgId m w.0 × (60 ∷ 34 ∷ bs ≡ m ++ w.1)

    unread : List ℕ → List ℕ → Option (MessageId × List ℕ)
    unread r0 r = option_map (id_with_quoted_left bs r0) (nonempty_id_right r)

    divides : (r0 : List ℕ) → after_closing_quote false bs ≡ Some r0 → (o : Option (List ℕ)) → after_leading_byte 64 r0 ≡ o → P (id, rest)
    divides r0 e None f =
        absurd (none_some (quoted_id bs) (id, rest) (ap (option_and_then (λ (r0 : List ℕ). option_and_then (unread r0) (after_leading_byte 64 r0))) e ∙ ap (option_and_then (unread r0)) f) h)
    divides r0 e (Some r1) f = closes (nonempty_id_right r1) refl
      where
        closes : (o : Option (List ℕ × List ℕ)) → nonempty_id_right r1 ≡ o → P (id, rest)
        closes None g =
            absurd (none_some (quoted_id bs) (id, rest)
            (ap (option_and_then (λ (r0 : List ℕ). option_and_then (unread r0) (after_leading_byte 64 r0))) e ∙ ap (option_and_then (unread r0)) f ∙ ap (option_map (id_with_quoted_left bs r0)) g) h)
        closes (Some w) g =
            let q = quoted_of bs r0 e in
            let k = right_at_sound r1 w g in
            let whole : bs ≡ q.0 ++ 34 ∷ 64 ∷ (w.0 ++ 62 ∷ w.1) =
            q.3 ∙ ap (λ (l : List ℕ). q.0 ++ 34 ∷ l) (behind_sound 64 r0 r1 f ∙ ap (λ (l : List ℕ). 64 ∷ l) k.1) in
            let read : quoted_id bs ≡ Some (record { left = q.1; right = w.0 }, w.1) =
            sym (id_at-cons 34 bs) ∙ ap (λ (l : List ℕ). id_at (60 ∷ 34 ∷ l)) whole ∙ quoted_reads q.0 q.1 w.0 w.1 q.2 k.0 in
            subst P (some_some (quoted_id bs) (record { left = q.1; right = w.0 }, w.1) (id, rest) read h) (
              60 ∷ (34 ∷ q.0 ++ 34 ∷ []) ++ 64 ∷ w.0 ++ 62 ∷ [],
              (34 ∷ q.0 ++ 34 ∷ [], inl (q.0, q.2, refl), k.0, refl),
              ap (λ (l : List ℕ). 60 ∷ 34 ∷ l) whole ∙ simp append_assoc,
            )

    ends : (o : Option (List ℕ)) → after_closing_quote false bs ≡ o → P (id, rest)
    ends None e = absurd (none_some (quoted_id bs) (id, rest) (ap (option_and_then (λ (r0 : List ℕ). option_and_then (unread r0) (after_leading_byte 64 r0))) e) h)
    ends (Some r0) e = divides r0 e (after_leading_byte 64 r0) refl

-- what the function reads, the grammar allows
pub id_sound : (xs rest : List ℕ) (id : MessageId) → id_at xs ≡ Some (id, rest) → (m : List ℕ) × IsMsgId m id × (xs ≡ m ++ rest)
id_sound [] rest id h = absurd (none_some (id_at []) (id, rest) (short-none [] (omega arith)) h)
id_sound (a ∷ []) rest id h = absurd (none_some (id_at (a ∷ [])) (id, rest) (short-none (a ∷ []) (let g : 1 ≤ 1 = omega arith in g)) h)
id_sound (a ∷ b ∷ bs) rest id h = go (a == 60) refl (b == 34) refl
  where
    to : (m : List ℕ) → a ≡ 60 → 60 ∷ b ∷ bs ≡ m ++ rest → a ∷ b ∷ bs ≡ m ++ rest
    to m e k = ap (λ (x : ℕ). x ∷ b ∷ bs) e ∙ k

    read : a ≡ 60 → id_at (60 ∷ b ∷ bs) ≡ Some (id, rest)
    read e = sym (ap (λ (x : ℕ). id_at (x ∷ b ∷ bs)) e) ∙ h

    go : (s : Bool) → (a == 60) ≡ s → (t : Bool) → (b == 34) ≡ t → (m : List ℕ) × IsMsgId m id × (a ∷ b ∷ bs ≡ m ++ rest)
    go false e t f = absurd (none_some (id_at (a ∷ b ∷ bs)) (id, rest) (no_id a (b ∷ bs) (is_not a 60 e)) h)
    go true e true f =
        let at : a ≡ 60 = is_it a 60 e in
        let quote : b ≡ 34 = is_it b 34 f in
        let w = quoted_sound bs rest id (sym (id_at-cons 34 bs) ∙ sym (ap (λ (x : ℕ). id_at (60 ∷ x ∷ bs)) quote) ∙ read at) in
        (w.0, w.1, to w.0 at (ap (λ (x : ℕ). 60 ∷ x ∷ bs) quote ∙ w.2))
    go true e false f =
        let at : a ≡ 60 = is_it a 60 e in
        let plain : id_at (60 ∷ b ∷ bs) ≡ plain_id (b ∷ bs) = id_at-cons b bs ∙ rw f refl in
        let w = plain_sound (b ∷ bs) rest id (sym plain ∙ read at) in
        (w.0, w.1, to w.0 at w.2)
