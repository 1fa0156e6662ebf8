-- Insertion sorts stably, and only one list is in order and has those that tie in their order.
use Rattle.std.proofs.Common.{◌≡◌, Bool, true, false, not, ◌&&◌, if◌then◌else◌, List, [], ◌∷◌, filter, Less, Equal, Greater, refl, cond, ap, ◌∙◌, sym, ℤ, int_lt}
use Rattle.std.specs.List.{AllByRecursion}
use Rattle.std.specs.List.Sorted.{ties}
use Rattle.std.specs.Cmp.{IsStrictWeakOrder}
use Rattle.std.specs.Ordering.{is_lt, int_cmp}
use Rattle.std.specs.Prelude.{⊤}

-- an element before the first that does not stand before it
abbrev pub put : {X : Type 0} → (X → X → Bool) → X → List X → List X
put lt x [] = x ∷ []
put lt x (y ∷ ys) = if lt y x then y ∷ put lt x ys else x ∷ y ∷ ys

abbrev pub ordered : {X : Type 0} → (X → X → Bool) → List X → List X
ordered lt [] = []
ordered lt (x ∷ xs) = put lt x (ordered lt xs)

abbrev pub Rising : {X : Type 0} → (X → X → Bool) → List X → Type 0
Rising lt [] = ⊤
Rising lt (x ∷ xs) = AllByRecursion (λ y. lt y x ≡ false) xs × Rising lt xs

is_false : (b : Bool) → (b ≡ true → b ≡ false) → b ≡ false
is_false true h = h refl
is_false false h = refl

not_self : {X : Type 0} (lt : X → X → Bool) → IsStrictWeakOrder lt → (x : X) → lt x x ≡ false
not_self lt o x = is_false (lt x x) (o.one_way x x)

clash : (b : Bool) → b ≡ true → b ≡ false → ⊥
clash b p q = cc

no_less : (a b : Bool) → (not a && not b) ≡ true → (a ≡ false) × (b ≡ false)
no_less false false h = (refl, refl)
no_less true b h = cc
no_less false true h = cc

-- an element that ties with two makes them tie
no_three : {X : Type 0} (lt : X → X → Bool) → IsStrictWeakOrder lt → (x y z : X) → lt y x ≡ true → ties lt z y ≡ true → ties lt z x ≡ true → ⊥
no_three lt o x y z h p q =
    clash (lt y x) h (o.chain y z x (no_less (lt z y) (lt y z) p).1 (no_less (lt z x) (lt x z) q).0)

-- ---- insertion keeps the order of those that tie

exchange : {X : Type 0} (x y : X) (zs : List X) (a b : Bool) → (b ≡ true → a ≡ true → ⊥)
    → (if b then y ∷ (if a then x ∷ zs else zs) else (if a then x ∷ zs else zs)) ≡ (if a then x ∷ (if b then y ∷ zs else zs) else (if b then y ∷ zs else zs))
exchange x y zs true true h = absurd (h refl refl)
exchange x y zs true false h = refl
exchange x y zs false true h = refl
exchange x y zs false false h = refl

onto : {X : Type 0} (x : X) (b : Bool) (us vs : List X) → us ≡ vs → (if b then x ∷ us else us) ≡ (if b then x ∷ vs else vs)
onto x b us vs e = ap (λ us. if b then x ∷ us else us) e

stable-put : {X : Type 0} (lt : X → X → Bool) → IsStrictWeakOrder lt → (z x : X) (ys : List X) → filter (ties lt z) (put lt x ys) ≡ filter (ties lt z) (x ∷ ys)
stable-put lt o z x [] = refl
stable-put lt o z x (y ∷ ys) = go (lt y x) refl (stable-put lt o z x ys)
  where
    go : (b : Bool) → lt y x ≡ b → filter (ties lt z) (put lt x ys) ≡ filter (ties lt z) (x ∷ ys) → filter (ties lt z) (if b then y ∷ put lt x ys else x ∷ y ∷ ys) ≡ filter (ties lt z) (x ∷ y ∷ ys)
    go true e ih = onto y (ties lt z y) _ _ ih ∙ exchange x y (filter (ties lt z) ys) (ties lt z x) (ties lt z y) (no_three lt o x y z e)
    go false e ih = refl

pub stable : {X : Type 0} (lt : X → X → Bool) → IsStrictWeakOrder lt → (z : X) (xs : List X) → filter (ties lt z) (ordered lt xs) ≡ filter (ties lt z) xs
stable lt o z [] = refl
stable lt o z (x ∷ xs) = stable-put lt o z x (ordered lt xs) ∙ onto x (ties lt z x) _ _ (stable lt o z xs)

-- ---- and puts them in order

all-put : {X : Type 0} (P : X → Type 0) (lt : X → X → Bool) (x : X) (ys : List X) → P x → AllByRecursion P ys → AllByRecursion P (put lt x ys)
all-put P lt x [] p all = (p, tt)
all-put P lt x (y ∷ ys) p all = go (lt y x) (all-put P lt x ys p all.1)
  where
    go : (b : Bool) → AllByRecursion P (put lt x ys) → AllByRecursion P (if b then y ∷ put lt x ys else x ∷ y ∷ ys)
    go true ih = (all.0, ih)
    go false ih = (p, all)

all-above : {X : Type 0} (lt : X → X → Bool) → IsStrictWeakOrder lt → (x y : X) → lt y x ≡ false → (ys : List X) → AllByRecursion (λ m. lt m y ≡ false) ys → AllByRecursion (λ m. lt m x ≡ false) ys
all-above lt o x y h [] all = tt
all-above lt o x y h (m ∷ ms) all = (o.chain m y x all.0 h, all-above lt o x y h ms all.1)

rising-put : {X : Type 0} (lt : X → X → Bool) → IsStrictWeakOrder lt → (x : X) (ys : List X) → Rising lt ys → Rising lt (put lt x ys)
rising-put lt o x [] up = (tt, tt)
rising-put lt o x (y ∷ ys) up = go (lt y x) refl (rising-put lt o x ys up.1)
  where
    go : (b : Bool) → lt y x ≡ b → Rising lt (put lt x ys) → Rising lt (if b then y ∷ put lt x ys else x ∷ y ∷ ys)
    go true e ih = (all-put (λ m. lt m y ≡ false) lt x ys (o.one_way y x e) up.0, ih)
    go false e ih = ((e, all-above lt o x y e ys up.0), up)

pub rising : {X : Type 0} (lt : X → X → Bool) → IsStrictWeakOrder lt → (xs : List X) → Rising lt (ordered lt xs)
rising lt o [] = tt
rising lt o (x ∷ xs) = rising-put lt o x (ordered lt xs) (rising lt o xs)

-- ---- only one list

none-tie : {X : Type 0} (lt : X → X → Bool) → IsStrictWeakOrder lt → (z y : X) (ys : List X) → lt z y ≡ true → AllByRecursion (λ m. lt m y ≡ false) ys → filter (ties lt z) ys ≡ []
none-tie lt o z y [] h all = refl
none-tie lt o z y (m ∷ ms) h all = onto m (ties lt z m) _ _ (none-tie lt o z y ms h all.1) ∙ go (ties lt z m) refl
  where
    go : (b : Bool) → ties lt z m ≡ b → (if b then m ∷ [] else []) ≡ []
    go true e = absurd (clash (lt z y) h (o.chain z m y (no_less (lt z m) (lt m z) e).0 all.0))
    go false e = refl

ties-self : {X : Type 0} (lt : X → X → Bool) → IsStrictWeakOrder lt → (x : X) → ties lt x x ≡ true
ties-self lt o x = rw (not_self lt o x) refl

some-is-none : {X : Type 0} (x : X) (xs : List X) → x ∷ xs ≡ [] → ⊥
some-is-none x xs e = cc

kept : {X : Type 0} (p : X → Bool) (x : X) (xs : List X) → p x ≡ true → filter p (x ∷ xs) ≡ x ∷ filter p xs
kept p x xs h = rw h refl

none-kept : {X : Type 0} (p : X → Bool) (x : X) (xs : List X) → p x ≡ false → filter p xs ≡ [] → filter p (x ∷ xs) ≡ []
none-kept p x xs h e = rw h e

first-is : {X : Type 0} (x y : X) (xs ys : List X) → x ∷ xs ≡ y ∷ ys → x ≡ y
first-is x y xs ys e = cc

rest-is : {X : Type 0} (x y : X) (xs ys : List X) → x ∷ xs ≡ y ∷ ys → xs ≡ ys
rest-is x y xs ys e = cc

cancel : {X : Type 0} (x : X) (b : Bool) (us vs : List X) → (if b then x ∷ us else us) ≡ (if b then x ∷ vs else vs) → us ≡ vs
cancel x true us vs e = rest-is x x us vs e
cancel x false us vs e = e

-- an element that stands before a rising list ties with none of it
before-all : {X : Type 0} (lt : X → X → Bool) → IsStrictWeakOrder lt → (x y : X) (ys : List X) → lt x y ≡ true → AllByRecursion (λ m. lt m y ≡ false) ys → filter (ties lt x) (y ∷ ys) ≡ []
before-all lt o x y ys h all = none-kept (ties lt x) y ys (rw h refl) (none-tie lt o x y ys h all)

no_first : {X : Type 0} (lt : X → X → Bool) → IsStrictWeakOrder lt → (x y : X) (xs ys : List X) → lt x y ≡ true → AllByRecursion (λ m. lt m y ≡ false) ys
    → filter (ties lt x) (x ∷ xs) ≡ filter (ties lt x) (y ∷ ys) → ⊥
no_first lt o x y xs ys h all e =
    some-is-none x (filter (ties lt x) xs) (sym (kept (ties lt x) x xs (ties-self lt o x)) ∙ e ∙ before-all lt o x y ys h all)

pub alone : {X : Type 0} (lt : X → X → Bool) → IsStrictWeakOrder lt → (xs ys : List X) → Rising lt xs → Rising lt ys
    → ((z : X) → filter (ties lt z) xs ≡ filter (ties lt z) ys) → xs ≡ ys
alone lt o [] [] up rise same = refl
alone lt o [] (y ∷ ys) up rise same = absurd (some-is-none y _ (sym (kept (ties lt y) y ys (ties-self lt o y)) ∙ sym (same y)))
alone lt o (x ∷ xs) [] up rise same = absurd (some-is-none x _ (sym (kept (ties lt x) x xs (ties-self lt o x)) ∙ same x))
alone {X = X} lt o (x ∷ xs) (y ∷ ys) up rise same = go (lt x y) (lt y x) refl refl (alone lt o xs ys up.1 rise.1)
  where
    go : (a b : Bool) → lt x y ≡ a → lt y x ≡ b → (((z : X) → filter (ties lt z) xs ≡ filter (ties lt z) ys) → xs ≡ ys) → x ∷ xs ≡ y ∷ ys
    go true b p q ih = absurd (no_first lt o x y xs ys p rise.0 (same x))
    go false true p q ih = absurd (no_first lt o y x ys xs q up.0 (sym (same y)))
    go false false p q ih =
        let tied : ties lt x y ≡ true = rw (p, q) refl in
        let e : x ≡ y = first-is x y _ _ (sym (kept (ties lt x) x xs (ties-self lt o x)) ∙ same x ∙ kept (ties lt x) y ys tied) in
        let rests : (z : X) → filter (ties lt z) xs ≡ filter (ties lt z) ys = λ z. cancel x (ties lt z x) _ _ (same z ∙ ap (λ (w : X). filter (ties lt z) (w ∷ ys)) (sym e)) in
        ap (λ (w : X). w ∷ xs) e ∙ ap (λ (ws : List X). y ∷ ws) (ih rests)

-- ---- numbers

pub is_less : (a b : ℤ) → is_lt (int_cmp a b) ≡ int_lt a b
is_less a b = go (int_lt a b) (int_lt b a)
  where
    go : (t u : Bool) → is_lt (cond t Less (cond u Greater Equal)) ≡ t
    go true u = refl
    go false true = refl
    go false false = refl
