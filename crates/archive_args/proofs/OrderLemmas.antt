-- How the words' matches become an order.
use Rattle.std.proofs.Common.{◌≡◌, ◌≢◌, ℕ, ◌<◌, ◌≤◌, nat_le, List, [], ◌∷◌, length, true, false, Option, Some, None, Result, Ok, Err, option_map, refl, sym, subst, ◌∙◌, ap, arith, inl, inr}
use Rattle.std.proofs.lemmas.Option.{same_Some}
use Rattle.std.proofs.lemmas.Bool.{and_parts, false_from_ne_true, le-leb, leb-true}
use Rattle.std.proofs.lemmas.Result.{OkIff-at_ok, OkIff-at_err}
use Rattle.std.proofs.lemmas.Str.{digit_value_digit}
use Rattle.std.proofs.lemmas.Str.Parse.{without_leading_plus_none}
use Rattle.std.specs.Prelude.{MatchResult}
use Rattle.std.specs.List.{list_all}
use Rattle.std.specs.Char.{is_ascii_digit}
use Rattle.std.specs.Int.{IsInRange}
use Rattle.std.specs.Str.Parse.{AllDigits, IsNumeral, ParsesUnsigned, digits_value, without_leading_plus}
use Rattle.clap.specs.Words.{HasKind, Kinds, Row, Text, fault_of, kind_of}
use Rattle.clap.specs.declared.error.Error.{Error}
use Rattle.archive_args.specs.declared.orders.OrderStop.{OrderStop}
use Rattle.archive_args.specs.declared.orders.OrderStop.TheVariants.{Help, Words, Memory}
use Rattle.archive_args.specs.Program.{archive_app}
use Rattle.archive_args.specs.Orders.{is_decimal, number_up_to, IsOrderStopOfKind, IsOrderStopOf}

-- the name and the matches of a subcommand, from each of the two
pub pair_up : {B N R : Type 0} (f : B → N × R) (o : Option B) (n : N) (r : R)
    → Some n ≡ option_map (λ b. (f b).0) o → Some r ≡ option_map (λ p. p.1) (option_map f o) → option_map f o ≡ Some (n, r)
pair_up f None n r h k = cc
pair_up f (Some b) n r h k = let p = same_Some _ _ h in let q = same_Some _ _ k in rw (p, q) refl

-- the matches of a subcommand, as they were found
pub found : {R : Type 0} (f : Option (Text × List Row) → R) (o : Option (Text × List Row)) (n : Text) (rs : List Row) → o ≡ Some (n, rs)
    → f o ≡ f (Some (n, rs))
found f o n rs e = ap f e

-- ---- numbers

in_digits : (c : ℕ) → is_ascii_digit c ≡ true → IsInRange 48 57 c
in_digits c h = let split = and_parts (nat_le 48 c) (nat_le c 57) h in (leb-true 48 c split.0, leb-true c 57 split.1)

digits : (text : List ℕ) → list_all is_ascii_digit text ≡ true → AllDigits 10 text
digits [] h = tt
digits (c ∷ cs) h =
    let split = and_parts (is_ascii_digit c) (list_all is_ascii_digit cs) h in
    (omega (arith, digit_value_digit c (in_digits c split.0), (in_digits c split.0)), digits cs split.1)

all_digits : (text : List ℕ) → is_decimal text ≡ true → list_all is_ascii_digit text ≡ true
all_digits [] h = cc
all_digits (c ∷ cs) h = h

pub some_decimal : (text : List ℕ) → length text ≢ 0 → list_all is_ascii_digit text ≡ is_decimal text
some_decimal [] h = absurd (h refl)
some_decimal (c ∷ cs) h = refl

-- a decimal text has no sign
unsigned : (text : List ℕ) → is_decimal text ≡ true → without_leading_plus text ≡ text
unsigned [] h = refl
unsigned (c ∷ cs) h =
    let range = in_digits c (and_parts (is_ascii_digit c) (list_all is_ascii_digit cs) h).0 in
    without_leading_plus_none (c ∷ cs) (λ e. absurd (omega (arith, range, e)))

short : (text : List ℕ) → is_decimal text ≡ true → 0 < length text
short [] h = cc
short (c ∷ cs) h = omega arith

-- what `parse` is asked to read of a decimal text
numeral : (text : List ℕ) → is_decimal text ≡ true → IsNumeral 10 (without_leading_plus text)
numeral text h = rw (unsigned text h) (short text h, digits text (all_digits text h))

pub number-not_decimal : (greatest : ℕ) (text : List ℕ) → is_decimal text ≡ false → None ≡ number_up_to greatest text
unfolding number_up_to
number-not_decimal greatest text h = rw h refl

value_ok : {E : Type 0} (text : List ℕ) (r : Result ℕ E) (n : ℕ) → ParsesUnsigned 32 10 text r → is_decimal text ≡ true → r ≡ Ok n
    → n ≡ digits_value 10 text
value_ok text r n p h e = (OkIff-at_ok r _ _ n p e).1 ∙ ap (digits_value 10) (unsigned text h)

pub number-in_range : {E : Type 0} (greatest : ℕ) (text : List ℕ) (r : Result ℕ E) (n : ℕ) → ParsesUnsigned 32 10 text r → is_decimal text ≡ true → r ≡ Ok n
    → n ≤ greatest → Some n ≡ number_up_to greatest text
unfolding number_up_to
number-in_range greatest text r n p h e low =
    let v = value_ok text r n p h e in
    rw (h, le-leb (digits_value 10 text) greatest (omega (arith, v, low)), v) refl

pub number-too_great : {E : Type 0} (greatest : ℕ) (text : List ℕ) (r : Result ℕ E) (n : ℕ) → ParsesUnsigned 32 10 text r → is_decimal text ≡ true → r ≡ Ok n
    → greatest < n → None ≡ number_up_to greatest text
unfolding number_up_to
number-too_great greatest text r n p h e high =
    let v = value_ok text r n p h e in
    rw (h, false_from_ne_true (nat_le (digits_value 10 text) greatest) (λ t. absurd (omega (arith, v, high, leb-true (digits_value 10 text) greatest t)))) refl

-- a decimal text that does not fit 32 bits
pub number-too_long : {E : Type 0} (greatest : ℕ) (text : List ℕ) (r : Result ℕ E) (e : E) → greatest < 4294967296 → ParsesUnsigned 32 10 text r → is_decimal text ≡ true
    → r ≡ Err e → None ≡ number_up_to greatest text
unfolding number_up_to
number-too_long greatest text r e room p h is =
    rw (
      h,
      false_from_ne_true (nat_le (digits_value 10 text) greatest) (λ t. OkIff-at_err r _ _ e p is (
        numeral text h,
        rw (unsigned text h) (let low : digits_value 10 text ≤ greatest = leb-true (digits_value 10 text) greatest t in omega (arith, low, room)),
      )),
    ) refl

-- ---- stops

pub same_kinds : (ks ls : Kinds) (e : Error) → ks ≡ ls → HasKind ks e → HasKind ls e
same_kinds ks ls e same has = rw (← same) has

-- what stops the order, by a fault that `clap` has to tell
pub stop_of_fault : (words : List Text) (e : Error) (stop : OrderStop) → HasKind (fault_of archive_app words) e → IsOrderStopOfKind (kind_of e) stop → IsOrderStopOf words stop
stop_of_fault words e Memory has by = tt
stop_of_fault words e (Help text) (inl none) (inl help) = cc
stop_of_fault words e (Help text) (inl none) (inr version) = cc
stop_of_fault words e (Help text) (inr among) (inl help) = inl (rw (← help) among)
stop_of_fault words e (Help text) (inr among) (inr version) = inr (rw (← version) among)
stop_of_fault words e (Words text) (inl none) by = absurd (by.0 none)
stop_of_fault words e (Words text) (inr among) by = inl (kind_of e, among, by.1, by.2)

-- the same, by the text of a value that its reader refuses
pub stop_of_bad : {A E : Type 0} (words : List Text) (tell : A → OrderStop) (text : Result A E) (stop : OrderStop)
    → MatchResult text (λ made. stop ≡ tell made) (λ _. stop ≡ Memory) → ((made : A) → IsOrderStopOf words (tell made)) → IsOrderStopOf words stop
stop_of_bad words tell (Ok made) stop is told = let S : OrderStop → Type 0 = λ s. IsOrderStopOf words s in subst S (sym is) (told made)
stop_of_bad words tell (Err e) stop is told = let S : OrderStop → Type 0 = λ s. IsOrderStopOf words s in subst S (sym is) tt
