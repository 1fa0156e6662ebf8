-- What holds of a result, by its cases.
use Rattle.std.proofs.Common.{◌≡◌, ◌++◌, ◌∙◌, ap, sym, subst, ℕ, List, length, Result, Ok, Err, arith}
use Rattle.std.specs.Prelude.{IfOk, MatchResult, String, Vec, drop, map, string_bytes, vec_items, ⊤}
use Rattle.std.specs.declared.alloc.Global.{Global}
use Rattle.std.proofs.lemmas.List.{drop-map}
use Rattle.std.specs.Result.{IsErrAnd}
use Rattle.std.proofs.Math.Seq.{take-length}
use Rattle.mbox_core.specs.Written.{AppendsPrefixOfText}
use Rattle.sift_run.specs.Streams.{WritesAndFlushesOrFails, OutputStreamState}

pub by_result : {A E : Type 0} (R : Result A E → Type 0) (P : A → Type 0) (Q : E → Type 0) (result : Result A E) → MatchResult result P Q
    → ((a : A) → P a → R (Ok a)) → ((e : E) → Q e → R (Err e)) → R result
by_result R P Q (Ok a) it ok err = ok a it
by_result R P Q (Err e) it ok err = err e it

-- what a result says holds of the same result with another error
pub ok_as : {A E F : Type 0} (P : A → Type 0) (told : E → F) (read : Result A E) (result : Result A F)
    → MatchResult read (λ a. result ≡ Ok a) (λ e. result ≡ Err (told e)) → IfOk read P → IfOk result P
ok_as {A = A} {F = F} P told (Ok a) result e it = let R : Result A F → Type 0 = λ r. IfOk r P in subst R (sym e) it
ok_as {A = A} {F = F} P told (Err why) result e it = let R : Result A F → Type 0 = λ r. IfOk r P in subst R (sym e) tt

-- an error that is handed on
pub err_at : {A E : Type 0} (R : Result A E → Type 0) (result : Result A E) (e : E) → IsErrAnd result (λ x. x ≡ e) → R (Err e) → R result
err_at R (Ok a) e is it = absurd is
err_at {E = E} R (Err x) e is it = let P : E → Type 0 = λ y. R (Err y) in subst P (sym is) it

-- what holds at equal values
pub at_two : {A B : Type 0} (P : A → B → Type 0) (a a' : A) (b b' : B) → a ≡ a' → b ≡ b' → P a b → P a' b'
at_two {A = A} {B = B} P a a' b b' e f it =
    let Q : A → Type 0 = λ x. P x b' in
    let R : B → Type 0 = λ y. P a y in
    subst Q e (subst R f it)

pub at_three : {A B C : Type 0} (P : A → B → C → Type 0) (a a' : A) (b b' : B) (c c' : C) → a ≡ a' → b ≡ b' → c ≡ c' → P a b c → P a' b' c'
at_three {A = A} {B = B} {C = C} P a a' b b' c c' e f h it =
    let Q : A → B → Type 0 = λ x y. P x y c' in
    let R : C → Type 0 = λ z. P a b z in
    at_two Q a a' b b' e f (subst R h it)

-- ---- texts that go out

-- a text of which all was written, and that the output failed to pass on
pub whole_cut : (before after text : List ℕ) → after ≡ before ++ text → AppendsPrefixOfText before after text (length text)
whole_cut before after text e = (omega arith, e ∙ ap (λ t. before ++ t) (sym (take-length text)))

-- the same text
pub sent_as : {E : Type 0} (told : E) (before after : OutputStreamState) (text line : List ℕ) (result : Result ⊤ E) → text ≡ line
    → WritesAndFlushesOrFails told before after text result → WritesAndFlushesOrFails told before after line result
sent_as told before after text line result e it =
    let P : List ℕ → Type 0 = λ t. WritesAndFlushesOrFails told before after t result in
    subst P e it

-- ---- the words of a command line

-- the bytes of all words but the first
pub behind_first : {E : Type 0} (words : List (String Global)) (result : Result (Vec (String Global) Global) E)
    → IfOk result (λ all. vec_items all ≡ drop 1 words) → IfOk result (λ all. map string_bytes all.items ≡ drop 1 (map string_bytes words))
behind_first words (Ok all) e = ap (map string_bytes) e ∙ sym (drop-map string_bytes 1 words)
behind_first words (Err why) e = tt
