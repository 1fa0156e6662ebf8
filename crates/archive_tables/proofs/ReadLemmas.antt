-- How reading a row fails.
use Rattle.std.proofs.Common.{◌≡◌, ◌≢◌, inl, inr, ℕ, ◌<◌, List, [], ◌∷◌, length, Ok, Err, Result, IfErr, arith, refl, subst}
use Rattle.std.specs.Prelude.{IsUtf8}
use Rattle.sqlite.specs.declared.error.Error.{Error}
use Rattle.sqlite.specs.declared.types.Value.{Value}
use Rattle.sqlite.specs.declared.types.Value.TheVariants.{Text}
use Rattle.sqlite.specs.Order.{Row, column}
use Rattle.sqlite.specs.Reading.{IsReadError, read_error}
use Rattle.sqlite.specs.Values.{text_refusal}
use Rattle.archive_tables.specs.Rows.{out_of_memory_error, IsTextReadError}

abbrev pub IsGoodText : Value → Type 0
IsGoodText v = (t : List ℕ) × (v ≡ Text t) × IsUtf8 t

text_fault : (t : List ℕ) (e : Error) → IsReadError 0 (Text t) e → (e ≢ out_of_memory_error → ¬ IsGoodText (Text t)) → (e ≢ out_of_memory_error → e ≡ read_error 0 (Text t) (text_refusal (Text t)))
    → IsTextReadError t e
text_fault t e (inl is) kind which = let told = which (λ same. cc) in absurd cc
text_fault t e (inr (inl is)) kind which = let told = which (λ same. cc) in absurd cc
text_fault t e (inr (inr (inl is))) kind which = let told = which (λ same. cc) in absurd cc
text_fault t e (inr (inr (inr (inl is)))) kind which = inr ((λ good. kind (λ same. cc) (t, refl, good)), is)
text_fault t e (inr (inr (inr (inr is)))) kind which = inl is

-- why the first column of a row that begins with a text is not read
pub first_fault : (row : Row) (e : Error) → IsReadError 0 (column row 0) e → (e ≢ out_of_memory_error → 0 < length row → ¬ IsGoodText (column row 0))
    → (e ≢ out_of_memory_error → 0 < length row → e ≡ read_error 0 (column row 0) (text_refusal (column row 0))) → (t : List ℕ) (rest : Row) → row ≡ Text t ∷ rest → IsTextReadError t e
first_fault [] e named kind which t rest is = absurd cc
first_fault (v ∷ vs) e named kind which t rest is =
    let same : v ≡ Text t = cc in
    let long : 0 < length (v ∷ vs) = omega arith in
    text_fault t e (subst (λ w. IsReadError 0 w e) same named) (λ other. subst (λ w. ¬ IsGoodText w) same (kind other long))
    (λ other. subst (λ w. e ≡ read_error 0 w (text_refusal w)) same (which other long))

pub first_fails : {A : Type 0} (row : Row) (r : Result A Error) → IfErr r (IsReadError 0 (column row 0)) → IfErr r (λ e. e ≢ out_of_memory_error → 0 < length row → ¬ IsGoodText (column row 0))
    → IfErr r (λ e. e ≢ out_of_memory_error → 0 < length row → e ≡ read_error 0 (column row 0) (text_refusal (column row 0)))
    → IfErr r (λ e. (t : List ℕ) (rest : Row) → row ≡ Text t ∷ rest → IsTextReadError t e)
first_fails row (Ok a) named kind which = tt
first_fails row (Err e) named kind which = first_fault row e named kind which
