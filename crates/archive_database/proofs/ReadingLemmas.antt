-- Rows that are read one after the other.
use Rattle.std.proofs.Common.{◌≡◌, ℕ, zero, suc, arith, ◌+◌, ◌<◌, ◌≤◌, List, [], ◌∷◌, ◌++◌, length, get_or, drop, map, refl, ap, sym, subst, ◌∙◌, append-nil, append_assoc, inl, inr, Result, Ok, Err}
use Rattle.std.specs.Prelude.{IsUtf8, IfErr, IsErrAnd}
use Rattle.std.specs.List.{All}
use Rattle.std.proofs.lemmas.List.{drop_more, drop_all}
use Rattle.std.proofs.lemmas.List.Elements.{All-head, All-tail}
use Rattle.sqlite.specs.Order.{Row}
use Rattle.sqlite.specs.declared.error.Error.{Error}
use Rattle.archive_tables.specs.Rows.{out_of_memory_error, IsTextReadError}
use Rattle.archive_database.specs.Faults.{database_error_of}
use Rattle.archive_database.specs.declared.faults.DatabaseError.{DatabaseError}
use Rattle.archive_database.specs.declared.faults.DatabaseError.TheVariants as fault

-- These records were read and these rows are left, and together they are all records that the rows show.
pub record HasRead {A : Type 0} (shows : A → Row) (read : List A) (left : List Row) (all : List A) : Type 0 where
  pub rest : List A
  pub rows : left ≡ map shows rest
  pub joined : read ++ rest ≡ all

pub read_none : {A : Type 0} (shows : A → Row) (rows : List Row) (all : List A) → rows ≡ map shows all → HasRead shows [] rows all
read_none shows rows all e = record { rest = all; rows = e; joined = refl }

read_more : {A : Type 0} (shows : A → Row) (read : List A) (row : Row) (left : List Row) (all : List A) (x : A)
    → HasRead shows read (row ∷ left) all → ((y : A) → row ≡ shows y → x ≡ y) → HasRead shows (read ++ x ∷ []) left all
read_more {A} shows read row left all x h same = more h.rest h.rows h.joined
  where
    more : (rest : List A) → row ∷ left ≡ map shows rest → read ++ rest ≡ all → HasRead shows (read ++ x ∷ []) left all
    more [] e j = absurd (cc)
    more (y ∷ rest) e j =
        let first : row ≡ shows y = cc in
        record { rest = rest; rows = cc; joined = append_assoc read (x ∷ []) rest ∙ ap (λ z. read ++ z ∷ rest) (same y first) ∙ j }

-- the row of this number is read after those before it
pub read_row : {A : Type 0} (shows : A → Row) (read read' : List A) (rows : List Row) (i : ℕ) (d : Row) (all : List A) (x : A)
    → HasRead shows read (drop i rows) all → i < length rows → ((y : A) → get_or rows i d ≡ shows y → x ≡ y)
    → read' ≡ read ++ x ∷ [] → HasRead shows read' (drop (i + 1) rows) all
read_row shows read read' rows i d all x h within same e =
    rw e (read_more shows read (get_or rows i d) (drop (i + 1) rows) all x (subst (λ left. HasRead shows read left all) (drop_more rows i d within) h) same)

read_all : {A : Type 0} (shows : A → Row) (read all : List A) → HasRead shows read [] all → read ≡ all
read_all {A} shows read all h = go h.rest h.rows h.joined
  where
    go : (rest : List A) → [] ≡ map shows rest → read ++ rest ≡ all → read ≡ all
    go [] e j = sym (append-nil read) ∙ j
    go (x ∷ rest) e j = absurd (cc)

pub read_every : {A : Type 0} (shows : A → Row) (read : List A) (rows : List Row) (i : ℕ) (all : List A) → HasRead shows read (drop i rows) all → length rows ≤ i → read ≡ all
read_every shows read rows i all h past = read_all shows read all (subst (λ left. HasRead shows read left all) (drop_all i rows past) h)

-- the row of this number shows one of the records
pub shown_at : {A : Type 0} (shows : A → Row) (P : A → Type 0) (xs : List A) (rows : List Row) (i : ℕ) (d : Row) → rows ≡ map shows xs → i < length rows
    → (x : A) × (get_or rows i d ≡ shows x) × (All P xs → P x)
shown_at shows P xs [] i d is within = absurd (omega (arith, within))
shown_at shows P [] (r ∷ rows) i d is within = absurd cc
shown_at shows P (x ∷ xs) (r ∷ rows) zero d is within = (x, (cc), λ all. All-head P x xs all)
shown_at shows P (x ∷ xs) (r ∷ rows) (suc i) d is within =
    let it = shown_at shows P xs rows i d (cc) (omega (arith, within)) in
    (it.0, it.1, λ all. it.2 (All-tail P x xs all))

-- ---- the exit of a `?`

pub unread_by : {A : Type 0} (r : Result A DatabaseError) (e : Error) (X : Type 0) → IsErrAnd r (λ f. f ≡ database_error_of e) → (database_error_of e ≡ fault.Database → X)
    → IfErr r (λ f. f ≡ fault.Database → X)
unread_by (Ok a) e X is why = tt
unread_by (Err f) e X is why = λ it. why (sym is ∙ it)

pub wanted : {A P : Type 0} (r : Result A DatabaseError) (e : Error) (X : P → Type 0) → IsErrAnd r (λ f. f ≡ database_error_of e) → ((p : P) → X p → e ≡ out_of_memory_error)
    → IfErr r (λ f. (p : P) → X p → f ≡ fault.Memory)
wanted (Ok a) e X is why = tt
wanted (Err f) e X is why = λ p x. is ∙ ap database_error_of (why p x)

-- a text that is UTF-8 is read
pub no_good_text : (text : List ℕ) (e : Error) → IsUtf8 text → IsTextReadError text e → database_error_of e ≡ fault.Database → ⊥
no_good_text text e good (inl none) it = absurd (let bad : fault.Memory ≡ fault.Database = sym (ap database_error_of none) ∙ it in cc)
no_good_text text e good (inr bad) it = bad.0 good
