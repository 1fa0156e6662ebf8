-- What an answer of the functions on options says of what they were given.
use Rattle.std.proofs.Common.{◌≡◌, refl, ◌⊎◌, inl, inr}
use Rattle.std.specs.Prelude.{Option, Some, None}
use Rattle.std.specs.Option.{option_map, option_or, option_and_then}

pub some_or : {A : Type 0} (o p : Option A) (x : A) → option_or o p ≡ Some x → (o ≡ Some x) ⊎ ((o ≡ None) × (p ≡ Some x))
some_or None p x h = inr (refl, h)
some_or (Some y) p x h = inl h

pub none_or : {A : Type 0} (o p : Option A) → option_or o p ≡ None → (o ≡ None) × (p ≡ None)
none_or None p h = (refl, h)
none_or (Some y) p h = absurd (cc)

pub or_none : {A : Type 0} (o p : Option A) → o ≡ None → option_or o p ≡ p
or_none None p h = refl
or_none (Some y) p h = absurd (cc)

pub or_some : {A : Type 0} (o p : Option A) (x : A) → o ≡ Some x → option_or o p ≡ Some x
or_some None p x h = absurd (cc)
or_some (Some y) p x h = h

pub some_map : {A B : Type 0} (f : A → B) (o : Option A) (y : B) → option_map f o ≡ Some y → (x : A) × (o ≡ Some x) × (f x ≡ y)
some_map f None y h = absurd (cc)
some_map f (Some x) y h = (x, refl, cc)

pub none_map : {A B : Type 0} (f : A → B) (o : Option A) → option_map f o ≡ None → o ≡ None
none_map f None h = refl
none_map f (Some x) h = absurd (cc)

pub map_none : {A B : Type 0} (f : A → B) (o : Option A) → o ≡ None → option_map f o ≡ None
map_none f None h = refl
map_none f (Some x) h = absurd (cc)

pub map_some : {A B : Type 0} (f : A → B) (o : Option A) (x : A) → o ≡ Some x → option_map f o ≡ Some (f x)
map_some f None x h = absurd (cc)
map_some f (Some y) x h = cc

pub some_then : {A B : Type 0} (f : A → Option B) (o : Option A) (y : B) → option_and_then f o ≡ Some y → (x : A) × (o ≡ Some x) × (f x ≡ Some y)
some_then f None y h = absurd (cc)
some_then f (Some x) y h = (x, refl, h)

pub then_none : {A B : Type 0} (f : A → Option B) (o : Option A) → o ≡ None → option_and_then f o ≡ None
then_none f None h = refl
then_none f (Some x) h = absurd (cc)

pub then_some : {A B : Type 0} (f : A → Option B) (o : Option A) (x : A) → o ≡ Some x → option_and_then f o ≡ f x
then_some f None x h = absurd (cc)
then_some f (Some y) x h = let e : y ≡ x = cc in cc

-- an option is none where no answer of it can be
pub is_none : {A : Type 0} (o : Option A) → ((x : A) → ¬ (o ≡ Some x)) → o ≡ None
is_none None h = refl
is_none (Some x) h = absurd (h x refl)
