-- What E15 of a question means.
use Rattle.std.proofs.Common.{◌≡◌, ◌⊎◌, ◌∙◌, inl, inr, List, [], ◌∷◌, ◌++◌, Result, Ok, Err, IfErr, sym, subst}
use Rattle.std.specs.Prelude.{IsErrAnd}
use Rattle.std.specs.List.{All}
use Rattle.std.proofs.lemmas.List.Elements.{All-head, All-tail}
use Rattle.archive_model.specs.Records.{Message}
use Rattle.archive_port.specs.Messages.{IsReadable}
use Rattle.archive_port.specs.Told.{DiskHasFailed, StaysOpenUnlessDiskFails}
use Rattle.archive_port.specs.declared.state.ArchiveState.{Ghosts}
use Rattle.archive_port.specs.declared.faults.StoreFault.{StoreFault}
use Rattle.archive_port.specs.declared.faults.StoreFault.TheVariants as faults
use Rattle.archive_port.proofs.LastLemmas.{more_since}

-- the same fault again, at the exit of a `?`
pub passed_on : {A : Type 0} (r : Result A StoreFault) (f : StoreFault) (X : Type 0) → IsErrAnd r (λ g. g ≡ f) → (f ≡ faults.Store → X) → IfErr r (λ f. f ≡ faults.Store → X)
passed_on (Ok a) f X is why = tt
passed_on (Err g) f X is why = λ it. why (sym is ∙ it)

one_in : {X : Type 0} (P : X → Type 0) (before : List X) (x : X) (rest : List X) → All P (before ++ x ∷ rest) → P x
one_in P [] x rest all = All-head P x rest all
one_in P (y ∷ before) x rest all = one_in P before x rest (All-tail P y (before ++ x ∷ rest) all)

pub not_all : {X : Type 0} (P : X → Type 0) (before : List X) (x : X) (rest all : List X) → before ++ x ∷ rest ≡ all → ¬ P x → ¬ All P all
not_all P before x rest all is bad each = bad (one_in P before x rest (subst (All P) (sym is) each))

-- a walk
pub stops_later : {S W : Type 0} (g : Ghosts S W) (old mid new : S) (given all : List Message) → StaysOpenUnlessDiskFails g old mid
    → DiskHasFailed g mid new ⊎ ((next : Message) × (rest : List Message) × (given ++ next ∷ rest ≡ all) × (¬ IsReadable next))
    → DiskHasFailed g old new ⊎ (¬ All IsReadable all)
stops_later g old mid new given all lasts (inl more) = inl (more_since g old mid new lasts more)
stops_later g old mid new given all lasts (inr bad) = inr (not_all IsReadable given bad.0 bad.1 all bad.2 bad.3)
