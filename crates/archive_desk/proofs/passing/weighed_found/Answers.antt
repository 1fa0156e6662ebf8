use Rattle.std.proofs.Common.{◌≡◌, subst, None}
use Rattle.std.specs.Prelude.{MatchOption}
use Rattle.std.specs.Option.{IsSomeAnd}
use Rattle.archive_port.specs.Messages.{AreDatedMarksOf}
use Rattle.archive_desk.proofs.PassLemmas.{weighed_held}
use Rattle.archive_desk.proofs.passing.weighed_found.Goals as goal

pub returns-in-Some : goal.returns-in-Some
returns-in-Some c = λ held are.
    weighed_held c.in-Some.marks c.weighed.result held c.weighed.ensures (subst (λ f. MatchOption f (held ≡ None) (λ marks. IsSomeAnd held (AreDatedMarksOf marks))) c.in-Some.is are)
