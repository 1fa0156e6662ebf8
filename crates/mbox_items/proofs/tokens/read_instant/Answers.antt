use Rattle.std.proofs.Common.{◌≡◌, ◌∙◌, ◌<◌, ap, arith, ℕ, ℤ, pos, ◌+ℤ◌, ◌-ℤ◌, ◌*ℤ◌, to_z, of_z, w32, w64, FitsSigned}
use Rattle.std.proofs.lemmas.Int.{ints}
use Rattle.civil_time.specs.Calendar.{checked_instant}
use Rattle.mbox_items.proofs.SeparatorLemmas.{instant_is}
use Rattle.mbox_items.proofs.tokens.read_instant.Goals as goal

-- nothing is lost in 64 bits
fits64 : (day : ℤ) (seconds : ℕ) (east : ℤ) → FitsSigned w32 day → seconds < 86400 → FitsSigned w32 east
    → to_z w64 (of_z w64 (to_z w64 (of_z w64 (to_z w64 (of_z w64 (to_z w64 (of_z w64 (to_z w32 (of_z w32 day))) *ℤ pos 86400)) +ℤ to_z w64 seconds)) -ℤ to_z w64 (of_z w64 (to_z w32 (of_z w32 east)))))
    ≡ day *ℤ pos 86400 +ℤ pos seconds -ℤ east
fits64 day seconds east d s e = omega (arith, ints, d, s, e)

pub returns : goal.returns
returns c =
    c.new.ensures
    ∙ ap checked_instant (fits64 c.args.day c.args.seconds c.args.east c.ranges.day c.requires c.ranges.east)
    ∙ instant_is c.args.day c.args.seconds c.args.east
