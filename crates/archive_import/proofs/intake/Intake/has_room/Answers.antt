use Rattle.std.proofs.Common.{◌+◌, ◌<◌, ◌≤◌, ◌++◌, [], ◌∷◌, ◌∙◌, length, min, ap, subst, arith}
use Rattle.std.proofs.lemmas.Bool.Decides.{nat_tests}
use Rattle.archive_import.specs.declared.intake.TheConstants.{MESSAGES_HELD, BYTES_HELD}
use Rattle.archive_import.specs.Intake.{IntakeState, FitsIntakeLimits}
use Rattle.archive_import.proofs.IntakeLemmas.{small_more}
use Rattle.archive_import.proofs.intake.Intake.has_room.Goals as goal

pub returns-then-len-lt-MESSAGES_HELD : goal.returns-then-len-lt-MESSAGES_HELD
returns-then-len-lt-MESSAGES_HELD c = λ fits.
    let few : length c.self.inside.held.items < MESSAGES_HELD = omega (arith, c.if-len-lt-MESSAGES_HELD.true, c.len.ensures) in
    let small : c.saturating_add.result ≤ BYTES_HELD = grind (arith, nat_tests, fits) in
    subst (λ (s : IntakeState). FitsIntakeLimits (s.held ++ c.args.item.now ∷ [])) c.self.view_is
    (small_more c.self.inside.held.items c.args.item.now c.self.inside.bytes c.saturating_add.result c.self.invariant.1 few
    (c.saturating_add.ensures ∙ ap (λ t. min (c.self.inside.bytes + length t) 18446744073709551615) c.text.ensures) small)
