use Rattle.std.proofs.Common.{arith, drop-drop, length, refl, sym, ◌≤◌}
use Rattle.archive_store.proofs.WalkingLemmas.{drop_none}
use Rattle.archive_store.proofs.walking.MessageWalk.pass.Goals as goal

pub returns-then-self-len-clause-passed : goal.returns-then-self-len-clause-passed
returns-then-self-len-clause-passed c = (sym (drop-drop 1 c.args.self.now.at c.args.self.now.places.items), refl)

pub returns-else-self-len-clause-passed : goal.returns-else-self-len-clause-passed
returns-else-self-len-clause-passed c =
    let walk = c.args.self.now in
    let past : length walk.places.items ≤ walk.at = omega (arith, c.if-self-len.false, c.len.ensures) in
    (drop_none walk.places.items walk.at past, refl)
