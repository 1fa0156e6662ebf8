use Rattle.std.proofs.Common.{◌≡◌, true, ◌&&◌, ◌∙◌, subst, w64}
use Rattle.std.specs.Prelude.{int_le}
use Rattle.std.proofs.lemmas.Int.{to_z-of_z}
use Rattle.archive_database.proofs.RankLemmas.{when_it_holds}
use Rattle.archive_database.proofs.ranks.rank_with.Goals as goal

pub returns-then-holds-clause-found : goal.returns-then-holds-clause-found
returns-then-holds-clause-found c = λ g is.
    let r = c.in_ok-grant.grant in
    to_z-of_z w64 c.higher_rank.result (record { sfits = c.higher_rank.type_inv }) ∙ c.higher_rank.ensures
    ∙ when_it_holds c.args.day c.args.above.now r g (c.in_ok-grant.ensures.read g is)
    (subst (λ d. true ≡ (int_le r.from_day d && int_le d r.until_day)) (to_z-of_z w64 c.args.day c.ranges.day) c.if-holds.ensures)
