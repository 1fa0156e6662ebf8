use Rattle.std.proofs.Common.{◌≡◌, ◌&&◌, map, filter, drop}
use Rattle.std.specs.Int.{int_max}
use Rattle.archive_model.specs.Questions.{grant_holds_on, is_grant_of, max_rank}
use Rattle.archive_model.specs.Records.{Grant}
use Rattle.archive_port.specs.Words.{standing_rank}
use Rattle.archive_memory.specs.Entries.{grant_in}
use Rattle.archive_memory.proofs.asking.standing_of.Given as goal

abbrev pub invariant-loop-grant : goal.invariant-loop-grant
invariant-loop-grant l =
    int_max (standing_rank l.highest) (max_rank (map (λ (g : Grant). g.rank) (filter (λ g. is_grant_of l.person l.list g && grant_holds_on l.day g) (map grant_in (drop l.grant-index l.grants)))))
    ≡ max_rank (map (λ (g : Grant). g.rank) (filter (λ g. is_grant_of l.person l.list g && grant_holds_on l.day g) (map grant_in l.grants)))
