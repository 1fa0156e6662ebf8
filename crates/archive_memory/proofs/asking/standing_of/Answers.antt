use Rattle.std.proofs.Common.{◌&&◌, map, filter}
use Rattle.archive_model.specs.Questions.{grant_holds_on, is_grant_of}
use Rattle.archive_model.specs.Records.{Grant}
use Rattle.archive_memory.specs.Entries.{grant_in}
use Rattle.archive_memory.proofs.AskLemmas.{public_first}
use Rattle.archive_memory.proofs.asking.standing_of.Goals as goal

pub loop-grant-init : goal.loop-grant-init
loop-grant-init c = public_first
    (map (λ (g : Grant). g.rank) (filter (λ g. is_grant_of c.args.person.now c.args.list.now g && grant_holds_on c.args.day g) (map grant_in c.args.grants.now)))
