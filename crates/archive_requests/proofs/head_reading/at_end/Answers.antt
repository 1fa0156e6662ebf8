use Rattle.std.proofs.Common.{[]}
use Rattle.std.proofs.lemmas.List.{append-nil}
use Rattle.archive_requests.proofs.head_reading.at_end.Goals as goal

pub returns-in-Some : goal.returns-in-Some
returns-in-Some c =
    let final = c.in-Some.ensures.read [] in
    rw (append-nil c.args.bytes.now) at final
