use Rattle.std.proofs.Common.{◌∙◌, sym, ap, arith}
use Rattle.std.proofs.lemmas.Str.Pattern.{split_parts}
use Rattle.archive_requests.specs.Requests.{path_of}
use Rattle.archive_requests.proofs.TargetLemmas.{path_of-whole, path_of-parted}
use Rattle.archive_requests.proofs.requests.path_of.Goals as goal

pub returns-in-Some : goal.returns-in-Some
returns-in-Some c =
    let split = split_parts 63 _ _ c.split_once.ensures.cases (omega arith) in
    let parts = rw c.in-Some.is at split in
    path_of-parted _ _ parts.1 ∙ ap path_of (sym parts.0)

pub returns-in-None : goal.returns-in-None
returns-in-None c =
    let split = split_parts 63 _ _ c.split_once.ensures.cases (omega arith) in
    path_of-whole _ (rw c.in-None.is at split)
