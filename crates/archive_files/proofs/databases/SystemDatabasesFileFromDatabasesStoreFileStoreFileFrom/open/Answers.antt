use Rattle.std.proofs.Common.{◌≡◌, Some}
use Rattle.archive_files.proofs.databases.SystemDatabasesFileFromDatabasesStoreFileStoreFileFrom.open.Goals as goal

pub returns-in-Ok-clause-opened : goal.returns-in-Ok-clause-opened
returns-in-Ok-clause-opened g c =
    let taken = c.take.ensures.value in
    let is = c.in-Some.is in
    let start : c.args.self.now.start ≡ Some c.in-Some.start = cc in
    (c.take.ensures.after, rw start (record { may_be_named = c.name_to_keep.ensures; opens_or_fails = (c.in-Ok.ensures.opened, c.in-Ok.ensures.named) }))

pub returns-in-Err-clause-opened : goal.returns-in-Err-clause-opened
returns-in-Err-clause-opened g c =
    let taken = c.take.ensures.value in
    let is = c.in-Some.is in
    let start : c.args.self.now.start ≡ Some c.in-Some.start = cc in
    (c.take.ensures.after, rw start (record { may_be_named = c.name_to_keep.ensures; opens_or_fails = c.in-Err.ensures.cause }))
