use Rattle.std.proofs.Common.{codes}
use Rattle.sqlite.specs.Held.{state}
use Rattle.archive_tables.proofs.VersionLemmas.{numbers_found, numbers_leave, numbers_open, numbers_caused, version_found, version_caused}
use Rattle.archive_tables.proofs.EndLemmas.{asks_shows}
use Rattle.sqlite_tied.specs.Compute.{everything}
use Rattle.sqlite_resolve.specs.Compile.{first}
use Rattle.archive_tables.proofs.CrashLemmas.{IsQuestionText}
use Rattle.archive_tables.proofs.texts.schema.versions.Goals as goal

asks : IsQuestionText (first (codes "SELECT number FROM version ORDER BY rowid"))
unfolding first everything
asks = tt

pub returns : goal.returns
returns g c =
    let old = state g.S.Store c.args.conn.now in
    let new = state g.S.Store c.query_all.new.self in
    let r = c.query_all.result in
    let ok = c.query_all.ensures.ok in
    let err = c.query_all.ensures.err in
    record {
      asks = asks_shows _ _ asks r c.query_all.ensures.survives ok err (λ clean behind k. version_found old new k r (ok clean) (err clean))
          (λ clean k free. version_caused old new k free r (err clean));
      numbers = λ clean number known o. numbers_found old new number known o r (ok clean);
      caused = λ clean number known o free. numbers_caused old new number known o free r (err clean);
      left = λ clean number known o. numbers_leave old new number known o r (ok clean) (err clean);
      stays_open = λ clean number known o. numbers_open old new number known o r (ok clean);
    }
