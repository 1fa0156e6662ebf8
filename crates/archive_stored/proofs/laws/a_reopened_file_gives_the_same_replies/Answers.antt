use Rattle.archive_stored.proofs.ReopenLemmas.{answers_reopened}
use Rattle.archive_stored.proofs.laws.a_reopened_file_gives_the_same_replies.Goals as goal

pub returns : goal.returns
returns g c = λ closed opened files store new archive. answers_reopened closed opened files store new archive (c.a_file_opened_again_holds_the_same_archive.ensures closed opened files archive)
