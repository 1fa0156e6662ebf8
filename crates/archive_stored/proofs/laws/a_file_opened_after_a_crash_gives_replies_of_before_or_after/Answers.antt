use Rattle.archive_stored.proofs.StopLemmas.{answers_behind}
use Rattle.archive_stored.proofs.laws.a_file_opened_after_a_crash_gives_replies_of_before_or_after.Goals as goal

pub returns : goal.returns
returns g c = λ old cut opened files store step reply. answers_behind old cut opened files store step reply
    (c.a_crash_leaves_the_archive_before_a_command_or_after_it.ensures old cut step reply)
