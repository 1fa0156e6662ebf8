use Rattle.archive_model.specs.Messages.{archived_message}
use Rattle.archive_results.proofs.AccessLemmas.{marked}
use Rattle.archive_results.proofs.access.message_facts.Goals as goal

pub returns-clause-marks : goal.returns-clause-marks
returns-clause-marks c = λ list.
    marked _ (archived_message list c.args.message.now) c.marks_with.result c.in_ok-own.own (c.marks_with.ensures list) (c.in_ok-own.ensures.own list)
