use Rattle.std.proofs.Common.{map, subst, sym}
use Rattle.sqlite.proofs.Callers.{memory_is_clean}
use Rattle.archive_tables.specs.Making.{empty_archive}
use Rattle.archive_store.specs.Held.{store_connection}
use Rattle.archive_port.specs.Commands.{spec_command}
use Rattle.archive_desk.specs.Readable.{CanBeRead}
use Rattle.example_reopened.specs.Withdrawing.{AnswersAfterWithdrawal}
use Rattle.example_reopened.proofs.MemoryLemmas.{wanting}
use Rattle.example_reopened.proofs.in_memory.import_withdraw_and_answer_in_memory.Goals as goal

pub returns-in-Ok-import_withdraw_and_answer-clause-answered : goal.returns-in-Ok-import_withdraw_and_answer-clause-answered
returns-in-Ok-import_withdraw_and_answer-clause-answered g c =
    subst
    (λ before. AnswersAfterWithdrawal g.R.Source g.W.Sink c.args.withdrawal.now c.args.policy.now c.args.day before c.args.first.now c.import_withdraw_and_answer.new.first
    c.args.second.now c.import_withdraw_and_answer.new.second c.in-Ok-import_withdraw_and_answer.report c.in-Ok-import_withdraw_and_answer.answered)
    c.in-Ok.ensures.archive_is
    (c.in-Ok-import_withdraw_and_answer.ensures.answered (memory_is_clean (store_connection c.import_withdraw_and_answer.new.store)) c.in-Ok.ensures.is_ready)

pub returns-in-Ok-import_withdraw_and_answer-clause-caused : goal.returns-in-Ok-import_withdraw_and_answer-clause-caused
returns-in-Ok-import_withdraw_and_answer-clause-caused g c =
    let write = c.commands_write_readable_archives.ensures in
    wanting c.in_memory_503_means_that_memory_was_refused.ensures c.in_memory_each_request_leaves_the_store_ready.ensures write.taken write.step
    c.messages_of_a_division_are_items.ensures g.R.Source g.W.Sink c.args.policy.now c.args.day c.in-Ok.store c.import_withdraw_and_answer.new.store c.args.withdrawal.now
    c.args.first.now c.import_withdraw_and_answer.new.first c.args.second.now c.import_withdraw_and_answer.new.second
    c.in-Ok-import_withdraw_and_answer.report c.in-Ok-import_withdraw_and_answer.answered c.in-Ok.ensures.is_ready c.in-Ok.ensures.has_no_step_limit
    (subst CanBeRead (sym c.in-Ok.ensures.archive_is)
    (write.run empty_archive (map spec_command c.args.commands.now) c.commands_of_a_run_are_well_formed.ensures c.an_empty_archive_can_be_read.ensures))
    c.in-Ok-import_withdraw_and_answer.ensures.ends
