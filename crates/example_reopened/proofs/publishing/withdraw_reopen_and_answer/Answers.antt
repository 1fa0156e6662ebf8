use Rattle.sqlite.specs.Files.{over_files}
use Rattle.archive_port.specs.Told.{archive_in}
use Rattle.archive_store.specs.State.{state_of}
use Rattle.example_reopened.specs.Withdrawing.{ImportsAndWithdraws}
use Rattle.archive_pages.proofs.ServingLemmas.{same_after}
use Rattle.example_reopened.proofs.PublishLemmas.{caused_behind}
use Rattle.example_reopened.proofs.ReopenLemmas.{leads_still}
use Rattle.example_reopened.proofs.publishing.withdraw_reopen_and_answer.Goals as goal

pub returns-clause-answered : goal.returns-clause-answered
returns-clause-answered g c = λ returned archive held.
    let ends = c.answer_both-answered.ensures.ends in
    let was = ends.first_ends.stays.archive_is_same.0.disk_was_clean (ends.second_ends.stays.archive_is_same.0.disk_was_clean returned) in
    let it = c.in-Ok.ensures.withdrawn was archive held in
    record {
      archive = archive_in (state_of over_files) c.in-Ok.done.0;
      made = it.1;
      first_sent = c.answer_both-answered.ensures.first returned it.0.is_archive_at_rest;
      second_sent = c.answer_both-answered.ensures.second returned it.0.is_archive_at_rest;
    }

pub returns-clause-stays : goal.returns-clause-stays
returns-clause-stays g c =
    leads_still c.args.files c.in-Ok.done.0 c.answer_both-answered.new.store (λ a b. ImportsAndWithdraws c.args.withdrawal.now a b c.in-Ok.done.1)
    c.in-Ok.ensures.withdrawn
    (same_after (state_of over_files) c.in-Ok.done.0 c.answer_both-answered.ensures.ends.store_between c.answer_both-answered.new.store
    c.answer_both-answered.ensures.ends.first_ends.stays.archive_is_same c.answer_both-answered.ensures.ends.second_ends.stays.archive_is_same)

pub returns-clause-caused : goal.returns-clause-caused
returns-clause-caused g c =
    caused_behind c.commands_write_readable_archives.ensures.taken c.commands_write_readable_archives.ensures.step c.messages_of_a_division_are_items.ensures g.R.Source g.W.Sink
    c.args.policy.now c.args.day c.args.files c.in-Ok.done.0 c.answer_both-answered.new.store c.args.withdrawal.now c.args.first.now c.answer_both-answered.new.first c.args.second.now
    c.answer_both-answered.new.second c.in-Ok.done.1 c.answer_both-answered.result c.in-Ok.ensures.withdrawn c.in-Ok.ensures.unlimited
    c.answer_both-answered.ensures.ends
