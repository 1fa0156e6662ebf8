use Rattle.std.proofs.Common.{◌≡◌, subst, sym}
use Rattle.archive_cache.specs.Parts.{whole}
use Rattle.archive_cache.specs.Sending.{mbox_text_of_lines}
use Rattle.archive_pages.specs.Calls.{IsCacheCoherentForAsk, IsCachedIndexPlace}
use Rattle.archive_pages.specs.Causes.{IsListDataUnreadable, IsUnreadableOrReaderUnknown}
use Rattle.archive_pages.specs.Replies.{mbox_reply}
use Rattle.archive_pages.specs.Serving.{SendsFromArchive}
use Rattle.archive_pages.proofs.CauseLemmas.{no_outline, served_after}
use Rattle.archive_pages.proofs.MboxLemmas.{mbox_served, mbox_unlisted}
use Rattle.archive_pages.proofs.routing.answer_mbox.Goals as goal

pub returns-in-Ok-None-clause-sent : goal.returns-in-Ok-None-clause-sent
returns-in-Ok-None-clause-sent g c =
    mbox_unlisted g.S.ArchiveState c.args.ask.now c.args.kept.now c.find_place.new.kept c.args.store.now c.find_place.new.store (g.W.Sink.told c.args.output.now)
    (g.W.Sink.told c.write_failure.new.output) c.write_failure.result (rw c.in-Ok-None.field-0-is at c.in-Ok-None.ensures.found) c.write_failure.ensures.sent

pub returns-in_default-clause-caused : goal.returns-in_default-clause-caused
returns-in_default-clause-caused g c =
    no_outline c.find_place.new.kept c.in-Ok-Some.place (rw c.in-Ok-Some.field-0-is at c.in-Ok-Some.ensures.there) (sym c.in_default.ensures.outline)

pub returns-clause-sent : goal.returns-clause-sent
returns-clause-sent g c =
    let ask = c.args.ask.now in
    let mid = c.find_place.new.store in
    let new = c.write_mbox.new.store in
    let before = g.W.Sink.told c.args.output.now in
    let after = g.W.Sink.told c.write_mbox.new.output in
    mbox_served g.S.ArchiveState ask c.args.kept.now c.find_place.new.kept c.args.store.now mid c.in-Ok-Some.place c.in-Some.outline.now c.in-Some.ensures.outline
    (rw c.in-Ok-Some.field-0-is at c.in-Ok-Some.ensures.found) (g.met.S.ArchiveStore.holds_distinct_keys c.args.store.now) new before after c.write_mbox.result c.write_mbox.ensures.lasts
    (subst (λ lines. SendsFromArchive g.S.ArchiveState mid new (λ a r. r ≡ mbox_reply (mbox_text_of_lines a ask.list lines)) before after c.write_mbox.result) c.lines.ensures
    c.write_mbox.ensures.sent)

pub returns-clause-caused : goal.returns-clause-caused
returns-clause-caused g c =
    let ask = c.args.ask.now in
    let Found : _ = λ a. IsCacheCoherentForAsk ask c.args.kept.now a → IsCachedIndexPlace a ask c.find_place.new.kept whole c.in-Ok-Some.field-0 in
    let Unread : _ = IsUnreadableOrReaderUnknown (IsListDataUnreadable ask) ask.reader in
    served_after g.S.ArchiveState c.args.store.now c.find_place.new.store c.write_mbox.new.store Found c.in-Ok-Some.ensures.found.0 c.in-Ok-Some.ensures.caused.0
    c.write_mbox.ensures.lasts c.write_mbox.result Unread Unread (λ a found bad. bad) c.write_mbox.ensures.caused
