use Rattle.archive_desk.proofs.ListLemmas.{no_thread_from, thread_from}
use Rattle.archive_desk.proofs.listing.thread.Goals as goal

pub returns-in-Ok-Some-clause-listed : goal.returns-in-Ok-Some-clause-listed
returns-in-Ok-Some-clause-listed g c =
    thread_from g.S.ArchiveState c.args.store.now c.read_view_summaries.new.store c.args.ask.now c.in-Ok.index.headers.items c.in-Ok.index.merge c.in-Ok.ensures.held
    c.args.key.now c.in-Ok-Some.rows.items (rw c.in-Ok-Some.field-0-is at c.in-Ok-Some.ensures)

pub returns-in-Ok-None-clause-listed : goal.returns-in-Ok-None-clause-listed
returns-in-Ok-None-clause-listed g c =
    no_thread_from g.S.ArchiveState c.args.store.now c.read_view_summaries.new.store c.args.ask.now c.in-Ok.index.headers.items c.in-Ok.index.merge c.in-Ok.ensures.held
    c.args.key.now (rw c.in-Ok-None.field-0-is at c.in-Ok-None.ensures)
