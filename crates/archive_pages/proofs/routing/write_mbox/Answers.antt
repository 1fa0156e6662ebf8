use Rattle.std.proofs.Common.{◌≡◌, Err, IfErr, Ok, OnOk, arith, inl, rules, subst}
use Rattle.archive_model.specs.Questions.{messages_in}
use Rattle.archive_desk.specs.Causes.{HasUnreadableMessage, HasCause, IsDeskDatabaseFault}
use Rattle.archive_desk.proofs.CauseLemmas.{cause_among}
use Rattle.archive_pages.specs.Causes.{IsListDataUnreadable}
use Rattle.archive_pages.specs.Replies.{HasReplyFaultCause}
use Rattle.archive_pages.proofs.CauseLemmas.{mbox_unserved}
use Rattle.archive_pages.proofs.DeskLemmas.{none_out}
use Rattle.archive_pages.proofs.MboxLemmas.{Wrote, lines_broken, lines_part, lines_unsent, lines_whole, not_the_writer}
use Rattle.archive_pages.proofs.routing.write_mbox.Goals as goal

pub returns-in-Ok-clause-sent : goal.returns-in-Ok-clause-sent
returns-in-Ok-clause-sent g c =
    let old = c.args.store.now in
    let new = c.export_lines.new.store in
    let lines = c.args.lines.now in
    let before = g.W.Sink.told c.args.output.now in
    let after = g.W.Sink.told c.export_lines.new.out in
    let lasts = c.in-Ok.ensures.ends.remains_open in
    let is : c.ask.inside.list.now ≡ c.args.ask.now.list = search rules in
    lines_whole g.S.ArchiveState old new c.args.ask.now.list lines before after lasts c.in-Ok.field-0
    (subst (λ l. Wrote g.S.ArchiveState old new l lines before after lasts (Ok c.in-Ok.field-0)) is c.in-Ok.ensures.written)

pub returns-in-Write-clause-sent : goal.returns-in-Write-clause-sent
returns-in-Write-clause-sent g c =
    let old = c.args.store.now in
    let new = c.export_lines.new.store in
    let lines = c.args.lines.now in
    let before = g.W.Sink.told c.args.output.now in
    let after = g.W.Sink.told c.export_lines.new.out in
    let stop = c.in-Err.stop in
    let lasts = c.in-Err.ensures.ends.remains_open in
    let is : c.ask.inside.list.now ≡ c.args.ask.now.list = search rules in
    lines_part g.S.ArchiveState old new c.args.ask.now.list lines before after lasts stop.written
    (subst (λ f. Wrote g.S.ArchiveState old new c.args.ask.now.list lines before after lasts (Err (record { written = stop.written; fault = f }))) c.in-Write.is
    (subst (λ l. Wrote g.S.ArchiveState old new l lines before after lasts (Err stop)) is c.in-Err.ensures.written))

pub returns-in_default : goal.returns-in_default
returns-in_default g c =
    let ask = c.args.ask.now in
    let old = c.args.store.now in
    let new = c.export_lines.new.store in
    let lines = c.args.lines.now in
    let before = g.W.Sink.told c.args.output.now in
    let after = g.W.Sink.told c.export_lines.new.out in
    let failed = g.W.Sink.failures c.args.output.now in
    let fails = g.W.Sink.failures c.export_lines.new.out in
    let stop = c.in-Err.stop in
    let lasts = c.in-Err.ensures.ends.remains_open in
    let is : c.ask.inside.list.now ≡ ask.list = search rules in
    let why = not_the_writer before after failed fails stop.written stop.fault c.in_default.not-Write c.in-Err.ensures.writer.cause in record {
      sent = lines_broken g.S.ArchiveState old new ask.list lines before after lasts stop.written stop.fault
          (subst (λ l. Wrote g.S.ArchiveState old new l lines before after lasts (Err stop)) is c.in-Err.ensures.written) c.if-written-gt0.true;
      lasts = lasts;
      writes_nothing = c.in-Err.ensures.ends.writes_nothing;
      ends = record { no_failure_if_ok = tt; cause = (why.0, c.if-written-gt0.true, why.1) };
      caused = (
        c.in-Err.ensures.ends.refusals_counted.0,
        (λ bad. mbox_unserved g.S.ArchiveState old new ask (IsListDataUnreadable ask) before after failed fails stop.written stop.fault c.in_default.not-Write
            c.in-Err.ensures.writer.cause c.in-Err.ensures.ends.refusals_counted.1
            (λ it. cause_among g.S.ArchiveState old new (λ a. HasUnreadableMessage (messages_in a ask.list)) (IsListDataUnreadable ask) (λ a unread. inl unread)
            (subst (λ l. IsDeskDatabaseFault stop.fault → HasCause g.S.ArchiveState old new (λ a. HasUnreadableMessage (messages_in a l))) is c.in-Err.ensures.ends.fault_has_cause it))),
      );
    }

pub returns-in_default-2 : goal.returns-in_default-2
returns-in_default-2 g c =
    let ask = c.args.ask.now in
    let old = c.args.store.now in
    let new = c.export_lines.new.store in
    let lines = c.args.lines.now in
    let before = g.W.Sink.told c.args.output.now in
    let after = g.W.Sink.told c.export_lines.new.out in
    let last = g.W.Sink.told c.write_failure.new.output in
    let failed = g.W.Sink.failures c.args.output.now in
    let fails = g.W.Sink.failures c.export_lines.new.out in
    let more = g.W.Sink.failures c.write_failure.new.output in
    let stop = c.in-Err.stop in
    let result = c.write_failure.result in
    let lasts = c.in-Err.ensures.ends.remains_open in
    let is : c.ask.inside.list.now ≡ ask.list = search rules in
    let why = not_the_writer before after failed fails stop.written stop.fault c.in_default-2.not-Write c.in-Err.ensures.writer.cause in
    let same : after ≡ before = none_out before after stop.written why.1 (λ some. omega (arith, c.if-written-gt0.false, some)) in record {
      sent = lines_unsent g.S.ArchiveState old new ask.list lines before after lasts stop.written stop.fault
          (subst (λ l. Wrote g.S.ArchiveState old new l lines before after lasts (Err stop)) is c.in-Err.ensures.written) last result same c.write_failure.ensures.sent;
      lasts = lasts;
      writes_nothing = c.in-Err.ensures.ends.writes_nothing;
      ends = record {
        no_failure_if_ok = subst (λ n. OnOk result (more ≡ n)) why.0 c.write_failure.ensures.ends.no_failure_if_ok;
        cause = subst (λ m. IfErr result (λ f. HasReplyFaultCause m last failed more f)) same
            (subst (λ n. IfErr result (λ f. HasReplyFaultCause after last n more f)) why.0 c.write_failure.ensures.ends.cause);
      };
      caused = (
        c.in-Err.ensures.ends.refusals_counted.0,
        (λ bad. mbox_unserved g.S.ArchiveState old new ask (IsListDataUnreadable ask) before after failed fails stop.written stop.fault c.in_default-2.not-Write
            c.in-Err.ensures.writer.cause c.in-Err.ensures.ends.refusals_counted.1
            (λ it. cause_among g.S.ArchiveState old new (λ a. HasUnreadableMessage (messages_in a ask.list)) (IsListDataUnreadable ask) (λ a unread. inl unread)
            (subst (λ l. IsDeskDatabaseFault stop.fault → HasCause g.S.ArchiveState old new (λ a. HasUnreadableMessage (messages_in a l))) is c.in-Err.ensures.ends.fault_has_cause it))),
      );
    }
