use Rattle.std.proofs.Common.{arith, ◌∙◌, rules}
use Rattle.archive_port.proofs.LastLemmas.{lasts_then}
use Rattle.archive_port.specs.Walking.{walk_over_store}
use Rattle.archive_desk.specs.declared.faults.DeskError.TheVariants.{Write}
use Rattle.archive_desk.proofs.CauseLemmas.{next_cause, pass_cause}
use Rattle.archive_desk.proofs.EndLemmas.{walk_stops, walk_unheld}
use Rattle.archive_desk.proofs.IndexLemmas.{held_unpassed, held_unread}
use Rattle.archive_desk.proofs.WalkLemmas.{rows_all, rows_left, rows_more, rows_past, rows_refused, rows_unwritten}
use Rattle.archive_desk.proofs.exporting.write_rows.Goals as goal

pub loop-store-preserved : goal.loop-store-preserved
loop-store-preserved g c =
    let so_far = c.loop-store.invariant in
    let mid = walk_over_store c.pass_withheld.new.store c.pass_withheld.new.walk in
    let past = rows_past so_far.2 mid c.pass_withheld.ensures.lasts c.in_ok-pass_withheld.ensures.passed in (
      lasts_then g.S.ArchiveState _ _ _ (lasts_then g.S.ArchiveState _ _ _ so_far.0 c.pass_withheld.ensures.lasts) c.next.ensures.ends.remains_open,
      c.in-Ok.ensures.quiet ∙ so_far.1,
      rows_more past (walk_over_store c.next.new.self c.next.new.walk) c.next.ensures.ends.remains_open c.in-Some.message (rw c.in-Some.is at c.in_ok-message.ensures.given)
          (g.W.Sink.told c.write_shown.new.out) c.in-Ok.more c.saturating_add.result c.in-Ok.ensures.ok c.in-Ok.ensures.count c.saturating_add.ensures,
      omega (arith, so_far.3, c.in_ok-pass_withheld.ensures.counted.0, c.in_ok-message.ensures.ends.refusals_counted.0),
      (λ db may. so_far.4 db (c.pass_withheld.ensures.writes_nothing db (c.next.ensures.writes_nothing db may))),
    )

pub returns-in_err-message : goal.returns-in_err-message
returns-in_err-message g c =
    let so_far = c.loop-store.invariant in
    let old = walk_over_store c.args.store.now c.args.walk.now in
    let mid = walk_over_store c.pass_withheld.new.store c.pass_withheld.new.walk in
    let new = walk_over_store c.next.new.self c.next.new.walk in
    let lasts = c.next.ensures.ends.remains_open in
    let fault = c.in_err-message.field-0.0 in
    let result = c.from_residual-in_err-message.result in
    let is = c.from_residual-in_err-message.ensures.1 in
    let before = lasts_then g.S.ArchiveState _ _ _ so_far.0 c.pass_withheld.ensures.lasts in
    let past = rows_past so_far.2 mid c.pass_withheld.ensures.lasts c.in_ok-pass_withheld.ensures.passed in
    record {
      written = rows_left past new lasts fault c.in_err-message.ensures.ends.fault_is_no_refusal result is (held_unread g.S.ArchiveState c.args.ask.now mid new fault c.in_err-message.ensures.given);
      writer = search rules;
      ends = walk_stops g.S.ArchiveState c.args.ask.now (Unit {0}) old mid new before lasts (omega (arith, so_far.3, c.in_ok-pass_withheld.ensures.counted.0)) fault
          (next_cause g.S.ArchiveState c.args.ask.now old mid new past.walked.gave before lasts fault c.in_err-message.ensures.caused) c.in_err-message.ensures.ends.refusals_counted result is;
      writes_nothing = search rules;
    }

pub returns-in_err-pass_withheld : goal.returns-in_err-pass_withheld
returns-in_err-pass_withheld g c =
    let so_far = c.loop-store.invariant in
    let old = walk_over_store c.args.store.now c.args.walk.now in
    let mid = walk_over_store c.loop-store.store c.loop-store.walk in
    let new = walk_over_store c.pass_withheld.new.store c.pass_withheld.new.walk in
    let lasts = c.pass_withheld.ensures.lasts in
    let fault = c.in_err-pass_withheld.field-0.0 in
    let told = c.in_err-pass_withheld.ensures in
    record {
      written = rows_left so_far.2 new lasts fault told.passed.fault_is_no_refusal c.from_residual.result c.from_residual.ensures.1
          (held_unpassed g.S.ArchiveState c.args.ask.now mid new c.args.reader.now fault told.passed);
      writer = search rules;
      ends = walk_stops g.S.ArchiveState c.args.ask.now (Unit {0}) old mid new so_far.0 lasts so_far.3 fault
          (pass_cause g.S.ArchiveState c.args.ask.now old mid new so_far.2.walked.gave so_far.0 lasts fault told.caused) told.counted c.from_residual.result c.from_residual.ensures.1;
      writes_nothing = search rules;
    }

pub returns-in_default-clause-written : goal.returns-in_default-clause-written
returns-in_default-clause-written g c =
    let mid = walk_over_store c.pass_withheld.new.store c.pass_withheld.new.walk in
    rows_all (rows_past c.loop-store.invariant.2 mid c.pass_withheld.ensures.lasts c.in_ok-pass_withheld.ensures.passed) (walk_over_store c.next.new.self c.next.new.walk)
    c.next.ensures.ends.remains_open (rw c.in_default.is at c.in_ok-message.ensures.given)

pub returns-in-Err-Write-clause-written : goal.returns-in-Err-Write-clause-written
returns-in-Err-Write-clause-written g c =
    let mid = walk_over_store c.pass_withheld.new.store c.pass_withheld.new.walk in
    rows_unwritten (rows_past c.loop-store.invariant.2 mid c.pass_withheld.ensures.lasts c.in_ok-pass_withheld.ensures.passed) (walk_over_store c.next.new.self c.next.new.walk)
    c.next.ensures.ends.remains_open c.in-Some.message (rw c.in-Some.is at c.in_ok-message.ensures.given) (g.W.Sink.told c.write_shown.new.out)
    c.in-Err-Write.written c.saturating_add-in-Err-Write.result Write (rw c.in-Err-Write.field-0-is at c.in-Err-Write.ensures.part)
    (rw c.in-Err-Write.field-0-is at c.saturating_add-in-Err-Write.ensures)

pub returns-in-Err-Refused : goal.returns-in-Err-Refused
returns-in-Err-Refused g c =
    let so_far = c.loop-store.invariant in
    let mid = walk_over_store c.pass_withheld.new.store c.pass_withheld.new.walk in
    let new = walk_over_store c.next.new.self c.next.new.walk in
    let last = walk_over_store c.count_refusal.new.self c.next.new.walk in
    let lasts = c.next.ensures.ends.remains_open in
    let before = lasts_then g.S.ArchiveState _ _ _ so_far.0 c.pass_withheld.ensures.lasts in
    let why = rw c.in-Err-Refused.field-0-is at c.in-Err-Refused.ensures.cause in
    record {
      written = rows_refused (rows_past so_far.2 mid c.pass_withheld.ensures.lasts c.in_ok-pass_withheld.ensures.passed) new lasts c.in-Some.message
          (rw c.in-Some.is at c.in_ok-message.ensures.given) (g.W.Sink.told c.write_shown.new.out) last c.count_refusal.ensures.counted
          (rw c.in-Err-Refused.field-0-is at c.in-Err-Refused.ensures.part);
      writer = record { no_failure_if_ok = tt; cause = (why.1 ∙ so_far.1, (so_far.2.part, why.0 ∙ so_far.2.out, so_far.2.counts_is)) };
      ends = walk_unheld g.S.ArchiveState c.args.ask.now (Unit {0}) (walk_over_store c.args.store.now c.args.walk.now) mid new before lasts
          (omega (arith, so_far.3, c.in_ok-pass_withheld.ensures.counted.0)) last c.count_refusal.ensures.counted c.in_ok-message.ensures.ends.refusals_counted.0;
      writes_nothing = search rules;
    }
