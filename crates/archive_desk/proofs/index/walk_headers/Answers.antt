use Rattle.std.proofs.Common.{arith, refl, rules}
use Rattle.std.proofs.lemmas.List.{map-append}
use Rattle.std.specs.Prelude.{Vec}
use Rattle.std.specs.declared.alloc.Global.{Global}
use Rattle.archive_port.proofs.LastLemmas.{lasts_then}
use Rattle.archive_results.specs.Index.{MessageSummary, summary_of}
use Rattle.archive_port.specs.Walking.{walk_over_store}
use Rattle.archive_desk.proofs.CauseLemmas.{next_cause, pass_cause}
use Rattle.archive_desk.proofs.EndLemmas.{walk_stops, walk_unheld}
use Rattle.archive_desk.proofs.IndexLemmas.{held_unpassed, held_unread, listed_all, listed_left, listed_more, listed_no_more, listed_past}
use Rattle.archive_desk.proofs.index.walk_headers.Goals as goal

pub loop-headers-preserved : goal.loop-headers-preserved
loop-headers-preserved g c =
    let so_far = c.loop-headers.invariant in
    let mid = walk_over_store c.pass_withheld.new.store c.pass_withheld.new.walk in
    let past = listed_past so_far.1 mid c.pass_withheld.ensures.lasts (map-append summary_of) refl c.in_ok-pass_withheld.ensures.passed in (
      lasts_then g.S.ArchiveState _ _ _ (lasts_then g.S.ArchiveState _ _ _ so_far.0 c.pass_withheld.ensures.lasts) c.next.ensures.ends.remains_open,
      listed_more past (walk_over_store c.next.new.self c.next.new.walk) c.next.ensures.ends.remains_open (map-append summary_of) c.in-Some.message c.push_header.new.headers.items
          (rw c.in-Some.is at c.in_ok-message.ensures.given) c.in-Ok.ensures,
      omega (arith, so_far.2, c.in_ok-pass_withheld.ensures.counted.0, c.in_ok-message.ensures.ends.refusals_counted.0),
      (λ db may. so_far.3 db (c.pass_withheld.ensures.writes_nothing db (c.next.ensures.writes_nothing db may))),
    )

pub returns-in_err-message : goal.returns-in_err-message
returns-in_err-message g c =
    let so_far = c.loop-headers.invariant in
    let old = walk_over_store c.args.store.now c.args.walk.now in
    let mid = walk_over_store c.pass_withheld.new.store c.pass_withheld.new.walk in
    let new = walk_over_store c.next.new.self c.next.new.walk in
    let lasts = c.next.ensures.ends.remains_open in
    let fault = c.in_err-message.field-0.0 in
    let result = c.from_residual-in_err-message.result in
    let is = c.from_residual-in_err-message.ensures.1 in
    let before = lasts_then g.S.ArchiveState _ _ _ so_far.0 c.pass_withheld.ensures.lasts in
    let past = listed_past so_far.1 mid c.pass_withheld.ensures.lasts (map-append summary_of) refl c.in_ok-pass_withheld.ensures.passed in
    record {
      listed = listed_left past new lasts fault c.in_err-message.ensures.ends.fault_is_no_refusal result is (held_unread g.S.ArchiveState c.args.ask.now mid new fault c.in_err-message.ensures.given);
      fault = search rules;
      ends = walk_stops g.S.ArchiveState c.args.ask.now (Vec MessageSummary Global) old mid new before lasts (omega (arith, so_far.2, c.in_ok-pass_withheld.ensures.counted.0)) fault
          (next_cause g.S.ArchiveState c.args.ask.now old mid new past.gave before lasts fault c.in_err-message.ensures.caused) c.in_err-message.ensures.ends.refusals_counted result is;
      writes_nothing = search rules;
    }

pub returns-in_err-pass_withheld : goal.returns-in_err-pass_withheld
returns-in_err-pass_withheld g c =
    let so_far = c.loop-headers.invariant in
    let old = walk_over_store c.args.store.now c.args.walk.now in
    let mid = walk_over_store c.loop-headers.store c.loop-headers.walk in
    let new = walk_over_store c.pass_withheld.new.store c.pass_withheld.new.walk in
    let lasts = c.pass_withheld.ensures.lasts in
    let fault = c.in_err-pass_withheld.field-0.0 in
    let told = c.in_err-pass_withheld.ensures in
    record {
      listed = listed_left so_far.1 new lasts fault told.passed.fault_is_no_refusal c.from_residual.result c.from_residual.ensures.1
          (held_unpassed g.S.ArchiveState c.args.ask.now mid new c.args.reader.now fault told.passed);
      fault = search rules;
      ends = walk_stops g.S.ArchiveState c.args.ask.now (Vec MessageSummary Global) old mid new so_far.0 lasts so_far.2 fault
          (pass_cause g.S.ArchiveState c.args.ask.now old mid new so_far.1.gave so_far.0 lasts fault told.caused) told.counted c.from_residual.result c.from_residual.ensures.1;
      writes_nothing = search rules;
    }

pub returns-in_default-clause-listed : goal.returns-in_default-clause-listed
returns-in_default-clause-listed g c =
    let mid = walk_over_store c.pass_withheld.new.store c.pass_withheld.new.walk in
    listed_all (listed_past c.loop-headers.invariant.1 mid c.pass_withheld.ensures.lasts (map-append summary_of) refl c.in_ok-pass_withheld.ensures.passed)
    (walk_over_store c.next.new.self c.next.new.walk) c.next.ensures.ends.remains_open c.loop-headers.headers refl (rw c.in_default.is at c.in_ok-message.ensures.given)

pub returns-in-Err : goal.returns-in-Err
returns-in-Err g c =
    let so_far = c.loop-headers.invariant in
    let mid = walk_over_store c.pass_withheld.new.store c.pass_withheld.new.walk in
    let new = walk_over_store c.next.new.self c.next.new.walk in
    let last = walk_over_store c.count_refusal.new.self c.next.new.walk in
    let lasts = c.next.ensures.ends.remains_open in
    let before = lasts_then g.S.ArchiveState _ _ _ so_far.0 c.pass_withheld.ensures.lasts in
    record {
      listed = listed_no_more (listed_past so_far.1 mid c.pass_withheld.ensures.lasts (map-append summary_of) refl c.in_ok-pass_withheld.ensures.passed) new lasts c.in-Some.message last
          c.count_refusal.ensures.counted (rw c.in-Some.is at c.in_ok-message.ensures.given);
      fault = search rules;
      ends = walk_unheld g.S.ArchiveState c.args.ask.now (Vec MessageSummary Global) (walk_over_store c.args.store.now c.args.walk.now) mid new before lasts
          (omega (arith, so_far.2, c.in_ok-pass_withheld.ensures.counted.0)) last c.count_refusal.ensures.counted c.in_ok-message.ensures.ends.refusals_counted.0;
      writes_nothing = search rules;
    }
