use Rattle.std.proofs.Common.{List, ℕ, subst}
use Rattle.archive_pages.specs.Causes.{Has503Cause, IsMessageDataUnreadable, IsUnreadableOrReaderUnknown}
use Rattle.archive_pages.proofs.CauseLemmas.{desk_unfound}
use Rattle.archive_pages.proofs.finding.find_message.Goals as goal

pub returns-in_default-fault-clause-why : goal.returns-in_default-fault-clause-why
returns-in_default-fault-clause-why g c =
    let ask = c.args.ask.now in
    let old = c.args.store.now in
    let new = c.find_message.new.store in record {
      fault_has_cause = (
        c.in-Err.ensures.ends.refusals_counted.0,
        subst (λ (key : List ℕ). Has503Cause g.S.ArchiveState old new (IsUnreadableOrReaderUnknown (IsMessageDataUnreadable ask key) ask.reader)) c.in-Some.ensures.some
            (desk_unfound g.S.ArchiveState old new ask (IsMessageDataUnreadable ask c.in-Some.key) c.in-Err.fault c.in_default-fault.not-NoList c.in-Err.ensures.ends.fault_is_expected
            c.in-Err.ensures.ends.refusals_counted.1 c.in-Err.ensures.ends.fault_has_cause c.in-Err.ensures.asked),
      );
      status_is_not_503 = tt;
    }
