use Rattle.archive_desk.specs.Readable.{AreListsUnreadable}
use Rattle.archive_pages.proofs.CauseLemmas.{store_unfound}
use Rattle.archive_pages.proofs.finding.find_lists.Goals as goal

pub returns-in-Err-clause-why : goal.returns-in-Err-clause-why
returns-in-Err-clause-why g c = record {
  fault_has_cause = (
    c.in-Err.ensures.ends.refusals_counted.0,
    store_unfound g.S.ArchiveState c.args.store.now c.lists.new.self c.in-Err.field-0 AreListsUnreadable
        c.in-Err.ensures.ends.refusal_is_possible c.in-Err.ensures.ends.refusals_counted c.in-Err.ensures.ends.fault_has_cause,
  );
  status_is_not_503 = tt;
}
