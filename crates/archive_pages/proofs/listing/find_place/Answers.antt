use Rattle.archive_pages.specs.Causes.{IsListDataUnreadable}
use Rattle.archive_pages.proofs.CauseLemmas.{desk_unfound}
use Rattle.archive_pages.proofs.listing.find_place.Goals as goal

pub returns-in_default-clause-caused : goal.returns-in_default-clause-caused
returns-in_default-clause-caused g c =
    let ask = c.args.ask.now in (
      c.in-Err.ensures.ends.refusals_counted.0,
      desk_unfound g.S.ArchiveState c.args.store.now c.get_or_build_index.new.store ask (IsListDataUnreadable ask)
          c.in-Err.fault c.in_default.not-NoList c.in-Err.ensures.ends.fault_is_expected c.in-Err.ensures.ends.refusals_counted.1 c.in-Err.ensures.ends.fault_has_cause c.in-Err.ensures.found,
    )
