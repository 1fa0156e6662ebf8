use Rattle.archive_desk.specs.Readable.{IsTokenHolderUnreadable}
use Rattle.archive_pages.proofs.CauseLemmas.{store_unfound}
use Rattle.archive_pages.proofs.finding.find_person.Goals as goal

pub returns-in-Err-clause-caused : goal.returns-in-Err-clause-caused
returns-in-Err-clause-caused g c =
    let token = c.args.token.now in (
      c.in-Err.ensures.ends.refusals_counted.0,
      store_unfound g.S.ArchiveState c.args.store.now c.person_of_token.new.self c.in-Err.field-0 (λ a. IsTokenHolderUnreadable a token)
          c.in-Err.ensures.ends.refusal_is_possible c.in-Err.ensures.ends.refusals_counted c.in-Err.ensures.ends.fault_has_cause,
    )
