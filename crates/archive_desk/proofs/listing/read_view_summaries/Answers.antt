use Rattle.std.proofs.Common.{Bool, Ok, Err, rules}
use Rattle.archive_model.specs.Questions.{messages_in}
use Rattle.archive_port.specs.Told.{StaysOpenUnlessDiskFails}
use Rattle.archive_model.specs.Records.{Archive}
use Rattle.archive_desk.specs.Faults.{IsAskFault, refusal_reason}
use Rattle.archive_desk.specs.Causes.{IsQuestionUnreadable}
use Rattle.archive_desk.proofs.CallLemmas.{by_reason, unchanged}
use Rattle.archive_desk.proofs.ListLemmas.{index_after}
use Rattle.archive_desk.proofs.EndLemmas.{ask_after, stops_as}
use Rattle.archive_desk.proofs.listing.read_view_summaries.Goals as goal

pub returns-in-Ok-find_merge : goal.returns-in-Ok-find_merge
returns-in-Ok-find_merge g c =
    let ask = c.args.ask.now in
    let old = c.args.store.now in
    let mid = c.read_headers.new.store in
    let new = c.find_merge.new.store in
    let found = c.in-Ok-find_merge.ensures.found in
    let Unread : Archive → Type 0 = λ a. IsQuestionUnreadable a ask (messages_in a ask.list) in
    record {
      held = index_after g.S.ArchiveState ask old mid new c.in-Ok.headers.items (Ok c.in-Ok-find_merge.merge) c.in-Ok.ensures.held found;
      ends = ask_after g.S.ArchiveState old mid new (unchanged c.in-Ok.ensures.held) found.0 c.in-Ok.ensures.ends.refusals_counted.0 IsAskFault (Ok _) Unread Unread (λ a bad. bad)
          (record { fault_is_expected = tt; fault_has_cause = tt; refusals_counted = (c.in-Ok-find_merge.ensures.ends.refusals_counted.0, tt) }) c.in-Ok.ensures.ends.was_open;
      writes_nothing = search rules;
    }

pub returns-in-Err-find_merge : goal.returns-in-Err-find_merge
returns-in-Err-find_merge g c =
    let ask = c.args.ask.now in
    let old = c.args.store.now in
    let mid = c.read_headers.new.store in
    let new = c.find_merge.new.store in
    let fault = c.in-Err-find_merge.fault in
    let found = c.in-Err-find_merge.ensures.found in
    let last : StaysOpenUnlessDiskFails g.S.ArchiveState mid new = by_reason (refusal_reason fault) found (λ it. it.0) (λ why it. it.0) in
    record {
      held = index_after g.S.ArchiveState ask old mid new c.in-Ok.headers.items (Err fault) c.in-Ok.ensures.held found;
      ends = ask_after g.S.ArchiveState old mid new (unchanged c.in-Ok.ensures.held) last c.in-Ok.ensures.ends.refusals_counted.0 IsAskFault (Err fault) (λ _. ⊥)
          (λ a. IsQuestionUnreadable a ask (messages_in a ask.list)) (λ a bad. absurd bad)
          (stops_as g.S.ArchiveState mid new IsAskFault Bool _ fault (λ _. ⊥) (λ _. ⊥) (λ a bad. bad) c.in-Err-find_merge.ensures.ends) c.in-Ok.ensures.ends.was_open;
      writes_nothing = search rules;
    }
