use Rattle.std.proofs.Common.{◌≡◌, Ok, Err, map, inr, None, rules}
use Rattle.std.specs.Prelude.{Vec}
use Rattle.std.specs.declared.alloc.Global.{Global}
use Rattle.archive_model.specs.Messages.{archived_message}
use Rattle.archive_model.specs.declared.messages.Message.{Message}
use Rattle.archive_model.specs.Questions.{messages_in}
use Rattle.archive_results.specs.Access.{ReaderFacts, view_of}
use Rattle.archive_port.specs.Told.{HoldsTables, StaysOpenUnlessDiskFails}
use Rattle.archive_port.proofs.Joins.{goes_in_as}
use Rattle.archive_model.specs.Records.{Archive}
use Rattle.archive_desk.specs.Asking.{DeterminesVerdicts}
use Rattle.archive_desk.specs.Faults.{IsAskFault, refusal_reason, ask_reason}
use Rattle.archive_desk.specs.Causes.{IsReaderUnreadable, IsQuestionUnreadable}
use Rattle.archive_desk.proofs.AskLemmas.{marks_after, viewed}
use Rattle.archive_desk.proofs.CallLemmas.{by_reason, unchanged}
use Rattle.archive_desk.proofs.EndLemmas.{ends_after, stops_as}
use Rattle.archive_desk.proofs.viewing.view.Goals as goal

pub returns-in-Ok-keep_shown-clause-shown : goal.returns-in-Ok-keep_shown-clause-shown
returns-in-Ok-keep_shown-clause-shown g c =
    let ask = c.args.ask.now in
    let found = c.in-Ok.messages.items in
    let reader = c.in-Ok-find_marks.reader in
    let kept = c.in-Ok-keep_shown.kept.items in
    goes_in_as g.S.ArchiveState (HoldsTables g.S.ArchiveState) c.args.store.now c.find_marks.new.store
    (λ a b. (b ≡ a) × (ask_reason a ask ≡ None) × ((map (archived_message ask.list) found ≡ messages_in a ask.list) × DeterminesVerdicts a ask reader))
    (λ a b. (b ≡ a) × (ask_reason a ask ≡ None) × (map (archived_message ask.list) kept ≡ view_of a ask))
    (λ a b h. (h.0, h.1, viewed a ask reader found kept h.2.0 h.2.1 c.in-Ok-keep_shown.ensures))
    (marks_after g.S.ArchiveState ask c.args.store.now c.read_list.new.store c.find_marks.new.store (λ a. map (archived_message ask.list) found ≡ messages_in a ask.list) (Ok reader)
    c.in-Ok.ensures.held c.in-Ok-find_marks.ensures.found)

pub returns-in-Err-find_marks : goal.returns-in-Err-find_marks
returns-in-Err-find_marks g c =
    let ask = c.args.ask.now in
    let old = c.args.store.now in
    let mid = c.read_list.new.store in
    let new = c.find_marks.new.store in
    let fault = c.in-Err-find_marks.fault in
    let found = c.in-Err-find_marks.ensures.found in
    let Unread : Archive → Type 0 = λ a. IsReaderUnreadable a ask in
    let last : StaysOpenUnlessDiskFails g.S.ArchiveState mid new = by_reason (refusal_reason fault) found (λ it. it.0) (λ why it. it.0) in
    record {
      shown = marks_after g.S.ArchiveState ask old mid new (λ a. map (archived_message ask.list) c.in-Ok.messages.items ≡ messages_in a ask.list) (Err fault) c.in-Ok.ensures.held found;
      ends = ends_after g.S.ArchiveState old mid new (unchanged c.in-Ok.ensures.held) last c.in-Ok.ensures.ends.refusals_counted.0 IsAskFault {A = Vec Message Global} (Err fault) Unread
          (λ a. IsQuestionUnreadable a ask (messages_in a ask.list)) (λ a bad. inr bad)
          (stops_as g.S.ArchiveState mid new IsAskFault ReaderFacts (Vec Message Global) fault Unread Unread (λ a bad. bad) c.in-Err-find_marks.ensures.ends);
      writes_nothing = search rules;
    }
