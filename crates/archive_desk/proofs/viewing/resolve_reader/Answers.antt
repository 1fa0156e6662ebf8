use Rattle.std.proofs.Common.{◌≡◌, true, None, rules, ap, option_map}
use Rattle.archive_model.specs.Questions.{has_list, list_refusal}
use Rattle.archive_results.specs.Access.{ReaderFacts}
use Rattle.archive_port.specs.Told.{HoldsTables}
use Rattle.archive_model.specs.Records.{Archive}
use Rattle.archive_desk.specs.Asking.{DeterminesVerdicts, standing_reason}
use Rattle.archive_desk.specs.Faults.{IsAskFault, refusal_reason, reason_of_refusal}
use Rattle.archive_desk.specs.Causes.{IsReaderUnreadable}
use Rattle.archive_desk.proofs.AskLemmas.{reader_asked}
use Rattle.archive_desk.proofs.CallLemmas.{asks_last, unchanged}
use Rattle.archive_desk.proofs.EndLemmas.{ask_after}
use Rattle.archive_desk.proofs.viewing.resolve_reader.Goals as goal

pub returns-in-Ok : goal.returns-in-Ok
returns-in-Ok g c =
    let ask = c.args.ask.now in
    let old = c.args.store.now in
    let mid = c.check_list_exists.new.store in
    let new = c.find_marks.new.store in
    let Unread : Archive → Type 0 = λ a. IsReaderUnreadable a ask in
    let Says = λ (a : Archive) (reader : ReaderFacts). DeterminesVerdicts a ask reader in
    let list : c.ask.inside.list.now ≡ ask.list = search rules in
    let last = asks_last g.S.ArchiveState (HoldsTables g.S.ArchiveState) mid new refusal_reason (λ a. standing_reason a ask) Says c.find_marks.result c.find_marks.ensures.found in
    record {
      found = reader_asked g.S.ArchiveState ask old mid new (λ a. list_refusal a ask.list ≡ None) (λ a. has_list a ask.list ≡ true) Says Says (λ a there. ap (option_map reason_of_refusal) there)
          (λ a reader is it. it) c.find_marks.result (rw list at c.in-Ok.ensures.found) c.find_marks.ensures.found;
      ends = ask_after g.S.ArchiveState old mid new (unchanged c.in-Ok.ensures.found) last c.in-Ok.ensures.ends.refusals_counted.0 IsAskFault c.find_marks.result Unread Unread (λ a bad. bad)
          c.find_marks.ensures.ends c.in-Ok.ensures.was_open;
      writes_nothing = search rules;
    }
