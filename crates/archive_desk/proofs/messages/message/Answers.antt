use Rattle.std.proofs.Common.{◌≡◌, ◌⊎◌, inr, None, ap, ◌∙◌, rules}
use Rattle.std.specs.Prelude.{option_map}
use Rattle.archive_model.specs.Messages.{archived_message}
use Rattle.archive_model.specs.Questions.{message_of}
use Rattle.archive_results.specs.Access.{asked_for_key, asked_of_message, reader_facts, spec_asked}
use Rattle.archive_port.specs.Told.{HoldsTables}
use Rattle.archive_results.specs.declared.asking.Asked.{Asked}
use Rattle.archive_model.specs.Records.{Archive}
use Rattle.archive_desk.specs.Asking.{standing_reason}
use Rattle.archive_desk.specs.Faults.{IsAskFault, refusal_reason, missing_list_reason}
use Rattle.archive_desk.specs.Causes.{IsMessageUnreadable, IsReaderUnreadable}
use Rattle.archive_desk.proofs.AskLemmas.{reader_asked}
use Rattle.archive_desk.proofs.CallLemmas.{asks_last, unchanged}
use Rattle.archive_desk.proofs.EndLemmas.{ask_after}
use Rattle.archive_desk.proofs.messages.message.Goals as goal

pub returns-in-Ok : goal.returns-in-Ok
returns-in-Ok g c =
    let ask = c.args.ask.now in
    let key = c.args.key.now in
    let old = c.args.store.now in
    let mid = c.find_row.new.store in
    let new = c.answer_on.new.store in
    let held = option_map (archived_message ask.list) c.in-Ok.held in
    let Says = λ (a : Archive) (answer : Asked). spec_asked answer ≡ asked_of_message ask (reader_facts a ask) held in
    let last = asks_last g.S.ArchiveState (HoldsTables g.S.ArchiveState) mid new refusal_reason (λ a. standing_reason a ask) Says c.answer_on.result c.answer_on.ensures.asked in
    record {
      asked = reader_asked g.S.ArchiveState ask old mid new (λ a. missing_list_reason a ask ≡ None) (λ a. held ≡ message_of a ask.list key) Says
          (λ a answer. spec_asked answer ≡ asked_for_key a ask key) (λ a there. there) (λ a answer is it. it ∙ ap (asked_of_message ask (reader_facts a ask)) is)
          c.answer_on.result c.in-Ok.ensures.held c.answer_on.ensures.asked;
      ends = ask_after g.S.ArchiveState old mid new (unchanged c.in-Ok.ensures.held) last c.in-Ok.ensures.ends.refusals_counted.0 IsAskFault c.answer_on.result (λ a. IsReaderUnreadable a ask)
          (λ a. IsMessageUnreadable a ask key ⊎ IsReaderUnreadable a ask) (λ a bad. inr bad) c.answer_on.ensures.ends c.in-Ok.ensures.ends.was_open;
      writes_nothing = search rules;
    }
