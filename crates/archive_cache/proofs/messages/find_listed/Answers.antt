use Rattle.std.proofs.Common.{◌≡◌, Err, Option, option_map, rules, sym, subst}
use Rattle.archive_model.specs.Messages.{archived_message}
use Rattle.archive_model.specs.Questions.{message_of}
use Rattle.archive_model.specs.declared.messages.Message.{Message}
use Rattle.archive_port.specs.Told.{E15MeansDiskFailedOr as StoreCausedOr}
use Rattle.archive_desk.specs.Faults.{desk_error_of}
use Rattle.archive_desk.specs.Causes.{DeskFaultMeansDiskFailedOr, IsMessageUnreadable}
use Rattle.archive_desk.proofs.CauseLemmas.{store_cause}
use Rattle.archive_cache.specs.Coherence.{AnswersOfFoundList}
use Rattle.archive_cache.proofs.MarkLemmas.{unrefused_of_list}
use Rattle.archive_cache.proofs.messages.find_listed.Goals as goal

pub returns-in_err-find-clause-held : goal.returns-in_err-find-clause-held
returns-in_err-find-clause-held g c =
    let ask = c.args.ask.now in
    let old = c.args.store.now in
    let new = c.find.new.self in
    let fault = c.in_err-find.field-0.0 in
    let Says : _ = λ a (found : Option Message). option_map (archived_message ask.list) found ≡ message_of a ask.list c.args.key.now in
    let is : c.from_residual.result ≡ Err (desk_error_of fault) = search rules in
    subst (λ r. AnswersOfFoundList g.S.ArchiveState old new ask r Says) (sym is)
    (unrefused_of_list g.S.ArchiveState old new ask Says fault c.in_err-find.ensures.ends.remains_open c.in_err-find.ensures.answer)

pub returns-in_err-find-clause-ends : goal.returns-in_err-find-clause-ends
returns-in_err-find-clause-ends g c = record {
  fault_is_expected = search rules;
  fault_has_cause =
      let ask = c.args.ask.now in
      let old = c.args.store.now in
      let new = c.find.new.self in
      let key = c.args.key.now in
      let fault = c.in_err-find.field-0.0 in
      let list : c.ask.inside.list.now ≡ ask.list = search rules in
      let is : c.from_residual.result ≡ Err (desk_error_of fault) = search rules in
      subst (λ r. DeskFaultMeansDiskFailedOr g.S.ArchiveState old new r (λ a. IsMessageUnreadable a ask key)) (sym is)
      (store_cause g.S.ArchiveState old new fault (λ a. IsMessageUnreadable a ask key)
      (subst (λ l. StoreCausedOr g.S.ArchiveState old new {A = Option Message} (Err fault) (λ a. IsMessageUnreadable a (record ask { list = l }) key)) list
      c.in_err-find.ensures.ends.fault_has_cause));
  refusals_counted = search rules;
}
