use Rattle.std.proofs.Common.{rules, ◌≡◌, refl, ap, subst, true, false, Ok, Err}
use Rattle.archive_model.specs.Keys.{is_key}
use Rattle.archive_results.specs.Access.{spec_asked}
use Rattle.archive_commands.specs.Getting.{no_message, denied, get_result_of}
use Rattle.archive_commands.specs.Working.{GetsMessage, HasGetErrorCause}
use Rattle.archive_commands.specs.declared.getting.GetError.TheVariants.{Fault, NoMessage, Denied}
use Rattle.archive_commands.proofs.GetLemmas.{gets_text, gets_none, gets_fault, gets_no_key}
use Rattle.archive_commands.proofs.getting.get.Goals as goal

pub returns-in-Ok-Served-clause-got : goal.returns-in-Ok-Served-clause-got
returns-in-Ok-Served-clause-got g c =
    let is : is_key c.in-Some.key ≡ true = search rules in
    let old = c.args.store.now in
    let new = c.message.new.store in
    let arm = c.in-Ok-Served in
    subst (λ k. GetsMessage g.S.ArchiveState old new c.args.ask.now k (Ok arm.text)) c.in-Some.ensures.some
    (gets_text g.S.ArchiveState old new c.args.ask.now c.in-Some.key is arm.field-0 arm.text (ap spec_asked arm.field-0-is) arm.ensures.asked)

pub returns-in-Ok-Denied-clause-got : goal.returns-in-Ok-Denied-clause-got
returns-in-Ok-Denied-clause-got g c =
    let is : is_key c.in-Some.key ≡ true = search rules in
    let old = c.args.store.now in
    let new = c.message.new.store in
    let arm = c.in-Ok-Denied in
    subst (λ k. GetsMessage g.S.ArchiveState old new c.args.ask.now k (Err (Denied arm.rule))) c.in-Some.ensures.some
    (gets_none g.S.ArchiveState old new c.args.ask.now c.in-Some.key is arm.field-0 (Denied arm.rule) (denied arm.rule.now)
    (ap (λ x. get_result_of (spec_asked x)) arm.field-0-is) refl arm.ensures.asked)

pub returns-in-Ok-Absent-clause-got : goal.returns-in-Ok-Absent-clause-got
returns-in-Ok-Absent-clause-got g c =
    let is : is_key c.in-Some.key ≡ true = search rules in
    let old = c.args.store.now in
    let new = c.message.new.store in
    let arm = c.in-Ok-Absent in
    subst (λ k. GetsMessage g.S.ArchiveState old new c.args.ask.now k (Err NoMessage)) c.in-Some.ensures.some
    (gets_none g.S.ArchiveState old new c.args.ask.now c.in-Some.key is arm.field-0 NoMessage no_message (ap (λ x. get_result_of (spec_asked x)) arm.field-0-is) refl arm.ensures.asked)

pub returns-in-Err-clause-got : goal.returns-in-Err-clause-got
returns-in-Err-clause-got g c =
    let is : is_key c.in-Some.key ≡ true = search rules in
    let old = c.args.store.now in
    let new = c.message.new.store in
    subst (λ k. GetsMessage g.S.ArchiveState old new c.args.ask.now k (Err (Fault c.in-Err.fault))) c.in-Some.ensures.some
    (gets_fault g.S.ArchiveState old new c.args.ask.now c.in-Some.key is c.in-Err.fault c.in-Err.ensures.asked)

pub returns-in_default-clause-got : goal.returns-in_default-clause-got
returns-in_default-clause-got g c =
    let is : is_key c.args.key.now ≡ false = search rules in
    let store = c.args.store.now in
    gets_no_key g.S.ArchiveState store store c.args.ask.now c.args.key.now store is

pub returns-in-Ok-Served-clause-ends : goal.returns-in-Ok-Served-clause-ends
returns-in-Ok-Served-clause-ends g c = record { fault_has_cause = tt; refusals_counted = (c.in-Ok-Served.ensures.ends.refusals_counted.0, tt) }

pub returns-in-Ok-Denied-clause-ends : goal.returns-in-Ok-Denied-clause-ends
returns-in-Ok-Denied-clause-ends g c =
    record { fault_has_cause = λ bad. absurd bad; refusals_counted = (c.in-Ok-Denied.ensures.ends.refusals_counted.0, (λ bad. absurd bad)) }

pub returns-in-Ok-Absent-clause-ends : goal.returns-in-Ok-Absent-clause-ends
returns-in-Ok-Absent-clause-ends g c =
    record { fault_has_cause = λ bad. absurd bad; refusals_counted = (c.in-Ok-Absent.ensures.ends.refusals_counted.0, (λ bad. absurd bad)) }

pub returns-in-Err-clause-ends : goal.returns-in-Err-clause-ends
returns-in-Err-clause-ends g c =
    let old = c.args.store.now in
    let new = c.message.new.store in
    let ask = c.args.ask.now in
    record {
      fault_has_cause = λ broken. subst (λ k. HasGetErrorCause g.S.ArchiveState old new ask k) c.in-Some.ensures.some (c.in-Err.ensures.ends.fault_has_cause broken);
      refusals_counted = c.in-Err.ensures.ends.refusals_counted;
    }
