use Rattle.std.proofs.Common.{◌≡◌, ◌∙◌, Option, None, Some, option_map, rules, sym, subst}
use Rattle.archive_model.specs.Records.{Archive, Message}
use Rattle.archive_model.specs.Questions.{message_of}
use Rattle.archive_port.proofs.Joins.{goes_in_as}
use Rattle.archive_port.specs.Told.{HoldsTables}
use Rattle.archive_results.specs.Access.{absent, asked_of_message, denied_by, message_facts, spec_asked}
use Rattle.archive_desk.specs.Causes.{IsMessageUnreadable}
use Rattle.archive_desk.specs.Faults.{IsAskFault, missing_list_reason, refusal_reason}
use Rattle.archive_desk.proofs.CallLemmas.{calls_last}
use Rattle.archive_desk.proofs.EndLemmas.{ends_after}
use Rattle.archive_cache.specs.Coherence.{AreWithheldCoherent}
use Rattle.archive_cache.specs.Views.{CachesWithheldMessage}
use Rattle.archive_cache.proofs.MarkLemmas.{denied_there, facts_held, marked_on, none_held, read_behind, read_kept}
use Rattle.archive_cache.proofs.messages.judge_message.Goals as goal

pub returns-then-asks_author-clause-asked : goal.returns-then-asks_author-clause-asked
returns-then-asks_author-clause-asked g c =
    read_kept g.S.ArchiveState c.args.ask.now c.args.reader.now c.args.key.now spec_asked c.args.store.now c.read_message.new.store c.args.kept.now.withheld c.read_message.result
    c.read_message.ensures.asked

pub returns-in_default-clause-asked : goal.returns-in_default-clause-asked
returns-in_default-clause-asked g c =
    let ask = c.args.ask.now in
    let reader = c.args.reader.now in
    let held : Archive → Option Message = λ a. message_of a ask.list c.args.key.now in
    let kept = c.args.kept.now.withheld in
    goes_in_as g.S.ArchiveState (HoldsTables g.S.ArchiveState) c.args.store.now c.find_message_facts.new.store
    (λ a b. (b ≡ a) × (missing_list_reason a ask ≡ None) × (c.in-Ok.found ≡ option_map (message_facts None) (held a)))
    (λ a b. (b ≡ a) × ((absent ≡ asked_of_message ask reader (held a)) × (AreWithheldCoherent a kept → AreWithheldCoherent a kept)))
    (λ a b h. (h.0, (none_held ask reader (held a) (sym c.in_default.is ∙ h.2), (λ are. are)))) c.in-Ok.ensures.held

pub returns-in-Allowed-clause-asked : goal.returns-in-Allowed-clause-asked
returns-in-Allowed-clause-asked g c =
    let ask = c.args.ask.now in
    let reader = c.args.reader.now in
    let key = c.args.key.now in
    let old = c.args.store.now in
    let new = c.read_message-in-Allowed.new.store in
    let result = c.read_message-in-Allowed.result in
    read_kept g.S.ArchiveState ask reader key spec_asked old new c.args.kept.now.withheld result
    (read_behind g.S.ArchiveState ask reader key spec_asked old c.find_message_facts.new.store new c.in-Ok.found c.in-Ok.ensures.held result c.read_message-in-Allowed.ensures.asked)

pub returns-in-Denied-clause-asked : goal.returns-in-Denied-clause-asked
returns-in-Denied-clause-asked g c =
    let ask = c.args.ask.now in
    let reader = c.args.reader.now in
    let key = c.args.key.now in
    let rule = c.in-Denied.rule.now in
    let marks = c.in-Some.marks in
    let held : Archive → Option Message = λ a. message_of a ask.list key in
    let kept = c.args.kept.now.withheld in
    let later = c.put_marks.new.self.withheld in
    let list : c.ask.inside.list.now ≡ ask.list = search rules in
    goes_in_as g.S.ArchiveState (HoldsTables g.S.ArchiveState) c.args.store.now c.find_message_facts.new.store
    (λ a b. (b ≡ a) × (missing_list_reason a ask ≡ None) × (c.in-Ok.found ≡ option_map (message_facts None) (held a)))
    (λ a b. (b ≡ a) × ((denied_by rule ≡ asked_of_message ask reader (held a)) × (AreWithheldCoherent a kept → AreWithheldCoherent a later)))
    (λ a b h.
    let it = facts_held (held a) marks (sym c.in-Some.is ∙ h.2) in (
      h.0,
      (
        denied_there ask reader rule marks (c.asks_author.ensures.alike c.if-asks_author.false) c.in-Denied.ensures (held a) it.0 it.1 it.2,
        marked_on a kept later (record { list = ask.list; key = key; marks = marks })
            (subst (λ l. CachesWithheldMessage kept later (record { list = l; key = key; marks = marks })) list c.put_marks.ensures.kept) it,
      ),
    )) c.in-Ok.ensures.held

pub returns-in-Allowed-clause-ends : goal.returns-in-Allowed-clause-ends
returns-in-Allowed-clause-ends g c =
    let ask = c.args.ask.now in
    let key = c.args.key.now in
    let old = c.args.store.now in
    let mid = c.find_message_facts.new.store in
    let new = c.read_message-in-Allowed.new.store in
    let result = c.read_message-in-Allowed.result in
    let held = c.in-Ok.ensures.held in
    let last = calls_last g.S.ArchiveState (HoldsTables g.S.ArchiveState) mid new refusal_reason
    (λ a b answer. (b ≡ a) × (spec_asked answer ≡ asked_of_message ask c.args.reader.now (message_of a ask.list key)))
    (λ a b why. (b ≡ a) × (missing_list_reason a ask ≡ Some why)) (λ a b _. b ≡ a) result c.read_message-in-Allowed.ensures.asked in
    ends_after g.S.ArchiveState old mid new (held.0, λ returned tables. let there = held.1 returned tables in (there.0, there.1.0)) last c.in-Ok.ensures.ends.refusals_counted.0 IsAskFault result
    (λ a. IsMessageUnreadable a ask key) (λ a. IsMessageUnreadable a ask key) (λ a bad. bad) c.read_message-in-Allowed.ensures.ends
