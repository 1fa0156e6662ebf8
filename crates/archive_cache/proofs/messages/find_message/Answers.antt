use Rattle.std.proofs.Common.{◌≡◌, None}
use Rattle.archive_port.specs.Told.{HoldsTables}
use Rattle.archive_port.proofs.Joins.{goes_in_as}
use Rattle.archive_results.specs.Access.{asked_for_key, denied_by, spec_asked}
use Rattle.archive_desk.specs.Asking.{DeterminesVerdicts}
use Rattle.archive_desk.specs.Faults.{ask_reason}
use Rattle.archive_cache.specs.Coherence.{IsCacheCoherent}
use Rattle.archive_cache.proofs.MarkLemmas.{read_ends, read_then}
use Rattle.archive_cache.proofs.messages.find_message.Goals as goal

pub returns-in-Some-clause-asked : goal.returns-in-Some-clause-asked
returns-in-Some-clause-asked g c =
    let ask = c.args.ask.now in
    goes_in_as g.S.ArchiveState (HoldsTables g.S.ArchiveState) c.args.store.now c.resolve_reader.new.store
    (λ a b. (b ≡ a) × (ask_reason a ask ≡ None) × DeterminesVerdicts a ask c.in-Ok.reader)
    (λ a b. (b ≡ a) × (ask_reason a ask ≡ None) × (IsCacheCoherent a ask.rules ask.day c.args.kept.now → denied_by c.in-Some.rule.now ≡ asked_for_key a ask c.args.key.now))
    (λ a b h. (h.0, h.1, (λ are. c.in-Some.ensures a are.1 h.2))) c.in-Ok.ensures.found

pub returns-clause-asked : goal.returns-clause-asked
returns-clause-asked g c =
    read_then g.S.ArchiveState c.args.ask.now c.in-Ok.reader c.args.key.now c.args.store.now c.resolve_reader.new.store c.judge_message.new.store c.in-Ok.ensures.found
    c.args.kept.now c.judge_message.new.kept spec_asked c.judge_message.result c.judge_message.ensures.asked

pub returns-clause-ends : goal.returns-clause-ends
returns-clause-ends g c =
    read_ends g.S.ArchiveState c.args.ask.now c.in-Ok.reader c.args.key.now c.args.store.now c.resolve_reader.new.store c.judge_message.new.store c.in-Ok.ensures.found
    c.args.kept.now c.judge_message.new.kept spec_asked c.judge_message.result c.judge_message.ensures.asked c.in-Ok.ensures.ends.refusals_counted.0 c.in-Ok.ensures.ends.was_open
    c.judge_message.ensures.ends
