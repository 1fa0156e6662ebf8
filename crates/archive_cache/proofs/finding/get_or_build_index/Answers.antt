use Rattle.std.proofs.Common.{ℕ, inr}
use Rattle.archive_model.specs.Questions.{messages_in}
use Rattle.archive_results.specs.Access.{ReaderFacts}
use Rattle.archive_desk.specs.Causes.{IsReaderUnreadable, IsQuestionUnreadable}
use Rattle.archive_desk.specs.Faults.{IsAskFault}
use Rattle.archive_desk.proofs.EndLemmas.{ask_stops_as}
use Rattle.archive_cache.specs.Parts.{model_part}
use Rattle.archive_cache.proofs.FindLemmas.{ends_then, found_then, keeps_then}
use Rattle.archive_cache.proofs.finding.get_or_build_index.Goals as goal

pub returns-in-Ok-clause-found : goal.returns-in-Ok-clause-found
returns-in-Ok-clause-found g c =
    found_then g.S.ArchiveState c.args.ask.now c.in-Ok.reader (model_part c.args.part.now) c.args.store.now c.resolve_reader.new.store c.find_part.new.store c.in-Ok.ensures.found
    c.args.kept.now c.find_part.new.kept c.find_part.result c.find_part.ensures.finds

pub returns-in-Ok-clause-keeps : goal.returns-in-Ok-clause-keeps
returns-in-Ok-clause-keeps g c =
    keeps_then g.S.ArchiveState c.args.ask.now c.in-Ok.reader (model_part c.args.part.now) c.args.store.now c.resolve_reader.new.store c.find_part.new.store c.in-Ok.ensures.found
    c.args.kept.now c.find_part.new.kept c.find_part.result c.find_part.ensures.finds c.in-Ok.ensures.ends.was_open

pub returns-in-Ok-clause-ends : goal.returns-in-Ok-clause-ends
returns-in-Ok-clause-ends g c =
    ends_then g.S.ArchiveState c.args.ask.now c.in-Ok.reader (model_part c.args.part.now) c.args.store.now c.resolve_reader.new.store c.find_part.new.store c.in-Ok.ensures.found
    c.args.kept.now c.find_part.new.kept c.find_part.result c.find_part.ensures.finds c.in-Ok.ensures.ends.refusals_counted.0 c.in-Ok.ensures.ends.was_open c.find_part.ensures.ends

pub returns-in-Err-clause-ends : goal.returns-in-Err-clause-ends
returns-in-Err-clause-ends g c =
    let ask = c.args.ask.now in
    ask_stops_as g.S.ArchiveState c.args.store.now c.resolve_reader.new.store IsAskFault ReaderFacts ℕ c.in-Err.fault (λ a. IsReaderUnreadable a ask)
    (λ a. IsQuestionUnreadable a ask (messages_in a ask.list)) (λ a bad. inr bad) c.in-Err.ensures.ends
