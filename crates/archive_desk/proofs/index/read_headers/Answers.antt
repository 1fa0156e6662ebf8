use Rattle.std.proofs.Common.{◌≡◌, List, filter, map, rules}
use Rattle.std.specs.Prelude.{Vec}
use Rattle.std.specs.declared.alloc.Global.{Global}
use Rattle.archive_model.specs.Records.{Archive, Message as Remembered}
use Rattle.archive_results.specs.Access.{is_shown, reader_facts}
use Rattle.archive_results.specs.Index.{MessageSummary, AreSummariesOf, summary_of}
use Rattle.archive_port.specs.Walking.{walk_over_store, selected_messages}
use Rattle.archive_desk.specs.Asking.{DeterminesVerdicts}
use Rattle.archive_desk.specs.Causes.{IsQuestionUnreadable}
use Rattle.archive_desk.proofs.EndLemmas.{unbegun_ends, walk_ends}
use Rattle.archive_desk.proofs.IndexLemmas.{walk_ended}
use Rattle.archive_desk.proofs.AskLemmas.{declined_after}
use Rattle.archive_desk.proofs.CallLemmas.{unchanged}
use Rattle.archive_desk.proofs.index.read_headers.Goals as goal

pub returns : goal.returns
returns g c =
    let ask = c.args.ask.now in
    let old = c.args.store.now in
    let mid = c.resolve_reader.new.store in
    let last = c.each_selected.new.self in
    let fault = c.in-Err-each_selected.fault in
    let found = c.in-Ok.ensures.found in
    let which : Archive → List Remembered = λ a. selected_messages a ask.list c.args.which.now in
    let list : c.ask.inside.list.now ≡ ask.list = search rules in
    let refused = rw list at c.in-Err-each_selected.ensures.refused in rw c.from.ensures (record {
      held = declined_after g.S.ArchiveState ask old mid last (λ a. DeterminesVerdicts a ask c.in-Ok.reader)
          (λ a (headers : Vec MessageSummary Global). AreSummariesOf (filter (is_shown ask (reader_facts a ask)) (which a)) headers.items) fault found refused.0;
      ends = unbegun_ends g.S.ArchiveState old mid last (unchanged found) c.in-Ok.ensures.ends.refusals_counted.0 c.in-Ok.ensures.ends.was_open (Vec MessageSummary Global) ask.list fault
          (λ a. IsQuestionUnreadable a ask (which a)) refused c.in-Err-each_selected.ensures.kind;
      writes_nothing = search rules;
    })

pub returns-in-Ok-each_selected : goal.returns-in-Ok-each_selected
returns-in-Ok-each_selected g c =
    let ask = c.args.ask.now in
    let old = c.args.store.now in
    let mid = c.resolve_reader.new.store in
    let walk = walk_over_store c.each_selected.new.self c.in-Ok-each_selected.walk in
    let new = walk_over_store c.walk_headers.new.store c.walk_headers.new.walk in
    let which : Archive → List Remembered = λ a. selected_messages a ask.list c.args.which.now in
    let found = c.in-Ok.ensures.found in
    let list : c.ask.inside.list.now ≡ ask.list = search rules in
    let begun = rw list at c.in-Ok-each_selected.ensures.begun in record {
      held = walk_ended (map summary_of) g.S.ArchiveState ask which old mid walk new c.in-Ok.reader found begun c.walk_headers.ensures.ends.remains_open c.walk_headers.result
          c.walk_headers.ensures.fault c.walk_headers.ensures.listed;
      ends = walk_ends g.S.ArchiveState ask which old mid walk new (unchanged found) begun c.in-Ok.ensures.ends.refusals_counted.0 c.in-Ok.ensures.ends.was_open c.walk_headers.result
          c.walk_headers.ensures.fault c.walk_headers.ensures.ends;
      writes_nothing = search rules;
    }
