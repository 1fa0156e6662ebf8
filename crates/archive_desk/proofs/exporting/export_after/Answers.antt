use Rattle.std.proofs.Common.{◌≡◌, ◌++◌, rules}
use Rattle.std.specs.Prelude.{⊤}
use Rattle.archive_port.specs.Walking.{walk_over_store}
use Rattle.archive_model.specs.Questions.{messages_in}
use Rattle.archive_results.specs.Access.{ReaderFacts}
use Rattle.archive_model.specs.Records.{Archive}
use Rattle.archive_desk.specs.Asking.{DeterminesVerdicts}
use Rattle.archive_desk.specs.Causes.{IsQuestionUnreadable}
use Rattle.archive_desk.specs.Exporting.{exported_text}
use Rattle.archive_desk.specs.Faults.{desk_error_of}
use Rattle.archive_desk.proofs.AskLemmas.{is_list_fault, declined_after}
use Rattle.archive_desk.proofs.EndLemmas.{export_ends, export_stops, unbegun_ends}
use Rattle.archive_desk.proofs.WalkExports.{leaves_none, not_viewed, tells_none, walk_ended, walk_leaves, walk_tells}
use Rattle.archive_desk.proofs.CallLemmas.{unchanged}
use Rattle.archive_desk.proofs.exporting.export_after.Goals as goal

pub returns : goal.returns
returns g c =
    let ask = c.args.ask.now in
    let old = c.args.store.now in
    let mid = c.resolve_reader.new.store in
    let last = c.each_selected.new.self in
    let told = g.W.Sink.told c.args.out.now in
    let failures = g.W.Sink.failures c.args.out.now in
    let fault = c.in-Err-each_selected.fault in
    let text = λ (a : Archive). c.args.head.now ++ exported_text a ask in
    let Unread : Archive → Type 0 = λ a. IsQuestionUnreadable a ask (messages_in a ask.list) in
    let list : c.ask.inside.list.now ≡ ask.list = search rules in
    let refused = rw list at c.in-Err-each_selected.ensures.refused in rw c.from.ensures (record {
      exported = not_viewed g.S.ArchiveState old last ask told told text (desk_error_of fault)
          (declined_after g.S.ArchiveState ask old mid last {A = Unit {0}} (λ a. DeterminesVerdicts a ask c.in-Ok.reader) (λ a answer. ⊤) fault c.in-Ok.ensures.found refused.0);
      stopped = leaves_none g.S.ArchiveState old last ask told text (desk_error_of fault);
      writer = tells_none told failures (desk_error_of fault) (is_list_fault fault c.in-Err-each_selected.ensures.kind);
      ends = export_stops g.S.ArchiveState ask old last ReaderFacts (desk_error_of fault) Unread (λ a bad. bad)
          (unbegun_ends g.S.ArchiveState old mid last (unchanged c.in-Ok.ensures.found) c.in-Ok.ensures.ends.refusals_counted.0 c.in-Ok.ensures.ends.was_open ReaderFacts ask.list fault Unread refused
          c.in-Err-each_selected.ensures.kind);
      writes_nothing = search rules;
    })

pub returns-in-Ok-each_selected : goal.returns-in-Ok-each_selected
returns-in-Ok-each_selected g c =
    let ask = c.args.ask.now in
    let old = c.args.store.now in
    let mid = c.resolve_reader.new.store in
    let walk = walk_over_store c.each_selected.new.self c.in-Ok-each_selected.walk in
    let new = walk_over_store c.write_walk.new.store c.write_walk.new.walk in
    let told = g.W.Sink.told c.args.out.now in
    let tells = g.W.Sink.told c.write_walk.new.out in
    let failed = g.W.Sink.failures c.args.out.now in
    let fails = g.W.Sink.failures c.write_walk.new.out in
    let result = c.write_walk.result in
    let found = c.in-Ok.ensures.found in
    let lasts = c.write_walk.ensures.ends.remains_open in
    let list : c.ask.inside.list.now ≡ ask.list = search rules in
    let begun = rw list at c.in-Ok-each_selected.ensures.begun in record {
      exported = walk_ended g.S.ArchiveState old mid walk new ask c.in-Ok.reader c.args.head.now told tells found begun lasts failed fails result c.write_walk.ensures.writer.cause
          c.write_walk.ensures.written;
      stopped = walk_leaves g.S.ArchiveState old mid walk new ask c.in-Ok.reader c.args.head.now told tells found begun lasts result c.in-Ok.ensures.ends.was_open c.write_walk.ensures.written;
      writer = walk_tells told tells failed fails result c.write_walk.ensures.writer;
      ends = export_ends g.S.ArchiveState ask old mid walk new (unchanged found) begun c.in-Ok.ensures.ends.refusals_counted.0 c.in-Ok.ensures.ends.was_open result c.write_walk.ensures.ends;
      writes_nothing = search rules;
    }
