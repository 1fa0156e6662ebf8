use Rattle.std.proofs.Common.{◌≡◌, map, rules, Ok, Err}
use Rattle.archive_results.specs.Access.{view_of}
use Rattle.archive_results.specs.Results.{month_lines}
use Rattle.archive_results.specs.Shown.{shown_message}
use Rattle.archive_desk.specs.Exporting.{IsExportRefused, exported_text, export_stop_reason as export_reason}
use Rattle.archive_desk.specs.Faults.{ask_reason, refusal_reason}
use Rattle.archive_desk.specs.Importing.{IsBrokenImport, import_stop_reason as import_reason}
use Rattle.archive_desk.proofs.ImportLemmas.{import_right}
use Rattle.desk_tests.proofs.ChainLemmas.{export_right, into_list, import_stops, month_stops, export_stops, left, lasts_on, part_of, all_told}
use Rattle.desk_tests.proofs.chain.import_and_ask.Goals as goal

pub returns-in-Err-clause-chain : goal.returns-in-Err-clause-chain
returns-in-Err-clause-chain g c =
    let ask = c.args.ask.now in
    let text = c.args.mbox.now in
    let told = g.W.Sink.told c.args.out.now in
    let is : c.ask.inside.list.now ≡ ask.list = search rules in
    import_stops g.S.ArchiveState ask text c.args.store.now c.import.new.store told told c.ask.inside.list.now
    (λ list a b. IsBrokenImport list text a b c.in-Err.stop.done c.in-Err.stop.fault) (import_reason c.in-Err.stop) is
    (import_right g.S.ArchiveState c.args.store.now c.import.new.store c.ask.inside.list.now text (Err c.in-Err.stop) c.in-Err.ensures.imports)

pub returns-in-Err-month-clause-chain : goal.returns-in-Err-month-clause-chain
returns-in-Err-month-clause-chain g c =
    let ask = c.args.ask.now in
    let text = c.args.mbox.now in
    let told = g.W.Sink.told c.args.out.now in
    let is : c.ask.inside.list.now ≡ ask.list = search rules in
    let imported = into_list g.S.ArchiveState ask text c.args.store.now c.import.new.store c.ask.inside.list.now c.in-Ok.report is
    (import_right g.S.ArchiveState c.args.store.now c.import.new.store c.ask.inside.list.now text (Ok c.in-Ok.report) c.in-Ok.ensures.imports) in
    month_stops g.S.ArchiveState ask text c.args.store.now c.import.new.store c.in-Ok.report imported
    c.month.new.store told told (refusal_reason c.in-Err-month.fault) c.in-Err-month.ensures.listed

pub returns-in-Ok-export-clause-chain : goal.returns-in-Ok-export-clause-chain
returns-in-Ok-export-clause-chain g c =
    let ask = c.args.ask.now in
    let text = c.args.mbox.now in
    let is : c.ask.inside.list.now ≡ ask.list = search rules in
    let imported = into_list g.S.ArchiveState ask text c.args.store.now c.import.new.store c.ask.inside.list.now c.in-Ok.report is
    (import_right g.S.ArchiveState c.args.store.now c.import.new.store c.ask.inside.list.now text (Ok c.in-Ok.report) c.in-Ok.ensures.imports) in
    all_told g.S.ArchiveState ask text c.args.asked (g.W.Sink.told c.args.out.now) (g.W.Sink.told c.export.new.out)
    (record { report = c.in-Ok.report; lines = c.in-Ok-month.lines; count = c.in-Ok-export.count })
    c.args.store.now c.import.new.store c.month.new.store c.export.new.store
    imported c.in-Ok-month.ensures.listed
    (export_right g.S.ArchiveState c.month.new.store c.export.new.store ask (g.W.Sink.told c.args.out.now) (g.W.Sink.told c.export.new.out) (Ok c.in-Ok-export.count) c.in-Ok-export.ensures.exported)

pub returns-in-Err-export-clause-chain : goal.returns-in-Err-export-clause-chain
returns-in-Err-export-clause-chain g c =
    let ask = c.args.ask.now in
    let text = c.args.mbox.now in
    let is : c.ask.inside.list.now ≡ ask.list = search rules in
    let imported = into_list g.S.ArchiveState ask text c.args.store.now c.import.new.store c.ask.inside.list.now c.in-Ok.report is
    (import_right g.S.ArchiveState c.args.store.now c.import.new.store c.ask.inside.list.now text (Ok c.in-Ok.report) c.in-Ok.ensures.imports) in
    export_stops g.S.ArchiveState ask text c.args.store.now c.import.new.store c.in-Ok.report imported
    c.month.new.store (λ b. c.in-Ok-month.lines.items ≡ month_lines c.args.asked (map shown_message (view_of b ask))) c.in-Ok-month.ensures.listed
    c.export.new.store (g.W.Sink.told c.args.out.now) (g.W.Sink.told c.export.new.out) (export_reason c.in-Err-export.stop)
    (export_right g.S.ArchiveState c.month.new.store c.export.new.store ask (g.W.Sink.told c.args.out.now) (g.W.Sink.told c.export.new.out) (Err c.in-Err-export.stop) c.in-Err-export.ensures.exported)

pub returns-in-Err-export-clause-part : goal.returns-in-Err-export-clause-part
returns-in-Err-export-clause-part g c =
    let ask = c.args.ask.now in
    let text = c.args.mbox.now in
    let before = g.W.Sink.told c.args.out.now in
    let after = g.W.Sink.told c.export.new.out in
    let is : c.ask.inside.list.now ≡ ask.list = search rules in
    let imported = into_list g.S.ArchiveState ask text c.args.store.now c.import.new.store c.ask.inside.list.now c.in-Ok.report is
    (import_right g.S.ArchiveState c.args.store.now c.import.new.store c.ask.inside.list.now text (Ok c.in-Ok.report) c.in-Ok.ensures.imports) in
    part_of g.S.ArchiveState ask text c.args.store.now c.month.new.store c.export.new.store
    (left g.S.ArchiveState ask text c.args.store.now c.import.new.store c.in-Ok.report imported
    c.month.new.store (λ b. c.in-Ok-month.lines.items ≡ month_lines c.args.asked (map shown_message (view_of b ask))) c.in-Ok-month.ensures.listed)
    (lasts_on g.S.ArchiveState c.month.new.store c.export.new.store (λ b c. c ≡ b)
    (λ x y why. (y ≡ x) × IsExportRefused (ask_reason x ask) before after (exported_text x ask) why.0 why.1)
    (export_reason c.in-Err-export.stop)
    (export_right g.S.ArchiveState c.month.new.store c.export.new.store ask before after (Err c.in-Err-export.stop) c.in-Err-export.ensures.exported))
    before after c.in-Err-export.stop.written c.in-Err-export.ensures.stopped.exports_part
