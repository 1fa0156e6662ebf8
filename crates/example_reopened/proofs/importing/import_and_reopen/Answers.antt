use Rattle.std.proofs.Common.{Ok, Err}
use Rattle.sqlite.specs.Files.{over_files}
use Rattle.archive_model.specs.Records.{Archive}
use Rattle.archive_store.specs.State.{state_of}
use Rattle.archive_desk.specs.Importing.{IsImported}
use Rattle.archive_desk.proofs.ImportLemmas.{import_right}
use Rattle.example_reopened.proofs.ReopenLemmas.{leads_to, leads_on, leads_again}
use Rattle.example_reopened.proofs.ImportLemmas.{stopped}
use Rattle.example_reopened.proofs.importing.import_and_reopen.Goals as goal

pub returns-in-Err-import-clause-stopped : goal.returns-in-Err-import-clause-stopped
returns-in-Err-import-clause-stopped g c =
    stopped c.args.files c.in-Ok.store c.import.new.store c.args.list.now c.args.mbox.now c.in-Err-import.stop
    (leads_to c.args.files c.in-Ok.store c.in-Ok.ensures.opened)
    (import_right (state_of over_files) c.in-Ok.store c.import.new.store c.args.list.now c.args.mbox.now (Err c.in-Err-import.stop) c.in-Err-import.ensures.imports)

pub returns-in-Ok-reopen-clause-imported : goal.returns-in-Ok-reopen-clause-imported
returns-in-Ok-reopen-clause-imported g c =
    let R : Archive → Archive → Type 0 = λ a b. IsImported c.args.list.now c.args.mbox.now a b c.in-Ok-import.report in
    leads_again c.args.files c.import.new.store c.in-Ok-reopen.again R
    (leads_on c.args.files c.in-Ok.store c.import.new.store R
    (leads_to c.args.files c.in-Ok.store c.in-Ok.ensures.opened)
    (import_right (state_of over_files) c.in-Ok.store c.import.new.store c.args.list.now c.args.mbox.now (Ok c.in-Ok-import.report) c.in-Ok-import.ensures.imports))
    c.in-Ok-reopen.ensures.same
