use Rattle.std.proofs.Common.{◌≡◌, None, map}
use Rattle.archive_results.specs.Index.{summary_of}
use Rattle.archive_results.proofs.IndexLemmas.{lines_are}
use Rattle.archive_port.specs.Told.{HoldsTables}
use Rattle.archive_port.proofs.Joins.{goes_in_as}
use Rattle.archive_desk.specs.Faults.{ask_reason}
use Rattle.archive_desk.specs.Listing.{lines_shown, view_in}
use Rattle.archive_desk.proofs.listing.read_lines.Goals as goal

pub returns-in-Ok-columns_of-clause-held : goal.returns-in-Ok-columns_of-clause-held
returns-in-Ok-columns_of-clause-held g c =
    let ask = c.args.ask.now in
    let which = c.args.which.now in
    let headers = c.in-Ok.headers.items in
    let lines = c.in-Ok-columns_of.columns.lines.items in
    goes_in_as g.S.ArchiveState (HoldsTables g.S.ArchiveState) c.args.store.now c.read_headers.new.store
    (λ a b. (b ≡ a) × (ask_reason a ask ≡ None) × (headers ≡ map summary_of (view_in a ask which)))
    (λ a b. (b ≡ a) × (ask_reason a ask ≡ None) × (lines ≡ lines_shown (view_in a ask which)))
    (λ a b h. (h.0, h.1, lines_are (view_in a ask which) headers lines h.2 c.in-Ok-columns_of.ensures.lines)) c.in-Ok.ensures.held
