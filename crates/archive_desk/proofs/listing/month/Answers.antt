use Rattle.std.proofs.Common.{◌≡◌, ◌∙◌, pos, map}
use Rattle.std.specs.Prelude.{Vec}
use Rattle.std.specs.declared.alloc.Global.{Global}
use Rattle.archive_results.specs.Access.{view_of}
use Rattle.archive_results.specs.Filed.{indexed_month_lines}
use Rattle.archive_results.specs.Results.{month_lines}
use Rattle.archive_results.specs.Shown.{Line, shown_message}
use Rattle.archive_results.proofs.FiledLemmas.{month_is_filed}
use Rattle.archive_desk.specs.Faults.{ask_reason, refusal_reason}
use Rattle.archive_desk.proofs.CallLemmas.{asks_right}
use Rattle.archive_desk.proofs.listing.month.Goals as goal

pub returns-clause-listed : goal.returns-clause-listed
returns-clause-listed g c =
    let ask = c.args.ask.now in
    asks_right g.S.ArchiveState c.args.store.now c.read_lines.new.store refusal_reason (λ a. ask_reason a ask)
    (λ a (lines : Vec Line Global). lines.items ≡ indexed_month_lines a ask (pos c.args.month))
    (λ a (lines : Vec Line Global). lines.items ≡ month_lines c.args.month (map shown_message (view_of a ask)))
    (λ a (lines : Vec Line Global) right is. is ∙ month_is_filed a ask c.args.month right) c.read_lines.result c.read_lines.ensures.held
