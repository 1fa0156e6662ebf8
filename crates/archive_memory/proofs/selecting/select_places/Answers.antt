use Rattle.std.proofs.Common.{map, sym, subst}
use Rattle.archive_memory.specs.Entries.{indexed_in, message_in}
use Rattle.archive_memory.specs.Selecting.{ShowMessages, selected_in_order}
use Rattle.archive_memory.proofs.SelectLemmas.{show_in_order}
use Rattle.archive_memory.proofs.selecting.select_places.Goals as goal

pub returns : goal.returns
returns c =
    let messages = map message_in c.args.messages.now in
    let fs = map indexed_in c.args.messages.now in
    subst (λ ps. ShowMessages messages ps (selected_in_order c.args.list.now c.args.which.now fs)) (sym c.in_ok-put_in_order.ensures)
    (show_in_order messages c.args.list.now c.args.which.now c.in_ok-places.places.items fs c.in_ok-places.ensures)
