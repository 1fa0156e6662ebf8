use Rattle.std.proofs.Common.{refl, None}
use Rattle.archive_store.specs.Walking.{selected_numbers}
use Rattle.archive_port.specs.Walking.{selected_messages}
use Rattle.archive_store.proofs.WalkingLemmas.{begins_walk, selected_of_list, selected_shown}
use Rattle.archive_store.proofs.store.Store.each_selected.Goals as goal

pub returns-clause-begun : goal.returns-clause-begun
returns-clause-begun g c =
    let list = c.args.list.now in
    let which = c.args.which.now in
    begins_walk g.S.Store c.args.self.now c.find_places.new.store list (λ trees. selected_numbers trees list which) (λ a. selected_messages a list which)
    (selected_shown list which) (selected_of_list list which)
    (record { places = c.in_ok-places.places; at = 0; peeked = None }) refl refl c.in_ok-places.ensures.ends c.in_ok-places.ensures.found
