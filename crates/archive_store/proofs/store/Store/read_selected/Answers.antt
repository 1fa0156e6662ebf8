use Rattle.std.proofs.Common.{◌∷◌, []}
use Rattle.archive_model.specs.Commands.{no_list}
use Rattle.archive_store.proofs.WalkingLemmas.{rows_answer, rows_ends}
use Rattle.archive_store.specs.Walking.{walk_over_store}
use Rattle.archive_port.specs.Walking.{selected_messages}
use Rattle.archive_store.proofs.store.Store.read_selected.Goals as goal

pub returns-clause-answer : goal.returns-clause-answer
returns-clause-answer g c =
    rows_answer g.S.Store c.args.self.now (walk_over_store c.each_selected.new.self c.in_ok-walk.walk) (walk_over_store c.read_rows.new.store c.read_rows.new.walk) c.args.list.now
    (λ a. selected_messages a c.args.list.now c.args.which.now) c.read_rows.result c.in_ok-walk.ensures.begun c.read_rows.ensures.ends.remains_open.disk_was_clean
    c.read_rows.ensures.given c.read_rows.ensures.ends.fault_is_no_refusal

pub returns-clause-ends : goal.returns-clause-ends
returns-clause-ends g c =
    rows_ends g.S.Store c.args.self.now (walk_over_store c.each_selected.new.self c.in_ok-walk.walk) (walk_over_store c.read_rows.new.store c.read_rows.new.walk) c.args.list.now
    (λ a. selected_messages a c.args.list.now c.args.which.now) c.read_rows.result c.in_ok-walk.ensures.begun c.read_rows.ensures.ends c.read_rows.ensures.caused (no_list ∷ [])
