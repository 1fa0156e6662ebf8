use Rattle.std.proofs.Common.{◌++◌, codes}
use Rattle.sift_run.proofs.TellLemmas.{said_then}
use Rattle.archive_run.specs.Refusals.{visible_bytes}
use Rattle.archive_run.proofs.faults.say_damaged.Goals as goal

pub returns : goal.returns
returns g c =
    let list = visible_bytes c.args.list.now in
    let key = visible_bytes c.args.key.now in
    let sink = g.E.Sink in
    let result = c.put_visible-2.result in
    let last = c.put_visible-2.new.faults in
    said_then sink c.args.faults.now c.write_piece.new.faults last (codes "E16 Damaged ") (list ++ (codes " " ++ key)) result c.in_ok-write_piece.ensures
    (said_then sink c.write_piece.new.faults c.put_visible.new.faults last list (codes " " ++ key) result c.in_ok-put_visible.ensures
    (said_then sink c.put_visible.new.faults c.write_piece-2.new.faults last (codes " ") key result c.in_ok-write_piece-2.ensures c.put_visible-2.ensures))
