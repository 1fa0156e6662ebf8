use Rattle.std.proofs.Common.{◌<◌, ◌^◌, length, rules}
use Rattle.archive_port.specs.Walking.{walk_over_store}
use Rattle.archive_desk.proofs.WalkLemmas.{walk_stopped, walk_written}
use Rattle.archive_desk.proofs.exporting.write_walk.Goals as goal

pub returns-in-Ok-clause-written : goal.returns-in-Ok-clause-written
returns-in-Ok-clause-written g c =
    let fits : length c.args.head.now < 2 ^ 64 = search rules in
    walk_written g.S.ArchiveState c.args.ask.now c.args.reader.now (walk_over_store c.args.store.now c.args.walk.now) (walk_over_store c.write_rows.new.store c.write_rows.new.walk) c.args.head.now
    (g.W.Sink.told c.args.out.now)
    (g.W.Sink.told c.write_bytes.new.out) (g.W.Sink.told c.write_rows.new.out) c.in_default.ensures.ok fits c.write_rows.new.count c.in-Ok.ensures.written

pub returns-in-Err-write_rows-clause-written : goal.returns-in-Err-write_rows-clause-written
returns-in-Err-write_rows-clause-written g c =
    let fits : length c.args.head.now < 2 ^ 64 = search rules in
    let middle = g.W.Sink.told c.write_bytes.new.out in
    let after = g.W.Sink.told c.write_rows.new.out in
    let fault = c.in-Err-write_rows.fault in
    walk_stopped g.S.ArchiveState c.args.ask.now c.args.reader.now (walk_over_store c.args.store.now c.args.walk.now) (walk_over_store c.write_rows.new.store c.write_rows.new.walk) c.args.head.now
    (g.W.Sink.told c.args.out.now)
    middle after c.in_default.ensures.ok fits c.write_rows.new.count fault
    c.in-Err-write_rows.ensures.written
