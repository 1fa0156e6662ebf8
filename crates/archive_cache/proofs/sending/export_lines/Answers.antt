use Rattle.std.proofs.Common.{◌<◌, ◌^◌, length, rules}
use Rattle.archive_port.specs.Told.{archive_in}
use Rattle.archive_cache.proofs.SendLemmas.{part_behind_head}
use Rattle.archive_cache.proofs.sending.export_lines.Goals as goal

pub returns-in-Err-write_lines-clause-written : goal.returns-in-Err-write_lines-clause-written
returns-in-Err-write_lines-clause-written g c = λ returned held.
    let fits : length c.args.head.now < 2 ^ 64 = search rules in
    part_behind_head g.S.ArchiveState c.write_lines.new.store (archive_in g.S.ArchiveState c.args.store.now) c.args.list.now c.args.lines.now c.args.head.now
    (g.W.Sink.told c.args.out.now) (g.W.Sink.told c.write_bytes.new.out) (g.W.Sink.told c.write_lines.new.out) c.in_default.ensures.ok fits
    c.write_lines.new.count c.in-Err-write_lines.fault (c.in-Err-write_lines.ensures.written returned held)
