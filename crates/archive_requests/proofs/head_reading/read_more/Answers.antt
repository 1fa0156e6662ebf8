use Rattle.std.proofs.Common.{rules, arith, ◌≡◌, ◌-◌, length, take}
use Rattle.std.proofs.lemmas.List.{length-take-le}
use Rattle.archive_requests.proofs.HeadLemmas.{take_put}
use Rattle.archive_requests.proofs.head_reading.read_more.Goals as goal

pub returns-clause-bytes : goal.returns-clause-bytes
returns-clause-bytes g c =
    let size : length c.read_noted.new.buffer ≡ length c.args.buffer.now - c.args.filled = search rules in
    let b = c.in_ok-count.ensures.bytes in (
      take c.in_ok-count.count c.read_noted.new.buffer,
      length-take-le _ _ b.0,
      omega (arith, size, b.0, c.requires),
      b.1,
      take_put c.args.filled c.in_ok-count.count _ c.args.buffer.now c.read_noted.new.buffer (omega (arith, c.requires)) b.0,
      λ skipped. b.2 (c.is_looked_at.ensures skipped),
    )
