use Rattle.std.proofs.Common.{subst}
use Rattle.mbox_items.specs.Written.{IsEnvelope}
use Rattle.mbox_items.proofs.SenderLemmas.{envelope_is}
use Rattle.archive_memory.proofs.writable.envelope_is_writable.Goals as goal

pub returns : goal.returns
returns c = subst IsEnvelope c.envelope.view_is (envelope_is c.envelope.inside.sender c.envelope.inside.arrival c.envelope.invariant.0 c.envelope.invariant.1)
