use Rattle.std.proofs.Common.{refl}
use Rattle.archive_memory.proofs.StateLemmas.{lasts, whole}
use Rattle.archive_memory.specs.State.{archive_in_memory}
use Rattle.archive_memory.proofs.state.MemoryArchiveArchiveStore.check.Goals as goal

pub returns-clause-checked : goal.returns-clause-checked
returns-clause-checked c = (lasts c.args.self.now c.args.self.now, λ clean held. (held, (refl, whole (archive_in_memory c.args.self.now) held)))
