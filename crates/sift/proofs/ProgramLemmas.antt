-- What a flush leaves.
use Rattle.std.proofs.Common.{◌≡◌, ◌<◌, inl, inr, Result, Ok, Err}
use Rattle.std.specs.Prelude.{OnErr, OnOk, ⊤}
use Rattle.sift.specs.Program.{FlushesOutput}
use Rattle.sift_run.specs.Streams.{OutputStreamState}

pub flushed : {X : Type 0} (before after : OutputStreamState) (result : Result ⊤ X) → after.written ≡ before.written → OnOk result (after.passed ≡ after.written)
    → OnOk result (after.failures ≡ before.failures) → OnErr result (before.failures < after.failures) → FlushesOutput before after
flushed before after (Ok done) told passed quiet cause = (told, inl (quiet, passed))
flushed before after (Err why) told passed quiet cause = (told, inr cause)
