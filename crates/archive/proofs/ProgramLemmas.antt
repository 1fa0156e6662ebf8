-- What a run says of words that were lent, and what a flush leaves.
use Rattle.std.proofs.Common.{◌≡◌, ◌<◌, inl, inr, subst, ℕ, List, Result, Ok, Err}
use Rattle.std.specs.Prelude.{OnErr, OnOk, ⊤}
use Rattle.sift_run.specs.Streams.{OutputStreamState}
use Rattle.archive_run.specs.Environments.{DeviceContracts}
use Rattle.archive_run.specs.declared.world.Environment.{Environment}
use Rattle.archive.specs.Program.{EndsRun, FlushesRunOutput}

-- the words are the same
pub of_lent : {Y S F D C P T R O E W I L K A B M : Type 0} {dev : DeviceContracts S W F I D C P L T R O E} {old new : Environment Y S F D C P T R O E W I L K A B M}
    {lent words : List (List ℕ)} {status : ℕ} → lent ≡ words → EndsRun dev old lent new status → EndsRun dev old words new status
of_lent {dev = dev} {old = old} {new = new} {status = status} same it = subst (λ all. EndsRun dev old all new status) same it

pub flushed : {X : Type 0} (before after : OutputStreamState) (result : Result ⊤ X) → after.written ≡ before.written → OnOk result (after.passed ≡ after.written)
    → OnOk result (after.failures ≡ before.failures) → OnErr result (before.failures < after.failures) → FlushesRunOutput before after
flushed before after (Ok done) told passed quiet cause = (told, inl (quiet, passed))
flushed before after (Err why) told passed quiet cause = (told, inr cause)
