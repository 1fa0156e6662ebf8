use Rattle.std.proofs.Common.{◌≡◌, ◌++◌, []}
use Rattle.mbox_stream.specs.Cutter.{IsCutterConsistent}
use Rattle.mbox_stream.specs.declared.cutter.CutterPhase.TheVariants.{Open}
use Rattle.archive_import.proofs.ReadLemmas.{Begun}
use Rattle.archive_import.proofs.TellLemmas.{Behind}
use Rattle.archive_import.proofs.importing.add_settled.Given as goal

abbrev pub invariant-loop : goal.invariant-loop
invariant-loop g l = record {
  behind : Behind g.S.ArchiveState l.initial.store l.store (Begun l.list [] l.cutter.taken l.initial.intake l.intake);
  told : g.R.Source.told l.input ≡ g.R.Source.told l.initial.input ++ l.cutter.stream;
  no_read_failed : g.R.Source.failures l.input ≡ g.R.Source.failures l.initial.input;
  no_end : g.R.Source.ends l.input ≡ g.R.Source.ends l.initial.input;
  none_waits : l.cutter.waiting ≡ [];
  goes_on : l.cutter.phase ≡ Open;
  given : IsCutterConsistent l.cutter;
}
