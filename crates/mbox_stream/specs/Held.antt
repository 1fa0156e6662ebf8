-- What a cutter holds: bytes that are not decided while more may be fed, and none else.
use Rattle.std.specs.Prelude.{◌≡◌, ◌≢◌, ℕ, List, Option, Some, None}
use Rattle.mbox_core.specs.Division.{Item}
use Rattle.mbox_stream.specs.Kept.{IsWindowAtPlace, HoldsNoSettledItem}
use Rattle.mbox_stream.specs.declared.window.Window.{Window}
use Rattle.mbox_stream.specs.declared.cutter.CutterPhase.{CutterPhase}
use Rattle.mbox_stream.specs.declared.cutter.CutterPhase.TheVariants.{Open}

abbrev pub HoldsUndecidedBytes : Option Window → CutterPhase → List ℕ → List Item → Type 0
HoldsUndecidedBytes None phase stream items = phase ≢ Open
HoldsUndecidedBytes (Some w) phase stream items = (phase ≡ Open) × IsWindowAtPlace w.place w.bytes.items stream items × HoldsNoSettledItem w.place w.bytes.items
