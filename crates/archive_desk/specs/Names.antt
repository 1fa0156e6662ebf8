-- How faults are named.
use Rattle.std.specs.Prelude.{ℕ, List, codes}
use Rattle.archive_desk.specs.declared.faults.DeskError.{DeskError}
use Rattle.archive_desk.specs.declared.faults.DeskError.TheVariants as desk

-- the number and the name of a refusal of the desk, as it is told
abbrev pub desk_error_text : DeskError → List ℕ
desk_error_text desk.NoList = codes "G1 NoList"
desk_error_text desk.NoPerson = codes "G2 NoPerson"
desk_error_text desk.NotInView = codes "G3 NotInView"
desk_error_text (desk.Store fault) = codes "G4 Store"
desk_error_text desk.Memory = codes "G5 Memory"
desk_error_text desk.Write = codes "G6 Write"
