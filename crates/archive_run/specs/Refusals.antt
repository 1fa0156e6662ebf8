-- What refusals print.
use Rattle.std.specs.Prelude.{◌&&◌, ◌++◌, nat_le, ℕ, List, map, codes, decimal, string_bytes, if◌then◌else◌}
use Rattle.archive_port.specs.Names.{store_fault_text}
use Rattle.archive_desk.specs.Names.{desk_error_text}
use Rattle.archive_desk.specs.declared.importing.ImportError.{ImportError}
use Rattle.archive_desk.specs.declared.importing.ImportError.TheVariants as taking
use Rattle.sift_run.specs.Refusals.{mbox_fault_text, command_error_text}
use Rattle.sift_run.specs.declared.faults.CommandError.{CommandError}
use Rattle.archive_run.specs.declared.faults.RunError.{RunError}
use Rattle.archive_run.specs.declared.faults.RunError.TheVariants.{Run, Store, Desk, Import, Damaged, Denied, Net}

abbrev pub import_error_text : ImportError → List ℕ
import_error_text (taking.Mbox fault) = mbox_fault_text fault
import_error_text (taking.Store fault) = store_fault_text fault

-- ---- bytes of a database in a line

-- a byte that is not visible is shown as `?`
abbrev pub visible_byte : ℕ → ℕ
visible_byte b = if nat_le 33 b && nat_le b 126 then b else 63

abbrev pub visible_bytes : List ℕ → List ℕ
visible_bytes = map visible_byte

-- ---- refusals

-- The number and the name, and where the fault is. Of an import that stopped, how many messages were done; of a message that
-- is damaged, its list and its key; of one that is denied, the rule that denies it.
abbrev pub refusal_text : RunError → List ℕ
refusal_text (Run fault) = command_error_text fault
refusal_text (Store fault) = store_fault_text fault
refusal_text (Desk fault) = desk_error_text fault
refusal_text (Import stop) = import_error_text stop.fault ++ codes " after " ++ decimal stop.done
refusal_text (Damaged list key) = codes "E16 Damaged " ++ visible_bytes list.items ++ codes " " ++ visible_bytes key.items
refusal_text (Denied rule) = codes "denied by " ++ string_bytes rule
refusal_text Net = codes "F4 Net"

-- the refusal is what stops any run, and this holds of it
abbrev pub IsCommandErrorWith : (CommandError → Type 0) → RunError → Type 0
IsCommandErrorWith Holds (Run fault) = Holds fault
IsCommandErrorWith Holds _ = ⊥
