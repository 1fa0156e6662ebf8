-- Why `cut` refuses bytes.
use Rattle.std.specs.Prelude.{ℕ, List}
use Rattle.mbox_items.specs.Division.{IsPreamble}
use Rattle.mbox_core.specs.declared.faults.MboxFault.{MboxFault}
use Rattle.mbox_core.specs.declared.faults.MboxFault.TheVariants.{Preamble, Read, Memory, Failed}

-- always that a line which is no separator line stands first, with the offset of that line
abbrev pub IsCutFault : List ℕ → MboxFault → Type 0
IsCutFault bytes (Preamble offset) = IsPreamble bytes offset
IsCutFault bytes Read = ⊥
IsCutFault bytes Memory = ⊥
IsCutFault bytes Failed = ⊥
