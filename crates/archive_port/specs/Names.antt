-- How faults are named.
use Rattle.std.specs.Prelude.{ℕ, List, codes}
use Rattle.archive_port.specs.declared.faults.StoreFault.{StoreFault}
use Rattle.archive_port.specs.declared.faults.StoreFault.TheVariants as store

-- the number and the name of a refusal, as it is told
abbrev pub store_fault_text : StoreFault → List ℕ
store_fault_text store.BadName = codes "E1 BadName"
store_fault_text store.BadText = codes "E2 BadText"
store_fault_text store.ListExists = codes "E3 ListExists"
store_fault_text store.NoList = codes "E4 NoList"
store_fault_text store.PersonExists = codes "E5 PersonExists"
store_fault_text store.NoPerson = codes "E6 NoPerson"
store_fault_text store.TokenTaken = codes "E7 TokenTaken"
store_fault_text store.NoMessage = codes "E8 NoMessage"
store_fault_text store.AlreadyWithdrawn = codes "E9 AlreadyWithdrawn"
store_fault_text store.NotWithdrawn = codes "E10 NotWithdrawn"
store_fault_text store.BadDays = codes "E11 BadDays"
store_fault_text store.ListFull = codes "E12 ListFull"
store_fault_text store.TooLarge = codes "E13 TooLarge"
store_fault_text store.Memory = codes "E14 Memory"
store_fault_text store.Store = codes "E15 Store"
