-- Why three calls stopped, worked.
use Rattle.std.proofs.Common.{◌≡◌, refl, Some, None}
use Rattle.archive_model.specs.Commands.{no_list as unknown_list}
use Rattle.archive_port.specs.declared.faults.StoreFault.TheVariants.{NoList as UnknownList, Memory as NoMemory}
use Rattle.archive_results.specs.Access.{no_person}
use Rattle.archive_desk.specs.Faults.{refused, not_written}
use Rattle.archive_desk.specs.Importing.{not_taken}
use Rattle.archive_desk.specs.declared.faults.DeskError.TheVariants.{NoPerson, Store, Write}
use Rattle.archive_desk.specs.declared.importing.ImportError.TheVariants.{Store as Stored}
use Rattle.desk_tests.specs.Chain.{not_imported, not_listed, not_exported, chain_refusal_of}
use Rattle.desk_tests.specs.declared.chain.ChainStop.TheVariants.{Import, Month, Export}

no_such_list : chain_refusal_of (Import (record { done = 0; fault = Stored UnknownList })) ≡ Some (not_imported 0 (not_taken unknown_list))
no_such_list = refl

no_memory_after_two : chain_refusal_of (Import (record { done = 2; fault = Stored NoMemory })) ≡ None
no_memory_after_two = refl

no_such_person : chain_refusal_of (Month NoPerson) ≡ Some (not_listed (refused no_person))
no_such_person = refl

ten_bytes_out : chain_refusal_of (Export (record { written = 10; fault = Write })) ≡ Some (not_exported 10 not_written)
ten_bytes_out = refl

the_walk_failed : chain_refusal_of (Export (record { written = 10; fault = Store NoMemory })) ≡ None
the_walk_failed = refl
