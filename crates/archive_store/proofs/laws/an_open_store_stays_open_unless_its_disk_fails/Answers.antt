use Rattle.archive_store.proofs.laws.an_open_store_stays_open_unless_its_disk_fails.Goals as goal

pub returns : goal.returns
returns g c = λ old new lasts returned up. lasts.closes_only_by_fault.stays_open returned up
