-- A list with the messages of an mbox, of which one is withdrawn.
use Rattle.std.specs.Prelude.{◌≡◌, ℕ, List}
use Rattle.archive_model.specs.Records.{Archive}
use Rattle.archive_model.specs.Commands.{list_add, withdraw, done}
use Rattle.archive_model.specs.Machine.{step}
use Rattle.archive_desk.specs.Importing.{IsImported}
use Rattle.archive_desk.specs.declared.importing.Report.{Report}
use Rattle.policy_core.specs.Numbers.{withdrawn_by_number}
use Rattle.policy_core.specs.declared.access.WithdrawnBy.TheVariants.{Author}

-- Three steps: the list was added, then the messages of the mbox, and then the author withdrew the message of this key.
pub record IsPublished (list mbox key : List ℕ) (before after : Archive) : Type 0 where
  pub listed : Archive
  pub adds_list : (listed, done) ≡ step before (list_add list)
  pub imported : Archive
  pub report : Report
  pub imports_mbox : IsImported list mbox listed imported report
  pub withdraws_message : (after, done) ≡ step imported (withdraw list key (withdrawn_by_number Author))
