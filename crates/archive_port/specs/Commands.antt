-- Commands of the code, and those of the machine that they stand for.
use Rattle.std.specs.Prelude.{List, [], ◌∷◌, if◌then◌else◌, Result}
use Rattle.archive_model.specs.Commands.{Command as Told, list_add, merge_set, person_add, address_set, grant, revoke, add, withdraw, restore}
use Rattle.archive_model.specs.Commands.{embargo, lift, Refusal, CommandReply, refused, taken_in, already_known}
use Rattle.archive_model.specs.Machine.{GuardedReply, no_command_facts, guarded_replies_of, reply_if_carried_out, step}
use Rattle.archive_model.specs.declared.found.CommandFacts.{CommandFacts}
use Rattle.policy_core.specs.Numbers.{grant_kind_rank, withdrawn_by_number}
use Rattle.archive_port.specs.Crashes.{CrashSteps}
use Rattle.archive_port.specs.Replies.{reply_of_result}
use Rattle.archive_port.specs.Told.{EndsWrite, PerformsModelStep}
use Rattle.archive_port.specs.declared.state.ArchiveState.{Ghosts}
use Rattle.archive_port.specs.declared.faults.StoreFault.{StoreFault}
use Rattle.archive_port.specs.declared.commands.Command.{Command}
use Rattle.archive_port.specs.declared.commands.Command.TheVariants.{ListAdd, MergeSet, PersonAdd, AddressSet, Grant, Revoke, Add, Withdraw, Restore}
use Rattle.archive_port.specs.declared.commands.Command.TheVariants.{Embargo, Lift}

-- a command of the code, as one of the machine
abbrev pub spec_command : Command → Told
spec_command (ListAdd name) = list_add name.now
spec_command (MergeSet list merge) = merge_set list.now merge
spec_command (PersonAdd name token) = person_add name.now token.now
spec_command (AddressSet alloc person address) = address_set person.now address.now
spec_command (Grant person list kind from until) = grant person.now list.now (grant_kind_rank kind) from until
spec_command (Revoke person list kind) = revoke person.now list.now (grant_kind_rank kind)
spec_command (Add alloc list item) = add list.now item.now
spec_command (Withdraw list key by) = withdraw list.now key.now (withdrawn_by_number by)
spec_command (Restore list key) = restore list.now key.now
spec_command (Embargo list key until) = embargo list.now key.now until
spec_command (Lift list key) = lift list.now key.now

-- the refusals among tests, in their order
abbrev pub prepend_if_refusal : CommandReply → List Refusal → List Refusal
prepend_if_refusal (refused why) rest = why ∷ rest
prepend_if_refusal _ rest = rest

abbrev pub refusals_among : List GuardedReply → List Refusal
refusals_among [] = []
refusals_among (test ∷ tests) = prepend_if_refusal test.1 (refusals_among tests)

-- the refusals of a command, whatever is found
abbrev pub possible_refusals_of : Told → List Refusal
possible_refusals_of command = refusals_among (guarded_replies_of command no_command_facts)

-- what a command answers of which this was found, unless it is refused
abbrev pub reply_unless_refused : Told → CommandFacts → CommandReply
reply_unless_refused (add list item) found = if found.message then already_known else taken_in
reply_unless_refused command found = reply_if_carried_out command found

-- A command that hands on what was found: one step of the machine, a crash leaves the archive before it or after it, and how it ends.
pub record ExecutesCommand {S W : Type 0} (g : Ghosts S W) (old new : S) (command : Told) (result : Result CommandFacts StoreFault) : Type 0 where
  pub performs_step : PerformsModelStep g old new (λ a. step a command) (reply_of_result (reply_unless_refused command) result)
  pub crash : CrashSteps g old new (λ a. step a command)
  pub ends_write : EndsWrite g old new result (possible_refusals_of command) command
