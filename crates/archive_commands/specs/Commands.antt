-- What the commands of the words do to the archive, and the word that answers each.
use Rattle.std.specs.Prelude.{◌≡◌, ℕ, Bool, true, false, List, codes, Option, Some, None, if◌then◌else◌}
use Rattle.archive_model.specs.Records.{Archive}
use Rattle.archive_model.specs.Commands as machine
use Rattle.archive_model.specs.Keys.{is_key}
use Rattle.archive_model.specs.Machine.{StepOutcome, refuse, step}
use Rattle.policy_core.specs.Numbers.{grant_kind_rank, withdrawn_by_number}
use Rattle.archive_port.specs.declared.state.ArchiveState.{Ghosts}
use Rattle.archive_args.specs.Values.{StoreCommand, list_add, merge, person_add, person_address, grant, revoke, withdraw, restore, embargo, lift}
use Rattle.archive_commands.specs.declared.commands.Answer.{Answer}
use Rattle.archive_commands.specs.declared.commands.Answer.TheVariants.{Added, Merging, AddressSet, Granted, Revoked, NoGrant, Withdrawn, Restored, Embargoed, Lifted, NoEmbargo}

-- ---- the step

-- the machine's command that a command of the words stands for
abbrev pub model_command : StoreCommand → machine.Command
model_command (list_add name) = machine.list_add name
model_command (merge list merged) = machine.merge_set list merged
model_command (person_add name token) = machine.person_add name token
model_command (person_address person address) = machine.address_set person address
model_command (grant person list kind from until) = machine.grant person list (grant_kind_rank kind) from until
model_command (revoke person list kind) = machine.revoke person list (grant_kind_rank kind)
model_command (withdraw list key by) = machine.withdraw list key (withdrawn_by_number by)
model_command (restore list key) = machine.restore list key
model_command (embargo list key until) = machine.embargo list key until
model_command (lift list key) = machine.lift list key

-- the key that it has, if it has one, is valid
abbrev pub has_valid_key : StoreCommand → Bool
has_valid_key (withdraw list key by) = is_key key
has_valid_key (restore list key) = is_key key
has_valid_key (embargo list key until) = is_key key
has_valid_key (lift list key) = is_key key
has_valid_key _ = true

-- the key that it has, if that is valid
abbrev pub key_if_valid : List ℕ → Option (List ℕ)
key_if_valid key = if is_key key then Some key else None

abbrev pub valid_key : StoreCommand → Option (List ℕ)
valid_key (withdraw list key by) = key_if_valid key
valid_key (restore list key) = key_if_valid key
valid_key (embargo list key until) = key_if_valid key
valid_key (lift list key) = key_if_valid key
valid_key _ = None

-- the machine's command that it stands for, if the key that it has is valid
abbrev pub StandsForModelCommand : StoreCommand → Option machine.Command → Type 0
StandsForModelCommand command None = has_valid_key command ≡ false
StandsForModelCommand command (Some it) = (has_valid_key command ≡ true) × (it ≡ model_command command)

-- What a command of the words does to the archive, and what it answers. No list holds a message of a key that is not valid: E8, before
-- anything is looked up.
abbrev pub command_outcome : Archive → StoreCommand → StepOutcome
command_outcome archive command = if has_valid_key command then step archive (model_command command) else refuse archive machine.no_message

-- what is held refuses what it writes, which the machine carries out
abbrev pub RefusesCommand : {S W : Type 0} → Ghosts S W → StoreCommand → S → Type 0
RefusesCommand g command store = (has_valid_key command ≡ true) × g.refuses store (model_command command)

-- ---- the answer in a word

-- the word for the machine's answer; none for a refusal
abbrev pub answer_to : StoreCommand → machine.CommandReply → Option Answer
answer_to (list_add name) machine.done = Some Added
answer_to (merge list merged) machine.done = Some (Merging merged)
answer_to (person_add name token) machine.done = Some Added
answer_to (person_address person address) machine.done = Some AddressSet
answer_to (grant person list kind from until) machine.done = Some Granted
answer_to (revoke person list kind) (machine.was_there true) = Some Revoked
answer_to (revoke person list kind) (machine.was_there false) = Some NoGrant
answer_to (withdraw list key by) machine.done = Some Withdrawn
answer_to (restore list key) machine.done = Some Restored
answer_to (embargo list key until) machine.done = Some Embargoed
answer_to (lift list key) (machine.was_there true) = Some Lifted
answer_to (lift list key) (machine.was_there false) = Some NoEmbargo
answer_to _ _ = None

-- the line on which it is told
abbrev pub answer_line : Answer → List ℕ
answer_line Added = codes "added\n"
answer_line (Merging true) = codes "merge on\n"
answer_line (Merging false) = codes "merge off\n"
answer_line AddressSet = codes "address set\n"
answer_line Granted = codes "granted\n"
answer_line Revoked = codes "revoked\n"
answer_line NoGrant = codes "no grant\n"
answer_line Withdrawn = codes "withdrawn\n"
answer_line Restored = codes "restored\n"
answer_line Embargoed = codes "embargoed\n"
answer_line Lifted = codes "lifted\n"
answer_line NoEmbargo = codes "no embargo\n"
