-- The values of an order.
use Rattle.std.specs.Prelude.{ℕ, ℤ, List, Bool, Option}
use Rattle.policy_core.specs.declared.access.Standing.{Standing}
use Rattle.policy_core.specs.declared.access.GrantKind.{GrantKind}
use Rattle.policy_core.specs.declared.access.WithdrawnBy.{WithdrawnBy}
use Rattle.archive_args.specs.declared.commands.StoreCommand.{StoreCommand as Words}
use Rattle.archive_args.specs.declared.commands.StoreCommand.TheVariants.{ListAdd, Merge, PersonAdd, PersonAddress, Grant, Revoke, Withdraw, Restore, Embargo, Lift}

-- The values of `sift`'s options: days are day numbers from 1970-01-01, the policy is the name of its file.
pub record SiftValues : Type 0 where
  pub day : Option ℤ
  pub min_age : Option ℕ
  pub policy : Option (List ℕ)
  pub list : List ℕ
  pub standing : Standing

-- A command on the tables of a database. Persons, lists, tokens, addresses and keys are texts as they were given; days are
-- day numbers from 1970-01-01.
pub data StoreCommand : Type 0 where
  list_add : (name : List ℕ) → StoreCommand
  merge : (list : List ℕ) (merged : Bool) → StoreCommand
  person_add : (name token : List ℕ) → StoreCommand
  person_address : (person address : List ℕ) → StoreCommand
  grant : (person list : List ℕ) (kind : GrantKind) (from until : ℤ) → StoreCommand
  revoke : (person list : List ℕ) (kind : GrantKind) → StoreCommand
  withdraw : (list key : List ℕ) (by : WithdrawnBy) → StoreCommand
  restore : (list key : List ℕ) → StoreCommand
  embargo : (list key : List ℕ) (until : ℤ) → StoreCommand
  lift : (list key : List ℕ) → StoreCommand

-- what borrowed words command
abbrev pub store_command_of : Words → StoreCommand
store_command_of (ListAdd name) = list_add name.now
store_command_of (Merge list merged) = merge list.now merged
store_command_of (PersonAdd name token) = person_add name.now token.now
store_command_of (PersonAddress person address) = person_address person.now address.now
store_command_of (Grant person list kind from until) = grant person.now list.now kind from until
store_command_of (Revoke person list kind) = revoke person.now list.now kind
store_command_of (Withdraw list key by) = withdraw list.now key.now by
store_command_of (Restore list key) = restore list.now key.now
store_command_of (Embargo list key until) = embargo list.now key.now until
store_command_of (Lift list key) = lift list.now key.now

-- A command, and the name of the file of its database.
pub record StoreCommandValues : Type 0 where
  pub file : List ℕ
  pub command : StoreCommand

-- The mbox of a file, to be taken into a list.
pub record ImportValues : Type 0 where
  pub file : List ℕ
  pub list : List ℕ
  pub mbox : List ℕ

-- The file of a database that is looked at.
pub record CheckValues : Type 0 where
  pub file : List ℕ

-- A question of a reader on a list: the file of the database, the file of the policy, the reading day, the name of the
-- person who asks, and the list.
pub record AskValues : Type 0 where
  pub file : List ℕ
  pub policy : List ℕ
  pub day : Option ℤ
  pub person : Option (List ℕ)
  pub list : List ℕ

-- A question for one message, by its key.
pub record GetValues : Type 0 where
  pub ask : AskValues
  pub key : List ℕ

-- So many connections to be answered on a port.
pub record ServeValues : Type 0 where
  pub file : List ℕ
  pub policy : List ℕ
  pub day : Option ℤ
  pub port : ℕ
  pub count : ℕ
