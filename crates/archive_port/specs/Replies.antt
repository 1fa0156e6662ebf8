-- How the answers of an archive stand for those of the machine.
use Rattle.std.specs.Prelude.{◌≡◌, ◌⊎◌, ℕ, Bool, List, [], ◌∷◌, IfErr, IfSome, Option, Some, None, Result, Ok, Err, option_map}
use Rattle.archive_model.specs.Commands.{Refusal, bad_name, bad_text, list_exists, no_list, person_exists, no_person, token_taken, no_message}
use Rattle.archive_model.specs.Commands.{already_withdrawn, not_withdrawn, bad_days, list_full, too_large, CommandReply, done, was_there, refused}
use Rattle.archive_port.specs.declared.words.Added.{Added}
use Rattle.archive_port.specs.Words.{added_reply}
use Rattle.archive_port.specs.declared.faults.StoreFault.{StoreFault}
use Rattle.archive_port.specs.declared.faults.StoreFault.TheVariants.{BadName, BadText, ListExists, NoList, PersonExists, NoPerson, TokenTaken}
use Rattle.archive_port.specs.declared.faults.StoreFault.TheVariants.{NoMessage, AlreadyWithdrawn, NotWithdrawn, BadDays, ListFull, TooLarge, Memory}
use Rattle.archive_port.specs.declared.faults.StoreFault.TheVariants.{Store}

-- none where memory or the database was at fault
abbrev pub refusal_of_fault : StoreFault → Option Refusal
refusal_of_fault BadName = Some bad_name
refusal_of_fault BadText = Some bad_text
refusal_of_fault ListExists = Some list_exists
refusal_of_fault NoList = Some no_list
refusal_of_fault PersonExists = Some person_exists
refusal_of_fault NoPerson = Some no_person
refusal_of_fault TokenTaken = Some token_taken
refusal_of_fault NoMessage = Some no_message
refusal_of_fault AlreadyWithdrawn = Some already_withdrawn
refusal_of_fault NotWithdrawn = Some not_withdrawn
refusal_of_fault BadDays = Some bad_days
refusal_of_fault ListFull = Some list_full
refusal_of_fault TooLarge = Some too_large
refusal_of_fault Memory = None
refusal_of_fault Store = None

-- one of these reasons
abbrev pub IsOneOf : Refusal → List Refusal → Type 0
IsOneOf why [] = ⊥
IsOneOf why (w ∷ whys) = (why ≡ w) ⊎ IsOneOf why whys

-- a call is refused for one of these reasons alone, whatever the tables hold; else memory or the database was at fault
abbrev pub IsRefusedOnlyFor : {A : Type 0} → Result A StoreFault → List Refusal → Type 0
IsRefusedOnlyFor result whys = IfErr result (λ fault. IfSome (refusal_of_fault fault) (λ why. IsOneOf why whys))

-- what a call answers, and of where it stopped the fault alone
abbrev pub map_error_to_fault : {A F : Type 0} → (F → StoreFault) → Result A F → Result A StoreFault
map_error_to_fault fault (Ok a) = Ok a
map_error_to_fault fault (Err stop) = Err (fault stop)

-- how much was done where it stopped
abbrev pub done_count_on_error : {A F : Type 0} → (F → ℕ) → Result A F → ℕ
done_count_on_error count (Ok a) = 0
done_count_on_error count (Err stop) = count stop

-- the answer of a call whose success says this
abbrev pub reply_of_result : {A : Type 0} → (A → CommandReply) → Result A StoreFault → Option CommandReply
reply_of_result says (Ok a) = Some (says a)
reply_of_result says (Err fault) = option_map refused (refusal_of_fault fault)

-- the answer of a call whose success says that it is done
abbrev pub reply_if_done : Result (Unit {0}) StoreFault → Option CommandReply
reply_if_done = reply_of_result (λ _. done)

-- the answer of a call that says whether what it took away was there
abbrev pub reply_if_removed : Result Bool StoreFault → Option CommandReply
reply_if_removed = reply_of_result was_there

-- the answer of a call that adds a message
abbrev pub reply_if_added : Result Added StoreFault → Option CommandReply
reply_if_added = reply_of_result added_reply
