-- What each command does to the archive, and what it answers. Of several refusals the first counts, in the order of the
-- cases; a refusal leaves the archive as it was.
use Rattle.std.specs.Prelude.{ℕ, ℤ, pos, Bool, true, false, ◌||◌, int_lt, nat_lt, nat_le, List, [], ◌∷◌, ◌++◌, length, map, filter, not, if◌then◌else◌, Option, Some, None}
use Rattle.policy_core.specs.Names.{is_name}
use Rattle.mbox_items.specs.Division.{Item, whole}
use Rattle.archive_model.specs.Records.{Grant, Message, ListOption, Address, Archive}
use Rattle.archive_model.specs.Commands.{Command, list_add, person_add, grant, revoke, add, withdraw, restore, embargo, lift, merge_set, address_set, Refusal}
use Rattle.archive_model.specs.Commands.{bad_name, bad_text, list_exists, no_list, person_exists, no_person, token_taken, no_message, already_withdrawn}
use Rattle.archive_model.specs.Commands.{not_withdrawn, bad_days, list_full, too_large, CommandReply, done, was_there, taken_in, already_known, refused}
use Rattle.archive_model.specs.BearerTokens.{is_token}
use Rattle.archive_model.specs.Addresses.{is_address, normalize_address}
use Rattle.archive_model.specs.Keys.{item_key}
use Rattle.archive_model.specs.Filing.{item_index_columns}
use Rattle.archive_model.specs.Questions.{has_list, has_person, has_token, is_grant_of_rank, has_grant, is_option_of, is_address_of, has_address}
use Rattle.archive_model.specs.Questions.{messages_in, is_message_at_key, message_of, has_message, is_withdrawn, has_embargo}
use Rattle.archive_model.specs.declared.found.CommandFacts.{CommandFacts}

-- the archive afterwards, and the answer
abbrev pub StepOutcome : Type 0
StepOutcome = Archive × CommandReply

abbrev pub refuse : Archive → Refusal → StepOutcome
refuse archive refusal = (archive, refused refusal)

-- ---- lists and persons

-- the option with which a list comes
abbrev pub default_list_option : List ℕ → ListOption
default_list_option list = record { list = list; merge = true }

-- the option of this list says this
abbrev pub with_merge_setting : List ℕ → Bool → ListOption → ListOption
with_merge_setting list merge o = if is_option_of list o then record o { merge = merge } else o

-- the person's address is this
abbrev pub with_replaced_address : Address → Address → Address
with_replaced_address a old = if is_address_of a.person old then record old { address = a.address } else old

-- the addresses with this one, which replaces that of its person
abbrev pub addresses_with : Archive → Address → List Address
addresses_with archive a =
    if has_address archive a.person then map (with_replaced_address a) archive.addresses else archive.addresses ++ a ∷ []

-- ---- grants

-- a grant of the person, list and rank of this one takes its days
abbrev pub with_grant_days_of : Grant → Grant → Grant
with_grant_days_of g old =
    if is_grant_of_rank g.person g.list g.rank old then record old { from_day = g.from_day; until_day = g.until_day } else old

-- the grants with this one, which replaces that of its person, list and rank
abbrev pub grants_with : Archive → Grant → List Grant
grants_with archive g =
    if has_grant archive g.person g.list g.rank then map (with_grant_days_of g) archive.grants else archive.grants ++ g ∷ []

-- ---- messages

-- a message as it comes in, with this key: its text is the whole text
abbrev pub keyed_message : List ℕ → List ℕ → Item → Message
keyed_message list key item = record {
  list = list;
  key = key;
  sender = item.envelope.sender;
  arrival = item.envelope.arrival;
  text = whole item.text;
  withdrawn = pos 0;
  embargo = None;
}

-- its key is that of the whole text
abbrev pub new_message : List ℕ → Item → Message
new_message list item = keyed_message list (item_key item) item

-- the archive with a message more, under this key, which is filed by what its text says
abbrev pub with_message_under_key : Archive → List ℕ → List ℕ → Item → Archive
with_message_under_key archive list key item = record archive {
  messages = archive.messages ++ keyed_message list key item ∷ [];
  index_columns = archive.index_columns ++ item_index_columns item ∷ [];
}

abbrev pub with_message : Archive → List ℕ → Item → Archive
with_message archive list item = with_message_under_key archive list (item_key item) item

-- bytes of the longest whole text that is taken in
abbrev pub longest_text : ℕ
longest_text = 16_777_216

-- Profile: bytes of the longest sender that is taken in. A row of SQL has a billion bytes at most, and beside the sender it holds the whole
-- text and its author key, which have 16 MiB each at most.
abbrev pub longest_sender : ℕ
longest_sender = 900_000_000

-- A message is too large if its whole text has more bytes than `longest_text`, or its sender, as it is written, more than `longest_sender`.
unfoldable pub is_too_large : Item → Bool
is_too_large item = nat_lt longest_text (length (whole item.text)) || nat_lt longest_sender (length item.envelope.sender)

-- A message that is too large is refused. A message whose key the list holds is known, and nothing changes.
-- A list that holds as many messages as the limit takes no more.
abbrev pub add_within_limit : ℕ → Archive → List ℕ → Item → StepOutcome
add_within_limit limit archive list item =
    if not (has_list archive list) then refuse archive no_list
    else if is_too_large item then refuse archive too_large
    else if has_message archive list (item_key item) then (archive, already_known)
    else if nat_le limit (length (messages_in archive list)) then refuse archive list_full
    else (with_message archive list item, taken_in)

-- Profile: a list holds this many messages at most.
abbrev pub message_limit : ℕ
message_limit = 50000

-- the messages, with that of this list and key changed
abbrev pub change_at_key : List ℕ → List ℕ → (Message → Message) → Message → Message
change_at_key list key change m = if is_message_at_key list key m then change m else m

abbrev pub with_changed_message : Archive → List ℕ → List ℕ → (Message → Message) → Archive
with_changed_message archive list key change = record archive { messages = map (change_at_key list key change) archive.messages }

abbrev pub with_withdrawal : ℤ → Message → Message
with_withdrawal party m = record m { withdrawn = party }

abbrev pub with_embargo : Option ℤ → Message → Message
with_embargo until m = record m { embargo = until }

-- ---- what is found

-- nothing is there of the names in a command
abbrev pub no_command_facts : CommandFacts
no_command_facts = record {
  list = false;
  person = false;
  token = false;
  grant = false;
  address = false;
  message = false;
  withdrawn = false;
  embargo = false;
  full = false;
}

-- of a list and a key
abbrev pub command_facts_on_message : Archive → List ℕ → List ℕ → CommandFacts
command_facts_on_message a list key = record no_command_facts {
  list = has_list a list;
  message = has_message a list key;
  withdrawn = is_withdrawn (message_of a list key);
  embargo = has_embargo (message_of a list key);
}

-- of a person, a list and a rank
abbrev pub command_facts_on_grant : Archive → List ℕ → List ℕ → ℤ → CommandFacts
command_facts_on_grant a person list rank =
    record no_command_facts { person = has_person a person; list = has_list a list; grant = has_grant a person list rank }

-- under this limit of messages that a list holds
abbrev pub command_facts_within_limit : ℕ → Archive → Command → CommandFacts
command_facts_within_limit limit a (list_add name) = record no_command_facts { list = has_list a name }
command_facts_within_limit limit a (merge_set list merge) = record no_command_facts { list = has_list a list }
command_facts_within_limit limit a (person_add name token) = record no_command_facts { person = has_person a name; token = has_token a token }
command_facts_within_limit limit a (address_set person address) = record no_command_facts { person = has_person a person; address = has_address a person }
command_facts_within_limit limit a (grant person list rank from until) = command_facts_on_grant a person list rank
command_facts_within_limit limit a (revoke person list rank) = command_facts_on_grant a person list rank
command_facts_within_limit limit a (add list item) = record no_command_facts {
  list = has_list a list;
  message = has_message a list (item_key item);
  full = nat_le limit (length (messages_in a list));
}
command_facts_within_limit limit a (withdraw list key party) = command_facts_on_message a list key
command_facts_within_limit limit a (restore list key) = command_facts_on_message a list key
command_facts_within_limit limit a (embargo list key until) = command_facts_on_message a list key
command_facts_within_limit limit a (lift list key) = command_facts_on_message a list key

abbrev pub command_facts_of : Archive → Command → CommandFacts
command_facts_of = command_facts_within_limit message_limit

-- ---- the three tables: a row for each command

-- an answer that leaves the archive as it was, where this is so
abbrev pub GuardedReply : Type 0
GuardedReply = Bool × CommandReply

abbrev pub refuse_if : Bool → Refusal → GuardedReply
refuse_if so why = (so, refused why)

-- What is answered at once, by the first test that is so: why a command is refused, or that a message is known.
-- Profile: a list's name is taken once, and no two persons share a name or a bearer token (RFC 6750). A grant holds from its first day to
-- its last, both within, counted from 1970-01-01. The first withdrawal of a message stands, and a second is refused. A message that is
-- too large is refused, then one whose key the list holds is known, and a list that holds as many messages as the limit takes no more.
abbrev pub guarded_replies_of : Command → CommandFacts → List GuardedReply
guarded_replies_of (list_add name) it = refuse_if (not (is_name name)) bad_name ∷ refuse_if it.list list_exists ∷ []
guarded_replies_of (merge_set list merge) it = refuse_if (not it.list) no_list ∷ []
guarded_replies_of (person_add name token) it =
    refuse_if (not (is_name name)) bad_name ∷ refuse_if (not (is_token token)) bad_text ∷ refuse_if it.person person_exists ∷ refuse_if it.token token_taken ∷ []
guarded_replies_of (address_set person address) it = refuse_if (not it.person) no_person ∷ refuse_if (not (is_address address)) bad_text ∷ []
guarded_replies_of (grant person list rank from until) it = refuse_if (not it.person) no_person ∷ refuse_if (not it.list) no_list ∷ refuse_if (int_lt until from) bad_days ∷ []
guarded_replies_of (revoke person list rank) it = refuse_if (not it.person) no_person ∷ refuse_if (not it.list) no_list ∷ []
guarded_replies_of (add list item) it =
    refuse_if (not it.list) no_list ∷ refuse_if (is_too_large item) too_large ∷ (it.message, already_known) ∷ refuse_if it.full list_full ∷ []
guarded_replies_of (withdraw list key party) it = refuse_if (not it.list) no_list ∷ refuse_if (not it.message) no_message ∷ refuse_if it.withdrawn already_withdrawn ∷ []
guarded_replies_of (restore list key) it = refuse_if (not it.list) no_list ∷ refuse_if (not it.message) no_message ∷ refuse_if (not it.withdrawn) not_withdrawn ∷ []
guarded_replies_of (embargo list key until) it = refuse_if (not it.list) no_list ∷ refuse_if (not it.message) no_message ∷ []
guarded_replies_of (lift list key) it = refuse_if (not it.list) no_list ∷ refuse_if (not it.message) no_message ∷ []

-- What a command makes of the archive, where none is so.
-- A new list is empty, and gathers its threads by subject (RFC 5256, THREAD=REFERENCES, step 5); a new person holds no grant and no
-- address. Profile: on one list a person has one grant of a rank, and a second takes its place; a person has at most one address, in ASCII
-- lower case as author keys are, and a new one replaces it. The author (1) or the board (2) withdraws a message, which the archive keeps.
abbrev pub archive_changed_by : Command → Archive → Archive
archive_changed_by (list_add name) a = record a { lists = a.lists ++ name ∷ []; options = a.options ++ default_list_option name ∷ [] }
archive_changed_by (merge_set list merge) a = record a { options = map (with_merge_setting list merge) a.options }
archive_changed_by (person_add name token) a = record a { persons = a.persons ++ record { name = name; token = token } ∷ [] }
archive_changed_by (address_set person address) a = record a { addresses = addresses_with a (record { person = person; address = normalize_address address }) }
archive_changed_by (grant person list rank from until) a =
    record a { grants = grants_with a (record { person = person; list = list; rank = rank; from_day = from; until_day = until }) }
archive_changed_by (revoke person list rank) a = record a { grants = filter (λ g. not (is_grant_of_rank person list rank g)) a.grants }
archive_changed_by (add list item) a = with_message a list item
archive_changed_by (withdraw list key party) a = with_changed_message a list key (with_withdrawal party)
archive_changed_by (restore list key) a = with_changed_message a list key (with_withdrawal (pos 0))
archive_changed_by (embargo list key until) a = with_changed_message a list key (with_embargo (Some until))
archive_changed_by (lift list key) a = with_changed_message a list key (with_embargo None)

-- and what it answers then
abbrev pub reply_if_carried_out : Command → CommandFacts → CommandReply
reply_if_carried_out (revoke person list rank) it = was_there it.grant
reply_if_carried_out (lift list key) it = was_there it.embargo
reply_if_carried_out (add list item) it = taken_in
reply_if_carried_out _ it = done

-- ---- the machine

-- the answer of the first test that is so, and the archive as it was; or else this
abbrev pub outcome_unless_guarded : Archive → List GuardedReply → StepOutcome → StepOutcome
outcome_unless_guarded a [] made = made
outcome_unless_guarded a (test ∷ tests) made = if test.0 then (a, test.1) else outcome_unless_guarded a tests made

-- One command, carried out whole or refused, under this limit of messages that a list holds: the archive afterwards, and the answer. (Profile)
abbrev pub step_within_limit : ℕ → Archive → Command → StepOutcome
step_within_limit limit a command =
    outcome_unless_guarded a (guarded_replies_of command (command_facts_within_limit limit a command))
    (archive_changed_by command a, reply_if_carried_out command (command_facts_within_limit limit a command))

abbrev pub step : Archive → Command → StepOutcome
step = step_within_limit message_limit
