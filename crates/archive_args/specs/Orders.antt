-- What the words of a command line order, with each value read.
use Rattle.std.specs.Prelude.{◌≡◌, ◌≢◌, ◌⊎◌, ⊤, ℕ, Bool, ◌&&◌, nat_le, List, [], ◌∷◌, true, false, codes, Option, Some, None, if◌then◌else◌, option_map, ℤ}
use Rattle.std.specs.List.{list_all}
use Rattle.std.specs.Char.{is_ascii_digit}
use Rattle.std.specs.Str.{bytes_eq}
use Rattle.std.specs.Str.Parse.{digits_value}
use Rattle.clap.specs.Words.{IsAmong, Row, Text, fault_of, first_of, subcommand_of}
use Rattle.clap.specs.declared.error.kind.ErrorKind.{ErrorKind}
use Rattle.clap.specs.declared.error.kind.ErrorKind.TheVariants as kind
use Rattle.civil_time.specs.Calendar.{day_of_text}
use Rattle.policy_core.specs.declared.access.Standing.{Standing}
use Rattle.policy_core.specs.declared.access.Standing.TheVariants.{Public}
use Rattle.policy_core.specs.Written.{standing_named}
use Rattle.policy_core.specs.declared.access.GrantKind.{GrantKind}
use Rattle.policy_core.specs.declared.access.GrantKind.TheVariants.{Member, Subscriber, Moderator}
use Rattle.policy_core.specs.declared.access.WithdrawnBy.{WithdrawnBy}
use Rattle.policy_core.specs.declared.access.WithdrawnBy.TheVariants.{Author, Board}
use Rattle.archive_args.specs.declared.orders.Order.{Order}
use Rattle.archive_args.specs.declared.orders.Order.TheVariants.{Sift, Table, Import, Get, Export, Check, Serve}
use Rattle.archive_args.specs.declared.orders.OrderStop.{OrderStop}
use Rattle.archive_args.specs.declared.orders.OrderStop.TheVariants.{Help, Words, Memory}
use Rattle.archive_args.specs.Values.{AskValues, StoreCommandValues, StoreCommand, list_add, merge, person_add, person_address, grant, revoke, withdraw, restore, embargo, lift}
use Rattle.archive_args.specs.Program.{archive_app}

-- ---- values

-- one decimal digit or more, and nothing else
abbrev pub is_decimal : List ℕ → Bool
is_decimal [] = false
is_decimal (c ∷ cs) = list_all is_ascii_digit (c ∷ cs)

-- a number in decimal digits, 0 to the greatest
unfoldable pub number_up_to : ℕ → List ℕ → Option ℕ
number_up_to greatest text =
    if is_decimal text && nat_le (digits_value 10 text) greatest then Some (digits_value 10 text) else None

-- an age in days
abbrev pub age_of_text : List ℕ → Option ℕ
age_of_text = number_up_to 36500

-- a port of TCP; at 0 the system chooses one
abbrev pub port_of_text : List ℕ → Option ℕ
port_of_text = number_up_to 65535

-- how many connections are answered
abbrev pub count_of_text : List ℕ → Option ℕ
count_of_text = number_up_to 1000000

abbrev pub grant_kind_named : List ℕ → Option GrantKind
grant_kind_named word =
    if bytes_eq word (codes "member") then Some Member
    else if bytes_eq word (codes "subscriber") then Some Subscriber
    else if bytes_eq word (codes "moderator") then Some Moderator
    else None

abbrev pub withdrawn_by_named : List ℕ → Option WithdrawnBy
withdrawn_by_named word =
    if bytes_eq word (codes "author") then Some Author
    else if bytes_eq word (codes "board") then Some Board
    else None

abbrev pub yes_or_no : List ℕ → Option Bool
yes_or_no word =
    if bytes_eq word (codes "yes") then Some true
    else if bytes_eq word (codes "no") then Some false
    else None

-- a value that need not be given: nothing, or what its reader makes of the text
abbrev pub read_optional : {A : Type 0} → (List ℕ → Option A) → Option Text → Option (Option A)
read_optional read None = Some None
read_optional read (Some text) = option_map (λ a. Some a) (read text)

-- what follows on a value, where there is one
abbrev pub option_bind : {A B : Type 0} → Option A → (A → Option B) → Option B
option_bind None next = None
option_bind (Some a) next = next a

-- a value that has to be given, and that its reader has to take
abbrev pub read_required : {A : Type 0} → (List ℕ → Option A) → List ℕ → List Row → Option A
read_required read name rows = option_bind (first_of name rows) read

-- ---- sift

-- the list that the messages are taken to be of: any text is the name of one
abbrev pub list_or_inbox : Option Text → Text
list_or_inbox None = codes "inbox"
list_or_inbox (Some name) = name

-- the reader's standing, by the words of a policy
abbrev pub standing_or_public : Option Text → Option Standing
standing_or_public None = Some Public
standing_or_public (Some word) = standing_named word

-- all values have to be readable
abbrev pub sift_order_of_values : Option (Option ℤ) → Option (Option ℕ) → Option Text → Text → Option Standing → Option Order
sift_order_of_values (Some day) (Some min_age) policy list (Some standing) =
    Some (Sift (record { day = day; min_age = min_age; policy = policy; list = list; standing = standing }))
sift_order_of_values None min_age policy list standing = None
sift_order_of_values (Some day) None policy list standing = None
sift_order_of_values (Some day) (Some min_age) policy list None = None

abbrev pub sift_order_of_rows : List Row → Option Order
sift_order_of_rows rows = sift_order_of_values
    (read_optional day_of_text (first_of (codes "day") rows))
    (read_optional age_of_text (first_of (codes "min-age") rows))
    (first_of (codes "policy") rows)
    (list_or_inbox (first_of (codes "list") rows))
    (standing_or_public (first_of (codes "standing") rows))

-- ---- commands over a database

abbrev pub list_add_command_of_rows : List Row → Option StoreCommand
list_add_command_of_rows rows = option_bind (first_of (codes "name") rows) (λ name. Some (list_add name))

abbrev pub merge_command_of_rows : List Row → Option StoreCommand
merge_command_of_rows rows =
    option_bind (first_of (codes "list") rows) (λ list.
    option_bind (read_required yes_or_no (codes "merge") rows) (λ merged. Some (merge list merged)))

abbrev pub person_add_command_of_rows : List Row → Option StoreCommand
person_add_command_of_rows rows =
    option_bind (first_of (codes "name") rows) (λ name.
    option_bind (first_of (codes "token") rows) (λ token. Some (person_add name token)))

abbrev pub person_address_command_of_rows : List Row → Option StoreCommand
person_address_command_of_rows rows =
    option_bind (first_of (codes "person") rows) (λ person.
    option_bind (first_of (codes "address") rows) (λ address. Some (person_address person address)))

abbrev pub grant_command_of_rows : List Row → Option StoreCommand
grant_command_of_rows rows =
    option_bind (first_of (codes "person") rows) (λ person.
    option_bind (first_of (codes "list") rows) (λ list.
    option_bind (read_required grant_kind_named (codes "kind") rows) (λ kind.
    option_bind (read_required day_of_text (codes "from") rows) (λ from.
    option_bind (read_required day_of_text (codes "until") rows) (λ until. Some (grant person list kind from until))))))

abbrev pub revoke_command_of_rows : List Row → Option StoreCommand
revoke_command_of_rows rows =
    option_bind (first_of (codes "person") rows) (λ person.
    option_bind (first_of (codes "list") rows) (λ list.
    option_bind (read_required grant_kind_named (codes "kind") rows) (λ kind. Some (revoke person list kind))))

-- a command on a message, from its list and its key
abbrev pub with_list_and_key : List Row → (Text → Text → Option StoreCommand) → Option StoreCommand
with_list_and_key rows next = option_bind (first_of (codes "list") rows) (λ list. option_bind (first_of (codes "key") rows) (λ key. next list key))

abbrev pub withdraw_command_of_rows : List Row → Option StoreCommand
withdraw_command_of_rows rows = with_list_and_key rows (λ list key. option_bind (read_required withdrawn_by_named (codes "by") rows) (λ by. Some (withdraw list key by)))

abbrev pub restore_command_of_rows : List Row → Option StoreCommand
restore_command_of_rows rows = with_list_and_key rows (λ list key. Some (restore list key))

abbrev pub embargo_command_of_rows : List Row → Option StoreCommand
embargo_command_of_rows rows =
    with_list_and_key rows (λ list key. option_bind (read_required day_of_text (codes "until") rows) (λ until. Some (embargo list key until)))

abbrev pub lift_command_of_rows : List Row → Option StoreCommand
lift_command_of_rows rows = with_list_and_key rows (λ list key. Some (lift list key))

abbrev pub command_named : Text → List Row → Option StoreCommand
command_named name rows =
    if bytes_eq name (codes "list-add") then list_add_command_of_rows rows
    else if bytes_eq name (codes "merge") then merge_command_of_rows rows
    else if bytes_eq name (codes "person-add") then person_add_command_of_rows rows
    else if bytes_eq name (codes "person-address") then person_address_command_of_rows rows
    else if bytes_eq name (codes "grant") then grant_command_of_rows rows
    else if bytes_eq name (codes "revoke") then revoke_command_of_rows rows
    else if bytes_eq name (codes "withdraw") then withdraw_command_of_rows rows
    else if bytes_eq name (codes "restore") then restore_command_of_rows rows
    else if bytes_eq name (codes "embargo") then embargo_command_of_rows rows
    else if bytes_eq name (codes "lift") then lift_command_of_rows rows
    else None

abbrev pub store_values_of_rows : Text → List Row → Option StoreCommandValues
store_values_of_rows name rows =
    option_bind (first_of (codes "db") rows) (λ file.
    option_bind (command_named name rows) (λ command. Some (record { file = file; command = command })))

-- ---- an mbox

abbrev pub import_order_of_rows : List Row → Option Order
import_order_of_rows rows =
    option_bind (first_of (codes "db") rows) (λ file.
    option_bind (first_of (codes "list") rows) (λ list.
    option_bind (first_of (codes "mbox") rows) (λ mbox. Some (Import (record { file = file; list = list; mbox = mbox })))))

-- ---- questions of a reader

-- a question on a list; without a person nobody asks
abbrev pub ask_values_of_rows : List Row → Option AskValues
ask_values_of_rows rows =
    option_bind (first_of (codes "db") rows) (λ file.
    option_bind (first_of (codes "policy") rows) (λ policy.
    option_bind (read_optional day_of_text (first_of (codes "day") rows)) (λ day.
    option_bind (first_of (codes "list") rows) (λ list.
    Some (record { file = file; policy = policy; day = day; person = first_of (codes "person") rows; list = list })))))

abbrev pub get_order_of_rows : List Row → Option Order
get_order_of_rows rows =
    option_bind (ask_values_of_rows rows) (λ asked. option_bind (first_of (codes "key") rows) (λ key. Some (Get (record { ask = asked; key = key }))))

abbrev pub export_order_of_rows : List Row → Option Order
export_order_of_rows rows = option_map Export (ask_values_of_rows rows)

-- ---- a check

abbrev pub check_order_of_rows : List Row → Option Order
check_order_of_rows rows = option_bind (first_of (codes "db") rows) (λ file. Some (Check (record { file = file })))

-- ---- requests over HTTP

abbrev pub serve_order_of_rows : List Row → Option Order
serve_order_of_rows rows =
    option_bind (first_of (codes "db") rows) (λ file.
    option_bind (first_of (codes "policy") rows) (λ policy.
    option_bind (read_optional day_of_text (first_of (codes "day") rows)) (λ day.
    option_bind (read_required port_of_text (codes "port") rows) (λ port.
    option_bind (read_required count_of_text (codes "count") rows) (λ count.
    Some (Serve (record { file = file; policy = policy; day = day; port = port; count = count })))))))

-- ---- orders

abbrev pub order_named : Text → List Row → Option Order
order_named name rows =
    if bytes_eq name (codes "sift") then sift_order_of_rows rows
    else if bytes_eq name (codes "import") then import_order_of_rows rows
    else if bytes_eq name (codes "get") then get_order_of_rows rows
    else if bytes_eq name (codes "export") then export_order_of_rows rows
    else if bytes_eq name (codes "check") then check_order_of_rows rows
    else if bytes_eq name (codes "serve") then serve_order_of_rows rows
    else option_map Table (store_values_of_rows name rows)

-- the order of the command that the words name, with the values that were found; no command is `sift`
abbrev pub order_of : Option (Text × List Row) → Option Order
order_of None = Some (Sift (record { day = None; min_age = None; policy = None; list = codes "inbox"; standing = Public }))
order_of (Some (name, rows)) = order_named name rows

-- the order of some words, where the program takes them
abbrev pub order_of_args : List Text → Option Order
order_of_args words = order_of (subcommand_of archive_app words)

-- ---- words that order nothing

-- help or the version is asked for
abbrev pub AsksForHelp : List Text → Type 0
AsksForHelp words =
    IsAmong kind.DisplayHelp (fault_of archive_app words) ⊎ IsAmong kind.DisplayVersion (fault_of archive_app words)

-- `clap` has a fault to tell of the words, and not for a wish for help
abbrev pub HasParseError : List Text → Type 0
HasParseError words =
    (k : ErrorKind) × IsAmong k (fault_of archive_app words) × (k ≢ kind.DisplayHelp) × (k ≢ kind.DisplayVersion)

-- bad words: `clap` refuses them, or it takes them and a value is none of its kind
abbrev pub IsUsageError : List Text → Type 0
IsUsageError words = HasParseError words ⊎ ((fault_of archive_app words ≡ []) × (order_of_args words ≡ None))

-- why words order nothing; memory may lack at any words
abbrev pub IsOrderStopOf : List Text → OrderStop → Type 0
IsOrderStopOf words (Help text) = AsksForHelp words
IsOrderStopOf words (Words text) = IsUsageError words
IsOrderStopOf words Memory = ⊤

-- the stop for a fault of this kind
abbrev pub IsOrderStopOfKind : ErrorKind → OrderStop → Type 0
IsOrderStopOfKind k (Help text) = (k ≡ kind.DisplayHelp) ⊎ (k ≡ kind.DisplayVersion)
IsOrderStopOfKind k (Words text) = (k ≢ kind.OutOfMemory) × (k ≢ kind.DisplayHelp) × (k ≢ kind.DisplayVersion)
IsOrderStopOfKind k Memory = ⊤

-- the stop says that there was no memory
abbrev pub IsOutOfMemoryStop : OrderStop → Type 0
IsOutOfMemoryStop Memory = Unit {0}
IsOutOfMemoryStop (Help text) = ⊥
IsOutOfMemoryStop (Words text) = ⊥
