-- Worked examples of what words order: each row of the command line, and words that order nothing.
use Rattle.std.proofs.Common.{◌≡◌, pos, [], ◌∷◌, Some, None, true, false, refl, codes}
use Rattle.clap.specs.Words.{fault_of, takes}
use Rattle.clap.specs.declared.error.kind.ErrorKind.TheVariants as error
use Rattle.civil_time.specs.Calendar.{days_before_year, days_in_first_months}
use Rattle.policy_core.specs.declared.access.Standing.TheVariants.{Public, Member}
use Rattle.archive_usage.proofs.OnLiterals.{archive_on_literals}
use Rattle.policy_core.specs.declared.access.GrantKind.TheVariants as kind
use Rattle.policy_core.specs.declared.access.WithdrawnBy.TheVariants as party
use Rattle.archive_args.specs.declared.orders.Order.TheVariants.{Sift, Table, Import, Get, Export, Check, Serve}
use Rattle.archive_args.specs.Values.{list_add, merge, person_add, person_address, grant, revoke, withdraw, restore, embargo, lift}
use Rattle.archive_args.specs.Program.{archive_app}
use Rattle.archive_args.specs.Orders.{order_of_args, number_up_to, age_of_text}

-- 12131 is 20 March 2003, and 12132 the day after.

-- ---- sift

no_words : order_of_args [] ≡ Some (Sift (record { day = None; min_age = None; policy = None; list = codes "inbox"; standing = Public }))
unfolding archive_on_literals
no_words = refl

no_words_taken : takes archive_app [] ≡ true
unfolding archive_on_literals
no_words_taken = refl

by_age : order_of_args (codes "sift" ∷ codes "--min-age" ∷ codes "10" ∷ codes "--standing=member" ∷ [])
    ≡ Some (Sift (record { day = None; min_age = Some 10; policy = None; list = codes "inbox"; standing = Member }))
unfolding archive_on_literals number_up_to
by_age = refl

by_policy : order_of_args (codes "sift" ∷ codes "--policy" ∷ codes "p" ∷ codes "--list" ∷ codes "soc" ∷ codes "--day" ∷ codes "2003-03-20" ∷ [])
    ≡ Some (Sift (record { day = Some (pos 12131); min_age = None; policy = Some (codes "p"); list = codes "soc"; standing = Public }))
unfolding archive_on_literals days_before_year days_in_first_months
by_policy = refl

-- ---- commands over a database

adds_list : order_of_args (codes "list-add" ∷ codes "--db" ∷ codes "f" ∷ codes "soc" ∷ [])
    ≡ Some (Table (record { file = codes "f"; command = list_add (codes "soc") }))
unfolding archive_on_literals
adds_list = refl

joins_by_subject : order_of_args (codes "merge" ∷ codes "--db" ∷ codes "f" ∷ codes "soc" ∷ codes "yes" ∷ [])
    ≡ Some (Table (record { file = codes "f"; command = merge (codes "soc") true }))
unfolding archive_on_literals
joins_by_subject = refl

joins_no_more : order_of_args (codes "merge" ∷ codes "soc" ∷ codes "no" ∷ codes "--db=f" ∷ [])
    ≡ Some (Table (record { file = codes "f"; command = merge (codes "soc") false }))
unfolding archive_on_literals
joins_no_more = refl

adds_person : order_of_args (codes "person-add" ∷ codes "--db" ∷ codes "f" ∷ codes "anna" ∷ codes "t" ∷ [])
    ≡ Some (Table (record { file = codes "f"; command = person_add (codes "anna") (codes "t") }))
unfolding archive_on_literals
adds_person = refl

changes_address : order_of_args (codes "person-address" ∷ codes "--db" ∷ codes "f" ∷ codes "anna" ∷ codes "Anna@Example.org" ∷ [])
    ≡ Some (Table (record { file = codes "f"; command = person_address (codes "anna") (codes "Anna@Example.org") }))
unfolding archive_on_literals
changes_address = refl

grants : order_of_args (codes "grant" ∷ codes "anna" ∷ codes "soc" ∷ codes "member" ∷ codes "2003-03-20" ∷ codes "2003-03-21" ∷ codes "--db=f" ∷ [])
    ≡ Some (Table (record { file = codes "f"; command = grant (codes "anna") (codes "soc") kind.Member (pos 12131) (pos 12132) }))
unfolding archive_on_literals days_before_year days_in_first_months
grants = refl

revokes : order_of_args (codes "revoke" ∷ codes "--db" ∷ codes "f" ∷ codes "anna" ∷ codes "soc" ∷ codes "subscriber" ∷ [])
    ≡ Some (Table (record { file = codes "f"; command = revoke (codes "anna") (codes "soc") kind.Subscriber }))
unfolding archive_on_literals
revokes = refl

withdraws : order_of_args (codes "withdraw" ∷ codes "--db" ∷ codes "f" ∷ codes "soc" ∷ codes "k" ∷ codes "board" ∷ [])
    ≡ Some (Table (record { file = codes "f"; command = withdraw (codes "soc") (codes "k") party.Board }))
unfolding archive_on_literals
withdraws = refl

restores : order_of_args (codes "restore" ∷ codes "--db" ∷ codes "f" ∷ codes "soc" ∷ codes "k" ∷ [])
    ≡ Some (Table (record { file = codes "f"; command = restore (codes "soc") (codes "k") }))
unfolding archive_on_literals
restores = refl

embargoes : order_of_args (codes "embargo" ∷ codes "--db" ∷ codes "f" ∷ codes "soc" ∷ codes "k" ∷ codes "2003-03-20" ∷ [])
    ≡ Some (Table (record { file = codes "f"; command = embargo (codes "soc") (codes "k") (pos 12131) }))
unfolding archive_on_literals days_before_year days_in_first_months
embargoes = refl

lifts : order_of_args (codes "lift" ∷ codes "--db" ∷ codes "f" ∷ codes "soc" ∷ codes "k" ∷ [])
    ≡ Some (Table (record { file = codes "f"; command = lift (codes "soc") (codes "k") }))
unfolding archive_on_literals
lifts = refl

-- ---- mboxes and questions of a reader

imports : order_of_args (codes "import" ∷ codes "--db" ∷ codes "f" ∷ codes "soc" ∷ codes "m" ∷ [])
    ≡ Some (Import (record { file = codes "f"; list = codes "soc"; mbox = codes "m" }))
unfolding archive_on_literals
imports = refl

gets : order_of_args (codes "get" ∷ codes "--db" ∷ codes "f" ∷ codes "--policy" ∷ codes "p" ∷ codes "--day" ∷ codes "2003-03-20" ∷ codes "--person" ∷ codes "anna" ∷ codes "soc" ∷ codes "k" ∷ [])
    ≡ Some (Get (record {
      ask = record { file = codes "f"; policy = codes "p"; day = Some (pos 12131); person = Some (codes "anna"); list = codes "soc" };
      key = codes "k";
    }))
unfolding archive_on_literals days_before_year days_in_first_months
gets = refl

gets_as_nobody : order_of_args (codes "get" ∷ codes "soc" ∷ codes "k" ∷ codes "--policy" ∷ codes "p" ∷ codes "--db" ∷ codes "f" ∷ [])
    ≡ Some (Get (record {
      ask = record { file = codes "f"; policy = codes "p"; day = None; person = None; list = codes "soc" };
      key = codes "k";
    }))
unfolding archive_on_literals
gets_as_nobody = refl

exports : order_of_args (codes "export" ∷ codes "--db" ∷ codes "f" ∷ codes "--policy" ∷ codes "p" ∷ codes "--person" ∷ codes "anna" ∷ codes "soc" ∷ [])
    ≡ Some (Export (record { file = codes "f"; policy = codes "p"; day = None; person = Some (codes "anna"); list = codes "soc" }))
unfolding archive_on_literals
exports = refl

-- ---- a check

checks : order_of_args (codes "check" ∷ codes "--db" ∷ codes "f" ∷ [])
    ≡ Some (Check (record { file = codes "f" }))
unfolding archive_on_literals
checks = refl

-- ---- requests over HTTP

serves : order_of_args (codes "serve" ∷ codes "--db" ∷ codes "f" ∷ codes "--policy" ∷ codes "p" ∷ codes "--port" ∷ codes "8080" ∷ codes "--count" ∷ codes "1000000" ∷ [])
    ≡ Some (Serve (record { file = codes "f"; policy = codes "p"; day = None; port = 8080; count = 1000000 }))
unfolding archive_on_literals number_up_to
serves = refl

serves_at_the_ends : order_of_args (codes "serve" ∷ codes "--db" ∷ codes "f" ∷ codes "--policy" ∷ codes "p" ∷ codes "--day" ∷ codes "2003-03-20"
    ∷ codes "--port" ∷ codes "65535" ∷ codes "--count" ∷ codes "0" ∷ [])
    ≡ Some (Serve (record { file = codes "f"; policy = codes "p"; day = Some (pos 12131); port = 65535; count = 0 }))
unfolding archive_on_literals days_before_year days_in_first_months number_up_to
serves_at_the_ends = refl

-- ---- values that are none of their kind

no_age : order_of_args (codes "sift" ∷ codes "--min-age" ∷ codes "x" ∷ [])
    ≡ None
unfolding archive_on_literals number_up_to
no_age = refl

age_too_great : order_of_args (codes "sift" ∷ codes "--min-age" ∷ codes "36501" ∷ [])
    ≡ None
unfolding archive_on_literals number_up_to
age_too_great = refl

no_standing : order_of_args (codes "sift" ∷ codes "--standing" ∷ codes "owner" ∷ [])
    ≡ None
unfolding archive_on_literals
no_standing = refl

no_day : order_of_args (codes "embargo" ∷ codes "--db" ∷ codes "f" ∷ codes "soc" ∷ codes "k" ∷ codes "2003-02-29" ∷ [])
    ≡ None
unfolding archive_on_literals days_before_year days_in_first_months
no_day = refl

no_reading_day : order_of_args (codes "export" ∷ codes "--db" ∷ codes "f" ∷ codes "--policy" ∷ codes "p" ∷ codes "--day" ∷ codes "today" ∷ codes "soc" ∷ [])
    ≡ None
unfolding archive_on_literals
no_reading_day = refl

no_kind : order_of_args (codes "grant" ∷ codes "anna" ∷ codes "soc" ∷ codes "owner" ∷ codes "2003-03-20" ∷ codes "2003-03-21" ∷ codes "--db=f" ∷ [])
    ≡ None
unfolding archive_on_literals
no_kind = refl

no_party : order_of_args (codes "withdraw" ∷ codes "--db" ∷ codes "f" ∷ codes "soc" ∷ codes "k" ∷ codes "moderator" ∷ [])
    ≡ None
unfolding archive_on_literals
no_party = refl

no_yes_and_no_no : order_of_args (codes "merge" ∷ codes "--db" ∷ codes "f" ∷ codes "soc" ∷ codes "Yes" ∷ [])
    ≡ None
unfolding archive_on_literals
no_yes_and_no_no = refl

port_too_great : order_of_args (codes "serve" ∷ codes "--db" ∷ codes "f" ∷ codes "--policy" ∷ codes "p" ∷ codes "--port" ∷ codes "65536" ∷ codes "--count" ∷ codes "1" ∷ [])
    ≡ None
unfolding archive_on_literals number_up_to
port_too_great = refl

count_too_great : order_of_args (codes "serve" ∷ codes "--db" ∷ codes "f" ∷ codes "--policy" ∷ codes "p" ∷ codes "--port" ∷ codes "1" ∷ codes "--count" ∷ codes "1000001" ∷ [])
    ≡ None
unfolding archive_on_literals number_up_to
count_too_great = refl

-- A value that is none of its kind is a fault of the words for this program alone; names and keys are any texts.

age_is_any_text : fault_of archive_app (codes "sift" ∷ codes "--min-age" ∷ codes "x" ∷ []) ≡ []
unfolding archive_on_literals number_up_to
age_is_any_text = refl

any_name : order_of_args (codes "list-add" ∷ codes "--db" ∷ codes "f" ∷ codes "S/1" ∷ [])
    ≡ Some (Table (record { file = codes "f"; command = list_add (codes "S/1") }))
unfolding archive_on_literals
any_name = refl

-- whether an address is one is asked of the archive, after the person
any_address : order_of_args (codes "person-address" ∷ codes "--db" ∷ codes "f" ∷ codes "anna" ∷ [] ∷ [])
    ≡ Some (Table (record { file = codes "f"; command = person_address (codes "anna") [] }))
unfolding archive_on_literals
any_address = refl

-- ---- numbers

greatest_age : age_of_text (codes "36500") ≡ Some 36500
unfolding number_up_to
greatest_age = refl

zeros_before : age_of_text (codes "007") ≡ Some 7
unfolding number_up_to
zeros_before = refl

with_a_sign : age_of_text (codes "+7") ≡ None
unfolding number_up_to
with_a_sign = refl

no_digit : age_of_text [] ≡ None
unfolding number_up_to
no_digit = refl

-- ---- words that `clap` refuses

near_miss : takes archive_app (codes "shift" ∷ []) ≡ false
unfolding archive_on_literals
near_miss = refl

near_miss_is_no_command : fault_of archive_app (codes "shift" ∷ []) ≡ error.UnknownArgument ∷ error.InvalidSubcommand ∷ []
unfolding archive_on_literals
near_miss_is_no_command = refl

without_file : fault_of archive_app (codes "lift" ∷ codes "soc" ∷ codes "k" ∷ []) ≡ error.MissingRequiredArgument ∷ []
unfolding archive_on_literals
without_file = refl

checks_no_list : fault_of archive_app (codes "check" ∷ codes "--db" ∷ codes "f" ∷ codes "soc" ∷ []) ≡ error.UnknownArgument ∷ []
unfolding archive_on_literals
checks_no_list = refl

without_merge : fault_of archive_app (codes "merge" ∷ codes "--db" ∷ codes "f" ∷ codes "soc" ∷ []) ≡ error.MissingRequiredArgument ∷ []
unfolding archive_on_literals
without_merge = refl

two_addresses : fault_of archive_app (codes "person-address" ∷ codes "--db" ∷ codes "f" ∷ codes "anna" ∷ codes "a" ∷ codes "b" ∷ []) ≡ error.UnknownArgument ∷ []
unfolding archive_on_literals
two_addresses = refl

without_key : fault_of archive_app (codes "lift" ∷ codes "--db" ∷ codes "f" ∷ codes "soc" ∷ []) ≡ error.MissingRequiredArgument ∷ []
unfolding archive_on_literals
without_key = refl

without_policy : fault_of archive_app (codes "export" ∷ codes "--db" ∷ codes "f" ∷ codes "soc" ∷ []) ≡ error.MissingRequiredArgument ∷ []
unfolding archive_on_literals
without_policy = refl

without_count : fault_of archive_app (codes "serve" ∷ codes "--db" ∷ codes "f" ∷ codes "--policy" ∷ codes "p" ∷ codes "--port" ∷ codes "1" ∷ []) ≡ error.MissingRequiredArgument ∷ []
unfolding archive_on_literals
without_count = refl

a_word_too_many : fault_of archive_app (codes "restore" ∷ codes "--db" ∷ codes "f" ∷ codes "soc" ∷ codes "k" ∷ codes "k" ∷ []) ≡ error.UnknownArgument ∷ []
unfolding archive_on_literals
a_word_too_many = refl

option_of_another : fault_of archive_app (codes "import" ∷ codes "--db" ∷ codes "f" ∷ codes "--policy" ∷ codes "p" ∷ codes "soc" ∷ codes "m" ∷ []) ≡ error.UnknownArgument ∷ []
unfolding archive_on_literals
option_of_another = refl

option_without_value : fault_of archive_app (codes "export" ∷ codes "--db" ∷ codes "f" ∷ codes "soc" ∷ codes "--policy" ∷ []) ≡ error.InvalidValue ∷ []
unfolding archive_on_literals
option_without_value = refl

age_below_nothing : fault_of archive_app (codes "sift" ∷ codes "--min-age" ∷ codes "-1" ∷ []) ≡ error.UnknownArgument ∷ []
unfolding archive_on_literals
age_below_nothing = refl

-- ---- help and the version

help : fault_of archive_app (codes "--help" ∷ []) ≡ error.DisplayHelp ∷ []
unfolding archive_on_literals
help = refl

-- `clap` says of its own word `help` that it may be followed by no name of a command
help_word : fault_of archive_app (codes "help" ∷ []) ≡ error.DisplayHelp ∷ error.InvalidSubcommand ∷ []
unfolding archive_on_literals
help_word = refl

help_of_export : fault_of archive_app (codes "export" ∷ codes "--help" ∷ []) ≡ error.DisplayHelp ∷ []
unfolding archive_on_literals
help_of_export = refl

version : fault_of archive_app (codes "--version" ∷ []) ≡ error.DisplayVersion ∷ []
unfolding archive_on_literals
version = refl
