-- The command line of the program, as `clap` reads it.
use Rattle.std.specs.Prelude.{◌≡◌, codes, Some, true, false, if◌then◌else◌}
use Rattle.std.specs.Str.{bytes_eq}
use Rattle.clap.specs.Words.{App, Rule, Text, app_of, new_app, new_rule, rule_of, with_rule, with_subcommand}
use Rattle.clap.specs.declared.builder.Arg.{Arg}
use Rattle.clap.specs.declared.builder.Command.{Command}
use Rattle.clap.specs.declared.builder.Command.TheViews.{out-Command}

-- how a command reads words; none of its arguments is also its subcommands'
pub record CommandParsesAsApp (app : App) (command : Command) : Type 0 where
  pub app_is : app_of command ≡ app
  pub has_no_globals : (out-Command command).has_globals ≡ false

-- how an argument reads words; it is not also the subcommands'
pub record ArgParsesByRule (rule : Rule) (arg : Arg) : Type 0 where
  pub rule_is : rule_of arg ≡ rule
  pub is_not_global : arg.global ≡ false

-- an argument with one value
unfoldable pub valued_rule : Text → Rule
valued_rule name = record (new_rule name) { value_names = 1 }

-- `--NAME VALUE`, which need not be given
unfoldable pub option_rule : Text → Rule
option_rule name = record (valued_rule name) { long = Some name }

-- an argument that has to be given
unfoldable pub required_rule : Rule → Rule
required_rule rule = record rule { required = true }

-- a command with no argument yet
unfoldable pub empty_app : Text → App
empty_app name = new_app name

-- the command with `--NAME VALUE` more, which need not be given
unfoldable pub with_option : App → Text → App
with_option app name = with_rule app (option_rule name)

-- the same, which has to be given
unfoldable pub with_required_option : App → Text → App
with_required_option app name = with_rule app (required_rule (option_rule name))

-- the command with a word more in its place, which has to be given
unfoldable pub with_positional : App → Text → App
with_positional app name = with_rule app (required_rule (valued_rule name))

-- the program with a command more
unfoldable pub with_command : App → App → App
with_command app sub = with_subcommand app sub.top

-- ---- sift

-- when is read, and how old a message has to be
unfoldable pub sift_dates_app : App
sift_dates_app = with_option (with_option (empty_app (codes "sift")) (codes "day")) (codes "min-age")

unfoldable pub sift_app : App
sift_app = with_option (with_option (with_option sift_dates_app (codes "policy")) (codes "list")) (codes "standing")

-- ---- commands over a database

-- a command with the file of its database
abbrev pub database_app : Text → App
database_app name = with_required_option (empty_app name) (codes "db")

-- a command on a message: its list, and its key
abbrev pub message_app : Text → App
message_app name = with_positional (with_positional (database_app name) (codes "list")) (codes "key")

-- a command on what a person is granted on a list
abbrev pub grant_target_app : Text → App
grant_target_app name = with_positional (with_positional (with_positional (database_app name) (codes "person")) (codes "list")) (codes "kind")

unfoldable pub list_add_app : App
list_add_app = with_positional (database_app (codes "list-add")) (codes "name")

unfoldable pub merge_app : App
merge_app = with_positional (with_positional (database_app (codes "merge")) (codes "list")) (codes "merge")

unfoldable pub person_add_app : App
person_add_app = with_positional (with_positional (database_app (codes "person-add")) (codes "name")) (codes "token")

unfoldable pub person_address_app : App
person_address_app = with_positional (with_positional (database_app (codes "person-address")) (codes "person")) (codes "address")

unfoldable pub grant_app : App
grant_app = with_positional (with_positional (grant_target_app (codes "grant")) (codes "from")) (codes "until")

unfoldable pub revoke_app : App
revoke_app = grant_target_app (codes "revoke")

unfoldable pub import_app : App
import_app = with_positional (with_positional (database_app (codes "import")) (codes "list")) (codes "mbox")

unfoldable pub withdraw_app : App
withdraw_app = with_positional (message_app (codes "withdraw")) (codes "by")

unfoldable pub restore_app : App
restore_app = message_app (codes "restore")

unfoldable pub embargo_app : App
embargo_app = with_positional (message_app (codes "embargo")) (codes "until")

unfoldable pub lift_app : App
lift_app = message_app (codes "lift")

unfoldable pub check_app : App
check_app = database_app (codes "check")

-- ---- commands by a policy

-- a command over a database by a policy, which has to be given, on a day
abbrev pub policy_app : Text → App
policy_app name = with_option (with_required_option (database_app name) (codes "policy")) (codes "day")

-- a question of a reader on a list
abbrev pub reader_query_app : Text → App
reader_query_app name = with_positional (with_option (policy_app name) (codes "person")) (codes "list")

unfoldable pub get_app : App
get_app = with_positional (reader_query_app (codes "get")) (codes "key")

unfoldable pub export_app : App
export_app = reader_query_app (codes "export")

unfoldable pub serve_app : App
serve_app = with_required_option (with_required_option (policy_app (codes "serve")) (codes "port")) (codes "count")

-- ---- the program

-- the command with the version, whose words do not begin with the program's name
unfoldable pub with_version_flag : App → App
with_version_flag app = record app { top = record app.top { has_version = true; no_binary_name = true } }

-- the program without its commands; its words do not begin with its name
unfoldable pub bare_app : App
bare_app = with_version_flag (empty_app (codes "archive"))

-- `sift`, and the commands on lists
unfoldable pub app_with_list_commands : App
app_with_list_commands = with_command (with_command (with_command bare_app sift_app) list_add_app) merge_app

-- those, and the commands on persons
unfoldable pub app_with_person_commands : App
app_with_person_commands =
    with_command (with_command (with_command (with_command app_with_list_commands person_add_app) person_address_app) grant_app) revoke_app

-- those, and the commands on messages
unfoldable pub app_with_message_commands : App
app_with_message_commands =
    with_command (with_command (with_command (with_command (with_command app_with_person_commands import_app) withdraw_app)
    restore_app) embargo_app) lift_app

-- the program, which may go without a command
unfoldable pub archive_app : App
archive_app = with_command (with_command (with_command (with_command app_with_message_commands get_app) export_app) check_app) serve_app

-- the command of a name alone; the program, where there is no such command
unfoldable pub app_named : Text → App
app_named name =
    if bytes_eq name (codes "sift") then sift_app
    else if bytes_eq name (codes "list-add") then list_add_app
    else if bytes_eq name (codes "merge") then merge_app
    else if bytes_eq name (codes "person-add") then person_add_app
    else if bytes_eq name (codes "person-address") then person_address_app
    else if bytes_eq name (codes "grant") then grant_app
    else if bytes_eq name (codes "revoke") then revoke_app
    else if bytes_eq name (codes "import") then import_app
    else if bytes_eq name (codes "withdraw") then withdraw_app
    else if bytes_eq name (codes "restore") then restore_app
    else if bytes_eq name (codes "embargo") then embargo_app
    else if bytes_eq name (codes "lift") then lift_app
    else if bytes_eq name (codes "get") then get_app
    else if bytes_eq name (codes "export") then export_app
    else if bytes_eq name (codes "check") then check_app
    else if bytes_eq name (codes "serve") then serve_app
    else archive_app
