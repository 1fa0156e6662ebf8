-- What a proof unfolds to compute what the program makes of words that are written out.
use Rattle.std.specs.Prelude.{⊤}
use Rattle.clap.proofs.OnLiterals.{clap_on_literals}
use Rattle.archive_usage.specs.Program.{valued_rule, option_rule, required_rule, empty_app, with_option, with_required_option, with_positional, with_command, with_version_flag}
use Rattle.archive_usage.specs.Program.{archive_app, app_with_message_commands, app_with_person_commands, app_with_list_commands, bare_app, sift_dates_app, sift_app}
use Rattle.archive_usage.specs.Program.{list_add_app, merge_app, person_add_app, person_address_app, grant_app, revoke_app}
use Rattle.archive_usage.specs.Program.{import_app, withdraw_app, restore_app, embargo_app, lift_app, get_app, export_app, check_app, serve_app}

unfoldable pub archive_on_literals : ⊤
unfolding valued_rule option_rule required_rule empty_app with_option with_required_option with_positional with_command with_version_flag archive_app app_with_message_commands
    app_with_person_commands app_with_list_commands bare_app
    sift_app sift_dates_app list_add_app merge_app person_add_app person_address_app grant_app revoke_app import_app withdraw_app restore_app embargo_app lift_app
    get_app export_app check_app serve_app clap_on_literals
archive_on_literals = tt
