use Rattle.archive_usage.specs.Program.{archive_app, check_app, export_app, get_app, app_with_message_commands, serve_app, with_command}
use Rattle.archive_usage.proofs.building.program_usage.Goals as goal

pub returns : goal.returns
unfolding archive_app
returns c =
    let getting = with_command app_with_message_commands get_app in
    let is_getting = c.in_ok-getting.ensures app_with_message_commands get_app c.in_ok-mail_program.ensures c.in_ok-get_command.ensures in
    let exporting = with_command getting export_app in
    let is_exporting = c.in_ok-exporting.ensures getting export_app is_getting c.in_ok-export_command.ensures in
    let checking = with_command exporting check_app in
    let is_checking = c.in_ok-checking.ensures exporting check_app is_exporting c.in_ok-check_command.ensures in
    c.with_command-4.ensures checking serve_app is_checking c.in_ok-serve_command.ensures
