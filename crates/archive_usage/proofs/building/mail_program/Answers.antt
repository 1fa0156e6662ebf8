use Rattle.archive_usage.specs.Program.{embargo_app, import_app, lift_app, app_with_message_commands, app_with_person_commands, restore_app, with_command, withdraw_app}
use Rattle.archive_usage.proofs.building.mail_program.Goals as goal

pub returns : goal.returns
unfolding app_with_message_commands
returns c =
    let importing = with_command app_with_person_commands import_app in
    let is_importing = c.in_ok-importing.ensures app_with_person_commands import_app c.in_ok-person_program.ensures c.in_ok-import_command.ensures in
    let withdrawing = with_command importing withdraw_app in
    let is_withdrawing = c.in_ok-withdrawing.ensures importing withdraw_app is_importing c.in_ok-withdraw_command.ensures in
    let restoring = with_command withdrawing restore_app in
    let is_restoring = c.in_ok-restoring.ensures withdrawing restore_app is_withdrawing c.in_ok-restore_command.ensures in
    let holding = with_command restoring embargo_app in
    let is_holding = c.in_ok-holding.ensures restoring embargo_app is_restoring c.in_ok-embargo_command.ensures in
    c.with_command-5.ensures holding lift_app is_holding c.in_ok-lift_command.ensures
