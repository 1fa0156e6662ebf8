use Rattle.archive_usage.specs.Program.{grant_app, app_with_list_commands, person_add_app, person_address_app, app_with_person_commands, revoke_app, with_command}
use Rattle.archive_usage.proofs.building.person_program.Goals as goal

pub returns : goal.returns
unfolding app_with_person_commands
returns c =
    let naming = with_command app_with_list_commands person_add_app in
    let is_naming = c.in_ok-naming.ensures app_with_list_commands person_add_app c.in_ok-list_program.ensures c.in_ok-person_add_command.ensures in
    let addressing = with_command naming person_address_app in
    let is_addressing = c.in_ok-addressing.ensures naming person_address_app is_naming c.in_ok-person_address_command.ensures in
    let granting = with_command addressing grant_app in
    let is_granting = c.in_ok-granting.ensures addressing grant_app is_addressing c.in_ok-grant_command.ensures in
    c.with_command-4.ensures granting revoke_app is_granting c.in_ok-revoke_command.ensures
