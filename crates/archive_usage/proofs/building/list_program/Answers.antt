use Rattle.archive_usage.specs.Program.{bare_app, list_add_app, app_with_list_commands, merge_app, sift_app, with_command}
use Rattle.archive_usage.proofs.building.list_program.Goals as goal

pub returns : goal.returns
unfolding app_with_list_commands
returns c =
    let sifting = with_command bare_app sift_app in
    let is_sifting = c.in_ok-sifting.ensures bare_app sift_app c.in_ok-bare_program.ensures c.in_ok-sift_command.ensures in
    let listing = with_command sifting list_add_app in
    let is_listing = c.in_ok-listing.ensures sifting list_add_app is_sifting c.in_ok-list_add_command.ensures in
    c.with_command-3.ensures listing merge_app is_listing c.in_ok-merge_command.ensures
