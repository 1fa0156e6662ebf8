use Rattle.archive_usage.specs.Program.{empty_app}
use Rattle.archive_usage.proofs.building.new_command.Goals as goal

pub returns : goal.returns
unfolding empty_app
returns c = c.described.ensures (empty_app c.args.name.now) (record { app_is = c.new.ensures.app; has_no_globals = c.new.ensures.local })
