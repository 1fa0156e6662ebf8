use Rattle.archive_desk.proofs.ReadableLemmas.{kept_by_steps, kept_by_runs, kept_by_items}
use Rattle.archive_desk.proofs.laws.commands_write_readable_archives.Goals as goal

pub returns-clause-step : goal.returns-clause-step
returns-clause-step c = kept_by_steps c.whole_items_stay_items.ensures

pub returns-clause-run : goal.returns-clause-run
returns-clause-run c = kept_by_runs c.whole_items_stay_items.ensures

pub returns-clause-taken : goal.returns-clause-taken
returns-clause-taken c = kept_by_items c.whole_items_stay_items.ensures
