use Rattle.mbox_items.proofs.SeparatorLemmas.{found_of, none_of}
use Rattle.mbox_items.proofs.separators.separator.Goals as goal

pub returns-clause-found : goal.returns-clause-found
returns-clause-found c = found_of c.read_content.result c.args.content.now c.read_content.ensures

pub returns-clause-none : goal.returns-clause-none
returns-clause-none c = none_of c.read_content.result c.args.content.now c.read_content.ensures
