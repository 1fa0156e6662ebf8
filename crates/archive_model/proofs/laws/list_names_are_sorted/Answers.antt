use Rattle.archive_model.proofs.OrderLemmas as order
use Rattle.archive_model.proofs.laws.list_names_are_sorted.Goals as goal

pub returns-clause-are : goal.returns-clause-are
returns-clause-are c = order.are_names

pub returns-clause-alone : goal.returns-clause-alone
returns-clause-alone c = order.names_are
