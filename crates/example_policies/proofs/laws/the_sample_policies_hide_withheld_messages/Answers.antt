use Rattle.example_policies.proofs.SampleLemmas as lemmas
use Rattle.example_policies.proofs.laws.the_sample_policies_hide_withheld_messages.Goals as goal

pub returns-clause-seeds : goal.returns-clause-seeds
returns-clause-seeds c = lemmas.seeds

pub returns-clause-members : goal.returns-clause-members
returns-clause-members c = lemmas.members

pub returns-clause-promised : goal.returns-clause-promised
returns-clause-promised c = lemmas.promised

pub returns-clause-held_back : goal.returns-clause-held_back
returns-clause-held_back c = lemmas.held_back
