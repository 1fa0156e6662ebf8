use Rattle.std.proofs.Common.{rules, tests, ◌∙◌}
use Rattle.std.proofs.lemmas.Iterator.{YieldsList-from_slice}
use Rattle.std.proofs.lemmas.Iterator.Search.{any_from_yields_List}
use Rattle.archive_model.specs.Questions.{is_address_of}
use Rattle.archive_memory.specs.Entries.{address_in}
use Rattle.archive_memory.proofs.MapLemmas.{any_map}
use Rattle.archive_memory.proofs.looking.has_address.Goals as goal

pub returns : goal.returns
returns c =
    any_from_yields_List (λ e. is_address_of c.args.person.now (address_in e)) _ _ _ c.any.ensures.ran (YieldsList-from_slice c.args.addresses.now (cc)) (λ x b q k. search (rules, tests))
    ∙ any_map (is_address_of c.args.person.now) address_in c.args.addresses.now
