use Rattle.std.proofs.Common.{rules, tests, bytes_eq, ◌∙◌}
use Rattle.std.proofs.lemmas.Iterator.{YieldsList-from_slice}
use Rattle.std.proofs.lemmas.Iterator.Search.{any_from_yields_List}
use Rattle.archive_memory.specs.Entries.{list_name}
use Rattle.archive_memory.proofs.MapLemmas.{any_map}
use Rattle.archive_memory.proofs.looking.has_list.Goals as goal

pub returns : goal.returns
returns c =
    any_from_yields_List (λ e. bytes_eq (list_name e) c.args.name.now) _ _ _ c.any.ensures.ran (YieldsList-from_slice c.args.lists.now (cc)) (λ x b q k. search (rules, tests))
    ∙ any_map (λ known. bytes_eq known c.args.name.now) list_name c.args.lists.now
