use Rattle.std.proofs.Common.{◌∙◌, map, rules, tests}
use Rattle.std.specs.List.{list_any}
use Rattle.std.proofs.lemmas.Iterator.{YieldsList-from_slice}
use Rattle.std.proofs.lemmas.Iterator.Search.{any_from_yields_List}
use Rattle.policy_core.specs.Stated.{stated_condition}
use Rattle.policy_core.specs.Written.{begins_after_end_of}
use Rattle.policy_core.proofs.ListLemmas.{list_any-map}
use Rattle.policy_core.proofs.conditions.has_no_day.Goals as goal

pub returns : goal.returns
returns c =
    any_from_yields_List (λ first. list_any (begins_after_end_of (stated_condition first)) (map stated_condition c.args.conditions.now)) _ _ _ c.any.ensures.ran
    (YieldsList-from_slice c.args.conditions.now (cc)) (λ x b q k. search (rules, tests))
    ∙ list_any-map stated_condition (λ first. list_any (begins_after_end_of first) (map stated_condition c.args.conditions.now)) c.args.conditions.now
