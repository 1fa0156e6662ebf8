use Rattle.std.proofs.Common.{◌∙◌, rules, tests}
use Rattle.std.proofs.lemmas.Iterator.{YieldsList-from_slice}
use Rattle.std.proofs.lemmas.Iterator.Search.{any_from_yields_List}
use Rattle.policy_core.specs.Stated.{stated_condition}
use Rattle.policy_core.specs.Written.{begins_after_end_of}
use Rattle.policy_core.proofs.ListLemmas.{list_any-map}
use Rattle.policy_core.proofs.conditions.ends_before.Goals as goal

pub returns : goal.returns
returns c =
    any_from_yields_List (λ last. begins_after_end_of (stated_condition c.args.first.now) (stated_condition last)) _ _ _ c.any.ensures.ran (YieldsList-from_slice c.args.conditions.now (cc))
    (λ x b q k. search (rules, tests))
    ∙ list_any-map stated_condition (begins_after_end_of (stated_condition c.args.first.now)) c.args.conditions.now
