use Rattle.std.proofs.Common.{rules, tests, bytes_eq}
use Rattle.std.proofs.lemmas.Iterator.{YieldsList-from_slice}
use Rattle.std.proofs.lemmas.Iterator.Search.{any_from_yields_List}
use Rattle.policy_core.specs.Written.{key_row, condition_keys}
use Rattle.policy_core.proofs.keys.is_condition_key.Goals as goal

pub returns : goal.returns
returns c =
    any_from_yields_List (λ key. bytes_eq c.args.word.now (key_row key).word) _ _ _ c.any.ensures.ran (YieldsList-from_slice condition_keys (cc))
    (λ x b q k. search (rules, tests))
