use Rattle.std.proofs.Common.{map, string_bytes}
use Rattle.std.proofs.lemmas.Result.{err_from_is_err_and}
use Rattle.policy_core.specs.Names.{is_name}
use Rattle.policy_core.proofs.TreeLemmas.{array_refused, texts_read}
use Rattle.policy_core.proofs.rule_reading.read_names.Goals as goal

pub returns-in_err-read_texts : goal.returns-in_err-read_texts
returns-in_err-read_texts c =
    let p = err_from_is_err_and c.from_residual.result c.from_residual.ensures.1 in
    rw (p.1, p.2) (λ _. array_refused c.args.number is_name (λ names. names) _ _ c.in_err-read_texts.ensures)

pub returns : goal.returns
returns c = texts_read c.args.number is_name (λ names. names) _ _ _ (λ names. map string_bytes names.items) c.in_ok-read_texts.ensures c.names_among.ensures
