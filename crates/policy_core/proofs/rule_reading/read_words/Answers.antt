use Rattle.std.specs.Prelude.{filter_map, is_some}
use Rattle.std.proofs.lemmas.Result.{err_from_is_err_and}
use Rattle.policy_core.proofs.TreeLemmas.{array_refused, texts_read}
use Rattle.policy_core.proofs.rule_reading.read_words.Goals as goal

pub returns-in_err-read_texts : goal.returns-in_err-read_texts
returns-in_err-read_texts g c =
    let p = err_from_is_err_and c.from_residual.result c.from_residual.ensures.1 in
    rw (p.1, p.2)
    (λ _. array_refused c.args.number (λ word. is_some (g.W.Word.named word)) (filter_map g.W.Word.named) _ _ c.in_err-read_texts.ensures)

pub returns : goal.returns
returns g c =
    texts_read c.args.number (λ word. is_some (g.W.Word.named word)) (filter_map g.W.Word.named) _ _ _ (λ words. words.items)
    c.in_ok-read_texts.ensures c.words_among.ensures
