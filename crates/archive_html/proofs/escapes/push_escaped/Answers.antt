use Rattle.std.proofs.Common.{◌++◌, ap, sym, ◌∙◌, arith, append-nil}
use Rattle.std.proofs.lemmas.List.Elements.{All-from_get_or}
use Rattle.percent_encoding.proofs.PercentLemmas.{IsByte}
use Rattle.archive_html.proofs.EscapeLemmas.{encoded}
use Rattle.archive_html.proofs.escapes.push_escaped.Goals as goal

pub returns : goal.returns
returns c =
    let small = All-from_get_or IsByte c.args.text.now 0 (λ i within. omega (arith, c.type_inv.text i)) in
    sym (append-nil c.loop-piece.page.items) ∙ ap (λ x. c.loop-piece.page.items ++ x) (sym c.in-None.ensures.steps) ∙ c.loop-piece.invariant
    ∙ ap (λ x. c.args.page.now.items ++ x) (encoded c.args.text.now small)
