use Rattle.std.proofs.Common.{rules, tests, ◌≡◌, ◌∙◌}
use Rattle.std.proofs.lemmas.Iterator.{YieldsList-from_slice}
use Rattle.std.proofs.lemmas.Iterator.Search.{all_from_yields_List}
use Rattle.std.specs.List.{list_all}
use Rattle.std.specs.Char.{is_ascii_digit}
use Rattle.archive_args.proofs.OrderLemmas.{some_decimal}
use Rattle.archive_args.proofs.values.is_decimal.Goals as goal

pub returns : goal.returns
returns c =
    let all : c.all.result ≡ list_all is_ascii_digit c.args.text.now =
    all_from_yields_List is_ascii_digit _ _ _ c.all.ensures.ran (YieldsList-from_slice c.args.text.now (cc)) (λ x b q k. search (rules, tests)) in
    all ∙ some_decimal c.args.text.now (λ e. search (rules, e))
