use Rattle.std.proofs.Common.{rules, ◌&&◌, ◌∙◌, ap, not, tests}
use Rattle.std.specs.List.{list_all}
use Rattle.std.specs.Char.{is_ascii_alphabetic}
use Rattle.std.proofs.lemmas.Iterator.{YieldsList-from_slice}
use Rattle.std.proofs.lemmas.Iterator.Search.{all_from_yields_List}
use Rattle.civil_time.proofs.zones.is_word_text.Goals as goal

pub returns-then-not-is_empty : goal.returns-then-not-is_empty
returns-then-not-is_empty c =
    let xs = c.args.text.now in
    let all = all_from_yields_List is_ascii_alphabetic _ _ _ c.all.ensures.ran (YieldsList-from_slice xs (cc)) (λ x b q k. search (rules, tests)) in
    let some = c.if-not-is_empty.ensures in
    all ∙ ap (λ b. not b && list_all is_ascii_alphabetic xs) some
