use Rattle.std.proofs.Common.{◌≡◌, ◌∷◌, [], ap, ◌∙◌, sym}
use Rattle.mbox_items.specs.Separator.{tokens, envelope_of, arrival_of, envelope_of_one_token, envelope_of_two_tokens}
use Rattle.mbox_items.proofs.SeparatorLemmas.{chain_1, chain_2, chain_3, chain_4, chain_5, chain_6, chain_7, chain_8, chain_9, few_0, few_1}
use Rattle.mbox_items.proofs.SeparatorLemmas.{few_2, few_3, few_4, few_5, six, seven, eight, nine, many, empty_from, some_from}
use Rattle.mbox_items.proofs.separators.read_tokens.Goals as goal

pub returns-in_err-first : goal.returns-in_err-first
returns-in_err-first c = c.from_residual.ensures ∙ sym (ap envelope_of (c.in_err-first.ensures) ∙ few_0)

pub returns-in_err-second : goal.returns-in_err-second
returns-in_err-second c = c.from_residual-in_err-second.ensures ∙ sym (ap envelope_of (chain_1 c.args.text.now c.in_ok-first.text.now c.in_ok-first.first.now _
    c.in_ok-first.ensures (c.in_err-second.ensures)) ∙ few_1 c.in_ok-first.first.now)

pub returns-in_err-third : goal.returns-in_err-third
returns-in_err-third c = c.from_residual-in_err-third.ensures ∙ sym (ap envelope_of (chain_2 c.args.text.now c.in_ok-first.text.now c.in_ok-second.text.now
    c.in_ok-first.first.now c.in_ok-second.second.now _ c.in_ok-first.ensures c.in_ok-second.ensures (c.in_err-third.ensures)) ∙ few_2 c.in_ok-first.first.now c.in_ok-second.second.now)

pub returns-in_err-fourth : goal.returns-in_err-fourth
returns-in_err-fourth c = c.from_residual-in_err-fourth.ensures ∙ sym (ap envelope_of (chain_3 c.args.text.now c.in_ok-first.text.now c.in_ok-second.text.now
    c.in_ok-third.text.now c.in_ok-first.first.now c.in_ok-second.second.now c.in_ok-third.third.now _ c.in_ok-first.ensures c.in_ok-second.ensures c.in_ok-third.ensures
    (c.in_err-fourth.ensures)) ∙ few_3 c.in_ok-first.first.now c.in_ok-second.second.now c.in_ok-third.third.now)

pub returns-in_err-fifth : goal.returns-in_err-fifth
returns-in_err-fifth c = c.from_residual-in_err-fifth.ensures ∙ sym (ap envelope_of (chain_4 c.args.text.now c.in_ok-first.text.now c.in_ok-second.text.now
    c.in_ok-third.text.now c.in_ok-fourth.text.now c.in_ok-first.first.now c.in_ok-second.second.now c.in_ok-third.third.now c.in_ok-fourth.fourth.now _
    c.in_ok-first.ensures c.in_ok-second.ensures c.in_ok-third.ensures c.in_ok-fourth.ensures (c.in_err-fifth.ensures)) ∙ few_4 c.in_ok-first.first.now
    c.in_ok-second.second.now c.in_ok-third.third.now c.in_ok-fourth.fourth.now)

pub returns-in_err-sixth : goal.returns-in_err-sixth
returns-in_err-sixth c = c.from_residual-in_err-sixth.ensures ∙ sym (ap envelope_of (chain_5 c.args.text.now c.in_ok-first.text.now c.in_ok-second.text.now
    c.in_ok-third.text.now c.in_ok-fourth.text.now c.in_ok-fifth.text.now c.in_ok-first.first.now c.in_ok-second.second.now c.in_ok-third.third.now
    c.in_ok-fourth.fourth.now c.in_ok-fifth.fifth.now _ c.in_ok-first.ensures c.in_ok-second.ensures c.in_ok-third.ensures c.in_ok-fourth.ensures c.in_ok-fifth.ensures
    (c.in_err-sixth.ensures)) ∙ few_5 c.in_ok-first.first.now c.in_ok-second.second.now c.in_ok-third.third.now c.in_ok-fourth.fourth.now c.in_ok-fifth.fifth.now)

pub returns-in_default : goal.returns-in_default
returns-in_default c =
    c.by_one.ensures ∙ ap (λ when. envelope_of_one_token c.in_ok-first.first.now when) c.read_arrival-arrival.ensures
    ∙ sym (ap envelope_of (chain_6 c.args.text.now c.in_ok-first.text.now c.in_ok-second.text.now c.in_ok-third.text.now c.in_ok-fourth.text.now c.in_ok-fifth.text.now
    c.in_ok-sixth.text.now c.in_ok-first.first.now c.in_ok-second.second.now c.in_ok-third.third.now c.in_ok-fourth.fourth.now c.in_ok-fifth.fifth.now
    c.in_ok-sixth.sixth.now _ c.in_ok-first.ensures c.in_ok-second.ensures c.in_ok-third.ensures c.in_ok-fourth.ensures c.in_ok-fifth.ensures c.in_ok-sixth.ensures
    (c.in_default.ensures)) ∙ six c.in_ok-first.first.now c.in_ok-second.second.now c.in_ok-third.third.now c.in_ok-fourth.fourth.now c.in_ok-fifth.fifth.now c.in_ok-sixth.sixth.now)

pub returns-in_default-first_token : goal.returns-in_default-first_token
returns-in_default-first_token c =
    c.by_one-in_default-first_token.ensures ∙ ap (λ when. envelope_of_one_token c.in_ok-first.first.now when)
    (c.read_arrival-arrival-in_default-first_token.ensures ∙ ap (λ east. arrival_of c.in_ok-second.second.now c.in_ok-third.third.now c.in_ok-fourth.fourth.now
    c.in_ok-fifth.fifth.now east c.in-Some.seventh.now) c.zone.ensures.value)
    ∙ sym (ap envelope_of (chain_7 c.args.text.now c.in_ok-first.text.now c.in_ok-second.text.now c.in_ok-third.text.now c.in_ok-fourth.text.now c.in_ok-fifth.text.now
    c.in_ok-sixth.text.now c.in-Some.text.now c.in_ok-first.first.now c.in_ok-second.second.now c.in_ok-third.third.now c.in_ok-fourth.fourth.now
    c.in_ok-fifth.fifth.now c.in_ok-sixth.sixth.now c.in-Some.seventh.now _ c.in_ok-first.ensures c.in_ok-second.ensures c.in_ok-third.ensures c.in_ok-fourth.ensures
    c.in_ok-fifth.ensures c.in_ok-sixth.ensures c.in-Some.ensures (c.in_default-first_token.ensures)) ∙ seven c.in_ok-first.first.now c.in_ok-second.second.now
    c.in_ok-third.third.now c.in_ok-fourth.fourth.now c.in_ok-fifth.fifth.now c.in_ok-sixth.sixth.now c.in-Some.seventh.now)

pub returns-in_default-first_token-2 : goal.returns-in_default-first_token-2
returns-in_default-first_token-2 c =
    c.by_two.ensures ∙ ap (λ when. envelope_of_two_tokens c.in_ok-first.first.now c.in_ok-second.second.now c.in_ok-third.third.now when) c.read_arrival-arrival-in_default-first_token-2.ensures
    ∙ sym (ap envelope_of (chain_8 c.args.text.now c.in_ok-first.text.now c.in_ok-second.text.now c.in_ok-third.text.now c.in_ok-fourth.text.now c.in_ok-fifth.text.now
    c.in_ok-sixth.text.now c.in-Some.text.now c.in-Some-first_token.text.now c.in_ok-first.first.now c.in_ok-second.second.now c.in_ok-third.third.now
    c.in_ok-fourth.fourth.now c.in_ok-fifth.fifth.now c.in_ok-sixth.sixth.now c.in-Some.seventh.now c.in-Some-first_token.eighth.now _ c.in_ok-first.ensures
    c.in_ok-second.ensures c.in_ok-third.ensures c.in_ok-fourth.ensures c.in_ok-fifth.ensures c.in_ok-sixth.ensures c.in-Some.ensures c.in-Some-first_token.ensures
    (c.in_default-first_token-2.ensures)) ∙ eight c.in_ok-first.first.now c.in_ok-second.second.now c.in_ok-third.third.now c.in_ok-fourth.fourth.now
    c.in_ok-fifth.fifth.now c.in_ok-sixth.sixth.now c.in-Some.seventh.now c.in-Some-first_token.eighth.now)

pub returns-then-is_some : goal.returns-then-is_some
returns-then-is_some c =
    let more = some_from c.first_token-10.result (tokens c.in-Some-first_token-2.text.now ≡ []) (λ p. tokens c.in-Some-first_token-2.text.now ≡ p.0.now ∷ tokens p.1.now)
    c.first_token-10.ensures (sym c.is_some.ensures ∙ c.if-is_some.true) in
    sym (ap envelope_of (chain_9 c.args.text.now c.in_ok-first.text.now c.in_ok-second.text.now c.in_ok-third.text.now c.in_ok-fourth.text.now c.in_ok-fifth.text.now
    c.in_ok-sixth.text.now c.in-Some.text.now c.in-Some-first_token.text.now c.in-Some-first_token-2.text.now c.in_ok-first.first.now c.in_ok-second.second.now
    c.in_ok-third.third.now c.in_ok-fourth.fourth.now c.in_ok-fifth.fifth.now c.in_ok-sixth.sixth.now c.in-Some.seventh.now c.in-Some-first_token.eighth.now
    c.in-Some-first_token-2.ninth.now _ c.in_ok-first.ensures c.in_ok-second.ensures c.in_ok-third.ensures c.in_ok-fourth.ensures c.in_ok-fifth.ensures
    c.in_ok-sixth.ensures c.in-Some.ensures c.in-Some-first_token.ensures c.in-Some-first_token-2.ensures (more.1)) ∙ many c.in_ok-first.first.now
    c.in_ok-second.second.now c.in_ok-third.third.now c.in_ok-fourth.fourth.now c.in_ok-fifth.fifth.now c.in_ok-sixth.sixth.now c.in-Some.seventh.now
    c.in-Some-first_token.eighth.now c.in-Some-first_token-2.ninth.now more.0.0.now (tokens more.0.1.now))

pub returns : goal.returns
returns c =
    let none = empty_from c.first_token-10.result (tokens c.in-Some-first_token-2.text.now ≡ []) (λ p. tokens c.in-Some-first_token-2.text.now ≡ p.0.now ∷ tokens p.1.now)
    c.first_token-10.ensures (sym c.is_some.ensures ∙ c.if-is_some.false) in
    c.by_two-2.ensures ∙ ap (λ when. envelope_of_two_tokens c.in_ok-first.first.now c.in_ok-second.second.now c.in_ok-third.third.now when)
    (c.read_arrival-arrival-2.ensures ∙ ap (λ east. arrival_of c.in_ok-fourth.fourth.now c.in_ok-fifth.fifth.now c.in_ok-sixth.sixth.now c.in-Some.seventh.now
    east c.in-Some-first_token-2.ninth.now) c.zone-2.ensures.value)
    ∙ sym (ap envelope_of (chain_9 c.args.text.now c.in_ok-first.text.now c.in_ok-second.text.now c.in_ok-third.text.now c.in_ok-fourth.text.now c.in_ok-fifth.text.now
    c.in_ok-sixth.text.now c.in-Some.text.now c.in-Some-first_token.text.now c.in-Some-first_token-2.text.now c.in_ok-first.first.now c.in_ok-second.second.now
    c.in_ok-third.third.now c.in_ok-fourth.fourth.now c.in_ok-fifth.fifth.now c.in_ok-sixth.sixth.now c.in-Some.seventh.now c.in-Some-first_token.eighth.now
    c.in-Some-first_token-2.ninth.now _ c.in_ok-first.ensures c.in_ok-second.ensures c.in_ok-third.ensures c.in_ok-fourth.ensures c.in_ok-fifth.ensures
    c.in_ok-sixth.ensures c.in-Some.ensures c.in-Some-first_token.ensures c.in-Some-first_token-2.ensures (none)) ∙ nine c.in_ok-first.first.now
    c.in_ok-second.second.now c.in_ok-third.third.now c.in_ok-fourth.fourth.now c.in_ok-fifth.fifth.now c.in_ok-sixth.sixth.now c.in-Some.seventh.now
    c.in-Some-first_token.eighth.now c.in-Some-first_token-2.ninth.now)
