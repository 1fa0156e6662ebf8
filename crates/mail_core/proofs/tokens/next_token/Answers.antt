use Rattle.std.proofs.Common.{◌≡◌, ◌∷◌, ◌∙◌, sym, ap, List, ℕ, take, drop}
use Rattle.std.specs.List.{prefix_len}
use Rattle.std.specs.Char.{is_ascii_alphabetic}
use Rattle.std.proofs.lemmas.List.{nil_from_length}
use Rattle.civil_time.specs.Digits.{is_digit}
use Rattle.mail_core.specs.DateTokens.{tokens_of}
use Rattle.mail_core.specs.DateTokens.Token.{digits, letters}
use Rattle.mail_core.proofs.CommentLemmas.{not_equal}
use Rattle.mail_core.proofs.TokenLemmas.{tokens-nil, tokens-white, tokens-digits, tokens-letters, tokens-sign, tokens-open, tokens-comment}
use Rattle.mail_core.proofs.tokens.next_token.Goals as goal

pub loop-first-preserved-then-is_white_byte : goal.loop-first-preserved-then-is_white_byte
loop-first-preserved-then-is_white_byte c =
    c.loop-first.invariant ∙ ap tokens_of c.in-Some.ensures.cases.0 ∙ tokens-white c.in-Some.first.now c.in-Some.behind.now (sym c.if-is_white_byte.ensures)

pub returns-then-is_ascii_digit : goal.returns-then-is_ascii_digit
returns-then-is_ascii_digit c =
    let rest : List ℕ = c.loop-first.rest.now in
    let cons : rest ≡ c.in-Some.first.now ∷ c.in-Some.behind.now = c.in-Some.ensures.cases.0 in
    let run = tokens-digits c.in-Some.first.now c.in-Some.behind.now (sym c.if-is_white_byte.ensures) (sym c.if-is_ascii_digit.ensures.value) in
    c.loop-first.invariant
    ∙ ap tokens_of cons ∙ run
    ∙ ap (λ (l : List ℕ). digits (take (prefix_len is_digit l) l) ∷ tokens_of (drop (prefix_len is_digit l) l)) (sym cons)
    ∙ ap (λ (n : ℕ). digits (take n rest) ∷ tokens_of (drop n rest)) (sym c.digits_len.ensures.value)
    ∙ ap (λ (l : List ℕ). digits l ∷ tokens_of (drop c.digits_len.result rest)) (sym c.split_at.ensures.front)
    ∙ ap (λ (l : List ℕ). digits c.split_at.result.0.now ∷ tokens_of l) (sym c.split_at.ensures.back)

pub returns-then-is_ascii_alphabetic : goal.returns-then-is_ascii_alphabetic
returns-then-is_ascii_alphabetic c =
    let rest : List ℕ = c.loop-first.rest.now in
    let cons : rest ≡ c.in-Some.first.now ∷ c.in-Some.behind.now = c.in-Some.ensures.cases.0 in
    let run = tokens-letters c.in-Some.first.now c.in-Some.behind.now (sym c.if-is_white_byte.ensures) (sym c.if-is_ascii_digit.ensures.value) (sym c.if-is_ascii_alphabetic.ensures.value) in
    c.loop-first.invariant
    ∙ ap tokens_of cons ∙ run
    ∙ ap (λ (l : List ℕ). letters (take (prefix_len is_ascii_alphabetic l) l) ∷ tokens_of (drop (prefix_len is_ascii_alphabetic l) l)) (sym cons)
    ∙ ap (λ (n : ℕ). letters (take n rest) ∷ tokens_of (drop n rest)) (sym c.letters_len.ensures.value)
    ∙ ap (λ (l : List ℕ). letters l ∷ tokens_of (drop c.letters_len.result rest)) (sym c.split_at-then-is_ascii_alphabetic.ensures.front)
    ∙ ap (λ (l : List ℕ). letters c.split_at-then-is_ascii_alphabetic.result.0.now ∷ tokens_of l) (sym c.split_at-then-is_ascii_alphabetic.ensures.back)

pub returns-then-first-ne40 : goal.returns-then-first-ne40
returns-then-first-ne40 c =
    c.loop-first.invariant ∙ ap tokens_of c.in-Some.ensures.cases.0
    ∙ tokens-sign c.in-Some.first.now c.in-Some.behind.now (sym c.if-is_white_byte.ensures) (sym c.if-is_ascii_digit.ensures.value) (sym c.if-is_ascii_alphabetic.ensures.value)
    (not_equal c.in-Some.first.now 40 c.if-first-ne40.true)

pub returns-in_default-comment_end : goal.returns-in_default-comment_end
returns-in_default-comment_end c =
    c.loop-first.invariant ∙ ap tokens_of c.in-Some.ensures.cases.0
    ∙ tokens-open c.in-Some.first.now c.in-Some.behind.now c.if-first-ne40.false c.in_default-comment_end.ensures

pub loop-first-preserved : goal.loop-first-preserved
loop-first-preserved c =
    c.loop-first.invariant ∙ ap tokens_of c.in-Some.ensures.cases.0
    ∙ tokens-comment c.in-Some.first.now c.in-Some.behind.now c.in-Some-comment_end.end c.if-first-ne40.false c.in-Some-comment_end.ensures.1 c.in-Some-comment_end.ensures.2
    ∙ ap tokens_of (sym c.split_at-in-Some.ensures.back)

pub returns : goal.returns
returns c = c.loop-first.invariant ∙ ap tokens_of (nil_from_length c.loop-first.rest.now c.in_default.ensures.cases) ∙ tokens-nil
