use Rattle.std.proofs.Common.{◌∙◌, ◌<◌, ap, sym, rules}
use Rattle.archive_args.specs.Orders.{is_decimal}
use Rattle.archive_args.proofs.OrderLemmas.{number-not_decimal, number-in_range, number-too_great, number-too_long}
use Rattle.archive_args.proofs.values.read_number.Goals as goal

pub returns-then-not-is_decimal-clause-value : goal.returns-then-not-is_decimal-clause-value
returns-then-not-is_decimal-clause-value c =
    number-not_decimal _ _ (ap is_decimal (sym c.as_bytes.ensures.value) ∙ sym c.is_decimal.ensures ∙ c.if-not-is_decimal.true)

pub returns-then-number-greatest-clause-value : goal.returns-then-number-greatest-clause-value
returns-then-number-greatest-clause-value c =
    let decimal = ap is_decimal (sym c.as_bytes.ensures.value) ∙ sym c.is_decimal.ensures ∙ c.if-not-is_decimal.false in
    number-in_range _ _ _ c.in-Ok.number c.parse.ensures.value.0 decimal c.in-Ok.is c.if-number-greatest.true

pub returns-else-number-greatest-clause-value : goal.returns-else-number-greatest-clause-value
returns-else-number-greatest-clause-value c =
    let decimal = ap is_decimal (sym c.as_bytes.ensures.value) ∙ sym c.is_decimal.ensures ∙ c.if-not-is_decimal.false in
    number-too_great _ _ _ c.in-Ok.number c.parse.ensures.value.0 decimal c.in-Ok.is c.if-number-greatest.false

pub returns-in-Err-clause-value : goal.returns-in-Err-clause-value
returns-in-Err-clause-value c =
    let decimal = ap is_decimal (sym c.as_bytes.ensures.value) ∙ sym c.is_decimal.ensures ∙ c.if-not-is_decimal.false in
    let room : c.args.greatest < 4294967296 = search rules in
    number-too_long _ _ _ _ room c.parse.ensures.value.0 decimal c.in-Err.is
