use Rattle.std.proofs.Common.{rules, ◌<◌, ◌∙◌, length, get_or, ap, sym, codes}
use Rattle.std.specs.Str.{str_eq_ignore_ascii_case}
use Rattle.httparse.specs.Spans.{IsWithin}
use Rattle.archive_requests.proofs.BearerLemmas.{nowhere, IsFound-kept, IsFound-first, found_twice}
use Rattle.archive_requests.proofs.bearer.bearer_of.Goals as goal
use Rattle.archive_requests.proofs.bearer.bearer_of.Goals.{then-is_authorization+else-is_some, else-is_authorization}

pub returns-then-is_some : goal.returns-then-is_some
returns-then-is_some c =
    let named = ap (λ n. str_eq_ignore_ascii_case n (codes "authorization")) (sym c.of.ensures) ∙ sym c.is_authorization.ensures ∙ c.if-is_authorization.true in
    let lt : c.loop-field.field-index < length c.args.fields.now = search rules in
    found_twice c.args.bytes.now c.args.fields.now c.loop-field.field-index nowhere c.loop-field.found lt named (sym c.is_some.ensures ∙ c.if-is_some.true) c.loop-field.invariant

pub loop-field-preserved : goal.loop-field-preserved
loop-field-preserved c =
    let lt : c.loop-field.field-index < length c.args.fields.now = search rules in
    let inside : IsWithin (length c.args.bytes.now) (get_or c.args.fields.now c.loop-field.field-index nowhere).value = search rules in
    elim c.if-is_authorization.branch [
      | then-is_authorization+else-is_some w ↦
          let named = ap (λ n. str_eq_ignore_ascii_case n (codes "authorization")) (sym c.of.ensures) ∙ sym c.is_authorization.ensures ∙ w.if-is_authorization.true in
          let found = IsFound-first c.args.bytes.now c.args.fields.now c.loop-field.field-index nowhere c.loop-field.found lt named inside
          (sym w.is_some.ensures ∙ w.if-is_some.false) c.loop-field.invariant in
          rw w.found-is found
      | else-is_authorization w ↦
          let named = ap (λ n. str_eq_ignore_ascii_case n (codes "authorization")) (sym c.of.ensures) ∙ sym c.is_authorization.ensures ∙ w.if-is_authorization.false in
          let found = IsFound-kept c.args.bytes.now c.args.fields.now c.loop-field.field-index nowhere c.loop-field.found lt named c.loop-field.invariant in
          rw w.found-is found
    ]
