use Rattle.std.proofs.Common.{◌∙◌, sym, ap}
use Rattle.mail_core.specs.Fields.{fields_of}
use Rattle.mail_core.specs.Gathering.{with_fields}
use Rattle.mail_core.proofs.HeaderLemmas.{all_gathered, none-more, some-more}
use Rattle.mail_core.proofs.message_header.Header.of.Goals as goal

pub loop-field-init : goal.loop-field-init
loop-field-init c = all_gathered c.args.text.now

pub loop-field-preserved : goal.loop-field-preserved
loop-field-preserved c =
    ap (with_fields (fields_of c.in-Some.after.now)) c.with-found.ensures
    ∙ sym (some-more (fields_of c.loop-field.rest.now) (fields_of c.in-Some.after.now) c.in-Some.field c.loop-field.found c.in-Some.ensures)
    ∙ c.loop-field.invariant

pub returns : goal.returns
returns c = sym (none-more (fields_of c.loop-field.rest.now) c.loop-field.found c.in_default.ensures) ∙ c.loop-field.invariant
