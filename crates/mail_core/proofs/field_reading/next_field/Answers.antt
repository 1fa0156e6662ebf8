use Rattle.std.proofs.Common.{◌∙◌, sym}
use Rattle.mail_core.proofs.FieldLemmas.{fields-none, fields-skip, fields-take}
use Rattle.mail_core.proofs.field_reading.next_field.Goals as goal

pub returns-in-Some-read_field : goal.returns-in-Some-read_field
returns-in-Some-read_field c =
    c.loop-block.invariant
    ∙ fields-take c.loop-block.rest.now c.in-Some.block.now c.in-Some.after.now c.in-Some-read_field.field c.in-Some.ensures.1 (sym c.in-Some-read_field.ensures)

pub loop-block-preserved : goal.loop-block-preserved
loop-block-preserved c =
    c.loop-block.invariant
    ∙ fields-skip c.loop-block.rest.now c.in-Some.block.now c.in-Some.after.now c.in-Some.ensures.1 (sym c.in_default-read_field.ensures)

pub returns : goal.returns
returns c = c.loop-block.invariant ∙ fields-none c.loop-block.rest.now c.in_default.ensures
