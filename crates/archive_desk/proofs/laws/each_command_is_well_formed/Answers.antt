use Rattle.mail_core.specs.Lines.{lines}
use Rattle.mbox_core.specs.Division.{NoneSeparates, whole}
use Rattle.mbox_core.specs.Written.{IsEnvelope, IsItem}
use Rattle.mbox_items.proofs.SenderLemmas.{envelope_is}
use Rattle.archive_desk.proofs.laws.each_command_is_well_formed.Goals as goal

-- an item of the code is opened, and in it its envelope
pub returns-in-Add : goal.returns-in-Add
returns-in-Add c =
    let said = c.item-inside.invariant in
    let envelope : IsEnvelope c.in-Add.item.now.envelope = rw (← c.item.view_is, ← c.item-inside.view_is) (envelope_is _ _ said.0 said.1) in
    let none : NoneSeparates (lines (whole c.in-Add.item.now.text)) = rw (← c.item.view_is) c.item.invariant.1 in
    let is : IsItem c.in-Add.item.now = record { is_envelope = envelope; no_line_separates = none } in
    rw c.in-Add.is is
