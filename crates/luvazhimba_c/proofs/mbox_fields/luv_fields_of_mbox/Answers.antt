use Rattle.std.proofs.Common.{◌≡◌, ◌≤◌, length, arith, rules}
use Rattle.luvazhimba_c.proofs.FieldLemmas.{all_written, none_fits}
use Rattle.luvazhimba_c.proofs.mbox_fields.luv_fields_of_mbox.Goals as goal

pub returns-in-Ok-write_said-clause-fields : goal.returns-in-Ok-write_said-clause-fields
returns-in-Ok-write_said-clause-fields c = λ is.
    let said = c.in-Ok-said_by in
    let found = c.luv_cut.ensures.messages is in
    let count : c.len-in-Ok-said_by.result ≡ length said.said.texts.lens.items = search rules in
    let len : c.len-in-Ok-said_by-2.result ≡ length said.said.texts.bytes.items = search rules in
    let long : length c.luv_cut.new.messages ≡ length c.args.messages.now = search rules in
    let low : c.luv_cut.new.count ≤ length c.luv_cut.new.messages = omega (arith, found.1, long) in
    let written = c.in-Ok-write_said.ensures in
    all_written c.args.mbox.now c.in-Ok.items said.said.numbers.items said.said.texts.bytes.items said.said.texts.lens.items
    c.luv_cut.new.count c.len-in-Ok-said_by.result c.len-in-Ok-said_by-2.result c.in-Ok.ensures.ok said.ensures.numbers said.ensures.bytes said.ensures.lens
    count len c.luv_cut.new.messages c.write_said.new.fields c.write_said.new.texts c.write_said.new.lens found.0 low written.numbers written.bytes written.lens

pub returns-in-Ok-write_said-clause-no_room : goal.returns-in-Ok-write_said-clause-no_room
returns-in-Ok-write_said-clause-no_room c = λ is.
    let said = c.in-Ok-said_by in
    let count : c.len-in-Ok-said_by.result ≡ length said.said.texts.lens.items = search rules in
    let len : c.len-in-Ok-said_by-2.result ≡ length said.said.texts.bytes.items = search rules in
    none_fits c.args.mbox.now c.in-Ok.items said.said.numbers.items said.said.texts.bytes.items said.said.texts.lens.items
    c.luv_cut.new.count c.len-in-Ok-said_by.result c.len-in-Ok-said_by-2.result c.in-Ok.ensures.ok said.ensures.numbers said.ensures.bytes said.ensures.lens
    count len c.args.messages.now c.args.fields.now c.args.texts.now c.args.lens.now (c.luv_cut.ensures.no_room is)
