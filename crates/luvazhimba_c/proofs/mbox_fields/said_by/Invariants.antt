use Rattle.std.proofs.Common.{◌≡◌, ◌++◌, map}
use Rattle.luvazhimba_c.specs.Fields.{all_field_texts, all_field_text_lengths, field_numbers_of_item}
use Rattle.luvazhimba_c.proofs.mbox_fields.said_by.Given as goal

abbrev pub invariant-loop-item : goal.invariant-loop-item
invariant-loop-item l = record {
  bytes : all_field_texts l.fn.messages ≡ l.texts.bytes.items ++ all_field_texts l.item-iterator;
  lens : all_field_text_lengths l.fn.messages ≡ l.texts.lens.items ++ all_field_text_lengths l.item-iterator;
  numbers : map field_numbers_of_item l.fn.messages ≡ l.numbers.items ++ map field_numbers_of_item l.item-iterator;
}
