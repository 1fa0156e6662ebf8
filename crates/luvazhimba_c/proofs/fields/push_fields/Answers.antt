use Rattle.std.proofs.Common.{◌≡◌, ◌++◌, length, ap, ◌∙◌, arith, rules, FitsSigned, w64, to_z, of_z}
use Rattle.std.proofs.lemmas.Grind.{common_steps}
use Rattle.std.proofs.lemmas.Int.{to_z-of_z}
use Rattle.mail_core.specs.Headers.{sent_date_in, sent_date_of, own_id_of, id_option_to_list}
use Rattle.luvazhimba_c.specs.Fields.{field_texts, field_text_lengths, has_sent_date}
use Rattle.luvazhimba_c.proofs.FieldLemmas.{more, numbers_are}
use Rattle.luvazhimba_c.proofs.fields.push_fields.Goals as goal

pub returns-clause-numbers : goal.returns-clause-numbers
returns-clause-numbers c =
    let message = c.args.message.now in
    let fits : FitsSigned w64 c.seconds.result = search rules in
    let kept : to_z w64 (of_z w64 c.seconds.result) ≡ c.seconds.result = to_z-of_z w64 c.seconds.result fits in
    let sent : to_z w64 (of_z w64 c.seconds.result) ≡ sent_date_of message c.args.arrival =
    kept ∙ c.seconds.ensures.value ∙ c.sent-sent.ensures ∙ ap (λ h. sent_date_in h c.args.arrival) c.of-header.ensures in
    let own : c.in_ok-own.own ≡ length (id_option_to_list (own_id_of message)) = search rules in
    let lens : c.push_ids.new.self.lens.items ≡ c.args.texts.now.lens.items ++ field_text_lengths message = grind (arith, common_steps) in
    let bytes : c.push_ids.new.self.bytes.items ≡ c.args.texts.now.bytes.items ++ field_texts message = grind (arith, common_steps) in
    let date : c.is_dated.result ≡ has_sent_date message = search rules in
    numbers_are message c.args.arrival _ _ _ _ _ sent own
    (more c.args.texts.now.lens.items (field_text_lengths message) c.push_ids.new.self.lens.items c.len.result c.len-count.result (search rules) (search rules) lens)
    (more c.args.texts.now.bytes.items (field_texts message) c.push_ids.new.self.bytes.items c.len-2.result c.len-len.result (search rules) (search rules) bytes) date
