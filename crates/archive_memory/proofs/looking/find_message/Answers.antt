use Rattle.std.proofs.Common.{rules, tests, ◌∙◌, ap}
use Rattle.std.specs.Prelude.{option_map}
use Rattle.std.proofs.lemmas.Iterator.{YieldsList-from_slice}
use Rattle.std.proofs.lemmas.Iterator.Search.{find_from_yields_List}
use Rattle.archive_model.specs.Questions.{is_message_at_key}
use Rattle.archive_memory.specs.Entries.{message_in}
use Rattle.archive_memory.proofs.MapLemmas.{find_map}
use Rattle.archive_memory.proofs.looking.find_message.Goals as goal

pub returns : goal.returns
returns c =
    let test = is_message_at_key c.args.list.now c.args.key.now in
    ap (option_map message_in)
    (find_from_yields_List (λ e. test (message_in e)) _ _ c.find.result c.find.ensures.ran (YieldsList-from_slice c.args.messages.now (cc)) (λ x b q k. search (rules, tests)))
    ∙ find_map test message_in c.args.messages.now
