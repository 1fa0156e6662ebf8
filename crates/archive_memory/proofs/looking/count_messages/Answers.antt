use Rattle.std.proofs.Common.{rules, tests, bytes_eq, ◌∙◌, refl}
use Rattle.std.proofs.lemmas.Iterator.{YieldsList-from_slice}
use Rattle.std.proofs.lemmas.Iterator.Consumers.{count_from_yields_List, YieldsList-from_filter}
use Rattle.archive_model.specs.Records.{Message}
use Rattle.archive_memory.specs.Entries.{message_in}
use Rattle.archive_memory.proofs.MapLemmas.{count_map}
use Rattle.archive_memory.proofs.looking.count_messages.Goals as goal

pub returns : goal.returns
returns c =
    count_from_yields_List _ c.count.result c.count.ensures.ran
    (YieldsList-from_filter _ (λ e. bytes_eq (message_in e).list c.args.list.now) (YieldsList-from_slice c.args.messages.now (cc)) refl (λ x b q k. search (rules, tests)))
    ∙ count_map (λ (m : Message). bytes_eq m.list c.args.list.now) message_in c.args.messages.now
