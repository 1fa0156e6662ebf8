use Rattle.std.proofs.Common.{ap, ◌∷◌, [], map, rules}
use Rattle.archive_model.specs.Messages.{archived_message}
use Rattle.archive_results.specs.Index.{summary_of}
use Rattle.archive_desk.proofs.IndexLemmas.{one_more}
use Rattle.archive_desk.proofs.index.push_header.Goals as goal

pub returns-in_ok-push : goal.returns-in_ok-push
returns-in_ok-push c =
    let m = archived_message c.args.ask.now.list c.args.message.now in
    one_more (map summary_of) c.args.ask.now c.args.reader.now m c.args.headers.now.items c.push.new.self.items
    c.in_ok-summary_of.field-0 (search rules) (ap (λ x. x ∷ []) (c.in_ok-summary_of.ensures c.args.ask.now.list)) c.in_ok-push.ensures.items
