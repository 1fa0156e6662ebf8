use Rattle.std.proofs.Common.{◌≡◌, rules, subst, Some}
use Rattle.archive_cache.specs.Views.{cached_message_facts}
use Rattle.archive_cache.proofs.MarkLemmas.{denied_again}
use Rattle.archive_cache.proofs.messages.denial.Goals as goal

pub returns-in-Denied : goal.returns-in-Denied
returns-in-Denied c = λ a each enough.
    let ask = c.args.ask.now in
    let kept = c.args.kept.now in
    let key = c.args.key.now in
    let list : c.ask.inside.list.now ≡ ask.list = search rules in
    denied_again a ask c.args.reader.now key c.in-Denied.rule.now kept c.in_ok-marks.marks
    (subst (λ l. Some c.in_ok-marks.marks ≡ cached_message_facts kept l key) list c.in_ok-marks.ensures)
    (c.asks_author.ensures.alike c.if-asks_author.false) c.in-Denied.ensures each enough
