use Rattle.std.proofs.Common.{◌≡◌, subst}
use Rattle.std.specs.Prelude.{IfOk, string_bytes}
use Rattle.archive_pages.proofs.HeadLemmas.{sized_head}
use Rattle.archive_pages.proofs.writing.sized_head.Goals as goal

pub returns : goal.returns
returns c = subst (λ t. IfOk c.format.result (λ head. string_bytes head ≡ t)) (sized_head c.args.status c.args.content_type.now c.args.body.now) c.format.ensures.ok
