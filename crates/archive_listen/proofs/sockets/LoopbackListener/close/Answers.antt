use Rattle.std.proofs.Common.{rules, arith, ◌∙◌, ap, length}
use Rattle.archive_listen.specs.Sockets.{OutputState}
use Rattle.archive_listen.proofs.sockets.LoopbackListener.close.Goals as goal

pub returns-clause-closes : goal.returns-clause-closes
returns-clause-closes g c =
    let sent = ap (λ (o : OutputState). length o.told) (c.output.view_is ∙ c.into_inner-output.ensures) in
    record {
      exchange_is_added = search rules;
      in_time_limits = record {
        head_in_time = omega (arith, c.latest-head.ensures, c.input.invariant);
        reply_in_time = omega (arith, c.latest-reply.ensures, c.output.invariant.0, c.output.invariant.1, sent);
        drain_in_time = c.let_go-rest.ensures;
      };
    }
