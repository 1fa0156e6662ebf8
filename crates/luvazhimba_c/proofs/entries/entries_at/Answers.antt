use Rattle.std.proofs.Common.{◌<◌, length, arith}
use Rattle.std.proofs.lemmas.Grind.{common_steps}
use Rattle.std.proofs.lemmas.List.Elements.{Contains-get_or, All-more}
use Rattle.luvazhimba_c.specs.Entries.{IsReadableMessage}
use Rattle.luvazhimba_c.proofs.entries.entries_at.Goals as goal

pub loop-at-preserved : goal.loop-at-preserved
loop-at-preserved c =
    let within : c.loop-at.at < length c.args.messages.now = omega arith in
    record {
      entries = grind (arith, common_steps);
      readable = All-more (IsReadableMessage c.args.bytes.now) c.args.messages.now c.loop-at.at _ within c.loop-at.invariant.readable c.in-Ok.ensures.readable;
    }

pub returns-in-Err-clause-outside : goal.returns-in-Err-clause-outside
returns-in-Err-clause-outside c = λ is.
    let within : c.loop-at.at < length c.args.messages.now = omega arith in
    (_, Contains-get_or c.args.messages.now c.loop-at.at _ within, c.in-Err.ensures.outside is)

pub returns-in-Err-clause-no_instant : goal.returns-in-Err-clause-no_instant
returns-in-Err-clause-no_instant c = λ is.
    let within : c.loop-at.at < length c.args.messages.now = omega arith in
    (_, Contains-get_or c.args.messages.now c.loop-at.at _ within, c.in-Err.ensures.no_instant is)
