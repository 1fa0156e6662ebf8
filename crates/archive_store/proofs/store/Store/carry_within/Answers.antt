use Rattle.std.proofs.Common.{None, Some, sym, ap, ◌∙◌}
use Rattle.std.specs.Prelude.{option_map}
use Rattle.archive_port.specs.Commands.{spec_command}
use Rattle.archive_store.specs.Carrying.{reply_without_write}
use Rattle.archive_store.proofs.CarryLemmas.{unlooked, refused_at_once, refused_by, already_there, carried_out, unwritten, same_of}
use Rattle.archive_store.proofs.store.Store.carry_within.Goals as goal

pub returns-in_err-found : goal.returns-in_err-found
returns-in_err-found g c = unlooked g.S.Store _ _ (spec_command c.args.command.now) c.from_residual.result c.in_err-found.ensures c.from_residual.ensures.1

pub returns-in-Some : goal.returns-in-Some
returns-in-Some g c = refused_at_once g.S.Store c.args.self.now (spec_command c.args.command.now) c.in-Some.fault c.in-Some.ensures

pub returns-in-Some-Refused : goal.returns-in-Some-Refused
returns-in-Some-Refused g c = refused_by g.S.Store _ _ (spec_command c.args.command.now) _ c.in-Some-Refused.fault c.settle.result c.in_ok-found.ensures
    (c.in-Some-Refused.is ∙ ap Some c.in-Some-Refused.field-0-is) c.settle.ensures

pub returns-in_ok-write-in-None : goal.returns-in_ok-write-in-None
returns-in_ok-write-in-None g c = carried_out g.S.Store _ _ _ _ (spec_command c.args.command.now) _ c.in_ok-found.ensures
    (same_of _ None (sym c.settle.ensures ∙ ap (option_map reply_without_write) c.in-None.is)) _ c.in_ok-write-in-None.ensures

pub returns-in_err-write-in-None : goal.returns-in_err-write-in-None
returns-in_err-write-in-None g c = unwritten g.S.Store _ _ _ _ (spec_command c.args.command.now) _ c.in_ok-found.ensures
    (same_of _ None (sym c.settle.ensures ∙ ap (option_map reply_without_write) c.in-None.is)) _ c.from_residual-in_err-write-in-None.result
    c.in_err-write-in-None.ensures c.from_residual-in_err-write-in-None.ensures.1

pub returns-in-Some-Known : goal.returns-in-Some-Known
returns-in-Some-Known g c = already_there g.S.Store _ _ (spec_command c.args.command.now) _ c.settle.result c.in_ok-found.ensures
    (c.in-Some-Known.is ∙ ap Some c.in-Some-Known.field-0-is) c.settle.ensures
