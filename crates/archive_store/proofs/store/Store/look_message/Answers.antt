use Rattle.std.proofs.Common.{◌∙◌, ap}
use Rattle.archive_model.specs.Questions.{message_of}
use Rattle.archive_store.specs.Carrying.{facts_from_marks_row}
use Rattle.archive_store.proofs.CarryLemmas.{looks_then, looks_say, looks_stop, message_found}
use Rattle.archive_store.proofs.store.Store.look_message.Goals as goal

pub returns-in_err-is_there : goal.returns-in_err-is_there
returns-in_err-is_there g c = looks_stop g.S.Store c.from_residual.result c.in_err-is_there.ensures c.from_residual.ensures.1

pub returns-in_err-marks : goal.returns-in_err-marks
returns-in_err-marks g c = looks_stop g.S.Store c.from_residual-in_err-marks.result
    (looks_then g.S.Store c.in_ok-is_there.ensures c.in_err-marks.ensures) c.from_residual-in_err-marks.ensures.1

pub returns : goal.returns
returns g c = looks_say g.S.Store (looks_then g.S.Store c.in_ok-is_there.ensures c.in_ok-marks.ensures)
    (λ a it. c.found_by.ensures ∙ ap (λ list. facts_from_marks_row list c.in_ok-marks.marks) it.0 ∙ ap (facts_from_marks_row _) it.1 ∙ message_found _ (message_of a c.args.list.now c.args.key.now))
