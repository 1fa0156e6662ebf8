use Rattle.std.proofs.Common.{inl, inr, refl, subst, Ok, Err}
use Rattle.archive_args.specs.Values.{SiftValues}
use Rattle.sift_run.specs.Running.{SiftEndsByPolicy}
use Rattle.sift_run.specs.declared.faults.CommandError.TheVariants.{Memory}
use Rattle.sift_run.proofs.StatusLemmas.{at_one, at_zero, memory_alone, memory_said, same_sift}
use Rattle.sift_run.proofs.running.run.Goals as goal

pub returns-in-Ok-Sift-clause-done : goal.returns-in-Ok-Sift-clause-done
returns-in-Ok-Sift-clause-done g c =
    λ asked given zero.
    let By = λ (order : SiftValues). SiftEndsByPolicy g.C.DayClock g.R.Source g.O.Sink g.O.BufferedSink c.args.clock.now c.run_sift-done.new.clock
    c.args.input.now c.run_sift-done.new.input c.args.output.now c.run_sift-done.new.output g.F.ReadFiles c.args.files.now order in
    let it = at_zero _ _ (By c.in-Ok-Sift.asked) c.run_sift-done.result c.finish.result c.finish.ensures c.run_sift-done.ensures zero in
    let P : SiftValues → Type 0 = λ order. By order (Ok tt) in
    (subst P (same_sift _ _ _ _ c.in-Ok-Sift.ensures.ok c.in-Ok-Sift.field-0-is given.1) it.1, it.2)

pub returns-in-Ok-Sift-clause-refused : goal.returns-in-Ok-Sift-clause-refused
returns-in-Ok-Sift-clause-refused g c =
    λ asked given one.
    let By = λ (order : SiftValues). SiftEndsByPolicy g.C.DayClock g.R.Source g.O.Sink g.O.BufferedSink c.args.clock.now c.run_sift-done.new.clock
    c.args.input.now c.run_sift-done.new.input c.args.output.now c.run_sift-done.new.output g.F.ReadFiles c.args.files.now order in
    let it = at_one _ _ (By c.in-Ok-Sift.asked) c.run_sift-done.result c.finish.result c.finish.ensures c.run_sift-done.ensures one in
    let P : SiftValues → Type 0 = λ order. By order (Err it.0) in
    (it.0, inr (subst P (same_sift _ _ _ _ c.in-Ok-Sift.ensures.ok c.in-Ok-Sift.field-0-is given.1) it.1), it.2)

pub returns-in-Err-clause-refused : goal.returns-in-Err-clause-refused
returns-in-Err-clause-refused g c =
    λ asked given one.
    let said = memory_said g.O.Sink g.O.BufferedSink g.E.Sink c.args.output.now c.report_parse_error.new.output c.args.faults.now c.report_parse_error.new.faults c.report_parse_error.result _
    (memory_alone _ _ _ c.in-Err.ensures.refused c.in-Err.ensures.stopped given) c.report_parse_error.ensures in
    (Memory, inl (refl, refl, refl, said.1), said.2)
