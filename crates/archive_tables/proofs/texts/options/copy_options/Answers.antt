use Rattle.std.proofs.Common.{ℕ, [], Ok, Err, Result, OnOk, refl}
use Rattle.sqlite.specs.declared.error.Error.{Error}
use Rattle.sqlite.specs.Held.{state}
use Rattle.sqlite.specs.State.{State, Executes}
use Rattle.archive_tables.specs.Schema.{schema_2}
use Rattle.archive_tables.proofs.MoveLemmas.{copies, copy_within, copy_text}
use Rattle.sqlite_tied.specs.Compute.{everything}
use Rattle.sqlite_resolve.specs.Compile.{first}
use Rattle.archive_tables.proofs.LastLemmas.{IsOurText}
use Rattle.archive_tables.specs.Statements.{backfill_options_statement}
use Rattle.archive_tables.proofs.RefusalLemmas.{KnowsIn}
use Rattle.archive_tables.proofs.EndLemmas.{step_ends}
use Rattle.sqlite.specs.Listing.{understood}
use Rattle.sqlite.proofs.Callers.{command_of}
use Rattle.archive_tables.proofs.CrashLemmas.{EndsNothing, within_adds_nothing}
use Rattle.archive_tables.proofs.texts.options.copy_options.Goals as goal

-- what it makes where it succeeds
where_ok : {P : Type 0} (old new : State) (r : Result ℕ Error) → ((count : ℕ) → Executes copy_text [] old new (Ok count) → P) → Executes copy_text [] old new r → OnOk r P
where_ok old new (Ok count) makes h = makes count h
where_ok old new (Err e) makes h = tt

pub returns-clause-moved : goal.returns-clause-moved
returns-clause-moved g c clean before said archive k empty =
    let old = state g.S.Store c.args.conn.now in
    let new = state g.S.Store c.execute.new.self in
    where_ok old new c.execute.result (λ count h. copies old new before said archive count k empty h) (c.execute.ensures.runs clean)

pub returns-clause-within : goal.returns-clause-within
returns-clause-within g c clean before k =
    let old = state g.S.Store c.args.conn.now in
    let new = state g.S.Store c.execute.new.self in
    where_ok old new c.execute.result (λ count h. copy_within old new before count k h) (c.execute.ensures.runs clean)

ours : IsOurText (first copy_text)
unfolding first everything
ours = tt

knows : KnowsIn schema_2 backfill_options_statement
unfolding understood everything
knows = record { fits = (refl, refl); plain = (refl, refl); writes = tt }

pub returns-clause-ends : goal.returns-clause-ends
returns-clause-ends g c = step_ends schema_2 backfill_options_statement _ c.execute.result knows ours c.execute.ensures.survives c.execute.ensures.runs

goes_on : EndsNothing (command_of (understood schema_2 copy_text))
unfolding understood everything
goes_on = tt

pub returns-clause-quiet : goal.returns-clause-quiet
returns-clause-quiet g c before k clean db may =
    within_adds_nothing copy_text schema_2 _ refl goes_on _ before (state g.S.Store c.args.conn.now) (state g.S.Store c.execute.new.self) k c.execute.ensures.survives clean db may
