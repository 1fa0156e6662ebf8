-- How many connections were served so far.
use Rattle.std.proofs.Common.{◌≡◌, ◌≤◌, ◌<◌, ℕ, List, [], ◌∷◌, ◌++◌, Bool, Option, Result, Ok, Err, length, take, drop, inl, inr, refl, sym, ap, subst, ◌∙◌}
use Rattle.std.specs.Prelude.{IfErr, OnErr, OnOk, ⊤}
use Rattle.std.proofs.lemmas.List.{take-append-drop}
use Rattle.byte_device.specs.declared.devices.Sink.{Ghosts as Takes}
use Rattle.byte_device.specs.declared.writing.WriteFault.{WriteFault}
use Rattle.archive_listen.specs.Connections.{WritesOutcomeLines, Exchange, WritesOutcomeLine, WritesWholeOrFails, ErrorStreamState}
use Rattle.archive_listen.specs.Connections.{ConnectionResult, ConnectionTranscript, connection_error_line, error_stream_state, outcome_line}
use Rattle.archive_listen.specs.Serving.{ServerState, ServesOneConnection, ServesEachConnection}
use Rattle.archive_listen.specs.declared.faults.AcceptError.{AcceptError}
use Rattle.archive_listen.specs.declared.faults.ConnectionError.{ConnectionError}

module _ {St L : Type 0} (answers : St → St → ConnectionTranscript → ConnectionTranscript → ConnectionResult → Type 0)
    (accepts : L → L → Option AcceptError → Type 0) (closes : L → L → Exchange → Bool → Type 0) where
  -- one connection more
  pub serves_more : (outcomes : List ConnectionResult) (outcome : ConnectionResult) (first between last : ServerState L St)
      → ServesEachConnection answers accepts closes outcomes first between → ServesOneConnection answers accepts closes outcome between last
      → ServesEachConnection answers accepts closes (outcomes ++ outcome ∷ []) first last
  serves_more [] outcome first between last each one =
      (last, subst (λ s. ServesOneConnection answers accepts closes outcome s last) each one, refl)
  serves_more (o ∷ outcomes) outcome first between last each one =
      (each.0, each.1, serves_more outcomes outcome each.0 between last each.2 one)

-- one line more
pub reads_text : (outcomes : List ConnectionResult) (outcome : ConnectionResult) (first between last : ErrorStreamState) → WritesOutcomeLines outcomes first between
    → WritesOutcomeLine outcome between last
    → WritesOutcomeLines (outcomes ++ outcome ∷ []) first last
reads_text [] outcome first between last told one = (last, subst (λ s. WritesOutcomeLine outcome s last) told one, refl)
reads_text (o ∷ outcomes) outcome first between last told one =
    (told.0, told.1, reads_text outcomes outcome told.0 between last told.2 one)

-- a text, by how its write ended
written_by : {E : Type 0} (result : Result ⊤ WriteFault) (takes : Takes E) (text : List ℕ) (old new : E)
    → OnOk result (takes.told new ≡ takes.told old ++ text)
    → IfErr result (λ e. (e.written ≤ length text) × (takes.told new ≡ takes.told old ++ take e.written text))
    → OnOk result (takes.failures new ≡ takes.failures old) → OnErr result (takes.failures old < takes.failures new)
    → WritesWholeOrFails text (error_stream_state takes old) (error_stream_state takes new)
written_by (Ok done) takes text old new ok part quiet cause = inl (quiet, ok)
written_by (Err e) takes text old new ok part quiet cause =
    inr (cause, take e.written text, (drop e.written text, sym (take-append-drop e.written text)), part.1)

-- the line of a fault
pub told_line : {E : Type 0} (result : Result ⊤ WriteFault) (takes : Takes E) (outcome : ConnectionResult) (fault : ConnectionError) (line : List ℕ) (old new : E)
    → outcome ≡ Err fault → line ≡ connection_error_line fault
    → OnOk result (takes.told new ≡ takes.told old ++ line)
    → IfErr result (λ e. (e.written ≤ length line) × (takes.told new ≡ takes.told old ++ take e.written line))
    → OnOk result (takes.failures new ≡ takes.failures old) → OnErr result (takes.failures old < takes.failures new)
    → WritesOutcomeLine outcome (error_stream_state takes old) (error_stream_state takes new)
told_line result takes outcome fault line old new is of_fault ok part quiet cause =
    subst (λ text. WritesWholeOrFails text (error_stream_state takes old) (error_stream_state takes new)) (of_fault ∙ ap outcome_line (sym is))
    (written_by result takes line old new ok part quiet cause)
