-- What is told piece by piece, and what is said of a wish for help.
use Rattle.std.proofs.Common.{◌≡◌, ◌++◌, ◌∙◌, ap, append_assoc, inl, inr, subst, ℕ, List, Result, Ok, Err, arith}
use Rattle.std.specs.Prelude.{MatchResult, String, string_bytes, ⊤}
use Rattle.std.specs.declared.alloc.Global.{Global}
use Rattle.byte_device.specs.declared.devices.Sink.{Ghosts as Takes}
use Rattle.archive_listen.specs.declared.connections.BufferedSink.{Ghosts as Passes}
use Rattle.archive_args.specs.declared.orders.OrderStop.TheVariants.{Help}
use Rattle.sift_run.specs.Refusals.{WritesErrorTextOrFails, ReportsOrderStop, WritesErrorLine, refusal_line, command_error_text}
use Rattle.archive_listen.specs.Connections.{error_stream_state}
use Rattle.sift_run.specs.Streams.{WritesAndFlushesOrFails, output_stream_state}
use Rattle.sift_run.specs.declared.faults.CommandError.{CommandError}
use Rattle.sift_run.specs.declared.faults.CommandError.TheVariants.{Write}

module _ {E : Type 0} (notes : Takes E) where
  -- a text behind one that was written
  pub said_then : {X : Type 0} (old mid new : E) (first next : List ℕ) (result : Result ⊤ X)
      → (notes.told mid ≡ notes.told old ++ first) × (notes.failures mid ≡ notes.failures old)
      → WritesErrorTextOrFails notes mid new next result → WritesErrorTextOrFails notes old new (first ++ next) result
  said_then old mid new first next (Ok done) said it =
      (it.0 ∙ (ap (λ told. told ++ next) said.0 ∙ append_assoc (notes.told old) first next), it.1 ∙ said.1)
  said_then old mid new first next (Err e) said it = omega (arith, it, said.1)

  -- the same text
  pub said_as : {X : Type 0} (old new : E) (text same : List ℕ) (result : Result ⊤ X) → text ≡ same
      → WritesErrorTextOrFails notes old new text result → WritesErrorTextOrFails notes old new same result
  said_as old new text same result e it =
      let P : List ℕ → Type 0 = λ t. WritesErrorTextOrFails notes old new t result in
      subst P e it

  -- a line that was written, as far as the stream of faults took it
  pub told_line : {X : Type 0} (old new : E) (text : List ℕ) (result : Result ⊤ X) → WritesErrorTextOrFails notes old new (refusal_line text) result
      → WritesErrorLine text (error_stream_state notes old) (error_stream_state notes new)
  told_line old new text (Ok done) it = (omega (arith, it.1), λ same. it.0)
  told_line old new text (Err e) it = (omega (arith, it), λ same. absurd (omega (arith, it, same)))

module _ {O E : Type 0} (writes : Takes O) (passes : Passes O) (notes : Takes E) (out_old out_new : O) (err_old err_new : E) (status : ℕ) where
  -- the help went out, or the output failed
  pub help_said : (text : String Global) (result : Result ⊤ CommandError)
      → WritesAndFlushesOrFails Write (output_stream_state writes passes out_old) (output_stream_state writes passes out_new) (string_bytes text) result
      → MatchResult result (λ _. (status ≡ 0) × (err_new ≡ err_old))
      (λ fault. (status ≡ 1) × WritesErrorLine (command_error_text fault) (error_stream_state notes err_old) (error_stream_state notes err_new))
      → ReportsOrderStop writes passes notes out_old out_new err_old err_new (Help text) status
  help_said text (Ok done) sends finished = inl (finished.0, sends, finished.1)
  help_said text (Err fault) part told =
      let P : CommandError → Type 0 = λ f. WritesErrorLine (command_error_text f) (error_stream_state notes err_old) (error_stream_state notes err_new) in
      inr (told.0, part.1, subst P part.0 told.1)
