-- How refusals are told, and what is said of words that order nothing.
use Rattle.std.specs.Prelude.{◌≡◌, ◌<◌, ◌≤◌, ◌⊎◌, ◌++◌, ℕ, List, codes, decimal, string_bytes, Result, ⊤, MatchResult}
use Rattle.byte_device.specs.declared.devices.Sink.{Ghosts as Takes}
use Rattle.mbox_core.specs.declared.faults.MboxFault.{MboxFault}
use Rattle.mbox_core.specs.declared.faults.MboxFault.TheVariants as mbox
use Rattle.policy_core.specs.declared.faults.PolicyFault.{PolicyFault}
use Rattle.policy_core.specs.declared.faults.PolicyFault.TheVariants as policy
use Rattle.archive_listen.specs.declared.connections.BufferedSink.{Ghosts as Passes}
use Rattle.archive_args.specs.declared.orders.OrderStop.{OrderStop}
use Rattle.archive_args.specs.declared.orders.OrderStop.TheVariants as stop
use Rattle.archive_listen.specs.Connections.{ErrorStreamState, error_stream_state}
use Rattle.sift_run.specs.Streams.{WritesAndFlushes, WritesPartAndFails, output_stream_state}
use Rattle.sift_run.specs.declared.faults.CommandError.{CommandError}
use Rattle.sift_run.specs.declared.faults.CommandError.TheVariants.{Mbox, Policy, Read, Write, Clock, Memory}

abbrev pub mbox_fault_text : MboxFault → List ℕ
mbox_fault_text (mbox.Preamble offset) = codes "M1 Preamble at " ++ decimal offset
mbox_fault_text mbox.Read = codes "M2 Read"
mbox_fault_text mbox.Memory = codes "M3 Memory"
mbox_fault_text mbox.Failed = codes "M4 Failed"

abbrev pub policy_fault_text : PolicyFault → List ℕ
policy_fault_text policy.NotToml = codes "P1 NotToml"
policy_fault_text (policy.UnknownKey rule) = codes "P2 UnknownKey in rule " ++ decimal rule
policy_fault_text (policy.WrongType rule) = codes "P3 WrongType in rule " ++ decimal rule
policy_fault_text (policy.BadName rule) = codes "P4 BadName in rule " ++ decimal rule
policy_fault_text (policy.DuplicateName rule) = codes "P5 DuplicateName in rule " ++ decimal rule
policy_fault_text (policy.BadValue rule) = codes "P6 BadValue in rule " ++ decimal rule
policy_fault_text policy.TooManyRules = codes "P7 TooManyRules"
policy_fault_text policy.Memory = codes "P8 Memory"

-- the number and the name, and where the fault is
abbrev pub command_error_text : CommandError → List ℕ
command_error_text (Mbox fault) = mbox_fault_text fault
command_error_text (Policy fault) = policy_fault_text fault
command_error_text Read = codes "F1 Read"
command_error_text Write = codes "F2 Write"
command_error_text Clock = codes "F3 Clock"
command_error_text Memory = codes "F5 Memory"

-- the one line that tells a refusal of this text
abbrev pub refusal_line : (text : List ℕ) → List ℕ
refusal_line text = codes "archive: " ++ text ++ codes "\n"

-- The text was written, whole; or a write failed.
abbrev pub WritesErrorTextOrFails : {X E : Type 0} → Takes E → (old new : E) → (text : List ℕ) → Result ⊤ X → Type 0
WritesErrorTextOrFails notes old new text result = MatchResult result
    (λ _. (notes.told new ≡ notes.told old ++ text) × (notes.failures new ≡ notes.failures old))
    (λ _. notes.failures old < notes.failures new)

-- The line of the text, and nothing else, was told, where the stream of faults did not fail.
abbrev pub WritesErrorLine : (text : List ℕ) → (before after : ErrorStreamState) → Type 0
WritesErrorLine text before after = (before.failures ≤ after.failures)
    × (after.failures ≡ before.failures → after.written ≡ before.written ++ refusal_line text)

-- ---- words that order nothing

-- By why the words order nothing. Help goes out whole and is passed on; or the output failed, a beginning of it went out, and the
-- line of F2 is told. What is wrong with bad words is told, whole, where the stream of faults did not fail. And of want of memory
-- the line of F5. The stream that has nothing to do with it is as before.
module _ {O E : Type 0} (takes : Takes O) (passes : Passes O) (notes : Takes E) (out_old out_new : O) (err_old err_new : E) where
  -- Profile: the exit status (0 for help, 1 for a fault, 2 for bad words), and what the output and the stream of faults got
  abbrev pub ReportsOrderStop : OrderStop → (status : ℕ) → Type 0
  ReportsOrderStop (stop.Help text) status =
      ((status ≡ 0) × WritesAndFlushes (output_stream_state takes passes out_old) (output_stream_state takes passes out_new) (string_bytes text) × (err_new ≡ err_old))
      ⊎ ((status ≡ 1) × WritesPartAndFails (output_stream_state takes passes out_old) (output_stream_state takes passes out_new) (string_bytes text)
      × WritesErrorLine (command_error_text Write) (error_stream_state notes err_old) (error_stream_state notes err_new))
  ReportsOrderStop (stop.Words text) status = (status ≡ 2) × (out_new ≡ out_old)
      × (notes.failures err_new ≡ notes.failures err_old → notes.told err_new ≡ notes.told err_old ++ string_bytes text)
  ReportsOrderStop stop.Memory status = (status ≡ 1) × (out_new ≡ out_old) × WritesErrorLine (command_error_text Memory) (error_stream_state notes err_old) (error_stream_state notes err_new)
