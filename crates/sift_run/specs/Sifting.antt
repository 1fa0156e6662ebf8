-- Which messages of an mbox pass, and what is written of them.
use Rattle.std.specs.Prelude.{◌≡◌, ◌<◌, ◌≤◌, ◌⊎◌, ◌+◌, ◌-◌, ◌^◌, [], min, ℕ, ℤ, pos, int_le, List, ◌++◌, length, filter, Bool, true, false, ◌&&◌, Option, Some, None}
use Rattle.civil_time.specs.Calendar.{day_of_instant}
use Rattle.mbox_core.specs.Division.{Item, DividesIntoItems, IsPreamble}
use Rattle.mbox_core.specs.Written.{written, AppendsPrefixOfText}
use Rattle.policy_core.specs.Facts.{Facts, age}
use Rattle.policy_core.specs.Rules.{Rule}
use Rattle.policy_core.specs.Verdict.{Ruling, allowed, denied, verdict_of}
use Rattle.policy_core.specs.declared.access.Standing.{Standing}
use Rattle.policy_core.specs.declared.access.Withdrawn.TheVariants.{No}
use Rattle.mbox_core.specs.declared.faults.MboxFault.TheVariants.{Preamble, Read, Memory, Failed}
use Rattle.mbox_stream.specs.Stream.{IsBeginning, settled_items, IsOffsetUnlessOverflow}
use Rattle.mbox_stream.specs.Cutter.{CutterState, IsCutterConsistent}
use Rattle.mbox_stream.specs.declared.cutter.CutterPhase.TheVariants.{Open, Short}
use Rattle.archive_listen.specs.Connections.{ErrorStreamState}
use Rattle.sift_run.specs.Streams.{InputStreamState}
use Rattle.sift_run.specs.declared.sifting.SiftFault.{SiftFault}
use Rattle.sift_run.specs.declared.sifting.SiftFault.TheVariants.{Mbox, Write}

-- what is asked of each message: days are day numbers from 1970-01-01
pub record SiftConditions : Type 0 where
  pub list : List ℕ
  pub standing : Standing
  pub day : ℤ
  pub min_age : Option ℕ

-- a message of an mbox is not withdrawn and has no embargo, and is nobody's own
abbrev pub facts_of_item : SiftConditions → Item → Facts
facts_of_item asked item = record {
  list = asked.list;
  standing = asked.standing;
  day = asked.day;
  arrival_day = day_of_instant item.envelope.arrival;
  withdrawn = No;
  embargo_until = None;
  own = false;
}

abbrev pub is_old_enough : Option ℕ → Facts → Bool
is_old_enough None f = true
is_old_enough (Some least) f = int_le (pos least) (age f)

abbrev pub is_allowed : Ruling → Bool
is_allowed (allowed name) = true
is_allowed (denied name) = false

-- the message is old enough, where an age is asked for, and the policy allows it
abbrev pub message_passes : List Rule → SiftConditions → Item → Bool
message_passes rules asked item =
    is_old_enough asked.min_age (facts_of_item asked item) && is_allowed (verdict_of rules (facts_of_item asked item))

-- the written text of the messages that pass, in their order
abbrev pub filtered_text : List Rule → SiftConditions → List Item → List ℕ
filtered_text rules asked items = written (filter (message_passes rules asked) items)

-- `out` is the written text of those messages of an mbox that pass
pub record FiltersMbox (rules : List Rule) (asked : SiftConditions) (mbox out : List ℕ) : Type 0 where
  pub items : List Item
  pub divides_into_items : DividesIntoItems mbox items
  pub output_is_filtered : out ≡ filtered_text rules asked items

-- Of two devices, what each told before and after: the input gave an mbox, and the output got those of its messages that pass.
abbrev pub FiltersTranscript : List Rule → SiftConditions → List ℕ → List ℕ → List ℕ → List ℕ → Type 0
FiltersTranscript rules asked in_old in_new out_old out_new =
    (mbox : List ℕ) × (out : List ℕ) × (in_new ≡ in_old ++ mbox) × (out_new ≡ out_old ++ out) × FiltersMbox rules asked mbox out

-- The same after a fault of the output, to which exactly the first `count` bytes of the text went, where it told fewer than 2^64.
abbrev pub FiltersTranscriptPartly : List Rule → SiftConditions → List ℕ → List ℕ → List ℕ → List ℕ → ℕ → Type 0
FiltersTranscriptPartly rules asked in_old in_new out_old out_new count =
    (mbox : List ℕ) × (out : List ℕ) × (in_new ≡ in_old ++ mbox) × FiltersMbox rules asked mbox out
    × (length out_new < 2 ^ 64 → AppendsPrefixOfText out_old out_new out count)

-- The input was read to its end as an mbox, and the messages that pass were written, whole; no read and no write failed.
pub record FiltersWholeInput (rules : List Rule) (asked : SiftConditions) (in_old in_new : InputStreamState) (out_old out_new : ErrorStreamState) : Type 0 where
  pub filters_transcript : FiltersTranscript rules asked in_old.read in_new.read out_old.written out_new.written
  pub input_ended_once : in_new.ends ≡ in_old.ends + 1
  pub no_read_failed : in_new.failures ≡ in_old.failures
  pub no_write_failed : out_new.failures ≡ out_old.failures

-- ---- a fault of the input: what was read of it are these bytes

-- what passes of the settled messages went out
abbrev pub FiltersSettledMessages : List Rule → SiftConditions → List ℕ → List ℕ → List ℕ → List ℕ → Type 0
FiltersSettledMessages rules asked in_old in_new out_old out_new =
    (bytes : List ℕ) × (in_new ≡ in_old ++ bytes) × (out_new ≡ out_old ++ filtered_text rules asked (settled_items bytes))

-- what passes of a beginning of the settled messages went out
abbrev pub FiltersSomeSettledMessages : List Rule → SiftConditions → List ℕ → List ℕ → List ℕ → List ℕ → Type 0
FiltersSomeSettledMessages rules asked in_old in_new out_old out_new =
    (bytes : List ℕ) × (items : List Item) × (in_new ≡ in_old ++ bytes) × IsBeginning items (settled_items bytes)
    × (out_new ≡ out_old ++ filtered_text rules asked items)

-- their first line that is not empty is no separator line, and nothing went out
abbrev pub StopsAtPreamble : ℕ → List ℕ → List ℕ → List ℕ → List ℕ → Type 0
StopsAtPreamble n in_old in_new out_old out_new =
    (bytes : List ℕ) × (offset : ℕ) × (in_new ≡ in_old ++ bytes) × IsPreamble bytes offset × IsOffsetUnlessOverflow bytes n offset
    × (out_new ≡ out_old)

-- by the fault
abbrev pub FiltersUntilInputError : List Rule → SiftConditions → List ℕ → List ℕ → List ℕ → List ℕ → SiftFault → Type 0
FiltersUntilInputError rules asked in_old in_new out_old out_new (Mbox (Preamble n)) = StopsAtPreamble n in_old in_new out_old out_new
FiltersUntilInputError rules asked in_old in_new out_old out_new (Mbox Read) = FiltersSettledMessages rules asked in_old in_new out_old out_new
FiltersUntilInputError rules asked in_old in_new out_old out_new (Mbox Memory) = FiltersSomeSettledMessages rules asked in_old in_new out_old out_new
FiltersUntilInputError rules asked in_old in_new out_old out_new (Mbox Failed) = ⊥
FiltersUntilInputError rules asked in_old in_new out_old out_new (Write written) = Unit {0}

-- M2 is told only where a read failed, and where a read failed no other fault is told
abbrev pub MatchesReadFailures : SiftFault → (before after : ℕ) → Type 0
MatchesReadFailures (Mbox Read) before after = before < after
MatchesReadFailures fault before after = after ≡ before

-- The output failed only where that is told. Then exactly the first bytes of the text went out.
abbrev pub MatchesWriteFailures : List Rule → SiftConditions → InputStreamState → InputStreamState → ErrorStreamState → ErrorStreamState → SiftFault → Type 0
MatchesWriteFailures rules asked in_old in_new out_old out_new (Mbox fault) = out_new.failures ≡ out_old.failures
MatchesWriteFailures rules asked in_old in_new out_old out_new (Write written) =
    FiltersTranscriptPartly rules asked in_old.read in_new.read out_old.written out_new.written written × (out_old.failures < out_new.failures)

-- why a sift was not carried out, and what was read and written by then
pub record FilteringFails (rules : List Rule) (asked : SiftConditions) (in_old in_new : InputStreamState) (out_old out_new : ErrorStreamState) (fault : SiftFault) : Type 0 where
  pub filters_until_error : FiltersUntilInputError rules asked in_old.read in_new.read out_old.written out_new.written fault
  pub matches_read_failures : MatchesReadFailures fault in_old.failures in_new.failures
  pub matches_write_failures : MatchesWriteFailures rules asked in_old in_new out_old out_new fault

-- ---- over a cutter

-- nothing was fed to it
abbrev pub IsFreshCutter : CutterState → Type 0
IsFreshCutter c = (c ≡ record { stream = []; taken = []; waiting = []; phase = Open }) × IsCutterConsistent c

-- M3 is told only where the cutter told it, or after 2^64 - 1 reads, each of which gave a byte
abbrev pub MatchesCutterState : CutterState → SiftFault → Type 0
MatchesCutterState cutter (Mbox Memory) = (cutter.phase ≡ Short) ⊎ (2 ^ 64 - 1 ≤ length cutter.stream)
MatchesCutterState cutter fault = Unit {0}

-- So far the input gave a stream, of which the cutter may take more, and the output got what passes of the messages that
-- were taken, in so many bytes; none waits.
pub record FiltersSoFar (rules : List Rule) (asked : SiftConditions) (in_old in_new out_old out_new : List ℕ) (cutter : CutterState) (count : ℕ) : Type 0 where
  pub input_is_stream : in_new ≡ in_old ++ cutter.stream
  pub output_so_far : out_new ≡ out_old ++ filtered_text rules asked cutter.taken
  pub count_is_length : count ≡ min (length (filtered_text rules asked cutter.taken)) (2 ^ 64 - 1)
  pub none_waits : cutter.waiting ≡ []
  pub phase_is_open : cutter.phase ≡ Open
  pub is_consistent : IsCutterConsistent cutter
