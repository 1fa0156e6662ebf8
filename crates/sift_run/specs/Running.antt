-- What a sift reads and writes, and why it stops; the policy and the day of any order.
use Rattle.std.specs.Prelude.{◌≡◌, ◌≢◌, ◌<◌, ◌+◌, ◌⊎◌, ◌∷◌, [], ℕ, ℤ, pos, List, Bool, true, false, ◌||◌, is_some, Option, Some, None, Result, Ok, Err, ⊤, IsUtf8, MatchResult}
use Rattle.policy_core.specs.Rules.{Rule, open_rule}
use Rattle.policy_core.specs.Written.{written_policy}
use Rattle.policy_core.specs.declared.faults.PolicyFault.TheVariants as policy
use Rattle.sift_run.specs.declared.faults.CommandError.{CommandError}
use Rattle.sift_run.specs.declared.faults.CommandError.TheVariants.{Mbox, Policy, Read, Write, Clock, Memory}
use Rattle.sift_run.specs.Streams.{InputStreamState, OutputStreamState, input_stream_state, output_stream_state}
use Rattle.sift_run.specs.declared.clock.DayClock.{Ghosts as Tells}
use Rattle.sift_run.specs.declared.files.ReadFiles.{Ghosts as Gives}
use Rattle.sift_run.specs.declared.files.FileError.TheVariants as file
use Rattle.clap.specs.Words.{fault_of, takes}
use Rattle.archive_args.specs.Program.{archive_app}
use Rattle.archive_args.specs.Orders.{order_of_args}
use Rattle.archive_args.specs.Values.{SiftValues}
use Rattle.archive_args.specs.declared.orders.Order.{Order}
use Rattle.archive_args.specs.declared.orders.Order.TheVariants.{Sift}
use Rattle.byte_device.specs.declared.devices.Sink.{Ghosts as Takes}
use Rattle.byte_device.specs.declared.devices.Source.{Ghosts as Reads}
use Rattle.mbox_core.specs.declared.faults.MboxFault.{MboxFault}
use Rattle.archive_listen.specs.declared.connections.BufferedSink.{Ghosts as Passes}
use Rattle.sift_run.specs.declared.sifting.SiftFault.TheVariants as sift
use Rattle.sift_run.specs.Sifting.{SiftConditions, FiltersTranscript, FiltersTranscriptPartly, FiltersUntilInputError, MatchesReadFailures}

-- the words are such as the program takes, or `clap` has no fault to tell of them; and they order this
abbrev pub ParseAsOrder : List (List ℕ) → Order → Type 0
ParseAsOrder words order = ((takes archive_app words ≡ true) ⊎ (fault_of archive_app words ≡ [])) × (order_of_args words ≡ Some order)

abbrev pub IsNotSiftOrder : Order → Type 0
IsNotSiftOrder (Sift order) = ⊥
IsNotSiftOrder _ = ⊤

-- the words order something, and no sift
abbrev pub ParseAsOtherOrder : List (List ℕ) → Type 0
ParseAsOtherOrder words = (order : Order) × ParseAsOrder words order × IsNotSiftOrder order

-- ---- the policy

-- The refusal is the first that the text has as a policy; want of memory may come in its place.
abbrev pub IsPolicyRefusal : List ℕ → CommandError → Type 0
IsPolicyRefusal text (Policy fault) = fault ≢ policy.Memory → written_policy text ≡ Err fault
IsPolicyRefusal text _ = ⊥

module _ {F : Type 0} (reads : Gives F) (files : F) where
  -- The rules of an order: those that the named file writes, and where none is named the open policy's.
  abbrev pub AreRulesOfPolicyFile : Option (List ℕ) → List Rule → Type 0
  AreRulesOfPolicyFile None rules = rules ≡ open_rule ∷ []
  AreRulesOfPolicyFile (Some name) rules = (text : List ℕ) × reads.gives files name (Ok text) × (written_policy text ≡ Ok rules)

  -- Why there are no rules: the named file was not read (F1), or there was no memory to hold it (F5), as the files say; or
  -- it was read, and its bytes are no policy (P1 to P7; P1 where they are no text), or there was no memory to read them (P8).
  abbrev pub IsPolicyErrorCause : Option (List ℕ) → CommandError → Type 0
  IsPolicyErrorCause None refusal = ⊥
  IsPolicyErrorCause (Some name) Read = reads.gives files name (Err file.Read)
  IsPolicyErrorCause (Some name) Memory = reads.gives files name (Err file.Memory)
  IsPolicyErrorCause (Some name) (Policy policy.Memory) = (text : List ℕ) × reads.gives files name (Ok text)
  IsPolicyErrorCause (Some name) (Policy policy.NotToml) =
      (text : List ℕ) × reads.gives files name (Ok text) × ((¬ IsUtf8 text) ⊎ (written_policy text ≡ Err policy.NotToml))
  IsPolicyErrorCause (Some name) (Policy fault) = (text : List ℕ) × reads.gives files name (Ok text) × (written_policy text ≡ Err fault)
  IsPolicyErrorCause (Some name) _ = ⊥

-- ---- the day

-- an order looks at the day where an age or a policy is asked for
abbrev pub needs_day : SiftValues → Bool
needs_day order = is_some order.min_age || is_some order.policy

-- The day: the one that was given; or what the clock gives, where the order looks at the day; or 1970-01-01. A clock that
-- is not asked is as before.
abbrev pub IsReadingDay : {C : Type 0} → Tells C → Option ℤ → Bool → C → C → Option ℤ → Type 0
IsReadingDay tells (Some given) needs old new day = (new ≡ old) × (day ≡ Some given)
IsReadingDay tells None true old new day = tells.gives old new day
IsReadingDay tells None false old new day = (new ≡ old) × (day ≡ Some (pos 0))

-- ---- a sift

-- what is asked of each message on the reading day
abbrev pub sift_conditions : SiftValues → ℤ → SiftConditions
sift_conditions order day = record { list = order.list; standing = order.standing; day = day; min_age = order.min_age }

-- an order, a clock before and after, and the streams before and after
module _ {C : Type 0} (tells : Tells C) (order : SiftValues) (old new : C) (in_old in_new : InputStreamState) (out_old out_new : OutputStreamState) where
  abbrev pub IsReadingDayOfSift : Option ℤ → Type 0
  IsReadingDayOfSift day = IsReadingDay tells order.day (needs_day order) old new day

  -- By some rules, the input was read to its end as an mbox, and the messages that pass were written, whole, and passed on.
  pub record SiftSucceeds (rules : List Rule) : Type 0 where
    pub day : ℤ
    pub is_day : IsReadingDayOfSift (Some day)
    pub filters_transcript : FiltersTranscript rules (sift_conditions order day) in_old.read in_new.read out_old.written out_new.written
    pub input_ended_once : in_new.ends ≡ in_old.ends + 1
    pub no_read_failed : in_new.failures ≡ in_old.failures
    pub no_write_failed : out_new.failures ≡ out_old.failures
    pub all_is_passed : out_new.passed ≡ out_new.written

  -- the output failed, and took a beginning of the messages that pass
  pub record SiftFailsToWrite (rules : List Rule) : Type 0 where
    pub day : ℤ
    pub is_day : IsReadingDayOfSift (Some day)
    pub count : ℕ
    pub filters_transcript : FiltersTranscriptPartly rules (sift_conditions order day) in_old.read in_new.read out_old.written out_new.written count
    pub no_read_failed : in_new.failures ≡ in_old.failures
    pub output_failed : out_old.failures < out_new.failures

  -- the clock told a day where it was asked, and the fault of the input is as a sift tells it
  pub record SiftFailsToRead (rules : List Rule) (fault : MboxFault) : Type 0 where
    pub day : ℤ
    pub is_day : IsReadingDayOfSift (Some day)
    pub filters_until_error : FiltersUntilInputError rules (sift_conditions order day) in_old.read in_new.read out_old.written out_new.written (sift.Mbox fault)
    pub matches_read_failures : MatchesReadFailures (sift.Mbox fault) in_old.failures in_new.failures
    pub no_write_attempted : out_new.failures ≡ out_old.failures

  -- Why a sift by some rules was refused: the clock gave no day (F3); the input is no mbox (M1), or a read failed, for which M2 alone is
  -- told, or there was no memory (M3); the output failed (F2).
  abbrev pub IsSiftErrorCause : List Rule → CommandError → Type 0
  IsSiftErrorCause rules Clock = IsReadingDayOfSift None × (in_new ≡ in_old) × (out_new ≡ out_old)
  IsSiftErrorCause rules (Mbox fault) = SiftFailsToRead rules fault
  IsSiftErrorCause rules Write = SiftFailsToWrite rules
  IsSiftErrorCause rules _ = ⊥

-- what a sift is over, before and after
module _ {C R O : Type 0} (tells : Tells C) (reads : Reads R) (writes : Takes O) (passes : Passes O) (clock_old clock_new : C) (in_old in_new : R)
    (out_old out_new : O) where
  -- by some rules: it was carried out, or stopped for a cause
  abbrev pub SiftEndsByRules : SiftValues → List Rule → Result ⊤ CommandError → Type 0
  SiftEndsByRules order rules result = MatchResult result
      (λ _. SiftSucceeds tells order clock_old clock_new (input_stream_state reads in_old) (input_stream_state reads in_new) (output_stream_state writes passes out_old)
      (output_stream_state writes passes out_new) rules)
      (IsSiftErrorCause tells order clock_old clock_new (input_stream_state reads in_old) (input_stream_state reads in_new) (output_stream_state writes passes out_old)
      (output_stream_state writes passes out_new) rules)

  module _ {F : Type 0} (gives : Gives F) (files : F) where
    -- There are no rules, and nothing was touched; or there are, and it came to this by them.
    abbrev pub SiftEndsByPolicy : SiftValues → Result ⊤ CommandError → Type 0
    SiftEndsByPolicy order (Ok done) = (rules : List Rule) × AreRulesOfPolicyFile gives files order.policy rules × SiftEndsByRules order rules (Ok done)
    SiftEndsByPolicy order (Err fault) =
        (IsPolicyErrorCause gives files order.policy fault × (clock_new ≡ clock_old) × (in_new ≡ in_old) × (out_new ≡ out_old))
        ⊎ ((rules : List Rule) × AreRulesOfPolicyFile gives files order.policy rules × SiftEndsByRules order rules (Err fault))

    -- It was stopped for a cause, or there was no memory to read the words, and nothing was touched.
    abbrev pub IsSiftError : SiftValues → CommandError → Type 0
    IsSiftError order fault =
        ((fault ≡ Memory) × (clock_new ≡ clock_old) × (in_new ≡ in_old) × (out_new ≡ out_old)) ⊎ SiftEndsByPolicy order (Err fault)
