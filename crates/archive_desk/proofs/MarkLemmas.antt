-- What is known of a reader, and what a policy says by it.
use Rattle.std.proofs.Common.{◌≡◌, refl, sym, ap, ◌∙◌, ℕ, Bool, false, List, filter, Option, Some, None, Result, arith}
use Rattle.std.specs.Prelude.{option_map}
use Rattle.std.proofs.lemmas.List.Elements.{filter_agree}
use Rattle.std.proofs.lemmas.Option.{none-some}
use Rattle.archive_port.specs.declared.state.ArchiveState.{Ghosts}
use Rattle.policy_core.specs.declared.access.Standing.{Standing}
use Rattle.policy_core.specs.Facts.{Facts}
use Rattle.policy_core.specs.Verdict.{verdict_of}
use Rattle.archive_model.specs.Records.{Archive, Message}
use Rattle.archive_model.specs.Questions.{address_of, standing_of, standing_refusal}
use Rattle.archive_port.specs.Told.{HoldsTables, RelatesArchivesUnder, AnswersFromStoreUnder}
use Rattle.archive_port.proofs.Joins.{goes_in_as}
use Rattle.archive_results.specs.Access.{Ask, ReaderFacts, policy_facts_of, is_allowed_ruling, is_shown, message_facts, reader_facts, reader_standing, ruling_on, standing_of_rank, asked_under_ruling}
use Rattle.archive_results.specs.Access.{asked_of_message}
use Rattle.archive_desk.specs.Asking.{DeterminesVerdicts, person_reason}
use Rattle.archive_desk.specs.Faults.{refusal_reason, reason_of_refusal}
use Rattle.archive_desk.specs.declared.faults.DeskError.{DeskError}
use Rattle.archive_desk.proofs.CallLemmas.{asks_after}

-- ---- what is enough

module _ (a : Archive) (ask : Ask) (reader : ReaderFacts) where
  module _ (enough : DeterminesVerdicts a ask reader) where
    -- the same messages are shown
    pub view_alike : (messages : List Message) → filter (is_shown ask reader) messages ≡ filter (is_shown ask (reader_facts a ask)) messages
    view_alike messages = filter_agree (is_shown ask reader) (is_shown ask (reader_facts a ask)) (λ m. ap is_allowed_ruling (enough m)) messages

    -- the same is said of one
    pub asked_alike : (held : Option Message) → asked_of_message ask reader held ≡ asked_of_message ask (reader_facts a ask) held
    asked_alike None = refl
    asked_alike (Some m) = ap (asked_under_ruling m) (enough m)

  -- all that a policy may ask
  enough_all : reader ≡ reader_facts a ask → DeterminesVerdicts a ask reader
  enough_all is = λ m. ap (λ r. ruling_on ask r (message_facts r.address m)) is

-- the standing alone, where no rule asks whether a message is the reader's own
enough_unasked : (a : Archive) (ask : Ask) (standing : Standing) → ((f : Facts) (own : Bool) → verdict_of ask.rules (record f { own = own }) ≡ verdict_of ask.rules f)
    → standing ≡ reader_standing a ask → DeterminesVerdicts a ask (record { standing = standing; address = None })
unfolding message_facts ruling_on
enough_unasked a ask standing alike is = λ m.
    let address = (reader_facts a ask).address in
    alike (policy_facts_of ask (record { standing = standing; address = address }) (message_facts address m)) false
    ∙ ap (λ s. verdict_of ask.rules (policy_facts_of ask (record { standing = s; address = address }) (message_facts address m))) is

-- ---- a person

-- who has a standing is there
person_there : (a : Archive) (person list : List ℕ) → option_map reason_of_refusal (standing_refusal a person list) ≡ None → person_reason a person ≡ None
person_there a person list is = grind arith

module _ {S W : Type 0} (g : Ghosts S W) (ask : Ask) (person : List ℕ) (standing : Standing) where
  -- what is asked by this person
  abbrev asks : Ask
  asks = record ask { reader = Some person }

  -- this person's standing was found
  abbrev Stands : Archive → Archive → Type 0
  Stands a b = (b ≡ a) × (option_map reason_of_refusal (standing_refusal a person ask.list) ≡ None) × (standing ≡ standing_of_rank (standing_of a person ask.list ask.day))

  abbrev IsKnown : ReaderFacts → Archive → Archive → Type 0
  IsKnown reader a b = (b ≡ a) × (option_map reason_of_refusal (standing_refusal a person ask.list) ≡ None) × DeterminesVerdicts a asks reader

  -- no rule asks for the address
  pub person_unasked : (old new : S) → RelatesArchivesUnder g (HoldsTables g) old new Stands
      → ((f : Facts) (own : Bool) → verdict_of ask.rules (record f { own = own }) ≡ verdict_of ask.rules f)
      → RelatesArchivesUnder g (HoldsTables g) old new (IsKnown (record { standing = standing; address = None }))
  person_unasked old new found alike =
      goes_in_as g (HoldsTables g) old new Stands (IsKnown (record { standing = standing; address = None }))
      (λ a b h. (h.0, h.1, enough_unasked a asks standing alike h.2)) found

  -- the address was asked
  pub person_known : (old mid new : S) {X : Type 0} (say : X → Option (List ℕ)) (result : Result X DeskError) → RelatesArchivesUnder g (HoldsTables g) old mid Stands
      → AnswersFromStoreUnder g (HoldsTables g) mid new refusal_reason result (λ a. person_reason a person) (λ a address. say address ≡ address_of a person)
      → AnswersFromStoreUnder g (HoldsTables g) old new refusal_reason result (λ a. option_map reason_of_refusal (standing_refusal a person ask.list))
      (λ a address. DeterminesVerdicts a asks (record { standing = standing; address = say address }))
  person_known old mid new say =
      asks_after g (HoldsTables g) old mid new refusal_reason (λ a. option_map reason_of_refusal (standing_refusal a person ask.list) ≡ None)
      (λ a. standing ≡ standing_of_rank (standing_of a person ask.list ask.day)) (λ a. person_reason a person) (λ a. option_map reason_of_refusal (standing_refusal a person ask.list))
      (λ a address. say address ≡ address_of a person) (λ a address. DeterminesVerdicts a asks (record { standing = standing; address = say address })) (λ a there first none. there)
      (λ a why there first some. absurd (none-some why (sym (person_there a person ask.list there) ∙ some)))
      (λ a address there first it. enough_all a asks (record { standing = standing; address = say address }) (λ i. record { standing = first i; address = it i }))
