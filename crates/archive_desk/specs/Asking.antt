-- What the desk asks of the store about a reader.
use Rattle.std.specs.Prelude.{◌≡◌, ℕ, List, Option, option_map}
use Rattle.std.specs.Option.{option_and_then}
use Rattle.archive_model.specs.Records.{Archive, Message}
use Rattle.archive_model.specs.Questions.{person_refusal, standing_refusal}
use Rattle.archive_results.specs.Access.{Ask, ReaderFacts, message_facts, reader_facts, ruling_on}
use Rattle.archive_desk.specs.Faults.{RefusalReason, reason_of_refusal}

-- why the reader's standing is not told: there the person is looked for before the list
abbrev pub standing_reason : Archive → Ask → Option RefusalReason
standing_reason archive ask = option_map reason_of_refusal (option_and_then (λ person. standing_refusal archive person ask.list) ask.reader)

-- why nothing is told of a person
abbrev pub person_reason : Archive → (person : List ℕ) → Option RefusalReason
person_reason archive person = option_map reason_of_refusal (person_refusal archive person)

-- What is known of a reader is enough: of each message the policy says by it what it says by the reader's standing and address.
abbrev pub DeterminesVerdicts : Archive → Ask → ReaderFacts → Type 0
DeterminesVerdicts archive ask reader = (m : Message) → ruling_on ask reader (message_facts reader.address m)
    ≡ ruling_on ask (reader_facts archive ask) (message_facts (reader_facts archive ask).address m)
