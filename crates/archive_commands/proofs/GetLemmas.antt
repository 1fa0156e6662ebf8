-- One message, from the desk's answer.
use Rattle.std.proofs.Common.{◌≡◌, refl, sym, ap, ◌∙◌, ℕ, true, false, List, cond, Option, Some, None, Ok, Err}
use Rattle.std.specs.Prelude.{option_map, Vec, MatchOption}
use Rattle.std.specs.declared.alloc.Global.{Global}
use Rattle.archive_port.specs.declared.state.ArchiveState.{Ghosts}
use Rattle.archive_model.specs.Records.{Archive}
use Rattle.archive_model.specs.Keys.{is_key}
use Rattle.archive_port.specs.Told.{HoldsTables}
use Rattle.archive_port.proofs.Joins.{stays_there_in, goes_in_as}
use Rattle.archive_results.specs.Access.{Ask, Asked, served, asked_for_key, spec_asked}
use Rattle.archive_results.specs.declared.asking.Asked.{Asked as Answer}
use Rattle.archive_desk.specs.Faults.{RefusalReason, refusal_reason, ask_reason}
use Rattle.archive_desk.specs.Holding.{RelatesTableArchives, RelatesTableArchivesIfOpen, AnswersFromStoreTables}
use Rattle.archive_desk.specs.declared.faults.DeskError.{DeskError}
use Rattle.archive_commands.specs.Getting.{GetRefusal, unanswered, no_message, get_result_of, get_result_unless_refused, message_or_refusal, get_refusal_of}
use Rattle.archive_commands.specs.Working.{GetsMessage}
use Rattle.archive_commands.specs.declared.getting.GetError.{GetError}
use Rattle.archive_commands.specs.declared.getting.GetError.TheVariants.{Fault, NoMessage}

module _ {S W : Type 0} (g : Ghosts S W) (old new : S) (ask : Ask) (key : List ℕ) where
  -- what is got where the key is one and the question is not refused
  got_answered : (a : Archive) (answer : Asked) → is_key key ≡ true → ask_reason a ask ≡ None → answer ≡ asked_for_key a ask key → message_or_refusal a ask key ≡ get_result_of answer
  got_answered a answer is fine says =
      ap (λ t. cond t (get_result_unless_refused (ask_reason a ask) (get_result_of (asked_for_key a ask key))) (Err no_message)) is
      ∙ ap (λ r. get_result_unless_refused r (get_result_of (asked_for_key a ask key))) fine ∙ ap get_result_of (sym says)

  got_refused : (a : Archive) (why : RefusalReason) → is_key key ≡ true → ask_reason a ask ≡ Some why → message_or_refusal a ask key ≡ Err (unanswered why)
  got_refused a why is refuses =
      ap (λ t. cond t (get_result_unless_refused (ask_reason a ask) (get_result_of (asked_for_key a ask key))) (Err no_message)) is
      ∙ ap (λ r. get_result_unless_refused r (get_result_of (asked_for_key a ask key))) refuses

  -- a stop that has a reason, and one that has none
  refused_as : (stop : GetError) (why : GetRefusal) → get_refusal_of stop ≡ Some why → RelatesTableArchives g old new (λ a b. (b ≡ a) × (message_or_refusal a ask key ≡ Err why))
      → GetsMessage g old new ask key (Err stop)
  refused_as stop why is goes = rw is goes

  failed_as : (stop : GetError) → get_refusal_of stop ≡ None → RelatesTableArchivesIfOpen g old new (λ a b. b ≡ a) → GetsMessage g old new ask key (Err stop)
  failed_as stop is goes = rw is goes

  module _ (is : is_key key ≡ true) where
    -- the desk answers
    pub gets_text : (answer : Answer) (text : Vec ℕ Global) → spec_asked answer ≡ served text.items
        → AnswersFromStoreTables g old new {A = Answer} refusal_reason (Ok answer) (λ a. ask_reason a ask) (λ a answer. spec_asked answer ≡ asked_for_key a ask key)
        → GetsMessage g old new ask key (Ok text)
    gets_text answer text is_text asks =
        goes_in_as g (HoldsTables g) old new (λ a b. (b ≡ a) × (ask_reason a ask ≡ None) × (spec_asked answer ≡ asked_for_key a ask key))
        (λ a b. (b ≡ a) × (message_or_refusal a ask key ≡ Ok text.items))
        (λ a b h. (h.0, got_answered a (spec_asked answer) is h.1 h.2 ∙ ap get_result_of is_text)) asks

    pub gets_none : (answer : Answer) (stop : GetError) (why : GetRefusal) → get_result_of (spec_asked answer) ≡ Err why → get_refusal_of stop ≡ Some why
        → AnswersFromStoreTables g old new {A = Answer} refusal_reason (Ok answer) (λ a. ask_reason a ask) (λ a answer. spec_asked answer ≡ asked_for_key a ask key)
        → GetsMessage g old new ask key (Err stop)
    gets_none answer stop why is_none says asks =
        refused_as stop why says
        (goes_in_as g (HoldsTables g) old new (λ a b. (b ≡ a) × (ask_reason a ask ≡ None) × (spec_asked answer ≡ asked_for_key a ask key)) (λ a b. (b ≡ a) × (message_or_refusal a ask key ≡ Err why))
        (λ a b h. (h.0, got_answered a (spec_asked answer) is h.1 h.2 ∙ is_none)) asks)

    -- the desk refuses
    pub gets_fault : (fault : DeskError)
        → AnswersFromStoreTables g old new {A = Answer} refusal_reason (Err fault) (λ a. ask_reason a ask) (λ a answer. spec_asked answer ≡ asked_for_key a ask key)
        → GetsMessage g old new ask key (Err (Fault fault))
    gets_fault fault asks = by (refusal_reason fault) refl asks
      where
        by : (r : Option RefusalReason) → refusal_reason fault ≡ r
            → MatchOption r (RelatesTableArchivesIfOpen g old new (λ a b. b ≡ a)) (λ why. RelatesTableArchives g old new (λ a b. (b ≡ a) × (ask_reason a ask ≡ Some why)))
            → GetsMessage g old new ask key (Err (Fault fault))
        by None none goes =
            failed_as (Fault fault) (ap (option_map unanswered) none) goes
        by (Some why) some goes =
            refused_as (Fault fault) (unanswered why) (ap (option_map unanswered) some)
            (goes_in_as g (HoldsTables g) old new (λ a b. (b ≡ a) × (ask_reason a ask ≡ Some why)) (λ a b. (b ≡ a) × (message_or_refusal a ask key ≡ Err (unanswered why)))
            (λ a b h. (h.0, got_refused a why is h.1)) goes)

  -- nothing is asked where the key is none
  pub gets_no_key : (store : S) → is_key key ≡ false → GetsMessage g store store ask key (Err NoMessage)
  gets_no_key store is =
      goes_in_as g (HoldsTables g) store store (λ a b. b ≡ a) (λ a b. (b ≡ a) × (message_or_refusal a ask key ≡ Err no_message))
      (λ a b h. (h, ap (λ t. cond t (get_result_unless_refused (ask_reason a ask) (get_result_of (asked_for_key a ask key))) (Err no_message)) is))
      (stays_there_in g (HoldsTables g) store)
