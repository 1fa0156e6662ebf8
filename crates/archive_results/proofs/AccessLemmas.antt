-- What the policy says of a message, and what is told of it.
use Rattle.std.proofs.Common.{◌≡◌, ℕ, Bool, false, List, Option, Some, None, ap, sym, subst, ◌∙◌}
use Rattle.policy_core.specs.Facts.{Facts}
use Rattle.policy_core.specs.Rules.{Rule}
use Rattle.policy_core.specs.Verdict.{Ruling, allowed, denied, verdict_of}
use Rattle.archive_model.specs.Records.{Message}
use Rattle.archive_results.specs.Access.{Ask, ReaderFacts, MessageFacts, is_own_by_address, message_facts, policy_facts_of, ruling_on, asked_under_ruling, asked_of_message, served, denied_by}

pub marked : (address : Option (List ℕ)) (m : Message) (marks : MessageFacts) (own : Bool) → marks ≡ record (message_facts None m) { own = own } → own ≡ is_own_by_address address m
    → marks ≡ message_facts address m
unfolding message_facts
marked address m marks own e is = e ∙ ap (λ (o : Bool). record (message_facts None m) { own = o }) is

-- where no rule asks whether a message is the reader's own, what is said of one that is not is said of each
pub unasked_ruling : (ask : Ask) (reader : ReaderFacts) (m : Message) (marks : MessageFacts) (said : Ruling) (rules : List Rule) → rules ≡ ask.rules
    → ((facts : Facts) (own : Bool) → verdict_of rules (record facts { own = own }) ≡ verdict_of rules facts)
    → marks ≡ record (message_facts None m) { own = false } → said ≡ ruling_on ask reader marks → said ≡ ruling_on ask reader (message_facts reader.address m)
unfolding message_facts ruling_on
unasked_ruling ask reader m marks said rules same alike e is =
    is ∙ ap (ruling_on ask reader) e
    ∙ subst (λ (rs : List Rule). (facts : Facts) (own : Bool) → verdict_of rs (record facts { own = own }) ≡ verdict_of rs facts) same alike
    (policy_facts_of ask reader (message_facts reader.address m)) false

-- no message is the own one of a reader without an address
pub unaddressed_ruling : (ask : Ask) (reader : ReaderFacts) (m : Message) → reader.address ≡ None
    → ruling_on ask reader (record (message_facts None m) { own = false }) ≡ ruling_on ask reader (message_facts reader.address m)
unfolding message_facts
unaddressed_ruling ask reader m none = ap (λ (a : Option (List ℕ)). ruling_on ask reader (message_facts a m)) (sym none)

pub is_served : (ask : Ask) (reader : ReaderFacts) (m : Message) (rule text : List ℕ) → allowed rule ≡ ruling_on ask reader (message_facts reader.address m) → text ≡ m.text
    → served text ≡ asked_of_message ask reader (Some m)
is_served ask reader m rule text r t = ap served t ∙ ap (asked_under_ruling m) r

pub is_denied : (ask : Ask) (reader : ReaderFacts) (m : Message) (rule : List ℕ) → denied rule ≡ ruling_on ask reader (message_facts reader.address m)
    → denied_by rule ≡ asked_of_message ask reader (Some m)
is_denied ask reader m rule r = ap (asked_under_ruling m) r
