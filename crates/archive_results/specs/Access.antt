-- Who may read which message: the view of a reader is the messages of a list that the policy allows. (profile: the archive's
-- own rules of access)
use Rattle.std.specs.Prelude.{◌≡◌, ℕ, ℤ, pos, List, Bool, true, false, not, ◌&&◌, filter, bytes_eq, Option, Some, None, is_some, if◌then◌else◌}
use Rattle.std.specs.Ordering.{int_eq}
use Rattle.std.specs.Option.{option_map_or, option_and_then}
use Rattle.civil_time.specs.Calendar.{day_of_instant}
use Rattle.mail_core.specs.Author.{author_of}
use Rattle.policy_core.specs.declared.access.Standing.{Standing}
use Rattle.policy_core.specs.declared.access.Standing.TheVariants.{Public, Member, Subscriber, Moderator}
use Rattle.policy_core.specs.declared.access.Withdrawn.{Withdrawn}
use Rattle.policy_core.specs.declared.access.Withdrawn.TheVariants.{No, Author, Board}
use Rattle.policy_core.specs.Facts.{Facts}
use Rattle.policy_core.specs.Rules.{Rule, has_own_condition}
use Rattle.policy_core.specs.Verdict.{Ruling, allowed, denied, verdict_of}
use Rattle.archive_model.specs.Records.{Message, Archive}
use Rattle.archive_model.specs.Questions.{has_list, has_person, address_of, standing_of, messages_in, message_of}
use Rattle.archive_results.specs.declared.asking.Reader.{Reader}
use Rattle.archive_results.specs.declared.asking.Reader.TheVariants.{Nobody, Person}
use Rattle.archive_results.specs.declared.asking.Asked.{Asked as Told}
use Rattle.archive_results.specs.declared.asking.Asked.TheVariants.{Served, Denied, Absent}

-- What is asked: under these rules, by this person or by nobody, of this list, on this day.
pub record Ask : Type 0 where
  pub rules : List Rule
  pub reader : Option (List ℕ)
  pub list : List ℕ
  pub day : ℤ

-- the name of a reader
abbrev pub reader_name : Reader → Option (List ℕ)
reader_name Nobody = None
reader_name (Person name) = Some name.now

-- ---- the facts that a policy is asked about

-- the standing of a rank: 1 is a member, 2 a subscriber, 3 a moderator
abbrev pub standing_of_rank : ℤ → Standing
standing_of_rank rank =
    if int_eq rank (pos 3) then Moderator
    else if int_eq rank (pos 2) then Subscriber
    else if int_eq rank (pos 1) then Member
    else Public

-- who withdrew a message, by number: 1 its author, 2 the board
abbrev pub withdrawal_of_number : ℤ → Withdrawn
withdrawal_of_number number = if int_eq number (pos 2) then Board else if int_eq number (pos 1) then Author else No

-- the reader's standing on the list and the day; nobody is the public
abbrev pub reader_standing : Archive → Ask → Standing
reader_standing archive ask = option_map_or (λ person. standing_of_rank (standing_of archive person ask.list ask.day)) ask.reader Public

-- What a policy asks of a reader: the standing on the list and the day, and the address of a person who has one.
pub record ReaderFacts : Type 0 where
  pub standing : Standing
  pub address : Option (List ℕ)

-- who asks, as the archive knows it on the list and day of the question; nobody is the public, and has no address
abbrev pub reader_facts : Archive → Ask → ReaderFacts
reader_facts archive ask =
    record { standing = reader_standing archive ask; address = option_and_then (address_of archive) ask.reader }

-- A message is the own one of a reader with this address: it is the message's author key. Who has no address has no own message.
abbrev pub is_own_by_address : (address : Option (List ℕ)) → Message → Bool
is_own_by_address address m = option_map_or (λ a. bytes_eq a (author_of m.text)) address false

-- What a policy asks of a message: when it came, who withdrew it, the day up to which it is held back, and whether it is the
-- reader's own.
pub record MessageFacts : Type 0 where
  pub arrival : ℤ
  pub withdrawn : Withdrawn
  pub embargo_until : Option ℤ
  pub own : Bool

-- the facts of a message that a policy weighs, for a reader of this address; without one, no message is the reader's own
unfoldable pub message_facts : (address : Option (List ℕ)) → Message → MessageFacts
message_facts address m = record {
  arrival = m.arrival;
  withdrawn = withdrawal_of_number m.withdrawn;
  embargo_until = m.embargo;
  own = is_own_by_address address m;
}

abbrev pub policy_facts_of : Ask → ReaderFacts → MessageFacts → Facts
policy_facts_of ask reader marks = record {
  list = ask.list;
  standing = reader.standing;
  day = ask.day;
  arrival_day = day_of_instant marks.arrival;
  withdrawn = marks.withdrawn;
  embargo_until = marks.embargo_until;
  own = marks.own;
}

-- what the policy says of a message of these marks to a reader of these
unfoldable pub ruling_on : Ask → ReaderFacts → MessageFacts → Ruling
ruling_on ask reader marks = verdict_of ask.rules (policy_facts_of ask reader marks)

abbrev pub is_allowed_ruling : Ruling → Bool
is_allowed_ruling (allowed rule) = true
is_allowed_ruling (denied rule) = false

abbrev pub policy_allows : Ask → ReaderFacts → MessageFacts → Bool
policy_allows ask reader marks = is_allowed_ruling (ruling_on ask reader marks)

-- the policy allows the reader this message; the view has such messages alone
abbrev pub is_shown : Ask → ReaderFacts → Message → Bool
is_shown ask reader m = policy_allows ask reader (message_facts reader.address m)

-- who wrote a message matters: a rule asks whether it is the reader's own, and the reader has an address
abbrev pub asks_author : Ask → ReaderFacts → Bool
asks_author ask reader = has_own_condition ask.rules && is_some reader.address

-- the policy denies the reader this message, and says so by its marks alone, whatever its text is
abbrev pub is_withheld : Ask → ReaderFacts → Message → Bool
is_withheld ask reader m = not (asks_author ask reader) && not (is_shown ask reader m)

-- ---- own messages, in words

-- A message is the reader's own: the reader is a person, and this person's address is the message's author key.
pub record IsOwnMessage (archive : Archive) (ask : Ask) (m : Message) : Type 0 where
  pub person : List ℕ
  pub reader_is_person : ask.reader ≡ Some person
  pub address_is_author : address_of archive person ≡ Some (author_of m.text)

-- ---- the view, and one message

-- The view of a reader: the list's messages that the policy allows, in mailbox order.
abbrev pub view_of : Archive → Ask → List Message
view_of archive ask = filter (is_shown ask (reader_facts archive ask)) (messages_in archive ask.list)

-- What who asks for a message by its key gets: its whole text, the rule that denies it, or that the list does not hold it.
pub data Asked : Type 0 where
  served : (text : List ℕ) → Asked
  denied_by : (rule : List ℕ) → Asked
  absent : Asked

abbrev pub asked_under_ruling : Message → Ruling → Asked
asked_under_ruling m (allowed rule) = served m.text
asked_under_ruling m (denied rule) = denied_by rule

-- of the message that the list holds, if it does
abbrev pub asked_of_message : Ask → ReaderFacts → Option Message → Asked
asked_of_message ask reader held = option_map_or (λ m. asked_under_ruling m (ruling_on ask reader (message_facts reader.address m))) held absent

-- The answer to a reader who asks for a message by its key. Profile: a denial names its rule, and so tells that the list holds the
-- message.
abbrev pub asked_for_key : Archive → Ask → (key : List ℕ) → Asked
asked_for_key archive ask key = asked_of_message ask (reader_facts archive ask) (message_of archive ask.list key)

-- what an answer of the code says
abbrev pub spec_asked : Told → Asked
spec_asked (Served text) = served text.items
spec_asked (Denied rule) = denied_by rule.now
spec_asked Absent = absent

-- ---- refusals

-- G1 and G2
pub data AskRefusal : Type 0 where
  no_list : AskRefusal
  no_person : AskRefusal

-- the list is looked for before the person
abbrev pub ask_refusal : Archive → Ask → Option AskRefusal
ask_refusal archive ask =
    if not (has_list archive ask.list) then Some no_list
    else if option_map_or (λ person. not (has_person archive person)) ask.reader false then Some no_person
    else None
