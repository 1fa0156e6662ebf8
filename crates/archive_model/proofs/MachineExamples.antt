-- Worked examples of commands. Day 12053 is 2003-01-01, and day 12143 is 2003-04-01.
use Rattle.std.proofs.Common.{◌≡◌, ◌<◌, ◌≤◌, ◌∙◌, ℕ, ℤ, pos, Bool, ◌||◌, nat_lt, List, [], ◌∷◌, length, Some, None, true, false, refl, ap, codes, lt-ltb, le-ltb}
use Rattle.std.proofs.lemmas.Bool.{or_right}
use Rattle.mbox_items.specs.Division.{Item, whole}
use Rattle.archive_model.specs.Records.{Message, Archive}
use Rattle.archive_model.specs.Commands.{Command, list_add, person_add, grant, revoke, add, withdraw, restore, embargo, lift, merge_set, address_set, bad_name, bad_text, list_exists}
use Rattle.archive_model.specs.Commands.{no_list, person_exists, no_person, token_taken, no_message, already_withdrawn, not_withdrawn, bad_days, too_large, CommandReply, done, was_there, refused}
use Rattle.archive_model.specs.Machine.{is_too_large, longest_sender, longest_text, step}
use Rattle.archive_model.specs.Questions.{has_list, standing_of, person_of_token, merge_of, address_of, person_refusal}
use Rattle.archive_model.specs.Runs.{run}

abbrev empty : Archive
empty = record { lists = []; persons = []; grants = []; messages = []; index_columns = []; options = []; addresses = [] }

-- the answers of some commands to an archive, and the archive afterwards
abbrev replies : Archive → List Command → List CommandReply
replies archive commands = (run archive commands).replies

abbrev after : Archive → List Command → Archive
after archive commands = (run archive commands).archive

-- ---- lists

a_list_twice : replies empty (list_add (codes "soc") ∷ list_add (codes "soc") ∷ list_add (codes "a") ∷ []) ≡ done ∷ refused list_exists ∷ done ∷ []
unfolding run
a_list_twice = refl

lists_in_order_of_coming : (after empty (list_add (codes "soc") ∷ list_add (codes "soc") ∷ list_add (codes "a") ∷ [])).lists ≡ codes "soc" ∷ codes "a" ∷ []
unfolding run
lists_in_order_of_coming = refl

a_capital : replies empty (list_add (codes "Soc") ∷ []) ≡ refused bad_name ∷ []
unfolding run
a_capital = refl

-- a list comes with merge on; what is chosen stays until it is chosen anew
merged_at_first : merge_of (after empty (list_add (codes "soc") ∷ [])) (codes "soc") ≡ true
unfolding run
merged_at_first = refl

merged_no_more : merge_of (after empty (list_add (codes "soc") ∷ list_add (codes "a") ∷ merge_set (codes "soc") false ∷ [])) (codes "soc") ≡ false
unfolding run
merged_no_more = refl

another_stays_merged : merge_of (after empty (list_add (codes "soc") ∷ list_add (codes "a") ∷ merge_set (codes "soc") false ∷ [])) (codes "a") ≡ true
unfolding run
another_stays_merged = refl

merged_again : merge_of (after empty (list_add (codes "soc") ∷ merge_set (codes "soc") false ∷ merge_set (codes "soc") true ∷ [])) (codes "soc") ≡ true
unfolding run
merged_again = refl

no_list_to_merge : replies empty (list_add (codes "soc") ∷ merge_set (codes "xyz") false ∷ merge_set (codes "soc") false ∷ [])
    ≡ done ∷ refused no_list ∷ done ∷ []
unfolding run
no_list_to_merge = refl

-- a list that is there already is not merged anew
a_list_twice_stays_unmerged : merge_of (after empty (list_add (codes "soc") ∷ merge_set (codes "soc") false ∷ list_add (codes "soc") ∷ [])) (codes "soc") ≡ false
unfolding run
a_list_twice_stays_unmerged = refl

-- ---- persons

abbrev token : List ℕ
token = codes "0123456789abcdef"

abbrev other_token : List ℕ
other_token = codes "0123456789abcdeF"

-- the name is looked at before the token, and the name of a person before whose token it is
persons : replies empty (
    person_add (codes "Anna") (codes "x") ∷ person_add (codes "anna") (codes "x") ∷ person_add (codes "anna") token
    ∷ person_add (codes "anna") token ∷ person_add (codes "bob") token ∷ person_add (codes "bob") other_token ∷ [])
    ≡ refused bad_name ∷ refused bad_text ∷ done ∷ refused person_exists ∷ refused token_taken ∷ done ∷ []
unfolding run
persons = refl

abbrev with_two : Archive
with_two = record empty {
  lists = codes "soc" ∷ [];
  persons = record { name = codes "anna"; token = token } ∷ record { name = codes "bob"; token = other_token } ∷ [];
}

second_token : person_of_token with_two other_token ≡ Some (codes "bob")
second_token = refl

nobodys_token : person_of_token with_two (codes "0123456789abcdef=") ≡ None
nobodys_token = refl

-- ---- addresses

-- the person is looked for first; an address has 1 byte at least, and no space
addresses : replies with_two (
    address_set (codes "eve") [] ∷ address_set (codes "anna") [] ∷ address_set (codes "anna") (codes "a b") ∷ address_set (codes "anna") (codes "Anna@Example.org") ∷ [])
    ≡ refused no_person ∷ refused bad_text ∷ refused bad_text ∷ done ∷ []
unfolding run
addresses = refl

kept_in_lower_case : address_of (after with_two (address_set (codes "anna") (codes "Anna@Example.org") ∷ [])) (codes "anna") ≡ Some (codes "anna@example.org")
unfolding run
kept_in_lower_case = refl

of_one_who_has_none : address_of (after with_two (address_set (codes "anna") (codes "Anna@Example.org") ∷ [])) (codes "bob") ≡ None
unfolding run
of_one_who_has_none = refl

replaced : (after with_two (address_set (codes "anna") (codes "a@b") ∷ address_set (codes "bob") (codes "a@b") ∷ address_set (codes "anna") (codes "c@d") ∷ [])).addresses
    ≡ record { person = codes "anna"; address = codes "c@d" } ∷ record { person = codes "bob"; address = codes "a@b" } ∷ []
unfolding run
replaced = refl

nobody_asked_for : person_refusal with_two (codes "eve") ≡ Some no_person
nobody_asked_for = refl

-- ---- grants and standings

-- a member for the year 2003, and a moderator in June of it
abbrev grants : List Command
grants =
    grant (codes "anna") (codes "soc") (pos 1) (pos 12053) (pos 12417)
    ∷ grant (codes "anna") (codes "soc") (pos 3) (pos 12204) (pos 12233) ∷ []

abbrev standing : ℤ → ℤ
standing day = standing_of (after with_two grants) (codes "anna") (codes "soc") day

before_june : standing (pos 12203) ≡ pos 1
unfolding run
before_june = refl

first_of_june : standing (pos 12204) ≡ pos 3
unfolding run
first_of_june = refl

last_of_june : standing (pos 12233) ≡ pos 3
unfolding run
last_of_june = refl

after_june : standing (pos 12234) ≡ pos 1
unfolding run
after_june = refl

next_year : standing (pos 12418) ≡ pos 0
unfolding run
next_year = refl

of_another : standing_of (after with_two grants) (codes "bob") (codes "soc") (pos 12204) ≡ pos 0
unfolding run
of_another = refl

-- a grant of the same rank takes the place of the one before
granted_again : standing_of (after with_two (grant (codes "anna") (codes "soc") (pos 3) (pos 12300) (pos 12301) ∷ grants)) (codes "anna") (codes "soc") (pos 12300) ≡ pos 1
unfolding run
granted_again = refl

revoked_twice : replies (after with_two grants) (revoke (codes "anna") (codes "soc") (pos 1) ∷ revoke (codes "anna") (codes "soc") (pos 1) ∷ [])
    ≡ was_there true ∷ was_there false ∷ []
unfolding run
revoked_twice = refl

-- the person is looked for before the list, and both before the days
no_grants : replies with_two (
    grant (codes "eve") (codes "xyz") (pos 1) (pos 2) (pos 1) ∷ grant (codes "anna") (codes "xyz") (pos 1) (pos 2) (pos 1)
    ∷ grant (codes "anna") (codes "soc") (pos 1) (pos 2) (pos 1) ∷ grant (codes "anna") (codes "soc") (pos 1) (pos 1) (pos 1)
    ∷ revoke (codes "eve") (codes "xyz") (pos 1) ∷ revoke (codes "anna") (codes "xyz") (pos 1) ∷ [])
    ≡ refused no_person ∷ refused no_list ∷ refused bad_days ∷ done ∷ refused no_person ∷ refused no_list ∷ []
unfolding run
no_grants = refl

-- ---- messages

abbrev message : List ℕ → Message
message key = record {
  list = codes "soc";
  key = key;
  sender = codes "anna@example.org";
  arrival = pos 0;
  text = [];
  withdrawn = pos 0;
  embargo = None;
}

abbrev with_messages : Archive
with_messages = record with_two { messages = message (codes "a") ∷ message (codes "b") ∷ [] }

-- a withdrawal names who withdrew, and stays until it is taken back
withdrawals : replies with_messages (
    withdraw (codes "xyz") (codes "b") (pos 1) ∷ withdraw (codes "soc") (codes "c") (pos 1) ∷ withdraw (codes "soc") (codes "b") (pos 1)
    ∷ withdraw (codes "soc") (codes "b") (pos 2) ∷ restore (codes "soc") (codes "b") ∷ restore (codes "soc") (codes "b") ∷ [])
    ≡ refused no_list ∷ refused no_message ∷ done ∷ refused already_withdrawn ∷ done ∷ refused not_withdrawn ∷ []
unfolding run
withdrawals = refl

withdrawn_once : (after with_messages (withdraw (codes "soc") (codes "b") (pos 1) ∷ withdraw (codes "soc") (codes "b") (pos 2) ∷ [])).messages
    ≡ message (codes "a") ∷ record (message (codes "b")) { withdrawn = pos 1 } ∷ []
unfolding run
withdrawn_once = refl

embargoes : replies with_messages (
    embargo (codes "xyz") (codes "b") (pos 12143) ∷ embargo (codes "soc") (codes "c") (pos 12143) ∷ embargo (codes "soc") (codes "b") (pos 12143)
    ∷ lift (codes "soc") (codes "b") ∷ lift (codes "soc") (codes "b") ∷ lift (codes "soc") (codes "c") ∷ lift (codes "xyz") (codes "b") ∷ [])
    ≡ refused no_list ∷ refused no_message ∷ done ∷ was_there true ∷ was_there false ∷ refused no_message ∷ refused no_list ∷ []
unfolding run
embargoes = refl

held_back_longer : (after with_messages (embargo (codes "soc") (codes "a") (pos 12143) ∷ embargo (codes "soc") (codes "a") (pos 12144) ∷ [])).messages
    ≡ record (message (codes "a")) { embargo = Some (pos 12144) } ∷ message (codes "b") ∷ []
unfolding run
held_back_longer = refl

-- ---- messages that are too large

-- by a sender of more than 900,000,000 bytes, whatever the text is
long_sender : (item : Item) → 900_000_000 < length item.envelope.sender → is_too_large item ≡ true
unfolding is_too_large
long_sender item long =
    or_right (nat_lt longest_text (length (whole item.text))) (nat_lt longest_sender (length item.envelope.sender)) (lt-ltb longest_sender (length item.envelope.sender) long)

-- such a message is refused, also one that the list holds; but the list is looked for first
refused_for_its_sender : (a : Archive) (list : List ℕ) (item : Item) → has_list a list ≡ true → 900_000_000 < length item.envelope.sender → step a (add list item) ≡ (a, refused too_large)
refused_for_its_sender a list item there long = rw (there, long_sender item long) refl

no_list_for_it : (a : Archive) (list : List ℕ) (item : Item) → has_list a list ≡ false → 900_000_000 < length item.envelope.sender → step a (add list item) ≡ (a, refused no_list)
no_list_for_it a list item none long = rw none refl

-- with a sender of 900,000,000 bytes or fewer the text alone decides
or_false : (b : Bool) → (b || false) ≡ b
or_false true = refl
or_false false = refl

by_its_text_alone : (item : Item) → length item.envelope.sender ≤ 900_000_000 → is_too_large item ≡ nat_lt 16_777_216 (length (whole item.text))
unfolding is_too_large
by_its_text_alone item short =
    let is_long = nat_lt longest_text (length (whole item.text)) in
    ap (λ b. is_long || b) (le-ltb longest_sender (length item.envelope.sender) short) ∙ or_false is_long

hello_is_small : is_too_large (record { envelope = record { sender = codes "anna@example.org"; arrival = pos 0 }; text = codes "hello" }) ≡ false
unfolding is_too_large
hello_is_small = refl
