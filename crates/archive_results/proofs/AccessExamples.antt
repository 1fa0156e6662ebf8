-- Worked examples of views. Day 12115 is 2003-03-04, and day 12143 is 2003-04-01.
use Rattle.std.proofs.Common.{◌≡◌, ℕ, ℤ, pos, List, [], ◌∷◌, map, Option, Some, None, true, false, refl, codes, ◌≢◌}
use Rattle.policy_core.specs.declared.access.Standing.TheVariants.{Public, Member, Moderator}
use Rattle.policy_core.specs.declared.access.Withdrawn.{Withdrawn}
use Rattle.policy_core.specs.declared.access.Withdrawn.TheVariants.{No, Author, Board}
use Rattle.policy_core.specs.Rules.{standings, withdrawn, embargo, age_min, own, Rule, open_rule}
use Rattle.mail_core.specs.Fields.{fields_of, header_blocks, unfolded}
use Rattle.mail_core.specs.Lines.{lines, is_empty_line, content}
use Rattle.archive_model.specs.Records.{Message, Archive}
use Rattle.archive_results.specs.Promise.{DeniesWithdrawn}
use Rattle.archive_results.specs.Access.{Ask, policy_allows, view_of, reader_standing, is_own_by_address, message_facts, policy_facts_of}
use Rattle.archive_results.specs.Access.{ruling_on, asked_for_key, served, denied_by, absent, ask_refusal, no_list, no_person}

-- arrived on 2003-03-04, and withdrawn by its author
abbrev first : Message
first = record {
  list = codes "soc";
  key = codes "k1";
  sender = codes "a@b";
  arrival = pos 1046772000;
  text = codes "One.\n";
  withdrawn = pos 1;
  embargo = None;
}

-- held back until 2003-04-01
abbrev second : Message
second = record first { key = codes "k2"; text = codes "Two.\n"; withdrawn = pos 0; embargo = Some (pos 12143) }

-- the same key and text in another list
abbrev elsewhere : Message
elsewhere = record second { list = codes "other" }

-- `mo` is a moderator of `soc` up to 2003-03-31, and a member for good; `sue` is a moderator of another list
abbrev archive : Archive
archive = record {
  lists = codes "soc" ∷ codes "other" ∷ [];
  persons = record { name = codes "mo"; token = codes "0123456789abcdef" } ∷ record { name = codes "sue"; token = codes "0123456789abcdeF" } ∷ [];
  grants = record { person = codes "mo"; list = codes "soc"; rank = pos 3; from_day = pos 12000; until_day = pos 12142 }
      ∷ record { person = codes "mo"; list = codes "soc"; rank = pos 1; from_day = pos 12000; until_day = pos 20000 }
      ∷ record { person = codes "sue"; list = codes "other"; rank = pos 3; from_day = pos 12000; until_day = pos 20000 } ∷ [];
  messages = first ∷ elsewhere ∷ second ∷ [];
  index_columns = [];
  options = [];
  addresses = [];
}

abbrev withdrawn_rule : Rule
withdrawn_rule = record open_rule { name = codes "withdrawn"; allows = false; conditions = standings (Public ∷ Member ∷ []) ∷ withdrawn (Author ∷ Board ∷ []) ∷ [] }

abbrev embargo_rule : Rule
embargo_rule = record open_rule { name = codes "embargo"; allows = false; conditions = embargo true ∷ [] }

abbrev all_rule : Rule
all_rule = record open_rule { name = codes "all" }

abbrev rules : List Rule
rules = withdrawn_rule ∷ all_rule ∷ []

abbrev by : List Rule → Option (List ℕ) → ℤ → Ask
by these reader day = record { rules = these; reader = reader; list = codes "soc"; day = day }

abbrev keys_seen : Ask → List (List ℕ)
keys_seen ask = map (λ m. m.key) (view_of archive ask)

-- ---- standings

a_moderator_up_to_the_last_day : reader_standing archive (by rules (Some (codes "mo")) (pos 12142)) ≡ Moderator
a_moderator_up_to_the_last_day = refl

then_a_member : reader_standing archive (by rules (Some (codes "mo")) (pos 12143)) ≡ Member
then_a_member = refl

-- a grant counts on its own list alone
of_another_list : reader_standing archive (by rules (Some (codes "sue")) (pos 12131)) ≡ Public
of_another_list = refl

nobody_is_the_public : reader_standing archive (by rules None (pos 12131)) ≡ Public
nobody_is_the_public = refl

-- ---- facts: the reading day is that of the question, and the arrival day that of the message
the_facts : policy_facts_of (by rules None (pos 12131)) (record { standing = Public; address = None }) (message_facts None second)
    ≡ record { list = codes "soc"; standing = Public; day = pos 12131; arrival_day = pos 12115; withdrawn = No; embargo_until = Some (pos 12143); own = false }
unfolding message_facts
the_facts = refl

withdrawn_by_the_board : (message_facts None (record first { withdrawn = pos 2 })).withdrawn ≡ Board
unfolding message_facts
withdrawn_by_the_board = refl

-- ---- views

-- the public does not see what was withdrawn, and nothing of another list
the_public : view_of archive (by rules None (pos 12131)) ≡ second ∷ []
unfolding message_facts ruling_on
the_public = refl

a_moderator : view_of archive (by rules (Some (codes "mo")) (pos 12131)) ≡ first ∷ second ∷ []
unfolding message_facts ruling_on
a_moderator = refl

no_moderator_any_more : keys_seen (by rules (Some (codes "mo")) (pos 12143)) ≡ codes "k2" ∷ []
unfolding message_facts ruling_on
no_moderator_any_more = refl

-- no rule fits
without_rules : view_of archive (by [] (Some (codes "mo")) (pos 12131)) ≡ []
unfolding message_facts ruling_on
without_rules = refl

-- an embargo is on before its until day
under_embargo : keys_seen (by (embargo_rule ∷ all_rule ∷ []) None (pos 12142)) ≡ codes "k1" ∷ []
unfolding message_facts ruling_on
under_embargo = refl

on_its_until_day : keys_seen (by (embargo_rule ∷ all_rule ∷ []) None (pos 12143)) ≡ codes "k1" ∷ codes "k2" ∷ []
unfolding message_facts ruling_on
on_its_until_day = refl

-- a message is younger than no days where it comes after the reading day
before_it_came : keys_seen (by (record all_rule { conditions = age_min 0 ∷ [] } ∷ []) None (pos 12114)) ≡ []
unfolding message_facts ruling_on
before_it_came = refl

on_the_day_it_came : keys_seen (by (record all_rule { conditions = age_min 0 ∷ [] } ∷ []) None (pos 12115)) ≡ codes "k1" ∷ codes "k2" ∷ []
unfolding message_facts ruling_on
on_the_day_it_came = refl

-- ---- own messages

-- a message of anna's, which the board withdrew
abbrev annas : Message
annas = record first { text = codes "From: Anna <ANNA@example.org>\n\nOne.\n"; withdrawn = pos 2 }

-- a message without an author
abbrev nobodys : Message
nobodys = record second { text = codes "Two.\n" }

-- anna has an address, as it is kept, and so has eve; bob has none
abbrev with_annas : Archive
with_annas = record archive {
  persons = record { name = codes "anna"; token = codes "0123456789abcdef" } ∷ record { name = codes "bob"; token = codes "0123456789abcdeF" }
      ∷ record { name = codes "eve"; token = codes "0123456789abcdEF" } ∷ [];
  messages = annas ∷ nobodys ∷ [];
  addresses = record { person = codes "eve"; address = codes "eve@example.org" } ∷ record { person = codes "anna"; address = codes "anna@example.org" } ∷ [];
}

abbrev mine_rule : Rule
mine_rule = record open_rule { name = codes "mine"; conditions = own true ∷ [] }

abbrev own_rules : List Rule
own_rules = mine_rule ∷ withdrawn_rule ∷ all_rule ∷ []

its_author : asked_for_key with_annas (by own_rules (Some (codes "anna")) (pos 12131)) (codes "k1") ≡ served annas.text
unfolding message_facts ruling_on lines is_empty_line content fields_of header_blocks unfolded
its_author = refl

one_without_an_address : asked_for_key with_annas (by own_rules (Some (codes "bob")) (pos 12131)) (codes "k1") ≡ denied_by (codes "withdrawn")
unfolding message_facts ruling_on
one_without_an_address = refl

one_of_another_address : asked_for_key with_annas (by own_rules (Some (codes "eve")) (pos 12131)) (codes "k1") ≡ denied_by (codes "withdrawn")
unfolding message_facts ruling_on lines is_empty_line content fields_of header_blocks unfolded
one_of_another_address = refl

nobody_at_all : asked_for_key with_annas (by own_rules None (pos 12131)) (codes "k1") ≡ denied_by (codes "withdrawn")
unfolding message_facts ruling_on
nobody_at_all = refl

-- no reader's address is the empty author key
of_no_author : is_own_by_address (Some (codes "anna@example.org")) nobodys ≡ false
unfolding lines is_empty_line content fields_of header_blocks unfolded
of_no_author = refl

-- the author sees it among the others, as it was
in_its_authors_view : map (λ m. m.key) (view_of with_annas (by own_rules (Some (codes "anna")) (pos 12131))) ≡ codes "k1" ∷ codes "k2" ∷ []
unfolding message_facts ruling_on lines is_empty_line content fields_of header_blocks unfolded
in_its_authors_view = refl

not_in_anothers : map (λ m. m.key) (view_of with_annas (by own_rules (Some (codes "bob")) (pos 12131))) ≡ codes "k2" ∷ []
unfolding message_facts ruling_on
not_in_anothers = refl

-- a rule that stands before it still denies
after_a_denial : asked_for_key with_annas (by (withdrawn_rule ∷ own_rules) (Some (codes "anna")) (pos 12131)) (codes "k1") ≡ denied_by (codes "withdrawn")
unfolding message_facts ruling_on lines is_empty_line content fields_of header_blocks unfolded
after_a_denial = refl

-- ---- one message

denied_to_the_public : asked_for_key archive (by rules None (pos 12131)) (codes "k1") ≡ denied_by (codes "withdrawn")
unfolding message_facts ruling_on
denied_to_the_public = refl

served_to_a_moderator : asked_for_key archive (by rules (Some (codes "mo")) (pos 12131)) (codes "k1") ≡ served (codes "One.\n")
unfolding message_facts ruling_on
served_to_a_moderator = refl

denied_by_default : asked_for_key archive (by [] None (pos 12131)) (codes "k2") ≡ denied_by (codes "default")
unfolding message_facts ruling_on
denied_by_default = refl

an_unknown_key : asked_for_key archive (by [] None (pos 12131)) (codes "k3") ≡ absent
an_unknown_key = refl

-- a key that another list holds
a_key_of_another_list : asked_for_key archive (record (by rules None (pos 12131)) { list = codes "other" }) (codes "k1") ≡ absent
a_key_of_another_list = refl

-- ---- refusals

-- the list is looked for before the person
list_first : ask_refusal archive (record (by [] (Some (codes "who")) (pos 0)) { list = codes "xyz" }) ≡ Some no_list
list_first = refl

then_the_person : ask_refusal archive (by [] (Some (codes "who")) (pos 0)) ≡ Some no_person
then_the_person = refl

nobody_is_no_unknown_person : ask_refusal archive (by [] None (pos 0)) ≡ None
nobody_is_no_unknown_person = refl

-- ---- what is promised of withdrawn messages

-- the rules of `samples/seeds.toml`
abbrev seeds_rules : List Rule
seeds_rules = record open_rule { name = codes "moderators"; conditions = standings (Moderator ∷ []) ∷ [] }
    ∷ record open_rule { name = codes "withdrawn"; allows = false; conditions = withdrawn (Author ∷ Board ∷ []) ∷ [] }
    ∷ embargo_rule ∷ record open_rule { name = codes "open" } ∷ []

-- they deny each withdrawn message to the public, whoever withdrew it, and whenever it came
to_the_public : DeniesWithdrawn (by seeds_rules None (pos 19802)) (record { standing = Public; address = None })
unfolding ruling_on
to_the_public marks some other = by_whom marks.withdrawn some
  where
    by_whom : (who : Withdrawn) → who ≢ No → policy_allows (by seeds_rules None (pos 19802)) (record { standing = Public; address = None }) (record marks { withdrawn = who }) ≡ false
    by_whom No none = absurd (none refl)
    by_whom Author none = refl
    by_whom Board none = refl
