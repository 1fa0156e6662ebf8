-- Worked examples of what is seen. Day 12131 is 2003-03-20.
use Rattle.std.proofs.Common.{◌≡◌, ◌≢◌, ℕ, ℤ, pos, List, [], ◌∷◌, map, bytes_eq, Bool, true, false, cond, Option, Some, None, refl, ap, subst, codes}
use Rattle.std.proofs.lemmas.Bool.{true≢false}
use Rattle.std.proofs.lemmas.Slice.Eq.{bytes_eq-Decides}
use Rattle.policy_core.specs.declared.access.Standing.TheVariants.{Public, Member, Subscriber}
use Rattle.policy_core.specs.declared.access.Withdrawn.TheVariants.{Author, Board}
use Rattle.policy_core.specs.Rules.{Rule, standings, withdrawn as if_withdrawn, open_rule}
use Rattle.archive_model.specs.Records.{Message, Archive}
use Rattle.archive_model.specs.Keys.{is_key}
use Rattle.archive_results.specs.Access.{asked_of_message, message_facts, reader_facts, ruling_on}
use Rattle.archive_results.specs.Shown.{ShownMessage, shown_message}
use Rattle.archive_pages.specs.Answers.{ask_of_reader}
use Rattle.archive_laws.specs.Seen.{is_absent, is_shown, is_denied, VisibleArchive, VisibleList, depth_limited_row, visibility_of_asked, visible_list, archive_visible_to, archive_visible_by_token}

-- ---- an archive

abbrev soc : List ℕ
soc = codes "soc"

abbrev token : List ℕ
token = codes "mod-0123456789abcdef"

-- keys of 64 digits
abbrev first_key : List ℕ
first_key = codes "1111111111111111111111111111111111111111111111111111111111111111"

abbrev second_key : List ℕ
second_key = codes "2222222222222222222222222222222222222222222222222222222222222222"

abbrev third_key : List ℕ
third_key = codes "3333333333333333333333333333333333333333333333333333333333333333"

-- arrived on 2003-03-04
abbrev kept : Message
kept = record {
  list = soc;
  key = first_key;
  sender = codes "a@b";
  arrival = pos 1046772000;
  text = codes "One.\n";
  withdrawn = pos 0;
  embargo = None;
}

-- withdrawn by its author
abbrev withdrawn : Message
withdrawn = record kept { key = second_key; text = codes "Two.\n"; withdrawn = pos 1 }

-- the same, as another sent it at another time, withdrawn by the board
abbrev withdrawn_too : Message
withdrawn_too = record withdrawn { sender = codes "c@d"; arrival = pos 1047465000; withdrawn = pos 2 }

abbrev holding : List Message → Archive
holding messages = record {
  lists = soc ∷ [];
  persons = record { name = codes "mod"; token = token } ∷ [];
  grants = record { person = codes "mod"; list = soc; rank = pos 3; from_day = pos 0; until_day = pos 20000 } ∷ [];
  messages = messages;
  index_columns = [];
  options = [];
  addresses = [];
}

abbrev one : Archive
one = holding (kept ∷ withdrawn ∷ [])

abbrev other : Archive
other = holding (kept ∷ withdrawn_too ∷ [])

abbrev without_it : Archive
without_it = holding (kept ∷ [])

-- what was withdrawn is denied to all but moderators
abbrev rules : List Rule
rules = record open_rule { name = codes "withdrawn"; allows = false; conditions = standings (Public ∷ Member ∷ Subscriber ∷ []) ∷ if_withdrawn (Author ∷ Board ∷ []) ∷ [] }
    ∷ record open_rule { name = codes "all" } ∷ []

abbrev day : ℤ
day = pos 12131

abbrev seen_of : Archive → (reader : Option (List ℕ)) → VisibleList
seen_of archive reader = visible_list archive (ask_of_reader rules day reader soc)

abbrev moderator : Option (List ℕ)
moderator = Some (codes "mod")

-- ---- what the public sees, and a moderator

shown_to_the_public : (seen_of one None).shown ≡ shown_message kept ∷ []
unfolding message_facts ruling_on
shown_to_the_public = refl

shown_to_a_moderator : (seen_of one moderator).shown ≡ shown_message kept ∷ shown_message withdrawn ∷ []
unfolding message_facts ruling_on
shown_to_a_moderator = refl

told_of_the_shown : (seen_of one None).visibility first_key ≡ is_shown
unfolding message_facts ruling_on
told_of_the_shown = refl

-- that the archive holds the message is told to whoever knows its key, and by which rule it is denied
told_of_the_withdrawn : (seen_of one None).visibility second_key ≡ is_denied (codes "withdrawn")
unfolding message_facts ruling_on
told_of_the_withdrawn = refl

told_a_moderator : (seen_of one moderator).visibility second_key ≡ is_shown
unfolding message_facts ruling_on
told_a_moderator = refl

told_of_another : (seen_of one None).visibility third_key ≡ is_absent
told_of_another = refl

told_where_it_never_came : (seen_of without_it None).visibility second_key ≡ is_absent
told_where_it_never_came = refl

-- and nothing else of it
shown_where_it_never_came : (seen_of without_it None).shown ≡ (seen_of one None).shown
unfolding message_facts ruling_on
shown_where_it_never_came = refl

threaded_where_it_never_came : (seen_of without_it None).rows ≡ (seen_of one None).rows
unfolding message_facts ruling_on
threaded_where_it_never_came = refl

no_such_list : (archive_visible_to one rules day None).of (codes "xyz") ≡ None
no_such_list = refl

by_a_token_of_nobody : archive_visible_by_token one rules day (Some (codes "abcdefghijklmnop")) ≡ None
by_a_token_of_nobody = refl

-- a page shows no depth above 20
as_deep_as_a_page : depth_limited_row (record { depth = 25; place = Some 3 }) ≡ record { depth = 20; place = Some 3 }
as_deep_as_a_page = refl

-- ---- two archives in which another withdrew another's message

told_alike : (k u v : Bool)
    → cond k (visibility_of_asked (asked_of_message (ask_of_reader rules day None soc) (reader_facts one (ask_of_reader rules day None soc))
    (cond u (Some kept) (cond v (Some withdrawn) None)))) is_absent
    ≡ cond k (visibility_of_asked (asked_of_message (ask_of_reader rules day None soc) (reader_facts other (ask_of_reader rules day None soc))
    (cond u (Some kept) (cond v (Some withdrawn_too) None)))) is_absent
unfolding message_facts ruling_on
told_alike false u v = refl
told_alike true true v = refl
told_alike true false true = refl
told_alike true false false = refl

lists_alike : seen_of one None ≡ seen_of other None
unfolding message_facts ruling_on
lists_alike = λ i. record {
  shown = shown_message kept ∷ [];
  rows = (seen_of without_it None).rows;
  visibility = λ key. told_alike (is_key key) (bytes_eq first_key key) (bytes_eq second_key key) i;
}

-- the public sees the same of both
alike_to_the_public : archive_visible_by_token one rules day None ≡ archive_visible_by_token other rules day None
alike_to_the_public = ap (λ (of : (name : List ℕ) → Option VisibleList). Some (record { names = soc ∷ []; of = of })) (λ i. λ name. by name (bytes_eq soc name) refl i)
  where
    by : (name : List ℕ) (t : Bool) → bytes_eq soc name ≡ t → (archive_visible_to one rules day None).of name ≡ (archive_visible_to other rules day None).of name
    by name true e = subst (λ n. (archive_visible_to one rules day None).of n ≡ (archive_visible_to other rules day None).of n) ((bytes_eq-Decides soc name).0 e) (ap Some lists_alike)
    by name false e = rw e refl

-- and a moderator does not
abbrev senders : Option VisibleArchive → List (List ℕ)
senders None = []
senders (Some s) = of_list (s.of soc)
  where
    of_list : Option VisibleList → List (List ℕ)
    of_list None = []
    of_list (Some l) = map (λ (m : ShownMessage). m.item.envelope.sender) l.shown

other_to_a_moderator : archive_visible_by_token one rules day (Some token) ≢ archive_visible_by_token other rules day (Some token)
unfolding message_facts ruling_on
other_to_a_moderator same = true≢false (ap (λ s. bytes_eq (last (senders s)) (codes "a@b")) same)
  where
    last : List (List ℕ) → List ℕ
    last [] = []
    last (x ∷ []) = x
    last (x ∷ y ∷ ys) = last (y ∷ ys)
