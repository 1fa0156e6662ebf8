-- Worked examples of what stays as it was set. Day 12143 is 2003-04-01.
use Rattle.std.proofs.Common.{◌≡◌, ◌≢◌, ℕ, pos, List, [], ◌∷◌, Bool, Some, None, true, false, refl, sym, ap, codes}
use Rattle.std.proofs.lemmas.Bool.{true≢false}
use Rattle.std.proofs.lemmas.List.Elements.{All-nil, All-cons}
use Rattle.archive_model.specs.Records.{Message, ListOption, Archive}
use Rattle.archive_model.specs.Commands.{Command, list_add, person_add, withdraw, restore, embargo, lift, merge_set, address_set}
use Rattle.archive_model.specs.Machine.{default_list_option, step}
use Rattle.archive_model.specs.Questions.{merge_of, address_of, message_of}
use Rattle.archive_model.specs.Runs.{run}
use Rattle.archive_model.specs.Lasting.{NoCommandSatisfies, changes_merge, changes_address, ends_withdrawal, changes_embargo}
use Rattle.archive_model.specs.Lasting.{HoldsForMessageAtKey, is_unknown_to_version_one, is_address_set, IsVersionOneArchive, IsVersionTwoArchive}
use Rattle.archive_model.proofs.LastingLemmas.{merged, merge_stays, at_first, addressed, address_stays, withdrawn_stays, embargo_stays, of_first, of_second}

-- one command after the other is none of some
none_of : (is_one : Command → Bool) (command : Command) (commands : List Command) → is_one command ≡ false → NoCommandSatisfies is_one commands → NoCommandSatisfies is_one (command ∷ commands)
none_of is_one command commands not_it rest = All-cons (λ c. is_one c ≡ false) command commands not_it rest

nothing : (is_one : Command → Bool) → NoCommandSatisfies is_one []
nothing is_one = All-nil (λ c. is_one c ≡ false)

abbrev soc : List ℕ
soc = codes "soc"

abbrev anna : List ℕ
anna = codes "anna"

abbrev message : Message
message = record {
  list = soc;
  key = codes "k1";
  sender = codes "anna@example.org";
  arrival = pos 0;
  text = [];
  withdrawn = pos 0;
  embargo = None;
}

abbrev archive : Archive
archive = record {
  lists = soc ∷ codes "news" ∷ [];
  persons = record { name = anna; token = codes "0123456789abcdef" } ∷ [];
  grants = [];
  messages = message ∷ [];
  index_columns = [];
  options = default_list_option soc ∷ default_list_option (codes "news") ∷ [];
  addresses = [];
}

-- ---- lists and persons

chosen : merge_of (step archive (merge_set soc false)).0 soc ≡ false
chosen = merged archive soc false refl refl

-- whatever is done to another list, and to other things
abbrev of_others : List Command
of_others = merge_set (codes "news") false ∷ list_add soc ∷ address_set anna (codes "Anna@Example.org") ∷ []

stays_chosen : merge_of (run (step archive (merge_set soc false)).0 of_others).archive soc ≡ false
stays_chosen =
    merge_stays (step archive (merge_set soc false)).0 soc of_others
    (none_of (changes_merge soc) (merge_set (codes "news") false) (list_add soc ∷ address_set anna (codes "Anna@Example.org") ∷ []) refl
    (none_of (changes_merge soc) (list_add soc) (address_set anna (codes "Anna@Example.org") ∷ []) refl
    (none_of (changes_merge soc) (address_set anna (codes "Anna@Example.org")) [] refl (nothing (changes_merge soc)))))

comes_gathered : merge_of (step archive (list_add (codes "b"))).0 (codes "b") ≡ true
comes_gathered = at_first archive (codes "b") refl refl

given : address_of (step archive (address_set anna (codes "Anna@Example.org"))).0 anna ≡ Some (codes "anna@example.org")
given = addressed archive anna (codes "Anna@Example.org") refl

-- to a person whom the archive does not know none is given
stays_given : address_of (run (step archive (address_set anna (codes "a@b"))).0 (address_set (codes "bob") (codes "c@d") ∷ [])).archive anna ≡ Some (codes "a@b")
stays_given =
    address_stays (step archive (address_set anna (codes "a@b"))).0 anna (address_set (codes "bob") (codes "c@d") ∷ [])
    (none_of (changes_address anna) (address_set (codes "bob") (codes "c@d")) [] refl (nothing (changes_address anna)))

-- ---- messages

one_or_two : pos 1 ≢ pos 0
one_or_two e = absurd cc

-- the board cannot withdraw it anew, and another is restored in vain
abbrev behind : List Command
behind = withdraw soc (codes "k1") (pos 2) ∷ restore soc (codes "k2") ∷ []

stays_withdrawn : HoldsForMessageAtKey (run (step archive (withdraw soc (codes "k1") (pos 1))).0 behind).archive soc (codes "k1") (λ m. m.withdrawn ≡ pos 1)
stays_withdrawn =
    withdrawn_stays archive soc (codes "k1") (pos 1) behind one_or_two refl
    (none_of (ends_withdrawal soc (codes "k1")) (withdraw soc (codes "k1") (pos 2)) (restore soc (codes "k2") ∷ []) refl
    (none_of (ends_withdrawal soc (codes "k1")) (restore soc (codes "k2")) [] refl (nothing (ends_withdrawal soc (codes "k1")))))

is_the_message : message_of (run (step archive (withdraw soc (codes "k1") (pos 1))).0 behind).archive soc (codes "k1") ≡ Some (record message { withdrawn = pos 1 })
unfolding run
is_the_message = refl

stays_held_back : HoldsForMessageAtKey (run (step archive (embargo soc (codes "k1") (pos 12143))).0 (lift soc (codes "k2") ∷ [])).archive soc (codes "k1") (λ m. m.embargo ≡ Some (pos 12143))
stays_held_back =
    embargo_stays archive soc (codes "k1") (pos 12143) (lift soc (codes "k2") ∷ []) refl
    (none_of (changes_embargo soc (codes "k1")) (lift soc (codes "k2")) [] refl (nothing (changes_embargo soc (codes "k1"))))

-- ---- files of older versions

abbrev empty : Archive
empty = record { lists = []; persons = []; grants = []; messages = []; index_columns = []; options = []; addresses = [] }

-- the first version knew lists and persons
abbrev early : List Command
early = list_add soc ∷ person_add anna (codes "0123456789abcdef") ∷ []

of_version_1 : IsVersionOneArchive (run empty early).archive
of_version_1 =
    of_first empty early
    (none_of is_unknown_to_version_one (list_add soc) (person_add anna (codes "0123456789abcdef") ∷ []) refl
    (none_of is_unknown_to_version_one (person_add anna (codes "0123456789abcdef")) [] refl (nothing is_unknown_to_version_one)))
    (record { options = refl; addresses = refl })

-- the second knew how lists are threaded too
of_version_2 : IsVersionTwoArchive (run empty (list_add soc ∷ merge_set soc false ∷ [])).archive
of_version_2 =
    of_second empty (list_add soc ∷ merge_set soc false ∷ [])
    (none_of is_address_set (list_add soc) (merge_set soc false ∷ []) refl (none_of is_address_set (merge_set soc false) [] refl (nothing is_address_set))) refl

not_of_version_1 : IsVersionOneArchive (run empty (list_add soc ∷ merge_set soc false ∷ [])).archive → ⊥
unfolding run
not_of_version_1 is = true≢false (sym (ap (λ (os : List ListOption). merge_of (record empty { options = os }) soc) is.options))
