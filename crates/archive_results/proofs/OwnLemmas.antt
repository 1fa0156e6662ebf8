-- Whose own a message is.
use Rattle.std.proofs.Common.{◌≡◌, ◌≢◌, ◌↔◌, ◌∙◌, ℕ, Bool, true, false, cond, List, [], ◌∷◌, Option, Some, None, option_map, refl, sym, ap, subst, bytes_eq}
use Rattle.std.specs.Prelude.{find}
use Rattle.std.specs.List.{All}
use Rattle.std.specs.Option.{option_and_then}
use Rattle.std.proofs.lemmas.List.Elements.{All-head, All-tail}
use Rattle.std.proofs.lemmas.Bool.{true≢false}
use Rattle.std.proofs.lemmas.Slice.Eq.{bytes_eq-Decides}
use Rattle.mail_core.specs.Author.{author_of}
use Rattle.archive_model.specs.Records.{Address, Archive, Message}
use Rattle.archive_model.specs.Addresses.{is_address}
use Rattle.archive_model.specs.Questions.{is_address_of, address_of}
use Rattle.archive_model.specs.Sound.{HasValidNamesAndTokens}
use Rattle.archive_results.specs.Access.{Ask, IsOwnMessage, is_own_by_address, reader_facts}

pub nobody : (archive : Archive) (ask : Ask) (m : Message) → ask.reader ≡ None → is_own_by_address (reader_facts archive ask).address m ≡ false
nobody archive ask m e = ap (λ (reader : Option (List ℕ)). is_own_by_address (option_and_then (address_of archive) reader) m) e

pub unaddressed : (archive : Archive) (ask : Ask) (person : List ℕ) (m : Message) → ask.reader ≡ Some person → address_of archive person ≡ None
    → is_own_by_address (reader_facts archive ask).address m ≡ false
unaddressed archive ask person m e none =
    ap (λ (reader : Option (List ℕ)). is_own_by_address (option_and_then (address_of archive) reader) m) e ∙ ap (λ (address : Option (List ℕ)). is_own_by_address address m) none

-- ---- a message that is the reader's own, in words

itself : (a : List ℕ) → bytes_eq a a ≡ true
itself a = (bytes_eq-Decides a a).1 refl

by_found : (archive : Archive) (ask : Ask) (m : Message) (person : List ℕ) (address : Option (List ℕ)) → ask.reader ≡ Some person → address_of archive person ≡ address
    → is_own_by_address address m ≡ true → IsOwnMessage archive ask m
by_found archive ask m person None is found own = absurd (true≢false (sym own))
by_found archive ask m person (Some text) is found own =
    record { person = person; reader_is_person = is; address_is_author = found ∙ ap (λ (t : List ℕ). Some t) ((bytes_eq-Decides text (author_of m.text)).0 own) }

by_named : (archive : Archive) (ask : Ask) (m : Message) (reader : Option (List ℕ)) → ask.reader ≡ reader → is_own_by_address (option_and_then (address_of archive) reader) m ≡ true
    → IsOwnMessage archive ask m
by_named archive ask m None is own = absurd (true≢false (sym own))
by_named archive ask m (Some person) is own = by_found archive ask m person (address_of archive person) is refl own

of_words : (archive : Archive) (ask : Ask) (m : Message) → IsOwnMessage archive ask m → is_own_by_address (reader_facts archive ask).address m ≡ true
of_words archive ask m it =
    ap (λ (reader : Option (List ℕ)). is_own_by_address (option_and_then (address_of archive) reader) m) it.reader_is_person
    ∙ ap (λ (address : Option (List ℕ)). is_own_by_address address m) it.address_is_author ∙ itself (author_of m.text)

pub exactly : (archive : Archive) (ask : Ask) (m : Message) → (is_own_by_address (reader_facts archive ask).address m ≡ true) ↔ IsOwnMessage archive ask m
exactly archive ask m = (by_named archive ask m ask.reader refl, of_words archive ask m)

-- ---- an author key that is not empty

abbrev Such : Address → Type 0
Such a = is_address a.address ≡ true

-- an address that is found is one
found_by : (person : List ℕ) (a : Address) (b : Bool) (rest : Option Address) → Such a
    → ((text : List ℕ) → option_map (λ (x : Address). x.address) rest ≡ Some text → is_address text ≡ true)
    → (text : List ℕ) → option_map (λ (x : Address). x.address) (cond b (Some a) rest) ≡ Some text → is_address text ≡ true
found_by person a true rest such later text e = (let same : a.address ≡ text = cc in subst (λ (t : List ℕ). is_address t ≡ true) same such)
found_by person a false rest such later text e = later text e

found_is : (person : List ℕ) (addresses : List Address) → All Such addresses → (text : List ℕ)
    → option_map (λ (a : Address). a.address) (find (is_address_of person) addresses) ≡ Some text → is_address text ≡ true
found_is person [] all text e = absurd (let bad : None ≡ Some text = e in cc)
found_is person (a ∷ addresses) all text e =
    found_by person a (is_address_of person a) (find (is_address_of person) addresses) (All-head Such a addresses all)
    (found_is person addresses (All-tail Such a addresses all)) text e

authored_by : (archive : Archive) (ask : Ask) (m : Message) → HasValidNamesAndTokens archive → IsOwnMessage archive ask m → author_of m.text ≢ []
authored_by archive ask m such it empty =
    true≢false (sym (found_is it.person archive.addresses such.addresses (author_of m.text) it.address_is_author) ∙ ap is_address empty)

pub authored : (archive : Archive) (ask : Ask) (m : Message) → HasValidNamesAndTokens archive → is_own_by_address (reader_facts archive ask).address m ≡ true → author_of m.text ≢ []
authored archive ask m such own = authored_by archive ask m such ((exactly archive ask m).0 own)
