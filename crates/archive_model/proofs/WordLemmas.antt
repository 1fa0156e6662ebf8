-- Commands keep names, tokens and addresses.
use Rattle.std.proofs.Common.{◌≡◌, ℕ, Bool, true, false, ◌&&◌, arith, refl, sym, ap, ◌∙◌, length, nat_le, if◌then◌else◌, List, [], ◌∷◌, ◌++◌}
use Rattle.std.specs.Prelude.{⊤, map}
use Rattle.std.specs.List.{All, list_all}
use Rattle.std.specs.Char.{to_ascii_lowercase}
use Rattle.std.proofs.lemmas.List.Elements.{All-push, All-map, All-weaker}
use Rattle.std.proofs.lemmas.List.{length-map}
use Rattle.std.proofs.lemmas.Bool.Decides.{nat_tests}
use Rattle.policy_core.specs.Names.{is_name}
use Rattle.archive_model.specs.Records.{Person, Grant, Message, IndexColumns, ListOption, Address, Archive}
use Rattle.archive_model.specs.BearerTokens.{is_token}
use Rattle.archive_model.specs.Addresses.{is_address_byte, is_address, normalize_address}
use Rattle.archive_model.specs.Questions.{is_address_of, has_address}
use Rattle.archive_model.specs.Machine.{default_list_option, with_replaced_address, addresses_with}
use Rattle.archive_model.specs.Sound.{HasValidNamesAndTokens}
use Rattle.archive_model.proofs.RunLemmas.{EachChangeKeeps}

with_grants : (a : Archive) (grants : List Grant) → HasValidNamesAndTokens a → HasValidNamesAndTokens (record a { grants = grants })
with_grants a grants h = record { lists = h.lists; persons = h.persons; tokens = h.tokens; addresses = h.addresses }

with_messages : (a : Archive) (messages : List Message) (index_columns : List IndexColumns) → HasValidNamesAndTokens a
    → HasValidNamesAndTokens (record a { messages = messages; index_columns = index_columns })
with_messages a messages index_columns h = record { lists = h.lists; persons = h.persons; tokens = h.tokens; addresses = h.addresses }

with_list : (a : Archive) (name : List ℕ) → is_name name ≡ true → HasValidNamesAndTokens a
    → HasValidNamesAndTokens (record a { lists = a.lists ++ name ∷ []; options = a.options ++ default_list_option name ∷ [] })
with_list a name named h = record {
  lists = All-push (λ list. is_name list ≡ true) a.lists name h.lists named;
  persons = h.persons;
  tokens = h.tokens;
  addresses = h.addresses;
}

with_options : (a : Archive) (options : List ListOption) → HasValidNamesAndTokens a → HasValidNamesAndTokens (record a { options = options })
with_options a options h = record { lists = h.lists; persons = h.persons; tokens = h.tokens; addresses = h.addresses }

-- ---- an address in lower case is an address

byte_in_lower_case : (b : ℕ) → is_address_byte b ≡ true → is_address_byte (to_ascii_lowercase b) ≡ true
byte_in_lower_case b is = grind (arith, nat_tests, is)

bytes_in_lower_case : (text : List ℕ) → list_all is_address_byte text ≡ true → list_all is_address_byte (map to_ascii_lowercase text) ≡ true
bytes_in_lower_case [] all = refl
bytes_in_lower_case (b ∷ text) all = cases (is_address_byte b) refl all (bytes_in_lower_case text)
  where
    cases : (t : Bool) → is_address_byte b ≡ t → (t && list_all is_address_byte text) ≡ true
        → (list_all is_address_byte text ≡ true → list_all is_address_byte (map to_ascii_lowercase text) ≡ true)
        → (is_address_byte (to_ascii_lowercase b) && list_all is_address_byte (map to_ascii_lowercase text)) ≡ true
    cases true is rest later = rw (byte_in_lower_case b is) (later rest)
    cases false is rest later = absurd cc

parts : (p q : Bool) → (p && q) ≡ true → (p ≡ true) × (q ≡ true)
parts true q h = (refl, h)
parts false q h = absurd cc

kept_is_address : (text : List ℕ) → is_address text ≡ true → is_address (normalize_address text) ≡ true
kept_is_address text is =
    let whole = parts (nat_le 1 (length text) && nat_le (length text) 254) (list_all is_address_byte text) is in
    let size = parts (nat_le 1 (length text)) (nat_le (length text) 254) whole.0 in
    rw (length-map text to_ascii_lowercase, size.0, size.1) (bytes_in_lower_case text whole.1)

-- what is given to a person is what is kept
stays_address : (x old : Address) → is_address x.address ≡ true → is_address old.address ≡ true → is_address (with_replaced_address x old).address ≡ true
stays_address x old new is = cases (is_address_of x.person old)
  where
    cases : (b : Bool) → is_address (if b then record old { address = x.address } else old).address ≡ true
    cases true = new
    cases false = is

abbrev Such : Address → Type 0
Such a = is_address a.address ≡ true

with_given : (a : Archive) (x : Address) → Such x → All Such a.addresses → All Such (addresses_with a x)
with_given a x is all = cases (has_address a x.person)
  where
    cases : (b : Bool) → All Such (if b then map (with_replaced_address x) a.addresses else a.addresses ++ x ∷ [])
    cases true = All-map Such (with_replaced_address x) a.addresses (All-weaker Such (λ old. Such (with_replaced_address x old)) (λ old was. stays_address x old is was) a.addresses all)
    cases false = All-push Such a.addresses x all is

with_addresses : (a : Archive) (addresses : List Address) → All Such addresses → HasValidNamesAndTokens a → HasValidNamesAndTokens (record a { addresses = addresses })
with_addresses a addresses all h = record { lists = h.lists; persons = h.persons; tokens = h.tokens; addresses = all }

with_person : (a : Archive) (p : Person) → is_name p.name ≡ true → is_token p.token ≡ true → HasValidNamesAndTokens a → HasValidNamesAndTokens (record a { persons = a.persons ++ p ∷ [] })
with_person a p named told h = record {
  lists = h.lists;
  persons = All-push (λ (person : Person). is_name person.name ≡ true) a.persons p h.persons named;
  tokens = All-push (λ (person : Person). is_token person.token ≡ true) a.persons p h.tokens told;
  addresses = h.addresses;
}

pub words : EachChangeKeeps HasValidNamesAndTokens (λ _. ⊤)
words = record {
  lists = λ a name named new h. with_list a name named h;
  persons = λ a p named told new free h. with_person a p named told h;
  grants = λ a g h. with_grants a _ h;
  revokes = λ a person list rank h. with_grants a _ h;
  messages = λ a list item is new h. with_messages a _ _ h;
  withdrawals = λ a list key party h. with_messages a _ _ h;
  embargoes = λ a list key until h. with_messages a _ _ h;
  merges = λ a list merge h. with_options a _ h;
  addresses = λ a person address told h.
      with_addresses a _ (with_given a (record { person = person; address = normalize_address address }) (kept_is_address address told) h.addresses) h;
}
