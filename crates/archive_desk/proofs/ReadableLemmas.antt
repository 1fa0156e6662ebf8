-- Commands keep an archive that can be read.
use Rattle.std.proofs.Common.{◌≡◌, ℕ, ℤ, zero, suc, Bool, true, false, ◌&&◌, ◌<◌, refl, subst, List, [], ◌∷◌, ◌++◌, length, pos, Option, Some, None, arith, if◌then◌else◌}
use Rattle.std.specs.Prelude.{not, map, nat_le, slice_index, IfSome, IsUtf8, ⊤}
use Rattle.std.specs.Int.{to_be_bytes, w32}
use Rattle.std.specs.List.{All, list_all}
use Rattle.std.specs.Str.{IsAscii}
use Rattle.std.specs.Char.{to_ascii_lowercase}
use Rattle.std.proofs.lemmas.Bool.{and_parts, cond_both, not-false}
use Rattle.std.proofs.lemmas.Bool.Decides.{nat_tests}
use Rattle.std.proofs.lemmas.List.{map-id}
use Rattle.std.proofs.lemmas.List.Elements.{All-head, All-tail, All-push, All-map, All-weaker, All-filter}
use Rattle.std.proofs.lemmas.Str.{IsUtf8-from_ascii}
use Rattle.std.proofs.lemmas.Str.Ascii.{IsAscii-nil, IsAscii-cons}
use Rattle.sha2.specs.Sha256.{sha256, digest_bytes}
use Rattle.sha2.proofs.Facts256.{length-sha256}
use Rattle.civil_time.specs.Calendar.{is_day}
use Rattle.mbox_core.specs.Division.{Item, whole}
use Rattle.mbox_core.specs.Written.{IsItem, whole_item}
use Rattle.policy_core.specs.Names.{is_lowercase_letter, is_name, is_name_byte}
use Rattle.policy_core.specs.declared.access.Withdrawn.{Withdrawn}
use Rattle.policy_core.specs.declared.access.Withdrawn.TheVariants as withdrawn
use Rattle.policy_core.specs.declared.access.Standing.TheVariants as standing
use Rattle.archive_model.specs.Records.{Person, Grant, Message, Address, Archive}
use Rattle.archive_model.specs.Messages.{withdrawal_number}
use Rattle.archive_model.specs.Commands.{Command, list_add, person_add, grant, revoke, add, withdraw, restore, embargo, lift, merge_set, address_set}
use Rattle.archive_model.specs.Keys.{is_key, item_key}
use Rattle.archive_model.specs.Addresses.{is_address_byte, is_address, normalize_address}
use Rattle.archive_model.specs.Questions.{is_grant_of_rank, has_grant, is_address_of, has_address, is_message_at_key}
use Rattle.archive_model.specs.Machine.{StepOutcome, with_replaced_address, addresses_with, with_grant_days_of, grants_with, new_message, GuardedReply, archive_changed_by, command_facts_of}
use Rattle.archive_model.specs.Machine.{guarded_replies_of, outcome_unless_guarded, reply_if_carried_out, with_withdrawal, with_embargo, step}
use Rattle.archive_model.specs.Runs.{run, taken}
use Rattle.archive_model.proofs.KeyLemmas.{is_key-encode_lower}
use Rattle.archive_port.specs.Messages.{IsReadable}
use Rattle.policy_core.specs.Numbers.{withdrawn_by_number, grant_kind_rank}
use Rattle.policy_core.specs.declared.access.GrantKind.{GrantKind}
use Rattle.policy_core.specs.declared.access.GrantKind.TheVariants.{Member, Subscriber, Moderator}
use Rattle.policy_core.specs.declared.access.WithdrawnBy.{WithdrawnBy}
use Rattle.policy_core.specs.declared.access.WithdrawnBy.TheVariants.{Author, Board}
use Rattle.archive_desk.specs.Readable.{CanBeRead, HasStandingRank, IsWellFormedCommand}

-- ---- the key of a text is a key: a digest is bytes

abbrev IsBytes : List ℕ → Type 0
IsBytes bs = (i : ℕ) → slice_index bs i < 256

append_bytes : (xs ys : List ℕ) → IsBytes xs → IsBytes ys → IsBytes (xs ++ ys)
append_bytes [] ys first last = last
append_bytes (x ∷ xs) ys first last = elim [ zero ↦ first 0 | suc (i → _) ↦ append_bytes xs ys (λ j. first (suc j)) last i ]

four_bytes : (a b c d i : ℕ) → a < 256 → b < 256 → c < 256 → d < 256 → slice_index (a ∷ b ∷ c ∷ d ∷ []) i < 256
four_bytes a b c d zero p q r s = p
four_bytes a b c d (suc zero) p q r s = q
four_bytes a b c d (suc (suc zero)) p q r s = r
four_bytes a b c d (suc (suc (suc zero))) p q r s = s
four_bytes a b c d (suc (suc (suc (suc i)))) p q r s = omega arith

digest_is_bytes : (h : List ℕ) (n : ℕ) → IsBytes (digest_bytes h n)
unfolding digest_bytes
digest_is_bytes h zero = λ i. omega arith
digest_is_bytes h (suc n) = append_bytes (digest_bytes h n) (to_be_bytes w32 (slice_index h n)) (digest_is_bytes h n)
    (λ i. four_bytes _ _ _ _ i (omega arith) (omega arith) (omega arith) (omega arith))

sha256_is_bytes : (text : List ℕ) → IsBytes (sha256 text)
unfolding sha256
sha256_is_bytes text = digest_is_bytes _ 8

key_is_key : (item : Item) → is_key (item_key item) ≡ true
key_is_key item = is_key-encode_lower (sha256 (whole item.text)) (length-sha256 (whole item.text)) (sha256_is_bytes (whole item.text))

-- ---- what a change keeps

-- what it keeps of each it keeps of all, where those that pass a test change
all_changed : {X : Type 0} (P : X → Type 0) (test : X → Bool) (change : X → X) → ((x : X) → P x → P (change x)) → (xs : List X) → All P xs → All P (map (λ x. if test x then change x else x) xs)
all_changed P test change keeps xs all = All-map P (λ x. if test x then change x else x) xs
    (All-weaker P (λ x. P (if test x then change x else x)) (λ x it. cond_both (test x) (change x) x P (λ so. keeps x it) (λ no. it)) xs all)

-- ---- a message that is added, and one that is changed

-- what is used of whole texts: the law of mbox files
abbrev pub WholeItems : Type 0
WholeItems = (item : Item) → IsItem item → IsItem (whole_item item)

new_is_readable : WholeItems → (list : List ℕ) (item : Item) → IsItem item → IsReadable (new_message list item)
new_is_readable items list item is = record {
  key_is_valid = key_is_key item;
  item_is_writable = items item is;
  withdrawal_is_known = (withdrawn.No, refl);
  embargo = tt;
}

withdrawal_is_readable : (party : ℤ) → ((by : Withdrawn) × (withdrawal_number by ≡ party)) → (m : Message) → IsReadable m → IsReadable (with_withdrawal party m)
withdrawal_is_readable party by m readable = record { key_is_valid = readable.key_is_valid; item_is_writable = readable.item_is_writable; withdrawal_is_known = by; embargo = readable.embargo }

embargo_is_readable : (until : Option ℤ) → IfSome until (λ day. is_day day ≡ true) → (m : Message) → IsReadable m → IsReadable (with_embargo until m)
embargo_is_readable until day m readable =
    record { key_is_valid = readable.key_is_valid; item_is_writable = readable.item_is_writable; withdrawal_is_known = readable.withdrawal_is_known; embargo = day }

of_party : (party : ℤ) → ((by : WithdrawnBy) × (withdrawn_by_number by ≡ party)) → (by : Withdrawn) × (withdrawal_number by ≡ party)
of_party party (Author, e) = (withdrawn.Author, e)
of_party party (Board, e) = (withdrawn.Board, e)

-- ---- grants

of_kind : (g : Grant) → ((kind : GrantKind) × (grant_kind_rank kind ≡ g.rank)) → HasStandingRank g
of_kind g (Member, e) = (standing.Member, e)
of_kind g (Subscriber, e) = (standing.Subscriber, e)
of_kind g (Moderator, e) = (standing.Moderator, e)

grants_are_ranked : (a : Archive) (g : Grant) → HasStandingRank g → All HasStandingRank a.grants → All HasStandingRank (grants_with a g)
grants_are_ranked a g new all = cond_both (has_grant a g.person g.list g.rank) (map (with_grant_days_of g) a.grants) (a.grants ++ g ∷ []) (All HasStandingRank)
    (λ there. all_changed HasStandingRank (is_grant_of_rank g.person g.list g.rank) (λ old. record old { from_day = g.from_day; until_day = g.until_day }) (λ old ranked. ranked) a.grants all)
    (λ none. All-push HasStandingRank a.grants g all new)

-- ---- names and addresses are ASCII

module _ (test : ℕ → Bool) (change : ℕ → ℕ) (small : (b : ℕ) → test b ≡ true → change b < 128) where
  ascii_bytes : (text : List ℕ) → list_all test text ≡ true → IsAscii (map change text)
  ascii_bytes [] all = IsAscii-nil
  ascii_bytes (b ∷ text) all =
      let parts = and_parts (test b) (list_all test text) all in
      IsAscii-cons (change b) (map change text) (small b parts.0) (ascii_bytes text parts.1)

kept_is_utf8 : (text : List ℕ) → is_address text ≡ true → IsUtf8 (normalize_address text)
kept_is_utf8 text is =
    IsUtf8-from_ascii (normalize_address text)
    (ascii_bytes is_address_byte to_ascii_lowercase (λ b so. grind (arith, nat_tests, so)) text
    (and_parts (nat_le 1 (length text) && nat_le (length text) 254) (list_all is_address_byte text) is).1)

letter : (b : ℕ) → is_lowercase_letter b ≡ true → b < 128
letter b is = grind (arith, nat_tests, is)

name_byte : (b : ℕ) → is_name_byte b ≡ true → b < 128
name_byte b is = grind (arith, nat_tests, is)

name_is_utf8 : (name : List ℕ) → is_name name ≡ true → IsUtf8 name
name_is_utf8 [] is = absurd cc
name_is_utf8 (b ∷ bs) is =
    let parts = and_parts (is_lowercase_letter b && list_all is_name_byte bs) (nat_le (length bs) 39) is in
    let bytes = and_parts (is_lowercase_letter b) (list_all is_name_byte bs) parts.0 in
    IsUtf8-from_ascii (b ∷ bs) (IsAscii-cons b bs (letter b bytes.0) (subst IsAscii (map-id bs) (ascii_bytes is_name_byte (λ c. c) name_byte bs bytes.1)))

abbrev IsText : Address → Type 0
IsText a = IsUtf8 a.address

addresses_are_texts : (a : Archive) (x : Address) → IsText x → All IsText a.addresses → All IsText (addresses_with a x)
addresses_are_texts a x new all = cond_both (has_address a x.person) (map (with_replaced_address x) a.addresses) (a.addresses ++ x ∷ []) (All IsText)
    (λ there. all_changed IsText (is_address_of x.person) (λ old. record old { address = x.address }) (λ old text. new) a.addresses all)
    (λ none. All-push IsText a.addresses x all new)

-- ---- commands

-- no test is so
abbrev NoneSo : List GuardedReply → Type 0
NoneSo [] = ⊤
NoneSo (test ∷ tests) = (test.0 ≡ false) × NoneSo tests

-- where one is, nothing changes
unless : (a : Archive) → CanBeRead a → (tests : List GuardedReply) (made : StepOutcome) → (NoneSo tests → CanBeRead made.0) → CanBeRead (outcome_unless_guarded a tests made).0
unless a can [] made later = later tt
unless a can (test ∷ tests) made later = cond_both {A = StepOutcome} test.0 (a, test.1) (outcome_unless_guarded a tests made) (λ outcome. CanBeRead outcome.0)
    (λ so. can) (λ no. unless a can tests made (λ none. later (no, none)))

module _ (items : WholeItems) where
  changed : (a : Archive) (command : Command) → NoneSo (guarded_replies_of command (command_facts_of a command)) → IsWellFormedCommand command → CanBeRead a → CanBeRead (archive_changed_by command a)
  changed a (list_add name) none said can = assumption (All-push IsUtf8 a.lists name can.lists (name_is_utf8 name (not-false (is_name name) none.0)))
  changed a (person_add name token) none said can =
      let p : Person = record { name = name; token = token } in
      assumption (All-push (λ (p : Person). IsUtf8 p.name) a.persons p can.persons (name_is_utf8 name (not-false (is_name name) none.0)))
  changed a (grant person list rank from_day until_day) none said can =
      let g : Grant = record { person = person; list = list; rank = rank; from_day = from_day; until_day = until_day } in
      assumption (grants_are_ranked a g (of_kind g said) can.grants)
  changed a (revoke person list rank) none said can = assumption (All-filter (λ g. not (is_grant_of_rank person list rank g)) HasStandingRank a.grants can.grants)
  changed a (add list item) none said can = assumption (All-push IsReadable a.messages (new_message list item) can.messages (new_is_readable items list item said))
  changed a (withdraw list key party) none said can =
      assumption (all_changed IsReadable (is_message_at_key list key) (with_withdrawal party) (withdrawal_is_readable party (of_party party said)) a.messages can.messages)
  changed a (restore list key) none said can =
      assumption (all_changed IsReadable (is_message_at_key list key) (with_withdrawal (pos 0)) (withdrawal_is_readable (pos 0) (withdrawn.No, refl)) a.messages can.messages)
  changed a (embargo list key until_day) none said can =
      assumption (all_changed IsReadable (is_message_at_key list key) (with_embargo (Some until_day)) (embargo_is_readable (Some until_day) said) a.messages can.messages)
  changed a (lift list key) none said can = assumption (all_changed IsReadable (is_message_at_key list key) (with_embargo None) (embargo_is_readable None tt) a.messages can.messages)
  changed a (merge_set list merge) none said can = assumption
  changed a (address_set person address) none said can =
      let x : Address = record { person = person; address = normalize_address address } in
      assumption (addresses_are_texts a x (kept_is_utf8 address (not-false (is_address address) none.1.0)) can.addresses)

  pub kept_by_steps : (a : Archive) (command : Command) → IsWellFormedCommand command → CanBeRead a → CanBeRead (step a command).0
  kept_by_steps a command said can = unless a can (guarded_replies_of command (command_facts_of a command))
      (archive_changed_by command a, reply_if_carried_out command (command_facts_of a command)) (λ none. changed a command none said can)

  pub kept_by_runs : (a : Archive) (commands : List Command) → All IsWellFormedCommand commands → CanBeRead a → CanBeRead (run a commands).archive
  unfolding run
  kept_by_runs a [] all can = can
  kept_by_runs a (command ∷ commands) all can =
      kept_by_runs (step a command).0 commands (All-tail IsWellFormedCommand command commands all) (kept_by_steps a command (All-head IsWellFormedCommand command commands all) can)

  pub kept_by_items : (a : Archive) (list : List ℕ) (xs : List Item) → All IsItem xs → CanBeRead a → CanBeRead (taken a list xs).archive
  kept_by_items a list xs all = kept_by_runs a (map (add list) xs) (All-map IsWellFormedCommand (add list) xs all)
