-- No command that the machine carries out is refused by the rows.
use Rattle.std.proofs.Common.{◌≡◌, ◌≤◌, ◌≤ℤ◌, ◌+◌, inl, inr, ℕ, ℤ, pos, List, [], ◌∷◌, ◌++◌, map, length, Bool, true, false, refl, sym, ap, ap₂, subst, ◌∙◌, arith, int_lt, nat_lt, nat_le}
use Rattle.std.specs.Prelude.{◌&&◌, ◌||◌, not, bytes_eq}
use Rattle.std.specs.List.{AllByRecursion, list_all, list_any}
use Rattle.std.proofs.lemmas.Bool.{cases_Bool, or_left, or_right}
use Rattle.std.proofs.lemmas.Bool.Decides.{nat_tests}
use Rattle.std.proofs.lemmas.Slice.Eq.{bytes_eq-Decides}
use Rattle.std.proofs.lemmas.Int.{ints}
use Rattle.sqlite.specs.Effect.{Database, IsDatabase}
use Rattle.sqlite_catalog.specs.Listing.{IsSound}
use Rattle.mbox_items.specs.Division.{Item, whole}
use Rattle.policy_core.specs.Names.{is_name, is_name_byte, is_lowercase_letter}
use Rattle.archive_model.specs.Addresses.{normalize_address}
use Rattle.archive_model.specs.BearerTokens.{is_token, is_b64token}
use Rattle.archive_model.specs.Commands.{Command, list_add, person_add, grant, revoke, add, withdraw, restore, embargo, lift, merge_set, address_set}
use Rattle.archive_model.specs.Filing.{item_index_columns}
use Rattle.archive_model.specs.Keys.{item_key}
use Rattle.archive_model.specs.Machine.{GuardedReply, StepOutcome, outcome_unless_guarded, guarded_replies_of, command_facts_within_limit, archive_changed_by, reply_if_carried_out, step_within_limit}
use Rattle.archive_model.specs.Machine.{default_list_option, is_too_large, longest_sender, longest_text, new_message, message_limit}
use Rattle.archive_model.specs.Questions.{has_list, has_person, has_grant, has_address, is_option_of, is_message_at_key}
use Rattle.archive_model.specs.Records.{Archive, Person, Grant, ListOption, Address}
use Rattle.archive_tables.specs.Tables.{AreArchiveTables, archive_in_trees, option_cells, list_from_row, person_from_row, option_from_row, message_from_row, same_option_key}
use Rattle.sqlite_schema.specs.declared.schema.Constraint.TheVariants.{ForeignKey}
use Rattle.archive_tables.specs.Schema.{archive_schema, option_table}
use Rattle.archive_tables.proofs.SelectLemmas.{equal_words}
use Rattle.archive_sound.proofs.OptionTable.{option_facts, IsShortOption, option_list_is_there}
use Rattle.archive_sound.proofs.TableLemmas.{named}
use Rattle.archive_database.specs.Lists.{IsListRefused}
use Rattle.archive_store.specs.Refusals.{IsExecutedReply, IsCommandRefusedWithin, IsGrantRefused, IsAddressRefused, RowsRefuseNextCommand}
use Rattle.archive_store.proofs.StepEquations.{is_some-find}
use Rattle.archive_sound.specs.Room.{IsSoundArchive, HasRoom, HasRoomForMarks, HasRoomForList, HasRoomForMessage, HasRoomForUpsert, HasRoomForChange, HasFreeNumber, IsCommandInRange}
use Rattle.archive_sound.specs.Room.{IsGrantInRange, IsDay, IsParty, longest_list_name, longest_row, message_bytes}
use Rattle.archive_sound.proofs.MarkStatements.{never_withdrawn, never_embargoed, never_cleared}
use Rattle.archive_sound.proofs.GrantStatements.{never_grant_changed, never_grant_removed, never_grant_added}
use Rattle.archive_sound.proofs.OptionStatements.{never_option_changed, never_option_added}
use Rattle.archive_sound.proofs.AddressStatements.{never_address_changed, never_address_added}
use Rattle.archive_sound.proofs.PersonStatements.{never_person_added}
use Rattle.archive_sound.proofs.ListStatements.{never_list_added, list_added}
use Rattle.archive_sound.proofs.AddStatements.{never_message_added}
use Rattle.archive_sound.proofs.MessageTable.{none_alike}
use Rattle.archive_sound.proofs.ReferLemmas.{list_named, person_named, names_list, names_person, they_refer}
use Rattle.archive_sound.proofs.LengthLemmas.{key_length, author_shorter}
use Rattle.archive_sound.proofs.ValueLemmas.{parts, both, none_of}

-- ---- what the machine did not refuse

-- an answer that leaves the archive as it was
abbrev pub IsGuard : GuardedReply → Type 0
IsGuard test = ¬ IsExecutedReply test.1

no_test : (a : Archive) (tests : List GuardedReply) (made : StepOutcome) → AllByRecursion IsGuard tests → IsExecutedReply (outcome_unless_guarded a tests made).1
    → AllByRecursion (λ (test : GuardedReply). test.0 ≡ false) tests
no_test a [] made guards done = tt
no_test a (test ∷ tests) made guards done = elim (cases_Bool test.0) [
  | inl so ↦ absurd (guards.0 (rw so at done))
  | inr other ↦ (other, no_test a tests made guards.1 (rw other at done))
]

-- where none was so, the machine makes this
made_by : (a : Archive) (tests : List GuardedReply) (made : StepOutcome) → AllByRecursion (λ (test : GuardedReply). test.0 ≡ false) tests → outcome_unless_guarded a tests made ≡ made
made_by a [] made none = refl
made_by a (test ∷ tests) made none = rw none.0 (made_by a tests made none.1)

-- where one was so, the archive stays
pub stays_by : (a : Archive) (tests : List GuardedReply) (made : StepOutcome) → IsExecutedReply made.1 → ¬ IsExecutedReply (outcome_unless_guarded a tests made).1
    → (outcome_unless_guarded a tests made).0 ≡ a
stays_by a [] made executed refused = absurd (refused executed)
stays_by a (test ∷ tests) made executed refused = elim (cases_Bool test.0) [ inl so ↦ rw so refl | inr other ↦ rw other (stays_by a tests made executed (rw other at refused)) ]

-- of a command that the machine carries out no test was so, and it makes of the archive what it makes where none is
pub carried_out : (limit : ℕ) (a : Archive) (command : Command) → AllByRecursion IsGuard (guarded_replies_of command (command_facts_within_limit limit a command))
    → IsExecutedReply (step_within_limit limit a command).1
    → AllByRecursion (λ (test : GuardedReply). test.0 ≡ false) (guarded_replies_of command (command_facts_within_limit limit a command))
    × ((step_within_limit limit a command).0 ≡ archive_changed_by command a)
carried_out limit a command guards executed =
    let facts = command_facts_within_limit limit a command in
    let made : StepOutcome = (archive_changed_by command a, reply_if_carried_out command facts) in
    let none = no_test a (guarded_replies_of command facts) made guards executed in
    (none, ap (λ (o : StepOutcome). o.0) (made_by a (guarded_replies_of command facts) made none))

-- where the machine carries a command out, no test of it was so
passes : (limit : ℕ) (db : Database) (command : Command) → AllByRecursion IsGuard (guarded_replies_of command (command_facts_within_limit limit (archive_in_trees db.trees) command))
    → IsCommandRefusedWithin limit command db
    → AllByRecursion (λ (test : GuardedReply). test.0 ≡ false) (guarded_replies_of command (command_facts_within_limit limit (archive_in_trees db.trees) command))
passes limit db command guards why = (carried_out limit (archive_in_trees db.trees) command guards why.would_execute).0

pub is_so : (b : Bool) → not b ≡ false → b ≡ true
is_so true h = refl
is_so false h = absurd cc

-- a name of a list or a person has 40 bytes at most, and a token 64
name_short : (name : List ℕ) → is_name name ≡ true → length name ≤ 40
name_short [] h = absurd cc
name_short (b ∷ bs) h =
    let few = (parts (is_lowercase_letter b && list_all is_name_byte bs) (nat_le (length bs) 39) h).1 in
    grind (arith, nat_tests, few)

token_short : (text : List ℕ) → is_token text ≡ true → length text ≤ 64
token_short text h =
    let few = (parts (nat_le 16 (length text)) (nat_le (length text) 64) (parts (nat_le 16 (length text) && nat_le (length text) 64) (is_b64token text) h).0).1 in
    grind (arith, nat_tests, few)

-- the machine takes in no longer text, and no longer sender
no_longer : (most n : ℕ) → nat_lt most n ≡ false → n ≤ most
no_longer most n h = grind (arith, nat_tests)

pub short_message : (list : List ℕ) (item : Item) → length list ≤ longest_list_name → is_too_large item ≡ false → message_bytes (new_message list item, item_index_columns item) ≤ longest_row
unfolding is_too_large
short_message list item name small =
    let neither = none_of (nat_lt longest_text (length (whole item.text))) (nat_lt longest_sender (length item.envelope.sender)) small in
    let text = no_longer longest_text (length (whole item.text)) neither.0 in
    let sender = no_longer longest_sender (length item.envelope.sender) neither.1 in
    let key = key_length (whole item.text) in
    let author = author_shorter (whole item.text) in
    omega (arith, text, key, author, sender, name)

-- ---- the four that mark a message

module _ (limit : ℕ) (db : Database) (sound : IsSoundArchive db) where
  module _ (room : HasRoomForMarks db) where
    pub never_withdraw : (list key : List ℕ) (party : ℤ) → IsParty party → ¬ IsCommandRefusedWithin limit (withdraw list key party) db
    never_withdraw list key party range why = let low = range.at_least in never_withdrawn db sound room list key party (omega (arith, ints, low)) range.at_most why.refuses_rows

    pub never_restore : (list key : List ℕ) → ¬ IsCommandRefusedWithin limit (restore list key) db
    never_restore list key why = never_withdrawn db sound room list key (pos 0) (omega (arith, ints)) (omega (arith, ints)) why.refuses_rows

    pub never_embargo : (list key : List ℕ) (until : ℤ) → IsDay until → ¬ IsCommandRefusedWithin limit (embargo list key until) db
    never_embargo list key until range why = never_embargoed db sound room list key until range why.refuses_rows

    pub never_lift : (list key : List ℕ) → ¬ IsCommandRefusedWithin limit (lift list key) db
    never_lift list key why = never_cleared db sound room list key why.refuses_rows

  -- ---- what is changed, taken away, or added where there is none

  pub never_merge_set : (list : List ℕ) (merge : Bool) → HasRoomForChange (db.trees 13) (length list) → ¬ IsCommandRefusedWithin limit (merge_set list merge) db
  never_merge_set list merge room why = never_option_changed db sound (record { list = list; merge = merge }) room.short room.numbers why.refuses_rows

  pub never_revoke : (person list : List ℕ) (rank : ℤ) → ¬ IsCommandRefusedWithin limit (revoke person list rank) db
  never_revoke person list rank why = never_grant_removed db sound person list rank why.refuses_rows

  -- a name that the archive has is that of a row
  pub list_there : (list : List ℕ) → has_list (archive_in_trees db.trees) list ≡ true → names_list db.trees list ≡ true
  list_there list there = list_named db.trees list sound.tables.lists ∙ there

  person_there : (person : List ℕ) → has_person (archive_in_trees db.trees) person ≡ true → names_person db.trees person ≡ true
  person_there person there = person_named db.trees person sound.tables.persons ∙ there

  grant_upsert : (g : Grant) → IsGrantInRange g.rank g.from_day g.until_day → g.from_day ≤ℤ g.until_day → HasRoomForUpsert (db.trees 6) (length g.person + length g.list)
      → has_person (archive_in_trees db.trees) g.person ≡ true → has_list (archive_in_trees db.trees) g.list ≡ true → ¬ IsGrantRefused g db
  grant_upsert g range rises room person list = by_test (has_grant (archive_in_trees db.trees) g.person g.list g.rank) refl
    where
      by_test : (there : Bool) → has_grant (archive_in_trees db.trees) g.person g.list g.rank ≡ there → ¬ IsGrantRefused g db
      by_test true is why = never_grant_changed db sound g range.from_is range.until_is rises room.short room.numbers (rw is at why)
      by_test false is why = never_grant_added db sound g range.rank_is range.from_is range.until_is rises room.short room.number
          (both _ _ (person_there g.person person) (list_there g.list list)) is (rw is at why)

  pub never_grant : (person list : List ℕ) (rank from_day until_day : ℤ) → IsGrantInRange rank from_day until_day → HasRoomForUpsert (db.trees 6) (length person + length list)
      → ¬ IsCommandRefusedWithin limit (grant person list rank from_day until_day) db
  never_grant person list rank from_day until_day range room why =
      let tests = passes limit db (grant person list rank from_day until_day) (λ e. e, (λ e. e, (λ e. e, tt))) why in
      grant_upsert (record { person = person; list = list; rank = rank; from_day = from_day; until_day = until_day }) range (not_after from_day until_day tests.1.1.0) room
      (is_so (has_person (archive_in_trees db.trees) person) tests.0) (is_so (has_list (archive_in_trees db.trees) list) tests.1.0) why.refuses_rows
    where
      not_after : (from until : ℤ) → int_lt until from ≡ false → from ≤ℤ until
      not_after from until h = grind (arith, ints)

  address_upsert : (x : Address) → HasRoomForUpsert (db.trees 15) (length x.person + length x.address) → has_person (archive_in_trees db.trees) x.person ≡ true → ¬ IsAddressRefused x db
  address_upsert x room person = by_test (has_address (archive_in_trees db.trees) x.person) refl
    where
      by_test : (there : Bool) → has_address (archive_in_trees db.trees) x.person ≡ there → ¬ IsAddressRefused x db
      by_test true is why = never_address_changed db sound x room.short room.numbers (rw is at why)
      by_test false is why = never_address_added db sound x room.short room.number (person_there x.person person) is (rw is at why)

  pub never_address_set : (person address : List ℕ) → HasRoomForUpsert (db.trees 15) (length person + length (normalize_address address))
      → ¬ IsCommandRefusedWithin limit (address_set person address) db
  never_address_set person address room why =
      let tests = passes limit db (address_set person address) (λ e. e, (λ e. e, tt)) why in
      address_upsert (record { person = person; address = normalize_address address }) room (is_so (has_person (archive_in_trees db.trees) person) tests.0) why.refuses_rows

  -- ---- persons and lists

  pub never_person_add : (name token : List ℕ) → HasFreeNumber (db.trees 3) → ¬ IsCommandRefusedWithin limit (person_add name token) db
  never_person_add name token number why =
      let tests = passes limit db (person_add name token) (λ e. e, (λ e. e, (λ e. e, (λ e. e, tt)))) why in
      let few = name_short name (is_so (is_name name) tests.0) in
      let little = token_short token (is_so (is_token token) tests.1.0) in
      never_person_added db sound (record { name = name; token = token }) (omega (arith, few, little)) number (neither (map person_from_row (db.trees 3)) tests.1.1.0 tests.1.1.1.0) why.refuses_rows
    where
      neither : (ps : List Person) → list_any (λ (p : Person). bytes_eq p.name name) ps ≡ false → list_any (λ (p : Person). bytes_eq p.token token) ps ≡ false
          → list_any (λ (p : Person). bytes_eq p.name name || bytes_eq p.token token) ps ≡ false
      neither [] names tokens = refl
      neither (p ∷ ps) names tokens = let one = none_of _ _ names in let other = none_of _ _ tokens in ap₂ ◌||◌ (ap₂ ◌||◌ one.0 other.0) (neither ps one.1 other.1)

  -- a list that is not there has no option
  pub no_option : (name : List ℕ) → has_list (archive_in_trees db.trees) name ≡ false → list_any (is_option_of name) (map option_from_row (db.trees 13)) ≡ false
  no_option name none =
      let before = they_refer db.trees (sound.obeys.rules ForeignKey) in
      none_of_it (map option_from_row (db.trees 13)) (named option_table option_cells option_from_row same_option_key IsShortOption option_list_is_there option_facts db.trees
      sound.obeys sound.tables.options sound.tables.options_distinct before.options)
    where
      none_of_it : (os : List ListOption) → AllByRecursion (λ (o : ListOption). names_list db.trees o.list ≡ true) os → list_any (is_option_of name) os ≡ false
      none_of_it [] all = refl
      none_of_it (o ∷ os) all = ap₂ ◌||◌ (by_test (bytes_eq o.list name) refl) (none_of_it os all.1)
        where
          by_test : (same : Bool) → bytes_eq o.list name ≡ same → same ≡ false
          by_test true is = absurd (let there = sym (ap (names_list db.trees) (equal_words o.list name is)) ∙ all.0 in let bad = sym none
              ∙ (sym (list_named db.trees name sound.tables.lists) ∙ there) in cc)
          by_test false is = refl

  pub never_list_add : (name : List ℕ) → HasRoomForList db → ¬ IsCommandRefusedWithin limit (list_add name) db
  never_list_add name room why =
      let tests = passes limit db (list_add name) (λ e. e, (λ e. e, tt)) why in
      let few = name_short name (is_so (is_name name) tests.0) in
      list_never (omega (arith, few)) tests.1.0 why.refuses_rows
    where
      list_never : length name ≤ longest_row → has_list (archive_in_trees db.trees) name ≡ false → ¬ IsListRefused name db
      list_never short none (inl first) = never_list_added db sound name short room.list none first
      list_never short none (inr (listed, executes, second)) =
          let after = list_added db sound name listed executes in
          let options = after.same.options (λ e. omega (arith, e)) in
          let there : has_list (archive_in_trees listed.trees) name ≡ true = ap (λ (a : Archive). has_list a name) after.archive_is ∙ last_known (map list_from_row (db.trees 1)) in
          never_option_added listed after.sound (default_list_option name) short (subst HasFreeNumber (sym options) room.option)
          (list_named listed.trees name after.sound.tables.lists ∙ there)
          (subst (λ rows. list_any (is_option_of name) (map option_from_row rows) ≡ false) (sym options) (no_option name none)) second
        where
          itself : (bs : List ℕ) → bytes_eq bs bs ≡ true
          itself bs = (bytes_eq-Decides bs bs).1 refl

          last_known : (names : List (List ℕ)) → list_any (λ known. bytes_eq known name) (names ++ name ∷ []) ≡ true
          last_known [] = or_left (bytes_eq name name) false (itself name)
          last_known (known ∷ names) = or_right (bytes_eq known name) _ (last_known names)

  -- ---- a message

  pub never_add : (list : List ℕ) (item : Item) → HasRoomForMessage list db → ¬ IsCommandRefusedWithin limit (add list item) db
  never_add list item room why =
      let tests = passes limit db (add list item) (λ e. e, (λ e. e, (λ e. e, (λ e. e, tt)))) why in
      let key = item_key item in
      let none = sym (is_some-find (is_message_at_key list key) (map message_from_row (db.trees 8))) ∙ tests.1.1.0 in
      never_message_added db sound list key item.envelope.sender item.envelope.arrival (whole item.text) (item_index_columns item) (short_message list item room.short tests.1.0) room.number
      (list_there list (is_so (has_list (archive_in_trees db.trees) list) tests.0)) (none_alike (new_message list item) (db.trees 8) ∙ none) why.refuses_rows

-- ---- any of them

pub never_refused : (limit : ℕ) (command : Command) (db : Database) → IsSoundArchive db → IsCommandInRange command → HasRoom command db → ¬ IsCommandRefusedWithin limit command db
never_refused limit (list_add name) db sound range room = never_list_add limit db sound name room
never_refused limit (person_add name token) db sound range room = never_person_add limit db sound name token room
never_refused limit (grant person list rank from_day until_day) db sound range room = never_grant limit db sound person list rank from_day until_day range room
never_refused limit (revoke person list rank) db sound range room = never_revoke limit db sound person list rank
never_refused limit (add list item) db sound range room = never_add limit db sound list item room
never_refused limit (withdraw list key party) db sound range room = never_withdraw limit db sound room list key party range
never_refused limit (restore list key) db sound range room = never_restore limit db sound room list key
never_refused limit (embargo list key until_day) db sound range room = never_embargo limit db sound room list key until_day range
never_refused limit (lift list key) db sound range room = never_lift limit db sound room list key
never_refused limit (merge_set list merge) db sound range room = never_merge_set limit db sound list merge room
never_refused limit (address_set person address) db sound range room = never_address_set limit db sound person address room

-- what a database of an open connection is
pub is_sound : (db : Database) → db.schema ≡ archive_schema → AreArchiveTables db.trees → IsDatabase db → IsSoundArchive db
is_sound db schema tables live = record { schema = schema; tables = tables; obeys = (subst (λ s. IsSound s db.trees) schema live).obeys }

-- ---- one of many

in_turn : (P : Command → Type 0) (before after commands : List Command) (command : Command) → before ++ command ∷ after ≡ commands → AllByRecursion P commands → P command
in_turn P before after commands command are all = among before (subst (AllByRecursion P) (sym are) all)
  where
    among : (before : List Command) → AllByRecursion P (before ++ command ∷ after) → P command
    among [] all = all.0
    among (c ∷ before) all = among before all.1

pub never_next : (commands : List Command) (done : ℕ) (db : Database) → IsSoundArchive db → AllByRecursion (λ command. IsCommandInRange command × HasRoom command db) commands
    → ¬ RowsRefuseNextCommand commands done db
never_next commands done db sound all why =
    let one = in_turn (λ command. IsCommandInRange command × HasRoom command db) why.commands_before why.commands_after commands why.command why.commands_are all in
    never_refused message_limit why.command db sound one.0 one.1 why.is_refused
