-- No message of many that come one after the other is refused.
use Rattle.std.proofs.Common.{◌≡◌, ◌≤◌, ◌+ℤ◌, ◌+◌, ℕ, suc, pos, List, [], ◌∷◌, ◌++◌, map, drop, length, length-drop, Bool, true, false, refl, sym, subst, ◌∙◌, arith, nat_le}
use Rattle.std.specs.Prelude.{not, if◌then◌else◌}
use Rattle.std.proofs.lemmas.Int.{ints}
use Rattle.sqlite.specs.Edit.{next_rowid}
use Rattle.sqlite.specs.Effect.{Database}
use Rattle.sqlite.specs.Tree.{Trees}
use Rattle.mbox_items.specs.Division.{Item, whole}
use Rattle.archive_model.specs.Commands.{CommandReply, add, done, was_there, taken_in, already_known, refused, no_list, list_full, too_large}
use Rattle.archive_model.specs.Filing.{item_index_columns}
use Rattle.archive_model.specs.Keys.{item_key}
use Rattle.archive_model.specs.Machine.{refuse, add_within_limit, is_too_large, message_limit, new_message, with_message}
use Rattle.archive_model.specs.Questions.{has_list, has_message, is_message_at_key, messages_in}
use Rattle.archive_model.specs.Records.{Archive}
use Rattle.archive_tables.specs.Statements.{StatementExecutesTo}
use Rattle.archive_tables.specs.Tables.{archive_in_trees, message_from_row}
use Rattle.archive_database.specs.Taking.{insert_item_statement}
use Rattle.archive_store.specs.Refusals.{IsCommandRefused, MakeRows, WritesMessageIfAdded, RowsRefuseAnItem}
use Rattle.archive_store.proofs.StepEquations.{is_some-find}
use Rattle.archive_sound.specs.ManyCommands.{HasRoomFor}
use Rattle.archive_sound.specs.Room.{IsSoundArchive, HasNumbersFor, HasCountedNumber, HasRoomForMessages, longest_list_name, message_count}
use Rattle.archive_sound.proofs.AddStatements.{message_added}
use Rattle.archive_sound.proofs.CommandLemmas.{never_refused, list_there, short_message}
use Rattle.archive_sound.proofs.CountLemmas.{in_64_bits}
use Rattle.archive_sound.proofs.MessageTable.{none_alike}
use Rattle.archive_sound.proofs.NumberLemmas.{numbers_for}

-- ---- numbers

one_more : (more : ℕ) (trees : Trees) → HasNumbersFor (suc more) trees → HasCountedNumber trees
one_more more trees has =
    let last = has.last in
    let last_low = has.last_is_positive in
    let count = has.count in
    let count_low = has.count_is_positive in
    record {
      after_last = in_64_bits (next_rowid (trees 8)) last_low (omega (arith, ints, last));
      after_count = in_64_bits (message_count trees +ℤ pos 1) (omega (arith, ints, count_low)) (omega (arith, ints, count));
      sequence = has.sequence;
      numbers = has.numbers;
      number = has.number;
    }

fewer : (more : ℕ) (trees : Trees) → HasNumbersFor (suc more) trees → HasNumbersFor more trees
fewer more trees has =
    let last = has.last in
    let count = has.count in
    record {
      last_is_positive = has.last_is_positive;
      last = omega (arith, ints, last);
      count_is_positive = has.count_is_positive;
      count = omega (arith, ints, count);
      sequence = has.sequence;
      numbers = has.numbers;
      number = has.number;
    }

-- ---- a message that the machine takes in

record IsTakenIn (a : Archive) (list : List ℕ) (item : Item) : Type 0 where
  list_is_there : has_list a list ≡ true
  is_small : is_too_large item ≡ false
  key_is_new : has_message a list (item_key item) ≡ false

taken : (limit : ℕ) (a : Archive) (list : List ℕ) (item : Item) → (add_within_limit limit a list item).1 ≡ taken_in → IsTakenIn a list item
taken limit a list item is =
    by_tests (has_list a list) (is_too_large item) (has_message a list (item_key item)) (nat_le limit (length (messages_in a list))) refl refl refl is
  where
    by_tests : (there long known full : Bool) → has_list a list ≡ there → is_too_large item ≡ long → has_message a list (item_key item) ≡ known
        → (if not there then refuse a no_list else if long then refuse a too_large else if known then (a, already_known) else if full then refuse a list_full else
        (with_message a list item, taken_in)).1 ≡ taken_in
        → IsTakenIn a list item
    by_tests false long known full p q r is = absurd (let bad = is in cc)
    by_tests true true known full p q r is = absurd (let bad = is in cc)
    by_tests true false true full p q r is = absurd (let bad = is in cc)
    by_tests true false false full p q r is = record { list_is_there = p; is_small = q; key_is_new = r }

module _ (list : List ℕ) (item : Item) (db : Database) (sound : IsSoundArchive db) (short : length list ≤ longest_list_name) (more : ℕ)
    (numbers : HasNumbersFor (suc more) db.trees) where
  abbrev LeavesRoom : Database → Type 0
  LeavesRoom next = IsSoundArchive next × HasNumbersFor more next.trees

  executed : IsTakenIn (archive_in_trees db.trees) list item → (next : Database) → StatementExecutesTo (insert_item_statement list (item_key item) item) db next → LeavesRoom next
  executed it next executes =
      let key = item_key item in
      let none = sym (is_some-find (is_message_at_key list key) (map message_from_row (db.trees 8))) ∙ it.key_is_new in
      let left = message_added db sound list key item.envelope.sender item.envelope.arrival (whole item.text) (item_index_columns item) (short_message list item short it.is_small)
      (one_more more db.trees numbers) (list_there message_limit db sound list it.list_is_there) (none_alike (new_message list item) (db.trees 8) ∙ none) next executes in
      (left.sound, left.numbers more numbers)

  stays : (next : Database) → next ≡ db → LeavesRoom next
  stays next same = subst LeavesRoom (sym same) (sound, fewer more db.trees numbers)

  leaves_room : (reply : CommandReply) → (add_within_limit message_limit (archive_in_trees db.trees) list item).1 ≡ reply → (next : Database) → WritesMessageIfAdded list item reply db next
      → LeavesRoom next
  leaves_room taken_in is next writes = executed (taken message_limit (archive_in_trees db.trees) list item is) next writes
  leaves_room done is next writes = stays next writes
  leaves_room (was_there b) is next writes = stays next writes
  leaves_room already_known is next writes = stays next writes
  leaves_room (refused why) is next writes = stays next writes

-- ---- one after the other

module _ (list : List ℕ) (short : length list ≤ longest_list_name) where
  never_in_turn : (before : List Item) (item : Item) (after : List Item) (db : Database) → IsSoundArchive db
      → HasNumbersFor (length (before ++ item ∷ after)) db.trees → (database : Database) → MakeRows list before db database → ¬ IsCommandRefused (add list item) database
  unfolding MakeRows
  never_in_turn [] item after db sound numbers database same =
      subst (λ d. ¬ IsCommandRefused (add list item) d) (sym same)
      (never_refused message_limit (add list item) db sound tt (record { short = short; number = one_more (length after) db.trees numbers }))
  never_in_turn (i ∷ before) item after db sound numbers database makes =
      let left = leaves_room list i db sound short (length (before ++ item ∷ after)) numbers _ refl makes.0 makes.1 in
      never_in_turn before item after makes.0 left.0 left.1 database makes.2

pub never_an_item : (list : List ℕ) (items : List Item) (db : Database) → IsSoundArchive db → HasRoomForMessages list items db → ¬ RowsRefuseAnItem list items db
never_an_item list items db sound room why =
    never_in_turn list room.short why.items_before why.item why.items_after db sound (subst (λ l. HasNumbersFor (length l) db.trees) (sym why.items_are) room.numbers)
    why.database why.makes_rows why.is_refused

-- ---- in an archive with room for as many commands

fewer_numbers : (less more : ℕ) (trees : Trees) → less ≤ more → HasNumbersFor more trees → HasNumbersFor less trees
fewer_numbers less more trees few has =
    let last = has.last in
    let count = has.count in
    record {
      last_is_positive = has.last_is_positive;
      last = omega (arith, ints, last, few);
      count_is_positive = has.count_is_positive;
      count = omega (arith, ints, count, few);
      sequence = has.sequence;
      numbers = has.numbers;
      number = has.number;
    }

-- those that are left once so many were added
pub never_an_item_left : (list : List ℕ) (items : List Item) (count : ℕ) (db : Database) → IsSoundArchive db → HasRoomFor (length items) db.trees → length list ≤ longest_list_name
    → ¬ RowsRefuseAnItem list (drop count items) db
never_an_item_left list items count db sound room short =
    let less = length-drop count items in
    never_an_item list (drop count items) db sound (record {
      short = short;
      numbers = fewer_numbers (length (drop count items)) (length items) db.trees (omega (arith, less)) (numbers_for (length items) db.trees sound.tables room);
    })
