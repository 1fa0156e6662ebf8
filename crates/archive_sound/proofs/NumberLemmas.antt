-- Numbers that rows leave, and the room of a database in which one table has changed.
use Rattle.std.proofs.Common.{◌≡◌, ◌≢◌, ◌<◌, ◌≤ℤ◌, ◌<ℤ◌, ◌+ℤ◌, ◌^◌, inl, inr, suc, ℕ, ℤ, pos, negsuc, List, [], ◌∷◌, ◌++◌, fold, find, map, zip, true, None, refl, sym, subst, ◌∙◌, arith}
use Rattle.std.specs.List.{AllByRecursion}
use Rattle.std.specs.Ordering.{is_eq}
use Rattle.std.specs.declared.cmp.Ordering.TheVariants.{Less}
use Rattle.std.proofs.lemmas.Bool.{cases_eq}
use Rattle.std.proofs.lemmas.Bool.Decides.{nat_tests}
use Rattle.std.proofs.lemmas.Int.{ints}
use Rattle.sqlite.specs.declared.types.Value.{Value}
use Rattle.sqlite.specs.declared.types.Value.TheVariants.{Null, Int, Real, Text, Blob}
use Rattle.sqlite.specs.Edit.{id_in, next_rowid}
use Rattle.sqlite.specs.Effect.{Database}
use Rattle.sqlite.specs.Ops.{fits_i64}
use Rattle.sqlite.specs.Order.{Row, column, value_cmp}
use Rattle.sqlite.specs.Rows.{count_of}
use Rattle.sqlite.specs.Tree.{Trees, rowid}
use Rattle.sqlite_schema.specs.declared.schema.Among.TheVariants.{All}
use Rattle.sqlite_schema.specs.Rules.{Fits, Refers}
use Rattle.sqlite_trees.proofs.ListLemmas.{all_weaker}
use Rattle.sqlite_value.proofs.OrderLemmas.{value_cmp-Int}
use Rattle.archive_model.specs.Commands.{Command, list_add, person_add, grant, revoke, add, withdraw, restore, embargo, lift, merge_set, address_set}
use Rattle.archive_model.specs.Filing.{IndexedMessage, indexed_messages}
use Rattle.archive_model.specs.Records.{Archive}
use Rattle.archive_tables.specs.Schema.{archive_schema, message_table}
use Rattle.archive_tables.specs.Tables.{AreArchiveTables, HoldsRecords, archive_in_trees, message_from_row, index_columns_from_row, indexed_message_cells}
use Rattle.archive_tables.proofs.CreateLemmas.{over}
use Rattle.archive_tables.proofs.RowLemmas.{int_less}
use Rattle.archive_tables.proofs.TableLemmas.{SameBut}
use Rattle.archive_sound.specs.ManyCommands.{HasNumbersAbove, LeaveNumbers, CanCount, HasRoomFor, IsOrdinaryCommand}
use Rattle.archive_sound.specs.Room.{IsSoundArchive, HasRoom, AreShort, HaveShortNumbers, HasFreeNumber, HasCountedNumber, HasNumbersFor, message_count, sequence_cells, sequence_from_row}
use Rattle.archive_sound.proofs.CountLemmas.{in_64_bits}
use Rattle.archive_sound.proofs.ReferLemmas.{all_rules, they_refer}

-- ---- numbers of 64 bits

not_below : (z : ℤ) → fits_i64 z ≡ true → pos 0 ≤ℤ (z +ℤ pos (2 ^ 63))
not_below (pos n) h = omega (arith, ints)
not_below (negsuc n) h = grind (arith, ints, nat_tests)

pub within : (z : ℤ) → pos 0 ≤ℤ (z +ℤ pos (2 ^ 63)) → z <ℤ pos (2 ^ 63) → fits_i64 z ≡ true
within (pos n) low high = grind (arith, ints, nat_tests)
within (negsuc n) low high = grind (arith, ints, nat_tests)

pub fewer_above : (more : ℕ) (z : ℤ) → HasNumbersAbove (suc more) z → HasNumbersAbove more z
fewer_above more z has = let high = has.above in record { fits = has.fits; above = omega (arith, ints, high) }

pub fewer_numbers : (more : ℕ) (rows : List Row) → LeaveNumbers (suc more) rows → LeaveNumbers more rows
fewer_numbers more rows all = all_weaker _ (λ row. HasNumbersAbove more (id_in (rowid row))) (λ row has. fewer_above more (id_in (rowid row)) has) rows all

-- the number after one that has others above it
after_one : (more : ℕ) (z : ℤ) → HasNumbersAbove (suc more) z → HasNumbersAbove more (z +ℤ pos 1)
after_one more z has =
    let low = not_below z has.fits in
    let high = has.above in
    record { fits = within (z +ℤ pos 1) (omega (arith, ints, low)) (omega (arith, ints, high)); above = omega (arith, ints, high) }

-- so the next row has a number too
pub next_above : (more : ℕ) (rows : List Row) → suc more < 2 ^ 63 → LeaveNumbers (suc more) rows → HasNumbersAbove more (next_rowid rows)
next_above more rows few all = from (pos 1) rows (record { fits = in_64_bits (pos 1) (omega (arith, ints)) (omega (arith, ints)); above = omega (arith, ints, few) }) all
  where
    from : (first : ℤ) (rows : List Row) → HasNumbersAbove more first → LeaveNumbers (suc more) rows → HasNumbersAbove more (fold (λ _ row. id_in (rowid row) +ℤ pos 1) first rows)
    from first [] has all = has
    from first (row ∷ rows) has all = from (id_in (rowid row) +ℤ pos 1) rows (after_one more (id_in (rowid row)) all.0) all.1

pub free_number : (more : ℕ) (rows : List Row) → suc more < 2 ^ 63 → LeaveNumbers (suc more) rows → HasFreeNumber rows
free_number more rows few all = (next_above more rows few all).fits

pub short_numbers : (more : ℕ) (rows : List Row) → LeaveNumbers more rows → HaveShortNumbers rows
short_numbers more rows all = all_weaker _ (λ row. fits_i64 (id_in (rowid row)) ≡ true) (λ row has. has.fits) rows all

-- ---- what a statement on one table leaves

-- a sound archive, which is this one, and in which as many numbers are left but for one
pub record Leaves (table : ℕ) (archive : Archive) (old : Trees) (next : Database) : Type 0 where
  pub sound : IsSoundArchive next
  pub archive_is : archive_in_trees next.trees ≡ archive
  pub same : SameBut table old next.trees
  pub sequence : next.trees 10 ≡ old 10
  pub numbers : (more : ℕ) → suc more < 2 ^ 63 → LeaveNumbers (suc more) (old table) → LeaveNumbers more (next.trees table)

-- the same of a mark on a message, whose row is as short as it was
pub record LeavesMarked (archive : Archive) (old : Trees) (next : Database) : Type 0 where
  pub leaves : Leaves 8 archive old next
  pub short : AreShort (indexed_messages (archive_in_trees old)) → AreShort (indexed_messages (archive_in_trees next.trees))

-- and of a message that comes: it is the last
pub record LeavesMessage (f : IndexedMessage) (old : Trees) (next : Database) : Type 0 where
  pub sound : IsSoundArchive next
  pub archive_is : archive_in_trees next.trees
      ≡ record (archive_in_trees old) { messages = map message_from_row (old 8) ++ f.0 ∷ []; index_columns = map index_columns_from_row (old 8) ++ f.1 ∷ [] }
  pub same : SameBut 8 old next.trees
  pub numbers : (more : ℕ) → HasNumbersFor (suc more) old → HasNumbersFor more next.trees
  pub number : ℤ
  pub last : next.trees 8 ≡ old 8 ++ (Int number ∷ indexed_message_cells f) ∷ []

-- its rows obey the schema, since SQL tests each rule of what it writes
pub sound_after : (next : Trees) → AreArchiveTables next → Fits archive_schema next → Refers All archive_schema next → IsSoundArchive (over archive_schema next)
sound_after next tables fits refers = record { schema = refl; tables = tables; obeys = record { rules = all_rules next fits (they_refer next refers); indexed = fits.indexed } }

-- ---- the room that is left

module _ (more : ℕ) (old new : Trees) (room : HasRoomFor (suc more) old) where
  pub still_count : new 10 ≡ old 10 → CanCount more new
  still_count same =
      let before = room.count in
      let low = before.is_positive in
      let high = before.above in
      record {
        is_positive = subst (λ rows. pos 0 ≤ℤ count_of (find (λ r. is_eq (value_cmp (column r 1) (Text message_table.name))) rows)) (sym same) low;
        above = subst (λ rows. (count_of (find (λ r. is_eq (value_cmp (column r 1) (Text message_table.name))) rows) +ℤ pos more) <ℤ pos (2 ^ 63)) (sym same) (omega (arith, ints, high));
        sequence = subst (HoldsRecords sequence_cells sequence_from_row) (sym same) before.sequence;
        numbers = subst HaveShortNumbers (sym same) before.numbers;
        number = subst (λ rows. find (λ r. is_eq (value_cmp (column r 1) (Text message_table.name))) rows ≡ None → HasFreeNumber rows) (sym same) before.number;
      }

  pub still_short : new 8 ≡ old 8 → AreShort (indexed_messages (archive_in_trees new))
  still_short same = subst (λ rows. AreShort (zip (map message_from_row rows) (map index_columns_from_row rows))) (sym same) room.short

  -- one table has fewer numbers left, and the others are as they were
  pub room_but : (t : ℕ) → SameBut t old new → LeaveNumbers more (new t) → CanCount more new → AreShort (indexed_messages (archive_in_trees new)) → HasRoomFor more new
  room_but t same here count short =
      let few = room.is_number in
      record {
        is_number = omega (arith, few);
        lists = at 1 same.lists room.lists;
        persons = at 3 same.persons room.persons;
        grants = at 6 same.grants room.grants;
        messages = at 8 same.messages room.messages;
        options = at 13 same.options room.options;
        addresses = at 15 same.addresses room.addresses;
        count = count;
        short = short;
      }
    where
      at : (u : ℕ) → (u ≢ t → new u ≡ old u) → LeaveNumbers (suc more) (old u) → LeaveNumbers more (new u)
      at u other before = elim (cases_eq u t) [
        | inl this ↦ subst (λ v. LeaveNumbers more (new v)) (sym this) here
        | inr apart ↦ subst (LeaveNumbers more) (sym (other apart)) (fewer_numbers more (old u) before)
      ]

  -- and no message comes
  pub room_after : (t : ℕ) → SameBut t old new → LeaveNumbers more (new t) → new 10 ≡ old 10 → AreShort (indexed_messages (archive_in_trees new)) → HasRoomFor more new
  room_after t same here sequence short = room_but t same here (still_count sequence) short

-- ---- less room

pub room_fewer : (more : ℕ) (trees : Trees) → HasRoomFor (suc more) trees → HasRoomFor more trees
room_fewer more trees room =
    let few = room.is_number in
    let high = room.count.above in
    record {
      is_number = omega (arith, few);
      lists = fewer_numbers more (trees 1) room.lists;
      persons = fewer_numbers more (trees 3) room.persons;
      grants = fewer_numbers more (trees 6) room.grants;
      messages = fewer_numbers more (trees 8) room.messages;
      options = fewer_numbers more (trees 13) room.options;
      addresses = fewer_numbers more (trees 15) room.addresses;
      count = record {
        is_positive = room.count.is_positive;
        above = omega (arith, ints, high);
        sequence = room.count.sequence;
        numbers = room.count.numbers;
        number = room.count.number;
      };
      short = room.short;
    }

-- ---- the room of messages

-- no message has a number below zero, so neither has the next
not_negative : (first : ℤ) (rows : List Row) → pos 0 ≤ℤ first → AllByRecursion (λ row. value_cmp (Int (pos 0)) (rowid row) ≡ Less) rows
    → pos 0 ≤ℤ fold (λ _ row. id_in (rowid row) +ℤ pos 1) first rows
not_negative first [] low all = low
not_negative first (row ∷ rows) low all = not_negative (id_in (rowid row) +ℤ pos 1) rows (let here = at_zero (rowid row) all.0 in omega (arith, ints, here)) all.1
  where
    at_zero : (v : Value) → value_cmp (Int (pos 0)) v ≡ Less → pos 0 ≤ℤ id_in v
    at_zero Null less = omega (arith, ints)
    at_zero (Int n) less = let above : pos 0 <ℤ n = int_less (sym (value_cmp-Int (pos 0) n) ∙ less) in omega (arith, ints, above)
    at_zero (Real x) less = omega (arith, ints)
    at_zero (Text t) less = omega (arith, ints)
    at_zero (Blob b) less = omega (arith, ints)

last_within : (more : ℕ) (first : ℤ) (rows : List Row) → (first +ℤ pos more) ≤ℤ pos (2 ^ 63) → LeaveNumbers more rows
    → (fold (λ _ row. id_in (rowid row) +ℤ pos 1) first rows +ℤ pos more) ≤ℤ pos (2 ^ 63)
last_within more first [] high all = high
last_within more first (row ∷ rows) high all = last_within more (id_in (rowid row) +ℤ pos 1) rows (let here = all.0.above in omega (arith, ints, here)) all.1

pub numbers_for : (more : ℕ) (trees : Trees) → AreArchiveTables trees → HasRoomFor more trees → HasNumbersFor more trees
numbers_for more trees tables room =
    let few = room.is_number in
    record {
      last_is_positive = not_negative (pos 1) (trees 8) (omega (arith, ints)) tables.rowids_are_positive;
      last = last_within more (pos 1) (trees 8) (omega (arith, ints, few)) room.messages;
      count_is_positive = room.count.is_positive;
      count = room.count.above;
      sequence = room.count.sequence;
      numbers = room.count.numbers;
      number = room.count.number;
    }

-- ---- the room of one command

module _ (more : ℕ) (db : Database) (room : HasRoomFor (suc more) db.trees) where
  free : (t : ℕ) → LeaveNumbers (suc more) (db.trees t) → HasFreeNumber (db.trees t)
  free t all = free_number more (db.trees t) room.is_number all

  pub can_count : HasCountedNumber db.trees
  can_count =
      let low = room.count.is_positive in
      let high = room.count.above in
      record {
        after_last = free 8 room.messages;
        after_count = in_64_bits (message_count db.trees +ℤ pos 1) (omega (arith, ints, low)) (omega (arith, ints, high));
        sequence = room.count.sequence;
        numbers = room.count.numbers;
        number = room.count.number;
      }

  pub room_for_one : (command : Command) → IsOrdinaryCommand command → HasRoom command db
  room_for_one (list_add name) it = record { list = free 1 room.lists; option = free 13 room.options }
  room_for_one (person_add name token) it = free 3 room.persons
  room_for_one (grant person list rank from_day until_day) it =
      record { short = it.is_short; numbers = short_numbers (suc more) (db.trees 6) room.grants; number = free 6 room.grants }
  room_for_one (revoke person list rank) it = tt
  room_for_one (add list item) it = record { short = it.is_short; number = can_count }
  room_for_one (withdraw list key party) it = record { messages = room.short; numbers = short_numbers (suc more) (db.trees 8) room.messages }
  room_for_one (restore list key) it = record { messages = room.short; numbers = short_numbers (suc more) (db.trees 8) room.messages }
  room_for_one (embargo list key until_day) it = record { messages = room.short; numbers = short_numbers (suc more) (db.trees 8) room.messages }
  room_for_one (lift list key) it = record { messages = room.short; numbers = short_numbers (suc more) (db.trees 8) room.messages }
  room_for_one (merge_set list merge) it = record { short = it.is_short; numbers = short_numbers (suc more) (db.trees 13) room.options }
  room_for_one (address_set person address) it =
      record { short = it.is_short; numbers = short_numbers (suc more) (db.trees 15) room.addresses; number = free 15 room.addresses }
