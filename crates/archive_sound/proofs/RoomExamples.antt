-- Worked examples: an archive without rows, and one with a list, a message and what counts it, are sound and have room.
use Rattle.std.proofs.Common.{◌≡◌, ◌<◌, ◌^◌, ◌==◌, ℕ, pos, List, [], ◌∷◌, codes, refl, true, if◌then◌else◌, arith, lit≤}
use Rattle.std.proofs.lemmas.Int.{ints}
use Rattle.std.proofs.lemmas.List.Sorted.{IsPermutation-refl}
use Rattle.std.specs.List.Sorted.{IsPermutation}
use Rattle.sqlite.specs.declared.types.Value.TheVariants.{Null, Int, Text, Blob}
use Rattle.sqlite.specs.Effect.{Database}
use Rattle.sqlite.specs.Ops.{binary, unary}
use Rattle.sqlite.specs.Order.{Row, value_cmp}
use Rattle.sqlite.specs.Tree.{Trees}
use Rattle.sqlite_schema.specs.declared.schema.Constraint.{Constraint}
use Rattle.sqlite_schema.specs.declared.schema.Constraint.TheVariants.{Datatype, NotNull, Check, PrimaryKey, Unique, ForeignKey}
use Rattle.sqlite_schema.specs.Rules.{Keeps}
use Rattle.sqlite_tied.specs.Compute.{everything}
use Rattle.mbox_items.specs.Division.{Item}
use Rattle.archive_model.specs.Commands.{Command, list_add, add, embargo}
use Rattle.archive_model.specs.Machine.{message_limit}
use Rattle.archive_model.specs.Questions.{has_list, has_message}
use Rattle.archive_tables.specs.Making.{empty_archive}
use Rattle.archive_tables.specs.Schema.{archive_schema}
use Rattle.archive_tables.specs.Tables.{AreArchiveTables, archive_in_trees, newest_version, version_rows}
use Rattle.archive_store.specs.Refusals.{IsCommandRefused}
use Rattle.archive_sound.specs.ManyCommands.{HasRoomFor, RowsRefuseACommand}
use Rattle.archive_sound.specs.Room.{IsSoundArchive, HasRoom, HasCountedNumber, HasNumbersFor}
use Rattle.archive_sound.proofs.CommandLemmas.{never_refused}
use Rattle.archive_sound.proofs.RoomLemmas.{never_a_command}

-- ---- without rows

abbrev empty_trees : Trees
empty_trees t = if t == 0 then version_rows (pos newest_version) else []

abbrev empty : Database
empty = record { schema = archive_schema; trees = empty_trees }

it_is_empty : archive_in_trees empty_trees ≡ empty_archive
it_is_empty = refl

empty_tables : AreArchiveTables empty_trees
empty_tables = record {
  version = refl;
  lists = record { rows_read_back = refl; is_table = tt };
  persons = record { rows_read_back = refl; is_table = tt };
  grants = record { rows_read_back = refl; is_table = tt };
  messages = record { rows_read_back = refl; is_table = tt };
  grants_distinct = tt;
  messages_distinct = tt;
  rowids_are_positive = tt;
  options = record { rows_read_back = refl; is_table = tt };
  options_distinct = tt;
  addresses = record { rows_read_back = refl; is_table = tt };
  addresses_distinct = tt;
}

empty_rules : (rule : Constraint) → Keeps rule archive_schema empty_trees
empty_rules Datatype = ((refl, tt), (tt, (tt, (tt, (tt, (tt, (tt, (tt, tt))))))))
empty_rules NotNull = ((refl, tt), (tt, (tt, (tt, (tt, (tt, (tt, (tt, tt))))))))
empty_rules Check = ((refl, tt), (tt, (tt, (tt, (tt, (tt, (tt, (tt, tt))))))))
empty_rules PrimaryKey = ((refl, tt), (tt, (tt, (tt, (tt, (tt, (tt, (tt, tt))))))))
empty_rules Unique = ((refl, tt), (tt, (tt, (tt, (tt, (tt, (tt, (tt, tt))))))))
empty_rules ForeignKey = ((refl, tt), (tt, (tt, (tt, (tt, (tt, (tt, (tt, tt))))))))

abbrev nothing : List Row
nothing = []

no_entry : IsPermutation nothing nothing
no_entry = IsPermutation-refl nothing

empty_is_sound : IsSoundArchive empty
empty_is_sound = record {
  schema = refl;
  tables = empty_tables;
  obeys = record { rules = empty_rules; indexed = (no_entry, (no_entry, (no_entry, (no_entry, (no_entry, (no_entry, (no_entry, (no_entry, (no_entry, tt))))))))) };
}

empty_has_room : (name : List ℕ) → HasRoom (list_add name) empty
empty_has_room name = record { list = refl; option = refl }

the_first_list_is_taken : (name : List ℕ) → ¬ IsCommandRefused (list_add name) empty
the_first_list_is_taken name = never_refused message_limit (list_add name) empty empty_is_sound tt (empty_has_room name)

-- ---- with a list, its option and a message that its author withdrew

abbrev soc : List ℕ
soc = codes "soc"

abbrev anna : List ℕ
anna = codes "anna@example.org"

abbrev message_row : Row
message_row = Int (pos 1) ∷ Null ∷ Text soc ∷ Text (codes "k1") ∷ Blob anna ∷ Int (pos 0) ∷ Blob [] ∷ Int (pos 1) ∷ Null ∷ Int (pos 0) ∷ Int (pos 23640) ∷ Blob anna ∷ []

abbrev rows_at : ℕ → List Row
rows_at t =
    if t == 0 then version_rows (pos newest_version)
    else if t == 1 then (Int (pos 1) ∷ Text soc ∷ []) ∷ []
    else if t == 2 then (Text soc ∷ Int (pos 1) ∷ []) ∷ []
    else if t == 8 then message_row ∷ []
    else if t == 9 then (Text soc ∷ Text (codes "k1") ∷ Int (pos 1) ∷ []) ∷ []
    else if t == 10 then (Int (pos 1) ∷ Text (codes "message") ∷ Int (pos 1) ∷ []) ∷ []
    else if t == 11 then (Text soc ∷ Int (pos 23640) ∷ Int (pos 0) ∷ Int (pos 1) ∷ Int (pos 1) ∷ []) ∷ []
    else if t == 12 then (Text soc ∷ Blob anna ∷ Int (pos 0) ∷ Int (pos 1) ∷ Int (pos 1) ∷ []) ∷ []
    else if t == 13 then (Int (pos 1) ∷ Text soc ∷ Int (pos 1) ∷ []) ∷ []
    else if t == 14 then (Text soc ∷ Int (pos 1) ∷ []) ∷ []
    else []

abbrev one : Database
one = record { schema = archive_schema; trees = rows_at }

it_has_a_message : (has_list (archive_in_trees rows_at) soc ≡ true) × (has_message (archive_in_trees rows_at) soc (codes "k1") ≡ true)
it_has_a_message = (refl, refl)

one_tables : AreArchiveTables rows_at
unfolding everything value_cmp lib.Ieee.is_nan lib.Ieee.lt
one_tables = record {
  version = refl;
  lists = record { rows_read_back = refl; is_table = (tt, tt) };
  persons = record { rows_read_back = refl; is_table = tt };
  grants = record { rows_read_back = refl; is_table = tt };
  messages = record { rows_read_back = refl; is_table = (tt, tt) };
  grants_distinct = tt;
  messages_distinct = (refl, tt);
  rowids_are_positive = (refl, tt);
  options = record { rows_read_back = refl; is_table = (tt, tt) };
  options_distinct = (refl, tt);
  addresses = record { rows_read_back = refl; is_table = tt };
  addresses_distinct = tt;
}

one_rules : (rule : Constraint) → Keeps rule archive_schema rows_at
unfolding everything value_cmp binary lib.Ieee.is_nan lib.Ieee.lt
one_rules Datatype = ((refl, tt), ((refl, tt), (tt, (tt, ((refl, tt), ((refl, tt), ((refl, tt), (tt, tt))))))))
one_rules NotNull = ((refl, tt), ((refl, tt), (tt, (tt, ((refl, tt), ((refl, tt), ((refl, tt), (tt, tt))))))))
one_rules Check = ((refl, tt), ((refl, tt), (tt, (tt, ((refl, tt), ((refl, tt), ((refl, tt), (tt, tt))))))))
one_rules PrimaryKey = ((refl, tt), ((refl, tt), (tt, (tt, ((refl, tt), ((refl, tt), ((refl, tt), (tt, tt))))))))
one_rules Unique = ((refl, tt), ((refl, tt), (tt, (tt, ((refl, tt), ((refl, tt), ((refl, tt), (tt, tt))))))))
one_rules ForeignKey = ((refl, tt), ((refl, tt), (tt, (tt, ((refl, tt), ((refl, tt), ((refl, tt), (tt, tt))))))))

one_entry : (row : Row) → IsPermutation (row ∷ []) (row ∷ [])
one_entry row = IsPermutation-refl (row ∷ [])

one_is_sound : IsSoundArchive one
one_is_sound = record {
  schema = refl;
  tables = one_tables;
  obeys = record {
    rules = one_rules;
    indexed = (
      one_entry (Text soc ∷ Int (pos 1) ∷ []),
      (
        no_entry,
        (
          no_entry,
          (
            no_entry,
            (
              one_entry (Text soc ∷ Text (codes "k1") ∷ Int (pos 1) ∷ []),
              (
                one_entry (Text soc ∷ Int (pos 23640) ∷ Int (pos 0) ∷ Int (pos 1) ∷ Int (pos 1) ∷ []),
                (one_entry (Text soc ∷ Blob anna ∷ Int (pos 0) ∷ Int (pos 1) ∷ Int (pos 1) ∷ []), (one_entry (Text soc ∷ Int (pos 1) ∷ []), (no_entry, tt))),
              ),
            ),
          ),
        ),
      ),
    );
  };
}

one_has_room : HasRoom (embargo soc (codes "k1") (pos 20000)) one
one_has_room = record { messages = (lit≤ tt, tt); numbers = (refl, tt) }

one_has_a_number : HasCountedNumber rows_at
unfolding everything value_cmp unary lib.Ieee.is_nan lib.Ieee.lt
one_has_a_number = record { after_last = refl; after_count = refl; sequence = record { rows_read_back = refl; is_table = (tt, tt) }; numbers = (refl, tt); number = λ none. refl }

an_embargo_is_taken : ¬ IsCommandRefused (embargo soc (codes "k1") (pos 20000)) one
an_embargo_is_taken = never_refused message_limit (embargo soc (codes "k1") (pos 20000)) one one_is_sound (record { at_least = omega (arith, ints); at_most = omega (arith, ints) }) one_has_room

-- ---- and there is room for more messages than a list holds

empty_has_numbers : HasNumbersFor 50000 empty_trees
unfolding everything value_cmp unary lib.Ieee.is_nan lib.Ieee.lt
empty_has_numbers = record {
  last_is_positive = omega (arith, ints);
  last = omega (arith, ints);
  count_is_positive = omega (arith, ints);
  count = omega (arith, ints);
  sequence = record { rows_read_back = refl; is_table = tt };
  numbers = tt;
  number = λ none. refl;
}

one_has_numbers : HasNumbersFor 50000 rows_at
unfolding everything value_cmp unary lib.Ieee.is_nan lib.Ieee.lt
one_has_numbers = record {
  last_is_positive = omega (arith, ints);
  last = omega (arith, ints);
  count_is_positive = omega (arith, ints);
  count = omega (arith, ints);
  sequence = record { rows_read_back = refl; is_table = (tt, tt) };
  numbers = (refl, tt);
  number = λ none. refl;
}

abbrev hello : Item
hello = record { envelope = record { sender = anna; arrival = pos 0 }; text = codes "hello" }

hello_has_room : HasRoom (add soc hello) one
hello_has_room = record { short = lit≤ tt; number = one_has_a_number }

hello_is_taken : ¬ IsCommandRefused (add soc hello) one
hello_is_taken = never_refused message_limit (add soc hello) one one_is_sound tt hello_has_room

-- ---- room for many commands

empty_has_room_for : (n : ℕ) → n < 2 ^ 63 → HasRoomFor n empty_trees
unfolding everything value_cmp unary lib.Ieee.is_nan lib.Ieee.lt
empty_has_room_for n few = record {
  is_number = few;
  lists = tt;
  persons = tt;
  grants = tt;
  messages = tt;
  options = tt;
  addresses = tt;
  count = record {
    is_positive = omega (arith, ints);
    above = omega (arith, ints, few);
    sequence = record { rows_read_back = refl; is_table = tt };
    numbers = tt;
    number = λ none. refl;
  };
  short = tt;
}

empty_has_room_for_a_billion : HasRoomFor 1_000_000_000 empty_trees
empty_has_room_for_a_billion = empty_has_room_for 1_000_000_000 (omega arith)

one_has_room_for_a_billion : HasRoomFor 1_000_000_000 rows_at
unfolding everything value_cmp unary lib.Ieee.is_nan lib.Ieee.lt
one_has_room_for_a_billion = record {
  is_number = omega arith;
  lists = (record { fits = refl; above = omega (arith, ints) }, tt);
  persons = tt;
  grants = tt;
  messages = (record { fits = refl; above = omega (arith, ints) }, tt);
  options = (record { fits = refl; above = omega (arith, ints) }, tt);
  addresses = tt;
  count = record {
    is_positive = omega (arith, ints);
    above = omega (arith, ints);
    sequence = record { rows_read_back = refl; is_table = (tt, tt) };
    numbers = (refl, tt);
    number = λ none. refl;
  };
  short = (lit≤ tt, tt);
}

-- a list under the last number: room for no command
abbrev last_list_at : ℕ → List Row
last_list_at t = if t == 1 then (Int (pos 9_223_372_036_854_775_807) ∷ Text soc ∷ []) ∷ [] else rows_at t

after_the_last_list_is_no_room : ¬ HasRoomFor 1 last_list_at
after_the_last_list_is_no_room room = let high = room.lists.0.above in omega (arith, ints, high)

-- the last number was given to a message, which need not be there any more: the same
abbrev last_count_at : ℕ → List Row
last_count_at t = if t == 10 then (Int (pos 1) ∷ Text (codes "message") ∷ Int (pos 9_223_372_036_854_775_807) ∷ []) ∷ [] else rows_at t

after_the_last_count_is_no_room : ¬ HasRoomFor 1 last_count_at
unfolding everything value_cmp unary lib.Ieee.is_nan lib.Ieee.lt
after_the_last_count_is_no_room room = let high = room.count.above in omega (arith, ints, high)

-- ---- a list and a message, one after the other

abbrev a_list_and_a_message : List Command
a_list_and_a_message = list_add soc ∷ add soc hello ∷ []

they_are_taken : ¬ RowsRefuseACommand a_list_and_a_message empty
they_are_taken = never_a_command a_list_and_a_message empty empty_is_sound (empty_has_room_for 2 (omega arith))
    (record { is_short = tt; is_in_range = tt }, (record { is_short = lit≤ tt; is_in_range = tt }, tt))
