-- A command that was carried out leaves a sound archive, the one that the machine makes, with room for one command less.
use Rattle.std.proofs.Common.{◌≡◌, ◌≢◌, ◌≤◌, ◌≤ℤ◌, ◌+◌, ◌+ℤ◌, ◌^◌, ◌⊎◌, ◌↔◌, inl, inr, suc, ℕ, ℤ, pos, List, [], ◌∷◌, ◌++◌, map, length, Bool, true, false}
use Rattle.std.proofs.Common.{refl, sym, ap, subst, ◌∙◌, arith}
use Rattle.std.specs.List.{AllByRecursion, list_any}
use Rattle.std.proofs.lemmas.Int.{ints}
use Rattle.sqlite.specs.declared.types.Value.TheVariants.{Int}
use Rattle.sqlite.specs.Edit.{id_in, next_rowid}
use Rattle.sqlite.specs.Effect.{Database}
use Rattle.sqlite.specs.Order.{Row}
use Rattle.sqlite.specs.Tree.{rowid}
use Rattle.mbox_items.specs.Division.{Item, whole}
use Rattle.archive_model.specs.Addresses.{normalize_address}
use Rattle.archive_model.specs.Commands.{Command, list_add, person_add, grant, revoke, add, withdraw, restore, embargo, lift, merge_set, address_set}
use Rattle.archive_model.specs.Commands.{CommandReply, done, was_there, taken_in, already_known, refused}
use Rattle.archive_model.specs.Filing.{IndexedMessage, item_index_columns}
use Rattle.archive_model.specs.Keys.{item_key}
use Rattle.archive_model.specs.Machine.{archive_changed_by, grants_with, addresses_with, default_list_option, message_limit, step, new_message}
use Rattle.archive_model.specs.Machine.{command_facts_of, guarded_replies_of, reply_if_carried_out}
use Rattle.archive_model.specs.declared.found.CommandFacts.{CommandFacts}
use Rattle.archive_model.specs.Runs.{run}
use Rattle.archive_model.specs.Questions.{has_list, has_grant, has_address, is_message_at_key, is_option_of}
use Rattle.archive_model.specs.Records.{Archive, Grant, Address}
use Rattle.archive_tables.specs.Statements.{Statement, StatementExecutesTo, StatementsExecuteTo, IsStatementRefused, IsAnyStatementRefused, insert_list_statement, insert_option_statement}
use Rattle.archive_tables.specs.Tables.{archive_in_trees, indexed_message_cells, indexed_message_from_row, message_from_row, option_from_row}
use Rattle.archive_tables.proofs.MessageLemmas.{filed_are, filed_back}
use Rattle.archive_store.specs.Refusals.{IsExecutedReply, IsCommandRefused, IsWriteRefused, upsert_grant_statement, upsert_address_statement}
use Rattle.archive_store.proofs.StepEquations.{is_some-find}
use Rattle.archive_sound.specs.ManyCommands.{HasNumbersAbove, LeaveNumbers, HasRoomFor, IsOrdinaryCommand, statements_of, WritesCommandIfExecuted, CommandMakesRows}
use Rattle.archive_sound.specs.ManyCommands.{CommandsMakeRows, RowsRefuseACommand}
use Rattle.archive_sound.specs.Room.{IsSoundArchive, AreShort, longest_row, message_bytes}
use Rattle.archive_sound.proofs.AddStatements.{message_added}
use Rattle.archive_sound.proofs.AddressStatements.{address_changed, address_added}
use Rattle.archive_sound.proofs.CommandLemmas.{IsGuard, carried_out, stays_by, is_so, list_there, never_refused, no_option, short_message}
use Rattle.archive_sound.proofs.CountLemmas.{next_behind}
use Rattle.archive_sound.proofs.GrantStatements.{grant_changed, grant_added, grant_removed}
use Rattle.archive_sound.proofs.ListLemmas.{all_last}
use Rattle.archive_sound.proofs.ListStatements.{list_added}
use Rattle.archive_sound.proofs.MarkStatements.{message_withdrawn, message_embargoed, message_cleared}
use Rattle.archive_sound.proofs.MessageTable.{none_alike}
use Rattle.archive_sound.proofs.NumberLemmas.{Leaves, LeavesMarked, LeavesMessage, within, fewer_numbers, numbers_for, room_after, room_but, room_fewer, room_for_one}
use Rattle.archive_sound.proofs.NumberLemmas.{can_count, still_count, still_short}
use Rattle.archive_sound.proofs.OptionStatements.{option_changed, option_added}
use Rattle.archive_sound.proofs.PersonStatements.{person_added}

-- this archive, sound and with as much room
pub record LeavesRoom (more : ℕ) (archive : Archive) (next : Database) : Type 0 where
  pub sound : IsSoundArchive next
  pub room : HasRoomFor more next.trees
  pub archive_is : archive_in_trees next.trees ≡ archive

-- one statement
only : (st : Statement) (db next : Database) → StatementsExecuteTo (st ∷ []) db next → StatementExecutesTo st db next
only st db next h = subst (StatementExecutesTo st db) (sym h.2) h.1

-- ---- the rows of messages, with one more

short_rows : (number : ℤ) (f : IndexedMessage) → message_bytes f ≤ longest_row → (rows : List Row) → AreShort (map indexed_message_from_row rows)
    → AreShort (map indexed_message_from_row (rows ++ (Int number ∷ indexed_message_cells f) ∷ []))
short_rows number f short [] all = (subst (λ (g : IndexedMessage). message_bytes g ≤ longest_row) (sym (filed_back number f)) short, tt)
short_rows number f short (row ∷ rows) all = (all.0, short_rows number f short rows all.1)

above_last : (more : ℕ) (number : ℤ) → pos 0 ≤ℤ (number +ℤ pos 1) → ((number +ℤ pos 1) +ℤ pos more) ≤ℤ pos (2 ^ 63) → HasNumbersAbove more number
above_last more number low high = record { fits = within number (omega (arith, ints, low)) (omega (arith, ints, high)); above = omega (arith, ints, high) }

-- ---- what each command leaves

module _ (more : ℕ) (db : Database) (sound : IsSoundArchive db) (room : HasRoomFor (suc more) db.trees) where
  abbrev a : Archive
  a = archive_in_trees db.trees

  of_table : (t : ℕ) (archive : Archive) (next : Database) → 8 ≢ t → LeaveNumbers (suc more) (db.trees t) → Leaves t archive db.trees next → LeavesRoom more archive next
  of_table t archive next apart here left = record {
    sound = left.sound;
    room = room_after more db.trees next.trees room t left.same (left.numbers more room.is_number here) left.sequence (still_short more db.trees next.trees room (left.same.messages apart));
    archive_is = left.archive_is;
  }

  of_mark : (archive : Archive) (next : Database) → LeavesMarked archive db.trees next → LeavesRoom more archive next
  of_mark archive next left = record {
    sound = left.leaves.sound;
    room = room_after more db.trees next.trees room 8 left.leaves.same (left.leaves.numbers more room.is_number room.messages) left.leaves.sequence (left.short room.short);
    archive_is = left.leaves.archive_is;
  }

  -- a message more
  of_message : (f : IndexedMessage) → message_bytes f ≤ longest_row → (next : Database) (archive : Archive)
      → record a { messages = a.messages ++ f.0 ∷ []; index_columns = a.index_columns ++ f.1 ∷ [] } ≡ archive → LeavesMessage f db.trees next → LeavesRoom more archive next
  of_message f short next archive is left =
      let new : Row = Int left.number ∷ indexed_message_cells f in
      let has = left.numbers more (numbers_for (suc more) db.trees sound.tables room) in
      let next_is : next_rowid (next.trees 8) ≡ left.number +ℤ pos 1 = ap next_rowid left.last ∙ next_behind (pos 1) (db.trees 8) new in
      let above = above_last more left.number (subst (λ z. pos 0 ≤ℤ z) next_is has.last_is_positive) (subst (λ z. (z +ℤ pos more) ≤ℤ pos (2 ^ 63)) next_is has.last) in
      record {
        sound = left.sound;
        room = room_but more db.trees next.trees room 8 left.same
            (subst (LeaveNumbers more) (sym left.last) (all_last (λ row. HasNumbersAbove more (id_in (rowid row))) (db.trees 8) new (fewer_numbers more (db.trees 8) room.messages) above))
            (record { is_positive = has.count_is_positive; above = has.count; sequence = has.sequence; numbers = has.numbers; number = has.number })
            (subst AreShort (sym (filed_are (next.trees 8))) (subst (λ rows. AreShort (map indexed_message_from_row rows)) (sym left.last)
            (short_rows left.number f short (db.trees 8) (subst AreShort (filed_are (db.trees 8)) room.short))));
        archive_is = left.archive_is ∙ is;
      }

  of_grant : (g : Grant) (next : Database) → StatementExecutesTo (upsert_grant_statement g db) db next → LeavesRoom more (record a { grants = grants_with a g }) next
  of_grant g next h = by_test (has_grant a g.person g.list g.rank) refl
    where
      by_test : (there : Bool) → has_grant a g.person g.list g.rank ≡ there → LeavesRoom more (record a { grants = grants_with a g }) next
      by_test true is = rw is (of_table 6 _ next (λ e. omega (arith, e)) room.grants (grant_changed db sound g next (rw is at h)))
      by_test false is = rw is (of_table 6 _ next (λ e. omega (arith, e)) room.grants (grant_added db sound g next is (rw is at h)))

  of_address : (x : Address) (next : Database) → StatementExecutesTo (upsert_address_statement x db) db next → LeavesRoom more (record a { addresses = addresses_with a x }) next
  of_address x next h = by_test (has_address a x.person) refl
    where
      by_test : (there : Bool) → has_address a x.person ≡ there → LeavesRoom more (record a { addresses = addresses_with a x }) next
      by_test true is = rw is (of_table 15 _ next (λ e. omega (arith, e)) room.addresses (address_changed db sound x next (rw is at h)))
      by_test false is = rw is (of_table 15 _ next (λ e. omega (arith, e)) room.addresses (address_added db sound x next is (rw is at h)))

  -- a list, and then its option
  of_list : (name : List ℕ) → has_list a name ≡ false → (next : Database) → StatementsExecuteTo (statements_of (list_add name) db) db next
      → LeavesRoom more (archive_changed_by (list_add name) a) next
  of_list name none next h =
      let listed = h.0 in
      let first = list_added db sound name listed h.1 in
      let options = first.same.options (λ e. omega (arith, e)) in
      let new = subst (λ rows. list_any (is_option_of name) (map option_from_row rows) ≡ false) (sym options) (no_option message_limit db sound name none) in
      both_lists listed first (option_added listed first.sound (default_list_option name) next new (only (insert_option_statement (default_list_option name)) listed next h.2))
    where
      both_lists : (listed : Database) → Leaves 1 (record a { lists = a.lists ++ name ∷ [] }) db.trees listed
          → Leaves 13 (record (archive_in_trees listed.trees) { options = (archive_in_trees listed.trees).options ++ default_list_option name ∷ [] }) listed.trees next
          → LeavesRoom more (archive_changed_by (list_add name) a) next
      both_lists listed first second =
          let few = room.is_number in
          let options = first.same.options (λ e. omega (arith, e)) in
          let messages = second.same.messages (λ e. omega (arith, e)) ∙ first.same.messages (λ e. omega (arith, e)) in
          record {
            sound = second.sound;
            room = record {
              is_number = omega (arith, few);
              lists = subst (LeaveNumbers more) (sym (second.same.lists (λ e. omega (arith, e)))) (first.numbers more few room.lists);
              persons = still 3 (second.same.persons (λ e. omega (arith, e)) ∙ first.same.persons (λ e. omega (arith, e))) room.persons;
              grants = still 6 (second.same.grants (λ e. omega (arith, e)) ∙ first.same.grants (λ e. omega (arith, e))) room.grants;
              messages = still 8 messages room.messages;
              options = second.numbers more few (subst (LeaveNumbers (suc more)) (sym options) room.options);
              addresses = still 15 (second.same.addresses (λ e. omega (arith, e)) ∙ first.same.addresses (λ e. omega (arith, e))) room.addresses;
              count = still_count more db.trees next.trees room (second.sequence ∙ first.sequence);
              short = still_short more db.trees next.trees room messages;
            };
            archive_is = second.archive_is ∙ ap (λ (b : Archive). record b { options = b.options ++ default_list_option name ∷ [] }) first.archive_is;
          }
        where
          still : (t : ℕ) → next.trees t ≡ db.trees t → LeaveNumbers (suc more) (db.trees t) → LeaveNumbers more (next.trees t)
          still t same before = subst (LeaveNumbers more) (sym same) (fewer_numbers more (db.trees t) before)

  -- ---- any of them, where the machine carries it out

  abbrev Carries : Command → Database → Type 0
  Carries command next = IsOrdinaryCommand command → IsExecutedReply (step a command).1 → StatementsExecuteTo (statements_of command db) db next → LeavesRoom more (step a command).0 next

  -- by what it makes of the archive where no test answers it
  of_command : (command : Command) (next : Database) → AllByRecursion IsGuard (guarded_replies_of command (command_facts_of a command)) → IsExecutedReply (step a command).1
      → LeavesRoom more (archive_changed_by command a) next → LeavesRoom more (step a command).0 next
  of_command command next guards executed left = subst (λ archive. LeavesRoom more archive next) (sym (carried_out message_limit a command guards executed).1) left

  carries_add : (list : List ℕ) (item : Item) (next : Database) → Carries (add list item) next
  carries_add list item next it executed h =
      of_command (add list item) next (λ e. e, (λ e. e, (λ e. e, (λ e. e, tt)))) executed (taken (carried_out message_limit a (add list item) (λ e. e, (λ e. e, (λ e. e, (λ e. e, tt)))) executed).0)
    where
      taken : AllByRecursion (λ test. test.0 ≡ false) (guarded_replies_of (add list item) (command_facts_of a (add list item))) → LeavesRoom more (archive_changed_by (add list item) a) next
      taken tests =
          let key = item_key item in
          let short = short_message list item it.is_short tests.1.0 in
          let none = sym (is_some-find (is_message_at_key list key) (map message_from_row (db.trees 8))) ∙ tests.1.1.0 in
          of_message (new_message list item, item_index_columns item) short next (archive_changed_by (add list item) a) refl
          (message_added db sound list key item.envelope.sender item.envelope.arrival (whole item.text) (item_index_columns item) short (can_count more db room)
          (list_there message_limit db sound list (is_so (has_list a list) tests.0)) (none_alike (new_message list item) (db.trees 8) ∙ none) next (only _ db next h))

  carries : (command : Command) (next : Database) → Carries command next
  carries (list_add name) next it executed h =
      let guards : AllByRecursion IsGuard (guarded_replies_of (list_add name) (command_facts_of a (list_add name))) = (λ e. e, (λ e. e, tt)) in
      of_command (list_add name) next guards executed (of_list name (carried_out message_limit a (list_add name) guards executed).0.1.0 next h)
  carries (person_add name token) next it executed h =
      of_command (person_add name token) next (λ e. e, (λ e. e, (λ e. e, (λ e. e, tt)))) executed
      (of_table 3 _ next (λ e. omega (arith, e)) room.persons (person_added db sound (record { name = name; token = token }) next (only _ db next h)))
  carries (grant person list rank from_day until_day) next it executed h =
      of_command (grant person list rank from_day until_day) next (λ e. e, (λ e. e, (λ e. e, tt))) executed
      (of_grant (record { person = person; list = list; rank = rank; from_day = from_day; until_day = until_day }) next (only _ db next h))
  carries (revoke person list rank) next it executed h =
      of_command (revoke person list rank) next (λ e. e, (λ e. e, tt)) executed
      (of_table 6 _ next (λ e. omega (arith, e)) room.grants (grant_removed db sound person list rank next (only _ db next h)))
  carries (add list item) next it executed h = carries_add list item next it executed h
  carries (withdraw list key party) next it executed h =
      let low = it.is_in_range.at_least in
      of_command (withdraw list key party) next (λ e. e, (λ e. e, (λ e. e, tt))) executed
      (of_mark _ next (message_withdrawn db sound list key party (omega (arith, ints, low)) it.is_in_range.at_most next (only _ db next h)))
  carries (restore list key) next it executed h =
      of_command (restore list key) next (λ e. e, (λ e. e, (λ e. e, tt))) executed
      (of_mark _ next (message_withdrawn db sound list key (pos 0) (omega (arith, ints)) (omega (arith, ints)) next (only _ db next h)))
  carries (embargo list key until_day) next it executed h =
      of_command (embargo list key until_day) next (λ e. e, (λ e. e, tt)) executed (of_mark _ next (message_embargoed db sound list key until_day it.is_in_range next (only _ db next h)))
  carries (lift list key) next it executed h =
      of_command (lift list key) next (λ e. e, (λ e. e, tt)) executed (of_mark _ next (message_cleared db sound list key next (only _ db next h)))
  carries (merge_set list merge) next it executed h =
      of_command (merge_set list merge) next (λ e. e, tt) executed
      (of_table 13 _ next (λ e. omega (arith, e)) room.options (option_changed db sound (record { list = list; merge = merge }) next (only _ db next h)))
  carries (address_set person address) next it executed h =
      of_command (address_set person address) next (λ e. e, (λ e. e, tt)) executed
      (of_address (record { person = person; address = normalize_address address }) next (only _ db next h))

-- ---- a command, whatever the machine answers

executes : (command : Command) (it : CommandFacts) → IsExecutedReply (reply_if_carried_out command it)
executes (list_add name) it = tt
executes (person_add name token) it = tt
executes (grant person list rank from_day until_day) it = tt
executes (revoke person list rank) it = tt
executes (add list item) it = tt
executes (withdraw list key party) it = tt
executes (restore list key) it = tt
executes (embargo list key until_day) it = tt
executes (lift list key) it = tt
executes (merge_set list merge) it = tt
executes (address_set person address) it = tt

module _ (more : ℕ) (command : Command) (db next : Database) (sound : IsSoundArchive db) (room : HasRoomFor (suc more) db.trees) (it : IsOrdinaryCommand command) where
  abbrev before : Archive
  before = archive_in_trees db.trees

  stays : ¬ IsExecutedReply (step before command).1 → next ≡ db → LeavesRoom more (step before command).0 next
  stays unexecuted same =
      let facts = command_facts_of before command in
      subst (LeavesRoom more (step before command).0) (sym same) (record {
        sound = sound;
        room = room_fewer more db.trees room;
        archive_is = sym (stays_by before (guarded_replies_of command facts) (archive_changed_by command before, reply_if_carried_out command facts) (executes command facts) unexecuted);
      })

  pub leaves_room : CommandMakesRows command db next → LeavesRoom more (step before command).0 next
  leaves_room makes = by_reply (step before command).1 refl makes
    where
      by_reply : (reply : CommandReply) → (step before command).1 ≡ reply → WritesCommandIfExecuted command reply db next → LeavesRoom more (step before command).0 next
      by_reply done is h = carries more db sound room command next it (subst IsExecutedReply (sym is) tt) h
      by_reply (was_there b) is h = carries more db sound room command next it (subst IsExecutedReply (sym is) tt) h
      by_reply taken_in is h = carries more db sound room command next it (subst IsExecutedReply (sym is) tt) h
      by_reply already_known is h = stays (λ executed. subst IsExecutedReply is executed) h
      by_reply (refused why) is h = stays (λ executed. subst IsExecutedReply is executed) h

-- ---- one after the other

in_turn : (commands_before : List Command) (command : Command) (commands_after : List Command) (db : Database) → IsSoundArchive db
    → AllByRecursion IsOrdinaryCommand (commands_before ++ command ∷ commands_after) → HasRoomFor (length (commands_before ++ command ∷ commands_after)) db.trees
    → (database : Database) → CommandsMakeRows commands_before db database → ¬ IsCommandRefused command database
unfolding CommandsMakeRows
in_turn [] command commands_after db sound all room database same =
    subst (λ d. ¬ IsCommandRefused command d) (sym same)
    (never_refused message_limit command db sound all.0.is_in_range (room_for_one (length commands_after) db room command all.0))
in_turn (c ∷ commands_before) command commands_after db sound all room database makes =
    let left = leaves_room (length (commands_before ++ command ∷ commands_after)) c db makes.0 sound room all.0 makes.1 in
    in_turn commands_before command commands_after makes.0 left.sound all.1 left.room database makes.2

pub never_a_command : (commands : List Command) (db : Database) → IsSoundArchive db → HasRoomFor (length commands) db.trees → AllByRecursion IsOrdinaryCommand commands
    → ¬ RowsRefuseACommand commands db
never_a_command commands db sound room all why =
    let are = why.commands_are in
    in_turn why.commands_before why.command why.commands_after db sound (subst (AllByRecursion IsOrdinaryCommand) (sym are) all)
    (subst (λ l. HasRoomFor (length l) db.trees) (sym are) room) why.database why.makes_rows why.is_refused

-- what they leave, and that it is the archive that the machine makes of them
pub run_leaves_room : (commands : List Command) (more n : ℕ) → n ≡ length commands + more → (db next : Database) → IsSoundArchive db → HasRoomFor n db.trees
    → AllByRecursion IsOrdinaryCommand commands → CommandsMakeRows commands db next → LeavesRoom more (run (archive_in_trees db.trees) commands).archive next
unfolding CommandsMakeRows run
run_leaves_room [] more n is db next sound room all same =
    let none : n ≡ more = omega (arith, is) in
    subst (LeavesRoom more (archive_in_trees db.trees)) (sym same) (record { sound = sound; room = subst (λ k. HasRoomFor k db.trees) none room; archive_is = refl })
run_leaves_room (c ∷ commands) more n is db next sound room all makes =
    let one : n ≡ suc (length commands + more) = omega (arith, is) in
    let left = leaves_room (length commands + more) c db makes.0 sound (subst (λ k. HasRoomFor k db.trees) one room) all.0 makes.1 in
    subst (λ archive. LeavesRoom more (run archive commands).archive next) left.archive_is
    (run_leaves_room commands more (length commands + more) refl makes.0 next left.sound left.room all.1 makes.2)

-- ---- the statements are those of which a refusal is told

pub same_statements : (command : Command) (db : Database) → IsWriteRefused command db ↔ IsAnyStatementRefused (statements_of command db) db
same_statements command db = both command
  where
    one : (st : Statement) → IsStatementRefused st db ↔ IsAnyStatementRefused (st ∷ []) db
    one st = (λ why. inl why, λ some. elim some [ inl why ↦ why | inr none ↦ absurd none.2 ])

    two : (first second : Statement) → (IsStatementRefused first db ⊎ ((mid : Database) × StatementExecutesTo first db mid × IsStatementRefused second mid))
        ↔ IsAnyStatementRefused (first ∷ second ∷ []) db
    two first second = (
      λ why. elim why [ inl one ↦ inl one | inr other ↦ inr (other.0, other.1, inl other.2) ],
      λ some. elim some [ inl one ↦ inl one | inr other ↦ inr (other.0, other.1, elim other.2 [ inl why ↦ why | inr none ↦ absurd none.2 ]) ],
    )

    both : (command : Command) → IsWriteRefused command db ↔ IsAnyStatementRefused (statements_of command db) db
    both (list_add name) = two (insert_list_statement name) (insert_option_statement (default_list_option name))
    both (person_add name token) = one _
    both (grant person list rank from_day until_day) = one _
    both (revoke person list rank) = one _
    both (add list item) = one _
    both (withdraw list key party) = one _
    both (restore list key) = one _
    both (embargo list key until_day) = one _
    both (lift list key) = one _
    both (merge_set list merge) = one _
    both (address_set person address) = one _
