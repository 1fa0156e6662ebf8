-- Worked examples of the words for tables.
use Rattle.std.proofs.Common.{◌≡◌, pos, [], ◌∷◌, map, codes, refl, true, false, Some}
use Rattle.std.specs.Prelude.{◌==◌, if◌then◌else◌}
use Rattle.sqlite.specs.declared.types.Value.TheVariants.{Null, Int, Text, Blob}
use Rattle.sqlite.specs.Order.{Row}
use Rattle.sqlite.specs.Table.{Table}
use Rattle.sqlite.specs.Tree.{Trees}
use Rattle.archive_model.specs.Records.{Message, Grant, IndexColumns}
use Rattle.archive_tables.specs.Schema.{archive_schema}
use Rattle.archive_model.specs.Questions.{is_message_at_key, is_grant_of_rank}
use Rattle.archive_model.specs.Machine.{default_list_option}
use Rattle.archive_tables.specs.Tables.{numbered_row, numbered_from_row, indexed_message_cells, indexed_message_from_row, grant_cells, grant_from_row, same_message_key, HaveDistinctKeys}
use Rattle.archive_tables.specs.Tables.{archive_in_trees, archive_of_version, option_cells, address_cells, version_rows, HasVersionRow}
use Rattle.archive_tables.specs.declared.texts.schema.TheConstants.{VERSION}
use Rattle.archive_tables.specs.Rows.{message_result_row, dated_marks_result_row, decoded_dated_marks, unmarked_message, version_result_rows}

abbrev hello : Message
hello = record {
  list = codes "soc";
  key = codes "5891";
  sender = codes "anna@example.org";
  arrival = pos 1046772000;
  text = codes "hello";
  withdrawn = pos 2;
  embargo = Some (pos 12131);
}

abbrev hello_row : Row
hello_row =
    Int (pos 7) ∷ Null ∷ Text (codes "soc") ∷ Text (codes "5891") ∷ Blob (codes "anna@example.org") ∷ Int (pos 1046772000) ∷ Blob (codes "hello") ∷ Int (pos 2)
    ∷ Int (pos 12131) ∷ Int (pos 1046772000) ∷ Int (pos 24038) ∷ Blob (codes "anna@example.org") ∷ []

-- ---- a row and its record

abbrev its_filing : IndexColumns
its_filing = record { sent = pos 1046772000; month = pos 24038; author = codes "anna@example.org" }

a_message_is_its_row : numbered_row indexed_message_cells (record { number = pos 7; content = (hello, its_filing) }) ≡ hello_row
a_message_is_its_row = refl

a_row_is_its_message : numbered_from_row indexed_message_from_row hello_row ≡ record { number = pos 7; content = (hello, its_filing) }
a_row_is_its_message = refl

no_embargo_is_null : message_result_row (unmarked_message (codes "soc") (codes "e3b0") (codes "-") (pos 0) [])
    ≡ Text (codes "e3b0") ∷ Blob (codes "-") ∷ Int (pos 0) ∷ Blob [] ∷ Int (pos 0) ∷ Null ∷ []
no_embargo_is_null = refl

its_marks : (dated_marks_result_row hello ≡ Int (pos 1046772000) ∷ Int (pos 2) ∷ Int (pos 12131) ∷ [])
    × (decoded_dated_marks hello ≡ record { arrival = pos 1046772000; withdrawn = pos 2; embargo = Some (pos 12131) })
its_marks = (refl, refl)

abbrev moderator : Grant
moderator = record { person = codes "anna"; list = codes "soc"; rank = pos 3; from_day = pos 12000; until_day = pos 12400 }

a_grant_is_read_back : grant_from_row (Int (pos 1) ∷ grant_cells moderator) ≡ moderator
a_grant_is_read_back = refl

-- ---- keys

the_key_of_a_list : (is_message_at_key (codes "soc") (codes "5891") hello ≡ true) × (is_message_at_key (codes "news") (codes "5891") hello ≡ false)
the_key_of_a_list = (refl, refl)

another_rank_is_another_grant : (is_grant_of_rank (codes "anna") (codes "soc") (pos 3) moderator ≡ true) × (is_grant_of_rank (codes "anna") (codes "soc") (pos 1) moderator ≡ false)
another_rank_is_another_grant = (refl, refl)

two_lists_may_have_one_key : HaveDistinctKeys same_message_key (hello ∷ record hello { list = codes "news" } ∷ [])
two_lists_may_have_one_key = (refl, (refl, tt))

-- ---- a database

abbrev two_lists : Trees
two_lists t =
    if t == 0 then version_rows VERSION
    else (if t == 1 then (Int (pos 1) ∷ Text (codes "soc") ∷ []) ∷ (Int (pos 2) ∷ Text (codes "news") ∷ []) ∷ [] else [])

its_archive : archive_in_trees two_lists ≡ record { lists = codes "soc" ∷ codes "news" ∷ []; persons = []; grants = []; messages = []; index_columns = []; options = []; addresses = [] }
its_archive = refl

its_version : HasVersionRow VERSION two_lists × (version_result_rows two_lists ≡ (Int (pos 3) ∷ []) ∷ [])
its_version = ((_, refl, refl), refl)

-- in the tables of version 1 each list is merged, and nobody has an address
in_version_1 : archive_of_version 1 two_lists ≡ record (archive_in_trees two_lists) { options = default_list_option (codes "soc") ∷ default_list_option (codes "news") ∷ [] }
in_version_1 = refl

eight_tables : map (λ (t : Table). t.name) archive_schema.tables
    ≡ codes "version" ∷ codes "list" ∷ codes "person" ∷ codes "grant_row" ∷ codes "message" ∷ codes "sqlite_sequence" ∷ codes "list_option" ∷ codes "address" ∷ []
eight_tables = refl

-- a file that is brought over has the trees of one that is new
their_trees : map (λ (t : Table). t.tree) archive_schema.tables ≡ 0 ∷ 1 ∷ 3 ∷ 6 ∷ 8 ∷ 10 ∷ 13 ∷ 15 ∷ []
their_trees = refl

an_option_is_its_row : numbered_row option_cells (record { number = pos 1; content = record { list = codes "soc"; merge = false } }) ≡ Int (pos 1) ∷ Text (codes "soc") ∷ Int (pos 0) ∷ []
an_option_is_its_row = refl

an_address_is_its_row : numbered_row address_cells (record { number = pos 1; content = record { person = codes "anna"; address = codes "anna@example.org" } })
    ≡ Int (pos 1) ∷ Text (codes "anna") ∷ Text (codes "anna@example.org") ∷ []
an_address_is_its_row = refl
