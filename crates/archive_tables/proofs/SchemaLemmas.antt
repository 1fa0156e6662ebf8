-- The statements of the schema, each over the schema before it: what it is compiled to, and what it makes of tables without rows.
use Rattle.std.proofs.Common.{◌≡◌, List, [], ◌∷◌, Ok, Err, Result, Option, None, false, refl, sym, ap, subst, subst₂, ◌∙◌}
use Rattle.std.specs.Str.{is_utf8, chars}
use Rattle.sqlite.specs.declared.error.Error.{Error}
use Rattle.sqlite.specs.declared.types.Value.TheVariants.{Null}
use Rattle.sqlite.specs.Change.{created}
use Rattle.sqlite.specs.Command.TheVariants.{CreateTable, CreateIndex, Insert}
use Rattle.sqlite.specs.Does.{Tally, Does, lacks_sequence}
use Rattle.sqlite.specs.Effect.{Database}
use Rattle.sqlite.specs.Listing.{understood}
use Rattle.sqlite.specs.Schema.{Schema}
use Rattle.sqlite.specs.Source.TheVariants.{Values}
use Rattle.sqlite.specs.State.{text_of}
use Rattle.sqlite.specs.Table.{Table}
use Rattle.sqlite.specs.Term.{Term, lit, col}
use Rattle.sqlite.specs.Tree.{Trees}
use Rattle.sqlite.proofs.Callers.{IsPlain, command_of, statement_of}
use Rattle.sqlite_resolve.specs.declared.compiled.Compiled.{Compiled}
use Rattle.sqlite_resolve.specs.declared.error.CompileError.{CompileError}
use Rattle.sqlite_resolve.specs.Compile.{first}
use Rattle.sqlite_schema.specs.declared.command.Command.{Command}
use Rattle.sqlite_tied.specs.Compute.{everything}
use Rattle.sqlite_trees.specs.Sound as sound
use Rattle.sqlite_value.specs.Order.{value_cmp}
use Rattle.archive_tables.specs.Schema.{empty_schema, schema_with_version_table, schema_with_lists, schema_with_persons, schema_with_grants, schema_with_messages, schema_with_month_index}
use Rattle.archive_tables.specs.Schema.{schema_1, schema_2, archive_schema, version_table, list_table, person_table, grant_table, message_table, sequence_table, option_table, address_table}
use Rattle.archive_tables.specs.Schema.{create_option_table, create_address_table, month_index, author_index}
use Rattle.archive_tables.specs.Statements.{Statement, StatementMayEndIn, create_version_statement, create_list_statement, create_person_statement, create_grant_statement}
use Rattle.archive_tables.specs.Statements.{create_message_statement, create_month_index_statement, create_author_index_statement, create_option_statement, create_address_statement}
use Rattle.archive_tables.specs.Statements.{insert_version_statement}
use Rattle.archive_tables.proofs.LastLemmas.{IsOurText}
use Rattle.archive_tables.proofs.RefusalLemmas.{KnowsIn}
use Rattle.archive_tables.proofs.CrashLemmas.{EndsNothing}
use Rattle.archive_tables.proofs.CreateLemmas.{over, at_once, CanCreate, Extends, table_alone, table_counted, index_extends}

-- ---- a statement over a schema that is known

-- it is compiled to this command, and ends no transaction
pub record IsStep (s : Schema) (st : Statement) (k : Command) : Type 0 where
  pub is : command_of (understood s st.sql) ≡ k
  pub whole : statement_of st.sql (understood s st.sql) ≡ st.sql
  pub knows : KnowsIn s st
  pub ours : IsOurText (first st.sql)
  pub goes_on : EndsNothing k

compiled_of : (r : Result Compiled CompileError) → IsPlain r → (c : Compiled) × (r ≡ Ok c)
compiled_of (Ok c) plain = (c, refl)
compiled_of (Err e) plain = absurd plain

-- how it may end is how its command may
pub may_end : {s : Schema} {st : Statement} {k : Command} → IsStep s st k → (trees : Trees) (out : Result (Tally × Database) (Option Error)) → StatementMayEndIn st (over s trees) out
    → Does None at_once st.parameters (over s trees) st.sql None k out
may_end {s} {st} {k} step trees out h =
    let it = compiled_of (understood s st.sql) step.knows.plain in
    let none : it.0.returning ≡ None = (subst IsPlain it.1 step.knows.plain).0 in
    let whole : text_of st.sql it.0 ≡ st.sql = sym (ap (statement_of st.sql) it.1) ∙ step.whole in
    let is : it.0.command ≡ k = sym (ap command_of it.1) ∙ step.is in
    subst₂ (λ text command. Does None at_once st.parameters (over s trees) text None command out) whole is
    (subst (λ how. Does None at_once st.parameters (over s trees) (text_of st.sql it.0) how it.0.command out) none (rw it.1 at h))

-- ---- the statements that make the tables, in their order

-- as a text defines it, a table has no place yet
abbrev pub unplaced : Table → Table
unplaced t = record t { tree = 0 }

pub version_step : IsStep empty_schema create_version_statement CreateTable
unfolding understood first everything
version_step = record { is = refl; whole = refl; knows = record { fits = (refl, refl); plain = (refl, refl); writes = tt }; ours = tt; goes_on = tt }

pub version_extends : Extends CreateTable create_version_statement empty_schema schema_with_version_table
unfolding everything is_utf8 chars lib.Utf8.encode sound.fits_kind sound.begins sound.same_name sound.is_free_name value_cmp lib.Ieee.is_nan lib.Ieee.lt
version_extends = table_alone (unplaced version_table) (refl, refl) (assumption refl)

pub list_step : IsStep schema_with_version_table create_list_statement CreateTable
unfolding understood first everything
list_step = record { is = refl; whole = refl; knows = record { fits = (refl, refl); plain = (refl, refl); writes = tt }; ours = tt; goes_on = tt }

pub list_extends : Extends CreateTable create_list_statement schema_with_version_table schema_with_lists
unfolding everything is_utf8 chars lib.Utf8.encode sound.fits_kind sound.begins sound.same_name sound.is_free_name value_cmp lib.Ieee.is_nan lib.Ieee.lt
list_extends = table_alone (unplaced list_table) (refl, refl) (assumption refl)

pub person_step : IsStep schema_with_lists create_person_statement CreateTable
unfolding understood first everything
person_step = record { is = refl; whole = refl; knows = record { fits = (refl, refl); plain = (refl, refl); writes = tt }; ours = tt; goes_on = tt }

pub person_extends : Extends CreateTable create_person_statement schema_with_lists schema_with_persons
unfolding everything is_utf8 chars lib.Utf8.encode sound.fits_kind sound.begins sound.same_name sound.is_free_name value_cmp lib.Ieee.is_nan lib.Ieee.lt
person_extends = table_alone (unplaced person_table) (refl, refl) (assumption refl)

pub grant_step : IsStep schema_with_persons create_grant_statement CreateTable
unfolding understood first everything
grant_step = record { is = refl; whole = refl; knows = record { fits = (refl, refl); plain = (refl, refl); writes = tt }; ours = tt; goes_on = tt }

pub grant_extends : Extends CreateTable create_grant_statement schema_with_persons schema_with_grants
unfolding everything is_utf8 chars lib.Utf8.encode sound.fits_kind sound.begins sound.same_name sound.is_free_name value_cmp lib.Ieee.is_nan lib.Ieee.lt
grant_extends = table_alone (unplaced grant_table) (refl, refl) (assumption refl)

pub message_step : IsStep schema_with_grants create_message_statement CreateTable
unfolding understood first everything
message_step = record { is = refl; whole = refl; knows = record { fits = (refl, refl); plain = (refl, refl); writes = tt }; ours = tt; goes_on = tt }

-- the first table with AUTOINCREMENT brings the table of the counts along
pub message_extends : Extends CreateTable create_message_statement schema_with_grants schema_with_messages
unfolding everything is_utf8 chars lib.Utf8.encode sound.fits_kind sound.begins sound.same_name sound.is_free_name value_cmp lib.Ieee.is_nan lib.Ieee.lt
message_extends = table_counted (unplaced message_table) (unplaced sequence_table) (refl, refl) (assumption refl) (assumption refl)

pub month_index_step : IsStep schema_with_messages create_month_index_statement (CreateIndex 4)
unfolding understood first everything
month_index_step = record { is = refl; whole = refl; knows = record { fits = (refl, refl); plain = (refl, refl); writes = tt }; ours = tt; goes_on = tt }

pub month_index_extends : Extends (CreateIndex 4) create_month_index_statement schema_with_messages schema_with_month_index
unfolding everything is_utf8 chars lib.Utf8.encode sound.fits_kind sound.begins sound.same_name sound.is_free_name value_cmp lib.Ieee.is_nan lib.Ieee.lt
month_index_extends = index_extends message_table month_index refl refl (assumption refl)

pub author_index_step : IsStep schema_with_month_index create_author_index_statement (CreateIndex 4)
unfolding understood first everything
author_index_step = record { is = refl; whole = refl; knows = record { fits = (refl, refl); plain = (refl, refl); writes = tt }; ours = tt; goes_on = tt }

pub author_index_extends : Extends (CreateIndex 4) create_author_index_statement schema_with_month_index schema_1
unfolding everything is_utf8 chars lib.Utf8.encode sound.fits_kind sound.begins sound.same_name sound.is_free_name value_cmp lib.Ieee.is_nan lib.Ieee.lt
author_index_extends = index_extends message_table author_index refl refl (assumption refl)

pub option_step : IsStep schema_1 create_option_statement CreateTable
unfolding understood first everything
option_step = record { is = refl; whole = refl; knows = record { fits = (refl, refl); plain = (refl, refl); writes = tt }; ours = tt; goes_on = tt }

pub can_option : CanCreate schema_1 create_option_table (unplaced option_table)
unfolding everything is_utf8 chars lib.Utf8.encode sound.fits_kind sound.begins sound.same_name sound.is_free_name value_cmp lib.Ieee.is_nan lib.Ieee.lt
can_option = assumption refl

pub option_alone : (lacks_sequence (created schema_1 (unplaced option_table)) ≡ false) × (created schema_1 (unplaced option_table) ≡ schema_2)
unfolding everything
option_alone = (refl, refl)

pub option_extends : Extends CreateTable create_option_statement schema_1 schema_2
option_extends = table_alone (unplaced option_table) option_alone can_option

pub address_step : IsStep schema_2 create_address_statement CreateTable
unfolding understood first everything
address_step = record { is = refl; whole = refl; knows = record { fits = (refl, refl); plain = (refl, refl); writes = tt }; ours = tt; goes_on = tt }

pub can_address : CanCreate schema_2 create_address_table (unplaced address_table)
unfolding everything is_utf8 chars lib.Utf8.encode sound.fits_kind sound.begins sound.same_name sound.is_free_name value_cmp lib.Ieee.is_nan lib.Ieee.lt
can_address = assumption refl

pub address_alone : (lacks_sequence (created schema_2 (unplaced address_table)) ≡ false) × (created schema_2 (unplaced address_table) ≡ archive_schema)
unfolding everything
address_alone = (refl, refl)

pub address_extends : Extends CreateTable create_address_statement schema_2 archive_schema
address_extends = table_alone (unplaced address_table) address_alone can_address

abbrev pub version_cells : List Term
version_cells = lit Null ∷ col 0 0 ∷ []

pub number_step : IsStep archive_schema insert_version_statement (Insert 0 (Values version_cells 2))
unfolding understood first everything
number_step = record { is = refl; whole = refl; knows = record { fits = (refl, refl); plain = (refl, refl); writes = tt }; ours = tt; goes_on = tt }
