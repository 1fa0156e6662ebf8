use Rattle.std.proofs.Common.{ℤ, [], ◌∷◌, ap, ◌∙◌, rules, w64}
use Rattle.std.proofs.lemmas.Int.{to_z-of_z}
use Rattle.std.specs.Prelude.{option_map}
use Rattle.sqlite.specs.declared.types.Value.TheVariants.{Int}
use Rattle.sqlite_resolve.specs.Compile.{first}
use Rattle.sqlite_tied.specs.Compute.{everything}
use Rattle.archive_model.specs.Records.{Message}
use Rattle.archive_model.specs.Filing.{IndexedMessage}
use Rattle.archive_tables.specs.Tables.{NumberedRecord}
use Rattle.archive_tables.specs.Rows.{message_result_row, numbered_indexed_messages}
use Rattle.archive_tables.proofs.WalkLemmas.{at_text, at_found, none_at, none_at_caused, is_at}
use Rattle.archive_tables.proofs.CauseLemmas.{text_unread}
use Rattle.archive_tables.proofs.AskLemmas.{Question, ShowsWanted, fails, finds, finds_none, finds_unread}
use Rattle.archive_tables.proofs.texts.messages.message_at.Goals as goal

asked : (place : ℤ) → Question at_text (Int place ∷ []) (ShowsWanted (λ (r : NumberedRecord IndexedMessage). message_result_row r.content.0) (is_at place) numbered_indexed_messages)
unfolding first everything
asked place = record {
  asks = tt;
  tells = λ behind old new k rows h. let it = at_found old new k place rows h in (record { are = it.0 }, it.1);
  rests = λ behind old new k e h. none_at old new k place e h;
  caused = λ behind old new k e h free. none_at_caused old new k place e h free;
}

pub returns-in_err-rows : goal.returns-in_err-rows
returns-in_err-rows g c =
    let number = c.params-to_sql.ensures ∙ ap Int (to_z-of_z w64 c.args.place c.ranges.place) in
    fails (asked c.args.place) c.query_all.result c.query_all.ensures.survives c.query_all.ensures.ok c.query_all.ensures.err (rw number)
    c.in_err-rows.field-0.0 c.from_residual.ensures.1 c.in_err-rows.ensures.err

pub returns-in_err-read_message-in-Some : goal.returns-in_err-read_message-in-Some
returns-in_err-read_message-in-Some g c =
    let it = c.in_err-read_message-in-Some in
    let number = c.params-to_sql.ensures ∙ ap Int (to_z-of_z w64 c.args.place c.ranges.place) in
    finds_unread (asked c.args.place) c.query_all.result c.query_all.ensures.survives c.query_all.ensures.ok c.query_all.ensures.err (rw number)
    c.in_ok-rows.rows.items c.in_ok-rows.ensures.ok c.in-Some.row.now (search rules) it.field-0.0 c.from_residual-in_err-read_message-in-Some.ensures.1
    (λ r is shown. text_unread (λ (m : Message). m.key) _ r.content.0 it.field-0.0 (ap (option_map (λ (r : NumberedRecord IndexedMessage). r.content.0)) is) (it.ensures.fault r.content.0 shown))

pub returns-in-Some : goal.returns-in-Some
returns-in-Some g c =
    let number = c.params-to_sql.ensures ∙ ap Int (to_z-of_z w64 c.args.place c.ranges.place) in
    finds (asked c.args.place) c.query_all.result c.query_all.ensures.survives c.query_all.ensures.ok c.query_all.ensures.err (rw number)
    c.in_ok-rows.rows.items c.in_ok-rows.ensures.ok c.in-Some.row.now (search rules)
    (λ r is shown. (r.content.0, ap (option_map (λ (r : NumberedRecord IndexedMessage). r.content.0)) is, c.in_ok-read_message-in-Some.ensures.read r.content.0 shown))

pub returns : goal.returns
returns g c =
    let number = c.params-to_sql.ensures ∙ ap Int (to_z-of_z w64 c.args.place c.ranges.place) in
    finds_none (asked c.args.place) c.query_all.result c.query_all.ensures.survives c.query_all.ensures.ok c.query_all.ensures.err (rw number)
    c.in_ok-rows.rows.items c.in_ok-rows.ensures.ok (search rules) (λ none. ap (option_map (λ (r : NumberedRecord IndexedMessage). r.content.0)) none)
