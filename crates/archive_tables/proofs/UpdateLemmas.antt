-- The statements that change a message.
use Rattle.std.proofs.Common.{◌≡◌, ℕ, ℤ, pos, List, [], ◌∷◌, map, codes, refl, sym, ap, ap₂, subst, ◌∙◌, false, true, Bool, None, Some, Option}
use Rattle.std.specs.Prelude.{⊤, ◌&&◌, ◌||◌, bytes_eq, if◌then◌else◌}
use Rattle.std.specs.List.{list_any}
use Rattle.std.proofs.Math.Path.{fun_ext}
use Rattle.std.proofs.lemmas.Bool.{and_parts}
use Rattle.sqlite.specs.declared.types.Value.TheVariants.{Null, Int, Text, Blob}
use Rattle.sqlite.specs.Order.{Row}
use Rattle.sqlite.specs.Term.{Term, lit, col}
use Rattle.sqlite.specs.Cast.{cast}
use Rattle.sqlite.specs.Kind.TheVariants.{Integer}
use Rattle.sqlite.specs.Query.{output}
use Rattle.sqlite.specs.Edit.{edit_of, edited}
use Rattle.sqlite.specs.Rowids.TheVariants.{Given}
use Rattle.sqlite.specs.Tree.{Trees, put_row, without_rowid}
use Rattle.sqlite.specs.Listing.{understood}
use Rattle.sqlite_resolve.specs.Compile.{first}
use Rattle.sqlite_tied.specs.Compute.{everything}
use Rattle.sqlite_rules.specs.Calls.{ids_of}
use Rattle.sqlite_trees.proofs.ListLemmas.{map-map}
use Rattle.archive_model.specs.Records.{Message}
use Rattle.archive_model.specs.Filing.{IndexedMessage}
use Rattle.archive_model.specs.Questions.{is_message_at_key}
use Rattle.archive_tables.specs.Schema.{message_table}
use Rattle.archive_tables.specs.Tables.{NumberedRecord, numbered_row, HaveDistinctKeys, indexed_message_cells, message_from_row, archive_in_trees}
use Rattle.archive_tables.specs.Tables.{index_columns_from_row, indexed_message_from_row, int_or_null_value, same_message_key}
use Rattle.archive_tables.specs.Statements.{Statement, set_withdrawn_statement, set_embargo_statement, clear_embargo_statement}
use Rattle.archive_tables.proofs.RunLemmas.{cast_null, cast_int}
use Rattle.archive_tables.proofs.TableLemmas.{messages_change}
use Rattle.archive_tables.proofs.ChangeLemmas.{apart_mapped}
use Rattle.archive_tables.proofs.SelectLemmas.{plain_query, env_of, equal_words}
use Rattle.archive_tables.proofs.MessageLemmas.{kept, messages_are, filings_are}
use Rattle.archive_tables.proofs.MailboxLemmas.{at_key, has_key}
use Rattle.archive_tables.proofs.WriteLemmas.{Write, UpdateText, updates, part_stays}

-- a message of this list and key is the same as those of this list and key
pub alike : (list key : List ℕ) (a b : Message) → is_message_at_key list key a ≡ true → same_message_key a b ≡ is_message_at_key list key b
alike list key a b found =
    let both = and_parts (bytes_eq a.list list) (bytes_eq a.key key) found in
    ap₂ ◌&&◌ (ap (bytes_eq b.list) (equal_words a.list list both.0)) (ap (bytes_eq b.key) (equal_words a.key key both.1))

-- ---- the same of what is filed of them

abbrev same_filed : IndexedMessage → IndexedMessage → Bool
same_filed f g = same_message_key f.0 g.0

none_alike : (m : Message) (rows : List Row) → list_any (λ (f : IndexedMessage). same_message_key m f.0) (map indexed_message_from_row rows) ≡ list_any (same_message_key m) (map message_from_row rows)
none_alike m [] = refl
none_alike m (row ∷ rows) = ap (λ b. same_message_key m (message_from_row row) || b) (none_alike m rows)

filed_apart : (rows : List Row) → HaveDistinctKeys same_message_key (map message_from_row rows) → HaveDistinctKeys same_filed (map indexed_message_from_row rows)
filed_apart [] apart = tt
filed_apart (row ∷ rows) apart = (none_alike (message_from_row row) rows ∙ apart.0, filed_apart rows apart.1)

-- a message is changed, and what is filed of it stays
module _ (p : Message → Bool) (set : Message → Message) where
  abbrev change_filed : IndexedMessage → IndexedMessage
  change_filed f = if p f.0 then (set f.0, f.1) else f

  of_message : (f : IndexedMessage) → (change_filed f).0 ≡ (if p f.0 then set f.0 else f.0)
  of_message f = elim (p f.0) as (λ b. (if b then (set f.0, f.1) else f).0 ≡ (if b then set f.0 else f.0)) [ true ↦ refl | false ↦ refl ]

  changed_filed : (new old : List Row) → map indexed_message_from_row new ≡ map change_filed (map indexed_message_from_row old)
      → (map message_from_row new ≡ map (λ (m : Message). if p m then set m else m) (map message_from_row old)) × (map index_columns_from_row new ≡ map index_columns_from_row old)
  changed_filed new old is =
      let all = map indexed_message_from_row old in (
        sym (messages_are new) ∙ ap (map (λ (f : IndexedMessage). f.0)) is ∙ map-map (λ (f : IndexedMessage). f.0) change_filed all ∙ ap (λ g. map g all) (fun_ext of_message)
            ∙ sym (map-map (λ (m : Message). if p m then set m else m) (λ (f : IndexedMessage). f.0) all) ∙ ap (map (λ (m : Message). if p m then set m else m)) (messages_are old),
        sym (filings_are new) ∙ ap (map (λ (f : IndexedMessage). f.1)) is ∙ map-map (λ (f : IndexedMessage). f.1) change_filed all
            ∙ ap (λ g. map g all) (fun_ext (part_stays (λ (f : IndexedMessage). f.1) (λ (f : IndexedMessage). p f.0) (λ (f : IndexedMessage). (set f.0, f.1)) (λ f. refl))) ∙ filings_are old,
      )

pub cast_or_null : (o : Option ℤ) → cast Integer (int_or_null_value o) ≡ int_or_null_value o
cast_or_null None = cast_null
cast_or_null (Some n) = cast_int n

-- ---- an UPDATE by list and key

module _ (list key : List ℕ) (more : Row) (sql : List ℕ) (shown : List Term) (text : UpdateText (record { sql = sql; parameters = Text list ∷ Text key ∷ more }) 4 message_table at_key shown)
    (set : Message → Message) (keeps_list : (m : Message) → (set m).list ≡ m.list) (keeps_key : (m : Message) → (set m).key ≡ m.key) where
  abbrev st : Statement
  st = record { sql = sql; parameters = Text list ∷ Text key ∷ more }

  abbrev change : Message → Message
  change m = if is_message_at_key list key m then set m else m

  keeps : (a b : Message) → same_message_key (change a) (change b) ≡ same_message_key a b
  keeps a b = ap₂ ◌&&◌ (ap₂ bytes_eq (same_list b) (same_list a)) (ap₂ bytes_eq (same_key b) (same_key a))
    where
      same_list : (m : Message) → (change m).list ≡ m.list
      same_list = part_stays (λ (m : Message). m.list) (is_message_at_key list key) set keeps_list

      same_key : (m : Message) → (change m).key ≡ m.key
      same_key = part_stays (λ (m : Message). m.key) (is_message_at_key list key) set keeps_key

  sets : (puts : (db : Trees) (r : NumberedRecord IndexedMessage) (given : List Row)
      → given ≡ (output (plain_query 8 at_key shown []) (env_of (Text list ∷ Text key ∷ more) (numbered_row indexed_message_cells r))).1 ∷ []
      → edited db (edit_of db message_table (ids_of given) Given 1 given) ≡ put_row (numbered_row indexed_message_cells (record r { content = (set r.content.0, r.content.1) }))
      (without_rowid r.number (db 8))) → Write st (λ _. ⊤) (λ a. record a { messages = map change a.messages })
  sets puts = updates kept same_filed (λ db k. filed_apart (db 8) k.messages_distinct) st at_key shown (λ (f : IndexedMessage). is_message_at_key list key f.0) (has_key list key more)
      (λ f g found. alike list key f.0 g.0 found) (λ (f : IndexedMessage). (set f.0, f.1)) text puts (λ db next rows k left holds are above.
      let both = changed_filed (is_message_at_key list key) set (next 8) (db 8) are in
      let apart = subst (HaveDistinctKeys same_message_key) (sym both.0) (apart_mapped same_message_key change keeps (map message_from_row (db 8)) k.messages_distinct) in
      let it = messages_change db next k left.same (next 8) refl holds apart (above (pos 0) k.rowids_are_positive) in
      (it.0, it.1 ∙ ap₂ (λ l n. record (archive_in_trees db) { messages = l; index_columns = n }) both.0 both.1))

-- the row of a message with these marks
puts_marks : (db : Trees) (r : NumberedRecord IndexedMessage) (by : ℤ) (until : Option ℤ) (given : List Row)
    → given ≡ (Int r.number ∷ Int r.number ∷ Null ∷ Text r.content.0.list ∷ Text r.content.0.key ∷ Blob r.content.0.sender ∷ Int r.content.0.arrival ∷ Blob r.content.0.text ∷ Int by
    ∷ int_or_null_value until ∷ Int r.content.1.sent ∷ Int r.content.1.month ∷ Blob r.content.1.author ∷ []) ∷ []
    → edited db (edit_of db message_table (ids_of given) Given 1 given)
    ≡ put_row (numbered_row indexed_message_cells (record r { content = (record r.content.0 { withdrawn = by; embargo = until }, r.content.1) })) (without_rowid r.number (db 8))
puts_marks db r by until given from = rw (
  from,
  cast_null,
  cast_int r.number,
  cast_int r.content.0.arrival,
  cast_int by,
  cast_or_null until,
  cast_int r.content.1.sent,
  cast_int r.content.1.month,
)

-- ---- the three texts

abbrev pub withdrawn_text : List ℕ
withdrawn_text = codes "UPDATE message SET withdrawn = ?3 WHERE list = ?1 AND key = ?2"

-- the number of the row, and then the new row
abbrev withdrawn_cells : List Term
withdrawn_cells = col 1 0 ∷ col 1 0 ∷ lit Null ∷ col 1 2 ∷ col 1 3 ∷ col 1 4 ∷ col 1 5 ∷ col 1 6 ∷ col 0 2 ∷ col 1 8 ∷ col 1 9 ∷ col 1 10 ∷ col 1 11 ∷ []

withdrawn_is : (list key : List ℕ) (by : ℤ) → UpdateText (set_withdrawn_statement list key by) 4 message_table at_key withdrawn_cells
unfolding understood first everything
withdrawn_is list key by =
    record { is = refl; knows = record { fits = (refl, refl); plain = (refl, refl); writes = tt }; ours = tt; runs = λ old new words count h. h; does = λ limit db words out h. h }

pub withdraws : (list key : List ℕ) (by : ℤ)
    → Write (set_withdrawn_statement list key by) (λ _. ⊤) (λ a. record a { messages = map (λ m. if is_message_at_key list key m then record m { withdrawn = by } else m) a.messages })
withdraws list key by = sets list key (Int by ∷ []) withdrawn_text withdrawn_cells (withdrawn_is list key by) (λ m. record m { withdrawn = by }) (λ m. refl) (λ m. refl)
    (λ db r given from. puts_marks db r by r.content.0.embargo given from)

abbrev pub embargo_text : List ℕ
embargo_text = codes "UPDATE message SET embargo = ?3 WHERE list = ?1 AND key = ?2"

abbrev embargo_cells : List Term
embargo_cells = col 1 0 ∷ col 1 0 ∷ lit Null ∷ col 1 2 ∷ col 1 3 ∷ col 1 4 ∷ col 1 5 ∷ col 1 6 ∷ col 1 7 ∷ col 0 2 ∷ col 1 9 ∷ col 1 10 ∷ col 1 11 ∷ []

embargo_is : (list key : List ℕ) (until : ℤ) → UpdateText (set_embargo_statement list key until) 4 message_table at_key embargo_cells
unfolding understood first everything
embargo_is list key until =
    record { is = refl; knows = record { fits = (refl, refl); plain = (refl, refl); writes = tt }; ours = tt; runs = λ old new words count h. h; does = λ limit db words out h. h }

pub holds_back : (list key : List ℕ) (until : ℤ)
    → Write (set_embargo_statement list key until) (λ _. ⊤) (λ a. record a { messages = map (λ m. if is_message_at_key list key m then record m { embargo = Some until } else m) a.messages })
holds_back list key until = sets list key (Int until ∷ []) embargo_text embargo_cells (embargo_is list key until) (λ m. record m { embargo = Some until }) (λ m. refl) (λ m. refl)
    (λ db r given from. puts_marks db r r.content.0.withdrawn (Some until) given from)

abbrev pub clear_text : List ℕ
clear_text = codes "UPDATE message SET embargo = NULL WHERE list = ?1 AND key = ?2"

abbrev clear_cells : List Term
clear_cells = col 1 0 ∷ col 1 0 ∷ lit Null ∷ col 1 2 ∷ col 1 3 ∷ col 1 4 ∷ col 1 5 ∷ col 1 6 ∷ col 1 7 ∷ lit Null ∷ col 1 9 ∷ col 1 10 ∷ col 1 11 ∷ []

clear_is : (list key : List ℕ) → UpdateText (clear_embargo_statement list key) 4 message_table at_key clear_cells
unfolding understood first everything
clear_is list key =
    record { is = refl; knows = record { fits = (refl, refl); plain = (refl, refl); writes = tt }; ours = tt; runs = λ old new words count h. h; does = λ limit db words out h. h }

pub clears : (list key : List ℕ)
    → Write (clear_embargo_statement list key) (λ _. ⊤) (λ a. record a { messages = map (λ m. if is_message_at_key list key m then record m { embargo = None } else m) a.messages })
clears list key = sets list key [] clear_text clear_cells (clear_is list key) (λ m. record m { embargo = None }) (λ m. refl) (λ m. refl)
    (λ db r given from. puts_marks db r r.content.0.withdrawn None given from)
