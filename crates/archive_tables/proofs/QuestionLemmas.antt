-- A question on one table: what is known of its text, what it shows, and what it leaves.
use Rattle.std.proofs.Common.{◌≡◌, ℕ, List, [], length, false, true, None, Option}
use Rattle.sqlite.specs.declared.error.Error.{Error}
use Rattle.sqlite.specs.Command.TheVariants.{Select}
use Rattle.sqlite.specs.Effect.{Database}
use Rattle.sqlite.specs.Listing.{understood, reads_listing}
use Rattle.sqlite.specs.Order.{Row}
use Rattle.sqlite.specs.Program.{overlay}
use Rattle.sqlite.specs.Schema.{Schema}
use Rattle.sqlite.specs.State.{State, Shown, FailsToQuery}
use Rattle.sqlite.specs.Term.{Term}
use Rattle.sqlite.specs.Tree.{Trees}
use Rattle.sqlite.proofs.Callers.{IsPlain, command_of}
use Rattle.sqlite_typing.specs.Types.{accepts_program}
use Rattle.sqlite_value.specs.declared.keys.Key.{Key}
use Rattle.archive_tables.specs.Schema.{archive_schema}
use Rattle.archive_tables.specs.Tables.{IsOpenArchive}
use Rattle.archive_tables.specs.Calls.{FaultKeepsRowsOrRollsBack, LeavesRowsUnchanged, IsMemoryOrDiskError}
use Rattle.archive_tables.proofs.SelectLemmas.{plain_query, Picks, asked, asked_stays, asked_rests, refused_rests}
use Rattle.archive_tables.proofs.CauseLemmas.{Fits, question_fails_by}

-- over this schema the text is this query, and takes these parameters
pub record IsQuestion (s : Schema) (sql : List ℕ) (t : ℕ) (terms shown : List Term) (order : List (Term × Key)) (names : List (List ℕ)) (params : Row) : Type 0 where
  pub is : command_of (understood s sql) ≡ Select (record { lets = []; body = plain_query t terms shown order }) names
  pub unlisted : reads_listing s sql ≡ false
  pub plain : IsPlain (understood s sql)
  pub fits : Fits sql (length params) (understood s sql)
  pub typed : accepts_program s [] (plain_query t terms shown order) params ≡ true
  pub low : (trees : Trees) → overlay trees [] t ≡ trees t

module _ {sql : List ℕ} {t : ℕ} {terms shown : List Term} {order : List (Term × Key)} {names : List (List ℕ)} {params : Row}
    (q : IsQuestion archive_schema sql t terms shown order names params) (old new : State) {behind : Option Database} (k : IsOpenArchive behind old) where
  pub answers : (rows : List Row) → Shown sql params old new rows → Picks (plain_query t terms shown order) params (old.now.trees t) rows × LeavesRowsUnchanged behind old new
  answers rows h = (
    asked sql t terms shown order names q.is q.plain q.unlisted q.low params old new k rows h,
    asked_stays sql t terms shown order names q.is q.plain q.unlisted q.low params old new k rows h,
  )

  pub answer_rests : (rows : List Row) → Shown sql params old new rows → FaultKeepsRowsOrRollsBack behind old new
  answer_rests = asked_rests sql t terms shown order names q.is q.plain q.unlisted q.low params old new k

  pub fault_rests : (e : Error) → FailsToQuery sql params old new e → FaultKeepsRowsOrRollsBack behind old new
  fault_rests = refused_rests sql t terms shown order names q.is q.plain q.unlisted q.low params old new k

  pub fault_caused : (e : Error) → FailsToQuery sql params old new e → old.step_limit ≡ None → IsMemoryOrDiskError old new e
  fault_caused e h free = question_fails_by sql t terms shown order names q.is q.plain q.unlisted params q.fits q.typed old new k free e h
