-- Connections one after the other, each with a whole reply other than 503: the store is ready for the next.
use Rattle.std.proofs.Common.{◌≡◌, ◌∙◌, inl, inr, ℕ, ℤ, List, [], ◌∷◌, Bool, Option, Result, Ok, Err, refl, sym, ap, subst}
use Rattle.std.specs.Prelude.{IsTrue, ◌≢◌, ◌++◌}
use Rattle.std.specs.List.{AllByRecursion}
use Rattle.httparse.specs.Grammar.{HasNoRequest}
use Rattle.archive_port.specs.declared.state.ArchiveState.{Ghosts}
use Rattle.policy_core.specs.Rules.{Rule}
use Rattle.archive_model.specs.Records.{Archive}
use Rattle.archive_port.specs.Told.{RelatesArchivesUnder, HoldsTables, archive_in}
use Rattle.archive_pages.specs.Answered.{IfAnsweredOrUnread}
use Rattle.archive_pages.specs.Serving.{StoreKeepsArchive}
use Rattle.archive_pages.specs.declared.faults.ServeFault.{ServeFault}
use Rattle.archive_pages.specs.declared.faults.ServeFault.TheVariants as answering
use Rattle.archive_listen.specs.Connections.{ConnectionTranscript, ConnectionResult, Exchange, ClientReceives}
use Rattle.archive_listen.specs.declared.faults.AcceptError.{AcceptError}
use Rattle.archive_listen.specs.declared.faults.ConnectionError.TheVariants.{Read, Write, Broken}
use Rattle.archive_listen.specs.Serving.{ServerState, ServesOneConnection, ServesEachConnection, server_state}
use Rattle.archive_serve.specs.Pages.{connection_result_of}
use Rattle.archive_serve.specs.Runs.{AnswersFromArchiveInRun, HasSoundStore, IsNeither503NorWriteError, WholeRepliesLeaveStoreOpen}

steady_answer : (answer outcome : ConnectionResult) (written : List ℕ) (failed : Type 0) (sent : List ℕ) → ClientReceives answer outcome written failed sent
    → IsNeither503NorWriteError outcome → IsNeither503NorWriteError answer
steady_answer (Ok status) (Ok told) written failed sent reached steady = subst (λ s. s ≢ 503) reached.0 steady
steady_answer (Ok status) (Err Read) written failed sent reached steady = absurd reached
steady_answer (Ok status) (Err Write) written failed sent reached steady = absurd steady
steady_answer (Ok status) (Err Broken) written failed sent reached steady = absurd steady
steady_answer (Err fault) (Ok told) written failed sent reached steady = absurd reached
steady_answer (Err fault) (Err told) written failed sent reached steady = subst (λ f. IsNeither503NorWriteError (Err f)) reached.0 steady

-- one answer, by what the call that answers says
pub goes_by : {S W : Type 0} (g : Ghosts S W) (old new : S) (before after : ConnectionTranscript) (result : Result ℕ ServeFault) (X : Type 0)
    → IsNeither503NorWriteError (connection_result_of result)
    → IfAnsweredOrUnread result X ((given : List ℕ) × (after.read ≡ before.read ++ given) × HasNoRequest given × (after.written ≡ before.written)
    × RelatesArchivesUnder g (HoldsTables g) old new (λ a b. b ≡ a)) → StoreKeepsArchive g old new result → RelatesArchivesUnder g (HoldsTables g) old new (λ a b. b ≡ a)
goes_by g old new before after (Ok status) X steady answered stays = stays.ready_unless_503 steady
goes_by g old new before after (Err answering.Read) X steady answered stays = answered.4
goes_by g old new before after (Err (answering.Write written)) X steady answered stays = absurd steady
goes_by g old new before after (Err (answering.Broken written)) X steady answered stays = absurd steady

module _ {S W L : Type 0} (g : Ghosts S W) (opens : (store : S) → g.is_at_rest store → IsTrue (g.is_open store)) (If : Type 0) (archive : Archive) (rules : List Rule) (day : ℤ)
    (accepts : L → L → Option AcceptError → Type 0)
    (closes : L → L → Exchange → Bool → Type 0) where
  one_ready : (before after : ServerState L S) (outcome : ConnectionResult) → ServesOneConnection (AnswersFromArchiveInRun g If archive rules day) accepts closes outcome before after
      → If → IsNeither503NorWriteError outcome → HoldsTables g before.state → (archive_in g before.state ≡ archive)
      → HoldsTables g after.state × (archive_in g after.state ≡ archive)
  one_ready before after outcome (inl takes) i steady held is =
      let a = takes.is_answered in
      let it = a.is_answered in
      let calm = steady_answer a.answer outcome a.transcript.written _ takes.sent a.client_receives steady in
      it.left i (it.stays_open i calm (opens before.state held))
  one_ready before after outcome (inr misses) i steady held is =
      (subst (λ s. HoldsTables g s) (sym misses.state_is_same) held, ap (λ s. archive_in g s) misses.state_is_same ∙ is)

  each_ready : (outcomes : List ConnectionResult) (before after : ServerState L S) → ServesEachConnection (AnswersFromArchiveInRun g If archive rules day) accepts closes outcomes before after
      → If → AllByRecursion IsNeither503NorWriteError outcomes → HoldsTables g before.state → (archive_in g before.state ≡ archive)
      → HoldsTables g after.state × (archive_in g after.state ≡ archive)
  each_ready [] before after same i steady held is = (
    subst (λ (s : ServerState L S). HoldsTables g s.state) (sym same) held,
    ap (λ (s : ServerState L S). archive_in g s.state) same ∙ is,
  )
  each_ready (outcome ∷ outcomes) before after (between, one, rest) i steady held is =
      let it = one_ready before between outcome one i steady.0 held is in
      each_ready outcomes between after rest i steady.1 it.0 it.1

pub leaves_ready : {S W L : Type 0} (g : Ghosts S W) (opens : (store : S) → g.is_at_rest store → IsTrue (g.is_open store)) (accepts : L → L → Option AcceptError → Type 0)
    (closes : L → L → Exchange → Bool → Type 0)
    → WholeRepliesLeaveStoreOpen g accepts closes
leaves_ready g opens accepts closes rules day outcomes listener later old new each can steady =
    each_ready g opens (HasSoundStore g old new) (archive_in g old) rules day accepts closes outcomes
    (server_state listener old) (server_state later new) each can steady can.1 refl
