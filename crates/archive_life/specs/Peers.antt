-- What a peer was sent from whom a message is hidden.
use Rattle.std.specs.Prelude.{ℕ, ℤ, List, ◌++◌}
use Rattle.httparse.specs.Grammar.{RequestHead}
use Rattle.policy_core.specs.Rules.{Rule}
use Rattle.policy_core.specs.declared.access.Withdrawn.{Withdrawn}
use Rattle.archive_model.specs.Records.{Archive}
use Rattle.archive_results.specs.Access.{Ask, ReaderFacts}
use Rattle.archive_results.specs.Promise.{DeniesWithdrawnBy, without_message}
use Rattle.archive_requests.specs.Heads.{BeginsWithHead}
use Rattle.archive_pages.specs.Laws.{AsksForNoMessage, IsAskedByOthers, IsHiddenInReplies}
use Rattle.archive_listen.specs.Connections.{ConnectionResult, Exchange}
use Rattle.archive_serve.specs.Runs.{ExchangeIsAnswered}

-- The peer who sent these bytes asks in their head, whatever would follow them, for no message by its key. The reader did not write this
-- message, and the policy denies it to the reader.
abbrev pub IsSentByOthers : (Ask → ReaderFacts → Type 0) → Archive → List Rule → (day : ℤ) → (read list key : List ℕ) → Type 0
IsSentByOthers Denies archive rules day read list key = (more : List ℕ) (head : RequestHead) → BeginsWithHead (read ++ more) head
    → AsksForNoMessage head × IsAskedByOthers Denies archive rules day head list key

-- If a withdrawn message is hidden in the replies of an archive, what went over the connection of such a peer is an answer out of the
-- archive in which the message never came.
abbrev pub HiddenMessageReachesNoPeer : Type 0
HiddenMessageReachesNoPeer = (by : Withdrawn) (archive : Archive) (list key : List ℕ) (rules : List Rule) (day : ℤ) (outcome : ConnectionResult) (over : Exchange)
    → IsHiddenInReplies (DeniesWithdrawnBy by) archive list key → ExchangeIsAnswered archive rules day outcome over
    → IsSentByOthers (DeniesWithdrawnBy by) archive rules day over.read list key
    → ExchangeIsAnswered (without_message archive list key) rules day outcome over
