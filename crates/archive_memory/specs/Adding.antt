-- Messages added to one list, one after the other.
use Rattle.std.specs.Prelude.{◌≡◌, ◌+◌, ◌≤◌, ⊤, ℕ, List, [], ◌∷◌, ◌++◌, length, take, Result, MatchResult, MatchOption}
use Rattle.mbox_items.specs.Division.{Item}
use Rattle.archive_model.specs.Commands.{add, list_full, refused, CommandReply, Refusal}
use Rattle.archive_model.specs.Machine.{step}
use Rattle.archive_model.specs.Questions.{messages_in}
use Rattle.archive_model.specs.Records.{Archive}
use Rattle.archive_model.specs.Runs.{taken, tally_replies}
use Rattle.archive_port.specs.Adding.{IsRefusedAt, reported_count, tally_of_report}
use Rattle.archive_port.specs.Replies.{refusal_of_fault}
use Rattle.archive_port.specs.declared.faults.StoreFault.{StoreFault}
use Rattle.archive_port.specs.declared.reports.AddError.{AddError}
use Rattle.archive_port.specs.declared.reports.AddReport.{AddReport}

-- The list holds 50,000 messages, and the machine refuses the message for that.
pub record IsRefusedFull (a : Archive) (list : List ℕ) (item : Item) (why : Refusal) : Type 0 where
  pub why_is : why ≡ list_full
  pub list_is_full : 50000 ≤ length (messages_in a list)
  pub reply_is : (step a (add list item)).1 ≡ refused list_full

-- One message is reported as the machine answers.
pub record ReportsOne (told : AddReport) (reply : CommandReply) (report : AddReport) : Type 0 where
  pub one_more : reported_count report ≡ reported_count told + 1
  pub counts_reply : (replies : List CommandReply) → tally_of_report told ≡ tally_replies replies → tally_of_report report ≡ tally_replies (replies ++ reply ∷ [])

-- One message: the archive and the report are what the machine makes and answers, or a refusal and the archive as it was.
abbrev pub AddsOne : Archive → Archive → List ℕ → Item → AddReport → Result AddReport StoreFault → Type 0
AddsOne a b list item told result = MatchResult result
    (λ report. (b ≡ (step a (add list item)).0) × ReportsOne told (step a (add list item)).1 report)
    (λ fault. (b ≡ a) × MatchOption (refusal_of_fault fault) ⊤ (λ why. IsRefusedFull a list item why))

-- All messages, and the report counts the machine's replies; or the first of them, and why no more were added.
abbrev pub AddsItems : Archive → Archive → List ℕ → List Item → Result AddReport AddError → Type 0
AddsItems a b list items result = MatchResult result
    (λ report. (b ≡ (taken a list items).archive) × (tally_of_report report ≡ tally_replies (taken a list items).replies))
    (λ stop. (b ≡ (taken a list (take stop.done items)).archive) × MatchOption (refusal_of_fault stop.fault) ⊤ (λ why. IsRefusedAt a list items stop.done why))
