-- What was read, and is read again.
use Rattle.std.proofs.Common.{◌≡◌, inl, inr, sym, subst, ◌∙◌, ap, append-nil, ℕ, List, [], ◌++◌}
use Rattle.mbox_core.specs.Division.{Item, DividesIntoItems}
use Rattle.mbox_core.proofs.DivisionLaws.{each_text_has_at_most_one_division}
use Rattle.mbox_stream.specs.Stream.{IsBeginning}
use Rattle.mbox_stream.proofs.StreamLaws.{settled_divide}
use Rattle.archive_model.specs.Records.{Archive}
use Rattle.archive_port.specs.Adding.{HasAddedAtLeast}
use Rattle.archive_desk.specs.Importing.{IsImported}
use Rattle.archive_desk.specs.declared.importing.Report.{Report}
use Rattle.archive_desk.proofs.RepeatLemmas.{again_imported}
use Rattle.archive_import.specs.Streaming.{AreItemsOfReadText, HasAddedReadAtLeast}
use Rattle.archive_import.proofs.CrashLemmas.{at_least_longer}

-- what was read is a beginning of the whole
begins_all : (text more : List ℕ) (ends : ℕ) (items all : List Item) → (ends ≡ 1 → more ≡ []) → DividesIntoItems (text ++ more) all → AreItemsOfReadText text ends items → IsBeginning items all
begins_all text more ends items all last divided (inl are) = subst (λ is. IsBeginning is all) (sym are) (settled_divide text more all divided)
begins_all text more ends items all last divided (inr ended) =
    let whole : text ++ more ≡ text = ap (λ x. text ++ x) (last ended.0) ∙ append-nil text in
    ([], each_text_has_at_most_one_division text all items (subst (λ t. DividesIntoItems t all) whole divided) ended.1 ∙ sym (append-nil items))

pub again_read : (list text more : List ℕ) (ends done : ℕ) (a b c d : Archive) (report whole : Report) → (ends ≡ 1 → more ≡ []) → HasAddedReadAtLeast list text ends done a b
    → IsImported list (text ++ more) b c report → IsImported list (text ++ more) a d whole → c ≡ d
again_read list text more ends done a b c d report whole last left again once =
    let begins = begins_all text more ends left.0 once.items last once.divides_into_items left.1 in
    again_imported list (text ++ more) done a b c d report whole
    (inr (once.items, once.divides_into_items, subst (λ is. HasAddedAtLeast list is done a b) (sym begins.1) (at_least_longer list left.0 begins.0 done a b left.2))) again once
