use Rattle.std.proofs.Common.{◌∙◌}
use Rattle.archive_store.proofs.ReopenLemmas.{kept_again}
use Rattle.archive_store.proofs.laws.a_file_opened_again_holds_the_same_archive.Goals as goal

pub returns : goal.returns
returns g c = λ old new files archive holds live closed found opened.
    let again = kept_again old new files holds.0 live closed found opened in
    (again.0, again.1 ∙ holds.1, holds.2)
