use Rattle.std.proofs.Common.{◌≡◌, List, ℕ, [], ◌∷◌, Ok, Err, Result, IfErr}
use Rattle.sqlite.specs.declared.error.Error.{Error}
use Rattle.sqlite.specs.declared.types.Value.TheVariants.{Text}
use Rattle.sqlite.specs.Order.{Row}
use Rattle.archive_tables.specs.Rows.{name_result_row, IsTextReadError}
use Rattle.archive_tables.proofs.ReadLemmas.{first_fails}
use Rattle.archive_tables.proofs.rows.read_name.Goals as goal

of_name : {A : Type 0} (row : Row) (r : Result A Error) → IfErr r (λ e. (t : List ℕ) (rest : Row) → row ≡ Text t ∷ rest → IsTextReadError t e)
    → IfErr r (λ e. (n : List ℕ) → row ≡ name_result_row n → IsTextReadError n e)
of_name row (Ok a) fails = tt
of_name row (Err e) fails = λ n is. fails n [] is

pub returns-clause-fault : goal.returns-clause-fault
returns-clause-fault c = of_name c.args.row.now c.get.result (first_fails c.args.row.now c.get.result c.get.ensures.named c.get.ensures.kind c.get.ensures.which)
