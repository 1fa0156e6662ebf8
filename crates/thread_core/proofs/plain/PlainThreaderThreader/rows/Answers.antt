use Rattle.std.proofs.Common.{◌≡◌, subst, List}
use Rattle.std.specs.Result.{IfOk}
use Rattle.thread_core.specs.declared.row.Row.{Row}
use Rattle.thread_core.proofs.TableLemmas.{rows_of_table}
use Rattle.thread_core.proofs.plain.PlainThreaderThreader.rows.Goals as goal

pub returns : goal.returns
returns g c = record {
  steps_two_to_six = subst (λ (rs : List Row). IfOk c.table_rows.result (λ rows. rows.items ≡ rs))
      (rows_of_table c.args.entries.now c.args.merge c.args.links.count c.args.links.links c.in_ok-parents.parents.items c.in_ok-parents.ensures.value c.in_ok-parents.ensures.each)
      c.table_rows.ensures;
}
