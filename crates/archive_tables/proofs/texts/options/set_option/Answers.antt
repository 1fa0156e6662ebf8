use Rattle.std.proofs.Common.{w64, ap, ◌∙◌}
use Rattle.std.specs.Int.{cast_signed, cast_unsigned}
use Rattle.sqlite.specs.declared.types.Value.TheVariants.{Int}
use Rattle.archive_tables.proofs.OptionLemmas.{changed, number_is}
use Rattle.archive_tables.proofs.WriteLemmas.{writes}
use Rattle.archive_tables.proofs.texts.options.set_option.Goals as goal

pub returns : goal.returns
returns g c =
    let number = c.params-to_sql-2.ensures ∙ ap Int (ap (λ n. cast_signed w64 (cast_unsigned w64 n)) c.merge_number-number.ensures ∙ number_is c.args.merge) in
    writes (changed (record { list = c.args.list.now; merge = c.args.merge })) c.execute.result c.execute.ensures.survives c.execute.ensures.runs
    (rw (c.params-to_sql.ensures, number))
