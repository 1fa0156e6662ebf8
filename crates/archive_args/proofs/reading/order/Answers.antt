use Rattle.std.proofs.Common.{◌∙◌, ap, ap₂, refl, sym, inl, inr}
use Rattle.std.proofs.lemmas.Bool.{false_from_ne_true}
use Rattle.clap.specs.Words.{fault_of, is_simple, is_simple_and_free, subcommand_of, takes}
use Rattle.archive_usage.proofs.UsageLaws.{simple, free}
use Rattle.archive_args.specs.Orders.{order_of}
use Rattle.archive_args.specs.declared.orders.OrderStop.TheVariants.{Words}
use Rattle.archive_args.proofs.OrderLemmas.{same_kinds, stop_of_bad, stop_of_fault}
use Rattle.archive_args.proofs.reading.order.Goals as goal

pub returns-in-Err-clause-refused : goal.returns-in-Err-clause-refused
returns-in-Err-clause-refused c =
    elim c.stop_of.ensures.memory [
      | inl no_memory ↦ inl no_memory
      | inr other ↦ inr (inl (false_from_ne_true _ (λ t. other (c.in-Err.ensures.passes (ap₂ takes c.in-Ok.ensures.app_is refl ∙ t)))))
    ]

pub returns-in-Err-clause-stopped : goal.returns-in-Err-clause-stopped
returns-in-Err-clause-stopped c =
    let has = c.in-Err.ensures.kinds (ap is_simple_and_free c.in-Ok.ensures.app_is ∙ free) in
    stop_of_fault _ c.in-Err.error _ (same_kinds _ _ c.in-Err.error (ap₂ fault_of c.in-Ok.ensures.app_is refl) has) c.stop_of.ensures.kind

pub returns-in-Ok-read_order-clause-ok : goal.returns-in-Ok-read_order-clause-ok
returns-in-Ok-read_order-clause-ok c =
    let m = c.in-Ok-try_get_matches_from_mut.ensures.ok.2 (ap is_simple c.in-Ok.ensures.app_is ∙ simple) in
    ap order_of (sym (m.1 ∙ ap₂ subcommand_of c.in-Ok.ensures.app_is refl)) ∙ c.in-Ok-read_order.ensures

pub returns-clause-refused : goal.returns-clause-refused
returns-clause-refused c =
    let m = c.in-Ok-try_get_matches_from_mut.ensures.ok.2 (ap is_simple c.in-Ok.ensures.app_is ∙ simple) in
    inr (inr (ap order_of (sym (m.1 ∙ ap₂ subcommand_of c.in-Ok.ensures.app_is refl)) ∙ c.in-Err-read_order.ensures))

pub returns-in-Ok-read_order-clause-taken : goal.returns-in-Ok-read_order-clause-taken
returns-in-Ok-read_order-clause-taken c =
    sym (ap₂ fault_of c.in-Ok.ensures.app_is refl)
    ∙ c.in-Ok-try_get_matches_from_mut.ensures.kinds (ap is_simple_and_free c.in-Ok.ensures.app_is ∙ free)

pub returns-clause-stopped : goal.returns-clause-stopped
returns-clause-stopped c =
    let m = c.in-Ok-try_get_matches_from_mut.ensures.ok.2 (ap is_simple c.in-Ok.ensures.app_is ∙ simple) in
    let taken = c.in-Ok-try_get_matches_from_mut.ensures.kinds (ap is_simple_and_free c.in-Ok.ensures.app_is ∙ free) in
    stop_of_bad _ Words c.bad_value_text.result _ c.stop_with.ensures (λ made. inr (
      sym (ap₂ fault_of c.in-Ok.ensures.app_is refl) ∙ taken,
      ap order_of (sym (m.1 ∙ ap₂ subcommand_of c.in-Ok.ensures.app_is refl)) ∙ c.in-Err-read_order.ensures,
    ))
