use Rattle.std.proofs.Common.{◌∙◌, ◌∷◌, [], ap, sym, refl, Some}
use Rattle.std.specs.Prelude.{not, option_map}
use Rattle.archive_model.specs.Commands.{person_add}
use Rattle.archive_model.specs.Machine.{guarded_replies_of}
use Rattle.archive_port.specs.Commands.{spec_command}
use Rattle.archive_memory.specs.Deciding.{first_passing_reply, reply_without_change}
use Rattle.archive_memory.specs.declared.deciding.Settled.TheVariants.{Refused}
use Rattle.archive_port.specs.declared.faults.StoreFault.TheVariants.{BadName, BadText, PersonExists, TokenTaken}
use Rattle.archive_memory.proofs.DecideLemmas.{rows_alike}
use Rattle.archive_memory.proofs.deciding.settle.Goals as goal

pub returns-in-PersonAdd : goal.returns-in-PersonAdd
returns-in-PersonAdd c =
    let found = c.args.found.now in
    ap (option_map reply_without_change) c.first_so-in-PersonAdd.ensures
    ∙ rows_alike
    ((not c.is_name-in-PersonAdd.result, Refused BadName) ∷ (not c.is_token.result, Refused BadText) ∷ (found.person, Refused PersonExists) ∷ (found.token, Refused TokenTaken) ∷ [])
    (guarded_replies_of (person_add c.in-PersonAdd.name.now c.in-PersonAdd.token.now) found)
    (ap not c.is_name-in-PersonAdd.ensures, refl, (ap not c.is_token.ensures, refl, (refl, refl, (refl, refl, tt))))
    ∙ ap (λ k. option_map Some (first_passing_reply (guarded_replies_of (spec_command k) found))) (sym c.in-PersonAdd.is)
