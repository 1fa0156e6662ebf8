use Rattle.std.proofs.Common.{rules, ◌≡◌, ap, sym, subst, ◌∙◌}
use Rattle.archive_model.specs.Filing.{IndexedMessage}
use Rattle.archive_model.specs.Damage.{IsSoundlyIndexed}
use Rattle.archive_tables.specs.Listed.{indexed_message_from_result_row}
use Rattle.archive_database.proofs.checking.find_damage.Goals as goal

pub returns-then-branch-clause-found : goal.returns-then-branch-clause-found
returns-then-branch-clause-found c = λ f is.
    let it : indexed_message_from_result_row f.0.withdrawn f.0.embargo c.in-Some.filed ≡ f = c.in-Some.ensures f is in
    subst IsSoundlyIndexed it ((c.in_ok-is_sound.ensures.sound f.0.withdrawn f.0.embargo).0 c.if-branch.true)

pub returns-clause-found : goal.returns-clause-found
returns-clause-found c = λ f is.
    let it : indexed_message_from_result_row f.0.withdrawn f.0.embargo c.in-Some.filed ≡ f = c.in-Some.ensures f is in
    let list : c.in_ok-to_vec.field-0.items ≡ c.in-Some.filed.list.now = search rules in
    let key : c.in_ok-to_vec-2.field-0.items ≡ c.in-Some.filed.key.now = search rules in (
      (λ sound. absurd (let yes = sym c.if-branch.false ∙ (c.in_ok-is_sound.ensures.sound f.0.withdrawn f.0.embargo).1 (subst IsSoundlyIndexed (sym it) sound) in cc)),
      list ∙ ap (λ (g : IndexedMessage). g.0.list) it,
      key ∙ ap (λ (g : IndexedMessage). g.0.key) it,
    )
