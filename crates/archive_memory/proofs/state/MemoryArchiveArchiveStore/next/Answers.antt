use Rattle.std.proofs.Common.{◌≡◌, ◌∙◌, ◌∷◌, ◌++◌, [], ap, sym, subst, refl, arith, map, Some, None}
use Rattle.std.specs.Prelude.{option_copied, option_map, slice_get}
use Rattle.std.proofs.lemmas.Option.{slice_get_within}
use Rattle.std.proofs.lemmas.Result.{IfOk-at_ok}
use Rattle.archive_port.specs.Walking.{WalksOver, walk_over_store}
use Rattle.archive_memory.specs.Entries.{message_in}
use Rattle.archive_memory.specs.State.{archive_in_memory, memory_state, message_at_place}
use Rattle.archive_memory.proofs.StateLemmas.{given_is}
use Rattle.archive_memory.proofs.WalkLemmas.{all_given, next_given, passed_next, past_end, walks_on}
use Rattle.archive_memory.proofs.state.MemoryArchiveArchiveStore.next.Goals as goal

pub returns-in_default-clause-given : goal.returns-in_default-clause-given
returns-in_default-clause-given c = λ clean list all a given w.
    (w, all_given list all a given c.args.self.now c.args.walk.now w (sym c.next_place.ensures ∙ c.in_default.is))

pub returns-in_default-clause-left : goal.returns-in_default-clause-left
returns-in_default-clause-left c =
    let past = past_end c.args.walk.now.places.items c.args.walk.now.at (sym c.next_place.ensures ∙ c.in_default.is) in
    (omega (arith, past), omega (arith, past))

pub returns-in_default-message_at-clause-caused : goal.returns-in_default-message_at-clause-caused
returns-in_default-message_at-clause-caused c = λ clean list all a given w free it.
    let next = next_given list all a given c.args.self.now c.args.walk.now c.in-Some.dated w (sym c.next_place.ensures ∙ c.in-Some.is) in
    let none : None ≡ message_at_place (archive_in_memory c.args.self.now) c.in-Some.dated =
    ap (λ r. option_map message_in (option_copied r)) (sym c.in_default-message_at.is) ∙ c.message_at.ensures
    ∙ ap (λ es. slice_get (map message_in es) c.in-Some.dated.place) c.deref.ensures.value in
    absurd (let bad = none ∙ next.3 in cc)

pub returns-clause-given : goal.returns-clause-given
returns-clause-given c = λ clean list all a given w.
    let next = next_given list all a given c.args.self.now c.args.walk.now c.in-Some.dated w (sym c.next_place.ensures ∙ c.in-Some.is) in
    let entry = c.in-Some-message_at.entry.now in
    let shown : Some (message_in entry) ≡ Some next.0 =
    ap (λ r. option_map message_in (option_copied r)) (sym c.in-Some-message_at.is) ∙ c.message_at.ensures
    ∙ ap (λ es. slice_get (map message_in es) c.in-Some.dated.place) c.deref.ensures.value ∙ next.3 in
    let same : message_in entry ≡ next.0 = cc in
    let copied = IfOk-at_ok (λ copy. copy ≡ entry.message) c.in_ok-message.ensures.0 c.copy_next-copied.ensures in
    let new = record c.args.self.now { refusals = c.pass.new.self } in
    subst (λ m. WalksOver memory_state list all a (given ++ m ∷ []) (walk_over_store new c.advance.new.self)) (sym (given_is list entry c.in_ok-message.message next.0 copied same next.4))
    (passed_next list all a given new c.args.walk.now c.advance.new.self next.1 next.0 c.advance.ensures.passed (walks_on list all a given c.args.self.now new c.args.walk.now refl w) next.2)

pub returns-clause-left : goal.returns-clause-left
returns-clause-left c =
    let within = slice_get_within c.args.walk.now.places.items c.args.walk.now.at c.in-Some.dated (sym c.next_place.ensures ∙ c.in-Some.is) in
    omega (arith, within, c.advance.ensures.left)
