use Rattle.std.proofs.Common.{◌≡◌, ◌≢◌, [], length, Option, rules, refl, sym, ap, ◌∙◌}
use Rattle.std.specs.Option.{option_map_or}
use Rattle.std.proofs.lemmas.Option.{slice_get_read, slice_get_past}
use Rattle.thread_core.specs.Merge.{base_subject_at}
use Rattle.thread_links.specs.declared.entry.Entry.{Entry}
use Rattle.thread_core.proofs.SubjectLemmas.{leaders_empty}
use Rattle.thread_core.proofs.subjects.Leaders.note.Goals as goal

pub returns-then-is_empty : goal.returns-then-is_empty
returns-then-is_empty c subjects all =
    let own : base_subject_at c.args.entries.now c.args.place ≡ c.in-Some.entry.now.base = ap (λ (o : Option Entry). option_map_or (λ (entry : Entry). entry.base) o [])
    (slice_get_read c.args.entries.now (length c.args.entries.now) c.args.place c.in-Some.entry.now refl c.in-Some.ensures.lookup.3.0 c.in-Some.ensures.lookup.1) in
    let none : length c.as_slice.result.now ≡ 0 = search rules in
    leaders_empty c.args.entries.now subjects (base_subject_at c.args.entries.now c.args.place) _ _ (ap length (own ∙ sym c.as_slice.ensures) ∙ none) all

pub returns-in-None : goal.returns-in-None
returns-in-None c subjects all =
    let none : base_subject_at c.args.entries.now c.args.place ≡ [] = ap (λ (o : Option Entry). option_map_or (λ (entry : Entry). entry.base) o [])
    (slice_get_past c.args.entries.now c.args.place c.in-None.ensures.lookup.3) in
    leaders_empty c.args.entries.now subjects (base_subject_at c.args.entries.now c.args.place) _ _ (ap length none) all

pub returns-else-is_empty : goal.returns-else-is_empty
returns-else-is_empty c subjects all =
    let own : base_subject_at c.args.entries.now c.args.place ≡ c.in-Some.entry.now.base = ap (λ (o : Option Entry). option_map_or (λ (entry : Entry). entry.base) o [])
    (slice_get_read c.args.entries.now (length c.args.entries.now) c.args.place c.in-Some.entry.now refl c.in-Some.ensures.lookup.3.0 c.in-Some.ensures.lookup.1) in
    let long : length c.as_slice.result.now ≡ length c.in-Some.entry.now.base = ap length c.as_slice.ensures in
    let some : length c.in-Some.entry.now.base ≢ 0 = search (rules, long) in
    c.add_place.ensures c.args.entries.now subjects own some all
