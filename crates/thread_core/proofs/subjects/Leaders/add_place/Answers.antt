use Rattle.std.proofs.Common.{Bool, List, ℕ, [], ◌∷◌, ◌++◌, cond, sym, ap, ◌∙◌, bytes_eq}
use Rattle.std.specs.HashMap.{get_by}
use Rattle.thread_core.proofs.SubjectLemmas.{leaders_more}
use Rattle.thread_core.proofs.subjects.Leaders.add_place.Goals as goal

pub returns-in_ok-push : goal.returns-in_ok-push
returns-in_ok-push c entries subjects own some all =
    leaders_more entries subjects c.args.base.now c.args.place c.args.self.now.places.items _ (λ (other : List ℕ). get_by (bytes_eq other) c.args.self.now.table) _ c.in_ok-added.added own some
    c.in_ok-added.ensures.added c.in_ok-added.ensures.table
    (c.in_ok-push.ensures.items ∙ ap (λ (t : Bool). cond t (c.args.self.now.places.items ++ c.args.place ∷ []) c.args.self.now.places.items) (sym c.if-added.true)) all

pub returns-else-added : goal.returns-else-added
returns-else-added c entries subjects own some all =
    leaders_more entries subjects c.args.base.now c.args.place c.args.self.now.places.items _ (λ (other : List ℕ). get_by (bytes_eq other) c.args.self.now.table) _ c.in_ok-added.added own some
    c.in_ok-added.ensures.added c.in_ok-added.ensures.table
    (ap (λ (t : Bool). cond t (c.args.self.now.places.items ++ c.args.place ∷ []) c.args.self.now.places.items) (sym c.if-added.false)) all
