use Rattle.std.proofs.Common.{◌≡◌, ◌∙◌, ap, get_or, rules, subst, sym, Some}
use Rattle.std.specs.Prelude.{option_map}
use Rattle.std.proofs.lemmas.Option.{slice_get-get_or}
use Rattle.archive_cache.specs.ListIndexes.{ListIndex, index_restricted_to}
use Rattle.archive_cache.specs.Parts.{model_part}
use Rattle.archive_cache.specs.Views.{CachedView, CachesView, cached_index_at}
use Rattle.archive_cache.proofs.ViewLemmas.{some_is}
use Rattle.archive_cache.proofs.cache.Cache.put_part.Goals as goal

pub returns-clause-kept : goal.returns-clause-kept
returns-clause-kept c = λ of there.
    let part = model_part c.args.part.now in
    let whole = c.index.result.now.outline in
    let is : c.index.result.now ≡ get_or c.args.self.now.views c.args.whole c.index.result.now = search rules in
    let at : cached_index_at c.args.self.now c.args.whole ≡ Some whole =
    ap (option_map (λ (v : CachedView). v.outline)) (slice_get-get_or c.args.self.now.views c.args.whole c.index.result.now c.requires ∙ ap (λ (v : CachedView). Some v) (sym is)) in
    let made : c.in_ok-outline.outline ≡ index_restricted_to part whole = search rules in
    subst (λ (o : ListIndex). CachesView c.args.self.now.views c.put.new.self.views (record { list = c.args.list.now; reader = c.args.reader.now; part = part; outline = o }) c.put.result)
    (made ∙ ap (index_restricted_to part) (some_is whole of (sym at ∙ there))) c.put.ensures.kept
