use Rattle.std.proofs.Common.{◌≡◌, ◌∙◌, ap, refl, rules, false, Some, subst, Err}
use Rattle.std.specs.Prelude.{insert, position}
use Rattle.archive_desk.specs.declared.faults.DeskError.TheVariants.{Memory}
use Rattle.archive_cache.specs.ListIndexes.{index_restricted_to}
use Rattle.archive_cache.specs.Parts.{model_part, same_part, whole}
use Rattle.archive_cache.specs.Views.{CacheState, is_view_of}
use Rattle.archive_cache.proofs.FindLemmas.{finds_kept, finds_no_room, finds_no_whole, finds_put, made_of_whole, index_left}
use Rattle.archive_cache.proofs.ViewLemmas.{put_there, stands_at}
use Rattle.archive_cache.proofs.finding.find_part.Goals as goal

pub returns-in-Some-clause-finds : goal.returns-in-Some-clause-finds
returns-in-Some-clause-finds g c =
    let ask = c.args.ask.now in
    let reader = c.args.reader.now in
    let part = model_part c.args.part.now in
    let list : c.ask.inside.list.now ≡ ask.list = search rules in
    finds_kept g.S.ArchiveState ask reader part c.args.store.now c.args.kept.now c.in-Some.place
    (subst (λ l. Some c.in-Some.place ≡ position (is_view_of l reader part) c.args.kept.now.views) list c.in-Some.ensures)

pub returns-in-Err-clause-finds : goal.returns-in-Err-clause-finds
returns-in-Err-clause-finds g c =
    finds_no_whole g.S.ArchiveState c.args.ask.now c.args.reader.now c.args.store.now c.find_whole.new.store c.args.kept.now c.find_whole.new.kept c.in-Err.fault
    whole (model_part c.args.part.now) c.in-Err.ensures.finds

pub returns-in-Ok-put_part-clause-finds : goal.returns-in-Ok-put_part-clause-finds
returns-in-Ok-put_part-clause-finds g c =
    let ask = c.args.ask.now in
    let reader = c.args.reader.now in
    let part = model_part c.args.part.now in
    let kept = c.args.kept.now in
    let mid = c.find_whole.new.kept in
    let list : c.ask.inside.list.now ≡ ask.list = search rules in
    let other : same_part part whole ≡ false = search rules in
    let stands = stands_at mid.views c.in-Ok.place c.in-Ok.ensures.there in
    let outline = index_restricted_to part stands.0 in
    let put = c.in-Ok-put_part.ensures.kept stands.0 stands.1 in
    finds_put g.S.ArchiveState ask reader part c.args.store.now c.find_whole.new.store kept mid c.put_part.new.self outline
    (made_of_whole g.S.ArchiveState ask reader part c.args.store.now c.find_whole.new.store kept mid c.in-Ok.place c.in-Ok.ensures.finds other stands.0 stands.1)
    c.in-Ok.ensures.finds.finds_index (ap (λ (k : CacheState). k.most) c.in-Ok-put_part.ensures.rest ∙ c.in-Ok.ensures.finds.capacity_is_same)
    (ap (λ (k : CacheState). k.withheld) c.in-Ok-put_part.ensures.rest) c.in-Ok-put_part.ensures.bounded put.0 put.1 c.in-Ok-put_part.place put.2.0
    (subst (λ l. c.put_part.new.self.views ≡ insert put.0 c.in-Ok-put_part.place (record { list = l; reader = reader; part = part; outline = outline })) list put.2.1)

pub returns-in-Err-put_part-clause-finds : goal.returns-in-Err-put_part-clause-finds
returns-in-Err-put_part-clause-finds g c =
    let ask = c.args.ask.now in
    let reader = c.args.reader.now in
    let part = model_part c.args.part.now in
    let kept = c.args.kept.now in
    let mid = c.find_whole.new.kept in
    let other : same_part part whole ≡ false = search rules in
    let stands = stands_at mid.views c.in-Ok.place c.in-Ok.ensures.there in
    let outline = index_restricted_to part stands.0 in
    let put = c.in-Err-put_part.ensures.kept stands.0 stands.1 in
    index_left g.S.ArchiveState ask reader part c.args.store.now c.find_whole.new.store c.count_refusal.new.self kept c.put_part.new.self (Err Memory) c.count_refusal.ensures.counted.leaves_archive
    (finds_no_room g.S.ArchiveState ask reader part c.args.store.now c.find_whole.new.store kept mid c.put_part.new.self outline
    (made_of_whole g.S.ArchiveState ask reader part c.args.store.now c.find_whole.new.store kept mid c.in-Ok.place c.in-Ok.ensures.finds other stands.0 stands.1)
    c.in-Ok.ensures.finds.finds_index (ap (λ (k : CacheState). k.most) c.in-Err-put_part.ensures.rest ∙ c.in-Ok.ensures.finds.capacity_is_same)
    (ap (λ (k : CacheState). k.withheld) c.in-Err-put_part.ensures.rest) c.in-Err-put_part.ensures.bounded put.0 put.1 Memory refl put.2)

pub returns-in-Ok-put_part-clause-there : goal.returns-in-Ok-put_part-clause-there
returns-in-Ok-put_part-clause-there g c =
    let part = model_part c.args.part.now in
    let stands = stands_at c.find_whole.new.kept.views c.in-Ok.place c.in-Ok.ensures.there in
    let put = c.in-Ok-put_part.ensures.kept stands.0 stands.1 in
    put_there part put.0 c.put_part.new.self.views (record { list = c.ask.inside.list.now; reader = c.args.reader.now; part = part; outline = index_restricted_to part stands.0 })
    c.in-Ok-put_part.place put.2.0 put.2.1
