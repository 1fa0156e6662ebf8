use Rattle.std.proofs.Common.{◌≡◌, ap, refl, rules, None, Some, subst, Err}
use Rattle.std.specs.Prelude.{insert, position}
use Rattle.archive_port.specs.Told.{HoldsTables}
use Rattle.archive_port.proofs.Joins.{goes_in_as}
use Rattle.archive_desk.specs.Faults.{ask_reason}
use Rattle.archive_desk.specs.declared.faults.DeskError.TheVariants.{Memory}
use Rattle.archive_cache.specs.ListIndexes.{ListIndex, index_for_ask}
use Rattle.archive_cache.specs.Parts.{whole}
use Rattle.archive_cache.specs.Views.{CacheState, is_view_of}
use Rattle.archive_cache.proofs.FindLemmas.{IsMade, finds_kept, finds_no_room, finds_none, finds_put, index_left}
use Rattle.archive_cache.proofs.ViewLemmas.{put_there}
use Rattle.archive_cache.proofs.finding.find_whole.Goals as goal

pub returns-in-Some-clause-finds : goal.returns-in-Some-clause-finds
returns-in-Some-clause-finds g c =
    let ask = c.args.ask.now in
    let reader = c.args.reader.now in
    let list : c.ask.inside.list.now ≡ ask.list = search rules in
    finds_kept g.S.ArchiveState ask reader whole c.args.store.now c.args.kept.now c.in-Some.place
    (subst (λ l. Some c.in-Some.place ≡ position (is_view_of l reader whole) c.args.kept.now.views) list c.in-Some.ensures)

pub returns-in-Err-clause-finds : goal.returns-in-Err-clause-finds
returns-in-Err-clause-finds g c =
    finds_none g.S.ArchiveState c.args.ask.now c.args.reader.now whole c.args.store.now c.read_threads.new.store c.args.kept.now c.in-Err.fault
    (λ a (outline : ListIndex). outline ≡ index_for_ask a c.args.ask.now whole) c.in-Err.ensures.made

pub returns-in-Ok-put-clause-finds : goal.returns-in-Ok-put-clause-finds
returns-in-Ok-put-clause-finds g c =
    let ask = c.args.ask.now in
    let reader = c.args.reader.now in
    let kept = c.args.kept.now in
    let outline = c.in-Ok.outline in
    let put = c.in-Ok-put.ensures.kept in
    let list : c.ask.inside.list.now ≡ ask.list = search rules in
    finds_put g.S.ArchiveState ask reader whole c.args.store.now c.read_threads.new.store kept kept c.put.new.self outline
    (goes_in_as g.S.ArchiveState (HoldsTables g.S.ArchiveState) c.args.store.now c.read_threads.new.store (λ a b. (b ≡ a) × (ask_reason a ask ≡ None) × (outline ≡ index_for_ask a ask whole))
    (IsMade g.S.ArchiveState ask reader whole kept outline) (λ a b h. (h.0, (λ enough are. h.2))) c.in-Ok.ensures.made)
    (λ returned held enough are. are) (ap (λ (k : CacheState). k.most) c.in-Ok-put.ensures.rest)
    (ap (λ (k : CacheState). k.withheld) c.in-Ok-put.ensures.rest) c.in-Ok-put.ensures.bounded put.0 put.1 c.in-Ok-put.place put.2.0
    (subst (λ l. c.put.new.self.views ≡ insert put.0 c.in-Ok-put.place (record { list = l; reader = reader; part = whole; outline = outline })) list put.2.1)

pub returns-in-Err-put-clause-finds : goal.returns-in-Err-put-clause-finds
returns-in-Err-put-clause-finds g c =
    let ask = c.args.ask.now in
    let reader = c.args.reader.now in
    let kept = c.args.kept.now in
    let outline = c.in-Ok.outline in
    let put = c.in-Err-put.ensures.kept in
    index_left g.S.ArchiveState ask reader whole c.args.store.now c.read_threads.new.store c.count_refusal.new.self kept c.put.new.self (Err Memory) c.count_refusal.ensures.counted.leaves_archive
    (finds_no_room g.S.ArchiveState ask reader whole c.args.store.now c.read_threads.new.store kept kept c.put.new.self outline
    (goes_in_as g.S.ArchiveState (HoldsTables g.S.ArchiveState) c.args.store.now c.read_threads.new.store (λ a b. (b ≡ a) × (ask_reason a ask ≡ None) × (outline ≡ index_for_ask a ask whole))
    (IsMade g.S.ArchiveState ask reader whole kept outline) (λ a b h. (h.0, (λ enough are. h.2))) c.in-Ok.ensures.made)
    (λ returned held enough are. are) (ap (λ (k : CacheState). k.most) c.in-Err-put.ensures.rest)
    (ap (λ (k : CacheState). k.withheld) c.in-Err-put.ensures.rest) c.in-Err-put.ensures.bounded put.0 put.1 Memory refl put.2)

pub returns-in-Ok-put-clause-there : goal.returns-in-Ok-put-clause-there
returns-in-Ok-put-clause-there g c =
    let put = c.in-Ok-put.ensures.kept in
    put_there whole put.0 c.put.new.self.views (record { list = c.ask.inside.list.now; reader = c.args.reader.now; part = whole; outline = c.in-Ok.outline })
    c.in-Ok-put.place put.2.0 put.2.1
