use Rattle.std.proofs.Common.{◌≡◌, ◌<◌, IfSome, None, Some, ap, length, subst, sym}
use Rattle.archive_cache.specs.Parts.{model_part}
use Rattle.archive_requests.specs.Routing.{model_route}
use Rattle.archive_results.specs.Access.{Ask}
use Rattle.archive_cache.specs.ListIndexes.{index_for_ask}
use Rattle.archive_pages.specs.Calls.{IsCacheCoherentForAsk}
use Rattle.archive_pages.specs.Listings.{IsPageOfIndex, IsWantedBy, listing_reply, wanted_reply}
use Rattle.archive_pages.specs.Replies.{not_found, page_reply}
use Rattle.archive_pages.proofs.CauseLemmas.{no_outline}
use Rattle.archive_pages.proofs.PlaceLemmas.{found_at, found_none}
use Rattle.archive_pages.proofs.listing.find_listing.Goals as goal

pub returns-in_default-clause-found : goal.returns-in_default-clause-found
returns-in_default-clause-found g c =
    let ask = c.args.ask.now in
    let wanted : IsWantedBy (model_route c.args.route.now) (Some c.in-Ok-Some.wanted) = subst (IsWantedBy (model_route c.args.route.now)) c.in-Ok-Some.field-0-is c.in-Ok-Some.ensures in
    found_none g.S.ArchiveState c.args.store.now c.find_place.new.store (IsCacheCoherentForAsk ask c.args.kept.now) ask c.find_place.new.kept (model_part c.part.result) c.in_ok-place.field-0
    (λ a. wanted_reply a ask c.in-Ok-Some.wanted) (λ a. listing_reply a ask (model_route c.args.route.now)) (λ a. wanted a ask) c.in_ok-place.ensures.found c.in_default.is

pub returns-in_default-outline-clause-why : goal.returns-in_default-outline-clause-why
returns-in_default-outline-clause-why g c =
    no_outline c.find_place.new.kept c.in-Some.place
    (subst (λ o. IfSome o (λ at. at < length c.find_place.new.kept.views)) c.in-Some.is c.in_ok-place.ensures.there) (sym c.in_default-outline.ensures.outline)

pub returns-in-Ok-Some-page-clause-found : goal.returns-in-Ok-Some-page-clause-found
returns-in-Ok-Some-page-clause-found g c =
    let ask = c.args.ask.now in
    let wanted : IsWantedBy (model_route c.args.route.now) (Some c.in-Ok-Some.wanted) = subst (IsWantedBy (model_route c.args.route.now)) c.in-Ok-Some.field-0-is c.in-Ok-Some.ensures in
    let outline = c.in-Some-outline.outline.now in
    let made : IsPageOfIndex c.ask.inside.list.now c.in-Ok-Some.wanted outline (Some c.in-Ok-Some-page.page) =
    subst (IsPageOfIndex c.ask.inside.list.now c.in-Ok-Some.wanted outline) c.in-Ok-Some-page.field-0-is c.in-Ok-Some-page.ensures in
    found_at g.S.ArchiveState c.args.store.now c.find_place.new.store (IsCacheCoherentForAsk ask c.args.kept.now) ask c.find_place.new.kept (model_part c.part.result) c.in_ok-place.field-0
    (λ a. wanted_reply a ask c.in-Ok-Some.wanted) (λ a. listing_reply a ask (model_route c.args.route.now)) (λ a. wanted a ask) c.in_ok-place.ensures.found
    c.in-Some.place outline (page_reply c.in-Ok-Some-page.page.items) c.in-Some.is c.in-Some-outline.ensures.outline
    (λ a of. made a ask (ap (λ (q : Ask). q.list) c.ask.view_is) (subst (λ p. outline ≡ index_for_ask a ask p) c.part.ensures of))

pub returns-in-Ok-None-page-clause-found : goal.returns-in-Ok-None-page-clause-found
returns-in-Ok-None-page-clause-found g c =
    let ask = c.args.ask.now in
    let wanted : IsWantedBy (model_route c.args.route.now) (Some c.in-Ok-Some.wanted) = subst (IsWantedBy (model_route c.args.route.now)) c.in-Ok-Some.field-0-is c.in-Ok-Some.ensures in
    let outline = c.in-Some-outline.outline.now in
    let made : IsPageOfIndex c.ask.inside.list.now c.in-Ok-Some.wanted outline (None) =
    subst (IsPageOfIndex c.ask.inside.list.now c.in-Ok-Some.wanted outline) c.in-Ok-None-page.field-0-is c.in-Ok-None-page.ensures in
    found_at g.S.ArchiveState c.args.store.now c.find_place.new.store (IsCacheCoherentForAsk ask c.args.kept.now) ask c.find_place.new.kept (model_part c.part.result) c.in_ok-place.field-0
    (λ a. wanted_reply a ask c.in-Ok-Some.wanted) (λ a. listing_reply a ask (model_route c.args.route.now)) (λ a. wanted a ask) c.in_ok-place.ensures.found
    c.in-Some.place outline not_found c.in-Some.is c.in-Some-outline.ensures.outline
    (λ a of. made a ask (ap (λ (q : Ask). q.list) c.ask.view_is) (subst (λ p. outline ≡ index_for_ask a ask p) c.part.ensures of))
