use Rattle.std.proofs.Common.{◌≡◌, List, subst, length, take, drop, ◌-◌, to_z, of_z, w64}
use Rattle.std.specs.Prelude.{map}
use Rattle.std.proofs.lemmas.Int.{to_z-of_z}
use Rattle.archive_model.specs.Records.{Grant}
use Rattle.archive_tables.specs.Rows.{grant_result_row, out_of_memory_error}
use Rattle.archive_tables.proofs.CauseLemmas.{carried}
use Rattle.archive_database.specs.Ranks.{highest_rank_on, highest_rank_with_grant}
use Rattle.archive_database.proofs.CauseLemmas.{each_error}
use Rattle.archive_database.proofs.RankLemmas.{one_more, first_and_rest, if_ok, shown_as}
use Rattle.archive_database.proofs.ranks.+highest_rank.Goals as goal

pub returns-in_ok-above-in-len1-up-clause-found : goal.returns-in_ok-above-in-len1-up-clause-found
returns-in_ok-above-in-len1-up-clause-found t c =
    let rows = c.args.grants.now in
    let row = c.first-item.result in
    let above = c.in_ok-above-in-len1-up.above in
    let fits = rw c.in_ok-above-in-len1-up.was at c.highest_rank.type_inv in
    let itself : to_z w64 (of_z w64 above) ≡ above = to_z-of_z w64 above (record { sfits = assumption fits }) in
    let same = to_z-of_z w64 c.args.day c.ranges.day in
    if_ok c.rank_with.result
    (λ rank. (g : Grant) → row ≡ grant_result_row g → rank ≡ highest_rank_with_grant (to_z w64 (of_z w64 c.args.day)) g (to_z w64 (of_z w64 above)))
    (λ rank. (shown : List Grant) → rows ≡ map grant_result_row shown → rank ≡ highest_rank_on c.args.day shown)
    (λ rank first. one_more c.args.day above rank rows row (take (length rows - 1) (drop 1 rows)) (first_and_rest rows row c.in-len1-up.len_at_least c.first-item.is)
    (λ gs h. subst (λ d. above ≡ highest_rank_on d gs) same (c.in_ok-above-in-len1-up.ensures.found gs h))
    (λ g h. subst (λ d. rank ≡ highest_rank_with_grant d g above) same (subst (λ n. rank ≡ highest_rank_with_grant (to_z w64 (of_z w64 c.args.day)) g n) itself (first g h))))
    c.rank_with.ensures.found

pub returns-in_ok-above-in-len1-up-clause-fault : goal.returns-in_ok-above-in-len1-up-clause-fault
returns-in_ok-above-in-len1-up-clause-fault t c =
    let rows = c.args.grants.now in
    let row = c.first-item.result in
    each_error c.rank_with.result (λ e. (g : Grant) → row ≡ grant_result_row g → e ≡ out_of_memory_error)
    (λ e. (shown : List Grant) → rows ≡ map grant_result_row shown → e ≡ out_of_memory_error)
    (λ e first. shown_as (λ shown. e ≡ out_of_memory_error) rows row (take (length rows - 1) (drop 1 rows)) (first_and_rest rows row c.in-len1-up.len_at_least c.first-item.is)
    (λ g gs here there. first g here))
    c.rank_with.ensures.fault

pub returns-in_err-above-in-len1-up-clause-fault : goal.returns-in_err-above-in-len1-up-clause-fault
returns-in_err-above-in-len1-up-clause-fault t c =
    let rows = c.args.grants.now in
    let row = c.first-item.result in
    carried c.from_residual.result c.in_err-above-in-len1-up.field-0.0 (λ e. (shown : List Grant) → rows ≡ map grant_result_row shown → e ≡ out_of_memory_error) c.from_residual.ensures.1
    (shown_as (λ shown. c.in_err-above-in-len1-up.field-0.0 ≡ out_of_memory_error) rows row (take (length rows - 1) (drop 1 rows))
    (first_and_rest rows row c.in-len1-up.len_at_least c.first-item.is) (λ g gs here there. c.in_err-above-in-len1-up.ensures.fault gs there))
