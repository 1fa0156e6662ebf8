use Rattle.std.proofs.Common.{◌≡◌, ◌==◌, ◌<◌, ℕ, ◌++◌, List, map, filter, not, length, get_or, false, rules, ap, subst, sym, ◌∙◌}
use Rattle.std.specs.List.{before_first}
use Rattle.std.specs.Result.{OnOk}
use Rattle.thread_links.specs.Links.{Link}
use Rattle.thread_core.proofs.MergeLemmas.{links_of_two}
use Rattle.thread_core.proofs.merging.push_links.Goals as goal

pub returns : goal.returns
returns c =
    let plain_group : c.args.group.now.dummy ≡ false = search rules in
    let some : 1 < length c.args.plain.now = search rules in
    let all : map (λ (p : ℕ). (p, get_or c.args.plain.now 0 0)) (filter (λ (p : ℕ). not (p == get_or c.args.plain.now 0 0)) c.before-2.result.now)
    ≡ map (λ (p : ℕ). (p, get_or c.args.plain.now 0 0)) (filter (λ (p : ℕ). not (p == get_or c.args.plain.now 0 0))
    (before_first (λ (p : ℕ). p == get_or c.args.plain.now 1 0) c.args.group.now.messages.items))
    = ap (λ (ps : List ℕ). map (λ (p : ℕ). (p, get_or c.args.plain.now 0 0)) (filter (λ (p : ℕ). not (p == get_or c.args.plain.now 0 0)) ps))
    (c.before-2.ensures ∙ (λ i. before_first (λ (p : ℕ). p == get_or c.args.plain.now 1 0) (c.deref-2.ensures.value i))) in
    subst (λ (ls : List Link). OnOk c.link_under-2.result (c.link_under-2.new.links.items ≡ c.args.links.now.items ++ ls))
    (all ∙ sym (links_of_two c.args.group.now.messages.items c.args.plain.now c.args.group.now.dummy plain_group some)) c.link_under-2.ensures
