use Rattle.std.proofs.Common.{◌≡◌, ◌∙◌, ◌+◌, ◌++◌, ◌∷◌, [], ap, arith, append_assoc, drop, get_or, rules, subst, sym, take}
use Rattle.std.proofs.lemmas.List.{take_more, take-append-drop}
use Rattle.archive_cache.proofs.SendLemmas.{LinesSoFar, ends_since, lines_more, lines_stopped}
use Rattle.archive_cache.proofs.sending.write_lines.Goals as goal

pub loop-line-preserved : goal.loop-line-preserved
loop-line-preserved g c =
    let so_far = c.loop-line.invariant in
    let lines = c.args.lines.now in
    let i = c.loop-line.line-index in
    let line = c.line-item.result in
    let before = g.W.Sink.told c.args.out.now in
    let after = g.W.Sink.told c.write_line.new.out in
    let is : line ≡ get_or lines i line = search rules in
    let upto : take (i + 1) lines ≡ take i lines ++ line ∷ [] = take_more lines i line c.loop-line-test.true ∙ ap (λ x. take i lines ++ x ∷ []) (sym is) in (
      subst (λ xs. LinesSoFar g.S.ArchiveState c.args.list.now c.args.store.now c.write_line.new.store xs before after c.args.count.now c.write_line.new.count) (sym upto)
          (lines_more g.S.ArchiveState c.args.list.now c.args.store.now c.loop-line.store c.write_line.new.store before (g.W.Sink.told c.loop-line.out) c.args.count.now
          c.loop-line.count (take i lines) so_far.0 line c.in-Ok.ensures.ends.remains_open after c.write_line.new.count c.in-Ok.ensures.ends.writes_nothing c.in-Ok.ensures.ends.refusals_counted.0
          c.in-Ok.ensures.more c.in-Ok.ensures.written),
      c.in-Ok.ensures.writer.no_failure_if_ok ∙ so_far.1,
      omega (arith, c.in-Ok.ensures.more.2),
    )

pub returns-in-Err-clause-written : goal.returns-in-Err-clause-written
returns-in-Err-clause-written g c =
    let lines = c.args.lines.now in
    let i = c.loop-line.line-index in
    let line = c.line-item.result in
    let is : line ≡ get_or lines i line = search rules in
    let upto : take (i + 1) lines ≡ take i lines ++ line ∷ [] = take_more lines i line c.loop-line-test.true ∙ ap (λ x. take i lines ++ x ∷ []) (sym is) in
    let rest = drop (i + 1) lines in
    lines_stopped g.S.ArchiveState c.args.list.now c.args.store.now c.loop-line.store c.write_line.new.store (g.W.Sink.told c.args.out.now) (g.W.Sink.told c.loop-line.out)
    c.args.count.now c.loop-line.count (take i lines) c.loop-line.invariant.0 line c.in-Err.ensures.ends.remains_open (g.W.Sink.told c.write_line.new.out)
    c.write_line.new.count c.in-Err.fault rest lines
    (sym (take-append-drop (i + 1) lines) ∙ ap (λ xs. xs ++ rest) upto ∙ append_assoc (take i lines) (line ∷ []) rest) c.in-Err.ensures.written

pub returns-in-Err-clause-ends : goal.returns-in-Err-clause-ends
returns-in-Err-clause-ends g c =
    ends_since g.S.ArchiveState c.args.list.now c.args.store.now c.loop-line.store c.write_line.new.store (g.W.Sink.told c.args.out.now) (g.W.Sink.told c.loop-line.out)
    c.args.count.now c.loop-line.count (take c.loop-line.line-index c.args.lines.now) c.loop-line.invariant.0 _ c.in-Err.ensures.ends
