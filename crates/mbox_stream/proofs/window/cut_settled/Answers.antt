use Rattle.std.proofs.Common.{◌++◌, ◌∷◌, [], ℕ, ◌+◌, List, drop, arith, sym, subst}
use Rattle.mbox_core.specs.Division.{Item}
use Rattle.mbox_core.specs.Separator.{Envelope}
use Rattle.mbox_items.proofs.SplitLemmas.{one}
use Rattle.mbox_stream.specs.Stream.{IsBeginning, settled_items}
use Rattle.mbox_stream.specs.Window.{IsOpenMessageWindow, CutsAtFirstSeparator}
use Rattle.mbox_stream.proofs.KeptLemmas.{looked_start, window_next, window_begin, begin_self, begin_more, start_next}
use Rattle.mbox_stream.proofs.window.cut_settled.Goals as goal

pub loop-from-init : goal.loop-from-init
loop-from-init c = record { low = omega arith; window = c.requires.window; looked = c.requires.looked; grows = begin_self c.args.waiting.now.items }

pub returns-in-Err-clause-err : goal.returns-in-Err-clause-err
returns-in-Err-clause-err c =
    let taken : List Item = c.args.taken.now.items in
    let B : List Item → Type 0 = λ x. IsBeginning (taken ++ x) (settled_items c.args.stream.now.bytes) in
    subst B (sym c.in-Err.ensures.err)
    (window_begin c.loop-from.head.envelope c.args.stream.now.bytes (drop c.loop-from.start c.args.bytes.now) (taken ++ c.loop-from.waiting.items) c.loop-from.invariant.window)

pub loop-from-preserved : goal.loop-from-preserved
loop-from-preserved c =
    let bytes = c.args.bytes.now in
    let start = c.loop-from.start in
    let len = c.in-Next.len in
    let text = c.in-Next.text.now in
    let next : Envelope = c.in-Next.next in
    let taken : List Item = c.args.taken.now.items in
    let waiting : List Item = c.loop-from.waiting.items in
    let e : Envelope = c.loop-from.head.envelope in
    let N : List ℕ → Type 0 = λ x. CutsAtFirstSeparator x len text next in
    let n = subst N c.split_at.ensures.back c.in-Next.ensures.next in
    let w = window_next e next c.args.stream.now.bytes bytes text start len taken waiting c.loop-from.invariant.window n in
    let W : Envelope → Type 0 = λ x. IsOpenMessageWindow x c.args.stream.now.bytes (drop (start + len) bytes) (taken ++ (waiting ++ one e text ∷ [])) in
    let I : List Item → Type 0 = λ x. IsOpenMessageWindow c.in-Ok.opened.envelope c.args.stream.now.bytes (drop (start + len) bytes) (taken ++ x) in
    let G : List Item → Type 0 = λ x. IsBeginning c.args.waiting.now.items x in
    record {
      low = start_next bytes text start len next c.loop-from.invariant.low n;
      window = subst I (sym c.in-Ok.ensures.ok) (subst W (sym c.in-Ok.ensures.head) w);
      looked = looked_start (drop (start + len) bytes);
      grows = subst G (sym c.in-Ok.ensures.ok) (begin_more c.args.waiting.now.items waiting (one e text) c.loop-from.invariant.grows);
    }
