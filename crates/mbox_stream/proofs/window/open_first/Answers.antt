use Rattle.std.proofs.Common.{◌+◌, [], length, drop, ℕ, List, sym, subst}
use Rattle.mbox_core.specs.Separator.{Envelope}
use Rattle.mbox_stream.specs.Stream.{IsSettledPreamble}
use Rattle.mbox_stream.specs.Window.{IsBeforeFirstMessage, IsOpenMessageWindow, IsSearchedUpTo, OpensFirstMessage, SkipsBlankLinesTo}
use Rattle.mbox_stream.proofs.KeptLemmas.{looked_start, front_passed, front_opened, front_faulty, front_counted, settled_within, faulty_none}
use Rattle.mbox_stream.proofs.window.open_first.Goals as goal

pub returns-in-Ok-clause-ok : goal.returns-in-Ok-clause-ok
returns-in-Ok-clause-ok c =
    let stream = c.args.stream.now.bytes in
    let window = c.args.bytes.items in
    let e : Envelope = c.in-Head.envelope in
    let O : List ℕ → Type 0 = λ x. OpensFirstMessage x c.in-Head.at e in
    let W : Envelope → Type 0 = λ x. IsOpenMessageWindow x stream (drop c.in-Head.at window) [] in
    let K : List ℕ → Type 0 = λ x. IsOpenMessageWindow c.in-Ok.head.envelope stream x [] × IsSearchedUpTo x 0 in
    let w = front_opened stream window c.args.skipped c.in-Head.at e c.requires (subst O c.deref.ensures.value c.in-Head.ensures.head) in
    subst K (sym c.drop_front.ensures) (subst W (sym c.in-Ok.ensures) w, looked_start (drop c.in-Head.at window))

pub returns-in-Blank-clause-ok : goal.returns-in-Blank-clause-ok
returns-in-Blank-clause-ok c =
    let stream = c.args.stream.now.bytes in
    let window = c.args.bytes.items in
    let P : List ℕ → Type 0 = λ x. SkipsBlankLinesTo x c.in-Blank.at in
    let U : List ℕ → Type 0 = λ x. IsBeforeFirstMessage stream x c.saturating_add.result [] in
    subst U (sym c.drop_front-in-Blank.ensures)
    (front_passed stream window c.args.skipped c.in-Blank.at c.saturating_add.result c.requires (subst P c.deref.ensures.value c.in-Blank.ensures.blank) c.saturating_add.ensures)

pub returns-in-Faulty-clause-err : goal.returns-in-Faulty-clause-err
returns-in-Faulty-clause-err c =
    let stream = c.args.stream.now.bytes in
    let window = c.args.bytes.items in
    let at = c.in-Faulty.at in
    let n = c.saturating_add-in-Faulty.result in
    let P : List ℕ → Type 0 = λ x. IsSettledPreamble x at in
    let p = subst P c.deref.ensures.value c.in-Faulty.ensures.faulty in
    let q = front_faulty stream window c.args.skipped at n c.requires p in (
      sym (faulty_none stream (length c.requires.bytes_before + at) q),
      length c.requires.bytes_before + at,
      q,
      front_counted stream window c.args.skipped at n [] c.requires (settled_within window at p) c.saturating_add-in-Faulty.ensures,
    )
