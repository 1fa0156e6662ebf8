use Rattle.std.proofs.Common.{◌≡◌, ◌++◌, [], length, ℕ, List, arith, subst}
use Rattle.mbox_core.specs.Division.{Item}
use Rattle.memchr.specs.Find.{Nowhere, Passes, is_byte}
use Rattle.mbox_stream.specs.Stream.{settled_bytes}
use Rattle.mbox_stream.specs.Kept.{IsWindowAtPlace}
use Rattle.mbox_stream.specs.declared.window.Place.{Place}
use Rattle.mbox_stream.proofs.WindowLemmas.{no_item_is_settled_before_a_preamble}
use Rattle.mbox_stream.proofs.KeptLemmas.{kept_short, kept_on, settled_on}
use Rattle.mbox_stream.proofs.window.take_in.Goals as goal

quiet : (piece : List ℕ) → Nowhere (Passes (is_byte 10) piece) 0 (length piece) → settled_bytes piece ≡ []
quiet piece h = no_item_is_settled_before_a_preamble piece (λ k lt e. h k (omega arith) lt e)

pub returns-in-Err-clause-err : goal.returns-in-Err-clause-err
returns-in-Err-clause-err c =
    let items : List Item = c.args.taken.now.items ++ c.args.waiting.now.items in
    kept_short c.args.window.place c.args.window.bytes.items c.args.stream.now.bytes c.requires.0 c.args.piece.now items c.requires.1 c.requires.2 c.requires.3

pub returns-in-None-clause-ok : goal.returns-in-None-clause-ok
returns-in-None-clause-ok c =
    let items : List Item = c.args.taken.now.items ++ c.args.waiting.now.items in
    kept_on c.args.window.place c.args.window.bytes.items c.extend_from_slice.new.self.items c.args.stream.now.bytes c.requires.0 c.args.piece.now items
    c.requires.1 c.in-Ok.ensures.items c.requires.2

pub returns-in-None-clause-settled : goal.returns-in-None-clause-settled
returns-in-None-clause-settled c =
    settled_on c.args.window.place c.args.window.bytes.items c.extend_from_slice.new.self.items c.args.piece.now c.in-Ok.ensures.items (quiet c.args.piece.now c.in-None.ensures) c.requires.3

pub settle_message-requires-clause-looked : goal.settle_message-requires-clause-looked
settle_message-requires-clause-looked c =
    let items : List Item = c.args.taken.now.items ++ c.args.waiting.now.items in
    let k = kept_on c.args.window.place c.args.window.bytes.items c.extend_from_slice.new.self.items c.args.stream.now.bytes c.requires.0 c.args.piece.now items
    c.requires.1 c.in-Ok.ensures.items c.requires.2 in
    let K : Place → Type 0 = λ p. IsWindowAtPlace p c.extend_from_slice.new.self.items c.args.stream.now.bytes items in
    (subst K c.in-Message.is k).1
