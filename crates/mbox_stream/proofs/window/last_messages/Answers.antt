use Rattle.std.proofs.Common.{◌≡◌, ◌++◌, ℕ, List, Some, sym, subst, ap, ◌∙◌, Result, Ok, Err}
use Rattle.std.specs.Prelude.{IfOk}
use Rattle.mbox_core.specs.Division.{Item, DividesIntoItems, IsPreamble, items_after_separator}
use Rattle.mbox_core.specs.Separator.{Envelope}
use Rattle.mbox_stream.specs.Kept.{IsWindowAtPlace}
use Rattle.mbox_stream.specs.declared.window.Place.{Place}
use Rattle.mbox_stream.proofs.KeptLemmas.{message_end, front_end, front_end_faulty}
use Rattle.mbox_stream.proofs.window.last_messages.Goals as goal

if_ok : {A E : Type 0} {P Q : A → Type 0} (r : Result A E) → ((x : A) → P x → Q x) → IfOk r P → IfOk r Q
if_ok (Ok x) f h = f x h
if_ok (Err e) f h = h

pub returns-in-Ok-clause-ok : goal.returns-in-Ok-clause-ok
returns-in-Ok-clause-ok c =
    let taken : List Item = c.args.taken.now.items in
    let waiting : List Item = c.args.waiting.now.items in
    let stream = c.args.stream.now.bytes in
    let window = c.args.window.bytes.items in
    let K : Place → Type 0 = λ p. IsWindowAtPlace p window stream (taken ++ waiting) in
    let u = subst K c.in-Front.is c.requires in
    let B : List ℕ → Type 0 = λ x. DividesIntoItems x c.in-Ok.messages in
    let d = subst B c.deref.ensures.value c.in-Ok.ensures.ok in
    let D : List Item → Type 0 = λ x. DividesIntoItems window x in
    if_ok c.copies.result (λ last same. front_end stream window c.in-Front.skipped taken waiting last.items u (subst D (sym same) d)) c.copies.ensures.ok

pub returns-in-Err-Preamble-clause-err : goal.returns-in-Err-Preamble-clause-err
returns-in-Err-Preamble-clause-err c =
    let items : List Item = c.args.taken.now.items ++ c.args.waiting.now.items in
    let stream = c.args.stream.now.bytes in
    let window = c.args.window.bytes.items in
    let K : Place → Type 0 = λ p. IsWindowAtPlace p window stream items in
    let P : List ℕ → Type 0 = λ x. IsPreamble x c.in-Err-Preamble.at in
    let fault : IsPreamble c.deref.result.now c.in-Err-Preamble.at = rw c.in-Err-Preamble.field-0-is at c.in-Err-Preamble.ensures.preamble in
    front_end_faulty stream window c.in-Front.skipped c.in-Err-Preamble.at c.saturating_add.result items (subst K c.in-Front.is c.requires)
    (subst P c.deref.ensures.value fault) (rw c.in-Err-Preamble.field-0-is at c.saturating_add.ensures)

pub returns-clause-ok : goal.returns-clause-ok
returns-clause-ok c =
    let taken : List Item = c.args.taken.now.items in
    let waiting : List Item = c.args.waiting.now.items in
    let stream = c.args.stream.now.bytes in
    let window = c.args.window.bytes.items in
    let K : Place → Type 0 = λ p. IsWindowAtPlace p window stream (taken ++ waiting) in
    let k = subst K c.in-Message.is c.requires in
    let e : Envelope = c.in-Message.head.envelope in
    let which : c.messages_of.result ≡ items_after_separator (Some e) window = c.messages_of.ensures ∙ ap (items_after_separator (Some e)) c.deref-in-Message.ensures.value in
    if_ok c.copies-in-Message.result (λ last same. message_end e stream window taken waiting last.items k.0 (same ∙ which)) c.copies-in-Message.ensures.ok
