use Rattle.std.proofs.Common.{sym, ap, ◌∙◌, ◌≡◌, arith, ◌<◌, length, bytes_eq}
use Rattle.std.specs.Prelude.{string_bytes}
use Rattle.archive_memory.proofs.AskLemmas.{message_kept, message_dropped}
use Rattle.archive_memory.proofs.asking.messages_of.Goals as goal
use Rattle.archive_memory.proofs.asking.messages_of.Goals.{then-eq+in_ok-copy_message+in_ok-push, else-eq}

pub loop-entry-preserved : goal.loop-entry-preserved
loop-entry-preserved c =
    let within : c.loop-entry.entry-index < length c.args.messages.now = omega arith in
    let test : bytes_eq (string_bytes c.entry-item.result.list) c.args.list.now ≡ c.eq.result = ap (λ n. bytes_eq n c.args.list.now) (sym c.as_str.ensures.value) ∙ sym c.eq.ensures in
    elim c.if-eq.branch [
      | then-eq+in_ok-copy_message+in_ok-push w ↦
          rw (w.found-is, w.in_ok-push.ensures.items) (message_kept _ c.args.messages.now _ c.entry-item.result within c.entry-item.is _
          c.loop-entry.invariant _ w.in_ok-copy_message.ensures (test ∙ w.if-eq.true))
      | else-eq w ↦ rw w.found-is (message_dropped _ c.args.messages.now _ c.entry-item.result within c.entry-item.is _ c.loop-entry.invariant (test ∙ w.if-eq.false))
    ]
