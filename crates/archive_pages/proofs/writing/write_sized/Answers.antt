use Rattle.std.proofs.Common.{◌≡◌, ◌++◌, ◌∙◌, ℕ, List, ap, refl, subst, inl, ◌≤◌, length, take}
use Rattle.archive_port.proofs.LastLemmas.{leaves_same}
use Rattle.archive_pages.specs.Replies.{reply_with_length}
use Rattle.archive_pages.proofs.writing.write_sized.Goals as goal

pub returns-in-Ok-write_two_slices-clause-sent : goal.returns-in-Ok-write_two_slices-clause-sent
returns-in-Ok-write_two_slices-clause-sent g c = (
  reply_with_length c.args.status c.args.content_type.now c.args.body.now,
  inl refl,
  (refl, c.in-Ok-write_two_slices.ensures.ok ∙ ap (λ h. g.W.Sink.told c.args.output.now ++ (h ++ c.args.body.now)) (c.as_bytes.ensures.value ∙ c.in-Ok.ensures)),
)

pub returns-clause-sent : goal.returns-clause-sent
returns-clause-sent g c = rw c.from.ensures (
  reply_with_length c.args.status c.args.content_type.now c.args.body.now,
  inl refl,
  λ low. subst (λ (h : List ℕ). (c.in-Err-write_two_slices.fault.written ≤ length (h ++ c.args.body.now))
      × (g.W.Sink.told c.write_two_slices.new.out ≡ g.W.Sink.told c.args.output.now ++ take c.in-Err-write_two_slices.fault.written (h ++ c.args.body.now)))
      (c.as_bytes.ensures.value ∙ c.in-Ok.ensures) c.in-Err-write_two_slices.ensures.fault,
)

pub returns-in-Ok-write_two_slices-clause-leaves : goal.returns-in-Ok-write_two_slices-clause-leaves
returns-in-Ok-write_two_slices-clause-leaves g c = leaves_same g.S.ArchiveState c.args.store.now

pub returns-clause-leaves : goal.returns-clause-leaves
returns-clause-leaves g c = leaves_same g.S.ArchiveState c.args.store.now
