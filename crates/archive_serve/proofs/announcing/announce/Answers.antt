use Rattle.std.proofs.Common.{◌≡◌, ◌∙◌, ◌++◌, ap, append_assoc, ℕ, List}
use Rattle.std.specs.Prelude.{codes, decimal}
use Rattle.archive_serve.proofs.announcing.announce.Goals as goal

-- a line in three pieces
told_in_three : (old one two three new first shown middle last : List ℕ) → one ≡ old ++ first → two ≡ one ++ shown → shown ≡ middle
    → three ≡ two ++ last → new ≡ three → new ≡ old ++ (first ++ (middle ++ last))
told_in_three old one two three new first shown middle last is_one is_two is_shown is_three is =
    is ∙ (is_three ∙ (ap (λ (t : List ℕ). t ++ last)
    (is_two ∙ (ap (λ (t : List ℕ). t ++ shown) is_one ∙ ap (λ (t : List ℕ). (old ++ first) ++ t) is_shown))
    ∙ (append_assoc (old ++ first) middle last ∙ append_assoc old first (middle ++ last))))

pub returns-in-Ok-flush-clause-ok : goal.returns-in-Ok-flush-clause-ok
returns-in-Ok-flush-clause-ok g c = (
  told_in_three (g.O.Sink.told c.args.output.now) (g.O.Sink.told c.write_bytes.new.out) (g.O.Sink.told c.write_bytes-2.new.out)
      (g.O.Sink.told c.write_bytes-3.new.out) (g.O.Sink.told c.flush.new.self) (codes "listening on 127.0.0.1:") c.as_bytes.result.now
      (decimal c.args.port) (codes "\n") c.in-Ok.ensures.ok c.in-Ok-write_bytes.ensures.ok (c.as_bytes.ensures.value ∙ c.format.ensures.text)
      c.in-Ok-write_bytes-2.ensures.ok c.in-Ok-flush.ensures.told,
  c.in-Ok-flush.ensures.sent,
)
