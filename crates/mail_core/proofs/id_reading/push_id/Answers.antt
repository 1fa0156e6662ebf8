use Rattle.std.proofs.Common.{◌≡◌, ℕ, ◌+◌, ◌<◌, ◌≤◌, ◌∙◌, arith, length, refl, List, drop, Option, Some, None, Result, Ok, Err, IfOk, IfSome, IfNone}
use Rattle.civil_time.specs.declared.refusal.Memory.{Memory}
use Rattle.mail_core.specs.MsgIds.{MessageId}
use Rattle.mail_core.specs.Reading.{AppendsReadId}
use Rattle.mail_core.proofs.SideLemmas.{id-quoted, id-plain, id-short}
use Rattle.mail_core.proofs.id_reading.push_id.Goals as goal

-- what is taken from a later place
later : (r : Result (Option ℕ) Memory) (low high : ℕ) (x y : Option (MessageId × List ℕ)) (before after : List MessageId) (text : List ℕ) → low ≤ high → y ≡ x
    → IfOk r (λ read. IfSome read (λ end. AppendsReadId before after x text high end))
    → IfOk r (λ read. IfSome read (λ end. AppendsReadId before after y text low end))
later (Ok (Some end)) low high x y before after text le e h = record {
  id = h.id;
  from_before_end = omega (arith, h.from_before_end, le);
  end_in_range = h.end_in_range;
  read_is = e
      ∙ h.read_is;
  appends_id = h.appends_id;
}
later (Ok None) low high x y before after text le e h = tt
later (Err f) low high x y before after text le e h = tt

-- nothing is taken there
nothing : (r : Result (Option ℕ) Memory) (x y : Option (MessageId × List ℕ)) (before after : List MessageId) → y ≡ x
    → IfOk r (λ read. IfNone read ((x ≡ None) × (after ≡ before))) → IfOk r (λ read. IfNone read ((y ≡ None) × (after ≡ before)))
nothing (Ok (Some end)) x y before after e h = tt
nothing (Ok None) x y before after e h = (e ∙ h.0, h.1)
nothing (Err f) x y before after e h = tt

pub returns-then-text-from-lt2-clause-none : goal.returns-then-text-from-lt2-clause-none
returns-then-text-from-lt2-clause-none c = (id-short c.args.text.now c.args.from (omega arith), refl)

pub returns-then-text-from-eq34-clause-found : goal.returns-then-text-from-eq34-clause-found
returns-then-text-from-eq34-clause-found c =
    later c.push_quoted_id.result c.args.from (c.args.from + 2) _ _ _ _ c.args.text.now (omega arith)
    (id-quoted c.args.text.now c.args.from (omega arith) c.requires.opens c.if-text-from-eq34.true) c.push_quoted_id.ensures.found

pub returns-then-text-from-eq34-clause-none : goal.returns-then-text-from-eq34-clause-none
returns-then-text-from-eq34-clause-none c =
    nothing c.push_quoted_id.result _ _ _ _
    (id-quoted c.args.text.now c.args.from (omega arith) c.requires.opens c.if-text-from-eq34.true) c.push_quoted_id.ensures.none

pub returns-else-text-from-eq34-clause-found : goal.returns-else-text-from-eq34-clause-found
returns-else-text-from-eq34-clause-found c =
    later c.push_plain_id.result c.args.from (c.args.from + 1) _ _ _ _ c.args.text.now (omega arith)
    (id-plain c.args.text.now c.args.from (omega arith) c.requires.opens c.if-text-from-eq34.false) c.push_plain_id.ensures.found

pub returns-else-text-from-eq34-clause-none : goal.returns-else-text-from-eq34-clause-none
returns-else-text-from-eq34-clause-none c =
    nothing c.push_plain_id.result _ _ _ _
    (id-plain c.args.text.now c.args.from (omega arith) c.requires.opens c.if-text-from-eq34.false) c.push_plain_id.ensures.none
