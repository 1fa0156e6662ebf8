use Rattle.std.proofs.Common.{rules, ◌≡◌, inl, inr, sym, ap₂, subst, ◌∙◌, Option, Some, None, true, List, ℕ, ℤ}
use Rattle.std.specs.Prelude.{IfSome}
use Rattle.std.proofs.lemmas.Bool.{cases_Bool}
use Rattle.civil_time.specs.Calendar.{is_instant, checked_instant}
use Rattle.mail_core.specs.Lines.{lines}
use Rattle.mbox_items.specs.Division.{Item, NoneSeparates, whole}
use Rattle.mbox_items.specs.Separator.{Envelope, IsSenderText}
use Rattle.mbox_items.specs.Written.{IsItem}
use Rattle.mbox_items.proofs.SenderLemmas.{written_is}
use Rattle.archive_database.specs.Checking.{row_item}
use Rattle.archive_database.proofs.checking.read_item.Goals as goal

some_item : (o : Option Item) (e : Envelope) (it : Item) → e ≡ it.envelope → IfSome o (λ item. (item.envelope ≡ e) × (item.text ≡ it.text))
    → IfSome o (λ item. NoneSeparates (lines (whole item.text))) → IsSenderText it.envelope.sender → is_instant it.envelope.arrival ≡ true
    → IfSome o (λ item. (item ≡ it) × IsItem it)
some_item None e it is same none sender arrival = tt
some_item (Some item) e it is same none sender arrival = (
  ap₂ (λ (v : Envelope) (t : List ℕ). record { envelope = v; text = t }) (same.0 ∙ is) same.1,
  record { is_envelope = record { is_sender_text = sender; arrival_is_instant = arrival }; no_line_separates = subst (λ t. NoneSeparates (lines (whole t))) same.1 none },
)

instant_is : (s a : ℤ) → Some a ≡ checked_instant s → (a ≡ s) × (is_instant s ≡ true)
instant_is s a e = elim (cases_Bool (is_instant s)) [
  | inl within ↦ (let some = rw within at e in cc, within)
  | inr past ↦ absurd (let none = rw past at e in cc)
]

pub returns-clause-some : goal.returns-clause-some
returns-clause-some c =
    let sent = c.in_ok-sender.ensures.some in
    let read : Some c.in_ok-arrival.arrival ≡ checked_instant c.args.row.now.arrival = search rules in
    let at = instant_is c.args.row.now.arrival c.in_ok-arrival.arrival read in
    some_item c.new-2.result _ (row_item c.args.row.now) (ap₂ (λ (s : List ℕ) (a : ℤ). record { sender = s; arrival = a }) sent.1 at.0)
    c.new-2.ensures.some c.new-2.ensures.holds (written_is c.in_ok-sender.sender c.args.row.now.sender.now sent.0 (sym sent.1)) at.1
