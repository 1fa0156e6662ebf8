use Rattle.mbox_items.proofs.SenderLemmas.{place_is}
use Rattle.mbox_items.proofs.owned.place_of_at.Goals as goal

pub returns-in-At : goal.returns-in-At
returns-in-At c = rw c.in-At.is (λ h. place_is c.in-At.left.now c.in-At.field-1.now h.0 h.1)
