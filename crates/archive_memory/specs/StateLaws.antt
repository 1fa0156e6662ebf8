-- No two messages of a list have the same key: a law of `ArchiveStore`.
use Rattle.std.proofs.Common.{◌≡◌, ◌≢◌, ◌&&◌, ◌||◌, ℕ, suc, true, false, Bool, List, [], ◌∷◌, ap₂, arith, bytes_eq, inl, inr, refl, sym}
use Rattle.std.specs.List.{All, list_any}
use Rattle.std.proofs.lemmas.Bool.{cases_Bool}
use Rattle.std.proofs.lemmas.List.Elements.{All-head, All-tail}
use Rattle.std.proofs.lemmas.Slice.Eq.{bytes_eq-Decides}
use Rattle.archive_model.specs.Records.{Message}
use Rattle.archive_model.specs.Questions.{is_message_at_key}
use Rattle.archive_model.specs.Sound.{HaveDistinctNames, message_identity}
use Rattle.archive_port.specs.Messages.{HaveDistinctKeys}

abbrev IsOther : Message → Message → Type 0
IsOther x y = message_identity x ≢ message_identity y

both : (p q : Bool) → (p && q) ≡ true → (p ≡ true) × (q ≡ true)
both true true is = (refl, refl)
both true false is = absurd cc
both false q is = absurd cc

other_key : (m n : Message) → IsOther m n → is_message_at_key m.list m.key n ≡ false
other_key m n other = elim (cases_Bool (is_message_at_key m.list m.key n)) [
  | inl same ↦
      let both_same = both (bytes_eq n.list m.list) (bytes_eq n.key m.key) same in
      let list = (bytes_eq-Decides n.list m.list).0 both_same.0 in
      let key = (bytes_eq-Decides n.key m.key).0 both_same.1 in
      absurd (other (ap₂ (λ (l k : List ℕ). (l, k)) (sym list) (sym key)))
  | inr differs ↦ differs
]

none_of : (m : Message) (ms : List Message) → All (IsOther m) ms → list_any (is_message_at_key m.list m.key) ms ≡ false
none_of m [] all = refl
none_of m (n ∷ ms) all = ap₂ ◌||◌ (other_key m n (All-head (IsOther m) n ms all)) (none_of m ms (All-tail (IsOther m) n ms all))

pub distinct_keys : (messages : List Message) → HaveDistinctNames message_identity messages → HaveDistinctKeys messages
distinct_keys [] names = tt
distinct_keys (m ∷ ms) names = (
  none_of m ms (λ k d within. names 0 (suc k) d (omega arith) (omega (arith, within))),
  distinct_keys ms (λ i j d before within. names (suc i) (suc j) d (omega (arith, before)) (omega (arith, within))),
)
