-- No two messages that are shown of a list have one key.
use Rattle.std.proofs.Common.{◌≡◌, ◌≢◌, ◌∙◌, ℕ, zero, suc, ◌<◌, List, [], ◌∷◌, length, map, filter, get_or, bytes_eq, Bool, true, false, refl, sym, ap, arith}
use Rattle.std.specs.Prelude.{⊤}
use Rattle.std.specs.List.{All}
use Rattle.std.proofs.lemmas.List.Elements.{All-head, All-tail}
use Rattle.std.proofs.lemmas.Slice.Eq.{bytes_eq-Decides}
use Rattle.archive_model.specs.Records.{Message}
use Rattle.archive_model.specs.Sound.{HaveDistinctNames, message_identity}
use Rattle.archive_results.specs.Shown.{ShownMessage, shown_message}

-- no message has this key, and no two have one
abbrev Lacks : List ℕ → List ShownMessage → Type 0
Lacks key [] = ⊤
Lacks key (s ∷ view) = (s.key ≢ key) × Lacks key view

abbrev pub AreKeysApart : List ShownMessage → Type 0
AreKeysApart [] = ⊤
AreKeysApart (s ∷ view) = Lacks s.key view × AreKeysApart view

module _ (list : List ℕ) (P : Message → Bool) where
  abbrev of_list : List Message → List Message
  of_list ms = filter (λ m. bytes_eq m.list list) ms

  abbrev shown : List Message → List ShownMessage
  shown ms = map shown_message (filter P (of_list ms))

  -- of the message before the rest, where it is shown
  abbrev with_first : (there allowed : Bool) → Message → List ShownMessage → List ShownMessage
  with_first true true m view = shown_message m ∷ view
  with_first true false m view = view
  with_first false allowed m view = view

  split : (m : Message) (ms : List Message) → shown (m ∷ ms) ≡ with_first (bytes_eq m.list list) (P m) m (shown ms)
  split m ms = by (bytes_eq m.list list) (P m) refl refl
    where
      by : (l p : Bool) → bytes_eq m.list list ≡ l → P m ≡ p → shown (m ∷ ms) ≡ with_first l p m (shown ms)
      by true true el ep = rw (el, ep) refl
      by true false el ep = rw (el, ep) refl
      by false p el ep = rw el refl

  lacks : (m : Message) → bytes_eq m.list list ≡ true → (ms : List Message) → All (λ n. message_identity m ≢ message_identity n) ms → Lacks m.key (shown ms)
  lacks m is [] all = tt
  lacks m is (n ∷ ms) all = rw (split n ms) (by (bytes_eq n.list list) (P n) refl (lacks m is ms (All-tail (λ k. message_identity m ≢ message_identity k) n ms all)))
    where
      other : bytes_eq n.list list ≡ true → n.key ≢ m.key
      other there same =
          let lists : m.list ≡ n.list = (bytes_eq-Decides m.list list).0 is ∙ sym ((bytes_eq-Decides n.list list).0 there) in
          All-head (λ k. message_identity m ≢ message_identity k) n ms all (λ i. (lists i, sym same i))

      by : (l p : Bool) → bytes_eq n.list list ≡ l → Lacks m.key (shown ms) → Lacks m.key (with_first l p n (shown ms))
      by true true e rest = (other e, rest)
      by true false e rest = rest
      by false p e rest = rest

  pub keys_apart : (ms : List Message) → HaveDistinctNames message_identity ms → AreKeysApart (shown ms)
  keys_apart [] apart = tt
  keys_apart (m ∷ ms) apart = rw (split m ms) (by (bytes_eq m.list list) (P m) refl (keys_apart ms (λ i j d before within. apart (suc i) (suc j) d (omega (arith, before)) (omega (arith, within)))))
    where
      others : All (λ n. message_identity m ≢ message_identity n) ms
      others = λ k d within. apart 0 (suc k) d (omega arith) (omega (arith, within))

      by : (l p : Bool) → bytes_eq m.list list ≡ l → AreKeysApart (shown ms) → AreKeysApart (with_first l p m (shown ms))
      by true true e rest = (lacks m e ms others, rest)
      by true false e rest = rest
      by false p e rest = rest

lacks_at : (key : List ℕ) (view : List ShownMessage) (d : ShownMessage) → Lacks key view → (i : ℕ) → i < length view → (get_or view i d).key ≢ key
lacks_at key [] d none i below = absurd (omega (arith, below))
lacks_at key (s ∷ view) d none zero below = none.0
lacks_at key (s ∷ view) d none (suc i) below = lacks_at key view d none.1 i (omega (arith, below))

pub one_place : (view : List ShownMessage) (d : ShownMessage) → AreKeysApart view → (i j : ℕ) → i < length view → j < length view
    → (get_or view i d).key ≡ (get_or view j d).key → i ≡ j
one_place [] d apart i j hi hj same = absurd (omega (arith, hi))
one_place (s ∷ view) d apart zero zero hi hj same = refl
one_place (s ∷ view) d apart zero (suc j) hi hj same = absurd (lacks_at s.key view d apart.0 j (omega (arith, hj)) (sym same))
one_place (s ∷ view) d apart (suc i) zero hi hj same = absurd (lacks_at s.key view d apart.0 i (omega (arith, hi)) same)
one_place (s ∷ view) d apart (suc i) (suc j) hi hj same = ap suc (one_place view d apart.1 i j (omega (arith, hi)) (omega (arith, hj)) same)
