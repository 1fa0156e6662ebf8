-- The senders of the code, and their written form.
use Rattle.std.proofs.Common.{◌≡◌, ℕ, zero, suc, ◌<◌, ◌≤◌, Bool, true, false, ◌==◌, not, List, [], ◌∷◌, ◌++◌, length, take, drop}
use Rattle.std.proofs.Common.{get_or, refl, arith, ap, ◌∙◌, sym, ℤ, Option, Some, codes, length-append, ◌⊎◌, inl, inr}
use Rattle.std.proofs.Math.Seq.{take-append_seam, drop-append-add}
use Rattle.std.proofs.lemmas.List.{get_or_at, take_at, drop_at}
use Rattle.civil_time.specs.Calendar.{is_instant}
use Rattle.mbox_items.specs.Separator.{IsSenderText, is_sender_token, joined_by_spaces}
use Rattle.mbox_items.specs.Written.{IsEnvelope}
use Rattle.mbox_items.specs.Senders.{IsPlaceOfAt, IsSender, sender_text}
use Rattle.mbox_items.specs.declared.senders.Sender.{Sender}
use Rattle.mbox_items.specs.declared.senders.Sender.TheVariants.{One, At}
use Rattle.civil_time.proofs.DateLemmas.{both}
use Rattle.mbox_items.proofs.RunLemmas.{is_run, is_plain, sender_run}

-- what is written of a sender is a written form
pub sender_is : (s : Sender) → IsSender s → IsSenderText (sender_text s)
sender_is (One t) h = (t.now ∷ [], (h, refl))
sender_is (At a b) h = (a.now ∷ codes "at" ∷ b.now ∷ [], ((h.0, refl, h.1), refl))

-- a text that is written of a sender
pub written_is : (s : Sender) (text : List ℕ) → IsSender s → text ≡ sender_text s → IsSenderText text
written_is s text h e = rw e (sender_is s h)

-- the place behind the first of two tokens, in the text that is written of them
pub place_is : (left right : List ℕ) → is_sender_token left ≡ true → is_sender_token right ≡ true
    → IsPlaceOfAt (Some (length left)) (joined_by_spaces (left ∷ codes "at" ∷ right ∷ []))
place_is left right l r =
    let behind : List ℕ = codes " at " ++ right in
    rw (take-append_seam left behind) (rw (drop-append-add left behind 4) ((l, refl, r), refl))

-- the same place, in a text that is written of the sender
pub place_in : (s : Sender) (place : Option ℕ) (text : List ℕ) → (IsSender s → IsPlaceOfAt place (sender_text s)) → IsSender s → text ≡ sender_text s
    → IsPlaceOfAt place text
place_in s place text at h e = rw e (at h)

pub envelope_is : (s : Sender) (z : ℤ) → IsSender s → is_instant z ≡ true → IsEnvelope (record { sender = sender_text s; arrival = z })
envelope_is s z h g = record { is_sender_text = sender_is s h; arrival_is_instant = g }

-- ---- the first space of a text that two tokens write

-- no byte of a token is a space
no_space : (t : List ℕ) (r : List ℕ) (k : ℕ) → is_run t ≡ true → k < length t → (get_or (t ++ r) k 0 == 32) ≡ false
no_space [] r k h lt = absurd (let bad : suc k ≤ 0 = lt in omega (arith, bad))
no_space (b ∷ t) r zero h lt = other b (both (is_plain b) (is_run t) h).0
  where
    other : (b : ℕ) → is_plain b ≡ true → (b == 32) ≡ false
    other b h = not_true (b == 32) (both (not (b == 32)) (not (b == 10)) h).0
      where
        not_true : (c : Bool) → not c ≡ true → c ≡ false
        not_true true h = sym h
        not_true false h = refl
no_space (b ∷ t) r (suc k) h lt = no_space t r k (both (is_plain b) (is_run t) h).1 (let g : suc (suc k) ≤ suc (length t) = lt in omega (arith, g))

-- so the first space stands behind the first token
pub first_space : (text t r : List ℕ) (k : ℕ) → text ≡ t ++ 32 ∷ r → is_run t ≡ true
    → ((j : ℕ) → j < k → (get_or text j 0 == 32) ≡ true → ⊥) → (get_or text k 0 == 32) ≡ true → k ≡ length t
first_space text t r k e run none here = go (let c : (k < length t) ⊎ ((k ≡ length t) ⊎ (length t < k)) = grind arith in c)
  where
    go : (k < length t) ⊎ ((k ≡ length t) ⊎ (length t < k)) → k ≡ length t
    go (inl lt) = let bad : true ≡ false = sym here ∙ ap (λ x. get_or x k 0 == 32) e ∙ no_space t (32 ∷ r) k run lt in absurd (cc)
    go (inr (inl same)) = same
    go (inr (inr gt)) = absurd (none (length t) gt (ap (λ x. x == 32) (ap (λ x. get_or x (length t) 0) e ∙ get_or_at t 32 r 0 (length t) refl)))

pub space_at : (text t r : List ℕ) → text ≡ t ++ 32 ∷ r → (length t < length text) × ((get_or text (length t) 0 == 32) ≡ true)
space_at text t r e = (
  omega (arith, ap length e, length-append t (32 ∷ r)),
  ap (λ x. x == 32) (ap (λ x. get_or x (length t) 0) e ∙ get_or_at t 32 r 0 (length t) refl),
)

-- what stands before that space, and what from there on
pub cut_at : (text left right : List ℕ) (k : ℕ) → text ≡ joined_by_spaces (left ∷ codes "at" ∷ right ∷ []) → is_sender_token left ≡ true
    → ((j : ℕ) → j < k → (get_or text j 0 == 32) ≡ true → ⊥) → (get_or text k 0 == 32) ≡ true → (take k text ≡ left) × (drop k text ≡ codes " at " ++ right)
cut_at text left right k e is none here =
    let rest : List ℕ = codes "at" ++ 32 ∷ right in
    let same : k ≡ length left = first_space text left rest k e (sender_run left is) none here in (
      ap (take k) e ∙ take_at left (32 ∷ rest) k (sym same),
      ap (drop k) e ∙ drop_at left (32 ∷ rest) k (sym same),
    )
