-- A date says the same whenever its message arrived.
use Rattle.std.proofs.Common.{◌≡◌, ℕ, ℤ, pos, ◌+ℤ◌, ◌*ℤ◌, Bool, true, false, List, sym, ◌∙◌, refl, Option, Some, None, unwrap_or}
use Rattle.std.specs.Ordering.{int_eq}
use Rattle.std.specs.Cmp.{signed_Decides}
use Rattle.civil_time.specs.Calendar.{checked_instant}
use Rattle.mail_core.specs.Sent.{date_at, without_weekday, utc_seconds_of_time, sent_date_of_body}
use Rattle.mail_core.specs.DateTokens.{Token, tokens_of}

-- the arrival stands where the body says no instant
says : (body : List ℕ) → (said : Option ℤ) × ((arrival : ℤ) → sent_date_of_body body arrival ≡ unwrap_or said arrival)
says body = go (date_at (without_weekday (tokens_of body)))
  where
    go : (date : Option (ℤ × List Token)) → (said : Option ℤ) × ((arrival : ℤ) → elim date [
      | None ↦ arrival
      | Some day ↦ unwrap_or (checked_instant ((day.0 *ℤ pos 86_400) +ℤ utc_seconds_of_time day.1)) arrival
    ] ≡ unwrap_or said arrival)
    go None = (None, λ arrival. refl)
    go (Some day) = (checked_instant ((day.0 *ℤ pos 86_400) +ℤ utc_seconds_of_time day.1), λ arrival. refl)

-- whether it says the same for two arrivals
abbrev alike : List ℕ → Bool
alike body = int_eq (sent_date_of_body body (pos 0)) (sent_date_of_body body (pos 1))

module _ (body : List ℕ) where
  pub dated : (a b : ℤ) → alike body ≡ true → sent_date_of_body body a ≡ sent_date_of_body body b
  dated a b e = go (says body)
    where
      go : (said : Option ℤ) × ((arrival : ℤ) → sent_date_of_body body arrival ≡ unwrap_or said arrival) → sent_date_of_body body a ≡ sent_date_of_body body b
      go (Some s, h) = h a ∙ sym (h b)
      go (None, h) = absurd (let bad : pos 0 ≡ pos 1 = sym (h (pos 0)) ∙ (signed_Decides (sent_date_of_body body (pos 0)) (sent_date_of_body body (pos 1))).0 e ∙ h (pos 1) in cc)

  pub undated : (a : ℤ) → alike body ≡ false → sent_date_of_body body a ≡ a
  undated a e = go (says body)
    where
      go : (said : Option ℤ) × ((arrival : ℤ) → sent_date_of_body body arrival ≡ unwrap_or said arrival) → sent_date_of_body body a ≡ a
      go (None, h) = h a
      go (Some s, h) = absurd (let same = (signed_Decides (sent_date_of_body body (pos 0)) (sent_date_of_body body (pos 1))).1 (h (pos 0) ∙ sym (h (pos 1))) in let bad : true ≡ false = sym
          same ∙ e in cc)
