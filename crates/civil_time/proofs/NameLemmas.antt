-- Names as they are written are read.
use Rattle.std.proofs.Common.{◌≡◌, ℕ, zero, suc, ◌+◌, ◌<◌, true, refl, arith, Some}
use Rattle.civil_time.specs.Names.{month_of_name, is_day_name, name_at, weekday_names, month_names}

pub weekday_read : (n : ℕ) → n < 7 → is_day_name (name_at n weekday_names) ≡ true
unfolding is_day_name
weekday_read zero h = refl
weekday_read (suc zero) h = refl
weekday_read (suc (suc zero)) h = refl
weekday_read (suc (suc (suc zero))) h = refl
weekday_read (suc (suc (suc (suc zero)))) h = refl
weekday_read (suc (suc (suc (suc (suc zero))))) h = refl
weekday_read (suc (suc (suc (suc (suc (suc zero)))))) h = refl
weekday_read (suc (suc (suc (suc (suc (suc (suc n))))))) h = absurd (omega (arith, h))

pub month_read : (n : ℕ) → n < 12 → month_of_name (name_at n month_names) ≡ Some (n + 1)
unfolding month_of_name
month_read zero h = refl
month_read (suc zero) h = refl
month_read (suc (suc zero)) h = refl
month_read (suc (suc (suc zero))) h = refl
month_read (suc (suc (suc (suc zero)))) h = refl
month_read (suc (suc (suc (suc (suc zero))))) h = refl
month_read (suc (suc (suc (suc (suc (suc zero)))))) h = refl
month_read (suc (suc (suc (suc (suc (suc (suc zero))))))) h = refl
month_read (suc (suc (suc (suc (suc (suc (suc (suc zero)))))))) h = refl
month_read (suc (suc (suc (suc (suc (suc (suc (suc (suc zero))))))))) h = refl
month_read (suc (suc (suc (suc (suc (suc (suc (suc (suc (suc zero)))))))))) h = refl
month_read (suc (suc (suc (suc (suc (suc (suc (suc (suc (suc (suc zero))))))))))) h = refl
month_read (suc (suc (suc (suc (suc (suc (suc (suc (suc (suc (suc (suc n)))))))))))) h = absurd (omega (arith, h))
