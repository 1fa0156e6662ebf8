-- Worked examples of what a call of a device counts as.
use Rattle.std.proofs.Common.{◌≡◌, ℕ, [], ◌∷◌, refl, Ok, Err, lit<}
use Rattle.byte_device.specs.Device.{failures_of_read, ends_met_by_read, failures_of_write, TapState, ExceedsByteLimit}

a_read_of_two_bytes_is_no_end : ends_met_by_read {E = ℕ} (0 ∷ 0 ∷ 0 ∷ []) (Ok 2) ≡ 0
a_read_of_two_bytes_is_no_end = refl

a_read_of_none_is_the_end : ends_met_by_read {E = ℕ} (0 ∷ 0 ∷ 0 ∷ []) (Ok 0) ≡ 1
a_read_of_none_is_the_end = refl

a_read_without_room_is_no_end : ends_met_by_read {E = ℕ} [] (Ok 0) ≡ 0
a_read_without_room_is_no_end = refl

a_failed_read_is_no_end : ends_met_by_read {E = ℕ} (0 ∷ []) (Err 7) ≡ 0
a_failed_read_is_no_end = refl

a_failed_read_counts : failures_of_read {E = ℕ} (Err 7) ≡ 1
a_failed_read_counts = refl

the_end_is_no_failure : failures_of_read {E = ℕ} (Ok 0) ≡ 0
the_end_is_no_failure = refl

a_short_write_is_no_failure : failures_of_write {E = ℕ} (97 ∷ 98 ∷ []) (Ok 1) ≡ 0
a_short_write_is_no_failure = refl

a_write_of_no_byte_of_two_is_a_failure : failures_of_write {E = ℕ} (97 ∷ 98 ∷ []) (Ok 0) ≡ 1
a_write_of_no_byte_of_two_is_a_failure = refl

a_write_of_nothing_is_no_failure : failures_of_write {E = ℕ} [] (Ok 0) ≡ 0
a_write_of_nothing_is_no_failure = refl

a_failed_write_counts : failures_of_write {E = ℕ} (97 ∷ []) (Err 7) ≡ 1
a_failed_write_counts = refl

-- a device of two bytes that passed one and passes none any more
spent : TapState
spent = record { text = 97 ∷ 98 ∷ []; at = 1; left = 0; read = 97 ∷ []; written = []; failures = 0; ends = 0 }

it_is_stopped_at_the_next_byte : ExceedsByteLimit spent (0 ∷ [])
unfolding spent
it_is_stopped_at_the_next_byte = (refl, lit< tt)
