-- A text of token bytes and padding, read from the left.
use Rattle.std.proofs.Common.{◌≡◌, ℕ, ◌+◌, ◌<◌, ◌≤◌, true, false, List, [], ◌∷◌, length, drop, length-drop, suc, slice_index, refl, sym, ap, ◌∙◌, arith}
use Rattle.std.proofs.lemmas.List.{drop_more}
use Rattle.archive_model.specs.BearerTokens.{is_token_byte, is_token_bytes_then_padding, is_padding}

one_more : (b : ℕ) (bs : List ℕ) → is_token_byte b ≡ true → is_token_bytes_then_padding (b ∷ bs) ≡ is_token_bytes_then_padding bs
one_more b bs h = rw h refl

-- a token byte is passed over
pub is_padded-more : (bs : List ℕ) (at : ℕ) → at < length bs → is_token_byte (slice_index bs at) ≡ true → is_token_bytes_then_padding (drop at bs) ≡ is_token_bytes_then_padding (drop (at + 1) bs)
is_padded-more bs at lt h = ap is_token_bytes_then_padding (drop_more bs at 0 lt) ∙ one_more (slice_index bs at) (drop (at + 1) bs) h

-- from another byte on only padding is left
rest_is : (b : ℕ) (bs : List ℕ) → is_token_byte b ≡ false → is_token_bytes_then_padding (b ∷ bs) ≡ is_padding (b ∷ bs)
rest_is b bs h = rw h refl

pub is_padded-rest : (bs : List ℕ) (at : ℕ) → at < length bs → is_token_byte (slice_index bs at) ≡ false → is_token_bytes_then_padding (drop at bs) ≡ is_padding (drop at bs)
is_padded-rest bs at lt h =
    ap is_token_bytes_then_padding (drop_more bs at 0 lt) ∙ rest_is (slice_index bs at) (drop (at + 1) bs) h ∙ ap is_padding (sym (drop_more bs at 0 lt))

-- at the end nothing is left
nothing : (bs : List ℕ) → length bs ≡ 0 → is_token_bytes_then_padding bs ≡ is_padding bs
nothing [] h = refl
nothing (b ∷ bs) h = absurd (let bad : suc (length bs) ≡ 0 = h in omega (arith, bad))

pub is_padded-end : (bs : List ℕ) (at : ℕ) → length bs ≤ at → is_token_bytes_then_padding (drop at bs) ≡ is_padding (drop at bs)
is_padded-end bs at le = nothing (drop at bs) (length-drop at bs ∙ omega (arith, le))
