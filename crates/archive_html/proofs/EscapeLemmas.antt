-- What `percent_encoding` writes is what the definition of escapes says.
use Rattle.std.proofs.Common.{◌≡◌, ℕ, ◌<◌, ◌/◌, ◌%◌, Bool, true, false, not, List, [], ◌∷◌, ◌++◌, All, refl, ap, ◌∙◌, arith, if◌then◌else◌}
use Rattle.std.proofs.lemmas.Bool.{agree_below, agree_below_at}
use Rattle.std.proofs.lemmas.List.Elements.{All-head, All-tail}
use Rattle.percent_encoding.specs.AsciiSet.{should_percent_encode}
use Rattle.percent_encoding.specs.Percent.{percent_encode_byte, encode_byte, percent_encode}
use Rattle.percent_encoding.proofs.PercentLemmas.{IsByte}
use Rattle.archive_html.specs.declared.escapes.TheConstants.{RESERVED}
use Rattle.archive_html.specs.Links.{is_unreserved, hex_digit, percent_encoded_byte, percent_encoded}

-- the set holds each byte but the unreserved ones
reserved : agree_below (should_percent_encode RESERVED) (λ b. not (is_unreserved b)) 256 ≡ true
unfolding should_percent_encode
reserved = refl

same_escape : (b : ℕ) → b < 256 → percent_encode_byte b ≡ 37 ∷ hex_digit (b / 16) ∷ hex_digit (b % 16) ∷ []
unfolding percent_encode_byte
same_escape b small = let e : b / 16 % 16 ≡ b / 16 = omega arith in rw e refl

same_byte : (b : ℕ) → b < 256 → encode_byte RESERVED b ≡ percent_encoded_byte b
same_byte b small =
    let e : should_percent_encode RESERVED b ≡ not (is_unreserved b) = agree_below_at (should_percent_encode RESERVED) (λ k. not (is_unreserved k)) 256 b reserved small in
    cases (is_unreserved b) (should_percent_encode RESERVED b) e
  where
    cases : (kept test : Bool) → test ≡ not kept
        → (if test then percent_encode_byte b else b ∷ []) ≡ (if kept then b ∷ [] else 37 ∷ hex_digit (b / 16) ∷ hex_digit (b % 16) ∷ [])
    cases true test e = rw e refl
    cases false test e = rw e (same_escape b small)

pub encoded : (text : List ℕ) → All IsByte text → percent_encode RESERVED text ≡ percent_encoded text
unfolding percent_encode
encoded [] small = refl
encoded (b ∷ bs) small =
    ap (λ x. x ++ percent_encode RESERVED bs) (same_byte b (All-head IsByte b bs small))
    ∙ ap (λ x. percent_encoded_byte b ++ x) (encoded bs (All-tail IsByte b bs small))
