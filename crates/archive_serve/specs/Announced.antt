-- What is said before the first connection.
use Rattle.std.specs.Prelude.{◌≡◌, ℕ, List, ◌++◌, codes, decimal}

-- the line that says where the archive listens
abbrev pub listening_line : (port : ℕ) → List ℕ
listening_line port = codes "listening on 127.0.0.1:" ++ decimal port ++ codes "\n"

-- that line went out, and all that was written was passed on
abbrev pub WritesListeningLine : (port : ℕ) → (before after passed : List ℕ) → Type 0
WritesListeningLine port before after passed = (after ≡ before ++ listening_line port) × (passed ≡ after)
