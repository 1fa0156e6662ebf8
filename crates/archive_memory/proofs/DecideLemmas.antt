-- The tests of the code are those of the machine.
use Rattle.std.proofs.Common.{◌≡◌, Bool, true, false, List, [], ◌∷◌, Some, refl, ap, ◌∙◌, if◌then◌else◌}
use Rattle.std.specs.Prelude.{⊤, option_map, find}
use Rattle.archive_model.specs.Machine.{GuardedReply}
use Rattle.archive_memory.specs.Deciding.{first_passing_reply, reply_without_change}
use Rattle.archive_memory.specs.declared.deciding.Settled.{Settled}

-- tests of the code and of the machine, one by one
abbrev pub Alike : List (Bool × Settled) → List GuardedReply → Type 0
Alike [] [] = ⊤
Alike (row ∷ rows) (test ∷ tests) = (row.0 ≡ test.0) × (reply_without_change row.1 ≡ Some test.1) × Alike rows tests
Alike _ _ = ⊥

pub rows_alike : (rows : List (Bool × Settled)) (tests : List GuardedReply) → Alike rows tests
    → option_map reply_without_change (option_map (λ row. row.1) (find (λ row. row.0) rows)) ≡ option_map Some (first_passing_reply tests)
rows_alike [] [] alike = refl
rows_alike [] (test ∷ tests) alike = absurd alike
rows_alike (row ∷ rows) [] alike = absurd alike
rows_alike (row ∷ rows) (test ∷ tests) alike =
    go row.0 (rows_alike rows tests alike.2) ∙ ap (λ b. option_map Some (if b then Some test.1 else first_passing_reply tests)) alike.0
  where
    go : (b : Bool) → option_map reply_without_change (option_map (λ row. row.1) (find (λ row. row.0) rows)) ≡ option_map Some (first_passing_reply tests)
        → option_map reply_without_change (option_map (λ row. row.1) (if b then Some row else find (λ row. row.0) rows)) ≡ option_map Some (if b then Some test.1 else first_passing_reply tests)
    go true later = ap Some alike.1
    go false later = later
