-- Worked examples of which messages pass.
use Rattle.std.specs.Prelude.{◌≡◌, ℕ, ℤ, pos, [], ◌∷◌, codes, true, false, Option, Some, None}
use Rattle.std.proofs.Common.{refl}
use Rattle.policy_core.specs.Rules.{open_rule}
use Rattle.policy_core.specs.declared.access.Standing.TheVariants.{Public}
use Rattle.mbox_core.specs.Division.{Item}
use Rattle.mbox_core.specs.Written.{written}
use Rattle.sift_run.specs.Sifting.{SiftConditions, message_passes, filtered_text}

-- a message that arrived on 4 March 2003 at 10:00, and one on 12 March at 10:30
abbrev early : Item
early = record { envelope = record { sender = codes "anna@example.org"; arrival = pos 1046772000 }; text = codes "One." }

abbrev late : Item
late = record { envelope = record { sender = codes "bob@example.org"; arrival = pos 1047465000 }; text = [] }

-- asked on a day, 12131 being 20 March 2003, for a least age
abbrev asked_on : ℤ → Option ℕ → SiftConditions
asked_on day min_age = record { list = codes "inbox"; standing = Public; day = day; min_age = min_age }

just_of_the_age : message_passes (open_rule ∷ []) (asked_on (pos 12131) (Some 16)) early ≡ true
just_of_the_age = refl

a_day_too_young : message_passes (open_rule ∷ []) (asked_on (pos 12131) (Some 17)) early ≡ false
a_day_too_young = refl

of_any_age : message_passes (open_rule ∷ []) (asked_on (pos 0) None) early ≡ true
of_any_age = refl

-- its age is negative
before_it_arrives : message_passes (open_rule ∷ []) (asked_on (pos 12114) (Some 0)) early ≡ false
before_it_arrives = refl

-- where no rule fits, the verdict is a denial
by_no_rule : message_passes [] (asked_on (pos 12131) None) early ≡ false
by_no_rule = refl

the_older_of_two : filtered_text (open_rule ∷ []) (asked_on (pos 12131) (Some 10)) (early ∷ late ∷ [])
    ≡ written (early ∷ [])
the_older_of_two = refl

both_in_order : filtered_text (open_rule ∷ []) (asked_on (pos 12131) (Some 8)) (early ∷ late ∷ [])
    ≡ written (early ∷ late ∷ [])
both_in_order = refl
