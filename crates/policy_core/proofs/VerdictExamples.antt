-- Worked examples of verdicts. Day 12115 is 2003-03-04, and day 12143 is 2003-04-01.
use Rattle.std.proofs.Common.{◌≡◌, ℕ, pos, negsuc, List, [], ◌∷◌, Some, None, true, false, refl, codes}
use Rattle.policy_core.specs.declared.access.Standing.TheVariants.{Public, Member, Subscriber, Moderator}
use Rattle.policy_core.specs.declared.access.Withdrawn.TheVariants.{No, Author, Board}
use Rattle.policy_core.specs.Facts.{Facts, is_embargoed, age}
use Rattle.policy_core.specs.Rules.{lists, standings, withdrawn, embargo, age_min, from, until, own, Rule, fits, has_own_condition, open_rule}
use Rattle.policy_core.specs.Verdict.{allowed, denied, verdict_of}

-- a message of the list `soc` that arrived on 2003-03-04, asked for by the public on 2003-03-20
abbrev asked : Facts
asked = record {
  list = codes "soc";
  standing = Public;
  day = pos 12131;
  arrival_day = pos 12115;
  withdrawn = No;
  embargo_until = None;
  own = false;
}

-- a rule of this name that denies, without conditions
abbrev denies : List ℕ → Rule
denies name = record open_rule { name = name; allows = false }

abbrev withdrawn_rule : Rule
withdrawn_rule = record (denies (codes "withdrawn")) { conditions = standings (Public ∷ []) ∷ withdrawn (Author ∷ Board ∷ []) ∷ [] }

abbrev all_rule : Rule
all_rule = record open_rule { name = codes "all" }

-- the open policy allows, and a policy without rules denies
open_allows : verdict_of (open_rule ∷ []) asked ≡ allowed (codes "open")
open_allows = refl

no_rule_denies : verdict_of [] asked ≡ denied (codes "default")
no_rule_denies = refl

-- a withdrawn message is for members, subscribers and moderators alone
shown : verdict_of (withdrawn_rule ∷ all_rule ∷ []) asked ≡ allowed (codes "all")
shown = refl

withheld : verdict_of (withdrawn_rule ∷ all_rule ∷ []) (record asked { withdrawn = Author }) ≡ denied (codes "withdrawn")
withheld = refl

shown_to_a_moderator : verdict_of (withdrawn_rule ∷ all_rule ∷ []) (record asked { withdrawn = Author; standing = Moderator }) ≡ allowed (codes "all")
shown_to_a_moderator = refl

-- of two rules that fit, the first decides
first_denies : verdict_of (denies (codes "shut") ∷ all_rule ∷ []) asked ≡ denied (codes "shut")
first_denies = refl

first_allows : verdict_of (all_rule ∷ denies (codes "shut") ∷ []) asked ≡ allowed (codes "all")
first_allows = refl

-- an embargo until 2003-04-01 is on up to 2003-03-31
on_the_day_before : is_embargoed (record asked { day = pos 12142; embargo_until = Some (pos 12143) }) ≡ true
on_the_day_before = refl

off_on_its_day : is_embargoed (record asked { day = pos 12143; embargo_until = Some (pos 12143) }) ≡ false
off_on_its_day = refl

embargo_denies : verdict_of (record (denies (codes "embargo")) { conditions = embargo true ∷ [] } ∷ all_rule ∷ [])
    (record asked { day = pos 12142; embargo_until = Some (pos 12143) }) ≡ denied (codes "embargo")
embargo_denies = refl

embargo_over : verdict_of (record (denies (codes "embargo")) { conditions = embargo true ∷ [] } ∷ all_rule ∷ [])
    (record asked { day = pos 12143; embargo_until = Some (pos 12143) }) ≡ allowed (codes "all")
embargo_over = refl

without_embargo : fits (record all_rule { conditions = embargo false ∷ [] }) asked ≡ true
without_embargo = refl

-- the age is 16 days
old_enough : fits (record all_rule { conditions = age_min 16 ∷ [] }) asked ≡ true
old_enough = refl

too_young : fits (record all_rule { conditions = age_min 17 ∷ [] }) asked ≡ false
too_young = refl

-- a message that arrives after the reading day has a negative age
before_its_arrival : age (record asked { day = pos 12114 }) ≡ negsuc 0
before_its_arrival = refl

not_yet : fits (record all_rule { conditions = age_min 0 ∷ [] }) (record asked { day = pos 12114 }) ≡ false
not_yet = refl

-- `from` and `until` are both within
on_the_first_day : fits (record all_rule { conditions = from (pos 12131) ∷ [] }) asked ≡ true
on_the_first_day = refl

before_the_first_day : fits (record all_rule { conditions = from (pos 12132) ∷ [] }) asked ≡ false
before_the_first_day = refl

on_the_last_day : fits (record all_rule { conditions = until (pos 12131) ∷ [] }) asked ≡ true
on_the_last_day = refl

after_the_last_day : fits (record all_rule { conditions = until (pos 12130) ∷ [] }) asked ≡ false
after_the_last_day = refl

-- a rule for some lists and standings
for_this_list : fits (record all_rule { conditions = lists (codes "dev" ∷ codes "soc" ∷ []) ∷ [] }) asked ≡ true
for_this_list = refl

for_other_lists : fits (record all_rule { conditions = lists (codes "dev" ∷ codes "so" ∷ []) ∷ [] }) asked ≡ false
for_other_lists = refl

for_others : fits (record all_rule { conditions = standings (Member ∷ Subscriber ∷ Moderator ∷ []) ∷ [] }) asked ≡ false
for_others = refl

-- ---- own messages

abbrev mine_rule : Rule
mine_rule = record open_rule { name = codes "mine"; conditions = own true ∷ [] }

-- a message that the board withdrew: its author sees it by a first rule, nobody else does
abbrev withdrawn_asked : Facts
withdrawn_asked = record asked { withdrawn = Board }

its_author : verdict_of (mine_rule ∷ withdrawn_rule ∷ all_rule ∷ []) (record withdrawn_asked { own = true }) ≡ allowed (codes "mine")
its_author = refl

another : verdict_of (mine_rule ∷ withdrawn_rule ∷ all_rule ∷ []) withdrawn_asked ≡ denied (codes "withdrawn")
another = refl

-- a rule for what is not the reader's own
not_own : fits (record all_rule { conditions = own false ∷ [] }) asked ≡ true
not_own = refl

not_of_its_author : fits (record all_rule { conditions = own false ∷ [] }) (record asked { own = true }) ≡ false
not_of_its_author = refl

-- a rule for what is not the reader's own asks too
asked_by_either : (has_own_condition (all_rule ∷ mine_rule ∷ []) ≡ true) × (has_own_condition (record all_rule { conditions = own false ∷ [] } ∷ []) ≡ true)
asked_by_either = (refl, refl)

asked_by_none : has_own_condition (withdrawn_rule ∷ all_rule ∷ []) ≡ false
asked_by_none = refl
