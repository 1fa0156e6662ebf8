-- The test of a rule and what it says in words.
use Rattle.std.proofs.Common.{◌≡◌, ◌∙◌, ℕ, ℤ, pos, Bool, true, false, cond, ◌||◌, T, List, [], ◌∷◌, ◌++◌, refl, sym, ap, subst, arith}
use Rattle.std.specs.Prelude.{codes, filter, bytes_eq, Contains, int_le, ◌≤ℤ◌}
use Rattle.std.specs.List.{list_all, list_any, slice_index_or, AllByRecursion}
use Rattle.std.specs.Int.Signed.{le_z_yes}
use Rattle.std.proofs.lemmas.Bool.{and_parts}
use Rattle.std.proofs.lemmas.Slice.Eq.{bytes_eq-Decides}
use Rattle.std.proofs.lemmas.List.Folds.{Any-from_list_any, list_any-from_Any}
use Rattle.policy_core.specs.declared.access.Standing.{Standing}
use Rattle.policy_core.specs.declared.access.Standing.TheVariants.{Public, Member, Subscriber, Moderator}
use Rattle.policy_core.specs.declared.access.Withdrawn.{Withdrawn}
use Rattle.policy_core.specs.declared.access.Withdrawn.TheVariants.{No, Author, Board}
use Rattle.policy_core.specs.Facts.{Facts, is_embargoed, age, same_standing, same_withdrawal}
use Rattle.policy_core.specs.Rules.{Condition, lists, standings, withdrawn, embargo, age_min, from, until, own, Rule, open_rule, has_own_condition, is_own_condition, condition_holds, same_bool, fits}
use Rattle.policy_core.specs.Verdict.{ConditionHolds, RuleFits, IsDecidedBy, allowed, denied, ruling_of_rule, ruling_of_first_rule, verdict_of}

-- ---- one condition

pub Contains-from_any : {X : Type 0} (eq : X → X → Bool) → ((a b : X) → eq a b ≡ true → a ≡ b) → (x : X) (xs : List X) → list_any (λ y. eq y x) xs ≡ true → Contains xs x
Contains-from_any eq sound x xs h =
    let found = Any-from_list_any (λ y. eq y x) xs h in
    (found.0, found.2, subst (λ z. slice_index_or xs found.0 z ≡ z) (sound found.1 x found.4) found.3)

pub any-from_Contains : {X : Type 0} (eq : X → X → Bool) → ((a : X) → eq a a ≡ true) → (x : X) (xs : List X) → Contains xs x → list_any (λ y. eq y x) xs ≡ true
any-from_Contains eq itself x xs h = list_any-from_Any (λ y. eq y x) xs (h.0, x, h.1, h.2, itself x)

same_standing-is : (a b : Standing) → same_standing a b ≡ true → a ≡ b
same_standing-is Public Public h = refl
same_standing-is Member Member h = refl
same_standing-is Subscriber Subscriber h = refl
same_standing-is Moderator Moderator h = refl
same_standing-is Public Member h = cc
same_standing-is Public Subscriber h = cc
same_standing-is Public Moderator h = cc
same_standing-is Member Public h = cc
same_standing-is Member Subscriber h = cc
same_standing-is Member Moderator h = cc
same_standing-is Subscriber Public h = cc
same_standing-is Subscriber Member h = cc
same_standing-is Subscriber Moderator h = cc
same_standing-is Moderator Public h = cc
same_standing-is Moderator Member h = cc
same_standing-is Moderator Subscriber h = cc

same_standing-itself : (a : Standing) → same_standing a a ≡ true
same_standing-itself Public = refl
same_standing-itself Member = refl
same_standing-itself Subscriber = refl
same_standing-itself Moderator = refl

same_withdrawal-is : (a b : Withdrawn) → same_withdrawal a b ≡ true → a ≡ b
same_withdrawal-is No No h = refl
same_withdrawal-is Author Author h = refl
same_withdrawal-is Board Board h = refl
same_withdrawal-is No Author h = cc
same_withdrawal-is No Board h = cc
same_withdrawal-is Author No h = cc
same_withdrawal-is Author Board h = cc
same_withdrawal-is Board No h = cc
same_withdrawal-is Board Author h = cc

same_withdrawal-itself : (a : Withdrawn) → same_withdrawal a a ≡ true
same_withdrawal-itself No = refl
same_withdrawal-itself Author = refl
same_withdrawal-itself Board = refl

same_bool-is : (a b : Bool) → same_bool a b ≡ true → a ≡ b
same_bool-is true true h = refl
same_bool-is false false h = refl
same_bool-is true false h = cc
same_bool-is false true h = cc

same_bool-itself : (a b : Bool) → a ≡ b → same_bool a b ≡ true
same_bool-itself true true h = refl
same_bool-itself false false h = refl
same_bool-itself true false h = cc
same_bool-itself false true h = cc

le-from_int_le : (a b : ℤ) → int_le a b ≡ true → a ≤ℤ b
le-from_int_le a b h = le_z_yes (subst (λ t. T t) (sym h) tt)

T_true : (b : Bool) → T b → b ≡ true
T_true true h = refl
T_true false h = absurd h

int_le-from_le : (a b : ℤ) → a ≤ℤ b → int_le a b ≡ true
int_le-from_le a b h = T_true (int_le a b) h.le

bytes_eq-is : (a b : List ℕ) → bytes_eq a b ≡ true → a ≡ b
bytes_eq-is a b h = grind (arith, bytes_eq-Decides)

bytes_eq-itself : (a : List ℕ) → bytes_eq a a ≡ true
bytes_eq-itself a = grind (arith, bytes_eq-Decides)

Holds-from_holds : (condition : Condition) (f : Facts) → condition_holds condition f ≡ true → ConditionHolds condition f
Holds-from_holds (lists names) f h = Contains-from_any bytes_eq bytes_eq-is f.list names h
Holds-from_holds (standings among) f h = Contains-from_any same_standing same_standing-is f.standing among h
Holds-from_holds (withdrawn among) f h = Contains-from_any same_withdrawal same_withdrawal-is f.withdrawn among h
Holds-from_holds (embargo on) f h = same_bool-is on (is_embargoed f) h
Holds-from_holds (age_min least) f h = le-from_int_le (pos least) (age f) h
Holds-from_holds (from first) f h = le-from_int_le first f.day h
Holds-from_holds (until last) f h = le-from_int_le f.day last h
Holds-from_holds (own stated) f h = same_bool-is stated f.own h

holds-from_Holds : (condition : Condition) (f : Facts) → ConditionHolds condition f → condition_holds condition f ≡ true
holds-from_Holds (lists names) f h = any-from_Contains bytes_eq bytes_eq-itself f.list names h
holds-from_Holds (standings among) f h = any-from_Contains same_standing same_standing-itself f.standing among h
holds-from_Holds (withdrawn among) f h = any-from_Contains same_withdrawal same_withdrawal-itself f.withdrawn among h
holds-from_Holds (embargo on) f h = same_bool-itself on (is_embargoed f) h
holds-from_Holds (age_min least) f h = int_le-from_le (pos least) (age f) h
holds-from_Holds (from first) f h = int_le-from_le first f.day h
holds-from_Holds (until last) f h = int_le-from_le f.day last h
holds-from_Holds (own stated) f h = same_bool-itself stated f.own h

-- ---- all conditions

pub Fits-from_fits : (r : Rule) (f : Facts) → fits r f ≡ true → RuleFits r f
Fits-from_fits r f h = each r.conditions h
  where
    each : (conditions : List Condition) → list_all (λ condition. condition_holds condition f) conditions ≡ true → AllByRecursion (λ condition. ConditionHolds condition f) conditions
    each [] h = tt
    each (condition ∷ conditions) h = let both = and_parts _ _ h in (Holds-from_holds condition f both.0, each conditions both.1)

pub fits-from_Fits : (r : Rule) (f : Facts) → RuleFits r f → fits r f ≡ true
fits-from_Fits r f h = each r.conditions h
  where
    each : (conditions : List Condition) → AllByRecursion (λ condition. ConditionHolds condition f) conditions → list_all (λ condition. condition_holds condition f) conditions ≡ true
    each [] h = refl
    each (condition ∷ conditions) h = rw (holds-from_Holds condition f h.0) (each conditions h.1)

misfit : (r : Rule) (f : Facts) → ¬ RuleFits r f → (b : Bool) → fits r f ≡ b → fits r f ≡ false
misfit r f none true is = absurd (none (Fits-from_fits r f is))
misfit r f none false is = is

-- ---- whether a message is the reader's own

or_false : (a b : Bool) → (a || b) ≡ false → (a ≡ false) × (b ≡ false)
or_false false b is = (refl, is)
or_false true b is = absurd (cc)

unasked_condition : (condition : Condition) (f : Facts) (o : Bool) → is_own_condition condition ≡ false → condition_holds condition (record f { own = o }) ≡ condition_holds condition f
unasked_condition (lists names) f o none = refl
unasked_condition (standings among) f o none = refl
unasked_condition (withdrawn among) f o none = refl
unasked_condition (embargo on) f o none = refl
unasked_condition (age_min least) f o none = refl
unasked_condition (from first) f o none = refl
unasked_condition (until last) f o none = refl
unasked_condition (own stated) f o none = absurd (cc)

unasked_fit : (r : Rule) (f : Facts) (o : Bool) → list_any is_own_condition r.conditions ≡ false → fits r (record f { own = o }) ≡ fits r f
unasked_fit r f o none = each r.conditions none
  where
    each : (conditions : List Condition) → list_any is_own_condition conditions ≡ false
        → list_all (λ condition. condition_holds condition (record f { own = o })) conditions ≡ list_all (λ condition. condition_holds condition f) conditions
    each [] none = refl
    each (condition ∷ conditions) none =
        let parts = or_false (is_own_condition condition) (list_any is_own_condition conditions) none in
        rw (unasked_condition condition f o parts.0, each conditions parts.1) refl

pub unasked : (rules : List Rule) (f : Facts) (o : Bool) → has_own_condition rules ≡ false → verdict_of rules (record f { own = o }) ≡ verdict_of rules f
unasked rules f o none = ap ruling_of_first_rule (alike rules none)
  where
    alike : (rules : List Rule) → has_own_condition rules ≡ false → filter (λ r. fits r (record f { own = o })) rules ≡ filter (λ r. fits r f) rules
    alike [] is = refl
    alike (r ∷ rules) is =
        let both = or_false (list_any is_own_condition r.conditions) (has_own_condition rules) is in
        rw (unasked_fit r f o both.0) (ap (λ (rest : List Rule). cond (fits r f) (r ∷ rest) rest) (alike rules both.1))

pub unasked_by : (rules : List Rule) (result : Bool) → result ≡ has_own_condition rules → result ≡ false → (f : Facts) (o : Bool) → verdict_of rules (record f { own = o }) ≡ verdict_of rules f
unasked_by rules result value none = λ f own. unasked rules f own (sym value ∙ none)

-- ---- which rule decides

decided-front : (before after : List Rule) (r : Rule) (f : Facts) → AllByRecursion (λ q. ¬ RuleFits q f) before → RuleFits r f
    → verdict_of (before ++ r ∷ after) f ≡ ruling_of_rule r
decided-front [] after r f none fit = rw (fits-from_Fits r f fit) refl
decided-front (q ∷ before) after r f none fit = rw (misfit q f none.0 _ refl) (decided-front before after r f none.1 fit)

pub decided : (rules : List Rule) (r : Rule) (f : Facts) → IsDecidedBy rules f r → verdict_of rules f ≡ ruling_of_rule r
decided rules r f h = rw h.rules_are (decided-front h.rules_before h.rules_after r f h.none_fits_before h.fits_facts)

pub undecided : (rules : List Rule) (f : Facts) → AllByRecursion (λ q. ¬ RuleFits q f) rules → verdict_of rules f ≡ denied (codes "default")
undecided [] f none = refl
undecided (q ∷ rules) f none = rw (misfit q f none.0 _ refl) (undecided rules f none.1)

pub decided-open : (rules : List Rule) (r : Rule) (f : Facts) → rules ≡ open_rule ∷ [] → IsDecidedBy rules f r → allowed (codes "open") ≡ ruling_of_rule r
decided-open rules r f is h =
    let value : allowed (codes "open") ≡ verdict_of rules f = rw is refl in
    value ∙ decided rules r f h
