-- The verdict of a list of rules: the first rule that fits decides.
use Rattle.std.specs.Prelude.{◌≡◌, ℕ, pos, ◌≤ℤ◌, Contains, ◌++◌, List, [], ◌∷◌, filter, codes, if◌then◌else◌}
use Rattle.policy_core.specs.declared.access.Verdict.{Verdict}
use Rattle.policy_core.specs.declared.access.Verdict.TheVariants.{Allowed, Denied}
use Rattle.std.specs.List.{AllByRecursion}
use Rattle.policy_core.specs.Facts.{Facts, is_embargoed, age}
use Rattle.policy_core.specs.Rules.{Condition, lists, standings, withdrawn, embargo, age_min, from, until, own, Rule, fits}

-- Profile: a verdict, allowed or denied, with the name of the rule that decided; a denial because none fits has the name `default`
pub data Ruling : Type 0 where
  allowed : List ℕ → Ruling
  denied : List ℕ → Ruling

-- what a verdict says
abbrev pub ruling_of_verdict : Verdict → Ruling
ruling_of_verdict (Allowed name) = allowed name.now
ruling_of_verdict (Denied name) = denied name.now

-- the effect and the name of a rule
abbrev pub ruling_of_rule : Rule → Ruling
ruling_of_rule r = if r.allows then allowed r.name else denied r.name

-- what the head of the fitting rules says; where none fits, a denial by `default`
abbrev pub ruling_of_first_rule : List Rule → Ruling
ruling_of_first_rule [] = denied (codes "default")
ruling_of_first_rule (r ∷ rs) = ruling_of_rule r

-- Profile: the first rule that fits decides, whatever stands behind it; where none fits, the message is denied by `default`
abbrev pub verdict_of : List Rule → Facts → Ruling
verdict_of rules f = ruling_of_first_rule (filter (λ r. fits r f) rules)

-- ---- the same in words: which rule decides

-- A condition holds.
abbrev pub ConditionHolds : Condition → Facts → Type 0
ConditionHolds (lists names) f = Contains names f.list
ConditionHolds (standings among) f = Contains among f.standing
ConditionHolds (withdrawn among) f = Contains among f.withdrawn
ConditionHolds (embargo on) f = on ≡ is_embargoed f
ConditionHolds (age_min least) f = pos least ≤ℤ age f
ConditionHolds (from first) f = first ≤ℤ f.day
ConditionHolds (until last) f = f.day ≤ℤ last
ConditionHolds (own stated) f = stated ≡ f.own

-- A rule fits: each condition that it states holds.
abbrev pub RuleFits : Rule → Facts → Type 0
RuleFits r f = AllByRecursion (λ condition. ConditionHolds condition f) r.conditions

-- A rule decides: it fits, and no rule before it does.
pub record IsDecidedBy (rules : List Rule) (f : Facts) (r : Rule) : Type 0 where
  pub rules_before : List Rule
  pub rules_after : List Rule
  pub rules_are : rules ≡ rules_before ++ r ∷ rules_after
  pub none_fits_before : AllByRecursion (λ q. ¬ RuleFits q f) rules_before
  pub fits_facts : RuleFits r f
