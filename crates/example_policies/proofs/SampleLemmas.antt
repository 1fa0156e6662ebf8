-- The rules of the sample policies, as their texts write them, and whom they deny what is withheld.
use Rattle.std.proofs.Common.{◌≡◌, ◌≢◌, ℕ, ℤ, List, [], ◌∷◌, Some, Result, Ok, Err, true, false, refl, sym, ap, ◌∙◌, codes, subst}
use Rattle.std.specs.Prelude.{int_lt}
use Rattle.toml.proofs.OnLiterals.{toml_on_literals}
use Rattle.policy_core.specs.declared.access.Standing.{Standing}
use Rattle.policy_core.specs.declared.access.Standing.TheVariants.{Public, Member, Subscriber, Moderator}
use Rattle.policy_core.specs.declared.access.Withdrawn.{Withdrawn}
use Rattle.policy_core.specs.declared.access.Withdrawn.TheVariants.{No, Author, Board}
use Rattle.policy_core.specs.declared.faults.PolicyFault.{PolicyFault}
use Rattle.policy_core.specs.Facts.{Facts, is_before_until, is_embargoed}
use Rattle.policy_core.specs.Rules.{standings, withdrawn, embargo, age_min, Rule, open_rule}
use Rattle.policy_core.specs.Verdict.{verdict_of}
use Rattle.policy_core.specs.Written.{written_policy}
use Rattle.policy_core.proofs.OnTrees.{on_trees}
use Rattle.archive_results.specs.Access.{Ask, ReaderFacts, policy_facts_of, is_allowed_ruling, ruling_on}
use Rattle.archive_results.specs.Promise.{DeniesWithdrawn, DeniesEmbargoed}
use Rattle.example_policies.specs.Samples.{HidesFromAllButModerators, members_text, seeds_text}

-- these rules behind those that let moderators read all, and nobody else what is withheld
abbrev hiding : List Rule → List Rule
hiding rest =
    record open_rule { name = codes "moderators"; conditions = standings (Moderator ∷ []) ∷ [] }
    ∷ record open_rule { name = codes "withdrawn"; allows = false; conditions = withdrawn (Author ∷ Board ∷ []) ∷ [] }
    ∷ record open_rule { name = codes "embargo"; allows = false; conditions = embargo true ∷ [] }
    ∷ rest

-- ---- whom they deny what is withheld

withdrawn_hidden : (rest : List Rule) (f : Facts) → f.standing ≢ Moderator → f.withdrawn ≢ No → is_allowed_ruling (verdict_of (hiding rest) f) ≡ false
withdrawn_hidden rest f = by f.standing f.withdrawn
  where
    by : (standing : Standing) (who : Withdrawn) → standing ≢ Moderator → who ≢ No
        → is_allowed_ruling (verdict_of (hiding rest) (record f { standing = standing; withdrawn = who })) ≡ false
    by Moderator who none some = absurd (none refl)
    by Public No none some = absurd (some refl)
    by Public Author none some = refl
    by Public Board none some = refl
    by Member No none some = absurd (some refl)
    by Member Author none some = refl
    by Member Board none some = refl
    by Subscriber No none some = absurd (some refl)
    by Subscriber Author none some = refl
    by Subscriber Board none some = refl

held_back_hidden : (rest : List Rule) (f : Facts) → f.standing ≢ Moderator → is_embargoed f ≡ true → is_allowed_ruling (verdict_of (hiding rest) f) ≡ false
held_back_hidden rest f none on = by f.standing f.withdrawn none
  where
    by : (standing : Standing) (who : Withdrawn) → standing ≢ Moderator
        → is_allowed_ruling (verdict_of (hiding rest) (record f { standing = standing; withdrawn = who })) ≡ false
    by Moderator who none = absurd (none refl)
    by Public No none = rw on refl
    by Public Author none = refl
    by Public Board none = refl
    by Member No none = rw on refl
    by Member Author none = refl
    by Member Board none = refl
    by Subscriber No none = rw on refl
    by Subscriber Author none = refl
    by Subscriber Board none = refl

hides : (rest : List Rule) (text : List ℕ) → written_policy text ≡ Ok (hiding rest) → HidesFromAllButModerators text
unfolding ruling_on
hides rest text is = record {
  rules = hiding rest;
  is_policy = is;
  hides_withdrawn = λ ask reader marks by none some.
      subst (λ (rules : List Rule). is_allowed_ruling (verdict_of rules (policy_facts_of ask reader marks)) ≡ false) (sym by) (withdrawn_hidden rest (policy_facts_of ask reader marks) none some);
  hides_embargoed = λ ask reader marks by none on.
      subst (λ (rules : List Rule). is_allowed_ruling (verdict_of rules (policy_facts_of ask reader marks)) ≡ false) (sym by) (held_back_hidden rest (policy_facts_of ask reader marks) none on);
}

-- ---- the samples

pub seeds : HidesFromAllButModerators seeds_text
unfolding toml_on_literals on_trees
seeds = hides (open_rule ∷ []) seeds_text refl

pub members : HidesFromAllButModerators members_text
unfolding toml_on_literals on_trees
members = hides
    (record open_rule { name = codes "members"; conditions = standings (Member ∷ Subscriber ∷ []) ∷ [] }
    ∷ record open_rule { name = codes "public-later"; conditions = age_min 10 ∷ [] } ∷ [])
    members_text refl

abbrev rules_in : Result (List Rule) PolicyFault → List Rule
rules_in (Ok rules) = rules
rules_in (Err fault) = []

pub promised : (text : List ℕ) (ask : Ask) (reader : ReaderFacts) → HidesFromAllButModerators text → written_policy text ≡ Ok ask.rules
    → reader.standing ≢ Moderator → DeniesWithdrawn ask reader
promised text ask reader hidden is none = λ marks some other. hidden.hides_withdrawn ask reader marks (ap rules_in (sym is ∙ hidden.is_policy)) none some

pub held_back : (text : List ℕ) (ask : Ask) (reader : ReaderFacts) (until : ℤ) → HidesFromAllButModerators text → written_policy text ≡ Ok ask.rules
    → reader.standing ≢ Moderator → int_lt ask.day until ≡ true → DeniesEmbargoed until ask reader
held_back text ask reader until hidden is none early =
    λ marks marked other. hidden.hides_embargoed ask reader marks (ap rules_in (sym is ∙ hidden.is_policy)) none (ap (is_before_until ask.day) marked ∙ early)
