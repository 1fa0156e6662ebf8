-- The sample policies as they are written, and what it is to hide what is withheld. (profile: the archive's own rules of access)
use Rattle.std.specs.Prelude.{◌≡◌, ◌≢◌, ℕ, List, ◌++◌, codes, true, false, Ok}
use Rattle.policy_core.specs.declared.access.Standing.TheVariants.{Moderator}
use Rattle.policy_core.specs.declared.access.Withdrawn.TheVariants.{No}
use Rattle.policy_core.specs.Facts.{is_embargoed}
use Rattle.policy_core.specs.Rules.{Rule}
use Rattle.policy_core.specs.Written.{written_policy}
use Rattle.archive_results.specs.Access.{Ask, MessageFacts, ReaderFacts, policy_allows, policy_facts_of}

-- `samples/seeds.toml`
abbrev pub seeds_text : List ℕ
seeds_text =
    codes "# The public reads everything but what was withdrawn or is under embargo; moderators read all.\n\n[[rule]]\nname = \"moderators\"\neffect = \"allow\"\nstandings = [\"moderator\"]\n\n"
    ++ codes "[[rule]]\nname = \"withdrawn\"\neffect = \"deny\"\nwithdrawn = [\"author\", \"board\"]\n\n"
    ++ codes "[[rule]]\nname = \"embargo\"\neffect = \"deny\"\nembargo = true\n\n"
    ++ codes "[[rule]]\nname = \"open\"\neffect = \"allow\"\n"

-- `samples/members.toml`
abbrev pub members_text : List ℕ
members_text =
    codes "# Members read all, the public after ten days; moderators alone what was withdrawn or is under embargo.\n\n[[rule]]\nname = \"moderators\"\neffect = \"allow\"\nstandings = [\"moderator\"]\n\n"
    ++ codes "[[rule]]\nname = \"withdrawn\"\neffect = \"deny\"\nwithdrawn = [\"author\", \"board\"]\n\n"
    ++ codes "[[rule]]\nname = \"embargo\"\neffect = \"deny\"\nembargo = true\n\n"
    ++ codes "[[rule]]\nname = \"members\"\neffect = \"allow\"\nstandings = [\"member\", \"subscriber\"]\n\n"
    ++ codes "[[rule]]\nname = \"public-later\"\neffect = \"allow\"\nage_min = 10\n"

-- A text is a policy, and under it, on each list and day, whoever is no moderator there is denied what is withdrawn and what is held
-- back on the day, also where it is their own.
pub record HidesFromAllButModerators (text : List ℕ) : Type 0 where
  pub rules : List Rule
  pub is_policy : written_policy text ≡ Ok rules
  pub hides_withdrawn : (ask : Ask) (reader : ReaderFacts) (marks : MessageFacts) → ask.rules ≡ rules → reader.standing ≢ Moderator
      → marks.withdrawn ≢ No → policy_allows ask reader marks ≡ false
  pub hides_embargoed : (ask : Ask) (reader : ReaderFacts) (marks : MessageFacts) → ask.rules ≡ rules → reader.standing ≢ Moderator
      → is_embargoed (policy_facts_of ask reader marks) ≡ true → policy_allows ask reader marks ≡ false
