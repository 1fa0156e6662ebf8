use Rattle.std.proofs.Common.{ap, ◌∙◌, true}
use Rattle.clap.specs.Simple.{app_of_fields, App}
use Rattle.archive_usage.specs.Program.{with_version_flag}
use Rattle.archive_usage.proofs.building.versioned.Goals as goal

pub returns : goal.returns
unfolding with_version_flag
returns c = λ app is. record {
  app_is = ap app_of_fields c.no_binary_name.ensures
      ∙ (ap (λ (a : App). record a { top = record a.top { no_binary_name = true } }) (ap app_of_fields c.version.ensures)
      ∙ ap (λ (a : App). record a { top = record a.top { has_version = true; no_binary_name = true } }) is.app_is);
  has_no_globals = ap (λ f. f.has_globals) c.no_binary_name.ensures ∙ (ap (λ f. f.has_globals) c.version.ensures ∙ is.has_no_globals);
}
