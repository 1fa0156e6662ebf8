use Rattle.std.proofs.Common.{◌∙◌, ap}
use Rattle.clap.specs.Simple.{app_of_fields}
use Rattle.archive_usage.specs.Program.{CommandParsesAsApp}
use Rattle.archive_usage.proofs.building.described.Goals as goal

pub returns : goal.returns
returns c = λ app is. record {
  app_is = ap app_of_fields c.after_help.ensures ∙ (ap app_of_fields c.about.ensures ∙ is.app_is);
  has_no_globals = ap (λ f. f.has_globals) c.after_help.ensures ∙ (ap (λ f. f.has_globals) c.about.ensures ∙ is.has_no_globals);
}
