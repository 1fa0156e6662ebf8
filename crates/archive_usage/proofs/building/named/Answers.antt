use Rattle.std.proofs.Common.{ap, ◌∙◌}
use Rattle.clap.specs.Simple.{app_of_fields}
use Rattle.archive_usage.proofs.building.named.Goals as goal

pub returns : goal.returns
returns c = λ app is. record {
  app_is = ap app_of_fields c.in_ok-named.ensures.0 ∙ is.app_is;
  has_no_globals = ap (λ f. f.has_globals) c.in_ok-named.ensures.0 ∙ is.has_no_globals;
}
