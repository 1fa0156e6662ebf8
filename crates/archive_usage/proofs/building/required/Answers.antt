use Rattle.std.proofs.Common.{◌∙◌, ap, Bool, true}
use Rattle.clap.specs.Words.{Rule, rule_of}
use Rattle.clap.specs.declared.builder.Arg.{Arg}
use Rattle.archive_usage.specs.Program.{required_rule}
use Rattle.archive_usage.proofs.building.required.Goals as goal

pub returns : goal.returns
unfolding required_rule
returns c =
    let global : Arg → Bool = λ a. a.global in
    λ rule is. record {
      rule_is = ap rule_of c.required.ensures ∙ ap (λ (r : Rule). record r { required = true }) is.rule_is;
      is_not_global = ap global c.required.ensures ∙ is.is_not_global;
    }
