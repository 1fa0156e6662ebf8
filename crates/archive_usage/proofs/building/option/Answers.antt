use Rattle.std.proofs.Common.{◌∙◌, ap, Some, Bool}
use Rattle.clap.specs.Words.{Rule, rule_of}
use Rattle.clap.specs.declared.builder.Arg.{Arg}
use Rattle.archive_usage.specs.Program.{option_rule}
use Rattle.archive_usage.proofs.building.option.Goals as goal

pub returns : goal.returns
unfolding option_rule
returns c =
    let global : Arg → Bool = λ a. a.global in
    record {
      rule_is = ap rule_of c.long.ensures ∙ ap (λ (r : Rule). record r { long = Some c.args.name.now }) c.valued.ensures.rule_is;
      is_not_global = ap global c.long.ensures ∙ c.valued.ensures.is_not_global;
    }
