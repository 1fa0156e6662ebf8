use Rattle.std.proofs.Common.{◌∙◌, ap, Bool}
use Rattle.clap.specs.Words.{Rule, rule_of}
use Rattle.clap.specs.declared.builder.Arg.{Arg}
use Rattle.archive_usage.specs.Program.{valued_rule}
use Rattle.archive_usage.proofs.building.valued.Goals as goal

pub returns : goal.returns
unfolding valued_rule
returns c =
    let global : Arg → Bool = λ a. a.global in
    record {
      rule_is = ap rule_of c.help.ensures ∙ (ap rule_of c.value_name.ensures ∙ ap (λ (r : Rule). record r { value_names = 1 }) c.new.ensures.rule);
      is_not_global = ap global c.help.ensures ∙ (ap global c.value_name.ensures ∙ c.new.ensures.optional.1);
    }
