-- What a command reads once an argument or a command is added to it.
use Rattle.std.proofs.Common.{ap, ◌∙◌, ◌||◌}
use Rattle.clap.specs.Words.{AddsArg, AddsSubcommand, App, Rule, rule_of, shape_of, with_rule, with_subcommand}
use Rattle.clap.specs.declared.builder.Arg.{Arg}
use Rattle.clap.specs.declared.builder.Command.{Command}
use Rattle.clap.specs.declared.builder.Command.TheViews.{out-Command}
use Rattle.archive_usage.specs.Program.{ArgParsesByRule, CommandParsesAsApp}

pub with_rule_added : {command more : Command} {arg : Arg} → AddsArg command arg more
    → (app : App) (rule : Rule) → CommandParsesAsApp app command → ArgParsesByRule rule arg → CommandParsesAsApp (with_rule app rule) more
with_rule_added {command} {more} {arg} adds app rule is of = record {
  app_is = adds.shape of.is_not_global ∙ (ap (λ old. with_rule old (rule_of arg)) is.app_is ∙ ap (λ new. with_rule app new) of.rule_is);
  has_no_globals = adds.globals ∙ (ap (λ old. old || arg.global) is.has_no_globals ∙ of.is_not_global);
}

pub with_subcommand_added : {program command more : Command} → AddsSubcommand program command more
    → (app sub : App) → CommandParsesAsApp app program → CommandParsesAsApp sub command → CommandParsesAsApp (with_subcommand app sub.top) more
with_subcommand_added {program} {command} adds app sub is of = record {
  app_is = adds.shape of.has_no_globals ∙ (ap (λ old. with_subcommand old (shape_of command)) is.app_is ∙ ap (λ new. with_subcommand app new.top) of.app_is);
  has_no_globals = adds.globals ∙ (ap (λ old. old || (out-Command command).has_globals) is.has_no_globals ∙ of.has_no_globals);
}
