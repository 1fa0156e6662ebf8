use Rattle.std.proofs.Common.{◌≡◌, filter}
use Rattle.archive_model.specs.Messages.{archived_message}
use Rattle.archive_results.specs.Access.{is_shown}
use Rattle.archive_desk.proofs.viewing.keep_shown.Given as goal

abbrev pub invariant-loop-message : goal.invariant-loop-message
invariant-loop-message l = l.kept.items ≡ filter (λ m. is_shown l.ask l.reader (archived_message l.ask.list m)) l.yielded
