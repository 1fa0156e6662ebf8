use Rattle.std.proofs.Common.{◌≡◌, List, map, Ok, Err}
use Rattle.archive_model.specs.Questions.{merge_of}
use Rattle.archive_port.proofs.Joins.{asks_too}
use Rattle.archive_results.specs.Access.{view_of}
use Rattle.archive_results.specs.Results.{TreeLine, month_lines, tree_lines}
use Rattle.archive_results.specs.Shown.{shown_message}
use Rattle.archive_desk.specs.Faults.{ask_reason, refusal_reason}
use Rattle.example_reopened.proofs.ReopenLemmas.{both_asked}
use Rattle.example_reopened.proofs.asking.month_and_threads.Goals as goal

pub returns-in-Ok-threads-clause-listed : goal.returns-in-Ok-threads-clause-listed
returns-in-Ok-threads-clause-listed g c =
    both_asked g.S.ArchiveState c.args.store.now c.month.new.store c.threads.new.store refusal_reason (λ a. ask_reason a c.args.ask.now)
    (λ a. c.in-Ok.lines.items ≡ month_lines c.args.asked (map shown_message (view_of a c.args.ask.now)))
    (λ a (rows : List TreeLine). rows ≡ tree_lines (merge_of a c.args.ask.now.list) (map shown_message (view_of a c.args.ask.now)))
    (Ok c.in-Ok-threads.rows.items) c.in-Ok.ensures.listed
    (asks_too g.S.ArchiveState c.month.new.store c.threads.new.store refusal_reason (Ok c.in-Ok-threads.rows.items) (λ a. ask_reason a c.args.ask.now)
    (λ a (rows : List TreeLine). rows ≡ tree_lines (merge_of a c.args.ask.now.list) (map shown_message (view_of a c.args.ask.now))) c.in-Ok-threads.ensures.listed)

pub returns-in-Err-threads-clause-listed : goal.returns-in-Err-threads-clause-listed
returns-in-Err-threads-clause-listed g c =
    both_asked g.S.ArchiveState c.args.store.now c.month.new.store c.threads.new.store refusal_reason (λ a. ask_reason a c.args.ask.now)
    (λ a. c.in-Ok.lines.items ≡ month_lines c.args.asked (map shown_message (view_of a c.args.ask.now)))
    (λ a (rows : List TreeLine). rows ≡ tree_lines (merge_of a c.args.ask.now.list) (map shown_message (view_of a c.args.ask.now)))
    (Err c.in-Err-threads.fault) c.in-Ok.ensures.listed
    (asks_too g.S.ArchiveState c.month.new.store c.threads.new.store refusal_reason (Err c.in-Err-threads.fault) (λ a. ask_reason a c.args.ask.now)
    (λ a (rows : List TreeLine). rows ≡ tree_lines (merge_of a c.args.ask.now.list) (map shown_message (view_of a c.args.ask.now))) c.in-Err-threads.ensures.listed)
