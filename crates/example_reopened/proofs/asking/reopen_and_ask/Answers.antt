use Rattle.archive_desk.specs.Faults.{ask_reason, refusal_reason}
use Rattle.example_reopened.specs.Reopening.{ShowsMonthAndThreads}
use Rattle.example_reopened.proofs.ReopenLemmas.{asks_again}
use Rattle.example_reopened.proofs.asking.reopen_and_ask.Goals as goal

pub returns-clause-answered : goal.returns-clause-answered
returns-clause-answered g c =
    asks_again c.args.store c.in-Ok.again c.month_and_threads-shown.new.store c.in-Ok.ensures.same refusal_reason (λ a. ask_reason a c.args.ask.now)
    (λ a shown. ShowsMonthAndThreads a c.args.ask.now c.args.asked shown.month.items shown.threads.items) c.month_and_threads-shown.result
    c.month_and_threads-shown.ensures.listed
