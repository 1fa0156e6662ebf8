use Rattle.std.proofs.Common.{◌≡◌, rules}
use Rattle.archive_listen.specs.Connections.{connection_transcript}
use Rattle.archive_serve.specs.Pages.{connection_result_of}
use Rattle.archive_serve.proofs.KeptLemmas.{answers_kept}
use Rattle.archive_serve.proofs.pages.PageServiceService.answer.Goals.{in-Ok, in-Err-Read, in-Err-Write, in-Err-Broken}
use Rattle.archive_serve.proofs.pages.PageServiceService.answer.Goals as goal

pub returns : goal.returns
returns g c =
    let answer = c.answer_cached-answered in
    let ends : c.match-answered.result ≡ connection_result_of answer.result = elim c.match-answered.branch [
      | in-Ok w ↦ search rules
      | in-Err-Read w ↦ search rules
      | in-Err-Write w ↦ search rules
      | in-Err-Broken w ↦ search rules
    ] in
    rw (← c.self.view_is) (answers_kept g.S.ArchiveState c.self.inside.pages answer.new.pages c.args.state.now answer.new.store
    (connection_transcript (g.R.Source.told c.args.input.now) (g.R.Source.ends c.args.input.now) (g.R.Source.failures c.args.input.now) (g.W.Sink.told c.args.output.now)
    (g.W.Sink.failures c.args.output.now))
    (connection_transcript (g.R.Source.told answer.new.input) (g.R.Source.ends answer.new.input) (g.R.Source.failures answer.new.input) (g.W.Sink.told answer.new.output)
    (g.W.Sink.failures answer.new.output))
    answer.result c.match-answered.result ends answer.ensures.answered answer.ensures.keeps answer.ensures.ends.stays answer.ensures.ends.writes_nothing answer.ensures.ends.quiet
    answer.ensures.ends.cause answer.ensures.caused answer.ensures.unrouted)
