use Rattle.std.proofs.Common.{rules, ◌≡◌, Ok, refl, sym, ◌∙◌}
use Rattle.archive_listen.specs.Connections.{connection_transcript}
use Rattle.archive_listen.proofs.serving.answer_connection.Goals as goal

pub returns-in-Err : goal.returns-in-Err
returns-in-Err g c =
    let begins = g.met.O.BufferedSink.begins c.flush.new.self in
    let same : g.O.Sink.told c.flush.new.self ≡ g.O.Sink.told c.answer.new.output = c.in-Err.ensures.told in
    record {
      transcript = connection_transcript (g.I.Source.told c.answer.new.input) (g.I.Source.ends c.answer.new.input) (g.I.Source.failures c.answer.new.input)
          (g.O.Sink.told c.answer.new.output) (g.O.Sink.failures c.answer.new.output);
      answer = Ok c.in_ok-status.status;
      is_answered = search rules;
      read_is_transcript = refl;
      written_is_transcript = same;
      client_receives = (c.in-Err.ensures.cause, (begins.0, sym same ∙ begins.1));
    }
