use Rattle.archive_listen.specs.Serving.{service_answer_law}
use Rattle.archive_listen.proofs.GivenLemmas.{each_answered}
use Rattle.archive_listen.proofs.laws.each_accepted_connection_is_answered.Goals as goal

pub returns : goal.returns
returns g c = each_answered (service_answer_law g.V.Service.answers)
