use Rattle.std.proofs.Common.{rules, Ok, Err}
use Rattle.archive_listen.proofs.sockets.LoopbackListener.accept.Goals as goal

pub returns-in-Err-clause-accepts : goal.returns-in-Err-clause-accepts
returns-in-Err-clause-accepts g c = record { answer = Err c.in-Err.kind; state_is_after_call = search rules; fault_is_of_answer = search rules }

pub returns-clause-accepts : goal.returns-clause-accepts
returns-clause-accepts g c = record { answer = Ok c.in-Ok.given.at; state_is_after_call = search rules; fault_is_of_answer = search rules }
