use Rattle.mail_core.proofs.MsgIdLemmas.{each_msg_id_has_one_reading}
use Rattle.mail_core.proofs.laws.each_msg_id_has_one_reading.Goals as goal

pub returns : goal.returns
returns c = each_msg_id_has_one_reading
