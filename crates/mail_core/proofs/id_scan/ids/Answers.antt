use Rattle.std.proofs.Common.{length, take_all}
use Rattle.mail_core.specs.MsgIds.{ids_of}
use Rattle.mail_core.proofs.ScanLemmas.{ids-few}
use Rattle.mail_core.proofs.id_scan.ids.Goals as goal

pub returns : goal.returns
returns c = rw (take_all (length c.args.text.now) (ids_of c.args.text.now) (ids-few 0 c.args.text.now)) at c.scan.ensures
