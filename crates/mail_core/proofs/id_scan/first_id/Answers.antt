use Rattle.std.proofs.Common.{rules}
use Rattle.mail_core.specs.MsgIds.{ids_of}
use Rattle.mail_core.proofs.ScanLemmas.{first_some}
use Rattle.mail_core.proofs.id_scan.first_id.Goals as goal

pub returns : goal.returns
returns c = first_some (ids_of c.args.text.now) c.in_ok-found.found c.in_ok-try_owned.field-0 c.get.result c.in_ok-found.ensures (search rules) c.get.ensures c.in_ok-try_owned.ensures
