use Rattle.archive_life.proofs.PeerLemmas.{reaches_no_peer}
use Rattle.archive_life.proofs.laws.a_hidden_message_reaches_no_peer.Goals as goal

pub returns : goal.returns
returns c = reaches_no_peer
