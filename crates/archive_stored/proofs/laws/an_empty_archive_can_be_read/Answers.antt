use Rattle.std.specs.Prelude.{IsUtf8}
use Rattle.std.proofs.lemmas.List.Elements.{All-nil}
use Rattle.archive_model.specs.Records.{Address, Person}
use Rattle.archive_port.specs.Messages.{IsReadable}
use Rattle.archive_desk.specs.Readable.{HasStandingRank}
use Rattle.archive_stored.proofs.laws.an_empty_archive_can_be_read.Goals as goal

pub returns : goal.returns
returns c = record {
  lists = All-nil IsUtf8;
  persons = All-nil (λ (p : Person). IsUtf8 p.name);
  messages = All-nil IsReadable;
  grants = All-nil HasStandingRank;
  addresses = All-nil (λ (a : Address). IsUtf8 a.address);
}
