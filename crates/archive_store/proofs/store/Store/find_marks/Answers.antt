use Rattle.std.proofs.Common.{◌≡◌, subst}
use Rattle.std.specs.Prelude.{option_map}
use Rattle.archive_model.specs.Questions.{message_of}
use Rattle.archive_tables.specs.Rows.{decoded_dated_marks}
use Rattle.archive_store.specs.Carrying.{ReadsArchive}
use Rattle.archive_store.proofs.CarryLemmas.{looks_passed}
use Rattle.archive_store.proofs.store.Store.find_marks.Goals as goal

pub returns : goal.returns
returns g c = subst (λ key. ReadsArchive g.S.Store c.args.self.now (record { conn = c.marks-found.new.conn; wants = c.pass.new.self }) c.pass.result
    (λ a marks. marks ≡ option_map decoded_dated_marks (message_of a c.args.list.now key)))
    c.as_str.ensures (looks_passed g.S.Store c.pass.ensures.passed c.pass.ensures.kind c.pass.ensures.counted.0 c.marks-found.ensures)
