use Rattle.std.proofs.Common.{Err, Option, sym, subst}
use Rattle.archive_model.specs.declared.messages.Message.{Message}
use Rattle.archive_port.specs.Told.{archive_in}
use Rattle.archive_desk.specs.Walking.{IsMemoryOrDatabaseFault}
use Rattle.archive_cache.specs.Sending.{EndsMboxOfLines, RemembersAfterFault}
use Rattle.archive_cache.proofs.SendLemmas.{look_ends, looked_failed, unrefused}
use Rattle.archive_cache.proofs.sending.find_line.Goals as goal

pub returns-in-Err : goal.returns-in-Err
returns-in-Err g c =
    let old = c.args.store.now in
    let new = c.find.new.self in
    let list = c.args.list.now in
    let key = c.line.inside.key in
    let fault = c.in-Err.fault in
    let ends = c.in-Err.ensures.ends in record {
      found = λ returned held. subst (λ f. RemembersAfterFault g.S.ArchiveState new (archive_in g.S.ArchiveState old) f) (sym c.from.ensures)
          (looked_failed g.S.ArchiveState old new list key ends.remains_open fault c.in-Err.ensures.answer returned held);
      fault = subst IsMemoryOrDatabaseFault (sym c.from.ensures) (unrefused fault ends.refusal_is_possible);
      ends = subst (λ f. EndsMboxOfLines g.S.ArchiveState old new list {A = Option Message} (λ x. x) (Err f)) (sym c.from.ensures)
          (look_ends g.S.ArchiveState old new list key ends.remains_open fault c.find.ensures.writes_nothing ends.refusals_counted ends.fault_has_cause);
    }
