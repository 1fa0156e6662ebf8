use Rattle.std.proofs.Common.{refl}
use Rattle.sqlite.specs.Held.{state}
use Rattle.archive_store.proofs.AskLemmas.{begins, last_answer, last_ends}
use Rattle.archive_store.proofs.FindLemmas.{passes_to, rows_asked, never, up_passed}
use Rattle.archive_store.proofs.store.Store.has_list.Goals as goal

pub returns-clause-answer : goal.returns-clause-answer
returns-clause-answer g c =
    last_answer g.S.Store (begins g.S.Store c.args.self.now.conn) c.pass.result c.pass.ensures.passed c.pass.ensures.kind c.has_list-listed.ensures never (λ a found. refl)

pub returns-clause-ends : goal.returns-clause-ends
returns-clause-ends g c =
    last_ends g.S.Store (begins g.S.Store c.args.self.now.conn) c.pass.result c.pass.ensures.passed c.pass.ensures.kind c.has_list-listed.ensures c.pass.ensures.counted.0
    (λ more. more) (λ same bad. absurd bad) _

pub returns-clause-was_open : goal.returns-clause-was_open
returns-clause-was_open g c =
    up_passed g.S.Store c.args.self.now.conn c.has_list-listed.new.conn c.has_list-listed.result c.pass.result c.pass.ensures.passed c.pass.ensures.kind c.has_list-listed.ensures.ends_call.was_open

pub returns-clause-same : goal.returns-clause-same
returns-clause-same g c = λ clean.
    passes_to _ _ c.has_list-listed.result c.pass.result c.pass.ensures.passed
    (rows_asked (state g.S.Store c.args.self.now.conn) c.has_list-listed.result c.has_list-listed.ensures clean refl (λ kept. kept))
