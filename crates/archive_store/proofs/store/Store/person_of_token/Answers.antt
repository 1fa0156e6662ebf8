use Rattle.std.proofs.Common.{refl, inl, inr}
use Rattle.std.specs.Prelude.{bytes_eq, find}
use Rattle.sqlite.specs.Held.{state}
use Rattle.archive_model.specs.Records.{Person}
use Rattle.archive_tables.specs.Tables.{archive_of}
use Rattle.archive_store.proofs.AskLemmas.{begins, last_answer, last_ends}
use Rattle.archive_store.proofs.FindLemmas.{never, unread_in}
use Rattle.archive_store.proofs.store.Store.person_of_token.Goals as goal

pub returns-clause-answer : goal.returns-clause-answer
returns-clause-answer g c =
    last_answer g.S.Store (begins g.S.Store c.args.self.now.conn) c.pass.result c.pass.ensures.passed c.pass.ensures.kind c.person_of_token-name.ensures never (λ a found. refl)

pub returns-clause-ends : goal.returns-clause-ends
returns-clause-ends g c =
    last_ends g.S.Store (begins g.S.Store c.args.self.now.conn) c.pass.result c.pass.ensures.passed c.pass.ensures.kind c.person_of_token-name.ensures c.pass.ensures.counted.0 inl
    (λ same bad. inr (unread_in (λ (p : Person). p.name) (find (λ (p : Person). bytes_eq p.token c.args.token.now) (archive_of (state g.S.Store c.args.self.now.conn)).persons) bad)) _
