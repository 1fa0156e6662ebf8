use Rattle.std.proofs.Common.{◌∙◌, sym, subst, inl, inr, rules}
use Rattle.std.specs.Prelude.{find, IsUtf8}
use Rattle.std.specs.Option.{IsSomeAnd}
use Rattle.sqlite.specs.Held.{state}
use Rattle.archive_model.specs.Records.{Address, Archive}
use Rattle.archive_model.specs.Questions.{is_address_of, person_refusal}
use Rattle.archive_tables.specs.Tables.{archive_of}
use Rattle.archive_port.specs.Wanting.{IsMemoryRefusal}
use Rattle.archive_port.proofs.WantLemmas.{raises_after}
use Rattle.archive_store.proofs.AskLemmas.{asks, begins, fails, fails_answer, fails_ends, last_answer, last_ends}
use Rattle.archive_store.proofs.FindLemmas.{unread_in, passed_answer, is_person}
use Rattle.archive_store.proofs.store.Store.address.Goals as goal

pub returns-in_err-pass : goal.returns-in_err-pass
returns-in_err-pass g c =
    let stop = fails g.S.Store (begins g.S.Store c.args.self.now.conn) c.in_err-pass.field-0.0 c.has_person-known.ensures c.in_err-pass.ensures.passed c.in_err-pass.ensures.kind in record {
      answer = fails_answer g.S.Store stop c.from_residual.result c.from_residual.ensures.1 _ _;
      ends = fails_ends g.S.Store stop c.in_err-pass.ensures.counted.0 c.from_residual.result c.from_residual.ensures.1 inl _;
      writes_nothing = search rules;
    }

pub returns-then-not-branch-clause-answer : goal.returns-then-not-branch-clause-answer
returns-then-not-branch-clause-answer g c = λ clean kept.
    let it_1 = passed_answer c.has_person-known.ensures c.in_ok-pass.ensures.passed clean kept in
    search rules

pub returns : goal.returns
returns g c =
    let person = c.args.person.now in
    let known = asks g.S.Store (begins g.S.Store c.args.self.now.conn) c.has_person-known.ensures c.in_ok-pass.ensures.passed in record {
      answer = last_answer g.S.Store known c.pass-2.result c.pass-2.ensures.passed c.pass-2.ensures.kind c.find_address-found.ensures (λ a. person_refusal a person)
          (λ a it. is_person person a (sym c.if-not-branch.false ∙ it.1));
      ends = last_ends g.S.Store known c.pass-2.result c.pass-2.ensures.passed c.pass-2.ensures.kind c.find_address-found.ensures
          (raises_after IsMemoryRefusal _ _ _ c.pass-2.result c.in_ok-pass.ensures.counted.0.0 c.pass-2.ensures.counted.0) inl
          (λ same bad. inr (unread_in (λ (x : Address). x.address) (find (is_address_of person) (archive_of (state g.S.Store c.args.self.now.conn)).addresses)
          (subst (λ (a : Archive). IsSomeAnd (find (is_address_of person) a.addresses) (λ x. ¬ IsUtf8 x.address)) same bad))) _;
      writes_nothing = search rules;
    }
