use Rattle.std.proofs.Common.{rules, ◌∷◌, [], ◌≡◌, sym, ◌∙◌, inl, inr, subst}
use Rattle.std.specs.Prelude.{option_map}
use Rattle.std.specs.Option.{IsSomeAnd}
use Rattle.sqlite.specs.Held.{state}
use Rattle.archive_model.specs.Commands.{no_list}
use Rattle.archive_model.specs.Questions.{list_refusal, message_of}
use Rattle.archive_model.specs.Messages.{archived_message}
use Rattle.archive_tables.specs.Tables.{archive_of}
use Rattle.archive_port.specs.Messages.{IsReadable}
use Rattle.archive_port.specs.Wanting.{IsMemoryRefusal}
use Rattle.archive_port.proofs.WantLemmas.{raises_after}
use Rattle.archive_store.proofs.AskLemmas.{begins, fails_answer, fails_ends, fails_list}
use Rattle.archive_store.proofs.FindLemmas.{more_since, asked_behind, blames, not_there, unrefused_for, up_behind, is_there}
use Rattle.archive_store.proofs.store.Store.row.Goals as goal

pub returns-in_err-has_list : goal.returns-in_err-has_list
returns-in_err-has_list g c =
    let stop = fails_list g.S.Store c.args.list.now c.in_err-has_list.field-0.0 c.in_err-has_list.ensures.ends c.in_err-has_list.ensures.answer (begins g.S.Store c.args.self.now.conn) in record {
      answer = fails_answer g.S.Store stop c.from_residual.result c.from_residual.ensures.1 _ _;
      ends = fails_ends g.S.Store stop c.in_err-has_list.ensures.ends.refusals_counted c.from_residual.result c.from_residual.ensures.1 inl _;
      was_open = search rules;
      writes_nothing = search rules;
    }

pub returns-then-not-branch-clause-answer : goal.returns-then-not-branch-clause-answer
returns-then-not-branch-clause-answer g c = λ clean kept.
    let has = c.in_ok-has_list.ensures.answer clean kept in
    (has.0, not_there c.args.list.now (archive_of (state g.S.Store c.args.self.now.conn)) (sym c.if-not-branch.true ∙ has.2))

pub returns-clause-answer : goal.returns-clause-answer
returns-clause-answer g c = λ clean kept.
    let list = c.args.list.now in
    let ends = c.find.ensures.ends in
    let has = c.in_ok-has_list.ensures.answer (ends.remains_open.disk_was_clean clean) kept in
    asked_behind g.S.Store c.args.self.now.conn c.has_list.new.self.conn c.find.new.self.conn
    (λ a found. option_map (archived_message list) found ≡ message_of a list c.args.key.now) (λ a. list_refusal a list) c.find.result ends.refusal_is_possible c.find.ensures.answer clean has.0
    (is_there list (archive_of (state g.S.Store c.args.self.now.conn)) (sym c.if-not-branch.false ∙ has.2))

pub returns-clause-ends : goal.returns-clause-ends
returns-clause-ends g c =
    let ends = c.find.ensures.ends in
    let lasts = c.has_list.ensures.ends.remains_open in record {
      remains_open = search rules;
      was_open = search rules;
      refusal_is_possible = unrefused_for c.find.result (no_list ∷ []) ends.refusal_is_possible;
      refusals_counted = raises_after IsMemoryRefusal _ _ _ c.find.result c.in_ok-has_list.ensures.ends.refusals_counted.0 ends.refusals_counted;
      fault_has_cause = λ clean kept free.
          let has = c.in_ok-has_list.ensures.answer (ends.remains_open.disk_was_clean clean) kept in
          blames c.find.result
          (λ why. elim why [
            | inl more ↦ inl (more_since (state g.S.Store c.args.self.now.conn) (state g.S.Store c.has_list.new.self.conn) (state g.S.Store c.find.new.self.conn) lasts more)
            | inr unread ↦ inr (subst (λ a. IsSomeAnd (message_of a c.args.list.now c.args.key.now) (λ m. ¬ IsReadable m)) has.0.1 unread)
          ])
          (ends.fault_has_cause clean has.0.0 (lasts.step_limit_is_same ∙ free));
    }

pub returns-clause-was_open : goal.returns-clause-was_open
returns-clause-was_open g c = λ clean. up_behind c.find.result (c.in_ok-has_list.ensures.was_open (c.find.ensures.ends.remains_open.disk_was_clean clean))
