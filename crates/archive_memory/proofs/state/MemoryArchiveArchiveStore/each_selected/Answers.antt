use Rattle.std.proofs.Common.{◌≡◌, ◌∙◌, ap, sym, subst, refl, rules, arith, map, Some, None, not, if◌then◌else◌, List}
use Rattle.std.proofs.lemmas.Result.{IfOk-at_ok}
use Rattle.archive_model.specs.Commands.{no_list}
use Rattle.archive_model.specs.Questions.{has_list, list_refusal}
use Rattle.archive_port.specs.Walking.{selected_messages}
use Rattle.archive_memory.specs.Entries.{indexed_in, message_in}
use Rattle.archive_memory.specs.Selecting.{ShowMessages, selected_in_order}
use Rattle.archive_memory.specs.State.{archive_in_memory}
use Rattle.archive_memory.specs.declared.entries.MessageEntry.{MessageEntry}
use Rattle.archive_memory.proofs.SelectLemmas.{selected_are, selected_of_list, shown_at}
use Rattle.archive_memory.proofs.StateLemmas.{lasts}
use Rattle.archive_memory.proofs.state.MemoryArchiveArchiveStore.each_selected.Goals as goal

pub returns-clause-begun : goal.returns-clause-begun
returns-clause-begun c =
    let a = archive_in_memory c.args.self.now in
    let list = c.args.list.now in
    let which = c.args.which.now in
    let entries = c.args.self.now.messages.items in
    let places = c.in_ok-places.places.items in
    let known : c.has_list.result ≡ has_list a list = cc in
    let free : list_refusal a list ≡ None = ap (λ b. if not b then Some no_list else None) (sym known ∙ c.if-not-has_list.false) in
    let shown = subst (λ (es : List MessageEntry). ShowMessages (map message_in es) places (selected_in_order list which (map indexed_in es))) c.deref-2.ensures.value
    (IfOk-at_ok _ c.in_ok-places.ensures.0 c.select_places-selected.ensures) in
    record {
      remains_open = lasts c.args.self.now (record c.args.self.now { refusals = c.pass.new.self });
      was_open = search rules;
      refusal_count_grows = omega (arith, c.in_ok-places.ensures.1);
      begins_over_archive = λ clean held. (
        free,
        record {
          is_archive_at_rest = held;
          archive_is = refl;
          remaining = selected_messages a list which;
          gives_remaining = shown_at (map message_in entries) places (selected_in_order list which (map indexed_in entries)) shown ∙ ap (map Some) (selected_are c.args.self.now list which);
          given_and_remaining = refl;
          all_are_of_list = selected_of_list list which a;
        },
      );
    }
