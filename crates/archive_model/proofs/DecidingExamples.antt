-- Worked examples of what refuses a command, by what was found of its names.
use Rattle.std.proofs.Common.{◌≡◌, List, [], ◌∷◌, pos, true, false, refl, codes, None}
use Rattle.archive_model.specs.Commands.{person_add, withdraw, lift, bad_name, bad_text, person_exists, token_taken, no_list, no_message, already_withdrawn, was_there, refused}
use Rattle.archive_model.specs.Records.{Archive}
use Rattle.archive_model.specs.Machine.{no_command_facts, command_facts_of, refuse_if, guarded_replies_of, reply_if_carried_out, step}
use Rattle.archive_model.specs.declared.found.CommandFacts.{CommandFacts}

abbrev archive : Archive
archive = record {
  lists = codes "soc" ∷ [];
  persons = [];
  grants = [];
  messages = record { list = codes "soc"; key = codes "k1"; sender = codes "a@b"; arrival = pos 0; text = []; withdrawn = pos 1; embargo = None } ∷ [];
  index_columns = [];
  options = [];
  addresses = [];
}

what_is_found : command_facts_of archive (withdraw (codes "soc") (codes "k1") (pos 2)) ≡ record no_command_facts { list = true; message = true; withdrawn = true }
what_is_found = refl

of_another_list : command_facts_of archive (withdraw (codes "a") (codes "k1") (pos 2)) ≡ no_command_facts
of_another_list = refl

in_this_order : (found : CommandFacts) → guarded_replies_of (person_add (codes "Anna") (codes "x")) found
    ≡ refuse_if true bad_name ∷ refuse_if true bad_text ∷ refuse_if found.person person_exists ∷ refuse_if found.token token_taken ∷ []
in_this_order found = refl

withdrawn_already : step archive (withdraw (codes "soc") (codes "k1") (pos 2)) ≡ (archive, refused already_withdrawn)
withdrawn_already = refl

no_such_list : step archive (withdraw (codes "a") (codes "k1") (pos 2)) ≡ (archive, refused no_list)
no_such_list = refl

no_embargo_to_lift : reply_if_carried_out (lift (codes "soc") (codes "k1")) (command_facts_of archive (lift (codes "soc") (codes "k1"))) ≡ was_there false
no_embargo_to_lift = refl
