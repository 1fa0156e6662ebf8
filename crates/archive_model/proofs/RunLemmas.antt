-- What every change keeps, each command keeps, and so do commands one after the other.
use Rattle.std.proofs.Common.{◌≡◌, ℕ, ℤ, Bool, true, false, refl, ap, List, [], ◌∷◌, ◌++◌, length, pos, Option, Some, None, if◌then◌else◌}
use Rattle.std.specs.Prelude.{not, map, filter, int_lt, nat_le}
use Rattle.std.specs.List.{All}
use Rattle.std.proofs.lemmas.List.Elements.{All-head, All-tail}
use Rattle.policy_core.specs.Names.{is_name}
use Rattle.mbox_items.specs.Division.{Item}
use Rattle.archive_model.specs.Records.{Person, Grant, Archive}
use Rattle.archive_model.specs.Commands.{Command, list_add, person_add, grant, revoke, add, withdraw, restore, embargo, lift, merge_set, address_set, CommandReply}
use Rattle.archive_model.specs.Keys.{item_key}
use Rattle.archive_model.specs.BearerTokens.{is_token}
use Rattle.archive_model.specs.Addresses.{is_address, normalize_address}
use Rattle.archive_model.specs.Questions.{has_list, has_person, has_token, is_grant_of_rank, has_message, message_of, messages_in, is_withdrawn}
use Rattle.archive_model.specs.Machine.{StepOutcome, default_list_option, with_merge_setting, addresses_with, grants_with, with_message}
use Rattle.archive_model.specs.Machine.{is_too_large, message_limit, with_changed_message, with_withdrawal, with_embargo, step}
use Rattle.archive_model.specs.Runs.{run}

-- each command keeps P, where Q holds of the command
pub record EachCommandKeeps (P : Archive → Type 0) (Q : Command → Type 0) : Type 0 where
  pub lists : (a : Archive) (name : List ℕ) → Q (list_add name) → is_name name ≡ true → has_list a name ≡ false → P a
      → P (record a { lists = a.lists ++ name ∷ []; options = a.options ++ default_list_option name ∷ [] })
  pub persons : (a : Archive) (name token : List ℕ) → Q (person_add name token) → is_name name ≡ true → is_token token ≡ true → has_person a name ≡ false
      → has_token a token ≡ false → P a → P (record a { persons = a.persons ++ record { name = name; token = token } ∷ [] })
  pub grants : (a : Archive) (g : Grant) → Q (grant g.person g.list g.rank g.from_day g.until_day) → P a → P (record a { grants = grants_with a g })
  pub revokes : (a : Archive) (person list : List ℕ) (rank : ℤ) → Q (revoke person list rank) → P a
      → P (record a { grants = filter (λ g. not (is_grant_of_rank person list rank g)) a.grants })
  pub messages : (a : Archive) (list : List ℕ) (item : Item) → Q (add list item) → has_message a list (item_key item) ≡ false → P a
      → P (with_message a list item)
  pub withdrawals : (a : Archive) (list key : List ℕ) (party : ℤ) → Q (withdraw list key party) → is_withdrawn (message_of a list key) ≡ false → P a
      → P (with_changed_message a list key (with_withdrawal party))
  pub restores : (a : Archive) (list key : List ℕ) → Q (restore list key) → P a → P (with_changed_message a list key (with_withdrawal (pos 0)))
  pub embargoes : (a : Archive) (list key : List ℕ) (until : ℤ) → Q (embargo list key until) → P a → P (with_changed_message a list key (with_embargo (Some until)))
  pub lifts : (a : Archive) (list key : List ℕ) → Q (lift list key) → P a → P (with_changed_message a list key (with_embargo None))
  pub merges : (a : Archive) (list : List ℕ) (merge : Bool) → Q (merge_set list merge) → P a
      → P (record a { options = map (with_merge_setting list merge) a.options })
  pub addresses : (a : Archive) (person address : List ℕ) → Q (address_set person address) → is_address address ≡ true → P a
      → P (record a { addresses = addresses_with a (record { person = person; address = normalize_address address }) })

-- each change that a command can make keeps P, where Q holds of the command
pub record EachChangeKeeps (P : Archive → Type 0) (Q : Command → Type 0) : Type 0 where
  pub lists : (a : Archive) (name : List ℕ) → is_name name ≡ true → has_list a name ≡ false → P a
      → P (record a { lists = a.lists ++ name ∷ []; options = a.options ++ default_list_option name ∷ [] })
  pub persons : (a : Archive) (p : Person) → is_name p.name ≡ true → is_token p.token ≡ true → has_person a p.name ≡ false → has_token a p.token ≡ false → P a
      → P (record a { persons = a.persons ++ p ∷ [] })
  pub grants : (a : Archive) (g : Grant) → P a → P (record a { grants = grants_with a g })
  pub revokes : (a : Archive) (person list : List ℕ) (rank : ℤ) → P a
      → P (record a { grants = filter (λ g. not (is_grant_of_rank person list rank g)) a.grants })
  pub messages : (a : Archive) (list : List ℕ) (item : Item) → Q (add list item) → has_message a list (item_key item) ≡ false → P a
      → P (with_message a list item)
  pub withdrawals : (a : Archive) (list key : List ℕ) (party : ℤ) → P a → P (with_changed_message a list key (with_withdrawal party))
  pub embargoes : (a : Archive) (list key : List ℕ) (until : Option ℤ) → P a → P (with_changed_message a list key (with_embargo until))
  pub merges : (a : Archive) (list : List ℕ) (merge : Bool) → P a → P (record a { options = map (with_merge_setting list merge) a.options })
  pub addresses : (a : Archive) (person address : List ℕ) → is_address address ≡ true → P a
      → P (record a { addresses = addresses_with a (record { person = person; address = normalize_address address }) })

is_so : (b : Bool) → not b ≡ false → b ≡ true
is_so true h = refl
is_so false h = absurd cc

module _ (P : Archive → Type 0) (Q : Command → Type 0) (kept : EachCommandKeeps P Q) where
  -- an answer that changes nothing, or else another outcome
  unless : (a : Archive) → P a → (b : Bool) (reply : CommandReply) (other : StepOutcome) → (b ≡ false → P other.0) → P (if b then (a, reply) else other).0
  unless a p true reply other later = p
  unless a p false reply other later = later refl

  pub step_keeps : (a : Archive) (command : Command) → Q command → P a → P (step a command).0
  step_keeps a (list_add name) q p =
      unless a p (not (is_name name)) _ _ (λ named. unless a p (has_list a name) _ _ (λ new. kept.lists a name q (is_so (is_name name) named) new p))
  step_keeps a (person_add name token) q p =
      unless a p (not (is_name name)) _ _ (λ named. unless a p (not (is_token token)) _ _ (λ told.
      unless a p (has_person a name) _ _ (λ new. unless a p (has_token a token) _ _ (λ free.
      kept.persons a name token q (is_so (is_name name) named) (is_so (is_token token) told) new free p))))
  step_keeps a (grant person list rank from_day until_day) q p =
      let g : Grant = record { person = person; list = list; rank = rank; from_day = from_day; until_day = until_day } in
      unless a p (not (has_person a person)) _ _ (λ _. unless a p (not (has_list a list)) _ _ (λ _.
      unless a p (int_lt until_day from_day) _ _ (λ _. kept.grants a g q p)))
  step_keeps a (revoke person list rank) q p =
      unless a p (not (has_person a person)) _ _ (λ _. unless a p (not (has_list a list)) _ _ (λ _. kept.revokes a person list rank q p))
  step_keeps a (add list item) q p =
      unless a p (not (has_list a list)) _ _ (λ _. unless a p (is_too_large item) _ _ (λ _.
      unless a p (has_message a list (item_key item)) _ _ (λ new.
      unless a p (nat_le message_limit (length (messages_in a list))) _ _ (λ _. kept.messages a list item q new p))))
  step_keeps a (withdraw list key party) q p =
      unless a p (not (has_list a list)) _ _ (λ _. unless a p (not (has_message a list key)) _ _ (λ _.
      unless a p (is_withdrawn (message_of a list key)) _ _ (λ free. kept.withdrawals a list key party q free p)))
  step_keeps a (restore list key) q p =
      unless a p (not (has_list a list)) _ _ (λ _. unless a p (not (has_message a list key)) _ _ (λ _.
      unless a p (not (is_withdrawn (message_of a list key))) _ _ (λ _. kept.restores a list key q p)))
  step_keeps a (embargo list key until_day) q p =
      unless a p (not (has_list a list)) _ _ (λ _. unless a p (not (has_message a list key)) _ _ (λ _.
      kept.embargoes a list key until_day q p))
  step_keeps a (lift list key) q p =
      unless a p (not (has_list a list)) _ _ (λ _. unless a p (not (has_message a list key)) _ _ (λ _. kept.lifts a list key q p))
  step_keeps a (merge_set list merge) q p = unless a p (not (has_list a list)) _ _ (λ _. kept.merges a list merge q p)
  step_keeps a (address_set person address) q p =
      unless a p (not (has_person a person)) _ _ (λ _. unless a p (not (is_address address)) _ _ (λ told.
      kept.addresses a person address q (is_so (is_address address) told) p))

  pub run_keeps : (a : Archive) (commands : List Command) → All Q commands → P a → P (run a commands).archive
  unfolding run
  run_keeps a [] all p = p
  run_keeps a (command ∷ commands) all p =
      run_keeps (step a command).0 commands (All-tail Q command commands all) (step_keeps a command (All-head Q command commands all) p)

-- what each change keeps, each command keeps
module _ (P : Archive → Type 0) (Q : Command → Type 0) (kept : EachChangeKeeps P Q) where
  by_commands : EachCommandKeeps P Q
  by_commands = record {
    lists = λ a name _. kept.lists a name;
    persons = λ a name token _. kept.persons a (record { name = name; token = token });
    grants = λ a g _. kept.grants a g;
    revokes = λ a person list rank _. kept.revokes a person list rank;
    messages = λ a list item. kept.messages a list item;
    withdrawals = λ a list key party _ _. kept.withdrawals a list key party;
    restores = λ a list key _. kept.withdrawals a list key (pos 0);
    embargoes = λ a list key until _. kept.embargoes a list key (Some until);
    lifts = λ a list key _. kept.embargoes a list key None;
    merges = λ a list merge _. kept.merges a list merge;
    addresses = λ a person address _. kept.addresses a person address;
  }

  pub kept_by_steps : (a : Archive) (command : Command) → Q command → P a → P (step a command).0
  kept_by_steps = step_keeps P Q by_commands

  pub kept_by_runs : (a : Archive) (commands : List Command) → All Q commands → P a → P (run a commands).archive
  kept_by_runs = run_keeps P Q by_commands

-- ---- some commands and then others

pub archive_of_both : (a : Archive) (xs ys : List Command) → (run a (xs ++ ys)).archive ≡ (run (run a xs).archive ys).archive
unfolding run
archive_of_both a [] ys = refl
archive_of_both a (x ∷ xs) ys = archive_of_both (step a x).0 xs ys

pub replies_of_both : (a : Archive) (xs ys : List Command) → (run a (xs ++ ys)).replies ≡ (run a xs).replies ++ (run (run a xs).archive ys).replies
unfolding run
replies_of_both a [] ys = refl
replies_of_both a (x ∷ xs) ys = ap (λ (rs : List CommandReply). (step a x).1 ∷ rs) (replies_of_both (step a x).0 xs ys)
