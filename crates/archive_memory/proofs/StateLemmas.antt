-- An archive in memory in the words of the layers above.
use Rattle.std.proofs.Common.{◌≡◌, ◌+◌, ◌&&◌, ℕ, Bool, true, false, List, [], ◌∷◌, map, take, refl, ap, ap₂, cond, sym, subst, ◌∙◌, arith, inl, Option, Some, None, Result, Ok, Err}
use Rattle.std.specs.Prelude.{⊤, IfOk, IsTrue, bytes_eq, IsErr, MatchOption, MatchResult, find, option_map, string_bytes}
use Rattle.std.specs.List.{All}
use Rattle.std.proofs.lemmas.List.Elements.{All-map, All-take}
use Rattle.std.proofs.lemmas.Slice.Eq.{bytes_eq-Decides}
use Rattle.mbox_items.specs.Division.{Item}
use Rattle.mbox_items.specs.Written.{IsItem}
use Rattle.archive_model.specs.Commands.{Command, CommandReply, Refusal, add}
use Rattle.archive_model.specs.Machine.{StepOutcome, step}
use Rattle.archive_model.specs.Runs.{taken}
use Rattle.archive_model.specs.Sound.{AddsWritableItem}
use Rattle.archive_model.specs.declared.found.CommandFacts.{CommandFacts}
use Rattle.archive_model.specs.Messages.{archived_message}
use Rattle.archive_model.specs.Questions.{is_message_at_key}
use Rattle.archive_model.specs.Records.{Archive, Message}
use Rattle.archive_model.specs.declared.messages.Message.{Message as Given}
use Rattle.archive_model.proofs.ListedLemmas.{sound_is_whole}
use Rattle.archive_port.specs.Adding.{AddsAllMessages, IsRefusedAt}
use Rattle.archive_port.specs.Commands.{reply_unless_refused}
use Rattle.archive_port.specs.Checking.{PassesCheck}
use Rattle.archive_port.specs.Replies.{refusal_of_fault, reply_of_result}
use Rattle.archive_port.specs.Told.{AnswersStoreQuestion, PerformsModelStep, StaysOpenUnlessDiskFails}
use Rattle.archive_port.specs.declared.faults.StoreFault.{StoreFault}
use Rattle.archive_port.specs.declared.faults.StoreFault.TheVariants.{Memory}
use Rattle.archive_port.specs.declared.reports.AddError.{AddError}
use Rattle.archive_port.specs.declared.reports.AddReport.{AddReport}
use Rattle.archive_port.specs.declared.wants.MemoryRefusal.{MemoryRefusal}
use Rattle.archive_memory.specs.Adding.{AddsItems}
use Rattle.archive_memory.specs.Entries.{message_in}
use Rattle.archive_memory.specs.State.{IsSoundArchive, archive_in_memory, memory_state}
use Rattle.archive_memory.specs.declared.archive.MemoryArchive.{MemoryArchive}
use Rattle.archive_memory.specs.declared.entries.MessageEntry.{MessageEntry}
use Rattle.archive_memory.proofs.RunLemmas.{run_sound, step_sound}

-- it is always open, and nothing below it fails
pub lasts : (old new : MemoryArchive) → StaysOpenUnlessDiskFails memory_state old new
lasts old new = record {
  disk_was_clean = λ clean. clean;
  closes_only_by_fault = record { faults_never_fall = omega arith; stays_open = λ clean up. inl up };
  closed_stays_closed = λ clean up. up;
  sets_no_limit = λ free. free;
}

-- what is at rest has no damage
pub whole : (a : Archive) → IsSoundArchive a → PassesCheck a
whole a sound = record { has_no_damage = sound_is_whole a (sound.messages, sound.columns); messages_are_sound = sound.messages; is_indexed_correctly = sound.columns }

-- ---- answers that take memory

-- an answer that is passed on, or a refusal of memory that is counted
abbrev pub Passes : {A : Type 0} → ℕ → ℕ → Result A MemoryRefusal → Result A StoreFault → Type 0
Passes before after answer result = MatchResult result (λ found. (answer ≡ Ok found) × (after ≡ before)) (λ fault. IsErr answer × (fault ≡ Memory) × (after ≡ before + 1))

pub answers : {A : Type 0} (old new : MemoryArchive) (before after : ℕ) (answer : Result A MemoryRefusal) (result : Result A StoreFault) (refuses : Archive
    → Option Refusal) (Says : Archive → A → Type 0)
    → archive_in_memory new ≡ archive_in_memory old → Passes before after answer result → refuses (archive_in_memory old) ≡ None → IfOk answer (Says (archive_in_memory old))
    → AnswersStoreQuestion memory_state old new result refuses Says
answers old new before after answer (Ok found) refuses Says same passes free says = λ clean held.
    ((subst IsSoundArchive (sym same) held, same), free, (rw passes.0 at says))
answers old new before after answer (Err fault) refuses Says same passes free says = λ clean held.
    rw passes.1 (λ up. (subst IsSoundArchive (sym same) held, same))

-- ---- the message that was found

both : (p q : Bool) → (p && q) ≡ true → p ≡ true
both true q is = refl
both false q is = absurd cc

meets_here : (p : Message → Bool) (n m : Message) (t : Bool) (later : Option Message) → p n ≡ t → (Some m ≡ later → p m ≡ true) → Some m ≡ cond t (Some n) later → p m ≡ true
meets_here p n m true later so behind is = let same : n ≡ m = cc in subst (λ x. p x ≡ true) same so
meets_here p n m false later so behind is = behind is

meets : (p : Message → Bool) (ms : List Message) (m : Message) → Some m ≡ find p ms → p m ≡ true
meets p [] m is = absurd cc
meets p (n ∷ ms) m is = meets_here p n m (p n) (find p ms) refl (λ later. meets p ms m later) is

pub found_is : (list key : List ℕ) (ms : List Message) (found : Option MessageEntry) → option_map message_in found ≡ find (is_message_at_key list key) ms
    → option_map (archived_message list) (option_map (λ (e : MessageEntry). e.message) found) ≡ find (is_message_at_key list key) ms
found_is list key ms None is = is
found_is list key ms (Some e) is =
    let there = both (bytes_eq (string_bytes e.list) list) (bytes_eq e.message.key key) (meets (is_message_at_key list key) ms (message_in e) is) in
    ap (λ l. Some (archived_message l e.message)) (sym ((bytes_eq-Decides (string_bytes e.list) list).0 there)) ∙ is

-- the message of an entry that a walk shows
pub given_is : (list : List ℕ) (e : MessageEntry) (m : Given) (next : Message) → m ≡ e.message → message_in e ≡ next → next.list ≡ list → archived_message list m ≡ next
given_is list e m next same shown of_list = ap₂ archived_message (sym (ap (λ (n : Message). n.list) shown ∙ of_list)) same ∙ shown

-- ---- commands

module _ (old new : MemoryArchive) (command : Command) (result : Result CommandFacts StoreFault) (writable : AddsWritableItem command)
    (steps : MatchOption (reply_of_result (reply_unless_refused command) result) (archive_in_memory new ≡ archive_in_memory old)
    (λ reply. (archive_in_memory new, reply) ≡ step (archive_in_memory old) command)) where
  by_reply : (reply : Option CommandReply) → MatchOption reply (archive_in_memory new ≡ archive_in_memory old) (λ reply. (archive_in_memory new, reply) ≡ step (archive_in_memory old) command)
      → PerformsModelStep memory_state old new (λ a. step a command) reply
  by_reply None is = λ clean held up. (subst IsSoundArchive (sym is) held, is)
  by_reply (Some reply) is = λ clean held. (subst IsSoundArchive (sym (ap (λ (o : StepOutcome). o.0) is)) (step_sound (archive_in_memory old) command writable held), is)

  pub performs : PerformsModelStep memory_state old new (λ a. step a command) (reply_of_result (reply_unless_refused command) result)
  performs = by_reply (reply_of_result (reply_unless_refused command) result) steps

-- messages that are added
taken_sound : (a : Archive) (list : List ℕ) (items : List Item) → All IsItem items → IsSoundArchive a → IsSoundArchive (taken a list items).archive
taken_sound a list items writable sound = run_sound a (map (add list) items) (All-map AddsWritableItem (add list) items writable) sound

first_all : {X : Type 0} (P : X → Type 0) (xs : List X) (n : ℕ) → All P xs → All P (take n xs)
first_all P xs n all = All-take P n xs all

pub adds : (old new : MemoryArchive) (list : List ℕ) (items : List Item) (result : Result AddReport AddError) → All IsItem items
    → AddsItems (archive_in_memory old) (archive_in_memory new) list items result → AddsAllMessages memory_state old new result list items
adds old new list items (Ok report) writable is = λ clean held.
    (subst IsSoundArchive (sym is.0) (taken_sound (archive_in_memory old) list items writable held), is.0, is.1)
adds old new list items (Err stop) writable is = λ clean held.
    let sound = subst IsSoundArchive (sym is.0) (taken_sound (archive_in_memory old) list (take stop.done items) (first_all IsItem items stop.done writable) held) in
    by_reason (refusal_of_fault stop.fault) sound is.0 is.1
  where
    by_reason : (why : Option Refusal) → IsSoundArchive (archive_in_memory new) → archive_in_memory new ≡ (taken (archive_in_memory old) list (take stop.done items)).archive
        → MatchOption why ⊤ (λ r. IsRefusedAt (archive_in_memory old) list items stop.done r)
        → MatchOption why (IsTrue true → IsSoundArchive (archive_in_memory new) × (archive_in_memory new ≡ (taken (archive_in_memory old) list (take stop.done items)).archive))
        (λ r. IsSoundArchive (archive_in_memory new) × (archive_in_memory new ≡ (taken (archive_in_memory old) list (take stop.done items)).archive)
        × IsRefusedAt (archive_in_memory old) list items stop.done r)
    by_reason None sound same why = λ up. (sound, same)
    by_reason (Some r) sound same why = (sound, same, why)
