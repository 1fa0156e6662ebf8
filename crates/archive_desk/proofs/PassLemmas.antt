-- Messages that a walk passes by.
use Rattle.std.proofs.Common.{◌≡◌, ◌⊎◌, ◌≤◌, arith, inl, inr, refl, sym, ap, subst, ◌∙◌, append_assoc, cond, Bool, true, false, List, [], ◌∷◌, ◌++◌, filter, Option, Some, None, Result, Ok, Err}
use Rattle.std.specs.Prelude.{not, ◌-◌, option_map, IsErrAnd}
use Rattle.std.specs.Option.{IsSomeAnd}
use Rattle.std.proofs.lemmas.List.{append-nil}
use Rattle.std.proofs.lemmas.List.Elements.{filter-append}
use Rattle.std.specs.List.{All}
use Rattle.std.proofs.lemmas.Bool.{and_parts, not-true}
use Rattle.policy_core.specs.declared.access.Withdrawn.{Withdrawn}
use Rattle.archive_port.specs.Told.{StoreHasCleanDisk, StaysOpenUnlessDiskFails}
use Rattle.archive_port.specs.declared.state.ArchiveState.{Ghosts}
use Rattle.archive_model.specs.Records.{Archive, Message as Remembered}
use Rattle.archive_model.specs.Messages.{withdrawal_number}
use Rattle.archive_port.specs.Messages.{AreDatedMarksOf, IsReadable}
use Rattle.archive_port.specs.declared.marks.DatedMarks.{DatedMarks}
use Rattle.archive_port.specs.Replies.{refusal_of_fault}
use Rattle.archive_port.specs.Walking.{PassesNext, PeeksNextMarks, Walk, WalksOver, remaining_count, walk_over_store}
use Rattle.archive_port.specs.declared.faults.StoreFault.{StoreFault}
use Rattle.archive_port.proofs.CauseLemmas.{not_all}
use Rattle.archive_results.specs.Access.{Ask, ReaderFacts, MessageFacts, asks_author, is_shown, is_withheld, message_facts, withdrawal_of_number}
use Rattle.archive_desk.specs.Walking.{HasSkippedWithheld, SkipsAtMostOne, SkipsWithheldMessages}

-- ---- the marks

numbered_back : (by : Withdrawn) → withdrawal_of_number (withdrawal_number by) ≡ by
numbered_back by = grind arith

pub weighed_marks : (marks : DatedMarks) (m : Remembered) → AreDatedMarksOf marks m
    → record { arrival = marks.arrival; withdrawn = marks.withdrawn; embargo_until = marks.embargo_until; own = false } ≡ record (message_facts None m) { own = false }
unfolding message_facts
weighed_marks marks m are =
    rw (sym are.arrival_is, sym are.withdrawal_is, sym are.embargo_is, numbered_back marks.withdrawn) refl

-- without an address no message is the reader's own
unowned : (m : Remembered) → record (message_facts None m) { own = false } ≡ message_facts None m
unfolding message_facts
unowned m = refl

pub weighed_held : (marks : DatedMarks) (weighs : MessageFacts) (held : Option Remembered)
    → ((m : Remembered) → AreDatedMarksOf marks m → weighs ≡ record (message_facts None m) { own = false }) → IsSomeAnd held (AreDatedMarksOf marks)
    → Some weighs ≡ option_map (message_facts None) held
weighed_held marks weighs (Some m) weigh are = ap Some (weigh m are ∙ unowned m)
weighed_held marks weighs None weigh are = absurd are

-- ---- what was passed by

-- what is withheld is not shown
not_shown : (ask : Ask) (reader : ReaderFacts) (m : Remembered) → is_withheld ask reader m ≡ true → is_shown ask reader m ≡ false
not_shown ask reader m is = not-true (is_shown ask reader m) (and_parts (not (asks_author ask reader)) (not (is_shown ask reader m)) is).1

module _ {S W : Type 0} (g : Ghosts S W) (ask : Ask) (reader : ReaderFacts) where
  -- so far messages were passed by that the policy does not show
  pub record PassedSoFar (old now : Walk S W) : Type 0 where
    pub passed : StoreHasCleanDisk g now.store → (all : List Remembered) (a : Archive) (given : List Remembered) → WalksOver g ask.list all a given old
        → HasSkippedWithheld g old now ask reader all a given

  module _ (all : List Remembered) (a : Archive) (given : List Remembered) where
    passed_none : (old now : Walk S W) → WalksOver g ask.list all a given now → HasSkippedWithheld g old now ask reader all a given
    passed_none old now w = ([], subst (λ so. WalksOver g ask.list all a so now) (sym (append-nil given)) w, refl)

    passed_then : (old mid new : Walk S W) (it : HasSkippedWithheld g old mid ask reader all a given) → HasSkippedWithheld g mid new ask reader all a (given ++ it.0)
        → HasSkippedWithheld g old new ask reader all a given
    passed_then old mid new it more = (
      it.0 ++ more.0,
      subst (λ so. WalksOver g ask.list all a so new) (append_assoc given it.0 more.0) more.1,
      filter-append (is_shown ask reader) it.0 more.0 ∙ ap (λ xs. xs ++ filter (is_shown ask reader) more.0) it.2 ∙ more.2,
    )

module _ {S W : Type 0} {g : Ghosts S W} {ask : Ask} {reader : ReaderFacts} {old new : Walk S W} where
  -- ---- one message

  -- none was passed by
  pub none_passed : (StoreHasCleanDisk g new.store → (all : List Remembered) (a : Archive) (given : List Remembered) → WalksOver g ask.list all a given old → WalksOver g ask.list all a given new)
      → remaining_count g new.walk ≤ remaining_count g old.walk → SkipsAtMostOne g old new ask reader (Ok false)
  none_passed stays left = record {
    skips_withheld = record {
      skips_withheld = λ returned all a given w. passed_none g ask reader all a given old new (stays returned all a given w);
      remaining_never_grows = left;
      fault_is_no_refusal = tt;
    };
    fewer_if_passed = λ e. absurd (cc);
  }

  -- the store fails at its marks
  pub none_seen : {told : StoreFault} (r : Result Bool StoreFault) → IsErrAnd r (λ f. f ≡ told) → PeeksNextMarks g old new (Err told) → SkipsAtMostOne g old new ask reader r
  none_seen (Ok b) is shown = absurd is
  none_seen (Err f) is shown = record {
    skips_withheld = record {
      skips_withheld = λ returned all a given w up. passed_none g ask reader all a given old new (shown.gives_next_marks returned ask.list all a given w up);
      remaining_never_grows = omega (arith, shown.remaining_is_same);
      fault_is_no_refusal = ap refusal_of_fault is ∙ shown.fault_is_no_refusal;
    };
    fewer_if_passed = tt;
  }

  -- ---- one after the other

  module _ {mid : Walk S W} (so_far : PassedSoFar g ask reader old mid) (lasts : StaysOpenUnlessDiskFails g mid.store new.store) where
    pub passed_further : {A : Type 0} {x : A} → SkipsWithheldMessages g mid new ask reader (Ok x) → PassedSoFar g ask reader old new
    passed_further passes = record {
      passed = λ returned all a given w.
          let it = so_far.passed (lasts.disk_was_clean returned) all a given w in
          passed_then g ask reader all a given old mid new it (passes.skips_withheld returned all a (given ++ it.0) it.1);
    }

    pub stopped_further : {A B : Type 0} {told : StoreFault} (r : Result A StoreFault) → IsErrAnd r (λ f. f ≡ told) → remaining_count g mid.walk ≤ remaining_count g old.walk
        → SkipsWithheldMessages g mid new ask reader {A = B} (Err told) → SkipsWithheldMessages g old new ask reader r
    stopped_further (Ok x) is left passes = absurd is
    stopped_further (Err f) is left passes = record {
      skips_withheld = λ returned all a given w up.
          let it = so_far.passed (lasts.disk_was_clean returned) all a given w in
          passed_then g ask reader all a given old mid new it (passes.skips_withheld returned all a (given ++ it.0) it.1 up);
      remaining_never_grows = omega (arith, left, passes.remaining_never_grows);
      fault_is_no_refusal = ap refusal_of_fault is ∙ passes.fault_is_no_refusal;
    }

-- one was passed by, since the policy withholds it
pub one_passed : {S W : Type 0} {g : Ghosts S W} {ask : Ask} {reader : ReaderFacts} {old mid : Walk S W} (new : W) {marks : DatedMarks} {weighs : MessageFacts}
    → PeeksNextMarks g old mid (Ok (Some marks)) → PassesNext g mid.walk new
    → remaining_count g new ≡ remaining_count g mid.walk - 1 → ((m : Remembered) → AreDatedMarksOf marks m → weighs ≡ record (message_facts None m) { own = false })
    → ((m : Remembered) → weighs ≡ record (message_facts None m) { own = false } → true ≡ is_withheld ask reader m) → SkipsAtMostOne g old (walk_over_store mid.store new) ask reader (Ok true)
one_passed {ask = ask} {reader = reader} {mid = mid} new shown passes left weigh withheld = record {
  skips_withheld = record {
    skips_withheld = λ returned all a given w.
        let seen = shown.gives_next_marks returned ask.list all a given w in
        let next = seen.1 in (
          next.0 ∷ [],
          passes mid.store ask.list all a given next.1 next.0 seen.0 next.2,
          ap (λ b. cond b (next.0 ∷ []) []) (not_shown ask reader next.0 (sym (withheld next.0 (weigh next.0 next.3)))),
        );
    remaining_never_grows = omega (arith, left, shown.remaining_is_same);
    fault_is_no_refusal = tt;
  };
  fewer_if_passed = λ e. omega (arith, left, shown.remaining_is_same, shown.some_means_remaining);
}

-- ---- why it stops

-- the next message cannot be read
pub unread_among : (X : Type 0) (given all : List Remembered) → X ⊎ ((next : Remembered) × (rest : List Remembered) × (given ++ next ∷ rest ≡ all) × (¬ IsReadable next)) → X ⊎ (¬ All IsReadable all)
unread_among X given all (inl failed) = inl failed
unread_among X given all (inr bad) = inr (not_all IsReadable given bad.0 bad.1 all bad.2 bad.3)
