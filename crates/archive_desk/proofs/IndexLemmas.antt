-- What is made of the messages of a walk, as far as the policy shows them.
use Rattle.std.proofs.Common.{◌≡◌, Result, sym, ap, ◌∙◌, subst, true, cond, List, [], ◌∷◌, ◌++◌, filter, Some, None, Ok, Err, arith}
use Rattle.std.specs.Prelude.{IfErr, Vec, IsErrAnd}
use Rattle.std.specs.declared.alloc.Global.{Global}
use Rattle.std.proofs.lemmas.List.{append-nil}
use Rattle.std.proofs.lemmas.List.Elements.{filter-append}
use Rattle.archive_port.specs.declared.state.ArchiveState.{Ghosts}
use Rattle.archive_port.proofs.LastLemmas.{left_holds}
use Rattle.archive_model.specs.Records.{Archive, Message as Remembered}
use Rattle.archive_model.specs.Messages.{archived_message}
use Rattle.archive_model.specs.declared.messages.Message.{Message}
use Rattle.archive_port.specs.Replies.{refusal_of_fault}
use Rattle.archive_port.specs.Told.{AnswersFromStoreUnder, RelatesArchivesUnder, StaysOpenUnlessDiskFails, StoreHasCleanDisk, HoldsTables, IsOpen, archive_in, CountsOneRefusal}
use Rattle.archive_port.specs.Walking.{BeginsOver, Walk, WalksOver, GivesNext}
use Rattle.archive_results.specs.Access.{Ask, ReaderFacts, is_shown, reader_facts}
use Rattle.archive_port.specs.declared.faults.StoreFault.{StoreFault}
use Rattle.archive_desk.specs.Asking.{DeterminesVerdicts}
use Rattle.archive_desk.specs.Faults.{ask_reason, desk_error_of, refusal_reason, RefusalReason}
use Rattle.archive_desk.specs.Walking.{IsMemoryOrDatabaseFault, ListsRows, SkipsWithheldMessages, WalkHoldsArchive}
use Rattle.archive_desk.specs.declared.faults.DeskError.{DeskError}
use Rattle.archive_desk.specs.declared.faults.DeskError.TheVariants.{Memory}
use Rattle.archive_desk.proofs.AskLemmas.{unreasoned}
use Rattle.archive_desk.proofs.CallLemmas.{unchanged}
use Rattle.archive_desk.proofs.MarkLemmas.{view_alike}
use Rattle.archive_desk.proofs.CauseLemmas.{clean_at_start, walk_begins, walk_lasts}

-- ---- what is made of messages

-- it is made of each part by itself
abbrev pub IsMadeApart : {X : Type 0} → (made : List Remembered → List X) → Type 0
IsMadeApart made = (xs ys : List Remembered) → made (xs ++ ys) ≡ made xs ++ made ys

module _ {X : Type 0} (made : List Remembered → List X) (ask : Ask) (reader : ReaderFacts) where
  -- of those of these messages that the policy shows
  abbrev pub made_of_shown : List Remembered → List X
  made_of_shown messages = made (filter (is_shown ask reader) messages)

  pub shown_apart : IsMadeApart made → IsMadeApart made_of_shown
  shown_apart apart xs ys = ap made (filter-append (is_shown ask reader) xs ys) ∙ apart (filter (is_shown ask reader) xs) (filter (is_shown ask reader) ys)

  -- one that is shown
  pub one_more : (m : Remembered) (before after : List X) (x : X) → true ≡ is_shown ask reader m → x ∷ [] ≡ made (m ∷ [])
      → after ≡ before ++ x ∷ [] → after ≡ before ++ made_of_shown (m ∷ [])
  one_more m before after x is same e = subst (λ t. after ≡ before ++ made (cond t (m ∷ []) [])) is (e ∙ ap (λ xs. before ++ xs) same)

  -- this was made of the messages that a walk gave, as far as the policy shows them
  pub record ListedSoFar {S W : Type 0} (g : Ghosts S W) (old now : Walk S W) (found : List X) : Type 0 where
    pub gave : StoreHasCleanDisk g now.store → (all : List Remembered) (a : Archive) → WalksOver g ask.list all a [] old
        → (given : List Remembered) × WalksOver g ask.list all a given now × (found ≡ made_of_shown given)

-- ---- a walk fails

module _ {S W : Type 0} (g : Ghosts S W) (ask : Ask) (mid new : Walk S W) where
  -- the archive is held, if the connection is still open
  abbrev pub HoldsIfOpen : Type 0
  HoldsIfOpen = StoreHasCleanDisk g new.store → (all : List Remembered) (a : Archive) (given : List Remembered) → WalksOver g ask.list all a given mid → IsOpen g new.store → WalkHoldsArchive g a new

  -- at the next message
  pub held_unread : (told : StoreFault) → GivesNext g mid new (Err told) → HoldsIfOpen
  held_unread told gives = λ returned all a given w up. let last = gives returned ask.list all a given w up in (last.is_archive_at_rest, last.archive_is)

  -- at the marks of those that are passed by
  pub held_unpassed : (reader : ReaderFacts) (told : StoreFault) → SkipsWithheldMessages g mid new ask reader {A = Unit {0}} (Err told) → HoldsIfOpen
  held_unpassed reader told passes = λ returned all a given w up. let last = (passes.skips_withheld returned all a given w up).1 in (last.is_archive_at_rest, last.archive_is)

-- ---- message by message

module _ {X S W : Type 0} {made : List Remembered → List X} {ask : Ask} {reader : ReaderFacts} {g : Ghosts S W} {old mid : Walk S W} {so_many : List X}
    (so_far : ListedSoFar made ask reader g old mid so_many) (new : Walk S W) (lasts : StaysOpenUnlessDiskFails g mid.store new.store) where
  -- one message more
  pub listed_more : IsMadeApart made → (m : Message) (more : List X) → GivesNext g mid new (Ok (Some m)) → more ≡ so_many ++ made_of_shown made ask reader (archived_message ask.list m ∷ [])
      → ListedSoFar made ask reader g old new more
  listed_more apart m more gives is = record {
    gave = λ returned all a w.
        let it = so_far.gave (lasts.disk_was_clean returned) all a w in
        let one = archived_message ask.list m ∷ [] in (
          it.0 ++ one,
          gives returned ask.list all a it.0 it.1,
          is ∙ ap (λ xs. xs ++ made_of_shown made ask reader one) it.2 ∙ sym (shown_apart made ask reader apart it.0 one),
        );
  }

  -- messages that the policy does not show were passed by
  pub listed_past : IsMadeApart made → made [] ≡ [] → SkipsWithheldMessages g mid new ask reader {A = Unit {0}} (Ok tt) → ListedSoFar made ask reader g old new so_many
  listed_past apart empty passes = record {
    gave = λ returned all a w.
        let it = so_far.gave (lasts.disk_was_clean returned) all a w in
        let past = passes.skips_withheld returned all a it.0 it.1 in
        let shown = made_of_shown made ask reader in (
          it.0 ++ past.0,
          past.1,
          it.2 ∙ sym (shown_apart made ask reader apart it.0 past.0 ∙ ap (λ xs. shown it.0 ++ xs) (ap made past.2 ∙ empty) ∙ append-nil (shown it.0)),
        );
  }

  -- the store fails
  pub listed_left : (told : StoreFault) → refusal_of_fault told ≡ None → (result : Result (Vec X Global) DeskError) → IsErrAnd result (λ fault. fault ≡ desk_error_of told)
      → HoldsIfOpen g ask mid new → ListsRows g old new ask reader made result
  listed_left told none (Ok found) is holds = absurd is
  listed_left told none (Err fault) is holds = λ returned all a w.
      let it = so_far.gave (lasts.disk_was_clean returned) all a w in
      rw (unreasoned told fault none is) (holds returned all a it.0 it.1)

  -- none is left
  pub listed_all : (found : Vec X Global) → found.items ≡ so_many → GivesNext g mid new (Ok None) → ListsRows g old new ask reader made (Ok found)
  listed_all found is ends = λ returned all a w.
      let it = so_far.gave (lasts.disk_was_clean returned) all a w in
      let here = ends returned ask.list all a it.0 it.1 in
      ((here.0.is_archive_at_rest, here.0.archive_is), is ∙ it.2 ∙ ap (made_of_shown made ask reader) here.1)

  -- memory is wanting at a message, which is counted
  pub listed_no_more : (m : Message) (counted : Walk S W) → CountsOneRefusal g new.store counted.store → GivesNext g mid new (Ok (Some m)) → ListsRows g old counted ask reader made (Err Memory)
  listed_no_more m counted one gives = λ returned all a w.
      let back = one.leaves_archive.remains_open.disk_was_clean returned in
      let it = so_far.gave (lasts.disk_was_clean back) all a w in
      let here = gives back ask.list all a it.0 it.1 in
      left_holds g new.store new.store counted.store one.leaves_archive {R = RefusalReason} None a returned (λ up. (here.is_archive_at_rest, here.archive_is))

-- ---- the walk

unlisted : (fault : DeskError) → IsMemoryOrDatabaseFault fault → refusal_reason fault ≡ None
unlisted fault is = grind arith

module _ {X : Type 0} (made : List Remembered → List X) {S W : Type 0} (g : Ghosts S W) (ask : Ask) (which : Archive → List Remembered) (old mid : S) (walk new : Walk S W) (reader : ReaderFacts)
    (found : RelatesArchivesUnder g (HoldsTables g) old mid (λ a b. (b ≡ a) × (ask_reason a ask ≡ None) × DeterminesVerdicts a ask reader))
    (begun : BeginsOver g mid ask.list which walk) (lasts : StaysOpenUnlessDiskFails g walk.store new.store) where
  -- however it ends
  pub walk_ended : (result : Result (Vec X Global) DeskError) → IfErr result (λ fault. IsMemoryOrDatabaseFault fault) → ListsRows g walk new ask reader made result
      → AnswersFromStoreUnder g (HoldsTables g) old new.store refusal_reason result (λ a. ask_reason a ask) (λ a listed. listed.items ≡ made (filter (is_shown ask (reader_facts a ask)) (which a)))
  walk_ended (Ok listed) is lists = (
    walk_lasts g ask which old mid walk new (unchanged found) begun lasts,
    λ returned held.
        let a = archive_in g old in
        let first = found.1 (clean_at_start g ask which old mid walk new (unchanged found) begun lasts returned) held in
        let it = lists returned (which a) a (walk_begins g ask which old mid walk new (unchanged found) begun lasts returned held) in
        (it.0.0, (it.0.1, first.1.1, it.1 ∙ ap made (view_alike a ask reader first.1.2 (which a)))),
  )
  walk_ended (Err fault) is lists = rw (unlisted fault is) (
    walk_lasts g ask which old mid walk new (unchanged found) begun lasts,
    λ returned held.
        let a = archive_in g old in
        (rw (unlisted fault is) at lists) returned (which a) a (walk_begins g ask which old mid walk new (unchanged found) begun lasts returned held),
  )
