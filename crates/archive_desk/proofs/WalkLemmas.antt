-- How far the messages of a walk are out.
use Rattle.std.proofs.Common.{◌≡◌, refl, sym, ap, ◌∙◌, subst, ℕ, ◌+◌, ◌<◌, ◌^◌, min, List, [], ◌∷◌, ◌++◌, length, take, Result, map, Option, Some, None, Ok, Err, arith, append_assoc, length-append}
use Rattle.std.proofs.Common.{length-take}
use Rattle.std.specs.Prelude.{MatchOption, IsErrAnd}
use Rattle.std.proofs.lemmas.List.{append-nil, take-append-le}
use Rattle.std.proofs.Math.Seq.{take-append-add}
use Rattle.archive_port.proofs.LastLemmas.{left_holds}
use Rattle.archive_port.specs.declared.state.ArchiveState.{Ghosts}
use Rattle.mbox_core.specs.Written.{AppendsPrefixOfText, written, written_item}
use Rattle.archive_model.specs.Records.{Archive, Message as Remembered}
use Rattle.archive_model.specs.Messages.{archived_message}
use Rattle.archive_model.specs.declared.messages.Message.{Message}
use Rattle.archive_port.specs.Told.{IsOpen, CountsOneRefusal, StaysOpenUnlessDiskFails}
use Rattle.archive_port.specs.Walking.{Walk, GivesNext}
use Rattle.archive_results.specs.Access.{Ask, ReaderFacts}
use Rattle.archive_results.specs.Shown.{shown_message}
use Rattle.archive_port.specs.declared.faults.StoreFault.{StoreFault}
use Rattle.archive_port.specs.Replies.{refusal_of_fault}
use Rattle.archive_desk.specs.Exporting.{shown_mbox_text}
use Rattle.archive_desk.specs.Faults.{RefusalReason, refusal_reason, desk_error_of}
use Rattle.archive_desk.specs.Walking.{SkipsWithheldMessages, WalkHoldsArchive, WritesRows, WritesWalk}
use Rattle.archive_desk.specs.declared.faults.DeskError.{DeskError}
use Rattle.archive_desk.specs.declared.faults.DeskError.TheVariants.{Memory}
use Rattle.archive_desk.proofs.AskLemmas.{unreasoned}
use Rattle.archive_desk.proofs.IndexLemmas.{HoldsIfOpen, IsMadeApart, ListedSoFar, listed_more, listed_past, shown_apart}

-- ---- the text

abbrev pub text_of : List Remembered → List ℕ
text_of messages = written (map (λ s. s.item) (map shown_message messages))

pub text_apart : IsMadeApart text_of
text_apart [] ys = refl
text_apart (x ∷ xs) ys =
    ap (λ rest. written_item (shown_message x).item ++ rest) (text_apart xs ys) ∙ sym (append_assoc (written_item (shown_message x).item) (text_of xs) (text_of ys))

-- ---- a part, and what fails behind it

-- behind a part, exactly the first bytes of what comes next
pub cut_behind : (before mid after part text rest all : List ℕ) (k : ℕ) → mid ≡ before ++ part → all ≡ part ++ (text ++ rest) → AppendsPrefixOfText mid after text k
    → AppendsPrefixOfText before after all (length part + k)
cut_behind before mid after part text rest all k out whole cut = (
  omega (arith, cut.0, ap length whole, length-append part (text ++ rest), length-append text rest),
  cut.1 ∙ ap (λ x. x ++ take k text) out ∙ append_assoc before part (take k text)
      ∙ ap (λ x. before ++ (part ++ x)) (sym (take-append-le k text rest cut.0))
      ∙ ap (λ x. before ++ x) (sym (take-append-add part (text ++ rest) k))
      ∙ ap (λ x. before ++ take (length part + k) x) (sym whole),
)

-- nothing of what comes next
pub cut_there : (before after part rest all : List ℕ) → after ≡ before ++ part → all ≡ part ++ rest → AppendsPrefixOfText before after all (length part)
cut_there before after part rest all out whole =
    let none : AppendsPrefixOfText after after [] 0 = (omega (arith), sym (append-nil after)) in
    let here = cut_behind before after after part [] rest all 0 out whole none in
    subst (λ n. AppendsPrefixOfText before after all n) (let e : length part + 0 ≡ length part = omega (arith) in e) here

-- ---- what is written of the messages of a walk

-- What was written is the text of the messages that the walk gave, as far as the policy shows them, and it was counted. The
-- walk has those left that are not written.
pub record RowsSoFar {S W : Type 0} (g : Ghosts S W) (ask : Ask) (reader : ReaderFacts) (old now : Walk S W) (before after : List ℕ) (counted counts : ℕ) : Type 0 where
  pub part : List ℕ
  pub out : after ≡ before ++ part
  pub counts_is : counts ≡ min (counted + length part) 18446744073709551615
  pub walked : ListedSoFar text_of ask reader g old now part

-- whatever the fault
stands_still : {S W : Type 0} (g : Ghosts S W) (walk : Walk S W) (a : Archive) (why : Option RefusalReason) → WalkHoldsArchive g a walk
    → MatchOption why (IsOpen g walk.store → WalkHoldsArchive g a walk) (λ _. WalkHoldsArchive g a walk)
stands_still g walk a None it = λ up. it
stands_still g walk a (Some why) it = it

-- the text of one message, as far as the policy shows it
abbrev pub text_of_one : Ask → ReaderFacts → Message → List ℕ
text_of_one ask reader m = shown_mbox_text ask reader (archived_message ask.list m ∷ [])

module _ {S W : Type 0} {g : Ghosts S W} {ask : Ask} {reader : ReaderFacts} {old mid : Walk S W} {before middle : List ℕ} {counted count : ℕ}
    (s : RowsSoFar g ask reader old mid before middle counted count) (new : Walk S W) (lasts : StaysOpenUnlessDiskFails g mid.store new.store) where
  module _ (m : Message) (gives : GivesNext g mid new (Ok (Some m))) where
    -- one message more
    pub rows_more : (after : List ℕ) (more counts : ℕ) → after ≡ middle ++ text_of_one ask reader m → more ≡ min (length (text_of_one ask reader m)) 18446744073709551615
        → counts ≡ min (count + more) 18446744073709551615 → RowsSoFar g ask reader old new before after counted counts
    rows_more after more counts out is sum =
        let text = text_of_one ask reader m in record {
          part = s.part ++ text;
          out = out ∙ ap (λ x. x ++ text) s.out ∙ append_assoc before s.part text;
          counts_is = omega (arith, is, sum, s.counts_is, length-append s.part text);
          walked = listed_more s.walked new lasts text_apart m (s.part ++ text) gives refl;
        }

    -- the writer fails at it
    pub rows_unwritten : (after : List ℕ) (k counts : ℕ) (fault : DeskError) → (length after < 2 ^ 64 → AppendsPrefixOfText middle after (text_of_one ask reader m) k)
        → counts ≡ min (count + k) 18446744073709551615 → WritesRows g old new ask reader before after counted counts (Err fault)
    rows_unwritten after k counts fault cut sum = λ returned all a w.
        let so_far = s.walked.gave (lasts.disk_was_clean returned) all a w in
        let here = gives returned ask.list all a so_far.0 so_far.1 in
        let text = text_of_one ask reader m in
        let rest = shown_mbox_text ask reader here.remaining in
        let joined = shown_apart text_of ask reader text_apart in
        let whole : shown_mbox_text ask reader all ≡ s.part ++ (text ++ rest) =
        ap (shown_mbox_text ask reader) (sym here.given_and_remaining) ∙ joined (so_far.0 ++ archived_message ask.list m ∷ []) here.remaining
        ∙ ap (λ x. x ++ rest) (joined so_far.0 (archived_message ask.list m ∷ []) ∙ ap (λ x. x ++ text) (sym so_far.2)) ∙ append_assoc s.part text rest in (
          stands_still g new a (refusal_reason fault) (here.is_archive_at_rest, here.archive_is),
          λ fits. (
            length s.part + k,
            cut_behind before middle after s.part text rest (shown_mbox_text ask reader all) k s.out whole (cut fits),
            omega (arith, sum, s.counts_is),
          ),
        )

    -- memory is wanting at it, which is counted: nothing of it was written
    pub rows_refused : (after : List ℕ) (last : Walk S W) → CountsOneRefusal g new.store last.store → (length after < 2 ^ 64 → AppendsPrefixOfText middle after (text_of_one ask reader m) 0)
        → WritesRows g old last ask reader before after counted count (Err Memory)
    rows_refused after last one cut = λ returned all a w.
        let it = rows_unwritten after 0 count Memory cut (omega (arith, s.counts_is)) (one.leaves_archive.remains_open.disk_was_clean returned) all a w in
        (left_holds g new.store new.store last.store one.leaves_archive {R = RefusalReason} None a returned it.0, it.1)

  -- messages that the policy does not show were passed by
  pub rows_past : SkipsWithheldMessages g mid new ask reader {A = Unit {0}} (Ok tt) → RowsSoFar g ask reader old new before middle counted count
  rows_past passes = record { part = s.part; out = s.out; counts_is = s.counts_is; walked = listed_past s.walked new lasts text_apart refl passes }

  -- the store fails
  pub rows_left : (told : StoreFault) → refusal_of_fault told ≡ None → (result : Result (Unit {0}) DeskError) → IsErrAnd result (λ fault. fault ≡ desk_error_of told)
      → HoldsIfOpen g ask mid new → WritesRows g old new ask reader before middle counted count result
  rows_left told none (Ok done) is holds = absurd is
  rows_left told none (Err fault) is holds = λ returned all a w.
      let so_far = s.walked.gave (lasts.disk_was_clean returned) all a w in
      let here = so_far.1 in
      let rest = shown_mbox_text ask reader here.remaining in
      let whole : shown_mbox_text ask reader all ≡ s.part ++ rest =
      ap (shown_mbox_text ask reader) (sym here.given_and_remaining) ∙ shown_apart text_of ask reader text_apart so_far.0 here.remaining ∙ ap (λ x. x ++ rest) (sym so_far.2) in (
        rw (unreasoned told fault none is) (holds returned all a so_far.0 here),
        λ fits. (length s.part, cut_there before middle s.part rest (shown_mbox_text ask reader all) s.out whole, s.counts_is),
      )

  -- none is left
  pub rows_all : GivesNext g mid new (Ok None) → WritesRows g old new ask reader before middle counted count (Ok tt)
  rows_all ends = λ returned all a w.
      let so_far = s.walked.gave (lasts.disk_was_clean returned) all a w in
      let here = ends returned ask.list all a so_far.0 so_far.1 in
      let whole : s.part ≡ shown_mbox_text ask reader all = so_far.2 ∙ ap (shown_mbox_text ask reader) here.1 in (
        (here.0.is_archive_at_rest, here.0.archive_is),
        s.out ∙ ap (λ x. before ++ x) whole,
        s.counts_is ∙ ap (λ x. min (counted + length x) 18446744073709551615) whole,
      )

-- ---- behind a head

module _ {S W : Type 0} (g : Ghosts S W) (ask : Ask) (reader : ReaderFacts) (old new : Walk S W) (head before middle after : List ℕ) (out : middle ≡ before ++ head)
    (fits : length head < 2 ^ 64) where
  -- all of it is out
  pub walk_written : (count : ℕ) → WritesRows g old new ask reader middle after (length head) count (Ok tt)
      → WritesWalk g old new ask reader head before after (Ok count)
  walk_written count rows = λ returned all a w.
      let it = rows returned all a w in
      let text = shown_mbox_text ask reader all in
      (it.0, it.1 ∙ ap (λ x. x ++ text) out ∙ append_assoc before head text, omega (arith, it.2, length-append head text))

  -- or a part, where the writer or the store fails
  pub walk_stopped : (count : ℕ) (fault : DeskError) → WritesRows g old new ask reader middle after (length head) count (Err fault)
      → WritesWalk g old new ask reader head before after (Err (record { written = count; fault = fault }))
  walk_stopped count fault rows = λ returned all a w.
      let it = rows returned all a w in
      let text = shown_mbox_text ask reader all in (
        it.0,
        λ low.
            let more = it.1 low in
            let told : length after ≡ length before + length head + more.0 =
            omega (arith, ap length more.1.1, length-append middle (take more.0 text), ap length out, length-append before head, length-take more.0 text, more.1.0) in
            let exact : count ≡ length head + more.0 = omega (arith, more.2, told, low) in
            subst (λ n. AppendsPrefixOfText before after (head ++ text) n) (sym exact)
            (cut_behind before middle after head text [] (head ++ text) more.0 out (ap (λ x. head ++ x) (sym (append-nil text))) more.1),
      )
