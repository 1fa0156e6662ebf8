-- Messages that are written by the keys of lines.
use Rattle.std.proofs.Common.{◌≡◌, refl, sym, ap, ◌∙◌, subst, inl, inr, ℕ, ◌+◌, ◌<◌, ◌≤◌, ◌^◌, min, Bool, true, false, ◌&&◌, cond, List, [], ◌∷◌, ◌++◌}
use Rattle.std.proofs.Common.{length, take, filter, map, Option, Some, None, Result, Ok, Err, arith, append_assoc, length-append, length-take}
use Rattle.std.specs.Prelude.{◌||◌, find, option_map, bytes_eq, IfSome, MatchOption}
use Rattle.std.specs.List.{All, list_any}
use Rattle.std.specs.Option.{IsSomeAnd, option_map_or}
use Rattle.std.proofs.lemmas.Bool.{and_parts}
use Rattle.std.proofs.lemmas.Grind.{flat_map-append}
use Rattle.std.proofs.lemmas.List.{append-nil}
use Rattle.std.proofs.lemmas.List.Elements.{All-head, All-tail}
use Rattle.std.proofs.lemmas.Slice.Eq.{bytes_eq-Decides}
use Rattle.archive_port.specs.declared.state.ArchiveState.{Ghosts}
use Rattle.mbox_core.specs.Division.{Item}
use Rattle.mbox_core.specs.Written.{AppendsPrefixOfText, written_item}
use Rattle.archive_model.specs.Records.{Archive, Message as Remembered}
use Rattle.archive_model.specs.Commands.{Refusal}
use Rattle.archive_model.specs.Questions.{is_message_at_key, message_of, messages_in}
use Rattle.archive_model.specs.Messages.{archived_message}
use Rattle.archive_model.specs.declared.messages.Message.{Message}
use Rattle.archive_port.specs.Messages.{HaveDistinctKeys, IsReadable}
use Rattle.archive_port.proofs.LastLemmas.{lasts_then, lasts_same}
use Rattle.archive_port.specs.Told.{memory_refusal_count, AnswersStoreQuestion}
use Rattle.archive_port.specs.Replies.{IsOneOf, refusal_of_fault}
use Rattle.archive_port.specs.Told.{E15MeansDiskFailedOr as StoreCausedOr, CountsRefusals, RelatesArchivesUnder, RelatesArchivesUnderIfOpen}
use Rattle.archive_port.specs.Told.{StoreHasCleanDisk, HoldsTables, IsOpen, StaysOpenUnlessDiskFails, archive_in}
use Rattle.archive_port.specs.Crashes.{WritesNothing}
use Rattle.archive_port.specs.Wanting.{IsMemoryRefusal}
use Rattle.archive_port.specs.declared.faults.StoreFault.{StoreFault}
use Rattle.archive_port.specs.declared.faults.StoreFault.TheVariants as faults
use Rattle.archive_port.proofs.WantLemmas.{raises_after}
use Rattle.archive_results.specs.Results.{export_text, lines_of}
use Rattle.archive_results.specs.Shown.{Line, shown_message}
use Rattle.archive_desk.specs.Causes.{HasUnreadableMessage, HasCause, IsDeskDatabaseFault, IsDeskMemoryRefusal}
use Rattle.archive_desk.specs.Faults.{desk_error_of, reason_of_refusal}
use Rattle.archive_desk.specs.Walking.{AddsToByteCount, IsRowsStop, IsMemoryOrDatabaseFault}
use Rattle.archive_desk.specs.declared.faults.DeskError.{DeskError}
use Rattle.archive_desk.specs.declared.faults.DeskError.TheVariants as desk
use Rattle.archive_desk.proofs.AskLemmas.{reasoned}
use Rattle.archive_desk.proofs.CallLemmas.{store_asked}
use Rattle.archive_desk.proofs.CauseLemmas.{cause_after, each_fault, store_cause}
use Rattle.archive_desk.proofs.WalkLemmas.{cut_behind}
use Rattle.archive_desk.proofs.WantLemmas.{wants_of_store}
use Rattle.archive_cache.specs.Sending.{EndsMboxOfLines, LooksUpMessage, RemembersArchive}
use Rattle.archive_cache.specs.Sending.{WritesMboxOfLines, WritesMboxAfterHead, mbox_text_of_line, mbox_text_of_lines}

-- ---- a message of a list

-- one that cannot be read is one of the list's
module _ (list key : List ℕ) where
  abbrev in_list : Remembered → Bool
  in_list m = bytes_eq m.list list

  unread_among : (ms : List Remembered) → IsSomeAnd (find (is_message_at_key list key) ms) (λ m. ¬ IsReadable m) → ¬ All IsReadable (filter in_list ms)
  unread_among [] bad = absurd bad
  unread_among (m ∷ ms) bad = by_test (unread_among ms) (is_message_at_key list key m) refl bad
    where
      kept : (b : Bool) → in_list m ≡ b → All IsReadable (cond b (m ∷ filter in_list ms) (filter in_list ms)) → All IsReadable (filter in_list ms)
      kept true is all = All-tail IsReadable m (filter in_list ms) all
      kept false is all = all

      by_test : (IsSomeAnd (find (is_message_at_key list key) ms) (λ m. ¬ IsReadable m) → ¬ All IsReadable (filter in_list ms)) → (t : Bool) → is_message_at_key list key m ≡ t
          → IsSomeAnd (cond t (Some m) (find (is_message_at_key list key) ms)) (λ m. ¬ IsReadable m) → ¬ All IsReadable (filter in_list (m ∷ ms))
      by_test rest true is bad = λ all.
          let listed = (and_parts (bytes_eq m.list list) (bytes_eq m.key key) is).0 in
          bad (All-head IsReadable m (filter in_list ms) (subst (λ b. All IsReadable (cond b (m ∷ filter in_list ms) (filter in_list ms))) listed all))
      by_test rest false is bad = λ all. rest bad (kept (in_list m) refl all)

pub unread_in : (a : Archive) (list key : List ℕ) → IsSomeAnd (message_of a list key) (λ m. ¬ IsReadable m) → HasUnreadableMessage (messages_in a list)
unread_in a list key bad = unread_among list key a.messages bad

-- ---- a fault of the store

-- which has no reason
pub unrefused : (fault : StoreFault) → IfSome (refusal_of_fault fault) (λ why. IsOneOf why []) → IsMemoryOrDatabaseFault (desk_error_of fault)
unrefused faults.BadName it = absurd it
unrefused faults.BadText it = absurd it
unrefused faults.ListExists it = absurd it
unrefused faults.NoList it = absurd it
unrefused faults.PersonExists it = absurd it
unrefused faults.NoPerson it = absurd it
unrefused faults.TokenTaken it = absurd it
unrefused faults.NoMessage it = absurd it
unrefused faults.AlreadyWithdrawn it = absurd it
unrefused faults.NotWithdrawn it = absurd it
unrefused faults.BadDays it = absurd it
unrefused faults.ListFull it = absurd it
unrefused faults.TooLarge it = absurd it
unrefused faults.Memory it = refl
unrefused faults.Store it = refl

module _ {S W : Type 0} (g : Ghosts S W) (old new : S) (list key : List ℕ) where
  abbrev Says : Archive → Option Message → Type 0
  Says a found = option_map (archived_message list) found ≡ message_of a list key

  abbrev Unread : Archive → Type 0
  Unread a = IsSomeAnd (message_of a list key) (λ m. ¬ IsReadable m)

  module _ (lasts : StaysOpenUnlessDiskFails g old new) where
    -- it was looked for
    pub looked : (found : Option Message) → AnswersStoreQuestion g old new (Ok found) (λ _. None) Says
        → StoreHasCleanDisk g new → HoldsTables g old → LooksUpMessage g new (archive_in g old) list key (Ok found)
    looked found clause returned held =
        let it = (store_asked g old new (Ok found) (λ _. None) Says lasts clause).1 returned held in
        ((it.0, it.1.0), it.1.2)

    -- the store fails
    pub looked_failed : (fault : StoreFault) → AnswersStoreQuestion g old new {A = Option Message} (Err fault) (λ _. None) Says
        → StoreHasCleanDisk g new → HoldsTables g old → LooksUpMessage g new (archive_in g old) list key (Err (desk_error_of fault))
    looked_failed fault clause returned held =
        subst (λ r. MatchOption r (IsOpen g new → RemembersArchive g new (archive_in g old)) (λ _. RemembersArchive g new (archive_in g old))) (sym (reasoned fault))
        (by_reason (refusal_of_fault fault) (store_asked g {A = Option Message} old new (Err fault) (λ _. None) Says lasts clause))
      where
        by_reason : (r : Option Refusal)
            → MatchOption r (RelatesArchivesUnderIfOpen g (HoldsTables g) old new (λ a b. b ≡ a))
            (λ why. RelatesArchivesUnder g (HoldsTables g) old new (λ a b. (b ≡ a) × (None ≡ Some why)))
            → MatchOption (option_map reason_of_refusal r) (IsOpen g new → RemembersArchive g new (archive_in g old)) (λ _. RemembersArchive g new (archive_in g old))
        by_reason None it = λ up. it.1 returned held up
        by_reason (Some why) it = let there = it.1 returned held in (there.0, there.1.0)

    pub look_ends : (fault : StoreFault) → WritesNothing g old new → CountsRefusals g {A = Option Message} IsMemoryRefusal old new (Err fault)
        → StoreCausedOr g old new {A = Option Message} (Err fault) Unread → EndsMboxOfLines g old new list {A = Option Message} (λ f. f) (Err (desk_error_of fault))
    look_ends fault quiet counted caused = record {
      remains_open = lasts;
      writes_nothing = quiet;
      fault_has_cause = λ bad returned held free. elim (store_cause g old new fault Unread caused bad returned held free) [
        | inl more ↦ inl more
        | inr unread ↦ inr (unread_in (archive_in g old) list key unread)
      ];
      refusals_counted = wants_of_store (Option Message) (Option Message) (memory_refusal_count g old) (memory_refusal_count g new) fault counted;
    }

-- ---- one line

module _ (a : Archive) (list : List ℕ) (line : Line) where
  one_line : mbox_text_of_lines a list (line ∷ []) ≡ mbox_text_of_line a list line
  one_line = append-nil (mbox_text_of_line a list line)

  -- its message is not there
  pub line_none : option_map (archived_message list) None ≡ message_of a list line.key → mbox_text_of_lines a list (line ∷ []) ≡ []
  line_none is = one_line ∙ ap (λ o. option_map_or (λ (m : Remembered). written_item (shown_message m).item) o []) (sym is)

  -- or it is
  pub line_some : (message : Message) (item : Item) → option_map (archived_message list) (Some message) ≡ message_of a list line.key → item ≡ message.item
      → mbox_text_of_lines a list (line ∷ []) ≡ written_item item
  line_some message item is same = one_line ∙ ap (λ o. option_map_or (λ (m : Remembered). written_item (shown_message m).item) o []) (sym is) ∙ ap written_item (sym same)

-- nothing of a text
pub none_of : (told text : List ℕ) → AppendsPrefixOfText told told text 0
none_of told text = (omega (arith), sym (append-nil told))

pub counts_none : (told : List ℕ) (counted : ℕ) → counted < 2 ^ 64 → AddsToByteCount told told counted counted
counts_none told counted fits = ([], sym (append-nil told), omega (arith, fits))

module _ {S W : Type 0} (g : Ghosts S W) (new : S) (a : Archive) (list : List ℕ) (line : Line) (before : List ℕ) (counted : ℕ) where
  -- none is written
  pub wrote_none : counted < 2 ^ 64 → LooksUpMessage g new a list line.key (Ok None) → WritesMboxOfLines g new a list (line ∷ []) before before counted counted (Ok tt)
  wrote_none fits it =
      let none = line_none a list line it.1 in
      (it.0, sym (append-nil before) ∙ ap (λ x. before ++ x) (sym none), omega (arith, fits, ap length none))

  -- none can be looked for
  pub wrote_unlooked : counted < 2 ^ 64 → (fault : DeskError) → LooksUpMessage g new a list line.key (Err fault) → WritesMboxOfLines g new a list (line ∷ []) before before counted counted (Err fault)
  wrote_unlooked fits fault it = (it, (λ low. (0, none_of before (mbox_text_of_lines a list (line ∷ [])), omega (arith, fits))))

  module _ (message : Message) (item : Item) (same : item ≡ message.item) (it : LooksUpMessage g new a list line.key (Ok (Some message))) (after : List ℕ) (counts : ℕ) where
    -- it is
    pub wrote_one : (more : ℕ) → after ≡ before ++ written_item item → more ≡ min (length (written_item item)) 18446744073709551615
        → counts ≡ min (counted + more) 18446744073709551615 → WritesMboxOfLines g new a list (line ∷ []) before after counted counts (Ok tt)
    wrote_one more out is sum =
        let text = line_some a list line message item it.1 same in
        (it.0, out ∙ ap (λ x. before ++ x) (sym text), omega (arith, is, sum, ap length text))

    -- the writer fails
    pub wrote_part : (more : ℕ) → (length after < 2 ^ 64 → AppendsPrefixOfText before after (written_item item) more) → counts ≡ min (counted + more) 18446744073709551615
        → WritesMboxOfLines g new a list (line ∷ []) before after counted counts (Err desk.Write)
    wrote_part more cut sum =
        let text = line_some a list line message item it.1 same in
        (it.0, (λ low. (more, subst (λ x. AppendsPrefixOfText before after x more) (sym text) (cut low), sum)))

-- ---- one line after the other

module _ {S W : Type 0} (g : Ghosts S W) (list : List ℕ) where
  joined : (a : Archive) (xs ys : List Line) → mbox_text_of_lines a list (xs ++ ys) ≡ mbox_text_of_lines a list xs ++ mbox_text_of_lines a list ys
  joined a xs ys = flat_map-append (mbox_text_of_line a list) xs ys

  -- The text of these lines was written, and it was counted.
  pub record LinesSoFar (old now : S) (lines : List Line) (before after : List ℕ) (counted counts : ℕ) : Type 0 where
    pub lasts : StaysOpenUnlessDiskFails g old now
    pub writes_nothing : WritesNothing g old now
    pub grows : memory_refusal_count g old ≤ memory_refusal_count g now
    pub more : AddsToByteCount before after counted counts
    pub wrote : StoreHasCleanDisk g now → HoldsTables g old → WritesMboxOfLines g now (archive_in g old) list lines before after counted counts (Ok tt)

  pub lines_none : (store : S) (told : List ℕ) (counted : ℕ) → counted < 2 ^ 64 → LinesSoFar store store [] told told counted counted
  lines_none store told counted fits = record {
    lasts = lasts_same g _;
    writes_nothing = λ db may. may;
    grows = omega arith;
    more = counts_none told counted fits;
    wrote = λ returned held. ((held, refl), sym (append-nil told), omega (arith, fits));
  }

  -- counted one after the other
  counts_then : (before middle after : List ℕ) (counted count counts : ℕ) → AddsToByteCount before middle counted count → AddsToByteCount middle after count counts
      → AddsToByteCount before after counted counts
  counts_then before middle after counted count counts one two =
      (one.0 ++ two.0, two.1 ∙ ap (λ x. x ++ two.0) one.1 ∙ append_assoc before one.0 two.0, omega (arith, one.2, two.2, length-append one.0 two.0))

  module _ (old mid new : S) (before middle : List ℕ) (counted count : ℕ) (xs : List Line) (s : LinesSoFar old mid xs before middle counted count) where
    abbrev Unreadable : Archive → Type 0
    Unreadable a = HasUnreadableMessage (messages_in a list)

    left : RelatesArchivesUnder g (HoldsTables g) old mid (λ a b. b ≡ a)
    left = (s.lasts, (λ returned held. (s.wrote returned held).0))

    -- why it stopped
    pub stopped_since : (after : List ℕ) (failed fails counts : ℕ) (fault : DeskError) → IsRowsStop middle after failed fails count counts fault
        → IsRowsStop before after failed fails counted counts fault
    stopped_since after failed fails counts desk.Write why = why
    stopped_since after failed fails counts desk.Memory why = (why.0, counts_then before middle after counted count counts s.more why.1)
    stopped_since after failed fails counts (desk.Store fault) why = (why.0, why.1, counts_then before middle after counted count counts s.more why.2)
    stopped_since after failed fails counts desk.NoList why = absurd why
    stopped_since after failed fails counts desk.NoPerson why = absurd why
    stopped_since after failed fails counts desk.NotInView why = absurd why

    pub ends_since : {A : Type 0} (result : Result A DeskError) → EndsMboxOfLines g mid new list (λ f. f) result → EndsMboxOfLines g old new list (λ f. f) result
    ends_since result it = record {
      remains_open = lasts_then g _ _ _ s.lasts it.remains_open;
      writes_nothing = λ db may. s.writes_nothing db (it.writes_nothing db may);
      fault_has_cause = each_fault (λ fault. IsDeskDatabaseFault fault → HasCause g mid new Unreadable) (λ fault. IsDeskDatabaseFault fault → HasCause g old new Unreadable)
          (λ fault why bad. cause_after g old mid new left it.remains_open Unreadable (why bad)) result it.fault_has_cause;
      refusals_counted = raises_after IsDeskMemoryRefusal (memory_refusal_count g old) (memory_refusal_count g mid) (memory_refusal_count g new) result s.grows it.refusals_counted;
    }

    module _ (line : Line) (lasts : StaysOpenUnlessDiskFails g mid new) (after : List ℕ) (counts : ℕ) where
      -- said of the archive that was remembered at first
      since : (result : Result (Unit {0}) DeskError) → (StoreHasCleanDisk g new → HoldsTables g mid → WritesMboxOfLines g new (archive_in g mid) list (line ∷ []) middle after count counts result)
          → StoreHasCleanDisk g new → HoldsTables g old → WritesMboxOfLines g new (archive_in g old) list (line ∷ []) middle after count counts result
      since result wrote returned held =
          let so = s.wrote (lasts.disk_was_clean returned) held in
          subst (λ a. WritesMboxOfLines g new a list (line ∷ []) middle after count counts result) so.0.1 (wrote returned so.0.0)

      -- one more
      pub lines_more : WritesNothing g mid new → memory_refusal_count g mid ≤ memory_refusal_count g new → AddsToByteCount middle after count counts
          → (StoreHasCleanDisk g new → HoldsTables g mid → WritesMboxOfLines g new (archive_in g mid) list (line ∷ []) middle after count counts (Ok tt))
          → LinesSoFar old new (xs ++ line ∷ []) before after counted counts
      lines_more quiet grows more wrote = record {
        lasts = lasts_then g _ _ _ s.lasts lasts;
        writes_nothing = λ db may. s.writes_nothing db (quiet db may);
        grows = omega (arith, s.grows, grows);
        more = counts_then before middle after counted count counts s.more more;
        wrote = λ returned held.
            let a = archive_in g old in
            let so = s.wrote (lasts.disk_was_clean returned) held in
            let it = since (Ok tt) wrote returned held in
            let text = mbox_text_of_lines a list xs in
            let one = mbox_text_of_lines a list (line ∷ []) in (
              it.0,
              it.1 ∙ ap (λ x. x ++ one) so.1 ∙ append_assoc before text one ∙ ap (λ x. before ++ x) (sym (joined a xs (line ∷ []))),
              omega (arith, it.2, so.2, ap length (joined a xs (line ∷ [])), length-append text one),
            );
      }

      -- one that stops
      pub lines_stopped : (fault : DeskError) (rest all : List Line) → all ≡ xs ++ line ∷ rest
          → (StoreHasCleanDisk g new → HoldsTables g mid → WritesMboxOfLines g new (archive_in g mid) list (line ∷ []) middle after count counts (Err fault))
          → StoreHasCleanDisk g new → HoldsTables g old → WritesMboxOfLines g new (archive_in g old) list all before after counted counts (Err fault)
      lines_stopped fault rest all is wrote returned held =
          let a = archive_in g old in
          let so = s.wrote (lasts.disk_was_clean returned) held in
          let it = since (Err fault) wrote returned held in
          let text = mbox_text_of_lines a list xs in
          let one = mbox_text_of_lines a list (line ∷ []) in
          let whole : mbox_text_of_lines a list all ≡ text ++ (one ++ mbox_text_of_lines a list rest) =
          ap (mbox_text_of_lines a list) is ∙ joined a xs (line ∷ rest) ∙ ap (λ x. text ++ x) (joined a (line ∷ []) rest) in (
            it.0,
            λ low.
                let cut = it.1 low in (
                  length text + cut.0,
                  cut_behind before middle after text one (mbox_text_of_lines a list rest) (mbox_text_of_lines a list all) cut.0 so.1 whole cut.1,
                  omega (arith, cut.2, so.2),
                ),
          )

-- ---- behind a head

module _ {S W : Type 0} (g : Ghosts S W) (new : S) (a : Archive) (list : List ℕ) (lines : List Line) (head before : List ℕ) where
  -- the writer fails in the head
  pub head_part : (after : List ℕ) (k : ℕ) → RemembersArchive g new a → AppendsPrefixOfText before after head k
      → WritesMboxAfterHead g new a list lines head before after (Err (record { written = k; fault = desk.Write }))
  head_part after k stays cut =
      let text = mbox_text_of_lines a list lines in (
        stays,
        λ low.
            let none : length {A = ℕ} [] + k ≡ k = omega (arith) in
            subst (λ n. AppendsPrefixOfText before after (head ++ text) n) none (cut_behind before before after [] head text (head ++ text) k (sym (append-nil before)) refl cut),
      )

  module _ (middle after : List ℕ) (out : middle ≡ before ++ head) (fits : length head < 2 ^ 64) where
    pub behind_head : (count : ℕ) → WritesMboxOfLines g new a list lines middle after (length head) count (Ok tt) → WritesMboxAfterHead g new a list lines head before after (Ok count)
    behind_head count it =
        let text = mbox_text_of_lines a list lines in
        (it.0, it.1 ∙ ap (λ x. x ++ text) out ∙ append_assoc before head text, omega (arith, it.2, length-append head text))

    pub part_behind_head : (count : ℕ) (fault : DeskError) → WritesMboxOfLines g new a list lines middle after (length head) count (Err fault)
        → WritesMboxAfterHead g new a list lines head before after (Err (record { written = count; fault = fault }))
    part_behind_head count fault it =
        let text = mbox_text_of_lines a list lines in (
          it.0,
          λ low.
              let more = it.1 low in
              let told : length after ≡ length before + length head + more.0 =
              omega (arith, ap length more.1.1, length-append middle (take more.0 text), ap length out, length-append before head, length-take more.0 text, more.1.0) in
              let exact : count ≡ length head + more.0 = omega (arith, more.2, told, low) in
              subst (λ n. AppendsPrefixOfText before after (head ++ text) n) (sym exact)
              (cut_behind before middle after head text [] (head ++ text) more.0 out (ap (λ x. head ++ x) (sym (append-nil text))) more.1),
        )

-- ---- a list holds one message of a key

module _ (list : List ℕ) where
  abbrev held : Remembered → Bool
  held m = bytes_eq m.list list

  -- a message of the list is found by its key
  abbrev Is : List Remembered → Remembered → Type 0
  Is among m = find (is_message_at_key list m.key) among ≡ Some m

  abbrev Each : (among ms : List Remembered) → Type 0
  Each among [] = Unit {0}
  Each among (m ∷ ms) = Is among m × Each among ms

  -- another message has not its key
  apart : (x m : Remembered) → is_message_at_key x.list x.key m ≡ false → held m ≡ true → is_message_at_key list m.key x ≡ false
  apart x m other listed = by_test (is_message_at_key list m.key x) refl
    where
      by_test : (t : Bool) → is_message_at_key list m.key x ≡ t → t ≡ false
      by_test false is = refl
      by_test true is =
          let both = and_parts (bytes_eq x.list list) (bytes_eq x.key m.key) is in
          let one : x.list ≡ list = (bytes_eq-Decides x.list list).0 both.0 in
          let two : m.list ≡ list = (bytes_eq-Decides m.list list).0 listed in
          let same : bytes_eq m.list x.list ≡ true = (bytes_eq-Decides m.list x.list).1 (two ∙ sym one) in
          let keys : bytes_eq m.key x.key ≡ true = (bytes_eq-Decides m.key x.key).1 (sym ((bytes_eq-Decides x.key m.key).0 both.1)) in
          absurd (let bad : true ≡ false = sym (ap (λ b. b && bytes_eq m.key x.key) same ∙ keys) ∙ other in cc)

  none_same : (x m : Remembered) (ms : List Remembered) → list_any (is_message_at_key x.list x.key) (m ∷ ms) ≡ false → (is_message_at_key x.list x.key m ≡ false) ×
      (list_any (is_message_at_key x.list x.key) ms ≡ false)
  none_same x m ms is = by_test (is_message_at_key x.list x.key m) is
    where
      by_test : (s : Bool) → (s || list_any (is_message_at_key x.list x.key) ms) ≡ false → (s ≡ false) × (list_any (is_message_at_key x.list x.key) ms ≡ false)
      by_test true is = absurd (cc)
      by_test false is = (refl, is)

  -- among one message more
  past : (x : Remembered) (among ms : List Remembered) → list_any (is_message_at_key x.list x.key) ms ≡ false → Each among (filter held ms) → Each (x ∷ among) (filter held ms)
  past x among [] other each = tt
  past x among (m ∷ ms) other each = by_test (past x among ms (none_same x m ms other).1) (held m) refl each
    where
      by_test : (Each among (filter held ms) → Each (x ∷ among) (filter held ms)) → (t : Bool) → held m ≡ t → Each among (cond t (m ∷ filter held ms) (filter held ms))
          → Each (x ∷ among) (cond t (m ∷ filter held ms) (filter held ms))
      by_test rest false is each = rest each
      by_test rest true is each =
          (ap (λ t. cond t (Some x) (find (is_message_at_key list m.key) among)) (apart x m (none_same x m ms other).0 is) ∙ each.0, rest each.1)

  its_own : (x : Remembered) (among : List Remembered) → held x ≡ true → Is (x ∷ among) x
  its_own x among listed =
      ap (λ t. cond t (Some x) (find (is_message_at_key list x.key) among)) (ap (λ b. b && bytes_eq x.key x.key) listed ∙ (bytes_eq-Decides x.key x.key).1 refl)

  each_found : (ms : List Remembered) → HaveDistinctKeys ms → Each ms (filter held ms)
  each_found [] apart = tt
  each_found (x ∷ xs) apart = by_test (past x xs xs apart.0 (each_found xs apart.1)) (held x) refl
    where
      by_test : Each (x ∷ xs) (filter held xs) → (t : Bool) → held x ≡ t → Each (x ∷ xs) (cond t (x ∷ filter held xs) (filter held xs))
      by_test others false is = others
      by_test others true is = (its_own x xs is, others)

  each_kept : (among : List Remembered) (p : Remembered → Bool) (ms : List Remembered) → Each among ms → Each among (filter p ms)
  each_kept among p [] each = tt
  each_kept among p (m ∷ ms) each = by_test (each_kept among p ms each.1) (p m)
    where
      by_test : Each among (filter p ms) → (t : Bool) → Each among (cond t (m ∷ filter p ms) (filter p ms))
      by_test rest true = (each.0, rest)
      by_test rest false = rest

  -- the text of the lines of messages is theirs
  text_of_each : (a : Archive) (ms : List Remembered) → Each a.messages ms → mbox_text_of_lines a list (lines_of (map shown_message ms)) ≡ export_text (map shown_message ms)
  text_of_each a [] each = refl
  text_of_each a (m ∷ ms) each =
      ap (λ x. x ++ mbox_text_of_lines a list (lines_of (map shown_message ms))) (ap (λ o. option_map_or (λ (m : Remembered). written_item (shown_message m).item) o []) each.0)
      ∙ ap (λ x. written_item (shown_message m).item ++ x) (text_of_each a ms each.1)

  pub view_text : (a : Archive) (p : Remembered → Bool) → HaveDistinctKeys a.messages
      → mbox_text_of_lines a list (lines_of (map shown_message (filter p (messages_in a list)))) ≡ export_text (map shown_message (filter p (messages_in a list)))
  view_text a p apart = text_of_each a (filter p (messages_in a list)) (each_kept a.messages p (messages_in a list) (each_found a.messages apart))
