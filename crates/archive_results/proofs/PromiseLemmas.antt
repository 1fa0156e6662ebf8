-- What is withheld leaves no trace in a view, and so neither does what is withdrawn, for those to whom the policy denies it.
use Rattle.std.proofs.Common.{◌≡◌, ◌≢◌, ◌∙◌, ℕ, ℤ, pos, Bool, true, false, not, cond, nat_le, List, [], ◌∷◌, ◌++◌, length}
use Rattle.std.proofs.Common.{map, filter, Some, is_some, refl, sym, ap, ap₂, subst, if◌then◌else◌, arith}
use Rattle.std.specs.Prelude.{bytes_eq, find, slice_index_or, zip}
use Rattle.std.specs.List.{All}
use Rattle.std.proofs.lemmas.Bool.{true≢false}
use Rattle.std.proofs.lemmas.List.Elements.{All-nil, All-cons, All-head, All-tail}
use Rattle.std.proofs.lemmas.Slice.Eq.{bytes_eq-Decides}
use Rattle.mbox_items.specs.Division.{Item}
use Rattle.policy_core.specs.declared.access.Withdrawn.{Withdrawn}
use Rattle.policy_core.specs.declared.access.Withdrawn.TheVariants.{No, Author, Board}
use Rattle.archive_model.specs.Records.{Message, IndexColumns, Archive}
use Rattle.archive_model.specs.Commands.{Command, add, withdraw, embargo, no_list, no_message, already_withdrawn, list_full, too_large, done, taken_in, already_known, refused}
use Rattle.archive_model.specs.Filing.{IndexedMessage, item_index_columns}
use Rattle.archive_model.specs.Keys.{item_key}
use Rattle.archive_model.specs.Lasting.{NoCommandSatisfies, ends_withdrawal, changes_embargo, HoldsForMessageAtKey}
use Rattle.archive_model.specs.Machine.{step, refuse, change_at_key, with_changed_message, with_withdrawal, keyed_message, with_message, is_too_large, message_limit}
use Rattle.archive_model.specs.Messages.{withdrawal_number}
use Rattle.archive_model.specs.Questions.{has_list, has_message, message_of, messages_in, is_message_at_key, is_withdrawn}
use Rattle.archive_model.specs.Runs.{run}
use Rattle.archive_results.specs.Access.{Ask, ReaderFacts, message_facts, is_own_by_address, withdrawal_of_number, reader_facts, is_shown, view_of}
use Rattle.archive_results.specs.Promise.{without_message, without_all_messages, IsMessageHidden, IsNotOwnMessage, DeniesWithdrawn, DeniesWithdrawnBy, DeniesEmbargoed, IsMessageHiddenIfDenied}

-- ---- the view of some messages, by what is shown of each

module _ (ask : Ask) (reader : ReaderFacts) (list key : List ℕ) where
  abbrev kept : Message → Bool
  kept m = bytes_eq m.list ask.list

  abbrev seen : List Message → List Message
  seen messages = filter (is_shown ask reader) (filter kept messages)

  abbrev gone : List Message → List Message
  gone messages = filter (λ m. not (is_message_at_key list key m)) messages

  unseen : (m : Message) (messages : List Message) → is_shown ask reader m ≡ false → seen (m ∷ messages) ≡ seen messages
  unseen m messages hidden = by_list (kept m)
    where
      by_list : (b : Bool) → filter (is_shown ask reader) (cond b (m ∷ filter kept messages) (filter kept messages)) ≡ seen messages
      by_list true = rw hidden refl
      by_list false = refl

  same_seen : (m : Message) (xs ys : List Message) → seen xs ≡ seen ys → seen (m ∷ xs) ≡ seen (m ∷ ys)
  same_seen m xs ys same = by_list (kept m)
    where
      by_list : (b : Bool) → filter (is_shown ask reader) (cond b (m ∷ filter kept xs) (filter kept xs)) ≡ filter (is_shown ask reader) (cond b (m ∷ filter kept ys) (filter kept ys))
      by_list true = ap (λ (rest : List Message). cond (is_shown ask reader m) (m ∷ rest) rest) same
      by_list false = same

  -- each message as it is or, where it is of this key, as it becomes, of which nothing is seen
  module _ (becomes : Message → Message) where
    abbrev Hidden : Message → Type 0
    Hidden m = is_message_at_key list key m ≡ true → is_shown ask reader (becomes m) ≡ false

    gone_more : (m : Message) (messages : List Message) (b : Bool) → is_message_at_key list key m ≡ b → Hidden m → seen (map (change_at_key list key becomes) messages) ≡ seen (gone messages)
        → seen ((if b then becomes m else m) ∷ map (change_at_key list key becomes) messages) ≡ seen (cond (not b) (m ∷ gone messages) (gone messages))
    gone_more m messages true is hidden later = unseen (becomes m) (map (change_at_key list key becomes) messages) (hidden is) ∙ later
    gone_more m messages false is hidden later = same_seen m (map (change_at_key list key becomes) messages) (gone messages) later

    pub as_gone : (messages : List Message) → All Hidden messages → seen (map (change_at_key list key becomes) messages) ≡ seen (gone messages)
    as_gone [] hidden = refl
    as_gone (m ∷ messages) hidden =
        gone_more m messages (is_message_at_key list key m) refl (All-head Hidden m messages hidden) (as_gone messages (All-tail Hidden m messages hidden))

  unchanged : (messages : List Message) → map (change_at_key list key (λ m. m)) messages ≡ messages
  unchanged [] = refl
  unchanged (m ∷ messages) = ap (λ (n : Message). n ∷ map (change_at_key list key (λ x. x)) messages) (by_key (is_message_at_key list key m)) ∙ ap (λ (ms : List Message). m ∷ ms) (unchanged messages)
    where
      by_key : (b : Bool) → (if b then m else m) ≡ m
      by_key true = refl
      by_key false = refl

pub leaves_no_trace : (a : Archive) (ask : Ask) (list key : List ℕ) → IsMessageHidden a ask list key → view_of a ask ≡ view_of (without_message a list key) ask
leaves_no_trace a ask list key hidden =
    let reader : ReaderFacts = reader_facts a ask in
    ap (seen ask reader list key) (sym (unchanged ask reader list key a.messages)) ∙ as_gone ask reader list key (λ m. m) a.messages hidden

-- ---- a withdrawal

-- what one that is done leaves
withdrawn_left : (a : Archive) (list key : List ℕ) (party : ℤ) → (step a (withdraw list key party)).1 ≡ done
    → (step a (withdraw list key party)).0 ≡ with_changed_message a list key (with_withdrawal party)
withdrawn_left a list key party = by_tests (has_list a list) (has_message a list key) (is_withdrawn (message_of a list key))
  where
    left : Archive
    left = with_changed_message a list key (with_withdrawal party)

    by_tests : (l m w : Bool)
        → (if not l then refuse a no_list else if not m then refuse a no_message else if w then refuse a already_withdrawn else (left, done)).1 ≡ done
        → (if not l then refuse a no_list else if not m then refuse a no_message else if w then refuse a already_withdrawn else (left, done)).0 ≡ left
    by_tests false m w e = absurd (let bad : refused no_list ≡ done = e in cc)
    by_tests true false w e = absurd (let bad : refused no_message ≡ done = e in cc)
    by_tests true true true e = absurd (let bad : refused already_withdrawn ≡ done = e in cc)
    by_tests true true false e = refl

pub all_else_alike : (a : Archive) (list key : List ℕ) (party : ℤ) → without_all_messages (step a (withdraw list key party)).0 ≡ without_all_messages (without_message a list key)
all_else_alike a list key party = by_tests (has_list a list) (has_message a list key) (is_withdrawn (message_of a list key))
  where
    left : Archive
    left = with_changed_message a list key (with_withdrawal party)

    by_tests : (l m w : Bool)
        → without_all_messages (if not l then refuse a no_list else if not m then refuse a no_message else if w then refuse a already_withdrawn else (left, done)).0 ≡ without_all_messages a
    by_tests false m w = refl
    by_tests true false w = refl
    by_tests true true true = refl
    by_tests true true false = refl

-- the marks of a message that was withdrawn
numbered : (by : Withdrawn) → withdrawal_of_number (withdrawal_number by) ≡ by
numbered No = refl
numbered Author = refl
numbered Board = refl

-- who withdrew a message is somebody
numbered_some : (by : Withdrawn) → by ≢ No → withdrawal_number by ≢ pos 0
numbered_some No some e = some refl
numbered_some Author some e = absurd cc
numbered_some Board some e = absurd cc

hidden_by : (ask : Ask) (reader : ReaderFacts) (by : Withdrawn) (m : Message) → DeniesWithdrawnBy by ask reader → is_own_by_address reader.address m ≡ false
    → m.withdrawn ≡ withdrawal_number by → is_shown ask reader m ≡ false
unfolding message_facts
hidden_by ask reader by m denies other is = denies (message_facts reader.address m) (ap withdrawal_of_number is ∙ numbered by) other

pub as_if_it_never_came : (a : Archive) (ask : Ask) (list key : List ℕ) (by : Withdrawn) → (step a (withdraw list key (withdrawal_number by))).1 ≡ done
    → IsNotOwnMessage a ask list key → DeniesWithdrawnBy by ask (reader_facts a ask) → view_of (step a (withdraw list key (withdrawal_number by))).0 ask ≡ view_of (without_message a list key) ask
as_if_it_never_came a ask list key by is others denies =
    let reader : ReaderFacts = reader_facts a ask in
    ap (λ (archive : Archive). view_of archive ask) (withdrawn_left a list key (withdrawal_number by) is)
    ∙ as_gone ask reader list key (with_withdrawal (withdrawal_number by)) a.messages
    (λ k d within of_key. hidden_by ask reader by (with_withdrawal (withdrawal_number by) (slice_index_or a.messages k d)) denies (others k d within of_key) refl)

-- who denies what anybody withdrew denies what this party withdrew
pub by_any : (ask : Ask) (reader : ReaderFacts) (by : Withdrawn) → by ≢ No → DeniesWithdrawn ask reader → DeniesWithdrawnBy by ask reader
by_any ask reader by some denies marks is other = denies marks (λ e. some (sym is ∙ e)) other

-- ---- what is withheld later

-- what the machine's law says of a message that was withdrawn, and of one that was held back
abbrev pub StaysWithdrawn : Type 0
StaysWithdrawn = (a : Archive) (list key : List ℕ) (party : ℤ) (commands : List Command) → party ≢ pos 0 → (step a (withdraw list key party)).1 ≡ done
    → NoCommandSatisfies (ends_withdrawal list key) commands → HoldsForMessageAtKey (run (step a (withdraw list key party)).0 commands).archive list key (λ m. m.withdrawn ≡ party)

abbrev pub StaysHeldBack : Type 0
StaysHeldBack = (a : Archive) (list key : List ℕ) (until : ℤ) (commands : List Command) → (step a (embargo list key until)).1 ≡ done
    → NoCommandSatisfies (changes_embargo list key) commands → HoldsForMessageAtKey (run (step a (embargo list key until)).0 commands).archive list key (λ m. m.embargo ≡ Some until)

withheld_by : (b : Archive) (ask : Ask) (list key : List ℕ) (by : Withdrawn) → HoldsForMessageAtKey b list key (λ m. m.withdrawn ≡ withdrawal_number by)
    → IsMessageHiddenIfDenied (DeniesWithdrawnBy by) b ask list key
withheld_by b ask list key by marked others denies k d within of_key =
    hidden_by ask (reader_facts b ask) by (slice_index_or b.messages k d) denies (others k d within of_key) (marked k d within of_key)

pub withdrawn_later : StaysWithdrawn → (a : Archive) (ask : Ask) (list key : List ℕ) (by : Withdrawn) (commands : List Command) → by ≢ No
    → (step a (withdraw list key (withdrawal_number by))).1 ≡ done → NoCommandSatisfies (ends_withdrawal list key) commands
    → IsMessageHiddenIfDenied (DeniesWithdrawnBy by) (run (step a (withdraw list key (withdrawal_number by))).0 commands).archive ask list key
withdrawn_later stays a ask list key by commands some is none =
    withheld_by (run (step a (withdraw list key (withdrawal_number by))).0 commands).archive ask list key by
    (stays a list key (withdrawal_number by) commands (numbered_some by some) is none)

held_back : (ask : Ask) (reader : ReaderFacts) (until : ℤ) (m : Message) → DeniesEmbargoed until ask reader → is_own_by_address reader.address m ≡ false
    → m.embargo ≡ Some until → is_shown ask reader m ≡ false
unfolding message_facts
held_back ask reader until m denies other is = denies (message_facts reader.address m) is other

withheld_until : (b : Archive) (ask : Ask) (list key : List ℕ) (until : ℤ) → HoldsForMessageAtKey b list key (λ m. m.embargo ≡ Some until)
    → IsMessageHiddenIfDenied (DeniesEmbargoed until) b ask list key
withheld_until b ask list key until marked others denies k d within of_key =
    held_back ask (reader_facts b ask) until (slice_index_or b.messages k d) denies (others k d within of_key) (marked k d within of_key)

pub held_back_later : StaysHeldBack → (a : Archive) (ask : Ask) (list key : List ℕ) (until : ℤ) (commands : List Command)
    → (step a (embargo list key until)).1 ≡ done → NoCommandSatisfies (changes_embargo list key) commands
    → IsMessageHiddenIfDenied (DeniesEmbargoed until) (run (step a (embargo list key until)).0 commands).archive ask list key
held_back_later stays a ask list key until commands is none =
    withheld_until (run (step a (embargo list key until)).0 commands).archive ask list key until (stays a list key until commands is none)

-- ---- a message that was just withdrawn

-- what is said of each message of this name, where each becomes another of its name
of_changed : (list key : List ℕ) (change : Message → Message) (Says Said : Message → Type 0) → ((m : Message) → is_message_at_key list key (change m) ≡ is_message_at_key list key m)
    → ((m : Message) → Says m → Said (change m)) → (ms : List Message) → All (λ m. is_message_at_key list key m ≡ true → Says m) ms
    → All (λ m. is_message_at_key list key m ≡ true → Said m) (map (change_at_key list key change) ms)
of_changed list key change Says Said names says [] all = All-nil (λ m. is_message_at_key list key m ≡ true → Said m)
of_changed list key change Says Said names says (m ∷ ms) all =
    All-cons (λ n. is_message_at_key list key n ≡ true → Said n) (change_at_key list key change m) (map (change_at_key list key change) ms) (first (is_message_at_key list key m) refl)
    (of_changed list key change Says Said names says ms (All-tail (λ n. is_message_at_key list key n ≡ true → Says n) m ms all))
  where
    first : (b : Bool) → is_message_at_key list key m ≡ b → is_message_at_key list key (if b then change m else m) ≡ true → Said (if b then change m else m)
    first true at is = says m (All-head (λ n. is_message_at_key list key n ≡ true → Says n) m ms all at)
    first false at is = absurd (true≢false (sym is ∙ at))

pub withheld_after : (a : Archive) (ask : Ask) (list key : List ℕ) (by : Withdrawn) → (step a (withdraw list key (withdrawal_number by))).1 ≡ done
    → IsNotOwnMessage a ask list key → DeniesWithdrawnBy by ask (reader_facts a ask) → IsMessageHidden (step a (withdraw list key (withdrawal_number by))).0 ask list key
withheld_after a ask list key by is others denies =
    let reader : ReaderFacts = reader_facts a ask in
    subst (λ (b : Archive). IsMessageHidden b ask list key) (sym (withdrawn_left a list key (withdrawal_number by) is))
    (of_changed list key (with_withdrawal (withdrawal_number by)) (λ m. is_own_by_address reader.address m ≡ false) (λ m. is_shown ask reader m ≡ false) (λ m. refl)
    (λ m other. hidden_by ask reader by (with_withdrawal (withdrawal_number by) m) denies other refl) a.messages others)

-- a message that changes and keeps its name changes nothing else
module _ (list key : List ℕ) (change : Message → Message) (names : (m : Message) → is_message_at_key list key (change m) ≡ is_message_at_key list key m) where
  messages_beside : (ms : List Message) → filter (λ m. not (is_message_at_key list key m)) (map (change_at_key list key change) ms) ≡ filter (λ m. not (is_message_at_key list key m)) ms
  messages_beside [] = refl
  messages_beside (m ∷ ms) = by_key (is_message_at_key list key m) refl (messages_beside ms)
    where
      rest : List Message
      rest = map (change_at_key list key change) ms

      by_key : (b : Bool) → is_message_at_key list key m ≡ b → filter (λ n. not (is_message_at_key list key n)) rest ≡ filter (λ n. not (is_message_at_key list key n)) ms
          → filter (λ n. not (is_message_at_key list key n)) ((if b then change m else m) ∷ rest) ≡ cond (not b) (m ∷ filter (λ n. not (is_message_at_key list key n)) ms)
          (filter (λ n. not (is_message_at_key list key n)) ms)
      by_key true is later = rw (names m ∙ is) later
      by_key false is later = rw is (ap (λ (ns : List Message). m ∷ ns) later)

  filings_beside : (ms : List Message) (fs : List IndexColumns)
      → map (λ (f : IndexedMessage). f.1) (filter (λ (f : IndexedMessage). not (is_message_at_key list key f.0)) (zip (map (change_at_key list key change) ms) fs))
      ≡ map (λ (f : IndexedMessage). f.1) (filter (λ (f : IndexedMessage). not (is_message_at_key list key f.0)) (zip ms fs))
  filings_beside [] fs = refl
  filings_beside (m ∷ ms) [] = refl
  filings_beside (m ∷ ms) (f ∷ fs) = by_key (is_message_at_key list key m) refl (filings_beside ms fs)
    where
      left : List Message → List IndexedMessage
      left ns = filter (λ (g : IndexedMessage). not (is_message_at_key list key g.0)) (zip ns fs)

      filing : List IndexedMessage → List IndexColumns
      filing gs = map (λ (g : IndexedMessage). g.1) gs

      by_key : (b : Bool) → is_message_at_key list key m ≡ b → filing (left (map (change_at_key list key change) ms)) ≡ filing (left ms)
          → filing (filter (λ (g : IndexedMessage). not (is_message_at_key list key g.0)) (((if b then change m else m), f) ∷ zip (map (change_at_key list key change) ms) fs))
          ≡ filing (cond (not b) ((m, f) ∷ left ms) (left ms))
      by_key true is later = rw (names m ∙ is) later
      by_key false is later = rw is (ap (λ (gs : List IndexColumns). f ∷ gs) later)

  pub without_changed : (a : Archive) → without_message (with_changed_message a list key change) list key ≡ without_message a list key
  without_changed a =
      ap₂ (λ (messages : List Message) (index_columns : List IndexColumns). record a { messages = messages; index_columns = index_columns })
      (messages_beside a.messages) (filings_beside a.messages a.index_columns)

pub without_withdrawn : (a : Archive) (list key : List ℕ) (party : ℤ) → (step a (withdraw list key party)).1 ≡ done
    → without_message (step a (withdraw list key party)).0 list key ≡ without_message a list key
without_withdrawn a list key party is =
    ap (λ (b : Archive). without_message b list key) (withdrawn_left a list key party is) ∙ without_changed list key (with_withdrawal party) (λ m. refl) a

-- ---- the message that came last

none_there : (list key : List ℕ) (m : Message) (messages : List Message) → is_some (find (is_message_at_key list key) (m ∷ messages)) ≡ false
    → (is_message_at_key list key m ≡ false) × (is_some (find (is_message_at_key list key) messages) ≡ false)
none_there list key m messages none = by_test (is_message_at_key list key m) none
  where
    by_test : (b : Bool) → is_some (cond b (Some m) (find (is_message_at_key list key) messages)) ≡ false → (b ≡ false) × (is_some (find (is_message_at_key list key) messages) ≡ false)
    by_test true e = absurd (cc)
    by_test false e = (refl, e)

module _ (list key : List ℕ) (new : Message) (filing : IndexColumns) (is : is_message_at_key list key new ≡ true) where
  messages_left : (messages : List Message) → is_some (find (is_message_at_key list key) messages) ≡ false
      → filter (λ m. not (is_message_at_key list key m)) (messages ++ new ∷ []) ≡ messages
  messages_left [] none = rw is refl
  messages_left (m ∷ messages) none =
      let first = none_there list key m messages none in
      rw first.0 (ap (λ (rest : List Message). m ∷ rest) (messages_left messages first.1))

  filings_left : (messages : List Message) (index_columns : List IndexColumns) → length index_columns ≡ length messages → is_some (find (is_message_at_key list key) messages) ≡ false
      → map (λ (f : IndexedMessage). f.1) (filter (λ (f : IndexedMessage). not (is_message_at_key list key f.0)) (zip (messages ++ new ∷ []) (index_columns ++ filing ∷ []))) ≡ index_columns
  filings_left [] [] same none = rw is refl
  filings_left [] (f ∷ index_columns) same none = absurd (omega (arith, same))
  filings_left (m ∷ messages) [] same none = absurd (omega (arith, same))
  filings_left (m ∷ messages) (f ∷ index_columns) same none =
      let first = none_there list key m messages none in
      rw first.0 (ap (λ (rest : List IndexColumns). f ∷ rest) (filings_left messages index_columns (omega (arith, same)) first.1))

-- what taking one in leaves
taken_left : (a : Archive) (list : List ℕ) (item : Item) → (step a (add list item)).1 ≡ taken_in
    → (has_message a list (item_key item) ≡ false) × ((step a (add list item)).0 ≡ with_message a list item)
taken_left a list item =
    by_tests (has_list a list) (is_too_large item) (has_message a list (item_key item)) (nat_le message_limit (length (messages_in a list)))
  where
    left : Archive
    left = with_message a list item

    by_tests : (l b m f : Bool)
        → (if not l then refuse a no_list else if b then refuse a too_large else if m then (a, already_known) else if f then refuse a list_full else (left, taken_in)).1 ≡ taken_in
        → (m ≡ false) × ((if not l then refuse a no_list else if b then refuse a too_large else if m then (a, already_known) else if f then refuse a list_full else (left, taken_in)).0 ≡ left)
    by_tests false b m f e = absurd (let bad : refused no_list ≡ taken_in = e in cc)
    by_tests true true m f e = absurd (let bad : refused too_large ≡ taken_in = e in cc)
    by_tests true false true f e = absurd (let bad : already_known ≡ taken_in = e in cc)
    by_tests true false false true e = absurd (let bad : refused list_full ≡ taken_in = e in cc)
    by_tests true false false false e = (refl, refl)

itself : (a : List ℕ) → bytes_eq a a ≡ true
itself a = (bytes_eq-Decides a a).1 refl

keyed : (list key : List ℕ) (item : Item) → is_message_at_key list key (keyed_message list key item) ≡ true
keyed list key item = rw (itself list) (itself key)

pub before_it_came : (a : Archive) (list : List ℕ) (item : Item) → length a.index_columns ≡ length a.messages → (step a (add list item)).1 ≡ taken_in
    → without_message (step a (add list item)).0 list (item_key item) ≡ a
before_it_came a list item same is =
    let taken = taken_left a list item is in
    let key : List ℕ = item_key item in
    ap (λ (archive : Archive). without_message archive list key) taken.1
    ∙ ap (λ (messages : List Message). record a {
      messages = messages;
      index_columns = map (λ (f : IndexedMessage). f.1) (filter (λ (f : IndexedMessage). not (is_message_at_key list key f.0))
          (zip (a.messages ++ keyed_message list key item ∷ []) (a.index_columns ++ item_index_columns item ∷ [])));
    }) (messages_left list key (keyed_message list key item) (item_index_columns item) (keyed list key item) a.messages taken.0)
    ∙ ap (λ (index_columns : List IndexColumns). record a { index_columns = index_columns })
    (filings_left list key (keyed_message list key item) (item_index_columns item) (keyed list key item) a.messages a.index_columns same taken.0)
