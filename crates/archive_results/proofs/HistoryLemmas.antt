-- An archive without a message is the archive of all commands but those of that message.
use Rattle.std.proofs.Common.{◌≡◌, ◌≢◌, ◌≤◌, ◌∙◌, ℕ, ℤ, pos, Bool, true, false, not, ◌&&◌, cond, nat_le, List, [], ◌∷◌, ◌++◌}
use Rattle.std.proofs.Common.{length, map, filter, Option, Some, None, is_some, refl, sym, ap, ap₂, if◌then◌else◌, arith}
use Rattle.std.specs.Prelude.{⊤, bytes_eq, find, int_lt, zip}
use Rattle.std.specs.List.{All}
use Rattle.std.proofs.lemmas.Bool.{true≢false}
use Rattle.std.proofs.lemmas.Bool.Decides.{nat_tests}
use Rattle.std.proofs.lemmas.List.{append-nil, length-append, length-map}
use Rattle.std.proofs.lemmas.List.Elements.{All-head, All-tail, filter-append}
use Rattle.std.proofs.lemmas.Slice.Eq.{bytes_eq-Decides}
use Rattle.mbox_items.specs.Division.{Item}
use Rattle.policy_core.specs.Names.{is_name}
use Rattle.archive_model.specs.Records.{Message, IndexColumns, Archive}
use Rattle.archive_model.specs.Commands.{Command, list_add, person_add, grant, revoke, add, withdraw, restore, embargo, lift, merge_set, address_set, no_list, no_message}
use Rattle.archive_model.specs.Commands.{already_withdrawn, not_withdrawn, list_full, too_large, CommandReply, done, was_there, taken_in, already_known, refused}
use Rattle.archive_model.specs.Addresses.{is_address}
use Rattle.archive_model.specs.Filing.{IndexedMessage, item_index_columns}
use Rattle.archive_model.specs.Keys.{item_key}
use Rattle.archive_model.specs.Machine.{StepOutcome, refuse, step, change_at_key, with_changed_message, with_withdrawal, with_embargo, new_message, with_message, is_too_large, message_limit}
use Rattle.archive_model.specs.Questions.{has_list, has_person, has_token, has_message, message_of, messages_in, is_message_at_key, is_withdrawn, has_embargo}
use Rattle.archive_model.specs.Runs.{run}
use Rattle.archive_model.specs.BearerTokens.{is_token}
use Rattle.archive_model.proofs.RunLemmas.{EachChangeKeeps, kept_by_steps}
use Rattle.archive_results.specs.Promise.{without_message, is_about_message}
use Rattle.archive_results.proofs.PromiseLemmas.{without_changed}

-- ---- each message has what is filed of it

abbrev HasFilings : Archive → Type 0
HasFilings a = length a.index_columns ≡ length a.messages

one_more : {X Y : Type 0} (xs : List X) (ys : List Y) (x : X) (y : Y) → length xs ≡ length ys → length (xs ++ x ∷ []) ≡ length (ys ++ y ∷ [])
one_more xs ys x y same = length-append xs (x ∷ []) ∙ (omega (arith, same)) ∙ sym (length-append ys (y ∷ []))

filings_kept : EachChangeKeeps HasFilings (λ _. ⊤)
filings_kept = record {
  lists = λ a name named new same. same;
  persons = λ a p named told new free same. same;
  grants = λ a g same. same;
  revokes = λ a person list rank same. same;
  messages = λ a list item is new same. one_more a.index_columns a.messages (item_index_columns item) (new_message list item) same;
  withdrawals = λ a list key party same. same ∙ sym (length-map a.messages (change_at_key list key (with_withdrawal party)));
  embargoes = λ a list key until same. same ∙ sym (length-map a.messages (change_at_key list key (with_embargo until)));
  merges = λ a list merge same. same;
  addresses = λ a person address told same. same;
}

-- ---- the messages beside one of this name, and what is filed of them

module _ (list key : List ℕ) where
  abbrev is_it : Message → Bool
  is_it m = is_message_at_key list key m

  abbrev gone : List Message → List Message
  gone ms = filter (λ m. not (is_it m)) ms

  abbrev left : List Message → List IndexColumns → List IndexColumns
  left ms fs = map (λ (f : IndexedMessage). f.1) (filter (λ (f : IndexedMessage). not (is_it f.0)) (zip ms fs))

  abbrev never : Archive → Archive
  never a = without_message a list key

  itself : (xs : List ℕ) → bytes_eq xs xs ≡ true
  itself xs = (bytes_eq-Decides xs xs).1 refl

  both_true : (b c : Bool) → (b && c) ≡ true → (b ≡ true) × (c ≡ true)
  both_true true c is = (refl, is)
  both_true false c is = absurd (true≢false (sym is))

  -- one of this name is none of another
  of_one_name : (l k : List ℕ) (m : Message) → (bytes_eq l list && bytes_eq k key) ≡ false → is_it m ≡ true → is_message_at_key l k m ≡ false
  of_one_name l k m apart is = by_test (is_message_at_key l k m) refl
    where
      by_test : (b : Bool) → is_message_at_key l k m ≡ b → b ≡ false
      by_test false at = refl
      by_test true at =
          let one = both_true (bytes_eq m.list list) (bytes_eq m.key key) is in
          let other = both_true (bytes_eq m.list l) (bytes_eq m.key k) at in
          let lists : l ≡ list = sym ((bytes_eq-Decides m.list l).0 other.0) ∙ (bytes_eq-Decides m.list list).0 one.0 in
          let keys : k ≡ key = sym ((bytes_eq-Decides m.key k).0 other.1) ∙ (bytes_eq-Decides m.key key).0 one.1 in
          absurd (true≢false (sym (ap₂ ◌&&◌ (ap (λ (xs : List ℕ). bytes_eq xs list) lists ∙ itself list) (ap (λ (xs : List ℕ). bytes_eq xs key) keys ∙ itself key)) ∙ apart))

  found_beside : (l k : List ℕ) → (bytes_eq l list && bytes_eq k key) ≡ false → (ms : List Message) → find (is_message_at_key l k) (gone ms) ≡ find (is_message_at_key l k) ms
  found_beside l k apart [] = refl
  found_beside l k apart (m ∷ ms) = by_name (is_it m) refl (found_beside l k apart ms)
    where
      by_name : (b : Bool) → is_it m ≡ b → find (is_message_at_key l k) (gone ms) ≡ find (is_message_at_key l k) ms
          → find (is_message_at_key l k) (cond (not b) (m ∷ gone ms) (gone ms)) ≡ cond (is_message_at_key l k m) (Some m) (find (is_message_at_key l k) ms)
      by_name true is later = rw (of_one_name l k m apart is) later
      by_name false is later = ap (λ (o : Option Message). cond (is_message_at_key l k m) (Some m) o) later

  -- messages that change and keep whether they are of this name
  module _ (change : Message → Message) (names : (m : Message) → is_it (change m) ≡ is_it m) where
    gone_map : (ms : List Message) → gone (map change ms) ≡ map change (gone ms)
    gone_map [] = refl
    gone_map (m ∷ ms) = by_name (is_it (change m)) (is_it m) (names m) (gone_map ms)
      where
        by_name : (b c : Bool) → b ≡ c → gone (map change ms) ≡ map change (gone ms)
            → cond (not b) (change m ∷ gone (map change ms)) (gone (map change ms)) ≡ map change (cond (not c) (m ∷ gone ms) (gone ms))
        by_name true true same later = later
        by_name false false same later = ap (λ (ns : List Message). change m ∷ ns) later
        by_name true false same later = absurd (true≢false same)
        by_name false true same later = absurd (true≢false (sym same))

    left_map : (ms : List Message) (fs : List IndexColumns) → left (map change ms) fs ≡ left ms fs
    left_map [] fs = refl
    left_map (m ∷ ms) [] = refl
    left_map (m ∷ ms) (f ∷ fs) = by_name (is_it (change m)) (is_it m) (names m) (left_map ms fs)
      where
        both : List Message → List IndexedMessage
        both ns = filter (λ (g : IndexedMessage). not (is_it g.0)) (zip ns fs)

        filing : List IndexedMessage → List IndexColumns
        filing gs = map (λ (g : IndexedMessage). g.1) gs

        by_name : (b c : Bool) → b ≡ c → filing (both (map change ms)) ≡ filing (both ms)
            → filing (cond (not b) ((change m, f) ∷ both (map change ms)) (both (map change ms))) ≡ filing (cond (not c) ((m, f) ∷ both ms) (both ms))
        by_name true true same later = later
        by_name false false same later = ap (λ (gs : List IndexColumns). f ∷ gs) later
        by_name true false same later = absurd (true≢false same)
        by_name false true same later = absurd (true≢false (sym same))

  -- one more at the end
  left_push : (new : Message) (filing : IndexColumns) (b : Bool) → is_it new ≡ b → (ms : List Message) (fs : List IndexColumns) → length fs ≡ length ms
      → left (ms ++ new ∷ []) (fs ++ filing ∷ []) ≡ left ms fs ++ cond (not b) (filing ∷ []) []
  left_push new filing true is [] [] same = rw is refl
  left_push new filing false is [] [] same = rw is refl
  left_push new filing b is [] (f ∷ fs) same = absurd (omega (arith, same))
  left_push new filing b is (m ∷ ms) [] same = absurd (omega (arith, same))
  left_push new filing b is (m ∷ ms) (f ∷ fs) same = by_name (is_it m) (left_push new filing b is ms fs (omega (arith, same)))
    where
      both : List Message → List IndexColumns → List IndexedMessage
      both ns gs = filter (λ (g : IndexedMessage). not (is_it g.0)) (zip ns gs)

      index_columns : List IndexedMessage → List IndexColumns
      index_columns gs = map (λ (g : IndexedMessage). g.1) gs

      by_name : (c : Bool) → index_columns (both (ms ++ new ∷ []) (fs ++ filing ∷ [])) ≡ index_columns (both ms fs) ++ cond (not b) (filing ∷ []) []
          → index_columns (cond (not c) ((m, f) ∷ both (ms ++ new ∷ []) (fs ++ filing ∷ [])) (both (ms ++ new ∷ []) (fs ++ filing ∷ [])))
          ≡ index_columns (cond (not c) ((m, f) ∷ both ms fs) (both ms fs)) ++ cond (not b) (filing ∷ []) []
      by_name true later = later
      by_name false later = ap (λ (gs : List IndexColumns). f ∷ gs) later

  fewer : (test : Message → Bool) (ms : List Message) → length (filter test (gone ms)) ≤ length (filter test ms)
  fewer test [] = omega arith
  fewer test (m ∷ ms) = by_name (is_it m) (test m) (fewer test ms)
    where
      kept : (c : Bool) → length (filter test (gone ms)) ≤ length (filter test ms)
          → length (cond c (m ∷ filter test (gone ms)) (filter test (gone ms))) ≤ length (cond c (m ∷ filter test ms) (filter test ms))
      kept true less = omega (arith, less)
      kept false less = less

      dropped : (c : Bool) → length (filter test (gone ms)) ≤ length (filter test ms) → length (filter test (gone ms)) ≤ length (cond c (m ∷ filter test ms) (filter test ms))
      dropped true less = omega (arith, less)
      dropped false less = less

      by_name : (b : Bool) (c : Bool) → length (filter test (gone ms)) ≤ length (filter test ms)
          → length (filter test (cond (not b) (m ∷ gone ms) (gone ms))) ≤ length (cond (test m) (m ∷ filter test ms) (filter test ms))
      by_name true c less = dropped (test m) less
      by_name false c less = kept (test m) less

  -- ---- one command

  -- an answer that changes nothing, or else another outcome
  branch : (a : Archive) (b : Bool) (reply : CommandReply) (x y : StepOutcome) → never x.0 ≡ y.0 → never (if b then (a, reply) else x).0 ≡ (if b then (never a, reply) else y).0
  branch a true reply x y same = refl
  branch a false reply x y same = same

  unless : (a : Archive) (b : Bool) (reply : CommandReply) (x : StepOutcome) → never x.0 ≡ never a → never (if b then (a, reply) else x).0 ≡ never a
  unless a true reply x same = refl
  unless a false reply x same = same

  new_beside : (a : Archive) (l : List ℕ) (item : Item) (b : Bool) → is_it (new_message l item) ≡ b → HasFilings a
      → never (with_message a l item) ≡ record a {
        messages = gone a.messages ++ cond (not b) (new_message l item ∷ []) [];
        index_columns = left a.messages a.index_columns ++ cond (not b) (item_index_columns item ∷ []) [];
      }
  new_beside a l item b is same =
      ap₂ (λ (ms : List Message) (fs : List IndexColumns). record a { messages = ms; index_columns = fs })
      (filter-append (λ m. not (is_it m)) a.messages (new_message l item ∷ []) ∙ ap (λ (c : Bool). gone a.messages ++ cond (not c) (new_message l item ∷ []) []) is)
      (left_push (new_message l item) (item_index_columns item) b is a.messages a.index_columns same)

  few : (n m : ℕ) → m ≤ n → nat_le message_limit n ≡ false → nat_le message_limit m ≡ false
  few n m less room = grind (arith, nat_tests, less, room)

  add_other : (a : Archive) (l : List ℕ) (item : Item) → HasFilings a → (bytes_eq l list && bytes_eq (item_key item) key) ≡ false
      → (step a (add l item)).1 ≢ refused list_full → never (step a (add l item)).0 ≡ (step (never a) (add l item)).0
  add_other a l item same apart =
      by_tests (not (has_list a l)) (is_too_large item) (has_message a l (item_key item)) (has_message (never a) l (item_key item))
      (ap is_some (found_beside l (item_key item) apart a.messages))
      (nat_le message_limit (length (messages_in a l))) (nat_le message_limit (length (messages_in (never a) l)))
      (few (length (messages_in a l)) (length (messages_in (never a) l)) (fewer (λ m. bytes_eq m.list l) a.messages))
    where
      by_tests : (h s k w : Bool) → w ≡ k → (f g : Bool) → (f ≡ false → g ≡ false)
          → (if h then refuse a no_list else if s then (a, refused too_large) else if k then (a, already_known) else if f then (a, refused list_full) else
          (with_message a l item, taken_in)).1 ≢ refused list_full
          → never (if h then refuse a no_list else if s then (a, refused too_large) else if k then (a, already_known) else if f then (a, refused list_full) else (with_message a l item, taken_in)).0
          ≡ (if h then refuse (never a) no_list else if s then (never a, refused too_large) else if w then (never a, already_known) else if g then
          (never a, refused list_full) else (with_message (never a) l item, taken_in)).0
      by_tests true s k w e f g room full = refl
      by_tests false true k w e f g room full = refl
      by_tests false false true true e f g room full = refl
      by_tests false false true false e f g room full = absurd (true≢false (sym e))
      by_tests false false false true e f g room full = absurd (true≢false e)
      by_tests false false false false e true g room full = absurd (full refl)
      by_tests false false false false e false true room full = absurd (true≢false (room refl))
      by_tests false false false false e false false room full = new_beside a l item false apart same

  add_it : (a : Archive) (l : List ℕ) (item : Item) → HasFilings a → (bytes_eq l list && bytes_eq (item_key item) key) ≡ true → never (step a (add l item)).0 ≡ never a
  add_it a l item same it =
      unless a (not (has_list a l)) _ _ (unless a (is_too_large item) _ _ (unless a (has_message a l (item_key item)) _ _
      (unless a (nat_le message_limit (length (messages_in a l))) _ _
      (new_beside a l item true it same
      ∙ ap₂ (λ (ms : List Message) (fs : List IndexColumns). record a { messages = ms; index_columns = fs }) (append-nil (gone a.messages)) (append-nil (left a.messages a.index_columns))))))

  -- a change of one message, which keeps its name
  module _ (l k : List ℕ) (change : Message → Message) (names : (m : Message) → is_it (change m) ≡ is_it m) where
    named : (m : Message) → is_it (change_at_key l k change m) ≡ is_it m
    named m = by_name (is_message_at_key l k m)
      where
        by_name : (b : Bool) → is_it (if b then change m else m) ≡ is_it m
        by_name true = names m
        by_name false = refl

    change_other : (a : Archive) → never (with_changed_message a l k change) ≡ with_changed_message (never a) l k change
    change_other a =
        ap₂ (λ (ms : List Message) (fs : List IndexColumns). record a { messages = ms; index_columns = fs })
        (gone_map (change_at_key l k change) named a.messages) (left_map (change_at_key l k change) named a.messages a.index_columns)

    change_it : (a : Archive) → (bytes_eq l list && bytes_eq k key) ≡ true → never (with_changed_message a l k change) ≡ never a
    change_it a it =
        let both = both_true (bytes_eq l list) (bytes_eq k key) it in
        ap₂ (λ (x y : List ℕ). never (with_changed_message a x y change)) ((bytes_eq-Decides l list).0 both.0) ((bytes_eq-Decides k key).0 both.1)
        ∙ without_changed list key change names a

  abbrev IsOther : (l k : List ℕ) → Type 0
  IsOther l k = (bytes_eq l list && bytes_eq k key) ≡ false

  -- the outcomes of what is done to a message, where the archive has this one
  abbrev withdrawing : Archive → (l k : List ℕ) → ℤ → Option Message → StepOutcome
  withdrawing a l k party o =
      if not (has_list a l) then refuse a no_list
      else if not (is_some o) then refuse a no_message
      else if is_withdrawn o then refuse a already_withdrawn
      else (with_changed_message a l k (with_withdrawal party), done)

  withdraw_other : (a : Archive) (l k : List ℕ) (party : ℤ) → IsOther l k → never (step a (withdraw l k party)).0 ≡ (step (never a) (withdraw l k party)).0
  withdraw_other a l k party apart =
      branch a (not (has_list a l)) _ _ _ (branch a (not (has_message a l k)) _ _ _ (branch a (is_withdrawn (message_of a l k)) _ _ (with_changed_message (never a) l k (with_withdrawal party), done)
      (change_other l k (with_withdrawal party) (λ m. refl) a)))
      ∙ ap (λ (o : Option Message). (withdrawing (never a) l k party o).0) (sym (found_beside l k apart a.messages))

  abbrev restoring : Archive → (l k : List ℕ) → Option Message → StepOutcome
  restoring a l k o =
      if not (has_list a l) then refuse a no_list
      else if not (is_some o) then refuse a no_message
      else if not (is_withdrawn o) then refuse a not_withdrawn
      else (with_changed_message a l k (with_withdrawal (pos 0)), done)

  restore_other : (a : Archive) (l k : List ℕ) → IsOther l k → never (step a (restore l k)).0 ≡ (step (never a) (restore l k)).0
  restore_other a l k apart =
      branch a (not (has_list a l)) _ _ _ (branch a (not (has_message a l k)) _ _ _ (branch a (not (is_withdrawn (message_of a l k))) _ _
      (with_changed_message (never a) l k (with_withdrawal (pos 0)), done)
      (change_other l k (with_withdrawal (pos 0)) (λ m. refl) a)))
      ∙ ap (λ (o : Option Message). (restoring (never a) l k o).0) (sym (found_beside l k apart a.messages))

  abbrev holding : Archive → (l k : List ℕ) → Option ℤ → (reply : CommandReply) → Option Message → StepOutcome
  holding a l k until reply o =
      if not (has_list a l) then refuse a no_list
      else if not (is_some o) then refuse a no_message
      else (with_changed_message a l k (with_embargo until), reply)

  embargo_other : (a : Archive) (l k : List ℕ) (until : ℤ) → IsOther l k → never (step a (embargo l k until)).0 ≡ (step (never a) (embargo l k until)).0
  embargo_other a l k until apart =
      branch a (not (has_list a l)) _ _ _ (branch a (not (has_message a l k)) _ _ (with_changed_message (never a) l k (with_embargo (Some until)), done)
      (change_other l k (with_embargo (Some until)) (λ m. refl) a))
      ∙ ap (λ (o : Option Message). (holding (never a) l k (Some until) done o).0) (sym (found_beside l k apart a.messages))

  lift_other : (a : Archive) (l k : List ℕ) → IsOther l k → never (step a (lift l k)).0 ≡ (step (never a) (lift l k)).0
  lift_other a l k apart =
      branch a (not (has_list a l)) _ _ _ (branch a (not (has_message a l k)) _ _ (with_changed_message (never a) l k (with_embargo None), was_there (has_embargo (message_of (never a) l k)))
      (change_other l k (with_embargo None) (λ m. refl) a))
      ∙ ap (λ (o : Option Message). (holding (never a) l k None (was_there (has_embargo (message_of (never a) l k))) o).0) (sym (found_beside l k apart a.messages))

  other_step : (a : Archive) (command : Command) → HasFilings a → is_about_message list key command ≡ false → (step a command).1 ≢ refused list_full
      → never (step a command).0 ≡ (step (never a) command).0
  other_step a (list_add name) same apart full = branch a (not (is_name name)) _ _ _ (branch a (has_list a name) _ _ _ refl)
  other_step a (person_add name token) same apart full =
      branch a (not (is_name name)) _ _ _ (branch a (not (is_token token)) _ _ _ (branch a (has_person a name) _ _ _ (branch a (has_token a token) _ _ _ refl)))
  other_step a (grant person l rank from_day until_day) same apart full =
      branch a (not (has_person a person)) _ _ _ (branch a (not (has_list a l)) _ _ _ (branch a (int_lt until_day from_day) _ _ _ refl))
  other_step a (revoke person l rank) same apart full = branch a (not (has_person a person)) _ _ _ (branch a (not (has_list a l)) _ _ _ refl)
  other_step a (add l item) same apart full = add_other a l item same apart full
  other_step a (withdraw l k party) same apart full = withdraw_other a l k party apart
  other_step a (restore l k) same apart full = restore_other a l k apart
  other_step a (embargo l k until) same apart full = embargo_other a l k until apart
  other_step a (lift l k) same apart full = lift_other a l k apart
  other_step a (merge_set l merge) same apart full = branch a (not (has_list a l)) _ _ _ refl
  other_step a (address_set person address) same apart full = branch a (not (has_person a person)) _ _ _ (branch a (not (is_address address)) _ _ _ refl)

  its_step : (a : Archive) (command : Command) → HasFilings a → is_about_message list key command ≡ true → never (step a command).0 ≡ never a
  its_step a (list_add name) same it = absurd (true≢false (sym it))
  its_step a (person_add name token) same it = absurd (true≢false (sym it))
  its_step a (grant person l rank from_day until_day) same it = absurd (true≢false (sym it))
  its_step a (revoke person l rank) same it = absurd (true≢false (sym it))
  its_step a (add l item) same it = add_it a l item same it
  its_step a (withdraw l k party) same it =
      unless a (not (has_list a l)) _ _ (unless a (not (has_message a l k)) _ _ (unless a (is_withdrawn (message_of a l k)) _ _ (change_it l k (with_withdrawal party) (λ m. refl) a it)))
  its_step a (restore l k) same it =
      unless a (not (has_list a l)) _ _ (unless a (not (has_message a l k)) _ _ (unless a (not (is_withdrawn (message_of a l k))) _ _ (change_it l k (with_withdrawal (pos 0)) (λ m. refl) a it)))
  its_step a (embargo l k until) same it =
      unless a (not (has_list a l)) _ _ (unless a (not (has_message a l k)) _ _ (change_it l k (with_embargo (Some until)) (λ m. refl) a it))
  its_step a (lift l k) same it = unless a (not (has_list a l)) _ _ (unless a (not (has_message a l k)) _ _ (change_it l k (with_embargo None) (λ m. refl) a it))
  its_step a (merge_set l merge) same it = absurd (true≢false (sym it))
  its_step a (address_set person address) same it = absurd (true≢false (sym it))

  -- ---- commands one after the other

  abbrev IsTaken : CommandReply → Type 0
  IsTaken reply = reply ≢ refused list_full

  abbrev others : List Command → List Command
  others commands = filter (λ command. not (is_about_message list key command)) commands

  history : (commands : List Command) (a : Archive) → HasFilings a → All IsTaken (run a commands).replies
      → never (run a commands).archive ≡ (run (never a) (others commands)).archive
  unfolding run
  history [] a same taken = refl
  history (command ∷ commands) a same taken =
      by_name (is_about_message list key command) refl
      (history commands (step a command).0 (kept_by_steps HasFilings (λ _. ⊤) filings_kept a command tt same) (All-tail IsTaken (step a command).1 (run (step a command).0 commands).replies taken))
    where
      by_name : (b : Bool) → is_about_message list key command ≡ b
          → never (run (step a command).0 commands).archive ≡ (run (never (step a command).0) (others commands)).archive
          → never (run (step a command).0 commands).archive ≡ (run (never a) (cond (not b) (command ∷ others commands) (others commands))).archive
      by_name true it later = later ∙ ap (λ (x : Archive). (run x (others commands)).archive) (its_step a command same it)
      by_name false it later =
          later ∙ ap (λ (x : Archive). (run x (others commands)).archive)
          (other_step a command same it (All-head IsTaken (step a command).1 (run (step a command).0 commands).replies taken))

pub as_if_unsaid : (a : Archive) (list key : List ℕ) (commands : List Command) → length a.index_columns ≡ length a.messages → All (λ reply. reply ≢ refused list_full) (run a commands).replies
    → without_message (run a commands).archive list key ≡ (run (without_message a list key) (filter (λ command. not (is_about_message list key command)) commands)).archive
as_if_unsaid a list key commands same taken = history list key commands a same taken
