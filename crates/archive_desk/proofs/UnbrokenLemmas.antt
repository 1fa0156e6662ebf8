-- Of an archive that can be read nothing breaks a question, but the disk.
use Rattle.std.proofs.Common.{◌≡◌, ◌≢◌, ◌⊎◌, ℕ, ℤ, Bool, ◌&&◌, inl, inr, refl, List, [], ◌∷◌, Option, Some, Result, arith}
use Rattle.std.specs.Prelude.{map, filter, find, zip, int_lt, option_map, IfErr, IfSome, IsUtf8, bytes_eq}
use Rattle.std.specs.List.{All}
use Rattle.std.specs.Option.{IsSomeAnd}
use Rattle.std.proofs.lemmas.List.Elements.{All-nil, All-cons, All-head, All-tail, All-map, All-filter}
use Rattle.std.proofs.lemmas.Bool.{cond_both}
use Rattle.archive_port.specs.declared.state.ArchiveState.{Ghosts}
use Rattle.archive_port.specs.Told.{E15MeansDiskFailedOr as StoreCausedOr, DiskHasFailed, archive_in}
use Rattle.policy_core.specs.declared.access.Standing.{Standing}
use Rattle.policy_core.specs.declared.access.Standing.TheVariants.{Public}
use Rattle.archive_model.specs.Records.{Address, Archive, IndexColumns, Grant, Message, Person}
use Rattle.archive_model.specs.Filing.{IndexedMessage, indexed_messages, messages_by_author, sort_by_indexed_date, messages_in_month, is_indexed_by_author, is_indexed_in_month, is_sent_before}
use Rattle.archive_model.specs.Filing.{insert_by_indexed_date}
use Rattle.archive_model.specs.Questions.{address_of, max_rank, grant_holds_on, is_address_of, is_grant_of, is_message_at_key, message_of, messages_in, person_of_token, standing_of}
use Rattle.archive_port.specs.Messages.{IsReadable}
use Rattle.archive_port.specs.Words.{standing_rank}
use Rattle.archive_port.specs.declared.faults.StoreFault.{StoreFault}
use Rattle.archive_port.specs.declared.faults.StoreFault.TheVariants as faults
use Rattle.archive_results.specs.Access.{Ask}
use Rattle.archive_desk.specs.Causes.{DeskFaultMeansDiskFailedOr, HasCause, IsDeskDatabaseFault, IsMessageUnreadable, IsPersonUnreadable, IsReaderUnreadable, IsQuestionUnreadable}
use Rattle.archive_desk.specs.Readable.{AreListsUnreadable, CanBeRead, IsTokenHolderUnreadable, QuestionHasNoDatabaseFault, ExportHasNoDatabaseFault, StoreQuestionHasNoFault, HasStandingRank}
use Rattle.archive_desk.specs.Readable.{HasNoDatabaseFault, MeetsNoDiskFault}
use Rattle.archive_desk.specs.declared.exporting.ExportStop.{ExportStop}
use Rattle.archive_desk.specs.declared.faults.DeskError.{DeskError}
use Rattle.archive_desk.proofs.CauseLemmas.{each_fault}

-- ---- what is found

module _ {X : Type 0} (P : X → Type 0) where
  found : (test : X → Bool) (xs : List X) → All P xs → IfSome (find test xs) P
  found test [] all = tt
  found test (x ∷ xs) all =
      cond_both (test x) (Some x) (find test xs) (λ o. IfSome o P) (λ so. All-head P x xs all) (λ no. found test xs (All-tail P x xs all))

  none_else : (o : Option X) → IfSome o P → ¬ IsSomeAnd o (λ x. ¬ P x)
  none_else o holds = grind arith

of_value : {X Y : Type 0} (P : Y → Type 0) (f : X → Y) (o : Option X) → IfSome o (λ x. P (f x)) → IfSome (option_map f o) P
of_value P f o holds = grind arith

no_one : {X : Type 0} (P : X → Type 0) (o : Option X) → ((x : X) → ¬ P x) → ¬ IsSomeAnd o P
no_one P o never = grind arith

-- ---- messages by what is filed of them

module _ (P : Message → Type 0) where
  abbrev OfFiled : IndexedMessage → Type 0
  OfFiled f = P f.0

  zipped : (ms : List Message) (fs : List IndexColumns) → All P ms → All OfFiled (zip ms fs)
  zipped [] fs all = All-nil OfFiled
  zipped (m ∷ ms) [] all = All-nil OfFiled
  zipped (m ∷ ms) (f ∷ fs) all = All-cons OfFiled (m, f) (zip ms fs) (All-head P m ms all) (zipped ms fs (All-tail P m ms all))

  placed : (f : IndexedMessage) (fs : List IndexedMessage) → OfFiled f → All OfFiled fs → All OfFiled (insert_by_indexed_date f fs)
  placed f [] it all = All-cons OfFiled f [] it all
  placed f (g ∷ gs) it all = cond_both (is_sent_before g f) (g ∷ insert_by_indexed_date f gs) (f ∷ g ∷ gs) (All OfFiled)
      (λ so. All-cons OfFiled g (insert_by_indexed_date f gs) (All-head OfFiled g gs all) (placed f gs it (All-tail OfFiled g gs all))) (λ no. All-cons OfFiled f (g ∷ gs) it all)

  in_order : (fs : List IndexedMessage) → All OfFiled fs → All OfFiled (sort_by_indexed_date fs)
  in_order [] all = all
  in_order (f ∷ fs) all = placed f (sort_by_indexed_date fs) (All-head OfFiled f fs all) (in_order fs (All-tail OfFiled f fs all))

  filed_so : (a : Archive) (test : IndexedMessage → Bool) → All P a.messages → All P (map (λ (f : IndexedMessage). f.0) (sort_by_indexed_date (filter test (indexed_messages a))))
  filed_so a test all =
      All-map P (λ (f : IndexedMessage). f.0) (sort_by_indexed_date (filter test (indexed_messages a)))
      (in_order (filter test (indexed_messages a)) (All-filter test OfFiled (indexed_messages a) (zipped a.messages a.index_columns all)))

-- ---- the rank of a person is a standing's

abbrev IsRank : ℤ → Type 0
IsRank rank = (standing : Standing) × (standing_rank standing ≡ rank)

highest_is_rank : (ranks : List ℤ) → All IsRank ranks → IsRank (max_rank ranks)
highest_is_rank [] all = (Public, refl)
highest_is_rank (rank ∷ ranks) all =
    cond_both (int_lt (max_rank ranks) rank) rank (max_rank ranks) IsRank (λ so. All-head IsRank rank ranks all) (λ no. highest_is_rank ranks (All-tail IsRank rank ranks all))

module _ (a : Archive) (can : CanBeRead a) where
  standing_is_rank : (person list : List ℕ) (day : ℤ) → IsRank (standing_of a person list day)
  standing_is_rank person list day =
      let holds : Grant → Bool = λ g. is_grant_of person list g && grant_holds_on day g in
      highest_is_rank (map (λ g. g.rank) (filter holds a.grants))
      (All-map IsRank (λ (g : Grant). g.rank) (filter holds a.grants) (All-filter holds HasStandingRank a.grants can.grants))

  -- ---- none is unreadable

  person_read : (ask : Ask) (person : List ℕ) → ¬ IsPersonUnreadable a ask person
  person_read ask person bad = elim bad [
    | inl unknown ↦ let rank = standing_is_rank person ask.list ask.day in unknown rank.0 rank.1
    | inr own ↦
        none_else IsUtf8 (address_of a person)
        (of_value IsUtf8 (λ (x : Address). x.address) (find (is_address_of person) a.addresses) (found (λ (x : Address). IsUtf8 x.address) (is_address_of person) a.addresses can.addresses))
        own.1
  ]

  pub reader_read : (ask : Ask) → ¬ IsReaderUnreadable a ask
  reader_read ask = no_one (IsPersonUnreadable a ask) ask.reader (person_read ask)

  pub message_read : (ask : Ask) (key : List ℕ) → ¬ IsMessageUnreadable a ask key
  message_read ask key = none_else IsReadable (message_of a ask.list key) (found IsReadable (is_message_at_key ask.list key) a.messages can.messages)

  pub message_or_reader_read : (ask : Ask) (key : List ℕ) → ¬ (IsMessageUnreadable a ask key ⊎ IsReaderUnreadable a ask)
  message_or_reader_read ask key bad = elim bad [ inl message ↦ message_read ask key message | inr reader ↦ reader_read ask reader ]

  messages_read : (ask : Ask) (messages : List Message) → All IsReadable messages → ¬ IsQuestionUnreadable a ask messages
  messages_read ask messages all bad = elim bad [ inl messages ↦ messages all | inr reader ↦ reader_read ask reader ]

  pub list_read : (ask : Ask) → ¬ IsQuestionUnreadable a ask (messages_in a ask.list)
  list_read ask = messages_read ask (messages_in a ask.list) (All-filter (λ m. bytes_eq m.list ask.list) IsReadable a.messages can.messages)

  pub month_read : (ask : Ask) (month : ℤ) → ¬ IsQuestionUnreadable a ask (messages_in_month a ask.list month)
  month_read ask month = messages_read ask (messages_in_month a ask.list month) (filed_so IsReadable a (is_indexed_in_month ask.list month) can.messages)

  pub author_read : (ask : Ask) (key : List ℕ) → ¬ IsQuestionUnreadable a ask (messages_by_author a ask.list key)
  author_read ask key = messages_read ask (messages_by_author a ask.list key) (filed_so IsReadable a (is_indexed_by_author ask.list key) can.messages)

  pub lists_read : ¬ AreListsUnreadable a
  lists_read bad = bad can.lists

  pub holder_read : (token : List ℕ) → ¬ IsTokenHolderUnreadable a token
  holder_read token =
      none_else IsUtf8 (person_of_token a token)
      (of_value IsUtf8 (λ (p : Person). p.name) (find (λ (p : Person). bytes_eq p.token token) a.persons)
      (found (λ (p : Person). IsUtf8 p.name) (λ (p : Person). bytes_eq p.token token) a.persons can.persons))

-- ---- so only the disk breaks a question

module _ {S W : Type 0} (g : Ghosts S W) (old new : S) (well : MeetsNoDiskFault g old new) where
  abbrev before : Archive
  before = archive_in g old

  abbrev can_be_read : CanBeRead before
  can_be_read = well.fully_readable.readable

  no_cause : (Unread : Archive → Type 0) → ¬ Unread before → ¬ HasCause g old new Unread
  no_cause Unread read cause = elim (cause well.disk_is_clean well.fully_readable.holds_tables well.fully_readable.has_no_step_limit) [ inl more ↦ well.no_disk_failure more | inr bad ↦ read bad ]

  unbroken : {A : Type 0} (result : Result A DeskError) (Unread : Archive → Type 0) → ¬ Unread before → DeskFaultMeansDiskFailedOr g old new result Unread → HasNoDatabaseFault result
  unbroken result Unread read = each_fault (λ fault. IsDeskDatabaseFault fault → HasCause g old new Unread) (λ fault. ¬ IsDeskDatabaseFault fault)
      (λ fault why it. no_cause Unread read (why it)) result

  told : {A : Type 0} (result : Result A StoreFault) (Unread : Archive → Type 0) → ¬ Unread before → StoreCausedOr g old new result Unread
      → IfErr result (λ fault. fault ≢ faults.Store)
  told result Unread read why =
      each_fault (λ fault. fault ≡ faults.Store → DiskHasFailed g old new ⊎ Unread before) (λ fault. fault ≢ faults.Store)
      (λ fault cause it. elim (cause it) [ inl more ↦ well.no_disk_failure more | inr bad ↦ read bad ])
      result (why well.disk_is_clean well.fully_readable.holds_tables well.fully_readable.has_no_step_limit)

  pub never_broken : {A : Type 0} (result : Result A DeskError) (ask : Ask) → QuestionHasNoDatabaseFault g old new result ask
  never_broken result ask = record {
    list = unbroken result (λ a. IsQuestionUnreadable a ask (messages_in a ask.list)) (list_read before can_be_read ask);
    month = λ month. unbroken result (λ a. IsQuestionUnreadable a ask (messages_in_month a ask.list month)) (month_read before can_be_read ask month);
    author = λ key. unbroken result (λ a. IsQuestionUnreadable a ask (messages_by_author a ask.list key)) (author_read before can_be_read ask key);
    message = λ key. unbroken result (λ a. IsMessageUnreadable a ask key ⊎ IsReaderUnreadable a ask) (message_or_reader_read before can_be_read ask key);
    reader = unbroken result (λ a. IsReaderUnreadable a ask) (reader_read before can_be_read ask);
  }

  pub never_cut_off : {A : Type 0} (result : Result A ExportStop) (ask : Ask) → ExportHasNoDatabaseFault g old new result ask
  never_cut_off result ask =
      let Unread : Archive → Type 0 = λ a. IsQuestionUnreadable a ask (messages_in a ask.list) in
      each_fault (λ (stop : ExportStop). IsDeskDatabaseFault stop.fault → HasCause g old new Unread) (λ stop. ¬ IsDeskDatabaseFault stop.fault)
      (λ stop why it. no_cause Unread (list_read before can_be_read ask) (why it)) result

  pub never_lost : {A : Type 0} (result : Result A StoreFault) → StoreQuestionHasNoFault g old new result
  never_lost result = record {
    lists = told result AreListsUnreadable (lists_read before can_be_read);
    holder = λ token. told result (λ a. IsTokenHolderUnreadable a token) (holder_read before can_be_read token);
  }
