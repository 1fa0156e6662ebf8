-- Questions of the desk, from those of the store.
use Rattle.std.proofs.Common.{◌≡◌, refl, sym, ap, ◌∙◌, subst, Bool, List, [], ◌∷◌, map, filter, Option, Some, None, Result, Err, arith}
use Rattle.std.specs.Prelude.{IfSome, MatchOption, option_map, ⊤}
use Rattle.archive_port.specs.declared.state.ArchiveState.{Ghosts}
use Rattle.archive_model.specs.Records.{Archive}
use Rattle.archive_model.specs.Commands.{no_list as unknown_list, Refusal as Declined}
use Rattle.archive_model.specs.Questions.{list_refusal, messages_in}
use Rattle.archive_model.specs.Messages.{archived_message}
use Rattle.archive_model.specs.declared.messages.Message.{Message}
use Rattle.archive_port.specs.Replies.{IsOneOf, refusal_of_fault}
use Rattle.archive_port.specs.Told.{HoldsTables, RelatesArchivesUnder, RelatesArchivesUnderIfOpen, AnswersFromStoreUnder}
use Rattle.archive_port.specs.declared.faults.StoreFault.{StoreFault}
use Rattle.archive_port.specs.declared.faults.StoreFault.TheVariants.{NoList}
use Rattle.archive_port.proofs.Joins.{goes_in_as}
use Rattle.archive_results.specs.Access.{Ask, ReaderFacts, is_shown, view_of}
use Rattle.archive_desk.specs.Asking.{DeterminesVerdicts, standing_reason}
use Rattle.archive_desk.specs.declared.faults.DeskError.{DeskError}
use Rattle.archive_desk.specs.Faults.{RefusalReason, refusal_reason, reason_of_refusal, desk_error_of, ask_reason, IsAskFault}
use Rattle.archive_desk.proofs.CallLemmas.{asks_after, each_reason, reason_above}
use Rattle.archive_desk.proofs.MarkLemmas.{view_alike}

-- ---- what the store refuses

pub reasoned : (fault : StoreFault) → refusal_reason (desk_error_of fault) ≡ option_map reason_of_refusal (refusal_of_fault fault)
reasoned NoList = refl
reasoned _ = refl

-- where memory or the database was at fault
pub unreasoned : (told : StoreFault) (fault : DeskError) → refusal_of_fault told ≡ None → fault ≡ desk_error_of told → refusal_reason fault ≡ None
unreasoned told fault none is = ap refusal_reason is ∙ reasoned told ∙ ap (option_map reason_of_refusal) none

-- a call that is refused for want of a list alone
pub is_list_fault : (fault : StoreFault) → IfSome (refusal_of_fault fault) (λ why. IsOneOf why (unknown_list ∷ [])) → IsAskFault (desk_error_of fault)
is_list_fault fault it = grind arith

module _ {S W : Type 0} (g : Ghosts S W) (old new : S) {A : Type 0} (refuses : Archive → Option Declined) (Says : Archive → A → Type 0) where
  -- a question that the store refuses
  pub desk_declined : (fault : StoreFault)
      → MatchOption (refusal_of_fault fault) (RelatesArchivesUnderIfOpen g (HoldsTables g) old new (λ a b. b ≡ a))
      (λ why. RelatesArchivesUnder g (HoldsTables g) old new (λ a b. (b ≡ a) × (refuses a ≡ Some why)))
      → AnswersFromStoreUnder g (HoldsTables g) old new {A = A} refusal_reason (Err (desk_error_of fault)) (λ a. option_map reason_of_refusal (refuses a)) Says
  desk_declined fault it =
      let Reason : RefusalReason → Type 0 = λ why. RelatesArchivesUnder g (HoldsTables g) old new (λ a b. (b ≡ a) × (option_map reason_of_refusal (refuses a) ≡ Some why)) in
      subst (λ r. MatchOption r (RelatesArchivesUnderIfOpen g (HoldsTables g) old new (λ a b. b ≡ a)) Reason) (sym (reasoned fault))
      (reason_above (refusal_of_fault fault) reason_of_refusal Reason it (λ same. same) (λ why. goes_in_as g (HoldsTables g) old new (λ a b. (b ≡ a) × (refuses a ≡ Some why))
      (λ a b. (b ≡ a) × (option_map reason_of_refusal (refuses a) ≡ Some (reason_of_refusal why))) (λ a b h. (h.0, ap (option_map reason_of_refusal) h.1))))

  -- one that is never refused
  pub never_declined : (fault : StoreFault)
      → MatchOption (refusal_of_fault fault) (RelatesArchivesUnderIfOpen g (HoldsTables g) old new (λ a b. b ≡ a))
      (λ why. RelatesArchivesUnder g (HoldsTables g) old new (λ a b. (b ≡ a) × (◌≡◌ {A = Option Declined} None (Some why))))
      → MatchOption (refusal_of_fault fault) (RelatesArchivesUnderIfOpen g (HoldsTables g) old new (λ a b. b ≡ a))
      (λ why. RelatesArchivesUnder g (HoldsTables g) old new (λ a b. (b ≡ a) × (refuses a ≡ Some why)))
  never_declined fault it = each_reason (refusal_of_fault fault) it (λ same. same)
      (λ why. goes_in_as g (HoldsTables g) old new (λ a b. (b ≡ a) × (◌≡◌ {A = Option Declined} None (Some why))) (λ a b. (b ≡ a) × (refuses a ≡ Some why))
      (λ a b h. let none = h.1 in absurd (cc)))

-- ---- the list, and then the reader

-- the list is looked for first
pub no_such_list : (a : Archive) (ask : Ask) (why : RefusalReason) → option_map reason_of_refusal (list_refusal a ask.list) ≡ Some why → ask_reason a ask ≡ Some why
no_such_list a ask why is = grind arith

-- where it is there, the reader decides
pub by_reader_alone : (a : Archive) (ask : Ask) → option_map reason_of_refusal (list_refusal a ask.list) ≡ None → ask_reason a ask ≡ standing_reason a ask
by_reader_alone a ask there = grind arith

module _ {S W : Type 0} (g : Ghosts S W) (ask : Ask) where
  -- the list is not there, or memory or the database was at fault
  pub list_refused : (old new : S) {A : Type 0} (fault : DeskError) (Says : Archive → A → Type 0)
      → AnswersFromStoreUnder g (HoldsTables g) old new {A = Unit {0}} refusal_reason (Err fault) (λ a. option_map reason_of_refusal (list_refusal a ask.list)) (λ a answer. ⊤)
      → AnswersFromStoreUnder g (HoldsTables g) old new refusal_reason (Err fault) (λ a. ask_reason a ask) Says
  list_refused old new fault Says it = each_reason (refusal_reason fault) it (λ same. same)
      (λ why. goes_in_as g (HoldsTables g) old new (λ a b. (b ≡ a) × (option_map reason_of_refusal (list_refusal a ask.list) ≡ Some why)) (λ a b. (b ≡ a) × (ask_reason a ask ≡ Some why))
      (λ a b h. (h.0, no_such_list a ask why h.1)))

  -- a question on the reader, after what was found of the list, which is there
  pub reader_asked : (old mid new : S) {A : Type 0} (There First : Archive → Type 0) (Says Says' : Archive → A → Type 0)
      → ((a : Archive) → There a → option_map reason_of_refusal (list_refusal a ask.list) ≡ None) → ((a : Archive) (answer : A) → First a → Says a answer → Says' a answer)
      → (result : Result A DeskError) → RelatesArchivesUnder g (HoldsTables g) old mid (λ a b. (b ≡ a) × There a × First a)
      → AnswersFromStoreUnder g (HoldsTables g) mid new refusal_reason result (λ a. standing_reason a ask) Says
      → AnswersFromStoreUnder g (HoldsTables g) old new refusal_reason result (λ a. ask_reason a ask) Says'
  reader_asked old mid new There First Says Says' there says =
      asks_after g (HoldsTables g) old mid new refusal_reason There First (λ a. standing_reason a ask) (λ a. ask_reason a ask) Says Says'
      (λ a is first none. by_reader_alone a ask (there a is) ∙ none) (λ a why is first some. by_reader_alone a ask (there a is) ∙ some) (λ a answer is first it. says a answer first it)

  -- the reader's marks, after what was found of the list
  pub marks_after : (old mid new : S) (First : Archive → Type 0) (result : Result ReaderFacts DeskError)
      → RelatesArchivesUnder g (HoldsTables g) old mid (λ a b. (b ≡ a) × (option_map reason_of_refusal (list_refusal a ask.list) ≡ None) × First a)
      → AnswersFromStoreUnder g (HoldsTables g) mid new refusal_reason result (λ a. standing_reason a ask) (λ a reader. DeterminesVerdicts a ask reader)
      → AnswersFromStoreUnder g (HoldsTables g) old new refusal_reason result (λ a. ask_reason a ask) (λ a reader. First a × DeterminesVerdicts a ask reader)
  marks_after old mid new First = reader_asked old mid new (λ a. option_map reason_of_refusal (list_refusal a ask.list) ≡ None) First (λ a reader. DeterminesVerdicts a ask reader)
      (λ a reader. First a × DeterminesVerdicts a ask reader) (λ a there. there) (λ a reader first it. (first, it))

  -- the store refuses a question on the list
  pub list_declined : (old new : S) {A : Type 0} (fault : StoreFault) (Says : Archive → A → Type 0)
      → MatchOption (refusal_of_fault fault) (RelatesArchivesUnderIfOpen g (HoldsTables g) old new (λ a b. b ≡ a))
      (λ why. RelatesArchivesUnder g (HoldsTables g) old new (λ a b. (b ≡ a) × (list_refusal a ask.list ≡ Some why)))
      → AnswersFromStoreUnder g (HoldsTables g) old new refusal_reason (Err (desk_error_of fault)) (λ a. ask_reason a ask) Says
  list_declined old new fault Says it = list_refused old new (desk_error_of fault) Says (desk_declined g old new {A = Unit {0}} (λ a. list_refusal a ask.list) (λ a answer. ⊤) fault it)

  -- the same behind calls that left the archive and found the list and the reader
  pub declined_after : (old mid last : S) {A : Type 0} (First : Archive → Type 0) (Says : Archive → A → Type 0) (fault : StoreFault)
      → RelatesArchivesUnder g (HoldsTables g) old mid (λ a b. (b ≡ a) × (ask_reason a ask ≡ None) × First a)
      → MatchOption (refusal_of_fault fault) (RelatesArchivesUnderIfOpen g (HoldsTables g) mid last (λ a b. b ≡ a))
      (λ why. RelatesArchivesUnder g (HoldsTables g) mid last (λ a b. (b ≡ a) × (list_refusal a ask.list ≡ Some why)))
      → AnswersFromStoreUnder g (HoldsTables g) old last refusal_reason (Err (desk_error_of fault)) (λ a. ask_reason a ask) Says
  declined_after old mid last First Says fault found it =
      asks_after g (HoldsTables g) old mid last refusal_reason (λ a. ask_reason a ask ≡ None) First (λ a. ask_reason a ask) (λ a. ask_reason a ask) Says Says (λ a there first none. none)
      (λ a why there first some. some) (λ a answer there first says. says) (Err (desk_error_of fault)) found (list_declined mid last fault Says it)

-- ---- the view

map_kept : {A B : Type 0} (f : A → B) (test : B → Bool) (xs : List A) → map f (filter (λ x. test (f x)) xs) ≡ filter test (map f xs)
map_kept f test [] = refl
map_kept f test (x ∷ xs) = grind (arith, map_kept f test xs)

pub viewed : (a : Archive) (ask : Ask) (reader : ReaderFacts) (found kept : List Message) → map (archived_message ask.list) found ≡ messages_in a ask.list
    → DeterminesVerdicts a ask reader → kept ≡ filter (λ m. is_shown ask reader (archived_message ask.list m)) found
    → map (archived_message ask.list) kept ≡ view_of a ask
viewed a ask reader found kept all is e = ap (map (archived_message ask.list)) e ∙ map_kept (archived_message ask.list) (is_shown ask reader) found
    ∙ ap (filter (is_shown ask reader)) all ∙ view_alike a ask reader is (messages_in a ask.list)
