-- Why a question is not answered.
use Rattle.std.specs.Prelude.{◌≡◌, Option, Some, None, option_map}
use Rattle.archive_model.specs.Records.{Archive}
use Rattle.archive_model.specs.Commands.{Refusal as Declined, no_list as unknown_list, no_person as unknown_person}
use Rattle.archive_model.specs.Questions.{list_refusal}
use Rattle.archive_port.specs.Replies.{refusal_of_fault}
use Rattle.archive_port.specs.declared.faults.StoreFault.{StoreFault}
use Rattle.archive_port.specs.declared.faults.StoreFault.TheVariants.{NoList as UnknownList, NoPerson as UnknownPerson}
use Rattle.archive_results.specs.Access.{Ask, AskRefusal, no_list, no_person, ask_refusal}
use Rattle.archive_desk.specs.declared.faults.DeskError.{DeskError}
use Rattle.archive_desk.specs.declared.faults.DeskError.TheVariants.{NoList, NoPerson, NotInView, Store, Memory, Write}

-- Where neither memory nor the database was at fault: G1 or G2, G3, G6, or a refusal of the store that is none of the desk's,
-- which no question answers.
pub data RefusalReason : Type 0 where
  refused : AskRefusal → RefusalReason
  not_in_view : RefusalReason
  not_written : RefusalReason
  declined : Declined → RefusalReason

-- the reason of a store's refusal
abbrev pub reason_of_refusal : Declined → RefusalReason
reason_of_refusal unknown_list = refused no_list
reason_of_refusal unknown_person = refused no_person
reason_of_refusal other = declined other

-- none where memory or the database was at fault
abbrev pub refusal_reason : DeskError → Option RefusalReason
refusal_reason NoList = Some (refused no_list)
refusal_reason NoPerson = Some (refused no_person)
refusal_reason NotInView = Some not_in_view
refusal_reason (Store fault) = option_map declined (refusal_of_fault fault)
refusal_reason Memory = None
refusal_reason Write = Some not_written

-- a fault of a question: G1, G2 or G5, or G4 where memory or the database was at fault
abbrev pub IsAskFault : DeskError → Type 0
IsAskFault NotInView = ⊥
IsAskFault Write = ⊥
IsAskFault (Store fault) = refusal_of_fault fault ≡ None
IsAskFault other = Unit {0}

-- the fault of the desk where the store answers this
abbrev pub desk_error_of : StoreFault → DeskError
desk_error_of UnknownList = NoList
desk_error_of UnknownPerson = NoPerson
desk_error_of other = Store other

-- why what is asked is refused
abbrev pub ask_reason : Archive → Ask → Option RefusalReason
ask_reason archive ask = option_map refused (ask_refusal archive ask)

-- why what is asked is refused before the reader is looked for
abbrev pub missing_list_reason : Archive → Ask → Option RefusalReason
missing_list_reason archive ask = option_map reason_of_refusal (list_refusal archive ask.list)
