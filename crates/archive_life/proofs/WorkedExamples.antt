-- Worked examples of runs over one database.
use Rattle.std.proofs.Common.{◌≡◌, ap, inl, inr, refl, ℕ, pos, false, List, [], ◌∷◌, map, None, Err, codes}
use Rattle.std.proofs.lemmas.List.Elements.{All-nil}
use Rattle.policy_core.specs.declared.access.Withdrawn.TheVariants.{Author}
use Rattle.archive_model.specs.Records.{Message, Archive}
use Rattle.archive_model.specs.Commands.{Command, list_add, withdraw}
use Rattle.archive_model.specs.Lasting.{ends_withdrawal}
use Rattle.archive_model.specs.Machine.{default_list_option, step}
use Rattle.archive_model.specs.Runs.{run}
use Rattle.archive_model.specs.Sound.{IsIndexedCorrectly}
use Rattle.archive_results.specs.Promise.{DeniesWithdrawnBy}
use Rattle.archive_pages.specs.Laws.{IsHiddenInReplies, StaysAsIfItNeverCame}
use Rattle.archive_port.specs.declared.faults.StoreFault.{StoreFault}
use Rattle.archive_args.specs.Values.{StoreCommandValues}
use Rattle.archive_args.specs.declared.orders.Order.TheVariants.{Table}
use Rattle.archive_run.specs.Runs.{OrderIsCarriedOut}
use Rattle.archive_run.specs.Environments.{DeviceContracts}
use Rattle.archive_run.specs.declared.world.Environment.{Environment}
use Rattle.archive_life.specs.Histories.{DatabaseRun, FollowsFrom, printed, cut_off}
use Rattle.archive_life.specs.Sequences.{IsRunSequence}
use Rattle.archive_life.specs.Restarts.{IsSoundStore, ProgramRun, store_of_use}
use Rattle.archive_life.proofs.HistoryLemmas.{is_history, outlasts}

-- ---- a list with one message

abbrev soc : List ℕ
soc = codes "soc"

abbrev key : List ℕ
key = codes "k1"

abbrev first : Archive
first = record {
  lists = soc ∷ [];
  persons = [];
  grants = [];
  messages = record { list = soc; key = key; sender = codes "anna@example.org"; arrival = pos 0; text = []; withdrawn = pos 0; embargo = None } ∷ [];
  index_columns = [];
  options = default_list_option soc ∷ [];
  addresses = [];
}

abbrev withdrawal : Command
withdrawal = withdraw soc key (pos 1)

abbrev withdrawn : Archive
withdrawn = (step first withdrawal).0

-- ---- its author withdraws it; a list is to be added, and the machine stops; a server answers

abbrev withdraws_it : DatabaseRun
withdraws_it = record { found = first; ordered = withdrawal ∷ []; carried_out = withdrawal ∷ []; ending = printed }

abbrev is_cut_off : List Command → DatabaseRun
is_cut_off commands = record { found = withdrawn; ordered = list_add (codes "news") ∷ []; carried_out = commands; ending = cut_off }

abbrev answers : Archive → DatabaseRun
answers archive = record { found = archive; ordered = []; carried_out = []; ending = printed }

-- cut off before the list was added
early : FollowsFrom first (withdraws_it ∷ is_cut_off [] ∷ answers withdrawn ∷ [])
unfolding run
early = (refl, refl, (refl, (list_add (codes "news") ∷ [], refl), (refl, refl, tt)))

-- and after that
late : FollowsFrom first (withdraws_it ∷ is_cut_off (list_add (codes "news") ∷ []) ∷ answers (step withdrawn (list_add (codes "news"))).0 ∷ [])
unfolding run
late = (refl, refl, (refl, ([], refl), (refl, refl, tt)))

-- the server hides the message
hides : StaysAsIfItNeverCame → IsHiddenInReplies (DeniesWithdrawnBy Author) withdrawn soc key
hides stays = outlasts stays first [] (is_cut_off [] ∷ []) [] withdraws_it (answers withdrawn) soc key Author (is_history first (withdraws_it ∷ is_cut_off [] ∷ answers withdrawn ∷ []) early)
    (λ same. cc) (record { is_withdrawal = refl; is_done = refl }) (All-nil (λ command. ends_withdrawal soc key command ≡ false))

-- a server that found the archive of before would follow from nothing
zero_is_one : pos 0 ∷ [] ≡ pos 1 ∷ [] → ⊥
zero_is_one same = cc

forgets : FollowsFrom first (withdraws_it ∷ answers first ∷ []) → ⊥
unfolding run
forgets it = zero_is_one (ap (λ (a : Archive). map (λ (m : Message). m.withdrawn) a.messages) it.2.0)

-- ---- over any devices: a command that was carried out, a run that could not open the database that the first had left, and one that was
-- killed before it opened it

module _ {Y S F D C P T R O E W I L K A B M : Type 0} (dev : DeviceContracts S W F I D C P L T R O E) (old new last : Environment Y S F D C P T R O E W I L K A B M) (archive : Archive)
    (values : StoreCommandValues) (held : dev.databases.holds old.databases values.file archive) (right : IsIndexedCorrectly archive)
    (ends : OrderIsCarriedOut dev old new (Table values)) (sound : IsSoundStore dev (store_of_use ends.runs_on_archive.2)) (fault : StoreFault)
    (never : dev.databases.opens new.databases last.databases values.file (Err fault)) where
  abbrev carried_out : ProgramRun Y K A B M dev
  carried_out = record { old = old; new = new; order = Table values; mbox = []; ending = printed; ends = ends }

  abbrev unopened : ProgramRun Y K A B M dev
  unopened = record { old = new; new = last; order = Table values; mbox = []; ending = cut_off; ends = inr (inl (fault, never)) }

  abbrev killed : ProgramRun Y K A B M dev
  killed = record { old = last; new = last; order = Table values; mbox = []; ending = cut_off; ends = inl refl }

  in_turn : IsRunSequence dev old values.file archive (carried_out ∷ unopened ∷ killed ∷ [])
  in_turn = record {
    holds_first = held;
    is_indexed_correctly = right;
    runs_in_turn = (
      λ a h. h,
      record { is_over_database = refl; store_is_sound = sound; store_was_sound = tt; server_stays_open = tt; mbox_is_read = tt },
      (
        λ a h. h,
        record { is_over_database = refl; store_is_sound = tt; store_was_sound = tt; server_stays_open = tt; mbox_is_read = tt },
        (λ a h. h, record { is_over_database = refl; store_is_sound = tt; store_was_sound = tt; server_stays_open = tt; mbox_is_read = tt }, tt),
      ),
    );
  }
