-- Three calls, one after the other, from what each of them says.
use Rattle.std.proofs.Common.{◌≡◌, sym, subst, ◌++◌, ◌^◌, ◌-◌, ◌<◌, ℕ, List, length, map, min, Option, Some, None, Result}
use Rattle.std.specs.Prelude.{MatchOption, option_map}
use Rattle.archive_port.specs.declared.state.ArchiveState.{Ghosts}
use Rattle.mbox_core.specs.Written.{AppendsPrefixOfText}
use Rattle.archive_model.specs.Records.{Archive}
use Rattle.archive_port.specs.Told.{CallsReadyStore, RelatesReadyArchives, RelatesReadyArchivesIfOpen, StoreHasCleanDisk, HoldsTables, IsReady, StaysOpenUnlessDiskFails, archive_in}
use Rattle.archive_port.proofs.Joins.{calls_too, goes_as, goes_as_if_open, goes_on, goes_on_if_open}
use Rattle.archive_results.specs.Access.{Ask, view_of}
use Rattle.archive_results.specs.Results.{month_lines}
use Rattle.archive_results.specs.Shown.{shown_message}
use Rattle.archive_desk.specs.Exporting.{ExportsMbox, IsExportRefused, exported_text, export_stop_reason as export_reason}
use Rattle.archive_desk.specs.Faults.{RefusalReason, ask_reason}
use Rattle.archive_desk.specs.declared.exporting.ExportStop.{ExportStop}
use Rattle.archive_desk.specs.Importing.{ImportStopCause, IsImported, IsRefusedImport}
use Rattle.archive_desk.specs.declared.importing.Report.{Report}
use Rattle.desk_tests.specs.Chain.{not_imported, not_listed, not_exported, HasImported, ImportsListsAndExports, IsChainRefused}
use Rattle.desk_tests.specs.declared.chain.Told.{Told}

-- ---- a call after one that left an archive of which `First` holds

module _ {S W : Type 0} (g : Ghosts S W) (old mid new : S) where
  module _ (First Then After : Archive → Archive → Type 0) (joins : (a b c : Archive) → First a b → Then b c → After a c) where
    goes_then : RelatesReadyArchives g old mid First → RelatesReadyArchives g mid new Then → RelatesReadyArchives g old new After
    goes_then first second =
        goes_as g old new (λ a c. (b : Archive) × First a b × Then b c) After (λ a c h. joins a h.0 c h.1 h.2)
        (goes_on g old mid new First Then first second)

    goes_then_if_open : RelatesReadyArchives g old mid First → RelatesReadyArchivesIfOpen g mid new Then → RelatesReadyArchivesIfOpen g old new After
    goes_then_if_open first second =
        goes_as_if_open g old new (λ a c. (b : Archive) × First a b × Then b c) After (λ a c h. joins a h.0 c h.1 h.2)
        (goes_on_if_open g old mid new First Then first second)

  -- one in which memory or the database was at fault leaves what was
  failed_then : (First : Archive → Archive → Type 0) → RelatesReadyArchives g old mid First → RelatesReadyArchivesIfOpen g mid new (λ b c. c ≡ b) → RelatesReadyArchivesIfOpen g old new First
  failed_then First = goes_then_if_open First (λ b c. c ≡ b) First (λ a b c one same. subst (First a) (sym same) one)

-- ---- the three calls

module _ {S W : Type 0} (g : Ghosts S W) (ask : Ask) (text : List ℕ) where
  -- the file is imported into the list of the question
  pub into_list : (old new : S) (list : List ℕ) (report : Report) → list ≡ ask.list → RelatesReadyArchives g old new (λ a b. IsImported list text a b report)
      → RelatesReadyArchives g old new (λ a b. IsImported ask.list text a b report)
  into_list old new list report is = subst (λ l. RelatesReadyArchives g old new (λ a b. IsImported l text a b report)) is

  -- it is not imported
  pub import_stops : (old new : S) (before after list : List ℕ) (Stops : List ℕ → Archive → Archive → Type 0) (r : Option (ℕ × ImportStopCause)) → list ≡ ask.list
      → MatchOption r (RelatesReadyArchivesIfOpen g old new (Stops list)) (λ why. RelatesReadyArchives g old new (λ a b. IsRefusedImport list text a b why.0 why.1))
      → MatchOption (option_map (λ (why : ℕ × ImportStopCause). not_imported why.0 why.1) r) (RelatesReadyArchivesIfOpen g old new (Stops ask.list))
      (λ why. RelatesReadyArchives g old new (λ a b. IsChainRefused ask text before after a b why))
  import_stops old new before after list Stops None is it = subst (λ l. RelatesReadyArchivesIfOpen g old new (Stops l)) is it
  import_stops old new before after list Stops (Some why) is it =
      subst (λ l. RelatesReadyArchives g old new (λ a b. IsRefusedImport l text a b why.0 why.1)) is it

  module _ (old mid : S) (report : Report) (imported : RelatesReadyArchives g old mid (λ a b. IsImported ask.list text a b report)) where
    has_imported : RelatesReadyArchives g old mid (HasImported ask text)
    has_imported = goes_as g old mid (λ a b. IsImported ask.list text a b report) (HasImported ask text) (λ a b h. (report, h)) imported

    -- the month is not told
    pub month_stops : (new : S) (before after : List ℕ) (r : Option RefusalReason)
        → MatchOption r (RelatesReadyArchivesIfOpen g mid new (λ b c. c ≡ b)) (λ why. RelatesReadyArchives g mid new (λ b c. (c ≡ b) × (ask_reason b ask ≡ Some why)))
        → MatchOption (option_map not_listed r) (RelatesReadyArchivesIfOpen g old new (HasImported ask text))
        (λ why. RelatesReadyArchives g old new (λ a b. IsChainRefused ask text before after a b why))
    month_stops new before after None it = failed_then g old mid new (HasImported ask text) has_imported it
    month_stops new before after (Some why) it =
        goes_then g old mid new (HasImported ask text) (λ b c. (c ≡ b) × (ask_reason b ask ≡ Some why))
        (λ a c. IsChainRefused ask text before after a c (not_listed why))
        (λ a b c one two. (subst (HasImported ask text a) (sym two.0) one, subst (λ x. ask_reason x ask ≡ Some why) (sym two.0) two.1))
        has_imported it

    module _ (asked : S) (Says : Archive → Type 0) (listed : RelatesReadyArchives g mid asked (λ b c. (c ≡ b) × (ask_reason b ask ≡ None) × Says b)) where
      -- the month leaves what the import left
      pub left : RelatesReadyArchives g old asked (HasImported ask text)
      left =
          goes_then g old mid asked (HasImported ask text) (λ b c. (c ≡ b) × (ask_reason b ask ≡ None) × Says b) (HasImported ask text)
          (λ a b c one two. subst (HasImported ask text a) (sym two.0) one) has_imported listed

      -- the export stops
      pub export_stops : (new : S) (before after : List ℕ) (r : Option (ℕ × RefusalReason))
          → MatchOption r (RelatesReadyArchivesIfOpen g asked new (λ b c. c ≡ b))
          (λ why. RelatesReadyArchives g asked new (λ b c. (c ≡ b) × IsExportRefused (ask_reason b ask) before after (exported_text b ask) why.0 why.1))
          → MatchOption (option_map (λ (why : ℕ × RefusalReason). not_exported why.0 why.1) r) (RelatesReadyArchivesIfOpen g old new (HasImported ask text))
          (λ why. RelatesReadyArchives g old new (λ a b. IsChainRefused ask text before after a b why))
      export_stops new before after None it = failed_then g old asked new (HasImported ask text) left it
      export_stops new before after (Some why) it =
          goes_then g old asked new (HasImported ask text)
          (λ b c. (c ≡ b) × IsExportRefused (ask_reason b ask) before after (exported_text b ask) why.0 why.1)
          (λ a c. IsChainRefused ask text before after a c (not_exported why.0 why.1))
          (λ a b c one two. (
            subst (HasImported ask text a) (sym two.0) one,
            subst (λ x. IsExportRefused (ask_reason x ask) before after (exported_text x ask) why.0 why.1) (sym two.0) two.1,
          )) left it

-- an export of a store that is ready leaves it ready
pub export_right : {S W : Type 0} (g : Ghosts S W) (asked new : S) (ask : Ask) (before after : List ℕ) (result : Result ℕ ExportStop)
    → ExportsMbox g asked new result ask before after (λ a. exported_text a ask)
    → CallsReadyStore g asked new export_reason result
    (λ a b count. (b ≡ a) × (ask_reason a ask ≡ None) × (after ≡ before ++ exported_text a ask) × (count ≡ min (length (exported_text a ask)) (2 ^ 64 - 1)))
    (λ a b why. (b ≡ a) × IsExportRefused (ask_reason a ask) before after (exported_text a ask) why.0 why.1) (λ a b stop. b ≡ a)
export_right g asked new ask before after result call = calls_too g asked new export_reason
    (λ a b count. (b ≡ a) × (ask_reason a ask ≡ None) × (after ≡ before ++ exported_text a ask) × (count ≡ min (length (exported_text a ask)) (2 ^ 64 - 1)))
    (λ a b why. (b ≡ a) × IsExportRefused (ask_reason a ask) before after (exported_text a ask) why.0 why.1) (λ a b stop. b ≡ a)
    (λ a b count it. it.0) (λ a b why it. it.0) (λ a b stop it. it) result call

-- ---- what was written of the export that stopped

-- whatever the fault, the store lasts
pub lasts_on : {S W R : Type 0} (g : Ghosts S W) (old new : S) (Stops : Archive → Archive → Type 0) (Refuses : Archive → Archive → R → Type 0)
    (r : Option R) → MatchOption r (RelatesReadyArchivesIfOpen g old new Stops) (λ why. RelatesReadyArchives g old new (λ a b. Refuses a b why)) → StaysOpenUnlessDiskFails g old new
lasts_on g old new Stops Refuses None it = it.0
lasts_on g old new Stops Refuses (Some why) it = it.0

-- it is of the archive that was left before
pub part_of : {S W : Type 0} (g : Ghosts S W) (ask : Ask) (text : List ℕ) (old asked new : S) → RelatesReadyArchives g old asked (HasImported ask text)
    → StaysOpenUnlessDiskFails g asked new → (before after : List ℕ) (count : ℕ)
    → (StoreHasCleanDisk g new → HoldsTables g asked → length after < 2 ^ 64 → AppendsPrefixOfText before after (exported_text (archive_in g asked) ask) count)
    → StoreHasCleanDisk g new → IsReady g old → length after < 2 ^ 64
    → (b : Archive) × HasImported ask text (archive_in g old) b × AppendsPrefixOfText before after (exported_text b ask) count
part_of g ask text old asked new left lasts before after count part = λ returned ready fits.
    let it = left.1 (lasts.disk_was_clean returned) ready in
    (archive_in g asked, it.1, part returned it.0.is_archive_at_rest fits)

-- ---- all three are told

module _ {S W : Type 0} (g : Ghosts S W) (ask : Ask) (text : List ℕ) (month : ℕ) (before after : List ℕ) (told : Told) (old mid asked new : S) where
  abbrev Imported : Archive → Archive → Type 0
  Imported a b = IsImported ask.list text a b told.report

  abbrev Listed : Archive → Archive → Type 0
  Listed b c = (c ≡ b) × (ask_reason b ask ≡ None) × (told.lines.items ≡ month_lines month (map shown_message (view_of b ask)))

  abbrev Both : Archive → Archive → Type 0
  Both a c = Imported a c × (ask_reason c ask ≡ None) × (told.lines.items ≡ month_lines month (map shown_message (view_of c ask)))

  abbrev Written : Archive → Archive → Type 0
  Written b c = (c ≡ b) × (ask_reason b ask ≡ None) × (after ≡ before ++ exported_text b ask) × (told.count ≡ min (length (exported_text b ask)) (2 ^ 64 - 1))

  listed_then : (a b c : Archive) → Imported a b → Listed b c → Both a c
  listed_then a b c one two = (
    subst (Imported a) (sym two.0) one,
    subst (λ x. ask_reason x ask ≡ None) (sym two.0) two.1,
    subst (λ x. told.lines.items ≡ month_lines month (map shown_message (view_of x ask))) (sym two.0) two.2,
  )

  written_then : (a b c : Archive) → Both a b → Written b c → ImportsListsAndExports ask text month before after a c told
  written_then a b c one two =
      let it = subst (Both a) (sym two.0) one in
      record {
        imports = it.0;
        not_refused = it.1;
        lines_are = it.2;
        writes_export = subst (λ x. after ≡ before ++ exported_text x ask) (sym two.0) two.2;
        exported_length_is = subst (λ x. told.count ≡ min (length (exported_text x ask)) (2 ^ 64 - 1)) (sym two.0) two.3;
      }

  pub all_told : RelatesReadyArchives g old mid Imported → RelatesReadyArchives g mid asked Listed → RelatesReadyArchives g asked new Written
      → RelatesReadyArchives g old new (λ a b. ImportsListsAndExports ask text month before after a b told)
  all_told imported listed written =
      goes_then g old asked new Both Written (λ a b. ImportsListsAndExports ask text month before after a b told) written_then
      (goes_then g old mid asked Imported Listed Both listed_then imported listed) written
