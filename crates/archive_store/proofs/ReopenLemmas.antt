-- A file that is closed and opened again, and a connection that is taken over.
use Rattle.std.proofs.Common.{◌≡◌, sym, ap, ◌∙◌, subst}
use Rattle.sqlite_disk.specs.declared.Disk.{Ghosts}
use Rattle.sqlite_disk.specs.declared.Files.{Files}
use Rattle.sqlite_wal.specs.Reads.{AreClean}
use Rattle.sqlite_trees.specs.Tree.{Trees}
use Rattle.sqlite_trees.specs.Objects.{catalog_tree}
use Rattle.sqlite_catalog.specs.Listing.{Lists}
use Rattle.sqlite_catalog.proofs.ReadLemmas.{lists_once}
use Rattle.sqlite_store.specs.declared.store.FileStore.{FileStore}
use Rattle.sqlite.specs.Effect.{Database}
use Rattle.sqlite.specs.Held.{Held}
use Rattle.sqlite.specs.State.{IsLive}
use Rattle.sqlite.specs.Files.{file_state, Finds, IsOpened}
use Rattle.sqlite.specs.Closing.{IsCopied}
use Rattle.sqlite.proofs.Callers.{finds_again}
use Rattle.archive_tables.specs.Tables.{IsArchiveAtRest, AreArchiveTables, archive_of, archive_in_trees}

pub kept_again : {D : Type 0} {g : Ghosts D} (old new : Held (FileStore D g)) (files : Files D)
    → IsArchiveAtRest (file_state old) → IsLive (file_state old) → (AreClean g files.log files.db → IsCopied old files) → Finds files new → IsOpened new
    → IsArchiveAtRest (file_state new) × (archive_of (file_state new) ≡ archive_of (file_state old))
kept_again old new files kept live closed found opened =
    let trees : (file_state new).now.trees ≡ (file_state old).now.trees =
    ap (λ (db : Database). db.trees) opened.0.clean ∙ finds_again old new files closed found ∙ ap (λ (db : Database). db.trees) kept.committed_is in
    let before = (live kept.is_open).0.lists in
    let after = (opened.1 opened.0.is_open).0.lists in
    let schema = lists_once _ _ _ (subst (λ (db : Trees). Lists (db catalog_tree) (file_state new).now.schema) trees after) before in (
      record {
        is_open = opened.0.is_open;
        autocommit = opened.0.autocommit;
        committed_is = sym opened.0.clean;
        schema = schema ∙ kept.schema;
        tables = subst AreArchiveTables (sym trees) kept.tables;
        rollback_leaves_archive = tt;
      },
      ap archive_in_trees trees,
    )
