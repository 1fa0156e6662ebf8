-- If no database was made yet, an open finds no row in the catalog.
use Rattle.std.proofs.Common.{◌≡◌, ◌∙◌, ◌-◌, ◌*◌, ◌<◌, ◌≤◌, ap, inl, inr, sym, arith, get_or-take, refl, zero-add, ℕ, List, [], length, take, Option, Some, unwrap_or}
use Rattle.std.proofs.lemmas.List.{length-take}
use Rattle.std.proofs.Math.Logic.{∥∥₁_elim}
use Rattle.std.specs.Prelude.{slice_index}
use Rattle.sqlite_wal.specs.Format.{part}
use Rattle.sqlite_wal.specs.Recovery.{Image, pages_after}
use Rattle.sqlite_wal.proofs.AppendLemmas.{page_from_pages, some_value}
use Rattle.sqlite_wal.proofs.PartLemmas.{part_within, slice_index-part}
use Rattle.sqlite_wal.proofs.RecoveryLemmas.{replays_once}
use Rattle.sqlite_pages.specs.PageMap.{PageMap}
use Rattle.sqlite_pool.specs.File.{header_in, IsSoundFile}
use Rattle.sqlite_pool.specs.Opening.{IsBlankFile}
use Rattle.sqlite_pool.specs.Stored.{stored_size, Adopts}
use Rattle.sqlite_pool.specs.StoredLaws.{trimmed_some}
use Rattle.sqlite_pool.proofs.ProbeLemmas.{first_byte}
use Rattle.sqlite_trees.specs.Objects.{catalog_tree}
use Rattle.sqlite_trees.specs.Tree.{Trees}
use Rattle.sqlite.specs.Files.{AreFoundIn, IsNothing}

-- files that hold the pages of a database
module _ (size : ℕ) (image : Image) (pages : PageMap) (found : Adopts size image pages) (sound : IsSoundFile size pages) where
  abbrev page : List ℕ
  page = (some_value (found.stored 1) found.whole.first).0

  is_page : found.stored 1 ≡ Some page
  is_page = (some_value (found.stored 1) found.whole.first).1

  header_is : header_in pages ≡ take 100 (take size page)
  header_is =
      ap (λ (o : Option (List ℕ)). take 100 (unwrap_or o [])) (ap (λ (p : PageMap). p 1) (sym found.shows) ∙ trimmed_some size _ 1 page is_page)

  -- the header has the 16 bytes of SQLite's magic
  holds_magic : 16 ≤ size
  holds_magic =
      let magic : length (take 16 (header_in pages)) ≡ 16 = ap length sound.header.0.magic in
      omega (arith, magic, length-take 16 (header_in pages), ap length header_is, length-take 100 (take size page), length-take size page)

  -- an S
  begins : slice_index page 0 ≡ 83
  begins =
      sym (get_or-take size page 0 0 (omega (arith, holds_magic))) ∙ sym (get_or-take 100 (take size page) 0 0 (omega arith)) ∙ ap (λ (b : List ℕ). slice_index b 0) (sym header_is)
      ∙ sym (get_or-take 16 (header_in pages) 0 0 (omega arith)) ∙ ap (λ (b : List ℕ). slice_index b 0) sound.header.0.magic

  -- if the log has no frame to replay, the database file begins with the page
  file_begins : found.found.frames ≡ 0 → (1 < length image.db) × (slice_index image.db 0 ≡ 83)
  file_begins none =
      let whole = stored_size size in
      let alone : pages_after whole image.log image.db 0 1 ≡ Some page =
      ap (λ (p : PageMap). p 1) (ap (pages_after whole image.log image.db) (sym none) ∙ found.found.gives) ∙ is_page in
      let start : (1 - 1) * whole ≡ 0 = omega arith in
      let front : part image.db 0 whole ≡ page = ap (λ (at : ℕ). part image.db at whole) (sym start) ∙ (page_from_pages whole image.log image.db 0 1 page alone).0 in
      let long = part_within image.db 0 whole (omega (arith, holds_magic)) (ap length front ∙ found.whole.sized 1 page is_page) in (
        omega (arith, holds_magic, long),
        ap (slice_index image.db) (sym (zero-add 0)) ∙ sym (slice_index-part image.db 0 whole 0 (omega (arith, holds_magic))) ∙ ap (λ (b : List ℕ). slice_index b 0) front ∙ begins,
      )

  is_not_blank : (other : ℕ) → 0 < other → ¬ IsBlankFile other image
  is_not_blank other some (inl none) = omega (arith, found.found.present)
  is_not_blank other some (inr blank) =
      let none : found.found.frames ≡ 0 = elim blank.0 [
        | inl ignored ↦ replays_once (stored_size size) image.log found.found.frames 0 found.found.replays (inl (ignored.0, refl))
        | inr taken ↦ elim found.found.replays [
          | inl ignored ↦ ignored.1
          | inr ours ↦ replays_once (stored_size size) image.log found.found.frames 0 found.found.replays (rw (sym ours.0.head.size ∙ taken.0.head.size) blank.0)
        ]
      ] in
      let (long, byte) = file_begins none in
      elim blank.1.0 [
        | inl short ↦ omega arith
        | inr more ↦ elim more [ inl zero' ↦ omega (arith, zero'.1) | inr rest ↦ rest.1 (byte ∙ sym (first_byte other some)) ]
      ]

  is_something : ¬ IsNothing image
  is_something (inl plain) = is_not_blank _ (omega arith) plain
  is_something (inr summed) = is_not_blank _ (omega arith) summed

pub finds_no_row : (image : Image) (trees : Trees) → IsNothing image → AreFoundIn image trees → trees catalog_tree ≡ []
finds_no_row image trees nothing (inl database) =
    absurd (∥∥₁_elim database.4 (λ x y. absurd x) (λ ours. is_something database.0 image database.1 database.3 ours.file.sound nothing))
finds_no_row image trees nothing (inr none) = none.1.1
