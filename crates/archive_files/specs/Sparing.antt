-- What an opening that failed leaves of two files: the database that they held, or none if they held none.
use Rattle.std.proofs.Common.{◌≡◌, ◌∙◌, ◌%◌, ◌≤◌, ap, inl, inr, sym, subst, arith, eq-eqb, eqb-true, ne_eqb, ℕ, IsTrue}
use Rattle.std.specs.Prelude.{◌⊎◌}
use Rattle.std.proofs.lemmas.Bool.{cases_eq}
use Rattle.sqlite_disk.specs.declared.Disk.{Ghosts}
use Rattle.sqlite_disk.specs.declared.Files.{Files}
use Rattle.sqlite_wal.specs.Files.{outcomes}
use Rattle.sqlite_wal.specs.Format.{be32}
use Rattle.sqlite_wal.specs.Recovery as raw
use Rattle.sqlite_wal.specs.Recovery.{Image, IsIgnored}
use Rattle.sqlite_wal.proofs.RecoveryLemmas.{recovers_once}
use Rattle.sqlite_pages.specs.PageMap.{PageMap}
use Rattle.sqlite_pool.specs.Stored.{reserved, is_summed, stored_size, Adopts, StandsAs}
use Rattle.sqlite_pool.proofs.ProbeLemmas.{reserved_word, size_by_file, size_by_log}
use Rattle.sqlite_trees.specs.Tree.{Trees}
use Rattle.sqlite_store.specs.Unopened.{state_of}
use Rattle.sqlite_store.specs.declared.store.open.Unopened.{Unopened}
use Rattle.sqlite.specs.Files.{image_of, HoldsDatabase, IsEmpty, IsNothing, LeavesFiles, NamesSize, SaysSums}
use Rattle.sqlite.specs.declared.file.Leftover.TheVariants as left
use Rattle.sqlite.proofs.FileLemmas.{is_something}

-- An opening that reads pages of this size takes them to end in sums if the first page says that they do.
abbrev pub TakesSums : Image → ℕ → Type 0
TakesSums image size = SaysSums (stored_size size) image → IsTrue (is_summed size)

module _ (first : Image) (size : ℕ) (names : NamesSize first (stored_size size)) (says : IsTrue (is_summed size) → SaysSums (stored_size size) first) (takes : TakesSums first size)
    (db : Trees) (held : HoldsDatabase first db) where
  large : 504 ≤ held.0
  large = let few : reserved held.0 ≤ 8 = grind arith in omega (arith, held.1.0)

  -- the opening found the size of the pages
  same_stored : stored_size held.0 ≡ stored_size size
  same_stored = elim (cases_eq (stored_size held.0) (stored_size size)) [
    | inl same ↦ same
    | inr other ↦ absurd (
        let read = λ (seen : ¬ IsIgnored first.log). other (sym (size_by_log held.0 first held.2.pages held.2.found seen) ∙ sym (names.0 seen)) in
        read (λ ignored. other (sym (size_by_file held.0 first held.2.pages held.2.found large held.2.ours.file.sound ignored) ∙ sym (names.1 ignored)))
        )
  ]

  -- the first page says that the pages end in sums exactly if they do
  said_if_summed : reserved held.0 ≡ 8 → SaysSums (stored_size size) first
  said_if_summed eight pages page found is len =
      let word = reserved_word held.0 first held.2.pages held.2.found large held.2.ours.file.sound in
      let same = recovers_once (stored_size size) first pages held.2.found.stored found (subst (λ n. raw.Recovers n first held.2.found.stored) same_stored held.2.found.found) in
      let one : page ≡ word.0 = (let both = sym is ∙ ap (λ (p : PageMap). p 1) same ∙ word.1 in cc) in
      ap (λ b. be32 b 20) one ∙ (let w = word.3 in omega (arith, w, eight))

  summed_if_said : SaysSums (stored_size size) first → reserved held.0 ≡ 8
  summed_if_said said =
      let few : reserved held.0 ≤ 8 = grind arith in
      let word = reserved_word held.0 first held.2.pages held.2.found large held.2.ours.file.sound in
      let w = said held.2.found.stored word.0 (subst (λ n. raw.Recovers n first held.2.found.stored) same_stored held.2.found.found) word.1 (word.2 ∙ same_stored) in
      elim (cases_eq (held.0 % 16) 8) [
        | inl on ↦ rw (eq-eqb (held.0 % 16) 8 on)
        | inr off ↦ (let none : reserved held.0 ≡ 0 = rw (ne_eqb (held.0 % 16) 8 off) in absurd (omega (arith, none, w, word.3)))
      ]

  same_size : held.0 ≡ size
  same_size = elim (cases_eq (size % 16) 8) [
    | inl on ↦
        let eight : reserved size ≡ 8 = rw (eq-eqb (size % 16) 8 on) in
        let both = summed_if_said (says (eq-eqb (reserved size) 8 eight)) in
        omega (arith, same_stored, eight, both)
    | inr off ↦
        let none : reserved size ≡ 0 = rw (ne_eqb (size % 16) 8 off) in
        elim (cases_eq (held.0 % 16) 8) [
          | inl on ↦
              let eight : reserved held.0 ≡ 8 = rw (eq-eqb (held.0 % 16) 8 on) in
              let summed = eqb-true (reserved size) 8 (takes (said_if_summed eight)) in
              absurd (omega (arith, none, summed))
          | inr plain ↦
              let zero' : reserved held.0 ≡ 0 = rw (ne_eqb (held.0 % 16) 8 plain) in
              omega (arith, same_stored, none, zero')
        ]
  ]

  still_held : (image : Image) → StandsAs size first image → HoldsDatabase image db
  still_held image stands =
      let now = stands.1 held.2.pages (subst (λ n. Adopts n first held.2.pages) same_size held.2.found) in (
        held.0,
        held.1,
        record {
          pages = held.2.pages;
          wanted = held.2.wanted;
          schema = held.2.schema;
          found = subst (λ n. Adopts n image held.2.pages) (sym same_size) now;
          ours = held.2.ours;
          reads = held.2.reads;
          sound = held.2.sound;
        },
      )

module _ {D : Type 0} {g : Ghosts D} (files : Files D) (now : Unopened D g) (leaves : LeavesFiles files (left.Unopened now))
    (fresh : (image : Image) → outcomes g files.log files.db image → image ≡ image_of g files) (image : Image) (may : (state_of now).may_leave image) where
  -- a database
  pub database_is_spared : TakesSums (image_of g files) (state_of now).page_size → (db : Trees) → HoldsDatabase (image_of g files) db → HoldsDatabase image db
  database_is_spared takes db held = elim leaves [
    | inl none ↦ absurd (is_something (image_of g files) db held none.0)
    | inr some ↦ elim (some.4 image may).same [
      | inl old ↦ subst (λ i. HoldsDatabase i db) (sym (fresh image old)) held
      | inr stands ↦ still_held (image_of g files) (state_of now).page_size some.1 some.3 takes db held image stands
    ]
  ]

  -- no database, or an empty one that was to be the new one
  pub nothing_is_spared : IsNothing (image_of g files) → IsNothing image ⊎ ∥ ((db : Trees) × HoldsDatabase image db × IsEmpty db) ∥₁
  nothing_is_spared nothing = elim leaves [
    | inl none ↦ elim (none.1 image may) [
      | inl old ↦ inl (subst IsNothing (sym (fresh image old)) nothing)
      | inr rest ↦ rest
    ]
    | inr some ↦ absurd (some.0 nothing)
  ]
