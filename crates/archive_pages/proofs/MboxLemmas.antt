-- An mbox that is written by the lines of an outline.
use Rattle.std.proofs.Common.{◌≡◌, ◌≢◌, ◌∙◌, ◌<◌, ◌++◌, inl, inr, ℕ, List, Option, Some, None, Result, Ok, Err, MatchOption, refl, sym, ap, subst, []}
use Rattle.std.specs.Prelude.{◌⊎◌}
use Rattle.archive_port.specs.declared.state.ArchiveState.{Ghosts}
use Rattle.mbox_core.specs.Written.{AppendsPrefixOfText}
use Rattle.archive_model.specs.Records.{Archive}
use Rattle.archive_port.specs.Messages.{HaveDistinctKeys}
use Rattle.archive_requests.specs.Routes.{mbox}
use Rattle.archive_results.specs.Access.{Ask, is_shown, no_list, reader_facts}
use Rattle.archive_results.specs.Results.{export_text}
use Rattle.archive_results.specs.Shown.{Line}
use Rattle.archive_port.specs.Told.{HoldsTables, IsOpen, StaysOpenUnlessDiskFails, archive_in}
use Rattle.archive_port.proofs.Joins.{goes_in_as}
use Rattle.archive_desk.specs.Exporting.{HasWrittenBytes}
use Rattle.archive_desk.specs.Faults.{RefusalReason, refusal_reason, refused}
use Rattle.archive_desk.specs.Holding.{RelatesTableArchives, RelatesTableArchivesIfOpen}
use Rattle.archive_desk.specs.Walking.{IsWalkStop}
use Rattle.archive_desk.specs.declared.exporting.ExportStop.{ExportStop}
use Rattle.archive_desk.specs.declared.faults.DeskError.{DeskError}
use Rattle.archive_desk.specs.declared.faults.DeskError.TheVariants as desk
use Rattle.archive_cache.specs.ListIndexes.{ListIndex, index_for_ask}
use Rattle.archive_cache.specs.Parts.{whole}
use Rattle.archive_cache.specs.Sending.{IsTrueOfOldArchive, RemembersAfterFault, WritesMboxAfterHead, mbox_text_of_lines}
use Rattle.archive_cache.specs.Views.{CacheState, cached_index_at}
use Rattle.archive_cache.proofs.SendLemmas.{view_text}
use Rattle.archive_cache.proofs.ViewLemmas.{some_is}
use Rattle.archive_pages.specs.Answers.{list_reply, shown_view}
use Rattle.archive_pages.specs.Calls.{IsCacheCoherentForAsk, IsCachedIndexPlace}
use Rattle.archive_pages.specs.KeptServing.{ServesFromArchiveIf}
use Rattle.archive_pages.specs.Replies.{IsReplyOr503, Reply, SendsReply, mbox_reply, not_found, unavailable}
use Rattle.archive_pages.specs.Serving.{IsTrueOfEveryArchive, SendsFromArchive}
use Rattle.archive_pages.specs.declared.faults.ServeFault.{ServeFault}
use Rattle.archive_pages.specs.declared.faults.ServeFault.TheVariants.{Write, Broken}
use Rattle.archive_pages.proofs.DeskLemmas.{mbox_head, mbox_head_is, on_listed, on_unlisted}
use Rattle.archive_pages.proofs.ServingLemmas.{found_sent, sends_as, sent_after}

-- ---- the lines of a list

-- why it stops that did not stop for the writer
pub not_the_writer : (before after : List ℕ) (failed fails written : ℕ) (fault : DeskError) → fault ≢ desk.Write → IsWalkStop before after failed fails written fault
    → (fails ≡ failed) × HasWrittenBytes before after written
not_the_writer before after failed fails written desk.NoList other stop = absurd stop
not_the_writer before after failed fails written desk.NoPerson other stop = absurd stop
not_the_writer before after failed fails written desk.NotInView other stop = absurd stop
not_the_writer before after failed fails written desk.Write other stop = absurd (other refl)
not_the_writer before after failed fails written desk.Memory other stop = stop
not_the_writer before after failed fails written (desk.Store fault) other stop = (stop.1, stop.2)

module _ {S W : Type 0} (g : Ghosts S W) (old new : S) (list : List ℕ) (lines : List Line) (before after : List ℕ) (lasts : StaysOpenUnlessDiskFails g old new) where
  abbrev pub MboxOf : Archive → Reply → Type 0
  MboxOf a reply = reply ≡ mbox_reply (mbox_text_of_lines a list lines)

  abbrev pub Wrote : Result ℕ ExportStop → Type 0
  Wrote result = IsTrueOfOldArchive g old new (λ a. WritesMboxAfterHead g new a list lines mbox_head before after result)

  stays : (fault : DeskError) → IsTrueOfOldArchive g old new (λ a. RemembersAfterFault g new a fault) → RelatesTableArchivesIfOpen g old new (λ a b. b ≡ a)
  stays fault left = (lasts, (λ returned held up. by_reason (archive_in g old) (refusal_reason fault) up (left returned held)))
    where
      by_reason : (a : Archive) (r : Option RefusalReason) → IsOpen g new
          → MatchOption r (IsOpen g new → HoldsTables g new × (archive_in g new ≡ a)) (λ _. HoldsTables g new × (archive_in g new ≡ a)) → HoldsTables g new × (archive_in g new ≡ a)
      by_reason a None up it = it up
      by_reason a (Some why) up it = it

  -- all of it is out
  pub lines_whole : (count : ℕ) → Wrote (Ok count) → SendsFromArchive g old new MboxOf before after (Ok 200)
  lines_whole count wrote = inl (
    lasts,
    (λ returned held.
        let it = wrote returned held in
        let text = mbox_text_of_lines (archive_in g old) list lines in
        (it.0.0, (it.0.1, (mbox_reply text, refl, (refl, it.1 ∙ ap (λ x. before ++ (x ++ text)) (mbox_head_is text)))))),
  )

  module _ (written : ℕ) where
    -- the writer fails
    pub lines_part : Wrote (Err (record { written = written; fault = desk.Write })) → SendsFromArchive g old new MboxOf before after (Err (Write written))
    lines_part wrote = inl (
      lasts,
      (λ returned held.
          let it = wrote returned held in
          let text = mbox_text_of_lines (archive_in g old) list lines in
          (it.0.0, (it.0.1, (mbox_reply text, refl, (λ low. subst (λ x. AppendsPrefixOfText before after (x ++ text) written) (mbox_head_is text) (it.1 low)))))),
    )

    module _ (fault : DeskError) (wrote : Wrote (Err (record { written = written; fault = fault }))) where
      -- S3
      pub lines_broken : 0 < written → SendsFromArchive g old new MboxOf before after (Err (Broken written))
      lines_broken some = inr (inr (
        stays fault (λ returned held. (wrote returned held).0),
        (λ returned held.
            let text = mbox_text_of_lines (archive_in g old) list lines in
            (text, refl, some, (λ low. subst (λ x. AppendsPrefixOfText before after (x ++ text) written) (mbox_head_is text) ((wrote returned held).1 low)))),
      ))

      -- 503
      pub lines_unsent : (last : List ℕ) (result : Result ℕ ServeFault) → after ≡ before → SendsReply (λ r. r ≡ unavailable) after last result
          → SendsFromArchive g old new MboxOf before last result
      lines_unsent last result same sent = inr (inl (
        stays fault (λ returned held. (wrote returned held).0),
        subst (λ m. SendsReply (λ r. r ≡ unavailable) m last result) same sent,
      ))

-- ---- behind the outline, which was found

module _ {S W : Type 0} (g : Ghosts S W) (ask : Ask) (kept later : CacheState) (old mid : S) where
  abbrev If : Archive → Type 0
  If a = IsCacheCoherentForAsk ask kept a

  abbrev MboxFor : Archive → Reply → Type 0
  MboxFor a reply = reply ≡ list_reply a ask (mbox ask.list)

  abbrev At : Option ℕ → Archive → Type 0
  At place a = IsCachedIndexPlace a ask later whole place

  -- there is no such list
  pub mbox_unlisted : (before after : List ℕ) (result : Result ℕ ServeFault) → RelatesTableArchives g old mid (λ a b. (b ≡ a) × (If a → At None a)) × IsTrueOfEveryArchive g old mid (At None)
      → SendsReply (λ r. r ≡ not_found) before after result → ServesFromArchiveIf g old mid If MboxFor before after result
  mbox_unlisted before after result found sent = record {
    sends_from_archive = found_sent g before after result old mid not_found (λ a r. If a → MboxFor a r)
        (goes_in_as g (HoldsTables g) old mid (λ a b. (b ≡ a) × (If a → At None a)) (λ a b. (b ≡ a) × (If a → MboxFor a not_found)) (λ a b h. (h.0, (λ of. unlisted a (h.1 of)))) found.0)
        (sends_as (λ r. r ≡ not_found) (IsReplyOr503 not_found) before after result (λ r is. inl is) sent);
    when_store_closed = λ returned shut. sends_as (λ r. r ≡ not_found) (λ r. (r ≡ unavailable) ⊎ ((a : Archive) → MboxFor a r)) before after result
        (λ r is. inr (λ a. is ∙ unlisted a (found.1 returned shut a))) sent;
  }
    where
      unlisted : (a : Archive) → At None a → MboxFor a not_found
      unlisted a at = sym (on_unlisted a ask (mbox_reply (export_text (shown_view a ask))) at)

  module _ (place : ℕ) (outline : ListIndex) (there : Some outline ≡ cached_index_at later place)
      (found : RelatesTableArchives g old mid (λ a b. (b ≡ a) × (If a → At (Some place) a)) × IsTrueOfEveryArchive g old mid (At (Some place)))
      (distinct : HoldsTables g old → HaveDistinctKeys (archive_in g old).messages) where
    abbrev Known : Archive → Type 0
    Known a = (If a → At (Some place) a) × HaveDistinctKeys a.messages

    pub known : RelatesTableArchives g old mid (λ a b. (b ≡ a) × Known a)
    known = (found.0.0, (λ returned held. let it = found.0.1 returned held in (it.0, (it.1.0, (it.1.1, distinct held)))))

    says : (a : Archive) (r : Reply) → Known a → r ≡ mbox_reply (mbox_text_of_lines a ask.list outline.lines) → If a → MboxFor a r
    says a r know is of =
        let at = know.0 of in
        let same : outline ≡ index_for_ask a ask whole = some_is outline (index_for_ask a ask whole) (there ∙ at.1) in
        is
        ∙ ap (λ (o : ListIndex). mbox_reply (mbox_text_of_lines a ask.list o.lines)) same
        ∙ ap mbox_reply (view_text ask.list a (is_shown ask (reader_facts a ask)) know.1)
        ∙ sym (on_listed a ask (mbox_reply (export_text (shown_view a ask))) at.0)

    abbrev no_archive : Archive
    no_archive = record { lists = []; persons = []; grants = []; messages = []; index_columns = []; options = []; addresses = [] }

    -- an archive without lists has no outline
    nowhere : At (Some place) no_archive → ⊥
    nowhere at = let no : Some (refused no_list) ≡ None = at.0 in absurd (cc)

    pub mbox_served : (new : S) (before after : List ℕ) (result : Result ℕ ServeFault) → StaysOpenUnlessDiskFails g mid new
        → SendsFromArchive g mid new (λ a r. r ≡ mbox_reply (mbox_text_of_lines a ask.list outline.lines)) before after result → ServesFromArchiveIf g old new If MboxFor before after result
    mbox_served new before after result lasts sent = record {
      sends_from_archive = sent_after g before after result old mid new Known (λ a r. r ≡ mbox_reply (mbox_text_of_lines a ask.list outline.lines)) (λ a r. If a → MboxFor a r) known says sent;
      when_store_closed = λ returned shut. absurd (nowhere (found.1 (lasts.disk_was_clean returned) shut no_archive));
    }
