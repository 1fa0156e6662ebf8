-- A page out of the outline at a place of what is kept.
use Rattle.std.proofs.Common.{◌≡◌, ◌∙◌, ◌++◌, refl, sym, ap, subst, ℕ, List, Option, Some, None, codes}
use Rattle.std.specs.Prelude.{flat_map, option_map}
use Rattle.std.specs.Option.{option_map_or}
use Rattle.archive_port.specs.declared.state.ArchiveState.{Ghosts}
use Rattle.civil_time.specs.Texts.{month_text}
use Rattle.archive_model.specs.Records.{Archive}
use Rattle.archive_model.specs.Questions.{merge_of}
use Rattle.archive_desk.specs.Holding.{RelatesTableArchives}
use Rattle.archive_port.specs.Told.{HoldsTables}
use Rattle.archive_port.proofs.Joins.{goes_in_as}
use Rattle.archive_results.specs.Access.{Ask}
use Rattle.archive_results.specs.Results.{TreeLine, author_lines, month_lines, tree_lines, thread_lines, lines_of, thread_rows_of}
use Rattle.archive_results.specs.Shown.{Line, ShownMessage}
use Rattle.archive_html.specs.Texts.{html_escaped_text}
use Rattle.archive_html.specs.Pages.{author_page, page, threads_page, thread_page, list_title}
use Rattle.archive_html.specs.Rows.{message_row, tree_row}
use Rattle.archive_cache.specs.ListIndexes.{ListIndex, index_for_ask, index_of_lines, rendered_rows}
use Rattle.archive_cache.proofs.OutlineLemmas.{text_is, top_rows_text}
use Rattle.archive_cache.specs.Parts.{ViewPart, whole, month, author}
use Rattle.archive_cache.specs.Views.{CacheState, cached_index_at}
use Rattle.archive_pages.specs.Answers.{reply_if_list_exists, shown_view}
use Rattle.archive_pages.specs.Calls.{IsCachedIndexPlace}
use Rattle.archive_pages.specs.Listings.{wanted_reply}
use Rattle.archive_pages.specs.declared.listing.Wanted.TheVariants.{Month, Thread}
use Rattle.archive_pages.specs.Replies.{Reply, not_found, page_reply}
use Rattle.archive_pages.specs.Serving.{IsTrueOfEveryArchive}
use Rattle.archive_pages.proofs.DeskLemmas.{on_listed, on_unlisted}

some_is : (x y : ListIndex) → Some x ≡ Some y → x ≡ y
some_is x y is = cc

module _ {S W : Type 0} (g : Ghosts S W) (old new : S) (If : Archive → Type 0) where
  -- what was found, of which more is known
  finds_as : (Says Says' : Archive → Type 0) → ((a : Archive) → Says a → Says' a) → RelatesTableArchives g old new (λ a b. (b ≡ a) × (If a → Says a)) × IsTrueOfEveryArchive g old new Says
      → RelatesTableArchives g old new (λ a b. (b ≡ a) × (If a → Says' a)) × IsTrueOfEveryArchive g old new Says'
  finds_as Says Says' more found = (
    goes_in_as g (HoldsTables g) old new (λ a b. (b ≡ a) × (If a → Says a)) (λ a b. (b ≡ a) × (If a → Says' a)) (λ a b h. (h.0, (λ of. more a (h.1 of)))) found.0,
    (λ returned shut a. more a (found.1 returned shut a)),
  )

  module _ (ask : Ask) (kept : CacheState) (part : ViewPart) (o : Option ℕ) (made said : Archive → Reply)
      (same : (a : Archive) → said a ≡ reply_if_list_exists a ask.list (made a))
      (found : RelatesTableArchives g old new (λ a b. (b ≡ a) × (If a → IsCachedIndexPlace a ask kept part o)) × IsTrueOfEveryArchive g old new (λ a. IsCachedIndexPlace a ask kept part o)) where
    -- there is no such list
    pub found_none : o ≡ None → RelatesTableArchives g old new (λ a b. (b ≡ a) × (If a → not_found ≡ said a)) × IsTrueOfEveryArchive g old new (λ a. not_found ≡ said a)
    found_none is = finds_as (λ a. IsCachedIndexPlace a ask kept part o) (λ a. not_found ≡ said a)
        (λ a at. sym (same a ∙ on_unlisted a ask (made a) (subst (λ x. IsCachedIndexPlace a ask kept part x) is at))) found

    pub found_at : (place : ℕ) (outline : ListIndex) (reply : Reply) → o ≡ Some place → Some outline ≡ cached_index_at kept place
        → ((a : Archive) → outline ≡ index_for_ask a ask part → reply ≡ made a)
        → RelatesTableArchives g old new (λ a b. (b ≡ a) × (If a → reply ≡ said a)) × IsTrueOfEveryArchive g old new (λ a. reply ≡ said a)
    found_at place outline reply is there of = finds_as (λ a. IsCachedIndexPlace a ask kept part o) (λ a. reply ≡ said a)
        (λ a at.
        let it = subst (λ x. IsCachedIndexPlace a ask kept part x) is at in
        of a (some_is outline (index_for_ask a ask part) (there ∙ it.1)) ∙ sym (same a ∙ on_listed a ask (made a) it.0)) found

module _ (a : Archive) (ask : Ask) (outline : ListIndex) (list : List ℕ) (same_list : list ≡ ask.list) where
  abbrev view : List ShownMessage
  view = shown_view a ask

  pub threads_placed : (text made : List ℕ) → outline ≡ index_for_ask a ask whole → made ≡ page (list_title list (codes "threads")) text → text ≡ rendered_rows outline outline.rows
      → page_reply made ≡ page_reply (threads_page ask.list (tree_lines (merge_of a ask.list) view))
  threads_placed text made of is same = ap page_reply (
      is ∙ (ap (λ l. page (list_title l (codes "threads")) text) same_list
      ∙ ap (λ rows. page (list_title ask.list (codes "threads")) rows)
      (same ∙ (ap (λ (o : ListIndex). rendered_rows o o.rows) of ∙ text_is ask.list (lines_of view) (thread_rows_of (merge_of a ask.list) view)))))

  -- the thread of a key, where a line has it, and where none has
  abbrev texts : Option (List TreeLine) → Option (List ℕ)
  texts trees = option_map (flat_map (tree_row ask.list)) trees

  abbrev shown : List TreeLine → Reply
  shown trees = page_reply (thread_page ask.list trees)

  thread_by : (text : List ℕ) (trees : Option (List TreeLine)) → Some text ≡ texts trees
      → page_reply (page (list_title ask.list (codes "thread")) text) ≡ option_map_or shown trees not_found
  thread_by text None is = absurd (cc)
  thread_by text (Some trees) is = let same : text ≡ flat_map (tree_row ask.list) trees = cc in ap (λ rows. page_reply (page (list_title ask.list (codes "thread")) rows)) same

  pub thread_placed : (key text made : List ℕ) → made ≡ page (list_title list (codes "thread")) text
      → Some text ≡ texts (thread_lines (merge_of a ask.list) key view) → page_reply made ≡ wanted_reply a ask (Thread key)
  thread_placed key text made is same =
      ap page_reply (is ∙ ap (λ l. page (list_title l (codes "thread")) text) same_list) ∙ thread_by text (thread_lines (merge_of a ask.list) key view) same

-- the rows of a month, and those of an author
module _ (a : Archive) (ask : Ask) (outline : ListIndex) (list text : List ℕ) (same_list : list ≡ ask.list) (same_text : text ≡ rendered_rows outline outline.rows) where
  lines_placed : (rest made : List ℕ) (lines : List Line) → outline ≡ index_of_lines ask.list lines → made ≡ page (list_title list rest) text
      → made ≡ page (list_title ask.list rest) (flat_map (message_row ask.list 0) lines)
  lines_placed rest made lines of is =
      is ∙ (ap (λ l. page (list_title l rest) text) same_list
      ∙ ap (λ rows. page (list_title ask.list rest) rows)
      (same_text ∙ (ap (λ (o : ListIndex). rendered_rows o o.rows) of ∙ top_rows_text ask.list lines)))

  pub month_placed : (m : ℕ) (made : List ℕ) → outline ≡ index_for_ask a ask (month m) → made ≡ page (list_title list (month_text m)) text
      → page_reply made ≡ wanted_reply a ask (Month m)
  month_placed m made of is = ap page_reply (lines_placed (month_text m) made (month_lines m (shown_view a ask)) of is)

  pub author_placed : (key made : List ℕ) → outline ≡ index_for_ask a ask (author key) → made ≡ page (list_title list (codes "by " ++ html_escaped_text key)) text
      → page_reply made ≡ page_reply (author_page ask.list key (author_lines key (shown_view a ask)))
  author_placed key made of is = ap page_reply (lines_placed (codes "by " ++ html_escaped_text key) made (author_lines key (shown_view a ask)) of is)

module _ (ask : Ask) where
  none_by : (x : Option (List TreeLine)) → None ≡ option_map (flat_map (tree_row ask.list)) x → not_found ≡ option_map_or (λ trees. page_reply (thread_page ask.list trees)) x not_found
  none_by None is = refl
  none_by (Some trees) is = absurd (cc)

  pub thread_none : (a : Archive) (key : List ℕ) → None ≡ option_map (flat_map (tree_row ask.list)) (thread_lines (merge_of a ask.list) key (shown_view a ask))
      → not_found ≡ wanted_reply a ask (Thread key)
  thread_none a key none = none_by (thread_lines (merge_of a ask.list) key (shown_view a ask)) none
