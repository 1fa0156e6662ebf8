use Rattle.std.proofs.Common.{◌≡◌, ◌∙◌, ◌++◌, Vec, Global, ap, codes, subst, sym, ℕ, List}
use Rattle.archive_model.specs.Questions.{merge_of}
use Rattle.archive_html.specs.Pages.{list_title, page}
use Rattle.archive_html.specs.Texts.{html_escaped_text}
use Rattle.archive_cache.specs.ListIndexes.{ListIndex, index_for_ask}
use Rattle.archive_pages.specs.Answers.{shown_view}
use Rattle.archive_pages.specs.Listings.{wanted_part, wanted_reply}
use Rattle.archive_pages.specs.Replies.{page_reply}
use Rattle.archive_pages.specs.declared.listing.Wanted.{Wanted}
use Rattle.archive_pages.proofs.PlaceLemmas.{author_placed, month_placed, thread_placed, threads_placed}
use Rattle.archive_pages.proofs.listing.Wanted.page.Goals as goal
use Rattle.archive_pages.proofs.listing.Wanted.page.Goals.{in-Month+in_ok-month_page-in-Month, in-Author+in_ok-author_page-in-Author}
use Rattle.archive_pages.proofs.listing.Wanted.page.Goals.{in-Threads+in_ok-threads_page-in-Threads, in-Thread+in-Some+in_ok-thread_page-in-Thread}

pub returns : goal.returns
returns c = λ archive ask same_list of.
    let outline : ListIndex = c.args.outline.now in
    let list : List ℕ = c.args.list.now in
    -- what is wanted, by its name; and what is made for it
    let of_kind : (x : Wanted) → c.args.self.now ≡ x → outline ≡ index_for_ask archive ask (wanted_part x) = λ x is. subst (λ y. outline ≡ index_for_ask archive ask (wanted_part y)) is of in
    let made_for : (x : Wanted) (made : Vec ℕ Global) → c.args.self.now ≡ x → c.match-self.result ≡ made → page_reply made.items ≡ wanted_reply archive ask x
    → page_reply c.match-self.result.items ≡ wanted_reply archive ask c.args.self.now
    = λ x made kind is right. ap (λ (v : Vec ℕ Global). page_reply v.items) is ∙ (right ∙ ap (wanted_reply archive ask) (sym kind)) in
    elim c.match-self.branch [
      | in-Month+in_ok-month_page-in-Month w ↦ made_for _ w.in_ok-month_page-in-Month.field-0 w.in-Month.is w.result-is
          (month_placed archive ask outline list w.text.result.now same_list w.text.ensures w.in-Month.month w.in_ok-month_page-in-Month.field-0.items (of_kind _ w.in-Month.is)
          w.in_ok-month_page-in-Month.ensures)
      | in-Author+in_ok-author_page-in-Author w ↦ made_for _ w.in_ok-author_page-in-Author.field-0 w.in-Author.is w.result-is
          (author_placed archive ask outline list w.text-in-Author.result.now same_list w.text-in-Author.ensures w.in-Author.key.items w.in_ok-author_page-in-Author.field-0.items
          (of_kind _ w.in-Author.is)
          (subst (λ k. w.in_ok-author_page-in-Author.field-0.items ≡ page (list_title list (codes "by " ++ html_escaped_text k)) w.text-in-Author.result.now) w.deref.ensures.value
          w.in_ok-author_page-in-Author.ensures))
      | in-Threads+in_ok-threads_page-in-Threads w ↦ made_for _ w.in_ok-threads_page-in-Threads.field-0 w.in-Threads.is w.result-is
          (threads_placed archive ask outline list same_list w.text-in-Threads.result.now w.in_ok-threads_page-in-Threads.field-0.items (of_kind _ w.in-Threads.is)
          w.in_ok-threads_page-in-Threads.ensures w.text-in-Threads.ensures)
      | in-Thread+in-Some+in_ok-thread_page-in-Thread w ↦ made_for _ w.in_ok-thread_page-in-Thread.field-0 w.in-Thread.is w.result-is
          (thread_placed archive ask outline list same_list w.in-Thread.key w.in-Some.rows.now w.in_ok-thread_page-in-Thread.field-0.items w.in_ok-thread_page-in-Thread.ensures
          (w.in-Some.ensures.shown ask.list (merge_of archive ask.list) (shown_view archive ask) (of_kind _ w.in-Thread.is)))
    ]
