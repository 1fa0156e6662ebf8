-- What is found for a question is found for a route.
use Rattle.std.proofs.Common.{◌≡◌, ◌∙◌, ap, refl, subst, sym, false, ℕ, Bor, List, Some, Result, Ok, Err}
use Rattle.archive_port.specs.declared.state.ArchiveState.{Ghosts}
use Rattle.archive_model.specs.Records.{Archive}
use Rattle.archive_port.specs.Told.{HoldsTables}
use Rattle.archive_port.proofs.Joins.{goes_in_as}
use Rattle.archive_results.specs.Access.{Ask}
use Rattle.percent_encoding.specs.Percent.{percent_decode}
use Rattle.archive_requests.specs.Routes.{Route, author as author_route, month as month_route, thread as thread_route, threads as threads_route}
use Rattle.archive_requests.specs.Routing.{model_route}
use Rattle.archive_requests.specs.declared.routes.Route.{Route as Named}
use Rattle.archive_requests.specs.declared.routes.Route.TheVariants.{Lists, Message, Month, Threads, Thread, Author, Mbox}
use Rattle.archive_cache.specs.Coherence.{KeepsCacheCoherent}
use Rattle.archive_cache.specs.Views.{CacheState}
use Rattle.archive_pages.specs.Answers.{is_mbox_route, list_reply, reply_by_key, reply_for_message, reply_if_list_exists, reply_unless_mbox, route_reply}
use Rattle.archive_pages.specs.Listings.{list_of_route, listing_reply}
use Rattle.archive_pages.specs.Replies.{Reply}
use Rattle.archive_pages.specs.Calls.{IsCacheCoherentForAsk, EndsFindingReply, FindsReplyIf}
use Rattle.archive_pages.specs.Causes.{IsListDataUnreadable, IsRouteDataUnreadable, IsUnreadableOrReaderUnknown}
use Rattle.archive_pages.specs.Seen.{model_reply}
use Rattle.archive_pages.specs.declared.replies.Reply.{Reply as Made}
use Rattle.archive_pages.proofs.CauseLemmas.{cause_as}

-- a route that is no mbox
pub other_route : (route : Named) → is_mbox_route (model_route route) ≡ false → (a : Archive) (ask_of : List ℕ → Ask)
    → reply_unless_mbox a ask_of (model_route route) ≡ route_reply a ask_of (model_route route)
other_route Lists is a ask_of = refl
other_route (Message list key) is a ask_of = refl
other_route (Month list month) is a ask_of = refl
other_route (Threads list) is a ask_of = refl
other_route (Thread list key) is a ask_of = refl
other_route (Author list author) is a ask_of = refl
other_route (Mbox list) is a ask_of = absurd (cc)

-- a route of a list that asks for no message
module _ (ask_of : List ℕ → Ask) (list : List ℕ) (named : (ask_of list).list ≡ list) (a : Archive) where
  same_page : (of : List ℕ) (page : List ℕ → Route) → Some of ≡ Some list → list_reply a (ask_of of) (page of) ≡ list_reply a (ask_of list) (page (ask_of list).list)
  same_page of page is = let same : of ≡ list = cc in ap (λ l. list_reply a (ask_of l) (page l)) same ∙ ap (λ l. list_reply a (ask_of list) (page l)) (sym named)

  same_unread : (of : List ℕ) → Some of ≡ Some list → IsListDataUnreadable (ask_of list) a → IsListDataUnreadable (ask_of of) a
  same_unread of is bad = let same : of ≡ list = cc in subst (λ l. IsListDataUnreadable (ask_of l) a) (sym same) bad

  pub listed_message : (of key : Bor (List ℕ)) → Some of.now ≡ Some list → reply_for_message (ask_of list) key.now a ≡ reply_unless_mbox a ask_of (model_route (Message of key))
  listed_message of key is = let same : of.now ≡ list = cc in
      ap (λ l. reply_if_list_exists a l (reply_by_key a (ask_of list) key.now)) named ∙ ap (λ l. reply_if_list_exists a l (reply_by_key a (ask_of l) key.now)) (sym same)

  module _ (route : Named) (is : list_of_route (model_route route) ≡ Some list) (other : (l key : Bor (List ℕ)) → route ≡ Message l key → ⊥) where
    pub listed_page : reply_unless_mbox a ask_of (model_route route) ≡ listing_reply a (ask_of list) (model_route route)
    listed_page = by route is other
      where
        by : (r : Named) → list_of_route (model_route r) ≡ Some list → ((l key : Bor (List ℕ)) → r ≡ Message l key → ⊥)
            → reply_unless_mbox a ask_of (model_route r) ≡ listing_reply a (ask_of list) (model_route r)
        by Lists is other = absurd (cc)
        by (Message l key) is other = absurd (other l key refl)
        by (Month l text) is other = same_page l.now (λ of. month_route of text.now) is
        by (Threads l) is other = same_page l.now threads_route is
        by (Thread l key) is other = same_page l.now (λ of. thread_route of key.now) is
        by (Author l key) is other = same_page l.now (λ of. author_route of (percent_decode key.now)) is
        by (Mbox l) is other = refl

    pub listed_unread : IsListDataUnreadable (ask_of list) a → IsRouteDataUnreadable ask_of (model_route route) a
    listed_unread = by route is other
      where
        by : (r : Named) → list_of_route (model_route r) ≡ Some list → ((l key : Bor (List ℕ)) → r ≡ Message l key → ⊥)
            → IsListDataUnreadable (ask_of list) a → IsRouteDataUnreadable ask_of (model_route r) a
        by Lists is other bad = absurd (cc)
        by (Message l key) is other bad = absurd (other l key refl)
        by (Month l text) is other bad = same_unread l.now is bad
        by (Threads l) is other bad = same_unread l.now is bad
        by (Thread l key) is other bad = same_unread l.now is bad
        by (Author l key) is other bad = same_unread l.now is bad
        by (Mbox l) is other bad = same_unread l.now is bad

module _ {S W F : Type 0} (g : Ghosts S W) (old new : S) where
  -- found to be another reply that is the same of each archive
  pub found_as : (result : Result Made F) (If : Archive → Type 0) (made made' : Archive → Reply) → ((a : Archive) → made a ≡ made' a) → FindsReplyIf g old new result If made
      → FindsReplyIf g old new result If made'
  found_as (Ok x) If made made' same found = (
    goes_in_as g (HoldsTables g) old new (λ a b. (b ≡ a) × (If a → model_reply x ≡ made a)) (λ a b. (b ≡ a) × (If a → model_reply x ≡ made' a)) (λ a b h. (h.0, (λ is. h.1 is ∙ same a))) found.0,
    (λ returned shut a. found.1 returned shut a ∙ same a),
  )
  found_as (Err e) If made made' same found = found

  -- for a reason of which more is known
  pub why_as : (result : Result Made F) (P Q : Archive → Type 0) → ((a : Archive) → P a → Q a) → EndsFindingReply g old new result P → EndsFindingReply g old new result Q
  why_as (Ok x) P Q implies why = record { fault_has_cause = why.fault_has_cause; status_is_not_503 = why.status_is_not_503 }
  why_as (Err e) P Q implies why = record { fault_has_cause = (why.fault_has_cause.0, cause_as g old new P Q implies why.fault_has_cause.1); status_is_not_503 = why.status_is_not_503 }

  module _ (result : Result Made F) {asked known : Ask} (is : asked ≡ known) where
    -- found for what is asked
    pub found_for : (kept : CacheState) (made : Ask → Archive → Reply) → FindsReplyIf g old new result (IsCacheCoherentForAsk asked kept) (made asked)
        → FindsReplyIf g old new result (IsCacheCoherentForAsk known kept) (made known)
    found_for kept made found = subst (λ (q : Ask). FindsReplyIf g old new result (IsCacheCoherentForAsk q kept) (made q)) is found

    pub why_for : (Unread : Ask → Archive → Type 0) → EndsFindingReply g old new result (IsUnreadableOrReaderUnknown (Unread asked) asked.reader)
        → EndsFindingReply g old new result (IsUnreadableOrReaderUnknown (Unread known) known.reader)
    why_for Unread why = subst (λ (q : Ask). EndsFindingReply g old new result (IsUnreadableOrReaderUnknown (Unread q) q.reader)) is why

    pub keeps_for : (kept later : CacheState) → KeepsCacheCoherent g old new asked.rules asked.day kept later → KeepsCacheCoherent g old new known.rules known.day kept later
    keeps_for kept later keeps = subst (λ (q : Ask). KeepsCacheCoherent g old new q.rules q.day kept later) is keeps
