-- Why the rules decide what a reply is.
use Rattle.std.proofs.Common.{◌≡◌, ◌∙◌, ◌⊎◌, ◌↔◌, inl, inr, ℕ, ℤ, List, [], ◌∷◌, ◌++◌, ◌==◌, Bool, true, false, cond, Option, Some, None, refl, sym, ap, codes}
use Rattle.std.specs.Option.{option_map_or}
use Rattle.std.proofs.lemmas.Bool.{true≢false}
use Rattle.httparse.specs.Grammar.{RequestHead}
use Rattle.civil_time.specs.Calendar.{month_of_text}
use Rattle.policy_core.specs.Facts.{Facts}
use Rattle.policy_core.specs.Rules.{Rule, fits}
use Rattle.policy_core.specs.Verdict.{allowed, denied, ruling_of_rule, verdict_of}
use Rattle.archive_model.specs.Records.{Archive, Message}
use Rattle.archive_model.specs.Questions.{has_list, merge_of, message_of}
use Rattle.archive_model.specs.Keys.{is_key}
use Rattle.archive_results.specs.Access.{Ask, asked_of_message, asked_under_ruling, asked_for_key, is_allowed_ruling, is_shown, reader_facts, ruling_on}
use Rattle.archive_results.specs.Shown.{ShownMessage}
use Rattle.archive_results.specs.Results.{TreeLine, month_lines, thread_lines}
use Rattle.archive_html.specs.Pages.{month_page, thread_page}
use Rattle.archive_requests.specs.Requests.{Request, bad, other_method, unauthorized as no_token, asks, request_of}
use Rattle.archive_requests.specs.Routes.{Route, lists, message, month, threads, thread, author, mbox, route_of}
use Rattle.archive_pages.specs.Replies.{Reply, page_reply, message_reply, forbidden, not_found, unauthorized}
use Rattle.archive_pages.specs.Answers.{reader_of, ask_of_reader, shown_view, lookup_reply, reply_by_key, reply_if_list_exists, route_reply, path_reply, request_reply, reply_of}
use Rattle.archive_pages.specs.Laws.{AsksFor, AsksForMessage, facts_on, NoRuleFits, IsFirstToFit}
use Rattle.archive_pages.specs.Laws.{IsAllowed, IsDeniedBy, HoldsMessageWithFacts, ServesWhatIsAllowed, DeniesWhatIsDenied, ShowsWhatIsAllowed}
use Rattle.archive_pages.proofs.LawLemmas.{routed}

-- ---- which rule decides

abbrev Decision : List Rule → Facts → Type 0
Decision rules f = ((r : Rule) × IsFirstToFit rules f r) ⊎ NoRuleFits rules f

decided-front : (before after : List Rule) (r : Rule) (f : Facts) → NoRuleFits before f → fits r f ≡ true → verdict_of (before ++ r ∷ after) f ≡ ruling_of_rule r
decided-front [] after r f none fit = rw fit refl
decided-front (q ∷ before) after r f none fit = rw none.0 (decided-front before after r f none.1 fit)

decided : (rules : List Rule) (r : Rule) (f : Facts) → IsFirstToFit rules f r → verdict_of rules f ≡ ruling_of_rule r
decided rules r f it = rw it.rules_are (decided-front it.rules_before it.rules_after r f it.none_fits_before it.fits_facts)

undecided : (rules : List Rule) (f : Facts) → NoRuleFits rules f → verdict_of rules f ≡ denied (codes "default")
undecided [] f none = refl
undecided (q ∷ rules) f none = rw none.0 (undecided rules f none.1)

later : (q : Rule) (rules : List Rule) (f : Facts) → fits q f ≡ false → Decision rules f → Decision (q ∷ rules) f
later q rules f none (inl (r, it)) =
    inl (
      r,
      record {
        rules_before = q ∷ it.rules_before;
        rules_after = it.rules_after;
        rules_are = ap (λ (rest : List Rule). q ∷ rest) it.rules_are;
        none_fits_before =
            (none, it.none_fits_before);
        fits_facts = it.fits_facts;
      },
    )
later q rules f none (inr all) = inr (none, all)

decide_by : (q : Rule) (rules : List Rule) (f : Facts) (b : Bool) → fits q f ≡ b → Decision rules f → Decision (q ∷ rules) f
decide_by q rules f true is rest = inl (q, record { rules_before = []; rules_after = rules; rules_are = refl; none_fits_before = tt; fits_facts = is })
decide_by q rules f false is rest = later q rules f is rest

decide : (rules : List Rule) (f : Facts) → Decision rules f
decide [] f = inr tt
decide (q ∷ rules) f = decide_by q rules f (fits q f) refl (decide rules f)

-- ---- what it decides

abbrev IsRefused : List Rule → Facts → Type 0
IsRefused rules f = ((name : List ℕ) × IsDeniedBy rules f name) ⊎ NoRuleFits rules f

allowed_is : (rules : List Rule) (f : Facts) → (is : IsAllowed rules f) → verdict_of rules f ≡ allowed is.rule.name
allowed_is rules f is = decided rules is.rule f is.is_first_to_fit ∙ ap (λ b. cond b (allowed is.rule.name) (denied is.rule.name)) is.rule_allows

denied_is : (rules : List Rule) (f : Facts) (name : List ℕ) → IsDeniedBy rules f name → verdict_of rules f ≡ denied name
denied_is rules f name is = decided rules is.rule f is.is_first_to_fit
    ∙ ap (λ b. cond b (allowed is.rule.name) (denied is.rule.name)) is.rule_denies ∙ ap denied is.name_is

by_effect : (rules : List Rule) (f : Facts) (r : Rule) (b : Bool) → r.allows ≡ b → IsFirstToFit rules f r → IsAllowed rules f ⊎ IsRefused rules f
by_effect rules f r true is first = inl (record { rule = r; is_first_to_fit = first; rule_allows = is })
by_effect rules f r false is first = inr (inl (r.name, record { rule = r; is_first_to_fit = first; rule_denies = is; name_is = refl }))

by_decision : (rules : List Rule) (f : Facts) → Decision rules f → IsAllowed rules f ⊎ IsRefused rules f
by_decision rules f (inl (r, first)) = by_effect rules f r r.allows refl first
by_decision rules f (inr none) = inr (inr none)

refused_is : (rules : List Rule) (f : Facts) → IsRefused rules f → (name : List ℕ) × (verdict_of rules f ≡ denied name)
refused_is rules f (inl (name, is)) = (name, denied_is rules f name is)
refused_is rules f (inr none) = (codes "default", undecided rules f none)

-- ---- the view

module _ (archive : Archive) (ask : Ask) (m : Message) where
  shown_by : (is : IsAllowed ask.rules (facts_on archive ask m) ⊎ IsRefused ask.rules (facts_on archive ask m))
      → is_shown ask (reader_facts archive ask) m ≡ true → IsAllowed ask.rules (facts_on archive ask m)
  unfolding ruling_on
  shown_by (inl is) h = is
  shown_by (inr denial) h = absurd (true≢false (sym h ∙ ap is_allowed_ruling (refused_is ask.rules (facts_on archive ask m) denial).1))

  pub shown_exactly : (is_shown ask (reader_facts archive ask) m ≡ true) ↔ IsAllowed ask.rules (facts_on archive ask m)
  unfolding ruling_on
  shown_exactly = (
    shown_by (by_decision ask.rules (facts_on archive ask m) (decide ask.rules (facts_on archive ask m))),
    (λ is. ap is_allowed_ruling (allowed_is ask.rules (facts_on archive ask m) is)),
  )

-- ---- one message

module _ (archive : Archive) (rules : List Rule) (day : ℤ) (head : RequestHead) where
  module _ (reader : Option (List ℕ)) (list key : List ℕ) where
    abbrev ask : Ask
    ask = ask_of_reader rules day reader list

    of_message : AsksForMessage archive head reader list key → reply_of archive rules day head ≡ lookup_reply (asked_for_key archive ask key)
    of_message it = routed archive rules day head reader (message list key) it.asks_for
        ∙ ap (λ b. cond b (reply_by_key archive ask key) not_found) it.list_exists
        ∙ ap (λ b. cond b (lookup_reply (asked_for_key archive ask key)) not_found) it.key_is_valid

    held_reply : AsksForMessage archive head reader list key → (m : Message) → message_of archive list key ≡ Some m
        → reply_of archive rules day head ≡ lookup_reply (asked_under_ruling m (verdict_of rules (facts_on archive ask m)))
    unfolding ruling_on
    held_reply it m held = of_message it ∙ ap (λ o. lookup_reply (asked_of_message ask (reader_facts archive ask) o)) held

    served_whole : AsksForMessage archive head reader list key → (m : Message) → message_of archive list key ≡ Some m
        → IsAllowed rules (facts_on archive ask m) → reply_of archive rules day head ≡ message_reply m.text
    served_whole it m held is = held_reply it m held ∙ ap (λ v. lookup_reply (asked_under_ruling m v)) (allowed_is rules (facts_on archive ask m) is)

    denied_by_name : (name : List ℕ) → AsksForMessage archive head reader list key → HoldsMessageWithFacts archive ask key (λ f. IsDeniedBy rules f name)
        → reply_of archive rules day head ≡ forbidden name
    denied_by_name name it (m, held, is) = held_reply it m held ∙ ap (λ v. lookup_reply (asked_under_ruling m v)) (denied_is rules (facts_on archive ask m) name is)

    denied_by_default : AsksForMessage archive head reader list key → HoldsMessageWithFacts archive ask key (NoRuleFits rules)
        → reply_of archive rules day head ≡ forbidden (codes "default")
    denied_by_default it (m, held, is) = held_reply it m held ∙ ap (λ v. lookup_reply (asked_under_ruling m v)) (undecided rules (facts_on archive ask m) is)

    -- what the list holds decides between 200, 403 and 404
    on_200 : AsksForMessage archive head reader list key → (m : Message) → message_of archive list key ≡ Some m
        → (IsAllowed rules (facts_on archive ask m) ⊎ IsRefused rules (facts_on archive ask m)) → (reply_of archive rules day head).status ≡ 200
        → HoldsMessageWithFacts archive ask key (IsAllowed rules)
    on_200 it m held (inl is) status = (m, held, is)
    on_200 it m held (inr denial) status =
        let name = refused_is rules (facts_on archive ask m) denial in
        let reply = held_reply it m held ∙ ap (λ v. lookup_reply (asked_under_ruling m v)) name.1 in
        absurd (true≢false (ap (λ (n : ℕ). n == 200) (sym status) ∙ ap (λ (r : Reply). r.status == 200) reply))

    by_held : AsksForMessage archive head reader list key → (o : Option Message) → message_of archive list key ≡ o → (reply_of archive rules day head).status ≡ 200
        → HoldsMessageWithFacts archive ask key (IsAllowed rules)
    by_held it (Some m) held status = on_200 it m held (by_decision rules (facts_on archive ask m) (decide rules (facts_on archive ask m))) status
    by_held it None held status =
        let reply = of_message it ∙ ap (λ o. lookup_reply (asked_of_message ask (reader_facts archive ask) o)) held in
        absurd (true≢false (sym (ap (λ (r : Reply). r.status == 200) (sym reply) ∙ ap (λ (n : ℕ). n == 200) status)))

    served_exactly : AsksForMessage archive head reader list key → ((reply_of archive rules day head).status ≡ 200) ↔ HoldsMessageWithFacts archive ask key (IsAllowed rules)
    served_exactly it = (
      by_held it (message_of archive list key) refl,
      (λ (m, held, is). ap (λ (r : Reply). r.status) (served_whole it m held is)),
    )

  pub serves : ServesWhatIsAllowed archive rules day head
  serves = record { served_iff_allowed = served_exactly; serves_message = served_whole }

  -- ---- 403

  abbrev Denies : Type 0
  Denies = (reader : Option (List ℕ)) × (list : List ℕ) × (key : List ℕ) × AsksForMessage archive head reader list key
      × HoldsMessageWithFacts archive (ask_of_reader rules day reader list) key (IsRefused rules)

  -- another status is not 403
  other : (n : ℕ) → (n == 403) ≡ false → n ≡ 403 → Denies
  other n differs is = absurd (true≢false (sym (ap (λ (m : ℕ). m == 403) is) ∙ differs))

  module _ (reader : Option (List ℕ)) (list key : List ℕ) (it : AsksForMessage archive head reader list key) where
    by_verdict : (m : Message) → message_of archive list key ≡ Some m
        → (IsAllowed rules (facts_on archive (ask_of_reader rules day reader list) m) ⊎ IsRefused rules (facts_on archive (ask_of_reader rules day reader list) m))
        → (lookup_reply (asked_under_ruling m (verdict_of rules (facts_on archive (ask_of_reader rules day reader list) m)))).status ≡ 403 → Denies
    by_verdict m held (inl is) status =
        other 200 refl (sym (ap (λ v. (lookup_reply (asked_under_ruling m v)).status) (allowed_is rules (facts_on archive (ask_of_reader rules day reader list) m) is)) ∙ status)
    by_verdict m held (inr denial) status = (reader, list, key, it, (m, held, denial))

    by_message : (o : Option Message) → message_of archive list key ≡ o
        → (lookup_reply (asked_of_message (ask_of_reader rules day reader list) (reader_facts archive (ask_of_reader rules day reader list)) o)).status ≡ 403 → Denies
    unfolding ruling_on
    by_message None held status = other 404 refl status
    by_message (Some m) held status = by_verdict m held
        (by_decision rules (facts_on archive (ask_of_reader rules day reader list) m) (decide rules (facts_on archive (ask_of_reader rules day reader list) m))) status

  module _ (reader : Option (List ℕ)) where
    by_key : (list key : List ℕ) → AsksFor archive head reader (message list key) → has_list archive list ≡ true → (b : Bool) → is_key key ≡ b
        → (cond b (lookup_reply (asked_for_key archive (ask_of_reader rules day reader list) key)) not_found).status ≡ 403 → Denies
    by_key list key asked listed false keyed status = other 404 refl status
    by_key list key asked listed true keyed status =
        by_message reader list key (record { asks_for = asked; list_exists = listed; key_is_valid = keyed }) (message_of archive list key) refl status

    by_list : (list key : List ℕ) → AsksFor archive head reader (message list key) → (b : Bool) → has_list archive list ≡ b
        → (cond b (reply_by_key archive (ask_of_reader rules day reader list) key) not_found).status ≡ 403 → Denies
    by_list list key asked false listed status = other 404 refl status
    by_list list key asked true listed status = by_key list key asked listed (is_key key) refl status

    by_month : (list : List ℕ) (view : List ShownMessage) (o : Option ℕ)
        → (option_map_or (λ m. page_reply (month_page list m (month_lines m view))) o not_found).status ≡ 403 → Denies
    by_month list view None status = other 404 refl status
    by_month list view (Some m) status = other 200 refl status

    by_rows : (list : List ℕ) (o : Option (List TreeLine)) → (option_map_or (λ rows. page_reply (thread_page list rows)) o not_found).status ≡ 403 → Denies
    by_rows list None status = other 404 refl status
    by_rows list (Some rows) status = other 200 refl status

    in_list : (b : Bool) (made : Reply) → (made.status ≡ 403 → Denies) → (cond b made not_found).status ≡ 403 → Denies
    in_list false made says status = other 404 refl status
    in_list true made says status = says status

    by_route : (route : Route) → AsksFor archive head reader route → (route_reply archive (ask_of_reader rules day reader) route).status ≡ 403 → Denies
    by_route lists asked status = other 200 refl status
    by_route (message list key) asked status = by_list list key asked (has_list archive list) refl status
    by_route (month list text) asked status = in_list (has_list archive list) _ (by_month list (shown_view archive (ask_of_reader rules day reader list)) (month_of_text text)) status
    by_route (threads list) asked status = in_list (has_list archive list) _ (other 200 refl) status
    by_route (thread list key) asked status = in_list (has_list archive list) _
        (by_rows list (cond (is_key key) (thread_lines (merge_of archive list) key (shown_view archive (ask_of_reader rules day reader list))) None)) status
    by_route (author list key) asked status = in_list (has_list archive list) _ (other 200 refl) status
    by_route (mbox list) asked status = in_list (has_list archive list) _ (other 200 refl) status

  module _ (token : Option (List ℕ)) (path : List ℕ) (request : request_of head ≡ asks token path) where
    by_found : (reader : Option (List ℕ)) → reader_of archive token ≡ Some reader → (o : Option Route) → route_of path ≡ o
        → (option_map_or (route_reply archive (ask_of_reader rules day reader)) o not_found).status ≡ 403 → Denies
    by_found reader who None found status = other 404 refl status
    by_found reader who (Some route) found status =
        by_route reader route (record { token = token; path = path; request_is = request; reader_is = who; route_is = found }) status

    by_reader : (o : Option (Option (List ℕ))) → reader_of archive token ≡ o
        → (option_map_or (path_reply archive rules day path) o unauthorized).status ≡ 403 → Denies
    by_reader None who status = other 401 refl status
    by_reader (Some reader) who status = by_found reader who (route_of path) refl status

  by_request : (request : Request) → request_of head ≡ request → (request_reply archive rules day request).status ≡ 403 → Denies
  by_request bad is status = other 400 refl status
  by_request other_method is status = other 405 refl status
  by_request no_token is status = other 401 refl status
  by_request (asks token path) is status = by_reader token path is (reader_of archive token) refl status

  is_denied : Denies → (reply_of archive rules day head).status ≡ 403
  is_denied (reader, list, key, it, (m, held, denial)) =
      ap (λ (r : Reply). r.status) (held_reply reader list key it m held)
      ∙ ap (λ v. (lookup_reply (asked_under_ruling m v)).status) (refused_is rules (facts_on archive (ask_of_reader rules day reader list) m) denial).1

  pub denies : DeniesWhatIsDenied archive rules day head
  denies = record {
    denied_iff_403 = (by_request (request_of head) refl, is_denied);
    names_first_rule = λ reader list key name it held. denied_by_name reader list key name it held;
    names_default = λ reader list key it held. denied_by_default reader list key it held;
  }

  -- ---- listings

  on_list : (reader : Option (List ℕ)) (list : List ℕ) (route : Route) (made : Reply) → AsksFor archive head reader route → has_list archive list ≡ true
      → route_reply archive (ask_of_reader rules day reader) route ≡ reply_if_list_exists archive list made → reply_of archive rules day head ≡ made
  on_list reader list route made asked listed is =
      routed archive rules day head reader route asked ∙ is ∙ ap (λ b. cond b made not_found) listed

  pub shows : ShowsWhatIsAllowed archive rules day head
  shows = record {
    view = shown_exactly archive;
    of_month = λ reader list text m asked listed month.
        on_list reader list _ _ asked listed refl
        ∙ ap (λ o. option_map_or (λ n. page_reply (month_page list n (month_lines n (shown_view archive (ask_of_reader rules day reader list))))) o not_found) month;
    of_author = λ reader list key asked listed. on_list reader list _ _ asked listed refl;
    of_threads = λ reader list asked listed. on_list reader list _ _ asked listed refl;
    of_thread = λ reader list key rows asked listed keyed found.
        on_list reader list _ _ asked listed refl
        ∙ ap (λ b. option_map_or (λ rs. page_reply (thread_page list rs)) (cond b (thread_lines (merge_of archive list) key (shown_view archive (ask_of_reader rules day reader list))) None)
        not_found) keyed
        ∙ ap (λ o. option_map_or (λ rs. page_reply (thread_page list rs)) o not_found) found;
    of_mbox = λ reader list asked listed. on_list reader list _ _ asked listed refl;
  }
