-- Why all that is seen can be asked for.
use Rattle.std.proofs.Common.{◌≡◌, ◌≢◌, ◌∙◌, ℕ, ℤ, ◌==◌, List, [], ◌∷◌, ◌++◌, length, flat_map, find, bytes_eq, Bool}
use Rattle.std.proofs.Common.{true, false, ◌||◌, cond, Option, Some, None, option_map, refl, sym, ap, subst, arith, codes}
use Rattle.std.specs.List.{All, list_any}
use Rattle.std.specs.Option.{option_map_or}
use Rattle.http.specs.StatusCode.{status_text}
use Rattle.std.proofs.lemmas.Bool.{true≢false}
use Rattle.std.proofs.lemmas.Bool.Decides.{nat_tests}
use Rattle.std.proofs.lemmas.List.{append_cancel_left, append_cancel_right}
use Rattle.std.proofs.lemmas.List.Elements.{All-nil, All-head, All-tail, All-weaker}
use Rattle.std.proofs.lemmas.List.Folds.{flat_map-map}
use Rattle.std.proofs.lemmas.List.Sorted.{list_any-IsPermutation}
use Rattle.std.proofs.lemmas.Slice.Eq.{bytes_eq-Decides}
use Rattle.policy_core.specs.Names.{is_name}
use Rattle.policy_core.specs.Rules.{Rule}
use Rattle.thread_core.specs.declared.row.Row.{Row}
use Rattle.archive_model.specs.Records.{Archive, Person, Address}
use Rattle.archive_model.specs.Addresses.{is_address}
use Rattle.archive_model.specs.Sound.{HaveDistinctNames, IsSoundMessage, grant_identity, message_identity}
use Rattle.archive_tables.specs.Making.{empty_archive}
use Rattle.archive_model.specs.Keys.{is_key}
use Rattle.archive_model.specs.Questions.{has_list, list_names, merge_of}
use Rattle.archive_model.specs.BearerTokens.{is_token}
use Rattle.archive_model.proofs.OrderLemmas.{are_names}
use Rattle.archive_results.specs.Access.{Ask, Asked, served, denied_by, absent, asked_for_key, is_shown, reader_facts}
use Rattle.archive_results.specs.Shown.{ShownMessage}
use Rattle.archive_results.specs.Results.{tree_line, lines_of, thread_rows_of, tree_lines, export_text}
use Rattle.archive_html.specs.Rows.{tree_row}
use Rattle.archive_html.specs.Pages.{lists_page, threads_page, page_head, page_foot, list_title}
use Rattle.archive_requests.specs.Requests.{asks, request_of, path_of}
use Rattle.archive_requests.specs.Routes.{Route, lists, message, threads, mbox, route_of}
use Rattle.archive_pages.specs.Replies.{Reply, page_reply, mbox_reply, not_found, unauthorized}
use Rattle.archive_pages.specs.Answers.{reader_of, ask_of_reader, shown_view, lookup_reply, reply_by_key, route_reply, path_reply, request_reply}
use Rattle.archive_laws.specs.Seen.{is_denied, visibility_of_asked, visibility_of_key, depth_limited_rows, visible_list, archive_visible_to, archive_visible_by_token, token_of_request, reply_from}
use Rattle.archive_laws.specs.Telling.{get_request, IsWellFormedArchive, AreAnsweredAlike, RepliesRevealAllVisible}
use Rattle.archive_laws.proofs.SeenLemmas.{of_what_is_seen, row_texts}
use Rattle.archive_laws.proofs.AskingLemmas.{IsAsking, asked, mbox_path, mbox_routed, threads_path, threads_routed, message_path, message_routed}
use Rattle.archive_laws.proofs.SentLemmas.{IsSendable, sent, root_sendable, path_sendable, mbox_sendable, threads_sendable, key_sendable}
use Rattle.archive_laws.proofs.NamesLemmas.{IsName, all_in_order, page_tells_names}
use Rattle.archive_laws.proofs.MailsLemmas.{IsSoundShown, all_sound, mbox_tells_view}
use Rattle.archive_laws.proofs.LineLemmas.{IsLine, key_line, key_length, name_line}
use Rattle.archive_laws.proofs.ApartLemmas.{keys_apart, one_place}
use Rattle.archive_laws.proofs.RowsLemmas.{nothing, EachPlaceOnce, rows_are, rows_alike}

-- ---- names and tokens

names_alike : (a b : Archive) → IsWellFormedArchive a → IsWellFormedArchive b → lists_page (list_names a) ≡ lists_page (list_names b) → list_names a ≡ list_names b
names_alike a b ha hb e = page_tells_names (list_names a) (list_names b) (all_in_order a.lists ha.has_valid_names.lists) (all_in_order b.lists hb.has_valid_names.lists) e

lists_alike : (a b : Archive) → list_names a ≡ list_names b → (name : List ℕ) → has_list a name ≡ has_list b name
lists_alike a b same name =
    list_any-IsPermutation (λ known. bytes_eq known name) a.lists (list_names a) (are_names a).is_permutation
    ∙ ap (list_any (λ known. bytes_eq known name)) same
    ∙ sym (list_any-IsPermutation (λ known. bytes_eq known name) b.lists (list_names b) (are_names b).is_permutation)

name_known : (names : List (List ℕ)) → All IsName names → (name : List ℕ) → list_any (λ known. bytes_eq known name) names ≡ true → IsName name
name_known [] all name h = absurd (true≢false (sym h))
name_known (known ∷ names) all name h = by (bytes_eq known name) refl h (name_known names (All-tail IsName known names all) name)
  where
    by : (t : Bool) → bytes_eq known name ≡ t → (t || list_any (λ other. bytes_eq other name) names) ≡ true
        → (list_any (λ other. bytes_eq other name) names ≡ true → IsName name) → IsName name
    by true e g later = subst IsName ((bytes_eq-Decides known name).0 e) (All-head IsName known names all)
    by false e g later = later g

abbrev HasToken : Person → Type 0
HasToken p = is_token p.token ≡ true

nobody_by : (persons : List Person) → All HasToken persons → (t : List ℕ) → is_token t ≡ false → find (λ p. bytes_eq p.token t) persons ≡ None
nobody_by [] all t other = refl
nobody_by (p ∷ persons) all t other = by (bytes_eq p.token t) refl (nobody_by persons (All-tail HasToken p persons all) t other)
  where
    by : (v : Bool) → bytes_eq p.token t ≡ v → find (λ q. bytes_eq q.token t) persons ≡ None
        → cond v (Some p) (find (λ q. bytes_eq q.token t) persons) ≡ None
    by true e later =
        absurd (true≢false (sym (All-head HasToken p persons all) ∙ ap is_token ((bytes_eq-Decides p.token t).0 e) ∙ other))
    by false e later = later

-- ---- what is told of a key

differ : (m n : ℕ) → (m == n) ≡ false → m ≢ n
differ m n other same = grind (arith, nat_tests, other, same)

abbrev status : Reply → ℕ
status r = r.status

told_alike : (x y : Asked) → lookup_reply x ≡ lookup_reply y → visibility_of_asked x ≡ visibility_of_asked y
told_alike (served s) (served t) e = refl
told_alike (served s) (denied_by r) e = absurd (differ 200 403 refl (ap status e))
told_alike (served s) absent e = absurd (differ 200 404 refl (ap status e))
told_alike (denied_by r) (served t) e = absurd (differ 403 200 refl (ap status e))
told_alike (denied_by r) (denied_by q) e =
    ap is_denied (append_cancel_left (status_text 403 ++ codes ": ") r q
    (append_cancel_right (status_text 403 ++ codes ": " ++ r) (status_text 403 ++ codes ": " ++ q) (codes "\n") (ap (λ (reply : Reply). reply.body) e)))
told_alike (denied_by r) absent e = absurd (differ 403 404 refl (ap status e))
told_alike absent (served t) e = absurd (differ 404 200 refl (ap status e))
told_alike absent (denied_by q) e = absurd (differ 404 403 refl (ap status e))
told_alike absent absent e = refl

-- ---- a request for a path

reply_at : (archive : Archive) (rules : List Rule) (day : ℤ) (reader : Option (List ℕ)) (token : Option (List ℕ)) (path : List ℕ) (route : Route)
    → reader_of archive token ≡ Some reader → route_of path ≡ Some route
    → request_reply archive rules day (asks token path) ≡ route_reply archive (ask_of_reader rules day reader) route
reply_at archive rules day reader token path route who routed =
    ap (λ o. option_map_or (path_reply archive rules day path) o unauthorized) who
    ∙ ap (λ o. option_map_or (route_reply archive (ask_of_reader rules day reader)) o not_found) routed

unknown_at : (archive : Archive) (rules : List Rule) (day : ℤ) (token : Option (List ℕ)) (path : List ℕ) → reader_of archive token ≡ None
    → request_reply archive rules day (asks token path) ≡ unauthorized
unknown_at archive rules day token path who = ap (λ o. option_map_or (path_reply archive rules day path) o unauthorized) who

-- ---- what is seen of a list

module _ (each : EachPlaceOnce) (a b : Archive) (ha : IsWellFormedArchive a) (hb : IsWellFormedArchive b) (rules : List Rule) (day : ℤ) (x y : Option (List ℕ)) where
  abbrev of_a : List ℕ → Ask
  of_a name = ask_of_reader rules day x name

  abbrev of_b : List ℕ → Ask
  of_b name = ask_of_reader rules day y name

  abbrev Same : Route → Type 0
  Same route = route_reply a of_a route ≡ route_reply b of_b route

  module _ (name : List ℕ) (is : IsName name) (in_a : has_list a name ≡ true) (in_b : has_list b name ≡ true) where
    -- the list is there in both
    there : (r s : Reply) → cond (has_list a name) r not_found ≡ cond (has_list b name) s not_found → r ≡ s
    there r s e = sym (ap (λ t. cond t r not_found) in_a) ∙ e ∙ ap (λ t. cond t s not_found) in_b

    abbrev view_a : List ShownMessage
    view_a = shown_view a (of_a name)

    abbrev view_b : List ShownMessage
    view_b = shown_view b (of_b name)

    views_alike : Same (mbox name) → view_a ≡ view_b
    views_alike same =
        mbox_tells_view view_a view_b (all_sound a (of_a name) ha.messages_are_sound) (all_sound b (of_b name) hb.messages_are_sound)
        (ap (λ (r : Reply). r.body) (there (mbox_reply (export_text view_a)) (mbox_reply (export_text view_b)) same))

    keyed : All (λ (s : ShownMessage). IsLine s.key × (length s.key ≡ 64)) view_a
    keyed = All-weaker IsSoundShown (λ s. IsLine s.key × (length s.key ≡ 64))
        (λ s sound. (subst IsLine (sym sound.key) (key_line s.item.text), ap (λ (k : List ℕ). length k) sound.key ∙ key_length s.item.text))
        view_a (all_sound a (of_a name) ha.messages_are_sound)

    text_of : List ShownMessage → Row → List ℕ
    text_of view r = tree_row name (tree_line (lines_of view) r)

    texts : (merge : Bool) (view : List ShownMessage) → flat_map (tree_row name) (tree_lines merge view) ≡ flat_map (text_of view) (depth_limited_rows merge view)
    unfolding text_of
    texts merge view =
        sym (row_texts name (lines_of view) (thread_rows_of merge view)) ∙ flat_map-map (tree_row name) (tree_line (lines_of view)) (depth_limited_rows merge view)

    page_text : (v w : Bool) (p q : List ShownMessage) → threads_page name (tree_lines v p) ≡ threads_page name (tree_lines w q)
        → flat_map (tree_row name) (tree_lines v p) ≡ flat_map (tree_row name) (tree_lines w q)
    page_text v w p q e =
        append_cancel_right (flat_map (tree_row name) (tree_lines v p)) (flat_map (tree_row name) (tree_lines w q)) page_foot
        (append_cancel_left (page_head (list_title name (codes "threads"))) (flat_map (tree_row name) (tree_lines v p) ++ page_foot) (flat_map (tree_row name) (tree_lines w q) ++ page_foot) e)

    abbrev merge_a : Bool
    merge_a = merge_of a name

    abbrev merge_b : Bool
    merge_b = merge_of b name

    rows_of_one : (v w : Bool) → flat_map (text_of view_a) (depth_limited_rows v view_a) ≡ flat_map (text_of view_a) (depth_limited_rows w view_a)
        → depth_limited_rows v view_a ≡ depth_limited_rows w view_a
    unfolding text_of
    rows_of_one v w e =
        rows_alike name (name_line name is) view_a keyed
        (one_place view_a nothing (keys_apart name (is_shown (of_a name) (reader_facts a (of_a name))) a.messages ha.names_are_unique.messages))
        (depth_limited_rows v view_a) (depth_limited_rows w view_a) (rows_are each v view_a) (rows_are each w view_a) e

    threads_alike : view_a ≡ view_b → Same (threads name) → depth_limited_rows merge_a view_a ≡ depth_limited_rows merge_b view_b
    threads_alike same e =
        let pages : threads_page name (tree_lines merge_a view_a) ≡ threads_page name (tree_lines merge_b view_a) =
        ap (λ (r : Reply). r.body) (there (page_reply (threads_page name (tree_lines merge_a view_a))) (page_reply (threads_page name (tree_lines merge_b view_b))) e)
        ∙ ap (λ view. threads_page name (tree_lines merge_b view)) (sym same) in
        rows_of_one merge_a merge_b (sym (texts merge_a view_a) ∙ page_text merge_a merge_b view_a view_a pages ∙ texts merge_b view_a)
        ∙ ap (depth_limited_rows merge_b) same

    key_alike : (key : List ℕ) → ((keyed : is_key key ≡ true) → Same (message name key)) → visibility_of_key a (of_a name) key ≡ visibility_of_key b (of_b name) key
    key_alike key same = by (is_key key) refl
      where
        asked_a : Asked
        asked_a = asked_for_key a (of_a name) key

        by : (t : Bool) → is_key key ≡ t → visibility_of_key a (of_a name) key ≡ visibility_of_key b (of_b name) key
        by false e = rw e refl
        by true e =
            let replies : reply_by_key a (of_a name) key ≡ reply_by_key b (of_b name) key = there (reply_by_key a (of_a name) key) (reply_by_key b (of_b name) key) (same e) in
            let asked : lookup_reply (asked_for_key a (of_a name) key) ≡ lookup_reply (asked_for_key b (of_b name) key) =
            sym (ap (λ t. cond t (lookup_reply (asked_for_key a (of_a name) key)) not_found) e) ∙ replies ∙ ap (λ t. cond t (lookup_reply (asked_for_key b (of_b name) key)) not_found) e in
            rw e (told_alike (asked_for_key a (of_a name) key) (asked_for_key b (of_b name) key) asked)

    list_alike : Same (mbox name) → Same (threads name) → ((key : List ℕ) → is_key key ≡ true → Same (message name key)) → visible_list a (of_a name) ≡ visible_list b (of_b name)
    list_alike mails trees keys =
        let same = views_alike mails in
        let rows = threads_alike same trees in
        λ i. record { shown = same i; rows = rows i; visibility = λ key. key_alike key (keys key) i }

  -- the names of the lists, and each list
  by_alike : (token : Option (List ℕ)) → IsAsking token → AreAnsweredAlike rules day token a b → reader_of a token ≡ Some x → reader_of b token ≡ Some y
      → archive_visible_to a rules day x ≡ archive_visible_to b rules day y
  by_alike token is alike who_a who_b = λ i. record { names = names i; of = λ name. of name i }
    where
      -- the replies at a path whose route is known
      at : (path : List ℕ) (route : Route) → IsSendable path → path_of (47 ∷ path) ≡ 47 ∷ path → route_of (47 ∷ path) ≡ Some route → Same route
      at path route can plain routed =
          let request : request_of (get_request token (47 ∷ path)) ≡ asks token (47 ∷ path) = asked token is path plain in
          sym (reply_at a rules day x token (47 ∷ path) route who_a routed)
          ∙ ap (request_reply a rules day) (sym request)
          ∙ alike (get_request token (47 ∷ path)) (sent token is path can) (ap token_of_request request)
          ∙ ap (request_reply b rules day) request
          ∙ reply_at b rules day y token (47 ∷ path) route who_b routed

      names : list_names a ≡ list_names b
      names = names_alike a b ha hb (ap (λ (r : Reply). r.body) (at [] lists root_sendable refl refl))

      listed : (name : List ℕ) → has_list a name ≡ true → visible_list a (of_a name) ≡ visible_list b (of_b name)
      listed name in_a =
          let is : IsName name = name_known a.lists ha.has_valid_names.lists name in_a in
          list_alike name is in_a (sym (lists_alike a b names name) ∙ in_a)
          (at (codes "l/" ++ (name ++ codes "/mbox")) (mbox name) (path_sendable name is (codes "/mbox") mbox_sendable) (mbox_path name is) (mbox_routed name is))
          (at (codes "l/" ++ (name ++ codes "/threads")) (threads name) (path_sendable name is (codes "/threads") threads_sendable) (threads_path name is) (threads_routed name is))
          (λ key keyed. at (codes "l/" ++ (name ++ (codes "/m/" ++ key))) (message name key) (path_sendable name is (codes "/m/" ++ key) (key_sendable key keyed))
          (message_path name is key keyed) (message_routed name is key keyed))

      by : (name : List ℕ) (t : Bool) → has_list a name ≡ t → (archive_visible_to a rules day x).of name ≡ (archive_visible_to b rules day y).of name
      by name true e = rw (e, sym (lists_alike a b names name) ∙ e) (ap Some (listed name e))
      by name false e = rw (e, sym (lists_alike a b names name) ∙ e) refl

      of : (name : List ℕ) → (archive_visible_to a rules day x).of name ≡ (archive_visible_to b rules day y).of name
      of name = by name (has_list a name) refl

-- ---- by any token

module _ (each : EachPlaceOnce) (a b : Archive) (rules : List Rule) (day : ℤ) (token : Option (List ℕ)) (ha : IsWellFormedArchive a) (hb : IsWellFormedArchive b) where
  module _ (is : IsAsking token) (alike : AreAnsweredAlike rules day token a b) where
    request : request_of (get_request token (codes "/")) ≡ asks token (codes "/")
    request = asked token is [] refl

    at_root : request_reply a rules day (asks token (codes "/")) ≡ request_reply b rules day (asks token (codes "/"))
    at_root = ap (request_reply a rules day) (sym request) ∙ alike (get_request token (codes "/")) (sent token is [] root_sendable) (ap token_of_request request)
        ∙ ap (request_reply b rules day) request

    by_readers : (o u : Option (Option (List ℕ))) → reader_of a token ≡ o → reader_of b token ≡ u
        → option_map (archive_visible_to a rules day) o ≡ option_map (archive_visible_to b rules day) u
    by_readers None None who_a who_b = refl
    by_readers None (Some y) who_a who_b = absurd (differ 401 200 refl
        (ap status (sym (unknown_at a rules day token (codes "/") who_a) ∙ at_root ∙ reply_at b rules day y token (codes "/") lists who_b refl)))
    by_readers (Some x) None who_a who_b = absurd (differ 200 401 refl
        (ap status (sym (reply_at a rules day x token (codes "/") lists who_a refl) ∙ at_root ∙ unknown_at b rules day token (codes "/") who_b)))
    by_readers (Some x) (Some y) who_a who_b = ap Some (by_alike each a b ha hb rules day x y token is alike who_a who_b)

  -- a text that is no token is nobody's
  by_token : (o : Option (List ℕ)) → token ≡ o → AreAnsweredAlike rules day token a b → archive_visible_by_token a rules day token ≡ archive_visible_by_token b rules day token
  by_token None none alike = by_readers (subst IsAsking (sym none) tt) alike (reader_of a token) (reader_of b token) refl refl
  by_token (Some t) some alike = by (is_token t) refl
    where
      nobody : (archive : Archive) → IsWellFormedArchive archive → is_token t ≡ false → archive_visible_by_token archive rules day token ≡ None
      nobody archive h other =
          ap (archive_visible_by_token archive rules day) some
          ∙ ap (λ o. option_map (archive_visible_to archive rules day) (option_map Some (option_map (λ (p : Person). p.name) o))) (nobody_by archive.persons h.has_valid_names.tokens t other)

      by : (v : Bool) → is_token t ≡ v → archive_visible_by_token a rules day token ≡ archive_visible_by_token b rules day token
      by true e = by_readers (subst IsAsking (sym some) e) alike (reader_of a token) (reader_of b token) refl refl
      by false e = nobody a ha e ∙ sym (nobody b hb e)

  -- and where the same is seen, the replies are the same
  from_seen : archive_visible_by_token a rules day token ≡ archive_visible_by_token b rules day token → AreAnsweredAlike rules day token a b
  from_seen same head can by_it =
      of_what_is_seen a rules day head
      ∙ ap (λ s. reply_from s head) (ap (archive_visible_by_token a rules day) by_it ∙ same ∙ ap (archive_visible_by_token b rules day) (sym by_it))
      ∙ sym (of_what_is_seen b rules day head)

pub tells : EachPlaceOnce → RepliesRevealAllVisible
tells each a b rules day token ha hb = (by_token each a b rules day token ha hb token refl, from_seen each a b rules day token ha hb)

-- ---- the empty archive

none_alike : {X N : Type 0} (name : X → N) → HaveDistinctNames name []
none_alike name = λ i j d before within. absurd (omega (arith, within))

pub empty_in_order : IsWellFormedArchive empty_archive
empty_in_order = record {
  messages_are_sound = All-nil IsSoundMessage;
  names_are_unique = record {
    lists = none_alike (λ (list : List ℕ). list);
    persons = none_alike (λ (p : Person). p.name);
    tokens = none_alike (λ (p : Person). p.token);
    grants = none_alike grant_identity;
    messages = none_alike message_identity;
    addresses = none_alike (λ (a : Address). a.person);
  };
  has_valid_names = record {
    lists = All-nil IsName;
    persons = All-nil (λ (p : Person). is_name p.name ≡ true);
    tokens = All-nil HasToken;
    addresses = All-nil (λ (a : Address). is_address a.address ≡ true);
  };
}
