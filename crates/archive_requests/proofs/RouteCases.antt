-- Every path, by the routes.
use Rattle.std.proofs.Common.{◌≡◌, ℕ, ◌<◌, List, [], ◌∷◌, ◌++◌, drop, Option, Some, None, Bool, true, false, cond, refl, sym, ap, subst, ◌∙◌, bytes_eq, codes}
use Rattle.std.proofs.lemmas.Slice.Eq.{bytes_eq-Decides}
use Rattle.percent_encoding.specs.Percent.{percent_decode}
use Rattle.matchit.specs.Rows.{RowsOf}
use Rattle.matchit.specs.Seek.{own, step, seek, first, has_slash}
use Rattle.archive_requests.specs.Routes.{Route, lists, message, month, threads, thread, author, mbox, segments, some_if_nonempty, list_route, route_of_segments, route_of}
use Rattle.archive_requests.proofs.SegmentLemmas.{Cut, whole, parted, cut, segments-whole, segments-parted, slash-parted}
use Rattle.archive_requests.proofs.WalkLemmas.{AllPlain, at_word, with_param, slashed, seek-empty, word_end, word_cut, after_param, no_param, param_end, last_found, last_cut}

-- each is a byte
abbrev pub AllBytes : List ℕ → Type 0
AllBytes [] = Unit {0}
AllBytes (b ∷ bs) = (b < 256) × AllBytes bs

bytes_after : (w r : List ℕ) → AllBytes (w ++ 47 ∷ r) → AllBytes r
bytes_after [] r h = h.1
bytes_after (b ∷ w) r h = bytes_after w r h.1

-- the path of a list
abbrev pub below : ℕ → List ℕ → List ℕ → List ℕ
below d list rest = 47 ∷ 108 ∷ 47 ∷ d ∷ (list ++ 47 ∷ rest)

module _ {K : Type 0} (k_by k_m k_mbox k_month k_t k_threads k_root : K) where
  -- the rows that follow a list
  abbrev pub rows : RowsOf K
  rows =
      (98 ∷ 121 ∷ 47 ∷ 256 ∷ [], k_by)
      ∷ (109 ∷ 47 ∷ 256 ∷ [], k_m)
      ∷ (109 ∷ 98 ∷ 111 ∷ 120 ∷ [], k_mbox)
      ∷ (109 ∷ 111 ∷ 110 ∷ 116 ∷ 104 ∷ 47 ∷ 256 ∷ [], k_month)
      ∷ (116 ∷ 47 ∷ 256 ∷ [], k_t)
      ∷ (116 ∷ 104 ∷ 114 ∷ 101 ∷ 97 ∷ 100 ∷ 115 ∷ [], k_threads)
      ∷ []

  abbrev under : List ℕ → RowsOf K → RowsOf K
  under w [] = []
  under w ((t, k) ∷ rest) = (w ++ t, k) ∷ under w rest

  abbrev pub all_rows : RowsOf K
  all_rows =
      (codes "/l/" ++ 256 ∷ codes "/by/" ++ 256 ∷ [], k_by)
      ∷ (codes "/l/" ++ 256 ∷ codes "/m/" ++ 256 ∷ [], k_m)
      ∷ (codes "/l/" ++ 256 ∷ codes "/mbox", k_mbox)
      ∷ (codes "/l/" ++ 256 ∷ codes "/month/" ++ 256 ∷ [], k_month)
      ∷ (codes "/l/" ++ 256 ∷ codes "/t/" ++ 256 ∷ [], k_t)
      ∷ (codes "/l/" ++ 256 ∷ codes "/threads", k_threads)
      ∷ (codes "/", k_root)
      ∷ []

  -- a path, the row that a walk finds and the route of the definition
  pub data Case : List ℕ → Option K → Option Route → Type 0 where
    is_none : (path : List ℕ) → Case path None None
    is_root : Case (47 ∷ []) (Some k_root) (Some lists)
    is_threads : (d : ℕ) (list : List ℕ) → has_slash (d ∷ list) ≡ false → Case (below d list (codes "threads")) (Some k_threads) (Some (threads (d ∷ list)))
    is_mbox : (d : ℕ) (list : List ℕ) → has_slash (d ∷ list) ≡ false → Case (below d list (codes "mbox")) (Some k_mbox) (Some (mbox (d ∷ list)))
    is_message : (d : ℕ) (list : List ℕ) (e : ℕ) (key : List ℕ) → has_slash (d ∷ list) ≡ false → has_slash (e ∷ key) ≡ false
        → Case (below d list (109 ∷ 47 ∷ e ∷ key)) (Some k_m) (Some (message (d ∷ list) (e ∷ key)))
    is_month : (d : ℕ) (list : List ℕ) (e : ℕ) (key : List ℕ) → has_slash (d ∷ list) ≡ false → has_slash (e ∷ key) ≡ false
        → Case (below d list (109 ∷ 111 ∷ 110 ∷ 116 ∷ 104 ∷ 47 ∷ e ∷ key)) (Some k_month) (Some (month (d ∷ list) (e ∷ key)))
    is_thread : (d : ℕ) (list : List ℕ) (e : ℕ) (key : List ℕ) → has_slash (d ∷ list) ≡ false → has_slash (e ∷ key) ≡ false
        → Case (below d list (116 ∷ 47 ∷ e ∷ key)) (Some k_t) (Some (thread (d ∷ list) (e ∷ key)))
    is_author : (d : ℕ) (list : List ℕ) (e : ℕ) (key : List ℕ) → has_slash (d ∷ list) ≡ false → has_slash (e ∷ key) ≡ false
        → Case (below d list (98 ∷ 121 ∷ 47 ∷ e ∷ key)) (Some k_by) (Some (author (d ∷ list) (percent_decode (e ∷ key))))

  -- ---- a parameter at the end

  -- a walk and the definition agree on what follows a word that wants a parameter
  module _ (k : K) (path : List ℕ) (make : List ℕ → Route) (listed : List (List ℕ) → Option Route)
      (one : (p : List ℕ) → listed (p ∷ []) ≡ some_if_nonempty p (make p)) (more : (p q : List ℕ) (qs : List (List ℕ)) → listed (p ∷ q ∷ qs) ≡ None) where
    more_parts : (p : List ℕ) (r : List ℕ) → Cut r → listed (p ∷ segments r) ≡ None
    more_parts p _ (whole w h) = ap (λ ws. listed (p ∷ ws)) (segments-whole w h) ∙ more p w []
    more_parts p _ (parted w r h) = ap (λ ws. listed (p ∷ ws)) (segments-parted w r h) ∙ more p w (segments r)

    cut_off : (q : List ℕ) → AllBytes q → has_slash q ≡ true → seek 0 ((256 ∷ [], k) ∷ []) q ≡ None
    unfolding seek
    cut_off [] b h = refl
    cut_off (d ∷ p) b h = last_cut d p k b.0 h

    parameter : (q : List ℕ) → Cut q → AllBytes q → ((e : ℕ) (key : List ℕ) → q ≡ e ∷ key → has_slash (e ∷ key) ≡ false → Case path (Some k) (Some (make (e ∷ key))))
        → Case path (seek 0 ((256 ∷ [], k) ∷ []) q) (listed (segments q))
    unfolding seek
    parameter _ (whole [] h) b found = subst (λ o. Case path None o) (sym (one [])) (is_none path)
    parameter _ (whole (e ∷ key) h) b found =
        rw (last_found e key k b.0 h, segments-whole (e ∷ key) h, one (e ∷ key)) (found e key refl h)
    parameter _ (parted w r h) b found =
        rw (cut_off (w ++ 47 ∷ r) b (slash-parted w r), segments-parted w r h, more_parts w r (cut r)) (is_none path)

  -- ---- the words that follow a list

  abbrev keep : Bool → List ℕ → K → RowsOf K → RowsOf K
  keep a t k rs = cond a ((t, k) ∷ rs) rs

  -- the rows of a word, by the tests of the six words
  abbrev marked : (t_by t_m t_mbox t_month t_t t_threads : Bool) → RowsOf K
  marked t_by t_m t_mbox t_month t_t t_threads =
      keep t_by (47 ∷ 256 ∷ []) k_by (keep t_m (47 ∷ 256 ∷ []) k_m (keep t_mbox [] k_mbox
      (keep t_month (47 ∷ 256 ∷ []) k_month (keep t_t (47 ∷ 256 ∷ []) k_t (keep t_threads [] k_threads [])))))

  own_skip : (a : Bool) (x : ℕ) (t : List ℕ) (k : K) (rs : RowsOf K) → own (keep a (x ∷ t) k rs) ≡ own rs
  own_skip true x t k rs = refl
  own_skip false x t k rs = refl

  no_end : (a b c e : Bool) → own (marked a b false c e false) ≡ None
  no_end a b c e =
      own_skip a 47 (256 ∷ []) k_by (marked false b false c e false) ∙ own_skip b 47 (256 ∷ []) k_m (marked false false false c e false)
      ∙ own_skip c 47 (256 ∷ []) k_month (marked false false false false e false) ∙ own_skip e 47 (256 ∷ []) k_t []

  no_step : (a b : Bool) → step 47 (marked false false a false false b) ≡ []
  no_step true true = refl
  no_step true false = refl
  no_step false true = refl
  no_step false false = refl

  rows_plain : AllPlain rows
  rows_plain = (refl, (refl, (refl, (refl, (refl, (refl, tt))))))

  module _ (d : ℕ) (list : List ℕ) (h : has_slash (d ∷ list) ≡ false) where
    abbrev Ended : List ℕ → Type 0
    Ended w = Case (below d list w) (own (at_word w rows)) (list_route (d ∷ list) (w ∷ []))

    ended : (w : List ℕ) → Ended w
    ended w = by (bytes_eq w (codes "threads")) refl (bytes_eq w (codes "mbox")) refl
      where
        by : (u : Bool) → bytes_eq w (codes "threads") ≡ u → (v : Bool) → bytes_eq w (codes "mbox") ≡ v → Ended w
        by true e v f = subst Ended (sym ((bytes_eq-Decides w (codes "threads")).0 e)) (is_threads d list h)
        by false e true f = subst Ended (sym ((bytes_eq-Decides w (codes "mbox")).0 f)) (is_mbox d list h)
        by false e false f =
            let none = no_end (bytes_eq w (codes "by")) (bytes_eq w (codes "m")) (bytes_eq w (codes "month")) (bytes_eq w (codes "t")) in
            rw (e, f, none) (is_none (below d list w))

    abbrev Parted : List ℕ → List ℕ → Type 0
    Parted q w = Case (below d list (w ++ 47 ∷ q)) (seek 0 (step 47 (at_word w rows)) q) (list_route (d ∷ list) (w ∷ segments q))

    no_route : (w q : List ℕ) → Cut q → bytes_eq w (codes "by") ≡ false → bytes_eq w (codes "m") ≡ false → bytes_eq w (codes "month") ≡ false → bytes_eq w (codes "t") ≡ false
        → list_route (d ∷ list) (w ∷ segments q) ≡ None
    no_route w _ (whole p g) a b c e = rw (segments-whole p g, a, b, c, e) refl
    no_route w _ (parted p r g) a b c e =
        ap (λ ws. list_route (d ∷ list) (w ∷ ws)) (segments-parted p r g) ∙ by r (cut r)
      where
        by : (r : List ℕ) → Cut r → list_route (d ∷ list) (w ∷ p ∷ segments r) ≡ None
        by _ (whole x f) = ap (λ ws. list_route (d ∷ list) (w ∷ p ∷ ws)) (segments-whole x f)
        by _ (parted x y f) = ap (λ ws. list_route (d ∷ list) (w ∷ p ∷ ws)) (segments-parted x y f)

    parted_word : (w q : List ℕ) → AllBytes q → Parted q w
    parted_word w q bytes = by (bytes_eq w (codes "by")) refl (bytes_eq w (codes "m")) refl (bytes_eq w (codes "month")) refl (bytes_eq w (codes "t")) refl
      where
        by : (a : Bool) → bytes_eq w (codes "by") ≡ a → (b : Bool) → bytes_eq w (codes "m") ≡ b
            → (c : Bool) → bytes_eq w (codes "month") ≡ c → (e : Bool) → bytes_eq w (codes "t") ≡ e → Parted q w
        by true a b b' c c' e e' = subst (Parted q) (sym ((bytes_eq-Decides w (codes "by")).0 a))
            (parameter k_by (below d list (98 ∷ 121 ∷ 47 ∷ q)) (λ p. author (d ∷ list) (percent_decode p)) (λ ws. list_route (d ∷ list) (codes "by" ∷ ws)) (λ p. refl) (λ p x xs. refl) q (cut q) bytes
            (λ x key is g. rw is (is_author d list x key h g)))
        by false a true b c c' e e' = subst (Parted q) (sym ((bytes_eq-Decides w (codes "m")).0 b))
            (parameter k_m (below d list (109 ∷ 47 ∷ q)) (λ p. message (d ∷ list) p) (λ ws. list_route (d ∷ list) (codes "m" ∷ ws)) (λ p. refl) (λ p x xs. refl) q (cut q) bytes
            (λ x key is g. rw is (is_message d list x key h g)))
        by false a false b true c e e' = subst (Parted q) (sym ((bytes_eq-Decides w (codes "month")).0 c))
            (parameter k_month (below d list (109 ∷ 111 ∷ 110 ∷ 116 ∷ 104 ∷ 47 ∷ q)) (λ p. month (d ∷ list) p) (λ ws. list_route (d ∷ list) (codes "month" ∷ ws))
            (λ p. refl) (λ p x xs. refl) q (cut q) bytes
            (λ x key is g. rw is (is_month d list x key h g)))
        by false a false b false c true e = subst (Parted q) (sym ((bytes_eq-Decides w (codes "t")).0 e))
            (parameter k_t (below d list (116 ∷ 47 ∷ q)) (λ p. thread (d ∷ list) p) (λ ws. list_route (d ∷ list) (codes "t" ∷ ws)) (λ p. refl) (λ p x xs. refl) q (cut q) bytes
            (λ x key is g. rw is (is_thread d list x key h g)))
        by false a false b false c false e =
            let none = no_step (bytes_eq w (codes "mbox")) (bytes_eq w (codes "threads")) in
            rw (a, b, c, e, none, seek-empty 0 q, no_route w q (cut q) a b c e) (is_none (below d list (w ++ 47 ∷ q)))

    -- what follows the list
    after_list : (r : List ℕ) → Cut r → AllBytes r → Case (below d list r) (seek 0 rows r) (list_route (d ∷ list) (segments r))
    after_list _ (whole w g) bytes =
        rw (word_end w rows g rows_plain, segments-whole w g) (ended w)
    after_list _ (parted w q g) bytes =
        rw (word_cut w q rows g rows_plain, segments-parted w q g) (parted_word w q (bytes_after w q bytes))

  -- what follows `/l/`
  listed : (q : List ℕ) → Cut q → AllBytes q → Case (47 ∷ 108 ∷ 47 ∷ q) (seek 0 (with_param (slashed rows)) q) (route_of_segments ([] ∷ codes "l" ∷ segments q))
  unfolding seek
  listed _ (whole [] h) bytes = is_none (codes "/l/")
  listed _ (whole (d ∷ list) h) bytes = rw (param_end d list rows bytes.0 h, segments-whole (d ∷ list) h) (is_none (47 ∷ 108 ∷ 47 ∷ d ∷ list))
  listed _ (parted [] r h) bytes = rw (no_param r rows) (no_list r (cut r))
    where
      no_list : (r : List ℕ) → Cut r → Case (47 ∷ 108 ∷ 47 ∷ 47 ∷ r) None (route_of_segments ([] ∷ codes "l" ∷ [] ∷ segments r))
      no_list r _ = is_none (47 ∷ 108 ∷ 47 ∷ 47 ∷ r)
  listed _ (parted (d ∷ list) r h) bytes =
      rw (after_param d list r (98 ∷ 121 ∷ 47 ∷ 256 ∷ [], k_by) (rest_rows) bytes.0 h, segments-parted (d ∷ list) r h)
      (after_list d list h r (cut r) (bytes_after (d ∷ list) r bytes))
    where
      rest_rows : RowsOf K
      rest_rows = drop 1 rows

  -- what follows the first slash
  missed : (w s : List ℕ) (ss : List (List ℕ)) → bytes_eq w (codes "l") ≡ false → route_of_segments ([] ∷ w ∷ s ∷ ss) ≡ None
  missed [] [] ss e = refl
  missed [] (b ∷ s) ss e = refl
  missed (c ∷ w) [] ss e = refl
  missed (c ∷ w) (b ∷ s) ss e = rw e refl

  missed_by : (w r : List ℕ) → Cut r → bytes_eq w (codes "l") ≡ false → route_of_segments ([] ∷ w ∷ segments r) ≡ None
  missed_by w _ (whole s h) e = ap (λ ws. route_of_segments ([] ∷ w ∷ ws)) (segments-whole s h) ∙ missed w s [] e
  missed_by w _ (parted s r h) e = ap (λ ws. route_of_segments ([] ∷ w ∷ ws)) (segments-parted s r h) ∙ missed w s (segments r) e

  root_step : (a : Bool) → step 47 (keep a [] k_root []) ≡ []
  root_step true = refl
  root_step false = refl

  abbrev Goes : List ℕ → List ℕ → Type 0
  Goes r w = Case (47 ∷ (w ++ 47 ∷ r)) (seek 0 (step 47 (at_word w (step 47 all_rows))) r) (route_of_segments ([] ∷ w ∷ segments r))

  rooted : (p : List ℕ) → Cut p → AllBytes p → Case (47 ∷ p) (seek 0 (step 47 all_rows) p) (route_of_segments ([] ∷ segments p))
  rooted _ (whole w h) bytes = rw (word_end w (step 47 all_rows) h (refl, (refl, (refl, (refl, (refl, (refl, (refl, tt))))))), segments-whole w h) (ended_root w)
    where
      none : (a : Bool) → own (keep a (47 ∷ 256 ∷ codes "/by/" ++ 256 ∷ []) k_by (keep a (47 ∷ 256 ∷ codes "/m/" ++ 256 ∷ []) k_m (keep a (47 ∷ 256 ∷ codes "/mbox") k_mbox
          (keep a (47 ∷ 256 ∷ codes "/month/" ++ 256 ∷ []) k_month (keep a (47 ∷ 256 ∷ codes "/t/" ++ 256 ∷ []) k_t (keep a (47 ∷ 256 ∷ codes "/threads") k_threads [])))))) ≡ None
      none true = refl
      none false = refl

      ended_root : (w : List ℕ) → Case (47 ∷ w) (own (at_word w (step 47 all_rows))) (route_of_segments ([] ∷ w ∷ []))
      ended_root [] = is_root
      ended_root (b ∷ w) = rw (none (bytes_eq (b ∷ w) (codes "l"))) (is_none (47 ∷ b ∷ w))
  rooted _ (parted w r h) bytes =
      rw (word_cut w r (step 47 all_rows) h (refl, (refl, (refl, (refl, (refl, (refl, (refl, tt))))))), segments-parted w r h)
      (by (bytes_eq w (codes "l")) refl)
    where
      by : (v : Bool) → bytes_eq w (codes "l") ≡ v → Goes r w
      by true e = subst (Goes r) (sym ((bytes_eq-Decides w (codes "l")).0 e)) (listed r (cut r) (bytes_after w r bytes))
      by false e = rw (e, root_step (bytes_eq w []), seek-empty 0 r, missed_by w r (cut r) e) (is_none (47 ∷ (w ++ 47 ∷ r)))

  all_plain : AllPlain all_rows
  all_plain = (refl, (refl, (refl, (refl, (refl, (refl, (refl, tt)))))))

  no_slash_own : (w : List ℕ) → own (at_word w all_rows) ≡ None
  no_slash_own [] = refl
  no_slash_own (b ∷ w) = refl

  no_slash_route : (w : List ℕ) → route_of_segments (w ∷ []) ≡ None
  no_slash_route [] = refl
  no_slash_route (b ∷ w) = refl

  settle_by : (path : List ℕ) → Cut path → AllBytes path → Case path (first all_rows path) (route_of path)
  settle_by _ (whole w h) bytes = rw (word_end w all_rows h all_plain, no_slash_own w, segments-whole w h, no_slash_route w) (is_none w)
  settle_by _ (parted [] r h) bytes = rw (word_cut [] r all_rows h all_plain) (rooted r (cut r) bytes.1)
  settle_by _ (parted (b ∷ w) r h) bytes =
      rw (word_cut (b ∷ w) r all_rows h all_plain, segments-parted (b ∷ w) r h, seek-empty {K = K} 0 r) (is_none (b ∷ (w ++ 47 ∷ r)))

  -- what a walk finds and the route of the definition, for every path
  pub settle : (path : List ℕ) → AllBytes path → Case path (first all_rows path) (route_of path)
  settle path bytes = settle_by path (cut path) bytes
