-- The page of all threads tells their rows.
use Rattle.std.proofs.Common.{◌≡◌, ◌≢◌, ◌∙◌, ◌⊎◌, inl, inr, ℕ, pos, ◌<◌, ◌≤◌, ◌+◌, ◌==◌, min, List, [], ◌∷◌, ◌++◌, length, map}
use Rattle.std.proofs.Common.{flat_map, get_or, slice_get, Bool, true, false, cond, Option, Some, None, option_map, option_and_then, refl, sym, ap, arith, codes, decimal, append_assoc}
use Rattle.std.specs.List.{All}
use Rattle.std.specs.Option.{option_map_or}
use Rattle.std.proofs.lemmas.Bool.{true≢false, cases_lt}
use Rattle.std.proofs.lemmas.Bool.Decides.{nat_tests}
use Rattle.std.proofs.lemmas.List.{append_cancel_left, append_cancel_right, length-map}
use Rattle.std.proofs.lemmas.List.Elements.{All-nil, All-cons, All-head, All-tail, All-get_or}
use Rattle.std.proofs.lemmas.Option.{slice_get-get_or, slice_get-map}
use Rattle.mbox_items.specs.Separator.{joined_by_spaces}
use Rattle.thread_core.specs.PlaceLaws.{HasEachPlaceOnce, row_count_of_place}
use Rattle.thread_core.specs.RowLaws.{DummiesHaveTwoChildren}
use Rattle.thread_core.specs.Threads.{threads_of}
use Rattle.thread_core.specs.TopThread.{is_row_of}
use Rattle.thread_core.specs.declared.row.Row.{Row}
use Rattle.thread_core.proofs.Depth.{rows_full}
use Rattle.thread_links.specs.Containers.{container_count}
use Rattle.thread_links.specs.Links.{parent_of, links_of}
use Rattle.thread_links.specs.declared.entry.Entry.{Entry}
use Rattle.archive_results.specs.Shown.{ShownMessage, Line, thread_entry_of, line_of}
use Rattle.archive_results.specs.Results.{tree_line, lines_of}
use Rattle.archive_html.specs.Rows.{page_row, message_row, missing_row, tree_row}
use Rattle.archive_html.specs.Links.{month_link, author_link, message_link, thread_link}
use Rattle.archive_laws.specs.Seen.{depth_limited_row, depth_limited_rows}
use Rattle.archive_laws.proofs.ByteLemmas.{cut_alike, ends_alike}
use Rattle.archive_laws.proofs.LineLemmas.{no_lf, IsLine, is_digit, depth_digits, depth_alike, row_line, line_is, parts_of, parts_line}

-- ---- the rows of threads

-- A row of a mailbox of so many messages: a missing message stands at the top, another in its place.
pub record IsRow (count : ℕ) (r : Row) : Type 0 where
  pub missing : r.place ≡ None → r.depth ≡ 0
  pub placed : (p : ℕ) → r.place ≡ Some p → p < count
  pub low : r.depth ≤ 20

first_of : (r : Row) (rows : List Row) (place : ℕ) → row_count_of_place place (r ∷ rows) ≡ 0 → (is_row_of place r ≡ false) × (row_count_of_place place rows ≡ 0)
first_of r rows place h = by (is_row_of place r) refl h
  where
    by : (t : Bool) → is_row_of place r ≡ t → cond t 1 0 + row_count_of_place place rows ≡ 0 → (is_row_of place r ≡ false) × (row_count_of_place place rows ≡ 0)
    by true e g = absurd (omega (arith, g))
    by false e g = (e, omega (arith, g))

shown_is_row : (count : ℕ) (r : Row) → (r.place ≡ None → r.depth ≡ 0) → ((p : ℕ) → count ≤ p → is_row_of p r ≡ false) → IsRow count (depth_limited_row r)
shown_is_row count r missing other = record {
  missing = λ none. let top : r.depth ≡ 0 = missing none in ap (λ n. min n 20) top;
  placed = λ p is. by p is (cases_lt p count);
  low = omega arith;
}
  where
    by : (p : ℕ) → r.place ≡ Some p → (p < count) ⊎ (count ≤ p) → p < count
    by p is (inl below) = below
    by p is (inr past) =
        let found : is_row_of p r ≡ true = ap (λ o. option_map_or (λ at. at == p) o false) is ∙ grind (arith, nat_tests) in
        absurd (true≢false (sym found ∙ other p past))

all_rows : (count : ℕ) (rows : List Row) → DummiesHaveTwoChildren rows → ((p : ℕ) → count ≤ p → row_count_of_place p rows ≡ 0) → All (IsRow count) (map depth_limited_row rows)
all_rows count [] full other = All-nil (IsRow count)
all_rows count (r ∷ rows) full other = All-cons (IsRow count) (depth_limited_row r) (map depth_limited_row rows)
    (shown_is_row count r (λ none. (full.0 none).0) (λ p past. (first_of r rows p (other p past)).0))
    (all_rows count rows full.1 (λ p past. (first_of r rows p (other p past)).1))

abbrev pub EachPlaceOnce : Type 0
EachPlaceOnce = (entries : List Entry) (merge : Bool) → HasEachPlaceOnce (length entries) (threads_of entries merge)

pub rows_are : EachPlaceOnce → (merge : Bool) (view : List ShownMessage) → All (IsRow (length view)) (depth_limited_rows merge view)
rows_are each merge view =
    let entries : List Entry = map (λ s. thread_entry_of s.item) view in
    let long : length entries ≡ length view = length-map view (λ s. thread_entry_of s.item) in
    all_rows (length view) (threads_of entries merge) (rows_full entries merge (container_count entries) (parent_of (links_of entries)))
    (λ p past. (each entries merge).no_other p (rw long past))

-- ---- the text of a row

pub nothing : ShownMessage
nothing = record { key = []; item = record { envelope = record { sender = []; arrival = pos 0 }; text = [] } }

-- what stands before the key of a message's last link, and behind it
abbrev before_key : (list : List ℕ) → Line → List ℕ
before_key list line =
    month_link list line.sent ++ (32 ∷ (author_link list line.author ++ (32 ∷ (message_link list line.key line.subject ++ (32 ∷ (codes "<a href=\"/l/" ++ (list ++ codes "/t/")))))))

abbrev behind_key : List ℕ
behind_key = codes "\">thread</a>"

parts_end : (list : List ℕ) (line : Line) → joined_by_spaces (parts_of list line) ≡ (before_key list line ++ line.key) ++ behind_key
unfolding thread_link
parts_end list line = simp append_assoc

key_alike : (list : List ℕ) (k l : Line) → length k.key ≡ 64 → length l.key ≡ 64 → joined_by_spaces (parts_of list k) ≡ joined_by_spaces (parts_of list l) → k.key ≡ l.key
key_alike list k l long too e =
    ends_alike (before_key list k) (before_key list l) k.key l.key (long ∙ sym too)
    (append_cancel_right (before_key list k ++ k.key) (before_key list l ++ l.key) behind_key (sym (parts_end list k) ∙ e ∙ parts_end list l))

quote_is_none : is_digit 34 ≡ false
unfolding is_digit
quote_is_none = refl

lf_is_none : no_lf 10 ≡ false
unfolding no_lf
lf_is_none = refl

abbrev tail_of : List ℕ → List ℕ
tail_of [] = []
tail_of (x ∷ xs) = xs

abbrev head_of : List ℕ → ℕ
head_of [] = 0
head_of (x ∷ xs) = x

-- two rows of one text have one depth and the same parts
line_alike : (d e : ℕ) (xs ys : List (List ℕ)) → d ≤ 20 → e ≤ 20 → row_line d xs ≡ row_line e ys → (d ≡ e) × (joined_by_spaces xs ≡ joined_by_spaces ys)
line_alike d e xs ys low too same =
    let cut = cut_alike is_digit 34 quote_is_none (decimal d) (decimal e) (62 ∷ (joined_by_spaces xs ++ codes "</div>")) (62 ∷ (joined_by_spaces ys ++ codes "</div>"))
    (depth_digits d low) (depth_digits e too)
    (append_cancel_left (codes "<div class=\"d") (decimal d ++ (codes "\">" ++ (joined_by_spaces xs ++ codes "</div>"))) (decimal e ++ (codes "\">" ++ (joined_by_spaces ys ++ codes "</div>"))) same) in
    (depth_alike d e low too cut.0, append_cancel_right (joined_by_spaces xs) (joined_by_spaces ys) (codes "</div>") (ap tail_of cut.1))

not_missing : (list : List ℕ) (line : Line) → codes "(missing)" ≢ joined_by_spaces (parts_of list line)
unfolding month_link
not_missing list line e = let first : ◌≡◌ {A = ℕ} 40 60 = ap head_of e in omega (arith, first)

module _ (list : List ℕ) (heading_is_first_line : IsLine list) (view : List ShownMessage)
    (keyed : All (λ (s : ShownMessage). IsLine s.key × (length s.key ≡ 64)) view)
    (apart : (i j : ℕ) → i < length view → j < length view → (get_or view i nothing).key ≡ (get_or view j nothing).key → i ≡ j) where
  abbrev text : Row → List ℕ
  text r = tree_row list (tree_line (lines_of view) r)

  abbrev at : ℕ → ShownMessage
  at p = get_or view p nothing

  abbrev missing_line : List ℕ
  missing_line = row_line 0 (codes "(missing)" ∷ [])

  abbrev shown_line : ℕ → ℕ → List ℕ
  shown_line depth p = row_line depth (parts_of list (line_of (at p)))

  text_missing : (r : Row) → r.place ≡ None → text r ≡ missing_line ++ 10 ∷ []
  unfolding tree_row missing_row
  text_missing r none = ap (λ o. option_map_or (message_row list r.depth) (option_and_then (slice_get (lines_of view)) o) missing_row) none ∙ simp append_assoc

  line_at : (p : ℕ) → p < length view → slice_get (lines_of view) p ≡ Some (line_of (at p))
  line_at p below = slice_get-map line_of view p ∙ ap (option_map line_of) (slice_get-get_or view p nothing below)

  long_row : (d : ℕ) (parts : List (List ℕ)) → d ≤ 20 → page_row d parts ≡ row_line d parts ++ 10 ∷ []
  long_row d parts low = let least : min d 20 ≡ d = omega (arith, low) in rw least (simp append_assoc)

  text_shown : (r : Row) (p : ℕ) → r.place ≡ Some p → p < length view → r.depth ≤ 20 → text r ≡ shown_line r.depth p ++ 10 ∷ []
  unfolding tree_row message_row
  text_shown r p is below low =
      ap (λ o. option_map_or (message_row list r.depth) (option_and_then (slice_get (lines_of view)) o) missing_row) is
      ∙ ap (λ o. option_map_or (message_row list r.depth) o missing_row) (line_at p below)
      ∙ long_row r.depth (parts_of list (line_of (at p))) low

  missing_is_line : IsLine missing_line
  unfolding no_lf
  missing_is_line = line_is 0 (codes "(missing)" ∷ []) (omega arith) refl

  shown_is_line : (d p : ℕ) → d ≤ 20 → p < length view → IsLine (shown_line d p)
  shown_is_line d p low below =
      line_is d (parts_of list (line_of (at p))) low (parts_line list (line_of (at p)) heading_is_first_line
      (All-get_or (λ (s : ShownMessage). IsLine s.key × (length s.key ≡ 64)) view p nothing below keyed).0)

  -- up to its LF
  cut_line : (xs ys r s : List ℕ) → IsLine xs → IsLine ys → (xs ++ 10 ∷ []) ++ r ≡ (ys ++ 10 ∷ []) ++ s → (xs ≡ ys) × (r ≡ s)
  cut_line xs ys r s hx hy e = cut_alike no_lf 10 lf_is_none xs ys r s hx hy (sym (append_assoc xs (10 ∷ []) r) ∙ e ∙ append_assoc ys (10 ∷ []) s)

  same_row : (r q : Row) → r.depth ≡ q.depth → r.place ≡ q.place → r ≡ q
  same_row r q d p = λ i. record { depth = d i; place = p i }

  abbrev Alike : Row → Row → List ℕ → List ℕ → Type 0
  Alike r q x y = (r ≡ q) × (x ≡ y)

  both_missing : (r q : Row) (x y : List ℕ) → IsRow (length view) r → IsRow (length view) q → r.place ≡ None → q.place ≡ None → text r ++ x ≡ text q ++ y → Alike r q x y
  both_missing r q x y hr hq er eq e =
      let cut = cut_line missing_line missing_line x y missing_is_line missing_is_line
      (ap (λ t. t ++ x) (sym (text_missing r er)) ∙ e ∙ ap (λ t. t ++ y) (text_missing q eq)) in
      (same_row r q (hr.missing er ∙ sym (hq.missing eq)) (er ∙ sym eq), cut.1)

  one_missing : (r q : Row) (p : ℕ) (x y : List ℕ) → IsRow (length view) q → r.place ≡ None → q.place ≡ Some p → text r ++ x ≡ text q ++ y → ⊥
  one_missing r q p x y hq er eq e =
      let cut = cut_line missing_line (shown_line q.depth p) x y missing_is_line (shown_is_line q.depth p hq.low (hq.placed p eq))
      (ap (λ t. t ++ x) (sym (text_missing r er)) ∙ e ∙ ap (λ t. t ++ y) (text_shown q p eq (hq.placed p eq) hq.low)) in
      not_missing list (line_of (at p)) (line_alike 0 q.depth (codes "(missing)" ∷ []) (parts_of list (line_of (at p))) (omega arith) hq.low cut.0).1

  key_long : (p : ℕ) → p < length view → length (at p).key ≡ 64
  key_long p below = (All-get_or (λ (s : ShownMessage). IsLine s.key × (length s.key ≡ 64)) view p nothing below keyed).1

  both_shown : (r q : Row) (n m : ℕ) (x y : List ℕ) → IsRow (length view) r → IsRow (length view) q → r.place ≡ Some n → q.place ≡ Some m → text r ++ x ≡ text q ++ y
      → Alike r q x y
  both_shown r q n m x y hr hq er eq e =
      let cut = cut_line (shown_line r.depth n) (shown_line q.depth m) x y (shown_is_line r.depth n hr.low (hr.placed n er)) (shown_is_line q.depth m hq.low (hq.placed m eq))
      (ap (λ t. t ++ x) (sym (text_shown r n er (hr.placed n er) hr.low)) ∙ e ∙ ap (λ t. t ++ y) (text_shown q m eq (hq.placed m eq) hq.low)) in
      let same = line_alike r.depth q.depth (parts_of list (line_of (at n))) (parts_of list (line_of (at m))) hr.low hq.low cut.0 in
      let key : (at n).key ≡ (at m).key = key_alike list (line_of (at n)) (line_of (at m)) (key_long n (hr.placed n er)) (key_long m (hq.placed m eq)) same.1 in
      (same_row r q same.0 (er ∙ ap Some (apart n m (hr.placed n er) (hq.placed m eq) key) ∙ sym eq), cut.1)

  row_alike : (r q : Row) (x y : List ℕ) → IsRow (length view) r → IsRow (length view) q → text r ++ x ≡ text q ++ y → Alike r q x y
  row_alike r q x y hr hq e = by r.place q.place refl refl
    where
      by : (o u : Option ℕ) → r.place ≡ o → q.place ≡ u → Alike r q x y
      by None None er eq = both_missing r q x y hr hq er eq e
      by None (Some m) er eq = absurd (one_missing r q m x y hq er eq e)
      by (Some n) None er eq = absurd (one_missing q r n y x hr eq er (sym e))
      by (Some n) (Some m) er eq = both_shown r q n m x y hr hq er eq e

  some_text : (r : Row) (x : List ℕ) → IsRow (length view) r → text r ++ x ≢ []
  some_text r x hr e = by r.place refl
    where
      never : (l : List ℕ) → (l ++ 10 ∷ []) ++ x ≡ [] → ⊥
      never [] h = grind arith
      never (b ∷ bs) h = grind arith

      no_line : (l : List ℕ) → text r ≡ l ++ 10 ∷ [] → ⊥
      no_line l is = let none : (l ++ 10 ∷ []) ++ x ≡ [] = ap (λ t. t ++ x) (sym is) ∙ e in never l none

      by : (o : Option ℕ) → r.place ≡ o → ⊥
      by None er = no_line missing_line (text_missing r er)
      by (Some n) er = no_line (shown_line r.depth n) (text_shown r n er (hr.placed n er) hr.low)

  pub rows_alike : (rs qs : List Row) → All (IsRow (length view)) rs → All (IsRow (length view)) qs → flat_map text rs ≡ flat_map text qs → rs ≡ qs
  rows_alike [] [] hr hq e = refl
  rows_alike [] (q ∷ qs) hr hq e = absurd (some_text q (flat_map text qs) (All-head (IsRow (length view)) q qs hq) (sym e))
  rows_alike (r ∷ rs) [] hr hq e = absurd (some_text r (flat_map text rs) (All-head (IsRow (length view)) r rs hr) e)
  rows_alike (r ∷ rs) (q ∷ qs) hr hq e =
      let first = row_alike r q (flat_map text rs) (flat_map text qs) (All-head (IsRow (length view)) r rs hr) (All-head (IsRow (length view)) q qs hq) e in
      rw (first.0, rows_alike rs qs (All-tail (IsRow (length view)) r rs hr) (All-tail (IsRow (length view)) q qs hq) first.1) refl
