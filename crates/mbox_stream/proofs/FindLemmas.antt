-- The search for the next separating line, in bytes that may go on.
use Rattle.std.proofs.Common.{◌≡◌, ℕ, suc, ◌+◌, ◌-◌, ◌<◌, ◌≤◌, Bool, true, false, ◌==◌, List, [], ◌∷◌, ◌++◌, length, take, drop, get_or, get_or-take, refl, arith}
use Rattle.std.proofs.Common.{ap, ◌∙◌, sym, if◌then◌else◌, None, append-nil, inl, inr, ◌⊎◌, subst, length-take, length-drop, length-append}
use Rattle.std.proofs.lemmas.List.{take-append-drop, get_or_append_left, get_or-append-add, get_or-drop, take_more}
use Rattle.std.proofs.lemmas.Bool.{cases_lt, eqb-true}
use Rattle.std.proofs.Math.Seq.{take-append-add, take-add}
use Rattle.memchr.specs.Find.{OccursAt, Nowhere, NoneBefore, Passes, is_byte}
use Rattle.mail_core.specs.Lines.{lines, content, ends_in, without_final_byte}
use Rattle.mbox_core.specs.Separator.{Envelope, separator_of}
use Rattle.mbox_core.specs.Division.{IsBlankLine, NoneSeparates, EndsUnblank, is_blank_line}
use Rattle.mbox_items.proofs.LineLemmas.{concat-lines, lines_are, AreLines, are_front, lines-cut}
use Rattle.mbox_items.proofs.SplitLemmas.{Quiet, last_blank, last_append, heads, quiet_append, quiet_front, quiet_false, none_separates, is_unblank, one}
use Rattle.mbox_items.proofs.ItemLemmas.{in_none}
use Rattle.mbox_items.proofs.FastLemmas.{FirstQuiet, later_plain, quiet_chunk, mark_lf}
use Rattle.mbox_stream.specs.Stream.{settled_bytes}
use Rattle.mbox_stream.specs.Window.{HoldsWholeLines, lf_and_from, EndsOpenMessage, IsSearchedUpTo, SeparatesAfterBlankLine, IsNonSeparatingLine, CutsAtFirstSeparator}
use Rattle.mbox_stream.specs.Found.{HoldsNoWholeSeparator}
use Rattle.mbox_stream.proofs.StreamLemmas.{settled_bytes_all}
use Rattle.mbox_stream.proofs.WindowLemmas.{ended_whole, settled_append, settled_lf, no_item_is_settled_before_a_preamble, settled_front, whole_append, cut_off}

-- ---- where a mark stands

occurs_prefix : (a b : List ℕ) (k : ℕ) → OccursAt a lf_and_from k → OccursAt (a ++ b) lf_and_from k
occurs_prefix a b k o = let f : k + 6 ≤ length a = o.fits in record {
  fits = omega (arith, f, length-append a b);
  reads = λ j lt. get_or_append_left a b 0 (k + j) (let g : j < 6 = lt in omega (arith, f, g)) ∙ o.reads j lt;
}

occurs_within : (a b : List ℕ) (k : ℕ) → k + 6 ≤ length a → OccursAt (a ++ b) lf_and_from k → OccursAt a lf_and_from k
occurs_within a b k f o = record {
  fits = omega (arith, f);
  reads = λ j lt. sym (get_or_append_left a b 0 (k + j) (let g : j < 6 = lt in omega (arith, f, g))) ∙ o.reads j lt;
}

occurs_behind : (a b : List ℕ) (k : ℕ) → OccursAt b lf_and_from k → OccursAt (a ++ b) lf_and_from (length a + k)
occurs_behind a b k o = let f : k + 6 ≤ length b = o.fits in record {
  fits = omega (arith, f, length-append a b);
  reads = λ j lt. ap (λ n. get_or (a ++ b) n 0) (let z : length a + k + j ≡ length a + (k + j) = omega arith in z) ∙ get_or-append-add a b (k + j) 0 ∙ o.reads j lt;
}

occurs_drop : (xs : List ℕ) (at k : ℕ) → at ≤ length xs → OccursAt (drop at xs) lf_and_from k → OccursAt xs lf_and_from (at + k)
occurs_drop xs at k low o = let f : k + 6 ≤ length (drop at xs) = o.fits in record {
  fits = omega (arith, f, low, length-drop at xs);
  reads = λ j lt. ap (λ n. get_or xs n 0) (let z : at + k + j ≡ at + (k + j) = omega arith in z) ∙ sym (get_or-drop at xs (k + j) 0) ∙ o.reads j lt;
}

occurs_from : (xs : List ℕ) (at k : ℕ) → at ≤ k → OccursAt xs lf_and_from k → OccursAt (drop at xs) lf_and_from (k - at)
occurs_from xs at k low o = let f : k + 6 ≤ length xs = o.fits in record {
  fits = omega (arith, f, low, length-drop at xs);
  reads = λ j lt. get_or-drop at xs (k - at + j) 0 ∙ ap (λ n. get_or xs n 0) (let z : at + (k - at + j) ≡ k + j = omega (arith, low) in z) ∙ o.reads j lt;
}

-- the first mark from `at` on stands at `p`
pub record IsMark (bytes : List ℕ) (at p : ℕ) : Type 0 where
  pub low : at ≤ p
  pub fits : p + 6 ≤ length bytes
  pub occurs : OccursAt bytes lf_and_from p
  pub before : (k : ℕ) → at ≤ k → k < p → ¬ OccursAt bytes lf_and_from k

pub found_mark : (bytes here : List ℕ) (at lf : ℕ) → here ≡ drop at bytes → at ≤ length bytes
    → NoneBefore (OccursAt here lf_and_from) 0 (length here + 1) lf × OccursAt here lf_and_from lf → IsMark bytes at (at + lf)
found_mark bytes here at lf e low h =
    let O : List ℕ → Type 0 = λ x. OccursAt x lf_and_from lf in
    let o = occurs_drop bytes at lf low (subst O e h.1) in
    record {
      low = omega arith;
      fits = o.fits;
      occurs = o;
      before = λ k from lt q.
          let K : List ℕ → Type 0 = λ x. OccursAt x lf_and_from (k - at) in
          h.0.before (k - at) (omega arith) (omega (arith, from, lt)) (subst K (sym e) (occurs_from bytes at k from q));
    }

pub found_none : (bytes here : List ℕ) (at : ℕ) → here ≡ drop at bytes → Nowhere (OccursAt here lf_and_from) 0 (length here + 1)
    → (k : ℕ) → at ≤ k → ¬ OccursAt bytes lf_and_from k
found_none bytes here at e h k low o =
    let K : List ℕ → Type 0 = λ x. OccursAt x lf_and_from (k - at) in
    let w = subst K (sym e) (occurs_from bytes at k low o) in
    let f : k - at + 6 ≤ length here = w.fits in
    h (k - at) (omega arith) (omega (arith, f)) w

-- ---- quiet lines

first_false : (ls : List (List ℕ)) → FirstQuiet false ls
first_false [] = tt
first_false (l ∷ ls) = refl

ends_last : (ls : List (List ℕ)) → EndsUnblank ls → last_blank false ls ≡ false
ends_last [] h = refl
ends_last (l ∷ []) h = is_unblank l h
ends_last (l ∷ m ∷ ls) h = ends_last (m ∷ ls) h

pub ends_from : (ts : List (List ℕ)) (b : List ℕ) → ¬ IsBlankLine b → EndsUnblank (ts ++ b ∷ [])
ends_from [] b h = h
ends_from (t ∷ []) b h = h
ends_from (t ∷ u ∷ ts) b h = ends_from (u ∷ ts) b h

-- lines after one that is not blank, in which no mark stands
quiet_on : (front c : List ℕ) → HoldsWholeLines front → NoneSeparates (lines front) → EndsUnblank (lines front) → ((k : ℕ) → ¬ OccursAt c lf_and_from k)
    → NoneSeparates (lines (front ++ c))
quiet_on front c w n e m =
    let Q : Bool → Type 0 = λ b. Quiet b (lines c) in
    let q = subst Q (sym (ends_last (lines front) e)) (quiet_chunk false (lines c) (first_false (lines c)) (later_plain c m)) in
    let N : List (List ℕ) → Type 0 = λ x. NoneSeparates x in
    subst N (sym (ended_whole front w c)) (none_separates false (lines front ++ lines c) (quiet_append false (lines front) (lines c) (quiet_false (lines front) n) q))

-- ---- a line of its own

pub line_alone : (rest line : List ℕ) (n : ℕ) → n < length rest → line ≡ take (n + 1) rest
    → ((k : ℕ) → k < n → (get_or rest k 0 == 10) ≡ true → ⊥) → (get_or rest n 0 == 10) ≡ true → lines line ≡ line ∷ []
line_alone rest line n h e none here =
    let A : List (List ℕ) → Type 0 = λ x. AreLines x in
    let z : n + 1 ≡ suc n = omega arith in
    let one_of = are_front (take (suc n) rest ∷ []) (lines (drop (suc n) rest)) (subst A (lines-cut rest n h none here) (lines_are rest)) in
    let L : List ℕ → Type 0 = λ x. lines x ≡ x ∷ [] in
    subst L (sym (e ∙ ap (λ k. take k rest) z)) one_of

pub line_whole : (rest line : List ℕ) (n : ℕ) → n < length rest → line ≡ take (n + 1) rest → get_or rest n 0 ≡ 10 → HoldsWholeLines line
line_whole rest line n h e lf =
    let W : List ℕ → Type 0 = λ x. HoldsWholeLines x in
    subst W (sym (e ∙ take_more rest n 0 h ∙ ap (λ x. take n rest ++ x ∷ []) lf)) (settled_lf (take n rest))

-- so many bytes from a place on are a line, with its LF
pub record IsLineAt (bytes : List ℕ) (at n : ℕ) (line : List ℕ) : Type 0 where
  pub is : line ≡ take (n + 1) (drop at bytes)
  pub long : n < length (drop at bytes)
  pub alone : lines line ≡ line ∷ []
  pub ended : HoldsWholeLines line

pub found_line : (bytes here line : List ℕ) (at n : ℕ) → here ≡ drop at bytes → line ≡ take (n + 1) here
    → NoneBefore (Passes (is_byte 10) here) 0 (length here) n × Passes (is_byte 10) here n → IsLineAt bytes at n line
found_line bytes here line at n e is h =
    let R : List ℕ → Type 0 = λ x. n < length x in record {
      is = is ∙ ap (take (n + 1)) e;
      long = subst R e h.0.high;
      alone = line_alone here line n h.0.high is (λ k lt q. h.0.before k (omega arith) lt q) h.1;
      ended = line_whole here line n h.0.high is (eqb-true (get_or here n 0) 10 h.1);
    }

pub found_no_line : (bytes here : List ℕ) (at : ℕ) → here ≡ drop at bytes → Nowhere (Passes (is_byte 10) here) 0 (length here) → settled_bytes (drop at bytes) ≡ []
found_no_line bytes here at e h =
    let S : List ℕ → Type 0 = λ x. settled_bytes x ≡ [] in
    subst S e (no_item_is_settled_before_a_preamble here (λ k lt q. h k (omega arith) lt q))

-- a byte at the front that ends no line stays
keeps : (b x : ℕ) (xs : List ℕ) → (x == b) ≡ false → (ys : List ℕ) × (without_final_byte b (x ∷ xs) ≡ x ∷ ys)
keeps b x [] h = ([], rw h refl)
keeps b x (y ∷ ys) h = cases (ends_in b (x ∷ y ∷ ys))
  where
    cases : (t : Bool) → (zs : List ℕ) × ((if t then take (length (x ∷ y ∷ ys) - 1) (x ∷ y ∷ ys) else x ∷ y ∷ ys) ≡ x ∷ zs)
    cases false = (y ∷ ys, refl)
    cases true =
        let n : length (x ∷ y ∷ ys) - 1 ≡ suc (length ys) = omega arith in
        (take (length ys) (y ∷ ys), ap (λ k. take k (x ∷ y ∷ ys)) n)

pub begins_unblank : (l : List ℕ) → get_or l 0 0 ≡ 70 → ¬ IsBlankLine l
unfolding content
begins_unblank [] e b = absurd (cc)
begins_unblank (x ∷ xs) e b =
    let lf : (x == 10) ≡ false = rw e refl in
    let cr : (x == 13) ≡ false = rw e refl in
    let first = keeps 10 x xs lf in
    let second = keeps 13 x first.0 cr in
    let bad : x ∷ second.0 ≡ [] = sym (ap (without_final_byte 13) first.1 ∙ second.1) ∙ b in absurd (cc)

heads_by : (b : Bool) (l : List ℕ) → (b ≡ true → separator_of (content l) ≡ None) → heads b l ≡ None
heads_by true l h = h refl
heads_by false l h = refl

-- ---- what a search from a place on says

-- no mark stands from the front on
module _ (bytes : List ℕ) (at : ℕ) (l : IsSearchedUpTo bytes at) where
  unmarked_before : (k : ℕ) → length l.front ≤ k → k < at → ¬ OccursAt bytes lf_and_from k
  unmarked_before k low lt o = let K : List ℕ → Type 0 = λ x. OccursAt x lf_and_from k in l.no_mark_before [] k low lt (subst K (sym (append-nil bytes)) o)

  -- one in what follows the front is one of the whole
  of_rest : (c d : List ℕ) (k : ℕ) → l.unsearched ≡ c ++ d → OccursAt c lf_and_from k → OccursAt bytes lf_and_from (length l.front + k)
  of_rest c d k e o =
      let K : List ℕ → Type 0 = λ x. OccursAt x lf_and_from (length l.front + k) in
      let R : List ℕ → Type 0 = λ x. OccursAt x lf_and_from k in
      subst K (sym l.bytes_are) (occurs_behind l.front l.unsearched k (subst R (sym e) (occurs_prefix c d k o)))

  -- none from `at` on
  module _ (none : (k : ℕ) → at ≤ k → ¬ OccursAt bytes lf_and_from k) where
    none_at_all : (k : ℕ) → length l.front ≤ k → ¬ OccursAt bytes lf_and_from k
    none_at_all k low o = cases (cases_lt k at)
      where
        cases : (k < at) ⊎ (at ≤ k) → ⊥
        cases (inl lt) = unmarked_before k low lt o
        cases (inr ge) = none k ge o

    pub none_more : (from : ℕ) → at ≤ from → from ≤ length bytes → ((k : ℕ) → at ≤ k → k < from → k + 6 ≤ length bytes) → HoldsNoWholeSeparator bytes from
    none_more from low high fits =
        let s = settled_bytes_all l.unsearched in
        let all : settled_bytes bytes ≡ l.front ++ settled_bytes l.unsearched = ap settled_bytes l.bytes_are ∙ settled_append l.front l.unsearched l.whole_lines in
        let N : List ℕ → Type 0 = λ x. NoneSeparates (lines x) in
        let quiet = quiet_on l.front (settled_bytes l.unsearched) l.whole_lines l.no_line_separates l.ends_unblank
        (λ k o. none_at_all (length l.front + k) (omega arith) (of_rest (settled_bytes l.unsearched) s.0 k s.1 o)) in (
          record {
            front = l.front;
            unsearched = l.unsearched;
            bytes_are = l.bytes_are;
            whole_lines = l.whole_lines;
            no_line_separates = l.no_line_separates;
            ends_unblank = l.ends_unblank;
            from_behind_front = omega (arith, l.from_behind_front, low);
            from_in_range = high;
            no_mark_before = λ more k first lt o. cases more k first lt o (cases_lt k at);
          },
          in_none (settled_bytes bytes) (subst N (sym all) quiet),
        )
      where
        cases : (more : List ℕ) (k : ℕ) → length l.front ≤ k → k < from → OccursAt (bytes ++ more) lf_and_from k → (k < at) ⊎ (at ≤ k) → ⊥
        cases more k first lt o (inl below) = l.no_mark_before more k first below o
        cases more k first lt o (inr above) = none k above (occurs_within bytes more k (fits k above lt) o)

  -- one at `p`
  module _ (p : ℕ) (m : IsMark bytes at p) where
    abbrev pub upto : List ℕ
    upto = take (p + 1) bytes

    abbrev pub behind : ℕ
    behind = p + 1 - length l.front

    abbrev pub chunk : List ℕ
    chunk = take behind l.unsearched

    upto_is : upto ≡ l.front ++ chunk
    upto_is =
        let n : p + 1 ≡ length l.front + behind = omega (arith, l.from_behind_front, m.low) in
        ap (λ k. take k bytes) n ∙ ap (take (length l.front + behind)) l.bytes_are ∙ take-append-add l.front l.unsearched behind

    none_chunk : (k : ℕ) → ¬ OccursAt chunk lf_and_from k
    none_chunk k o =
        let f : k + 6 ≤ length chunk = o.fits in
        let below : length l.front + k < p = omega (arith, f, length-take behind l.unsearched, l.from_behind_front, m.low) in
        let w = of_rest chunk (drop behind l.unsearched) k (sym (take-append-drop behind l.unsearched)) o in
        cases below w (cases_lt (length l.front + k) at)
      where
        cases : length l.front + k < p → OccursAt bytes lf_and_from (length l.front + k) → (length l.front + k < at) ⊎ (at ≤ length l.front + k) → ⊥
        cases below w (inl lt) = unmarked_before (length l.front + k) (omega arith) lt w
        cases below w (inr ge) = m.before (length l.front + k) ge below w

    pub none_upto : NoneSeparates (lines upto)
    none_upto =
        let N : List ℕ → Type 0 = λ x. NoneSeparates (lines x) in
        subst N (sym upto_is) (quiet_on l.front chunk l.whole_lines l.no_line_separates l.ends_unblank none_chunk)

    pub whole_upto : HoldsWholeLines upto
    whole_upto =
        let W : List ℕ → Type 0 = λ x. HoldsWholeLines x in
        subst W (sym (take_more bytes p 0 (omega (arith, m.fits)) ∙ ap (λ x. take p bytes ++ x ∷ []) (mark_lf bytes p m.occurs))) (settled_lf (take p bytes))

    -- the line after it has no LF yet
    pub open_more : settled_bytes (drop (p + 1) bytes) ≡ [] → HoldsNoWholeSeparator bytes p
    open_more none =
        let all : settled_bytes bytes ≡ upto = ap settled_bytes (sym (take-append-drop (p + 1) bytes)) ∙ settled_front upto (drop (p + 1) bytes) whole_upto none in
        let N : List ℕ → Type 0 = λ x. NoneSeparates (lines x) in (
          record {
            front = l.front;
            unsearched = l.unsearched;
            bytes_are = l.bytes_are;
            whole_lines = l.whole_lines;
            no_line_separates = l.no_line_separates;
            ends_unblank = l.ends_unblank;
            from_behind_front = omega (arith, l.from_behind_front, m.low);
            from_in_range = omega (arith, m.fits);
            no_mark_before = λ more k first lt o. cases more k first lt o (cases_lt k at);
          },
          in_none (settled_bytes bytes) (subst N (sym all) none_upto),
        )
      where
        cases : (more : List ℕ) (k : ℕ) → length l.front ≤ k → k < p → OccursAt (bytes ++ more) lf_and_from k → (k < at) ⊎ (at ≤ k) → ⊥
        cases more k first lt o (inl below) = l.no_mark_before more k first below o
        cases more k first lt o (inr above) = m.before k above lt (occurs_within bytes more k (omega (arith, lt, m.fits)) o)

    -- the line after it is whole
    module _ (n len : ℕ) (line : List ℕ) (is : line ≡ take (n + 1) (drop (p + 1) bytes)) (long : n < length (drop (p + 1) bytes))
        (adds : len ≡ p + 1 + (n + 1)) (alone : lines line ≡ line ∷ []) (ended : HoldsWholeLines line) where
      joined : take len bytes ≡ upto ++ line
      joined = ap (λ k. take k bytes) adds ∙ take-add (p + 1) (n + 1) bytes ∙ ap (λ x. upto ++ x) (sym is)

      whole_joined : HoldsWholeLines (upto ++ line)
      whole_joined = whole_append upto line whole_upto ended

      lines_joined : lines (upto ++ line) ≡ lines upto ++ line ∷ []
      lines_joined = ended_whole upto whole_upto line ∙ ap (λ x. lines upto ++ x) alone

      within : len ≤ length bytes
      within = omega (arith, adds, long, length-drop (p + 1) bytes, m.fits)

      -- it does not separate
      pub text_looked : IsNonSeparatingLine upto line → IsSearchedUpTo bytes len
      text_looked t =
          let N : List (List ℕ) → Type 0 = λ x. NoneSeparates x in
          let E : List (List ℕ) → Type 0 = λ x. EndsUnblank x in
          let last_is : last_blank false (lines upto) ≡ is_blank_line t.last = ap (last_blank false) t.are_lines ∙ last_append false t.lines_before (t.last ∷ []) in
          let head : heads (last_blank false (lines upto)) line ≡ None =
          ap (λ b. heads b line) last_is ∙ heads_by (is_blank_line t.last) line t.no_separator_after_blank in
          let quiet = quiet_append false (lines upto) (line ∷ []) (quiet_false (lines upto) none_upto) (head, tt) in
          let first : get_or line 0 0 ≡ 70 = ap (λ x. get_or x 0 0) is ∙ first_byte in
          let size : length (upto ++ line) ≡ len = ap length (sym joined) ∙ (omega (arith, length-take len bytes, within)) in
          record {
            front = upto ++ line;
            unsearched = drop len bytes;
            bytes_are = sym (take-append-drop len bytes) ∙ ap (λ x. x ++ drop len bytes) joined;
            whole_lines = whole_joined;
            no_line_separates = subst N (sym lines_joined) (none_separates false (lines upto ++ line ∷ []) quiet);
            ends_unblank = subst E (sym lines_joined) (ends_from (lines upto) line (begins_unblank line first));
            from_behind_front = omega (arith, size);
            from_in_range = within;
            no_mark_before = λ more k low lt o. absurd (let bad : len ≤ k = omega (arith, low, size) in omega (arith, bad, lt));
          }
        where
          first_byte : get_or (take (n + 1) (drop (p + 1) bytes)) 0 0 ≡ 70
          first_byte =
              get_or-take (n + 1) (drop (p + 1) bytes) 0 0 (omega arith) ∙ get_or-drop (p + 1) bytes 0 0
              ∙ ap (λ k. get_or bytes k 0) (let z : p + 1 + 0 ≡ p + 1 = omega arith in z) ∙ m.occurs.reads 1 (omega arith)

      -- it separates
      pub next_found : (text : List ℕ) (next : Envelope) → SeparatesAfterBlankLine upto line text next → CutsAtFirstSeparator bytes len text next
      next_found text next h =
          let quiet : Quiet false (lines text ++ h.blank_line ∷ []) = subst (Quiet false) h.are_lines (quiet_false (lines upto) none_upto) in
          record {
            len_is_positive = omega (arith, adds);
            len_in_range = within;
            no_line_separates = none_separates false (lines text) (quiet_front false (lines text) (h.blank_line ∷ []) quiet);
            ends_open_message = λ e. cut e quiet;
          }
        where
          cut : (e : Envelope) → Quiet false (lines text ++ h.blank_line ∷ []) → EndsOpenMessage e next (take len bytes) (one e text)
          cut e quiet =
              let C : List ℕ → Type 0 = λ x. EndsOpenMessage e next x (one e text) in
              let T : List ℕ → Type 0 = λ x. EndsOpenMessage e next (upto ++ line) (one e x) in
              let are : lines (upto ++ line) ≡ (lines text ++ h.blank_line ∷ []) ++ line ∷ [] = lines_joined ∙ ap (λ x. x ++ line ∷ []) h.are_lines in
              subst C (sym joined) (subst T (concat-lines text) (cut_off e next (upto ++ line) (lines text) h.blank_line line whole_joined are quiet h.is_empty h.line_separates))
