-- Walks over rows whose parameters are whole segments.
use Rattle.std.proofs.Common.{◌≡◌, ℕ, zero, suc, ◌-◌, ◌<◌, ◌≤◌, List, [], ◌∷◌, ◌++◌, length, drop, Option, Some, None, Bool, true, false}
use Rattle.std.proofs.Common.{cond, refl, sym, ap, ◌∙◌, arith, nat_eq, ◌==◌, ltb, ◌&&◌, bytes_eq, length-append}
use Rattle.std.proofs.lemmas.Bool.Decides.{nat_tests}
use Rattle.std.proofs.lemmas.Slice.Eq.{bytes_eq-Decides}
use Rattle.std.specs.List.{ends_with}
use Rattle.matchit.specs.Rows.{RowsOf}
use Rattle.matchit.specs.Seek.{own, step, or_else, seek, param_step, has_slash, segment, cuts, longest_from, longest_suffix, with_suffix}
use Rattle.archive_requests.proofs.SegmentLemmas.{first_byte, rest_bytes, segment-whole, segment-parted}

-- no parameter stands before the first slash
abbrev pub is_plain : List ℕ → Bool
is_plain [] = true
is_plain (x ∷ t) = cond (x == 47) true (ltb x 256 && is_plain t)

-- what stands before the first slash of a pattern, and from it on
abbrev pub word_of : List ℕ → List ℕ
word_of [] = []
word_of (x ∷ t) = cond (x == 47) [] (x ∷ word_of t)

abbrev pub after_word : List ℕ → List ℕ
after_word [] = []
after_word (x ∷ t) = cond (x == 47) (x ∷ t) (after_word t)

not_wild : (x y : ℕ) (t : List ℕ) → 256 ≤ y → is_plain (x ∷ t) ≡ true → (x == y) ≡ false
not_wild x y t big h = grind (arith, nat_tests)

plain_rest : (x : ℕ) (t : List ℕ) → (x == 47) ≡ false → is_plain (x ∷ t) ≡ true → is_plain t ≡ true
plain_rest x t e h = by (ltb x 256) (rw e at h)
  where
    by : (v : Bool) → (v && is_plain t) ≡ true → is_plain t ≡ true
    by true q = q
    by false q = cc

drop-past : (w t : List ℕ) → drop (length w) (w ++ t) ≡ t
drop-past [] t = refl
drop-past (b ∷ w) t = drop-past w t

drop-all : (w : List ℕ) → drop (length w) w ≡ []
drop-all [] = refl
drop-all (b ∷ w) = drop-all w

length-parted : (d : ℕ) (w : List ℕ) → length (d ∷ (w ++ 47 ∷ [])) ≡ suc (suc (length w))
length-parted d w =
    let e = length-append w (47 ∷ []) in omega arith

cuts-parted : (d : ℕ) (w : List ℕ) → cuts (d ∷ (w ++ 47 ∷ [])) (47 ∷ []) ≡ true
cuts-parted d w =
    let len = length-parted d w in
    let place : length (d ∷ (w ++ 47 ∷ [])) - 1 ≡ suc (length w) = omega arith in
    let tail : drop (suc (length w)) (d ∷ (w ++ 47 ∷ [])) ≡ 47 ∷ [] = drop-past w (47 ∷ []) in
    let ends : ends_with nat_eq (d ∷ (w ++ 47 ∷ [])) (47 ∷ []) ≡ true =
    ap (λ n. bytes_eq (47 ∷ []) (drop n (d ∷ (w ++ 47 ∷ [])))) place ∙ ap (λ t. bytes_eq (47 ∷ []) t) tail in
    let long : ltb 1 (length (d ∷ (w ++ 47 ∷ []))) ≡ true = grind (arith, nat_tests) in
    ap (λ b. b && ends_with nat_eq (d ∷ (w ++ 47 ∷ [])) (47 ∷ [])) long ∙ ends

slash-drop : (n : ℕ) (w : List ℕ) → has_slash w ≡ false → has_slash (drop n w) ≡ false
slash-drop zero w h = h
slash-drop (suc n) [] h = h
slash-drop (suc n) (b ∷ w) h = slash-drop n w (rest_bytes b w h)

not_slash : (t : List ℕ) → has_slash t ≡ false → bytes_eq (47 ∷ []) t ≡ false
not_slash t h = by (bytes_eq (47 ∷ []) t) refl
  where
    by : (v : Bool) → bytes_eq (47 ∷ []) t ≡ v → bytes_eq (47 ∷ []) t ≡ false
    by true e =
        let is : 47 ∷ [] ≡ t = (bytes_eq-Decides (47 ∷ []) t).0 e in
        let bad : has_slash (47 ∷ []) ≡ false = rw (← is) at h in cc
    by false e = e

cuts-whole : (w : List ℕ) → has_slash w ≡ false → cuts w (47 ∷ []) ≡ false
cuts-whole w h =
    let e : ends_with nat_eq w (47 ∷ []) ≡ false = not_slash (drop (length w - 1) w) (slash-drop (length w - 1) w h) in
    rw e (by (ltb 1 (length w)))
  where
    by : (v : Bool) → (v && false) ≡ false
    by true = refl
    by false = refl

module _ {K : Type 0} where
  abbrev pub AllPlain : RowsOf K → Type 0
  AllPlain [] = Unit {0}
  AllPlain ((t, k) ∷ rest) = (is_plain t ≡ true) × AllPlain rest

  -- the rows of a word, from its end on
  abbrev pub at_word : List ℕ → RowsOf K → RowsOf K
  at_word w [] = []
  at_word w ((t, k) ∷ rest) = cond (bytes_eq w (word_of t)) ((after_word t, k) ∷ at_word w rest) (at_word w rest)

  or_else-none : (a : Option K) → or_else a None ≡ a
  or_else-none None = refl
  or_else-none (Some k) = refl

  param_step-empty : (p : List ℕ) → (param_step {K = K} [] p).1 ≡ []
  unfolding param_step
  param_step-empty p =
      elim (has_slash p) as (λ v. (cond {A = ℕ × RowsOf K} v (0, []) (length p, [])).1 ≡ []) [
        | true ↦ refl
        | false ↦ refl
      ]

  pub seek-empty : (k : ℕ) (p : List ℕ) → seek {K = K} k [] p ≡ None
  unfolding seek
  seek-empty k [] = refl
  seek-empty (suc k) (b ∷ p) = seek-empty k p
  seek-empty zero (b ∷ p) = simp (seek-empty 0 p, param_step-empty (b ∷ p), seek-empty (((param_step {K = K} [] (b ∷ p)).0) - 1) p)

  pub seek-drop : (k : ℕ) (r : RowsOf K) (p : List ℕ) → seek k r p ≡ seek 0 r (drop k p)
  unfolding seek
  seek-drop zero r p = refl
  seek-drop (suc k) r [] = refl
  seek-drop (suc k) r (b ∷ p) = seek-drop k r p

  no_wild : (y : ℕ) (rs : RowsOf K) → 256 ≤ y → AllPlain rs → step y rs ≡ []
  no_wild y [] big h = refl
  no_wild y (([], k) ∷ rest) big h = no_wild y rest big h.1
  no_wild y ((x ∷ t, k) ∷ rest) big h = rw (not_wild x y t big h.0) (no_wild y rest big h.1)

  pub seek-plain : (b : ℕ) (rs : RowsOf K) (p : List ℕ) → AllPlain rs → seek 0 rs (b ∷ p) ≡ seek 0 (step b rs) p
  unfolding seek
  seek-plain b rs p h =
      let n1 : step 256 rs ≡ [] = no_wild 256 rs (omega arith) h in
      let n2 : step 257 rs ≡ [] = no_wild 257 rs (omega arith) h in
      simp (n1, n2, param_step-empty (b ∷ p), seek-empty ((param_step {K = K} [] (b ∷ p)).0 - 1) p, or_else-none)

  plain_step : (b : ℕ) (rs : RowsOf K) → (b == 47) ≡ false → AllPlain rs → AllPlain (step b rs)
  plain_step b [] e h = tt
  plain_step b (([], k) ∷ rest) e h = plain_step b rest e h.1
  plain_step b ((x ∷ t, k) ∷ rest) e h = by (x == b) refl (plain_step b rest e h.1)
    where
      by : (v : Bool) → (x == b) ≡ v → AllPlain (step b rest) → AllPlain (cond v ((t, k) ∷ step b rest) (step b rest))
      by true q ih =
          let other : (x == 47) ≡ false = grind (arith, nat_tests) in
          (plain_rest x t other h.0, ih)
      by false q ih = ih

  word_step : (b : ℕ) (w : List ℕ) (rs : RowsOf K) → (b == 47) ≡ false → at_word (b ∷ w) rs ≡ at_word w (step b rs)
  word_step b w [] e = refl
  word_step b w (([], k) ∷ rest) e = word_step b w rest e
  word_step b w ((x ∷ t, k) ∷ rest) e = by (x == 47) refl (x == b) refl (word_step b w rest e)
    where
      by : (u : Bool) → (x == 47) ≡ u → (v : Bool) → (x == b) ≡ v → at_word (b ∷ w) rest ≡ at_word w (step b rest)
          → cond (bytes_eq (b ∷ w) (cond u [] (x ∷ word_of t))) ((cond u (x ∷ t) (after_word t), k) ∷ at_word (b ∷ w) rest) (at_word (b ∷ w) rest)
          ≡ at_word w (cond v ((t, k) ∷ step b rest) (step b rest))
      by true p true q ih =
          let bad : (x == b) ≡ false = grind (arith, nat_tests) in cc
      by true p false q ih = ih
      by false p true q ih =
          let same : nat_eq b x ≡ true = grind (arith, nat_tests) in
          rw (same, ih) refl
      by false p false q ih =
          let other : nat_eq b x ≡ false = grind (arith, nat_tests) in
          rw (other) ih

  own_word : (rs : RowsOf K) → own rs ≡ own (at_word [] rs)
  own_word [] = refl
  own_word (([], k) ∷ rest) = refl
  own_word ((x ∷ t, k) ∷ rest) = by (x == 47) (own_word rest)
    where
      by : (v : Bool) → own rest ≡ own (at_word [] rest)
          → own rest ≡ own (cond (bytes_eq [] (cond v [] (x ∷ word_of t))) ((cond v (x ∷ t) (after_word t), k) ∷ at_word [] rest) (at_word [] rest))
      by true ih = ih
      by false ih = ih

  slash_word : (rs : RowsOf K) → step 47 rs ≡ step 47 (at_word [] rs)
  slash_word [] = refl
  slash_word (([], k) ∷ rest) = slash_word rest
  slash_word ((x ∷ t, k) ∷ rest) = by (x == 47) refl (slash_word rest)
    where
      by : (v : Bool) → (x == 47) ≡ v → step 47 rest ≡ step 47 (at_word [] rest)
          → cond v ((t, k) ∷ step 47 rest) (step 47 rest)
          ≡ step 47 (cond (bytes_eq [] (cond v [] (x ∷ word_of t))) ((cond v (x ∷ t) (after_word t), k) ∷ at_word [] rest) (at_word [] rest))
      by true e ih = rw (e, ih) refl
      by false e ih = ih

  -- a walk over a word that the path ends with, and over one before a slash
  pub word_end : (w : List ℕ) (rs : RowsOf K) → has_slash w ≡ false → AllPlain rs → seek 0 rs w ≡ own (at_word w rs)
  unfolding seek
  word_end [] rs h p = own_word rs
  word_end (b ∷ w) rs h p =
      let e = first_byte b w h in
      seek-plain b rs w p ∙ word_end w (step b rs) (rest_bytes b w h) (plain_step b rs e p) ∙ ap own (sym (word_step b w rs e))

  pub word_cut : (w r : List ℕ) (rs : RowsOf K) → has_slash w ≡ false → AllPlain rs → seek 0 rs (w ++ 47 ∷ r) ≡ seek 0 (step 47 (at_word w rs)) r
  word_cut [] r rs h p = seek-plain 47 rs r p ∙ ap (λ x. seek 0 x r) (slash_word rs)
  word_cut (b ∷ w) r rs h p =
      let e = first_byte b w h in
      seek-plain b rs (w ++ 47 ∷ r) p ∙ word_cut w r (step b rs) (rest_bytes b w h) (plain_step b rs e p) ∙ ap (λ x. seek 0 (step 47 x) r) (sym (word_step b w rs e))

  -- ---- a parameter

  abbrev pub slashed : RowsOf K → RowsOf K
  slashed [] = []
  slashed ((t, k) ∷ rest) = (47 ∷ t, k) ∷ slashed rest

  abbrev pub with_param : RowsOf K → RowsOf K
  with_param [] = []
  with_param ((t, k) ∷ rest) = (256 ∷ t, k) ∷ with_param rest

  slashed-plain : (rs : RowsOf K) → AllPlain (slashed rs)
  slashed-plain [] = tt
  slashed-plain ((t, k) ∷ rest) = (refl, slashed-plain rest)

  slashed-step : (rs : RowsOf K) → step 47 (slashed rs) ≡ rs
  slashed-step [] = refl
  slashed-step ((t, k) ∷ rest) = ap (λ r. (t, k) ∷ r) (slashed-step rest)

  slashed-own : (rs : RowsOf K) → own (slashed rs) ≡ None
  slashed-own [] = refl
  slashed-own ((t, k) ∷ rest) = slashed-own rest

  param-own : (rs : RowsOf K) → own (with_param rs) ≡ None
  param-own [] = refl
  param-own ((t, k) ∷ rest) = param-own rest

  param-hit : (rs : RowsOf K) → step 256 (with_param rs) ≡ rs
  param-hit [] = refl
  param-hit ((t, k) ∷ rest) = ap (λ r. (t, k) ∷ r) (param-hit rest)

  param-miss : (b : ℕ) (rs : RowsOf K) → (256 == b) ≡ false → step b (with_param rs) ≡ []
  param-miss b [] e = refl
  param-miss b ((t, k) ∷ rest) e = rw e (param-miss b rest e)

  -- a parameter is all that the first byte can be
  pub param_walk : (b : ℕ) (p : List ℕ) (rs : RowsOf K) → b < 256
      → seek 0 (with_param rs) (b ∷ p) ≡ seek ((param_step rs (b ∷ p)).0 - 1) (param_step rs (b ∷ p)).1 p
  unfolding seek
  param_walk b p rs below =
      let no : (256 == b) ≡ false = grind (arith, nat_tests) in
      let n2 : step 257 (with_param rs) ≡ [] = param-miss 257 rs refl in
      simp (param-miss b rs no, param-hit rs, n2, seek-empty 0 p, or_else-none)

  longest-slash : (seg : List ℕ) (rs : RowsOf K) → longest_from seg (47 ∷ []) (slashed rs) ≡ 47 ∷ []
  longest-slash seg [] = refl
  longest-slash seg ((t, k) ∷ rest) = longest-slash seg rest

  longest-parted : (seg : List ℕ) (x : List ℕ × K) (rest : RowsOf K) → cuts seg (47 ∷ []) ≡ true → longest_from seg [] (slashed (x ∷ rest)) ≡ 47 ∷ []
  longest-parted seg (t, k) rest e = rw (longest_from, e) (longest-slash seg rest)

  longest-none : (seg : List ℕ) (rs : RowsOf K) → cuts seg (47 ∷ []) ≡ false → longest_from seg [] (slashed rs) ≡ []
  longest-none seg [] e = refl
  longest-none seg ((t, k) ∷ rest) e = rw (longest_from, e) (longest-none seg rest e)

  all_slash : (rs : RowsOf K) → with_suffix (47 ∷ []) (slashed rs) ≡ slashed rs
  all_slash [] = refl
  all_slash ((t, k) ∷ rest) = ap (λ r. (47 ∷ t, k) ∷ r) (all_slash rest)

  param_parted : (path seg : List ℕ) (x : List ℕ × K) (rest : RowsOf K) → segment path ≡ seg → cuts seg (47 ∷ []) ≡ true
      → param_step (slashed (x ∷ rest)) path ≡ (length seg - 1, slashed (x ∷ rest))
  unfolding param_step
  param_parted path seg (t, k) rest s c =
      let longest : longest_suffix (segment path) (slashed ((t, k) ∷ rest)) ≡ 47 ∷ [] = ap (λ q. longest_suffix q (slashed ((t, k) ∷ rest))) s ∙ longest-parted seg (t, k) rest c in
      let rs : RowsOf K = slashed ((t, k) ∷ rest) in
      ap (λ l. cond (ltb 0 (length l)) (length (segment path) - length l, with_suffix l rs) (cond (has_slash path) (0, []) (length path, rs))) longest
      ∙ ap (λ q. (length q - 1, with_suffix (47 ∷ []) rs)) s
      ∙ ap (λ r. (length seg - 1, r)) (all_slash ((t, k) ∷ rest))

  param_none : (path : List ℕ) (rs : RowsOf K) → cuts (segment path) (47 ∷ []) ≡ false
      → param_step (slashed rs) path ≡ cond (has_slash path) (0, []) (length path, slashed rs)
  unfolding param_step
  param_none path rs c =
      let longest : longest_suffix (segment path) (slashed rs) ≡ [] = longest-none (segment path) rs c in
      rw longest refl

  -- a parameter and what follows it
  pub after_param : (d : ℕ) (w r : List ℕ) (x : List ℕ × K) (rest : RowsOf K) → d < 256 → has_slash (d ∷ w) ≡ false
      → seek 0 (with_param (slashed (x ∷ rest))) (d ∷ (w ++ 47 ∷ r)) ≡ seek 0 (x ∷ rest) r
  after_param d w r x rest below h =
      let seg = segment-parted (d ∷ w) r h in
      let count : length (d ∷ (w ++ 47 ∷ [])) - 1 - 1 ≡ length w = (let e = length-parted d w in omega arith) in
      param_walk d (w ++ 47 ∷ r) (slashed (x ∷ rest)) below
      ∙ ap (λ (z : ℕ × RowsOf K). seek (z.0 - 1) z.1 (w ++ 47 ∷ r)) (param_parted (d ∷ (w ++ 47 ∷ r)) (d ∷ (w ++ 47 ∷ [])) x rest seg (cuts-parted d w))
      ∙ ap (λ n. seek n (slashed (x ∷ rest)) (w ++ 47 ∷ r)) count
      ∙ seek-drop (length w) (slashed (x ∷ rest)) (w ++ 47 ∷ r)
      ∙ ap (λ p. seek 0 (slashed (x ∷ rest)) p) (drop-past w (47 ∷ r))
      ∙ seek-plain 47 (slashed (x ∷ rest)) r (slashed-plain (x ∷ rest))
      ∙ ap (λ rs. seek 0 rs r) (slashed-step (x ∷ rest))

  pub no_param : (r : List ℕ) (rs : RowsOf K) → seek 0 (with_param (slashed rs)) (47 ∷ r) ≡ None
  no_param r rs =
      param_walk 47 r (slashed rs) (omega arith)
      ∙ ap (λ (z : ℕ × RowsOf K). seek (z.0 - 1) z.1 r) (param_none (47 ∷ r) rs refl)
      ∙ seek-empty 0 r

  pub param_end : (d : ℕ) (w : List ℕ) (rs : RowsOf K) → d < 256 → has_slash (d ∷ w) ≡ false → seek 0 (with_param (slashed rs)) (d ∷ w) ≡ None
  unfolding seek
  param_end d w rs below h =
      let seg = segment-whole (d ∷ w) h in
      let c : cuts (segment (d ∷ w)) (47 ∷ []) ≡ false = rw seg (cuts-whole (d ∷ w) h) in
      let count : length (d ∷ w) - 1 ≡ length w = omega arith in
      param_walk d w (slashed rs) below
      ∙ ap (λ (z : ℕ × RowsOf K). seek (z.0 - 1) z.1 w) (param_none (d ∷ w) rs c ∙ ap (λ b. cond b (0, []) (length (d ∷ w), slashed rs)) h)
      ∙ ap (λ n. seek n (slashed rs) w) count
      ∙ seek-drop (length w) (slashed rs) w
      ∙ ap (λ p. seek 0 (slashed rs) p) (drop-all w)
      ∙ slashed-own rs

  -- a parameter at the end
  last_step : (k : K) (path : List ℕ) → param_step (([], k) ∷ []) path ≡ cond (has_slash path) (0, []) (length path, ([], k) ∷ [])
  unfolding param_step
  last_step k path = refl

  pub last_found : (d : ℕ) (w : List ℕ) (k : K) → d < 256 → has_slash (d ∷ w) ≡ false → seek 0 ((256 ∷ [], k) ∷ []) (d ∷ w) ≡ Some k
  unfolding seek
  last_found d w k below h =
      let count : length (d ∷ w) - 1 ≡ length w = omega arith in
      param_walk d w (([], k) ∷ []) below
      ∙ ap (λ (z : ℕ × RowsOf K). seek (z.0 - 1) z.1 w) (last_step k (d ∷ w) ∙ ap (λ b. cond b (0, []) (length (d ∷ w), ([], k) ∷ [])) h)
      ∙ ap (λ n. seek n (([], k) ∷ []) w) count
      ∙ seek-drop (length w) (([], k) ∷ []) w
      ∙ ap (λ p. seek 0 (([], k) ∷ []) p) (drop-all w)

  pub last_cut : (d : ℕ) (p : List ℕ) (k : K) → d < 256 → has_slash (d ∷ p) ≡ true → seek 0 ((256 ∷ [], k) ∷ []) (d ∷ p) ≡ None
  last_cut d p k below h =
      param_walk d p (([], k) ∷ []) below
      ∙ ap (λ (z : ℕ × RowsOf K). seek (z.0 - 1) z.1 p) (last_step k (d ∷ p) ∙ ap (λ b. cond b (0, []) (length (d ∷ p), ([], k) ∷ [])) h)
      ∙ seek-empty 0 p
