-- What a match says of its parameters.
use Rattle.std.proofs.Common.{◌≡◌, ℕ, suc, ◌+◌, ◌-◌, ◌<◌, ◌≤◌, List, [], ◌∷◌, ◌++◌, length, drop, take, get_or, true, false, refl, sym}
use Rattle.std.proofs.Common.{ap, ap₂, subst, ◌∙◌, arith, ltb, leb, codes, length-append, IsUtf8, append_assoc}
use Rattle.std.proofs.lemmas.Bool.Decides.{nat_tests}
use Rattle.std.proofs.lemmas.Str.{IsUtf8-take, IsUtf8-drop, IsCharBoundary-before_ascii, IsCharBoundary-after_ascii}
use Rattle.matchit.specs.Seek.{has_slash, segment}
use Rattle.matchit.specs.Params.{walk, after_token, wild_from, wild_stop, part_of}
use Rattle.archive_requests.proofs.SegmentLemmas.{segment-parted}
use Rattle.archive_requests.proofs.RouteCases.{below}

take-own : (a c : List ℕ) → take (length a) (a ++ c) ≡ a
take-own [] c = refl
take-own (x ∷ a) c = ap (λ r. x ∷ r) (take-own a c)

drop-own : (a c : List ℕ) → drop (length a) (a ++ c) ≡ c
drop-own [] c = refl
drop-own (x ∷ a) c = drop-own a c

get-own : (a c : List ℕ) (x : ℕ) → get_or (a ++ x ∷ c) (length a) 0 ≡ x
get-own [] c x = refl
get-own (y ∷ a) c x = get-own a c x

-- the part between two places
part_mid : (a b c : List ℕ) → part_of (a ++ (b ++ c)) (length a) (length a + length b) ≡ b
part_mid a b c =
    let whole : length (a ++ (b ++ c)) ≡ length a + (length b + length c) = length-append a (b ++ c) ∙ ap (λ n. length a + n) (length-append b c) in
    let one : leb (length a) (length a + length b) ≡ true = grind (arith, nat_tests) in
    let two : leb (length a + length b) (length (a ++ (b ++ c))) ≡ true = grind (arith, nat_tests) in
    let count : length a + length b - length a ≡ length b = omega arith in
    rw (one, two, count, drop-own a (b ++ c)) (take-own b c)

-- a run of bytes up to a parameter
abbrev pub IsRun : List ℕ → Type 0
IsRun [] = Unit {0}
IsRun (x ∷ w) = (x < 256) × IsRun w

wild_run : (w t : List ℕ) (len token at : ℕ) → IsRun w → at + length w ≤ len → wild_from (w ++ 256 ∷ t) len token at ≡ (token + length w, at + length w)
wild_run [] t len token at h le = ap₂ (λ a b. (a, b)) (omega arith) (omega arith)
wild_run (x ∷ w) t len token at h le =
    let byte : ltb x 256 ≡ true = grind (arith, nat_tests, h.0) in
    let on : ltb at len ≡ true = grind (arith, nat_tests) in
    let ih = wild_run w t len (token + 1) (at + 1) h.1 (omega arith) in
    let one : token + 1 + length w ≡ token + suc (length w) = omega arith in
    let two : at + 1 + length w ≡ at + suc (length w) = omega arith in
    rw (byte, on) (ih ∙ ap₂ (λ a b. (a, b)) one two)

-- a text in parts
after_cut : (w r : List ℕ) → drop (length w + 1) (w ++ 47 ∷ r) ≡ r
after_cut w r = ap (λ n. drop n (w ++ 47 ∷ r)) {y = suc (length w)} (omega arith) ∙ by w
  where
    by : (w : List ℕ) → drop (suc (length w)) (w ++ 47 ∷ r) ≡ r
    by [] = refl
    by (x ∷ w) = by w

pub cut_utf8 : (w r : List ℕ) → IsUtf8 (w ++ 47 ∷ r) → IsUtf8 w × IsUtf8 r
cut_utf8 w r u =
    let long : length (w ++ 47 ∷ r) ≡ length w + suc (length r) = length-append w (47 ∷ r) in
    let at : get_or (w ++ 47 ∷ r) (length w) 0 ≡ 47 = get-own w r 47 in
    let here : length w < length (w ++ 47 ∷ r) = omega arith in
    let ascii : get_or (w ++ 47 ∷ r) (length w) 0 < 128 = rw at (omega arith) in
    let front = IsUtf8-take (w ++ 47 ∷ r) (length w) u (IsCharBoundary-before_ascii (w ++ 47 ∷ r) (length w) here ascii) in
    let back = IsUtf8-drop (w ++ 47 ∷ r) (length w + 1) u (IsCharBoundary-after_ascii (w ++ 47 ∷ r) (length w) u here ascii) in
    (subst IsUtf8 (take-own w (47 ∷ r)) front, subst IsUtf8 (after_cut w r) back)

part_tail : (a b : List ℕ) → part_of (a ++ b) (length a) (length (a ++ b)) ≡ b
part_tail a b =
    let whole : length (a ++ b) ≡ length a + length b = length-append a b in
    let one : leb (length a) (length a + length b) ≡ true = grind (arith, nat_tests) in
    let two : leb (length a + length b) (length a + length b) ≡ true = grind (arith, nat_tests) in
    let count : length a + length b - length a ≡ length b = omega arith in
    rw (whole, one, two, count, drop-own a b) (all b)
  where
    all : (b : List ℕ) → take (length b) b ≡ b
    all [] = refl
    all (x ∷ b) = ap (λ r. x ∷ r) (all b)

-- one name of a walk, from where its parameter stands
walk_head : (pattern text path : List ℕ) (n : ℕ × ℕ) (ns : List (ℕ × ℕ)) (token at token' at' stop : ℕ)
    → wild_from (drop token pattern) (length path) token at ≡ (token', at') → wild_stop pattern token' path at' ≡ stop
    → walk pattern text path (n ∷ ns) token at ≡ (part_of text n.0 n.1, part_of path at' stop) ∷ walk pattern text path ns (after_token token') stop
walk_head pattern text path n ns token at token' at' stop from to =
    ap (λ (z : ℕ × ℕ). (part_of text n.0 n.1, part_of path z.1 (wild_stop pattern z.0 path z.1)) ∷ walk pattern text path ns (after_token z.0) (wild_stop pattern z.0 path z.1)) from
    ∙ ap (λ s. (part_of text n.0 n.1, part_of path at' s) ∷ walk pattern text path ns (after_token token') s) to

abbrev pub listed : List ℕ → List ℕ
listed t = 47 ∷ 108 ∷ 47 ∷ 256 ∷ 47 ∷ t

list_stop : (t : List ℕ) (d : ℕ) (list rest : List ℕ) → has_slash (d ∷ list) ≡ false → wild_stop (listed t) 3 (below d list rest) 3 ≡ 3 + length (d ∷ list)
list_stop t d list rest h =
    let a : ltb 3 (length (listed t)) ≡ true = grind (arith, nat_tests) in
    let b : ltb 4 (length (listed t)) ≡ true = grind (arith, nat_tests) in
    let seg = segment-parted (d ∷ list) rest h in
    let long : length (segment (d ∷ (list ++ 47 ∷ rest))) ≡ length (d ∷ list) + 1 = ap length seg ∙ length-append (d ∷ list) (47 ∷ []) in
    rw (a, b, long) (omega arith)

pub list_walk : (t text : List ℕ) (n : ℕ × ℕ) (ns : List (ℕ × ℕ)) (d : ℕ) (list rest : List ℕ) → has_slash (d ∷ list) ≡ false
    → walk (listed t) text (below d list rest) (n ∷ ns) 0 0 ≡ (part_of text n.0 n.1, d ∷ list) ∷ walk (listed t) text (below d list rest) ns 4 (3 + length (d ∷ list))
list_walk t text n ns d list rest h =
    walk_head (listed t) text (below d list rest) n ns 0 0 3 3 (3 + length (d ∷ list))
    (wild_run (codes "/l/") (47 ∷ t) (length (below d list rest)) 0 0 (omega arith, (omega arith, (omega arith, tt))) (omega arith))
    (list_stop t d list rest h)
    ∙ ap (λ p. (part_of text n.0 n.1, p) ∷ walk (listed t) text (below d list rest) ns 4 (3 + length (d ∷ list))) (part_mid (codes "/l/") (d ∷ list) (47 ∷ rest))

-- the parameter that ends a route, after a word and its slash
pub last_walk : (u text : List ℕ) (n : ℕ × ℕ) (d : ℕ) (list key : List ℕ) → IsRun u
    → ((p : List ℕ) (at : ℕ) → wild_stop (listed (u ++ 256 ∷ [])) (4 + suc (length u)) p at ≡ length p)
    → walk (listed (u ++ 256 ∷ [])) text (below d list (u ++ key)) (n ∷ []) 4 (3 + length (d ∷ list)) ≡ (part_of text n.0 n.1, key) ∷ []
last_walk u text n d list key run stops =
    let front : List ℕ = 47 ∷ 108 ∷ 47 ∷ d ∷ (list ++ 47 ∷ u) in
    let path : below d list (u ++ key) ≡ front ++ key = ap (λ r. 47 ∷ 108 ∷ 47 ∷ d ∷ r) (sym (append_assoc list (47 ∷ u) key)) in
    let some : length list + suc (length u) ≡ length (list ++ 47 ∷ u) = sym (length-append list (47 ∷ u)) in
    let start : 3 + length (d ∷ list) + suc (length u) ≡ length front = omega arith in
    let long : length (below d list (u ++ key)) ≡ length front + length key = ap length path ∙ length-append front key in
    walk_head (listed (u ++ 256 ∷ [])) text (below d list (u ++ key)) n [] 4 (3 + length (d ∷ list)) (4 + suc (length u)) (3 + length (d ∷ list) + suc (length u)) (length (below d list (u ++ key)))
    (wild_run (47 ∷ u) [] (length (below d list (u ++ key))) 4 (3 + length (d ∷ list)) (omega arith, run) (omega arith))
    (stops (below d list (u ++ key)) (3 + length (d ∷ list) + suc (length u)))
    ∙ ap (λ s. (part_of text n.0 n.1, part_of (below d list (u ++ key)) s (length (below d list (u ++ key)))) ∷ []) start
    ∙ ap (λ p. (part_of text n.0 n.1, part_of p (length front) (length p)) ∷ []) path
    ∙ ap (λ p. (part_of text n.0 n.1, p) ∷ []) (part_tail front key)

-- the texts of a path below a list
pub list_utf8 : (d : ℕ) (list rest : List ℕ) → IsUtf8 (below d list rest) → IsUtf8 (d ∷ list) × IsUtf8 rest
list_utf8 d list rest u = cut_utf8 (d ∷ list) rest (cut_utf8 (108 ∷ []) (d ∷ (list ++ 47 ∷ rest)) (cut_utf8 [] (108 ∷ 47 ∷ d ∷ (list ++ 47 ∷ rest)) u).1).1
