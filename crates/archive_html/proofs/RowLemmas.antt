-- Depths as they are written, and rows piece by piece.
use Rattle.std.proofs.Common.{◌≡◌, ℕ, zero, suc, ◌+◌, ◌≤◌, ◌/◌, ◌%◌, ◌-◌, min, List, [], ◌∷◌, ◌++◌, refl, arith, ℤ, Option, Some, None, codes, append_assoc}
use Rattle.std.specs.Fmt.{digits, decimal}
use Rattle.archive_results.specs.Shown.{Line}
use Rattle.archive_results.specs.Results.{TreeLine}
use Rattle.archive_html.specs.Links.{month_link, author_link, message_link, thread_link}
use Rattle.archive_html.specs.Rows.{page_row, list_row, message_row, missing_row, tree_row}

-- a number from 10 to 20 has two digits
small : (k : ℕ) → k ≤ 10 → decimal (10 + k) ≡ (48 + (10 + k) / 10) ∷ (48 + (10 + k) % 10) ∷ []
unfolding digits
small zero h = refl
small (suc zero) h = refl
small (suc (suc zero)) h = refl
small (suc (suc (suc zero))) h = refl
small (suc (suc (suc (suc zero)))) h = refl
small (suc (suc (suc (suc (suc zero))))) h = refl
small (suc (suc (suc (suc (suc (suc zero)))))) h = refl
small (suc (suc (suc (suc (suc (suc (suc zero))))))) h = refl
small (suc (suc (suc (suc (suc (suc (suc (suc zero)))))))) h = refl
small (suc (suc (suc (suc (suc (suc (suc (suc (suc zero))))))))) h = refl
small (suc (suc (suc (suc (suc (suc (suc (suc (suc (suc zero)))))))))) h = refl
small (suc (suc (suc (suc (suc (suc (suc (suc (suc (suc (suc k))))))))))) h = absurd (omega (arith, h))

pub two_digits : (n : ℕ) → 10 ≤ n → n ≤ 20 → decimal n ≡ (48 + n / 10) ∷ (48 + n % 10) ∷ []
two_digits n low high = at (n - 10) (let e : 10 + (n - 10) ≡ n = omega (arith, low) in e) (omega (arith, high))
  where
    at : (k : ℕ) → 10 + k ≡ n → k ≤ 10 → decimal n ≡ (48 + n / 10) ∷ (48 + n % 10) ∷ []
    at k e h = rw e at (small k h)

-- ---- rows, piece by piece

pub list_row_is : (list p0 p1 p2 p3 p4 p5 p6 p7 : List ℕ) → p1 ≡ p0 ++ codes "<div class=\"d0\"><a href=\"/l/" → p2 ≡ p1 ++ list → p3 ≡ p2 ++ codes "/threads\">"
    → p4 ≡ p3 ++ list → p5 ≡ p4 ++ codes "</a> <a href=\"/l/" → p6 ≡ p5 ++ list → p7 ≡ p6 ++ codes "/mbox\">mbox</a></div>\n" → p7 ≡ p0 ++ list_row list
unfolding list_row digits
list_row_is list p0 p1 p2 p3 p4 p5 p6 p7 e1 e2 e3 e4 e5 e6 e7 = rw (e7, e6, e5, e4, e3, e2, e1) (simp append_assoc)

row_is : (depth : ℕ) (m a s t p0 p1 p2 p3 p4 p5 p6 p7 p8 p9 : List ℕ) → p1 ≡ p0 ++ (codes "<div class=\"d" ++ (decimal (min depth 20) ++ codes "\">"))
    → p2 ≡ p1 ++ m → p3 ≡ p2 ++ 32 ∷ [] → p4 ≡ p3 ++ a → p5 ≡ p4 ++ 32 ∷ [] → p6 ≡ p5 ++ s → p7 ≡ p6 ++ 32 ∷ [] → p8 ≡ p7 ++ t → p9 ≡ p8 ++ codes "</div>\n"
    → p9 ≡ p0 ++ page_row depth (m ∷ a ∷ s ∷ t ∷ [])
row_is depth m a s t p0 p1 p2 p3 p4 p5 p6 p7 p8 p9 e1 e2 e3 e4 e5 e6 e7 e8 e9 = rw (e9, e8, e7, e6, e5, e4, e3, e2, e1) (simp append_assoc)

pub message_row_is : (list : List ℕ) (depth : ℕ) (line : Line) (k : List ℕ) (sent : ℤ) (a b key author subject p0 p1 p2 p3 p4 p5 p6 p7 p8 p9 : List ℕ)
    → line ≡ record { key = k; sent = sent; author = a; subject = b } → key ≡ k → author ≡ a → subject ≡ b
    → p1 ≡ p0 ++ (codes "<div class=\"d" ++ (decimal (min depth 20) ++ codes "\">")) → p2 ≡ p1 ++ month_link list sent → p3 ≡ p2 ++ 32 ∷ []
    → p4 ≡ p3 ++ author_link list author → p5 ≡ p4 ++ 32 ∷ [] → p6 ≡ p5 ++ message_link list key subject → p7 ≡ p6 ++ 32 ∷ [] → p8 ≡ p7 ++ thread_link list key
    → p9 ≡ p8 ++ codes "</div>\n" → p9 ≡ p0 ++ message_row list depth line
unfolding message_row
message_row_is list depth line k sent a b key author subject p0 p1 p2 p3 p4 p5 p6 p7 p8 p9 is ek ea eb e1 e2 e3 e4 e5 e6 e7 e8 e9 =
    rw (is, ← ek, ← ea, ← eb)
    (row_is depth (month_link list sent) (author_link list author) (message_link list key subject) (thread_link list key) p0 p1 p2 p3 p4 p5 p6 p7 p8 p9 e1 e2 e3 e4 e5 e6 e7 e8 e9)

pub missing_is : missing_row ≡ codes "<div class=\"d0\">(missing)</div>\n"
unfolding missing_row digits
missing_is = refl

pub tree_row_some : (list : List ℕ) (tree : TreeLine) (depth : ℕ) (o : Option Line) (line : Line)
    → tree ≡ record { depth = depth; line = o } → o ≡ Some line → tree_row list tree ≡ message_row list depth line
unfolding tree_row
tree_row_some list tree depth o line e f = rw (e, f) refl

pub tree_row_none : (list : List ℕ) (tree : TreeLine) (depth : ℕ) (o : Option Line)
    → tree ≡ record { depth = depth; line = o } → o ≡ None → tree_row list tree ≡ missing_row
unfolding tree_row
tree_row_none list tree depth o e f = rw (e, f) refl

pub start_is : (shown p0 p1 p2 p3 : List ℕ) → p1 ≡ p0 ++ codes "<div class=\"d" → p2 ≡ p1 ++ shown → p3 ≡ p2 ++ codes "\">"
    → p3 ≡ p0 ++ (codes "<div class=\"d" ++ (shown ++ codes "\">"))
start_is shown p0 p1 p2 p3 e1 e2 e3 = rw (e3, e2, e1) (simp append_assoc)
