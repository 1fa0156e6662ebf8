-- The loop that cuts: the blank lines at the front of a file.
use Rattle.std.proofs.Common.{◌≡◌, ℕ, ◌+◌, ◌≤◌, true, false, List, [], ◌∷◌, ◌++◌, length, take, drop, arith, ap, ◌∙◌, sym, Some, None, subst}
use Rattle.std.proofs.lemmas.List.{drop_all, length-take-le}
use Rattle.std.specs.List.{AllByRecursion}
use Rattle.mail_core.specs.Lines.{lines, content}
use Rattle.mbox_items.specs.Separator.{Envelope, separator_of}
use Rattle.mbox_items.specs.Division.{is_blank_line, IsBlankLine, AreBlocks, DividesIntoItems, IsPreamble, items_after_separator}
use Rattle.mbox_items.proofs.LineLemmas.{concat-lines, blank_says, AreLines, are_back, lines_are, lines-nil}
use Rattle.mbox_items.proofs.SplitLemmas.{split-some, reads, Reads, none_is, unblank_not}
use Rattle.mbox_items.proofs.PartLemmas.{next_line, joined_line, taken_more, cut_on}

-- up to `at` the bytes are blank lines
pub record Blanks (bytes : List ℕ) (at : ℕ) : Type 0 where
  pub low : at ≤ length bytes
  pub cut : lines bytes ≡ lines (take at bytes) ++ lines (drop at bytes)
  pub all : AllByRecursion IsBlankLine (lines (take at bytes))

pub blanks_start : (bytes : List ℕ) → Blanks bytes 0
blanks_start bytes = record {
  low = omega arith;
  cut = ap (λ ls. ls ++ lines bytes) (sym lines-nil);
  all = subst (λ (ls : List (List ℕ)). AllByRecursion IsBlankLine ls) (sym lines-nil) tt;
}

all_snoc : (ls : List (List ℕ)) (l : List ℕ) → AllByRecursion IsBlankLine ls → IsBlankLine l → AllByRecursion IsBlankLine (ls ++ l ∷ [])
all_snoc [] l h b = (b, tt)
all_snoc (m ∷ ls) l h b = (h.0, all_snoc ls l h.1 b)

module _ (bytes : List ℕ) (at n : ℕ) (line : List ℕ) (is : line ≡ take n (drop at bytes)) (fits : at + n ≤ length bytes)
    (next : lines (drop at bytes) ≡ take n (drop at bytes) ∷ lines (drop n (drop at bytes))) (s : Blanks bytes at) where
  pub blanks_more : is_blank_line line ≡ true → Blanks bytes (at + n)
  blanks_more k =
      let next_one = next_line bytes at n line is fits next in
      let joined = joined_line bytes at n line is fits next in
      record {
        low = fits;
        cut = cut_on bytes at n (line ∷ []) fits next_one joined s.cut;
        all = subst (λ (ls : List (List ℕ)). AllByRecursion IsBlankLine ls) (sym (taken_more bytes at n (line ∷ []) fits next_one joined s.cut))
            (all_snoc (lines (take at bytes)) line s.all (blank_says line k));
      }

  -- the first separator line
  pub divides_here : (e : Envelope) → separator_of (content line) ≡ Some e → DividesIntoItems bytes (items_after_separator (Some e) (drop n (drop at bytes)))
  divides_here e h =
      let rest = lines (drop n (drop at bytes)) in
      let are = are_back (lines (take at bytes)) (lines (drop at bytes)) (subst (λ (x : List (List ℕ)). AreLines x) s.cut (lines_are bytes)) in
      let r = reads true (line ∷ rest) (subst (λ (x : List (List ℕ)). AreLines x) (next_line bytes at n line is fits next) are) in
      let q = subst (Reads true (line ∷ rest)) (split-some true line rest e h) r in (
        lines (take at bytes),
        lines (drop at bytes),
        s.cut,
        s.all,
        subst (AreBlocks (items_after_separator (Some e) (drop n (drop at bytes)))) (sym (next_line bytes at n line is fits next ∙ q.are)) q.blocks,
      )

  -- a line that is neither blank nor a separator line
  pub preamble_here : is_blank_line line ≡ false → separator_of (content line) ≡ None → IsPreamble bytes at
  preamble_here k h = record {
    blanks = lines (take at bytes);
    line = line;
    lines_after = lines (drop n (drop at bytes));
    are_lines = s.cut ∙ ap (λ ls. lines (take at bytes) ++ ls) (next_line bytes at n line is fits next);
    all_blank = s.all;
    is_not_blank = unblank_not line k;
    is_no_separator = none_is line h;
    offset_is = sym (ap length (concat-lines (take at bytes)) ∙ length-take-le at bytes s.low);
  }

-- a file of blank lines alone
pub divides_none : (bytes rest : List ℕ) (at : ℕ) → Blanks bytes at → length bytes ≤ at → DividesIntoItems bytes (items_after_separator None rest)
divides_none bytes rest at s h =
    (lines (take at bytes), lines (drop at bytes), s.cut, s.all, ap lines (drop_all at bytes h) ∙ lines-nil)
