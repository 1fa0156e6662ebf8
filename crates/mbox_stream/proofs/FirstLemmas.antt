-- The lines in front of the first separator line, in bytes that may go on.
use Rattle.std.proofs.Common.{◌≡◌, ℕ, ◌+◌, ◌<◌, ◌≤◌, true, false, List, [], ◌∷◌, ◌++◌, length, take, drop, arith, ap, ◌∙◌, sym, Some, None, append_assoc, subst, length-take, length-drop}
use Rattle.std.proofs.lemmas.List.{take-append-drop}
use Rattle.std.proofs.Math.Seq.{take-add}
use Rattle.std.specs.List.{AllByRecursion}
use Rattle.mail_core.specs.Lines.{lines, content}
use Rattle.mbox_core.specs.Separator.{Envelope, separator_of}
use Rattle.mbox_core.specs.Division.{IsBlankLine, is_blank_line}
use Rattle.mbox_items.proofs.LineLemmas.{concat-lines, lines-nil, blank_says}
use Rattle.mbox_items.proofs.SplitLemmas.{unblank_not, none_is}
use Rattle.mbox_stream.specs.Stream.{settled_bytes, IsSettledPreamble}
use Rattle.mbox_stream.specs.Window.{HoldsWholeLines, SkipsBlankLinesTo, OpensFirstMessage}
use Rattle.mbox_stream.proofs.WindowLemmas.{settled_nil, ended_whole, settled_append, whole_append}

-- blank whole lines up to `at`
pub record Blanks (bytes : List ℕ) (at : ℕ) : Type 0 where
  pub low : at ≤ length bytes
  pub whole : HoldsWholeLines (take at bytes)
  pub blank : AllByRecursion IsBlankLine (lines (take at bytes))

pub blanks_start : (bytes : List ℕ) → Blanks bytes 0
blanks_start bytes = record {
  low = omega arith;
  whole = settled_nil;
  blank = subst (λ (x : List (List ℕ)). AllByRecursion IsBlankLine x) (sym lines-nil) tt;
}

all_snoc : (ls : List (List ℕ)) (l : List ℕ) → AllByRecursion IsBlankLine ls → IsBlankLine l → AllByRecursion IsBlankLine (ls ++ l ∷ [])
all_snoc [] l h b = (b, tt)
all_snoc (m ∷ ls) l h b = (h.0, all_snoc ls l h.1 b)

pub passed : (bytes : List ℕ) (at : ℕ) → Blanks bytes at → settled_bytes (drop at bytes) ≡ [] → SkipsBlankLinesTo bytes at
passed bytes at b none = record { at_in_range = b.low; whole_lines = b.whole; all_blank = b.blank; nothing_settled_after = none }

-- a whole line after them
module _ (bytes : List ℕ) (at n : ℕ) (b : Blanks bytes at) (line : List ℕ) (is : line ≡ take (n + 1) (drop at bytes)) (long : n < length (drop at bytes))
    (alone : lines line ≡ line ∷ []) (ended : HoldsWholeLines line) where
  joined : take (at + (n + 1)) bytes ≡ take at bytes ++ line
  joined = take-add at (n + 1) bytes ∙ ap (λ x. take at bytes ++ x) (sym is)

  lines_joined : lines (take at bytes ++ line) ≡ lines (take at bytes) ++ line ∷ []
  lines_joined = ended_whole (take at bytes) b.whole line ∙ ap (λ x. lines (take at bytes) ++ x) alone

  pub blanks_more : is_blank_line line ≡ true → Blanks bytes (at + (n + 1))
  blanks_more k =
      let W : List ℕ → Type 0 = λ x. HoldsWholeLines x in
      let A : List (List ℕ) → Type 0 = λ x. AllByRecursion IsBlankLine x in
      record {
        low = omega (arith, long, length-drop at bytes);
        whole = subst W (sym joined) (whole_append (take at bytes) line b.whole ended);
        blank = subst A (sym (ap lines joined ∙ lines_joined)) (all_snoc (lines (take at bytes)) line b.blank (blank_says line k));
      }

  pub opening : (e : Envelope) → separator_of (content line) ≡ Some e → OpensFirstMessage bytes (at + (n + 1)) e
  opening e s = record {
    at_in_range = omega (arith, long, length-drop at bytes);
    blanks = take at bytes;
    line = line;
    bytes_are = joined;
    whole_lines = b.whole;
    whole_line = ended;
    one_line = alone;
    all_blank = b.blank;
    line_separates = s;
  }

  pub faulty : is_blank_line line ≡ false → separator_of (content line) ≡ None → IsSettledPreamble bytes at
  faulty k s =
      let rest = drop (n + 1) (drop at bytes) in
      let parts : bytes ≡ (take at bytes ++ line) ++ rest =
      sym (take-append-drop at bytes) ∙ ap (λ x. take at bytes ++ x) (sym (take-append-drop (n + 1) (drop at bytes)))
      ∙ ap (λ x. take at bytes ++ (x ++ rest)) (sym is) ∙ sym (append_assoc (take at bytes) line rest) in
      let whole = whole_append (take at bytes) line b.whole ended in
      let settled : settled_bytes bytes ≡ (take at bytes ++ line) ++ settled_bytes rest = ap settled_bytes parts ∙ settled_append (take at bytes ++ line) rest whole in
      record {
        blanks = lines (take at bytes);
        line = line;
        lines_after = lines (settled_bytes rest);
        are_lines = ap lines settled ∙ ended_whole (take at bytes ++ line) whole (settled_bytes rest)
            ∙ ap (λ x. x ++ lines (settled_bytes rest)) lines_joined ∙ append_assoc (lines (take at bytes)) (line ∷ []) (lines (settled_bytes rest));
        all_blank = b.blank;
        is_not_blank = unblank_not line k;
        is_no_separator = none_is line s;
        offset_is = sym (ap length (concat-lines (take at bytes)) ∙ (omega (arith, length-take at bytes, b.low)));
      }
