-- Where messages stand, by the lines of their blocks.
use Rattle.std.proofs.Common.{◌≡◌, ℕ, ◌+◌, ◌<◌, ◌≤◌, List, [], ◌∷◌, ◌++◌, length, take, drop, refl, arith, ap, ◌∙◌, sym, subst, inl, inr, append_assoc, append-nil, length-drop, ℤ}
use Rattle.std.proofs.Math.Nat.{lt_of_not-le}
use Rattle.std.proofs.Math.Seq.{drop-append_seam}
use Rattle.std.proofs.lemmas.List.{drop-drop, drop_all, take-append-drop, length-append, length-take-le}
use Rattle.std.proofs.lemmas.List.Folds.{concat-append}
use Rattle.std.specs.List.{concat, AllByRecursion}
use Rattle.mail_core.specs.Lines.{lines, content}
use Rattle.mbox_core.specs.Separator.{IsSeparator}
use Rattle.mbox_core.specs.Division.{Item, IsBlankLine, AreBlocks, DividesIntoItems}
use Rattle.mbox_items.proofs.LineLemmas.{AreLines, lines_are, are_back, lines-concat, concat-lines, lines-nil}
use Rattle.mbox_items.proofs.SeparatorLemmas.{separator_all}
use Rattle.mbox_items.proofs.SplitLemmas.{heading_unblank}
use Rattle.luvazhimba_c.specs.Places.{IsMessageAtOffset, AreMessagesFromOffset, HasNoBlankFirstLine}
use Rattle.luvazhimba_c.specs.declared.messages.LuvMessage.{LuvMessage}

-- the line that begins there has this length
pub record IsLineLen (bytes : List ℕ) (at n : ℕ) : Type 0 where
  pub within : at + n ≤ length bytes
  pub line : at < length bytes → lines (drop at bytes) ≡ take n (drop at bytes) ∷ lines (drop (at + n) bytes)
  pub end : length bytes ≤ at → n ≡ 0

blank_nil : IsBlankLine []
unfolding content
blank_nil = refl

-- a line begins there, so the bytes do not end
begins : (bytes : List ℕ) (at : ℕ) (l : List ℕ) (ls : List (List ℕ)) → lines (drop at bytes) ≡ l ∷ ls → at < length bytes
begins bytes at l ls e = lt_of_not-le (λ past. let none : lines (drop at bytes) ≡ [] = ap lines (drop_all at bytes past) ∙ lines-nil in cc)

-- the first line there, and where it ends
record First (bytes : List ℕ) (at n : ℕ) (l : List ℕ) (ls : List (List ℕ)) : Type 0 where
  is : l ≡ take n (drop at bytes)
  long : length l ≡ n
  others : lines (drop (at + n) bytes) ≡ ls
  parts : drop at bytes ≡ l ++ drop (at + n) bytes

first : (bytes : List ℕ) (at n : ℕ) (l : List ℕ) (ls : List (List ℕ)) → IsLineLen bytes at n → lines (drop at bytes) ≡ l ∷ ls → First bytes at n l ls
first bytes at n l ls len are =
    let here = len.line (begins bytes at l ls are) in
    let fits = len.within in
    let is : l ≡ take n (drop at bytes) = cc in
    record {
      is = is;
      long = ap length is ∙ length-take-le n (drop at bytes) (omega (arith, fits, length-drop at bytes));
      others = cc;
      parts = sym (take-append-drop n (drop at bytes)) ∙ ap (λ x. x ++ drop n (drop at bytes)) (sym is) ∙ ap (λ x. l ++ x) (drop-drop n at bytes);
    }

-- what follows the separator line: the text, an empty line or nothing, and the blocks of the other messages
record Behind (bytes : List ℕ) (from m : ℕ) (item : Item) (rest : List Item) : Type 0 where
  blank : List ℕ
  is_blank : IsBlankLine blank
  long : length blank ≡ m
  parts : drop from bytes ≡ item.text ++ (blank ++ drop (from + length item.text + m) bytes)
  blocks : AreBlocks rest (lines (drop (from + length item.text + m) bytes))

-- the bytes behind a text
after_text : (bytes text tail : List ℕ) (from : ℕ) → drop from bytes ≡ text ++ tail → drop (from + length text) bytes ≡ tail
after_text bytes text tail from e =
    sym (drop-drop (length text) from bytes) ∙ ap (drop (length text)) e ∙ drop-append_seam text tail

text_fits : (bytes text tail : List ℕ) (from : ℕ) → from ≤ length bytes → drop from bytes ≡ text ++ tail → from + length text ≤ length bytes
text_fits bytes text tail from low e = omega (arith, low, length-drop from bytes, ap length e, length-append text tail)

-- the text and what follows it, of the last message and of one that an empty line ends
last_parts : (bytes text : List ℕ) (from : ℕ) → lines (drop from bytes) ≡ lines text → drop from bytes ≡ text ++ []
last_parts bytes text from are = sym (concat-lines (drop from bytes)) ∙ ap concat are ∙ concat-lines text ∙ sym (append-nil text)

blank_parts : (bytes text blank : List ℕ) (more : List (List ℕ)) (from : ℕ) → lines (drop from bytes) ≡ lines text ++ blank ∷ more
    → drop from bytes ≡ text ++ concat (blank ∷ more)
blank_parts bytes text blank more from are =
    sym (concat-lines (drop from bytes)) ∙ ap concat are ∙ concat-append (lines text) (blank ∷ more) ∙ ap (λ x. x ++ concat (blank ∷ more)) (concat-lines text)

-- of the last message
behind_last : (bytes : List ℕ) (from m : ℕ) (item : Item) (rest : List Item) → from ≤ length bytes → IsLineLen bytes (from + length item.text) m
    → rest ≡ [] → lines (drop from bytes) ≡ lines item.text → Behind bytes from m item rest
behind_last bytes from m item rest low len none are =
    let text = last_parts bytes item.text from are in
    let to = from + length item.text in
    let gone_here : drop to bytes ≡ [] = after_text bytes item.text [] from text in
    let ends : length bytes ≤ to = omega (arith, low, length-drop to bytes, ap length gone_here) in
    let zero : m ≡ 0 = len.end ends in
    let gone : drop (to + m) bytes ≡ [] = drop_all (to + m) bytes (omega (arith, ends)) in
    record {
      blank = [];
      is_blank = blank_nil;
      long = sym zero;
      parts = text ∙ ap (λ x. item.text ++ x) (sym gone);
      blocks = subst (λ (is : List Item). AreBlocks is (lines (drop (to + m) bytes))) (sym none) (ap lines gone ∙ lines-nil);
    }

-- of a message that an empty line ends
behind_blank : (bytes : List ℕ) (from m : ℕ) (item : Item) (rest : List Item) (blank : List ℕ) (more : List (List ℕ))
    → IsLineLen bytes (from + length item.text) m → IsBlankLine blank → lines (drop from bytes) ≡ lines item.text ++ blank ∷ more → AreBlocks rest more
    → Behind bytes from m item rest
behind_blank bytes from m item rest blank more len is are blocks =
    let text = blank_parts bytes item.text blank more from are in
    let to = from + length item.text in
    let tail : drop to bytes ≡ concat (blank ∷ more) = after_text bytes item.text (concat (blank ∷ more)) from text in
    let A : List (List ℕ) → Type 0 = λ x. AreLines x in
    let lined : lines (drop to bytes) ≡ blank ∷ more =
    ap lines tail ∙ lines-concat (blank ∷ more) (are_back (lines item.text) (blank ∷ more) (subst A are (lines_are (drop from bytes)))) in
    let f = first bytes to m blank more len lined in
    record {
      blank = blank;
      is_blank = is;
      long = f.long;
      parts = text ∙ ap (λ x. item.text ++ x) (sym tail ∙ f.parts);
      blocks = subst (AreBlocks rest) (sym f.others) blocks;
    }

-- where a message stands whose block begins there, and the blocks behind it
pub record Placed (bytes : List ℕ) (at n m : ℕ) (item : Item) (rest : List Item) : Type 0 where
  pub stands : (arrival : ℤ) → arrival ≡ item.envelope.arrival
      → IsMessageAtOffset bytes at item (record { start = at + n; end = at + n + length item.text; arrival = arrival }) (at + n + length item.text + m)
  pub later : AreBlocks rest (lines (drop (at + n + length item.text + m) bytes))

-- a block, whose separator line has this length
module _ (bytes : List ℕ) (at n : ℕ) (item : Item) (rest : List Item) (len : IsLineLen bytes at n) (block : AreBlocks (item ∷ rest) (lines (drop at bytes))) where
  -- the text fits
  pub text_within : at + n + length item.text ≤ length bytes
  text_within = elim block.3 [
    | inl e ↦ (let f = first bytes at n block.0 (lines item.text) len e.1 in
        text_fits bytes item.text [] (at + n) len.within (last_parts bytes item.text (at + n) f.others))
    | inr e ↦ (let f = first bytes at n block.0 (lines item.text ++ e.0 ∷ e.1) len e.3 in
        text_fits bytes item.text (concat (e.0 ∷ e.1)) (at + n) len.within (blank_parts bytes item.text e.0 e.1 (at + n) f.others))
  ]

  from : (m : ℕ) (heading : List ℕ) → IsSeparator (content heading) item.envelope → (ls : List (List ℕ)) → lines (drop at bytes) ≡ heading ∷ ls
      → First bytes at n heading ls → Behind bytes (at + n) m item rest → Placed bytes at n m item rest
  from m heading says ls are f b = record {
    stands = λ arrival e. record {
      heading = heading;
      blank_line = b.blank;
      heading_is_first_line = are ∙ ap (λ x. heading ∷ x) (sym f.others);
      heading_separates = says;
      is_blank = b.is_blank;
      bytes_are = f.parts ∙ ap (λ x. heading ++ x) b.parts;
      start_is_after_heading = ap (λ x. at + x) (sym f.long);
      end_is_after_text = refl;
      next_is_after_blank = ap (λ x. at + n + length item.text + x) (sym b.long);
      arrival_is = e;
    };
    later = b.blocks;
  }

  pub placed : (m : ℕ) → IsLineLen bytes (at + n + length item.text) m → Placed bytes at n m item rest
  placed m last = elim block.3 [
    | inl e ↦ (let f = first bytes at n block.0 (lines item.text) len e.1 in
        from m block.0 block.1 (lines item.text) e.1 f (behind_last bytes (at + n) m item rest len.within last e.0 f.others))
    | inr e ↦ (let f = first bytes at n block.0 (lines item.text ++ e.0 ∷ e.1) len e.3 in
        from m block.0 block.1 (lines item.text ++ e.0 ∷ e.1) e.3 f (behind_blank bytes (at + n) m item rest e.0 e.1 last e.2 f.others e.4))
  ]

-- the bytes do not end where a block begins
pub begins_block : (bytes : List ℕ) (at : ℕ) (item : Item) (rest : List Item) → AreBlocks (item ∷ rest) (lines (drop at bytes)) → at < length bytes
begins_block bytes at item rest (heading, says, none, inl e) = begins bytes at heading (lines item.text) e.1
begins_block bytes at item rest (heading, says, none, inr e) = begins bytes at heading (lines item.text ++ e.0 ∷ e.1) e.3

-- one message more stands
pub stand_more : (bytes : List ℕ) (first next behind : ℕ) (all : List Item) (item : Item) (rest : List Item) (front : List LuvMessage) (place : LuvMessage) (later : List LuvMessage)
    → ((ls : List LuvMessage) → AreMessagesFromOffset bytes next (item ∷ rest) ls → AreMessagesFromOffset bytes first all (front ++ ls))
    → IsMessageAtOffset bytes next item place behind → AreMessagesFromOffset bytes behind rest later → AreMessagesFromOffset bytes first all ((front ++ place ∷ []) ++ later)
stand_more bytes first next behind all item rest front place later so_far here on =
    subst (AreMessagesFromOffset bytes first all) (sym (append_assoc front (place ∷ []) later)) (so_far (place ∷ later) (behind, here, on))

-- behind the last message nothing stands
pub stand_end : (bytes : List ℕ) (at : ℕ) → AreBlocks [] (lines (drop at bytes)) → AreMessagesFromOffset bytes at [] []
stand_end bytes at none = sym (concat-lines (drop at bytes)) ∙ ap concat none

-- ---- the empty lines in front

blocks_unblank : (items : List Item) (ls : List (List ℕ)) → AreBlocks items ls → HasNoBlankFirstLine ls
blocks_unblank [] ls e = subst HasNoBlankFirstLine (sym e) tt
blocks_unblank (i ∷ is) ls (heading, says, none, inl e) = subst HasNoBlankFirstLine (sym e.1) (heading_unblank heading i.envelope (separator_all (content heading) i.envelope says))
blocks_unblank (i ∷ is) ls (heading, says, none, inr e) = subst HasNoBlankFirstLine (sym e.3) (heading_unblank heading i.envelope (separator_all (content heading) i.envelope says))

-- lines have one front of empty lines
same_rest : (cs bs r s : List (List ℕ)) → cs ++ r ≡ bs ++ s → AllByRecursion IsBlankLine cs → AllByRecursion IsBlankLine bs
    → HasNoBlankFirstLine r → HasNoBlankFirstLine s → r ≡ s
same_rest [] [] r s e h g u v = e
same_rest [] (b ∷ bs) r s e h g u v = absurd (subst HasNoBlankFirstLine e u g.0)
same_rest (a ∷ cs) [] r s e h g u v = absurd (subst HasNoBlankFirstLine (sym e) v h.0)
same_rest (a ∷ cs) (b ∷ bs) r s e h g u v = let later : cs ++ r ≡ bs ++ s = cc in same_rest cs bs r s later h.1 g.1 u v

-- the blocks of a division begin where the first line does that is not empty
pub blocks_there : (bytes : List ℕ) (items : List Item) (first : ℕ) → DividesIntoItems bytes items → lines bytes ≡ lines (take first bytes) ++ lines (drop first bytes)
    → AllByRecursion IsBlankLine (lines (take first bytes)) → HasNoBlankFirstLine (lines (drop first bytes)) → AreBlocks items (lines (drop first bytes))
blocks_there bytes items first (blanks, rest, are, all, blocks) cut blank unblank =
    let same = same_rest blanks (lines (take first bytes)) rest (lines (drop first bytes)) (sym are ∙ cut) all blank (blocks_unblank items rest blocks) unblank in
    subst (AreBlocks items) same blocks
