-- The blocks of a header, one after the other.
use Rattle.std.proofs.Common.{◌≡◌, ◌≢◌, ℕ, zero, suc, ◌+◌, ◌-◌, ◌<◌, Bool, true, false, ◌==◌, ◌||◌, List, [], ◌∷◌, ◌++◌, length, take, drop}
use Rattle.std.proofs.Common.{refl, arith, ap, ◌∙◌, sym, if◌then◌else◌, append_assoc, subst, drop-drop, Some, None}
use Rattle.std.proofs.Math.Seq.{take-add}
use Rattle.std.specs.List.{filter_map}
use Rattle.mail_core.specs.Lines.{lines, onto_first_line, content, is_empty_line, ends_in, without_final_byte}
use Rattle.mail_core.specs.Fields.{HeaderField, is_wsp, is_continuation_line, header_lines, onto_first_block, continued_blocks, header_blocks, fields_of, field_in}
use Rattle.mail_core.proofs.CommentLemmas.{is_it, not_equal}
use Rattle.mail_core.proofs.LineLemmas.{lines-nil}

onto_onto : (l m : List ℕ) (bs : List (List ℕ)) → onto_first_block l (onto_first_block m bs) ≡ onto_first_block (l ++ m) bs
onto_onto l m [] = refl
onto_onto l m (b ∷ bs) = ap (λ (x : List ℕ). x ∷ bs) (sym (append_assoc l m b))

-- a line that continues the one before it is joined to it
pub blocks-join : (l m : List ℕ) (ls : List (List ℕ)) → is_continuation_line m ≡ true → continued_blocks (l ∷ m ∷ ls) ≡ continued_blocks ((l ++ m) ∷ ls)
blocks-join l m [] h = rw h refl
blocks-join l m (k ∷ ks) h = rw h (go (is_continuation_line k) (continued_blocks (k ∷ ks)))
  where
    go : (t : Bool) (bs : List (List ℕ)) → onto_first_block l (if t then onto_first_block m bs else m ∷ bs) ≡ (if t then onto_first_block (l ++ m) bs else (l ++ m) ∷ bs)
    go true bs = onto_onto l m bs
    go false bs = refl

-- a line that does not continue begins a block
pub blocks-next : (l m : List ℕ) (ls : List (List ℕ)) → is_continuation_line m ≡ false → continued_blocks (l ∷ m ∷ ls) ≡ l ∷ continued_blocks (m ∷ ls)
blocks-next l m ls h = rw h refl

blank_is_no_end : (b : ℕ) → is_wsp b ≡ true → (b ≢ 10) × (b ≢ 13)
blank_is_no_end b h = go (b == 32) (b == 9) refl refl h
  where
    go : (s t : Bool) → (b == 32) ≡ s → (b == 9) ≡ t → (s || t) ≡ true → (b ≢ 10) × (b ≢ 13)
    go true t e f h = let k : b ≡ 32 = is_it b 32 e in (λ g. omega (arith, g, k), λ g. omega (arith, g, k))
    go false true e f h = let k : b ≡ 9 = is_it b 9 f in (λ g. omega (arith, g, k), λ g. omega (arith, g, k))
    go false false e f h = absurd (let bad : false ≡ true = h in cc)

keeps_first : (k b : ℕ) (bs : List ℕ) → b ≢ k → (cs : List ℕ) × (without_final_byte k (b ∷ bs) ≡ b ∷ cs)
keeps_first k b [] h = ([], rw (not_equal b k h) refl)
keeps_first k b (c ∷ cs) h = go (ends_in k (b ∷ c ∷ cs))
  where
    shorter : take (length (b ∷ c ∷ cs) - 1) (b ∷ c ∷ cs) ≡ b ∷ take (length cs) (c ∷ cs)
    shorter = ap (λ (n : ℕ). take n (b ∷ c ∷ cs)) (let e : suc (suc (length cs)) - 1 ≡ suc (length cs) = omega arith in e)

    go : (t : Bool) → (ds : List ℕ) × ((if t then take (length (b ∷ c ∷ cs) - 1) (b ∷ c ∷ cs) else b ∷ c ∷ cs) ≡ b ∷ ds)
    go true = (take (length cs) (c ∷ cs), shorter)
    go false = (c ∷ cs, refl)

some_length : (b : ℕ) (bs : List ℕ) → (length (b ∷ bs) == 0) ≡ false
some_length b bs = not_equal (length (b ∷ bs)) 0 (λ h. let bad : suc (length bs) ≡ 0 = h in omega (arith, bad))

blank_line_is_not_empty : (b : ℕ) (bs : List ℕ) → is_wsp b ≡ true → is_empty_line (b ∷ bs) ≡ false
unfolding is_empty_line content
blank_line_is_not_empty b bs h =
    let no = blank_is_no_end b h in
    let one = keeps_first 10 b bs no.0 in
    let two = keeps_first 13 b one.0 no.1 in
    ap (λ (l : List ℕ). length (without_final_byte 13 l) == 0) one.1 ∙ ap (λ (l : List ℕ). length l == 0) two.1 ∙ some_length b two.0

-- a line that begins with a blank is a header line
blank_line : (rest : List ℕ) (e : ℕ) → 0 < e → is_continuation_line rest ≡ true → (is_continuation_line (take e rest) ≡ true) × (is_empty_line (take e rest) ≡ false)
blank_line [] e some h = absurd (let bad : false ≡ true = h in cc)
blank_line (b ∷ bs) zero some h = absurd (omega (arith, some))
blank_line (b ∷ bs) (suc e) some h = (h, blank_line_is_not_empty b (take e bs) h)

header-more : (l : List ℕ) (ls : List (List ℕ)) → is_empty_line l ≡ false → header_lines (l ∷ ls) ≡ l ∷ header_lines ls
header-more l ls h = rw h refl

header-stop : (l : List ℕ) (ls : List (List ℕ)) → is_empty_line l ≡ true → header_lines (l ∷ ls) ≡ []
header-stop l ls h = rw h refl

-- the line at place i continues the block
pub block-grows : (text : List ℕ) (i e : ℕ) → 0 < e → is_continuation_line (drop i text) ≡ true
    → lines (drop i text) ≡ take e (drop i text) ∷ lines (drop e (drop i text))
    → continued_blocks (take i text ∷ header_lines (lines (drop i text))) ≡ continued_blocks (take (i + e) text ∷ header_lines (lines (drop (i + e) text)))
block-grows text i e some h cut =
    let rest = drop i text in
    let blank = blank_line rest e some h in
    let heads : header_lines (lines rest) ≡ take e rest ∷ header_lines (lines (drop e rest)) = ap header_lines cut ∙ header-more (take e rest) (lines (drop e rest)) blank.1 in
    ap (λ (ls : List (List ℕ)). continued_blocks (take i text ∷ ls)) heads
    ∙ blocks-join (take i text) (take e rest) (header_lines (lines (drop e rest))) blank.0
    ∙ ap (λ (l : List ℕ). continued_blocks (l ∷ header_lines (lines (drop e rest)))) (sym (take-add i e text))
    ∙ ap (λ (l : List ℕ). continued_blocks (take (i + e) text ∷ header_lines (lines l))) (drop-drop e i text)

begins_with : (b : ℕ) (bs : List ℕ) → (l : List ℕ) × (ls : List (List ℕ)) × (lines (b ∷ bs) ≡ (b ∷ l) ∷ ls)
unfolding lines
begins_with b bs = go (b == 10) (lines bs)
  where
    go : (t : Bool) (ls : List (List ℕ)) → (l : List ℕ) × (ms : List (List ℕ)) × ((if t then (b ∷ []) ∷ ls else onto_first_line b ls) ≡ (b ∷ l) ∷ ms)
    go true ls = ([], ls, refl)
    go false [] = ([], [], refl)
    go false (l ∷ ls) = (l, ls, refl)

-- the block ends before a line that does not continue it
pub block-ends : (front rest : List ℕ) → is_continuation_line rest ≡ false → continued_blocks (front ∷ header_lines (lines rest)) ≡ front ∷ header_blocks rest
unfolding header_blocks
block-ends front [] h = ap (λ (ls : List (List ℕ)). continued_blocks (front ∷ header_lines ls)) lines-nil ∙ ap (λ (ls : List (List ℕ)). front ∷ continued_blocks (header_lines ls)) (sym lines-nil)
block-ends front (b ∷ bs) h =
    let w = begins_with b bs in
    let P : List (List ℕ) → Type 0 = λ ls. continued_blocks (front ∷ header_lines ls) ≡ front ∷ continued_blocks (header_lines ls) in
    subst P (sym w.2) (header_is (is_empty_line (b ∷ w.0)) (b ∷ w.0) w.1 refl h)
  where
    header_is : (t : Bool) (l : List ℕ) (ls : List (List ℕ)) → is_empty_line l ≡ t → is_continuation_line l ≡ false
        → continued_blocks (front ∷ header_lines (l ∷ ls)) ≡ front ∷ continued_blocks (header_lines (l ∷ ls))
    header_is true l ls e h = rw e refl
    header_is false l ls e h = rw e (blocks-next front l (header_lines ls) h)

-- the fields, block by block
pub fields-none : (text : List ℕ) → header_blocks text ≡ [] → fields_of text ≡ []
unfolding fields_of
fields-none text h = ap (filter_map (λ block. field_in (content block))) h

pub fields-skip : (text block after : List ℕ) → header_blocks text ≡ block ∷ header_blocks after → field_in (content block) ≡ None → fields_of text ≡ fields_of after
unfolding fields_of
fields-skip text block after h e = ap (filter_map (λ block. field_in (content block))) h ∙ rw e refl

pub fields-take : (text block after : List ℕ) (field : HeaderField) → header_blocks text ≡ block ∷ header_blocks after → field_in (content block) ≡ Some field
    → fields_of text ≡ field ∷ fields_of after
unfolding fields_of
fields-take text block after field h e = ap (filter_map (λ block. field_in (content block))) h ∙ rw e refl

pub blocks-empty : header_blocks [] ≡ []
unfolding header_blocks lines
blocks-empty = refl

-- the first line begins a block, or the header ends before it
pub blocks-over : (text : List ℕ) (e : ℕ) → lines text ≡ take e text ∷ lines (drop e text) → is_empty_line (take e text) ≡ true → header_blocks text ≡ []
unfolding header_blocks
blocks-over text e cut h = ap (λ (ls : List (List ℕ)). continued_blocks (header_lines ls)) cut ∙ ap continued_blocks (header-stop (take e text) (lines (drop e text)) h)

pub blocks-begin : (text : List ℕ) (e : ℕ) → lines text ≡ take e text ∷ lines (drop e text) → is_empty_line (take e text) ≡ false
    → header_blocks text ≡ continued_blocks (take e text ∷ header_lines (lines (drop e text)))
unfolding header_blocks
blocks-begin text e cut h = ap (λ (ls : List (List ℕ)). continued_blocks (header_lines ls)) cut ∙ ap continued_blocks (header-more (take e text) (lines (drop e text)) h)
