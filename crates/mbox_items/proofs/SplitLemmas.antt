-- The computed division beside the relation.
use Rattle.std.proofs.Common.{◌≡◌, ℕ, Bool, true, false, List, [], ◌∷◌, ◌++◌, refl, ap, ◌∙◌, sym, if◌then◌else◌, Option, Some, None, append_assoc, append-nil, inl, inr, ◌⊎◌, subst}
use Rattle.std.specs.List.{concat, AllByRecursion}
use Rattle.mail_core.specs.Lines.{lines, content}
use Rattle.mbox_items.specs.Separator.{Envelope, separator_of}
use Rattle.mbox_items.specs.Division.{is_blank_line, Item, FrontAndItems, IsBlankLine, IsSeparatorLine, NoneSeparates, EndsUnblank}
use Rattle.mbox_items.specs.Division.{AreBlocks, DividesIntoItems, item_text_of_lines, with_item_or_line, with_front_line, with_new_item, front_and_items_of_lines, items_of}
use Rattle.mbox_items.proofs.LineLemmas.{concat-lines, blank_says, says_blank, AreLines, are_front, are_back, lines-concat, lines-nil}
use Rattle.mbox_items.proofs.SeparatorLemmas.{no_envelope, separator_is, separator_all}

-- what separates, if it follows a blank line
abbrev pub heads : Bool → List ℕ → Option Envelope
heads p l = if p then separator_of (content l) else None

-- no line of these begins an item
abbrev pub Quiet : Bool → List (List ℕ) → Type 0
Quiet p [] = Unit {0}
Quiet p (l ∷ ls) = (heads p l ≡ None) × Quiet (is_blank_line l) ls

-- whether the last line is blank
abbrev pub last_blank : Bool → List (List ℕ) → Bool
last_blank p [] = p
last_blank p (l ∷ ls) = last_blank (is_blank_line l) ls

abbrev pub with_lines : List (List ℕ) → FrontAndItems → FrontAndItems
with_lines ls s = record { front = ls ++ s.front; items = s.items }

abbrev pub nothing : FrontAndItems
nothing = record { front = []; items = [] }

pub split-nil : (p : Bool) → front_and_items_of_lines p [] ≡ nothing
unfolding front_and_items_of_lines
split-nil p = refl

pub split-cons : (p : Bool) (l : List ℕ) (ls : List (List ℕ)) → front_and_items_of_lines p (l ∷ ls) ≡ with_item_or_line (heads p l) l (λ b. front_and_items_of_lines b ls)
unfolding front_and_items_of_lines
split-cons p l ls = refl

pub split-none : (p : Bool) (l : List ℕ) (ls : List (List ℕ)) → heads p l ≡ None → front_and_items_of_lines p (l ∷ ls) ≡ with_front_line l (front_and_items_of_lines (is_blank_line l) ls)
split-none p l ls h = split-cons p l ls ∙ ap (λ o. with_item_or_line o l (λ b. front_and_items_of_lines b ls)) h

pub split-some : (p : Bool) (l : List ℕ) (ls : List (List ℕ)) (e : Envelope) → heads p l ≡ Some e → front_and_items_of_lines p (l ∷ ls) ≡ with_new_item e (front_and_items_of_lines false ls)
split-some p l ls e h = split-cons p l ls ∙ ap (λ o. with_item_or_line o l (λ b. front_and_items_of_lines b ls)) h

-- lines that begin no item stand in front
pub split-quiet : (p : Bool) (ts more : List (List ℕ)) → Quiet p ts → front_and_items_of_lines p (ts ++ more) ≡ with_lines ts (front_and_items_of_lines (last_blank p ts) more)
split-quiet p [] more h = refl
split-quiet p (t ∷ ts) more h = split-none p t (ts ++ more) h.0 ∙ ap (with_front_line t) (split-quiet (is_blank_line t) ts more h.1)

pub heads_blank : (p : Bool) (l : List ℕ) → IsBlankLine l → heads p l ≡ None
heads_blank true l h = ap separator_of h ∙ no_envelope
heads_blank false l h = refl

pub quiet_append : (p : Bool) (a b : List (List ℕ)) → Quiet p a → Quiet (last_blank p a) b → Quiet p (a ++ b)
quiet_append p [] b h g = g
quiet_append p (l ∷ a) b h g = (h.0, quiet_append (is_blank_line l) a b h.1 g)

pub last_append : (p : Bool) (a b : List (List ℕ)) → last_blank p (a ++ b) ≡ last_blank (last_blank p a) b
last_append p [] b = refl
last_append p (l ∷ a) b = last_append (is_blank_line l) a b

-- the body of lines whose last is blank, and of lines whose last is not
pub body-blank : (ls : List (List ℕ)) (b : List ℕ) → is_blank_line b ≡ true → item_text_of_lines (ls ++ b ∷ []) ≡ concat ls
unfolding item_text_of_lines
body-blank [] b h = rw h refl
body-blank (l ∷ []) b h = rw h refl
body-blank (l ∷ m ∷ ls) b h = ap (λ x. l ++ x) (body-blank (m ∷ ls) b h)

pub body-some : (ls : List (List ℕ)) (b : List ℕ) → is_blank_line b ≡ false → item_text_of_lines (ls ++ b ∷ []) ≡ concat ls ++ b
unfolding item_text_of_lines
body-some [] b h = rw h refl
body-some (l ∷ []) b h = rw h (sym (append_assoc l [] b))
body-some (l ∷ m ∷ ls) b h = ap (λ x. l ++ x) (body-some (m ∷ ls) b h) ∙ sym (append_assoc l (concat (m ∷ ls)) b)

pub body-nil : item_text_of_lines [] ≡ []
unfolding item_text_of_lines
body-nil = refl

-- ---- quiet lines and the relation

none_heads : (l : List ℕ) → ¬ IsSeparatorLine l → (o : Option Envelope) → separator_of (content l) ≡ o → separator_of (content l) ≡ None
none_heads l h None e = e
none_heads l h (Some v) e = absurd (h (v, separator_is (content l) v e))

pub heads_none : (l : List ℕ) → ¬ IsSeparatorLine l → separator_of (content l) ≡ None
heads_none l h = none_heads l h (separator_of (content l)) refl

pub none_is : (l : List ℕ) → separator_of (content l) ≡ None → ¬ IsSeparatorLine l
none_is l h s = let e : Some s.0 ≡ None = sym (separator_all (content l) s.0 s.1) ∙ h in absurd (cc)

quiet_next : (p : Bool) (l : List ℕ) → (p ≡ true → ¬ IsSeparatorLine l) → heads p l ≡ None
quiet_next true l h = heads_none l (h refl)
quiet_next false l h = refl

pub heads_any : (p : Bool) (l : List ℕ) → ¬ IsSeparatorLine l → heads p l ≡ None
heads_any true l h = heads_none l h
heads_any false l h = refl

pub quiet_from : (p : Bool) (l : List ℕ) (ls : List (List ℕ)) → (p ≡ true → ¬ IsSeparatorLine l) → NoneSeparates (l ∷ ls) → Quiet p (l ∷ ls)
quiet_from p l [] h n = (quiet_next p l h, tt)
quiet_from p l (m ∷ ls) h n = (quiet_next p l h, quiet_from (is_blank_line l) m ls (λ b. n.0 (blank_says l b)) n.1)

pub quiet_false : (ls : List (List ℕ)) → NoneSeparates ls → Quiet false ls
quiet_false [] n = tt
quiet_false (l ∷ ls) n = quiet_from false l ls (λ e. absurd (cc)) n

next_quiet : (p : Bool) (l : List ℕ) → heads p l ≡ None → p ≡ true → ¬ IsSeparatorLine l
next_quiet true l h e = none_is l h
next_quiet false l h e = absurd (cc)

pub none_separates : (p : Bool) (ls : List (List ℕ)) → Quiet p ls → NoneSeparates ls
none_separates p [] q = tt
none_separates p (l ∷ []) q = tt
none_separates p (l ∷ m ∷ ls) q = (λ b. next_quiet (is_blank_line l) m q.1.0 (says_blank l b), none_separates (is_blank_line l) (m ∷ ls) q.1)

pub quiet_blanks : (p : Bool) (bs : List (List ℕ)) → AllByRecursion IsBlankLine bs → Quiet p bs
quiet_blanks p [] h = tt
quiet_blanks p (b ∷ bs) h = (heads_blank p b h.0, quiet_blanks (is_blank_line b) bs h.1)

pub last_blanks : (bs : List (List ℕ)) → AllByRecursion IsBlankLine bs → last_blank true bs ≡ true
last_blanks [] h = refl
last_blanks (b ∷ bs) h = ap (λ p. last_blank p bs) (says_blank b h.0) ∙ last_blanks bs h.1

unblank : (b : Bool) (l : List ℕ) → is_blank_line l ≡ b → ¬ IsBlankLine l → is_blank_line l ≡ false
unblank true l e h = absurd (h (blank_says l e))
unblank false l e h = e

pub is_unblank : (l : List ℕ) → ¬ IsBlankLine l → is_blank_line l ≡ false
is_unblank l h = unblank (is_blank_line l) l refl h

pub body-unblank : (ls : List (List ℕ)) → EndsUnblank ls → item_text_of_lines ls ≡ concat ls
unfolding item_text_of_lines
body-unblank [] h = refl
body-unblank (l ∷ []) h = rw (is_unblank l h) (sym (append-nil l))
body-unblank (l ∷ m ∷ ls) h = ap (λ x. l ++ x) (body-unblank (m ∷ ls) h)

pub ends_later : (l : List ℕ) (ls : List (List ℕ)) → EndsUnblank (l ∷ ls) → EndsUnblank ls
ends_later l [] h = tt
ends_later l (m ∷ ls) h = h

abbrev pub one : Envelope → List ℕ → Item
one e t = record { envelope = e; text = t }

-- ---- what is divided in the relation is what is computed

pub blocks_split : (is : List Item) (ls : List (List ℕ)) → AreBlocks is ls → front_and_items_of_lines true ls ≡ record { front = []; items = is }
blocks_split [] ls h = ap (front_and_items_of_lines true) h ∙ split-nil true
blocks_split (i ∷ is) ls (h, sep, none, inl last) =
    let e : heads true h ≡ Some i.envelope = separator_all (content h) i.envelope sep in
    let q = split-quiet false (lines i.text) [] (quiet_false (lines i.text) none) in
    let all : front_and_items_of_lines false (lines i.text) ≡ with_lines (lines i.text) nothing =
    ap (front_and_items_of_lines false) (sym (append-nil (lines i.text))) ∙ q ∙ ap (with_lines (lines i.text)) (split-nil (last_blank false (lines i.text))) in
    let ends = subst EndsUnblank last.1 last.2 in
    let t : item_text_of_lines (lines i.text ++ []) ≡ i.text =
    ap item_text_of_lines (append-nil (lines i.text)) ∙ body-unblank (lines i.text) (ends_later h (lines i.text) ends) ∙ concat-lines i.text in
    ap (front_and_items_of_lines true) last.1 ∙ split-some true h (lines i.text) i.envelope e ∙ ap (with_new_item i.envelope) all
    ∙ rw (t, last.0) refl
blocks_split (i ∷ is) ls (h, sep, none, inr more) =
    let blank = more.0 in
    let rest = more.1 in
    let e : heads true h ≡ Some i.envelope = separator_all (content h) i.envelope sep in
    let b = says_blank blank more.2 in
    let q = split-quiet false (lines i.text) (blank ∷ rest) (quiet_false (lines i.text) none) in
    let next : front_and_items_of_lines (last_blank false (lines i.text)) (blank ∷ rest) ≡ with_front_line blank (record { front = []; items = is }) =
    split-none (last_blank false (lines i.text)) blank rest (heads_blank (last_blank false (lines i.text)) blank more.2)
    ∙ ap (λ p. with_front_line blank (front_and_items_of_lines p rest)) b ∙ ap (with_front_line blank) (blocks_split is rest more.4) in
    let t : item_text_of_lines (lines i.text ++ blank ∷ []) ≡ i.text = body-blank (lines i.text) blank b ∙ concat-lines i.text in
    ap (front_and_items_of_lines true) more.3 ∙ split-some true h (lines i.text ++ blank ∷ rest) i.envelope e
    ∙ ap (with_new_item i.envelope) (q ∙ ap (with_lines (lines i.text)) next)
    ∙ ap (λ x. record { front = []; items = one i.envelope x ∷ is }) t

-- the items of a division are those that are computed
pub divides_items : (bytes : List ℕ) (is : List Item) → DividesIntoItems bytes is → items_of bytes ≡ is
divides_items bytes is (blanks, rest, e, b, blocks) =
    let q = split-quiet true blanks rest (quiet_blanks true blanks b) in
    let r : front_and_items_of_lines (last_blank true blanks) rest ≡ record { front = []; items = is } =
    ap (λ p. front_and_items_of_lines p rest) (last_blanks blanks b) ∙ blocks_split is rest blocks in
    ap (λ (s : FrontAndItems). s.items) (ap (front_and_items_of_lines true) e ∙ q ∙ ap (with_lines blanks) r)

-- ---- what is computed is in the relation

pub last_line : (ls : List (List ℕ)) → (ls ≡ []) ⊎ ((ts : List (List ℕ)) × (b : List ℕ) × (ls ≡ ts ++ b ∷ []))
last_line [] = inl refl
last_line (l ∷ ls) = more l ls (last_line ls)
  where
    more : (l : List ℕ) (ls : List (List ℕ)) → (ls ≡ []) ⊎ ((ts : List (List ℕ)) × (b : List ℕ) × (ls ≡ ts ++ b ∷ []))
        → (l ∷ ls ≡ []) ⊎ ((ts : List (List ℕ)) × (b : List ℕ) × (l ∷ ls ≡ ts ++ b ∷ []))
    more l ls (inl e) = inr ([], l, ap (λ x. l ∷ x) e)
    more l ls (inr (ts, b, e)) = inr (l ∷ ts, b, ap (λ x. l ∷ x) e)

pub quiet_front : (p : Bool) (a b : List (List ℕ)) → Quiet p (a ++ b) → Quiet p a
quiet_front p [] b h = tt
quiet_front p (l ∷ a) b h = (h.0, quiet_front (is_blank_line l) a b h.1)

pub quiet_back : (p : Bool) (a b : List (List ℕ)) → Quiet p (a ++ b) → Quiet (last_blank p a) b
quiet_back p [] b h = h
quiet_back p (l ∷ a) b h = quiet_back (is_blank_line l) a b h.1

ends_from : (ts : List (List ℕ)) (b : List ℕ) → ¬ IsBlankLine b → EndsUnblank (ts ++ b ∷ [])
ends_from [] b h = h
ends_from (t ∷ []) b h = h
ends_from (t ∷ u ∷ ts) b h = ends_from (u ∷ ts) b h

pub concat_snoc : (ts : List (List ℕ)) (b : List ℕ) → concat (ts ++ b ∷ []) ≡ concat ts ++ b
concat_snoc [] b = append-nil b
concat_snoc (t ∷ ts) b = ap (λ x. t ++ x) (concat_snoc ts b) ∙ sym (append_assoc t (concat ts) b)

pub heading_unblank : (l : List ℕ) (e : Envelope) → separator_of (content l) ≡ Some e → ¬ IsBlankLine l
heading_unblank l e s b = let bad : Some e ≡ None = sym s ∙ ap separator_of b ∙ no_envelope in absurd (cc)

pub unblank_not : (l : List ℕ) → is_blank_line l ≡ false → ¬ IsBlankLine l
unblank_not l e b = let bad : true ≡ false = sym (says_blank l b) ∙ e in absurd (cc)

-- after a message's lines comes nothing, or they end in a blank line
abbrev pub Goes : Bool → List (List ℕ) → List (List ℕ) → List Item → Type 0
Goes p f rest is = ((is ≡ []) × (rest ≡ [])) ⊎ (last_blank p f ≡ true)

goes_off : (p : Bool) (f rest : List (List ℕ)) (is : List Item) → Goes p f rest is → last_blank p f ≡ false → (is ≡ []) × (rest ≡ [])
goes_off p f rest is (inl h) e = h
goes_off p f rest is (inr h) e = let bad : true ≡ false = sym h ∙ e in absurd (cc)

block_nil : (l : List ℕ) (e : Envelope) (rest : List (List ℕ)) (is : List Item) → separator_of (content l) ≡ Some e
    → Goes false [] rest is → AreBlocks (one e (item_text_of_lines []) ∷ is) (l ∷ rest)
block_nil l e rest is s g =
    let off = goes_off false [] rest is g refl in
    let t : lines (item_text_of_lines []) ≡ [] = ap lines body-nil ∙ lines-nil in (
      l,
      separator_is (content l) e s,
      rw t tt,
      inl (off.0, ap (λ x. l ∷ x) (off.1 ∙ sym t), rw off.1 (heading_unblank l e s)),
    )

block_some : (l : List ℕ) (e : Envelope) (ts : List (List ℕ)) (b : List ℕ) (rest : List (List ℕ)) (is : List Item) → separator_of (content l) ≡ Some e
    → AreLines ((ts ++ b ∷ []) ++ rest) → Quiet false (ts ++ b ∷ []) → AreBlocks is rest → Goes false (ts ++ b ∷ []) rest is
    → (blank : Bool) → is_blank_line b ≡ blank → AreBlocks (one e (item_text_of_lines (ts ++ b ∷ [])) ∷ is) (l ∷ ((ts ++ b ∷ []) ++ rest))
block_some l e ts b rest is s are q blocks g true k =
    let here = are_front (ts ++ b ∷ []) rest are in
    let t : lines (item_text_of_lines (ts ++ b ∷ [])) ≡ ts = ap lines (body-blank ts b k) ∙ lines-concat ts (are_front ts (b ∷ []) here) in (
      l,
      separator_is (content l) e s,
      rw t (none_separates false ts (quiet_front false ts (b ∷ []) q)),
      inr (b, rest, blank_says b k, ap (λ x. l ∷ x) (append_assoc ts (b ∷ []) rest ∙ ap (λ x. x ++ b ∷ rest) (sym t)), blocks),
    )
block_some l e ts b rest is s are q blocks g false k =
    let here = are_front (ts ++ b ∷ []) rest are in
    let off = goes_off false (ts ++ b ∷ []) rest is g (last_append false ts (b ∷ []) ∙ k) in
    let t : lines (item_text_of_lines (ts ++ b ∷ [])) ≡ ts ++ b ∷ [] =
    ap lines (body-some ts b k ∙ sym (concat_snoc ts b)) ∙ lines-concat (ts ++ b ∷ []) here in
    let whole : (ts ++ b ∷ []) ++ rest ≡ ts ++ b ∷ [] = ap (λ x. (ts ++ b ∷ []) ++ x) off.1 ∙ append-nil (ts ++ b ∷ []) in (
      l,
      separator_is (content l) e s,
      rw t (none_separates false (ts ++ b ∷ []) q),
      inl (off.0, ap (λ x. l ∷ x) (whole ∙ sym t), subst (λ (x : List (List ℕ)). EndsUnblank (l ∷ x)) (sym whole) (ends_from (l ∷ ts) b (unblank_not b k))),
    )

block_of : (l : List ℕ) (e : Envelope) (f rest : List (List ℕ)) (is : List Item) → separator_of (content l) ≡ Some e
    → AreLines (f ++ rest) → Quiet false f → AreBlocks is rest → Goes false f rest is → AreBlocks (one e (item_text_of_lines f) ∷ is) (l ∷ (f ++ rest))
block_of l e f rest is s are q blocks g = cases (last_line f)
  where
    cases : (f ≡ []) ⊎ ((ts : List (List ℕ)) × (b : List ℕ) × (f ≡ ts ++ b ∷ [])) → AreBlocks (one e (item_text_of_lines f) ∷ is) (l ∷ (f ++ rest))
    cases (inl z) =
        let G : List (List ℕ) → Type 0 = λ x. Goes false x rest is in
        let P : List (List ℕ) → Type 0 = λ x. AreBlocks (one e (item_text_of_lines x) ∷ is) (l ∷ (x ++ rest)) in
        subst P (sym z) (block_nil l e rest is s (subst G z g))
    cases (inr (ts, b, z)) =
        let A : List (List ℕ) → Type 0 = λ x. AreLines (x ++ rest) in
        let G : List (List ℕ) → Type 0 = λ x. Goes false x rest is in
        let P : List (List ℕ) → Type 0 = λ x. AreBlocks (one e (item_text_of_lines x) ∷ is) (l ∷ (x ++ rest)) in
        subst P (sym z) (block_some l e ts b rest is s (subst A z are) (subst (Quiet false) z q) blocks (subst G z g) (is_blank_line b) refl)

pub record Reads (p : Bool) (ls : List (List ℕ)) (s : FrontAndItems) : Type 0 where
  pub rest : List (List ℕ)
  pub are : ls ≡ s.front ++ rest
  pub quiet : Quiet p s.front
  pub blocks : AreBlocks s.items rest
  pub goes : Goes p s.front rest s.items

reads_none : (p : Bool) (l : List ℕ) (ls : List (List ℕ)) (s : FrontAndItems) → heads p l ≡ None → Reads (is_blank_line l) ls s → Reads p (l ∷ ls) (with_front_line l s)
reads_none p l ls s h r = record { rest = r.rest; are = ap (λ x. l ∷ x) r.are; quiet = (h, r.quiet); blocks = r.blocks; goes = r.goes }

reads_some : (l : List ℕ) (ls : List (List ℕ)) (s : FrontAndItems) (e : Envelope) → heads true l ≡ Some e → AreLines (l ∷ ls) → Reads false ls s → Reads true (l ∷ ls) (with_new_item e s)
reads_some l ls s e h are r =
    let A : List (List ℕ) → Type 0 = λ x. AreLines x in
    let B : List (List ℕ) → Type 0 = λ x. AreBlocks (one e (item_text_of_lines s.front) ∷ s.items) (l ∷ x) in
    record {
      rest = l ∷ ls;
      are = refl;
      quiet = tt;
      blocks = subst B (sym r.are) (block_of l e s.front r.rest s.items h (subst A r.are (are_back (l ∷ []) ls are)) r.quiet r.blocks r.goes);
      goes = inr refl;
    }

reads_head : (p : Bool) (l : List ℕ) (ls : List (List ℕ)) → AreLines (l ∷ ls) → (o : Option Envelope) → heads p l ≡ o
    → ((b : Bool) → Reads b ls (front_and_items_of_lines b ls)) → Reads p (l ∷ ls) (front_and_items_of_lines p (l ∷ ls))
reads_head p l ls are None h r = subst (Reads p (l ∷ ls)) (sym (split-none p l ls h)) (reads_none p l ls (front_and_items_of_lines (is_blank_line l) ls) h (r (is_blank_line l)))
reads_head true l ls are (Some e) h r = subst (Reads true (l ∷ ls)) (sym (split-some true l ls e h)) (reads_some l ls (front_and_items_of_lines false ls) e h are (r false))
reads_head false l ls are (Some e) h r = let bad : None ≡ Some e = h in absurd (cc)

pub reads : (p : Bool) (ls : List (List ℕ)) → AreLines ls → Reads p ls (front_and_items_of_lines p ls)
reads p [] are = subst (Reads p []) (sym (split-nil p)) (record { rest = []; are = refl; quiet = tt; blocks = refl; goes = inl (refl, refl) })
reads p (l ∷ ls) are = reads_head p l ls are (heads p l) refl (λ b. reads b ls (are_back (l ∷ []) ls are))

-- the blank lines in front
pub record Unblank (f : List (List ℕ)) : Type 0 where
  pub blanks : List (List ℕ)
  pub line : List ℕ
  pub more : List (List ℕ)
  pub are : f ≡ blanks ++ line ∷ more
  pub all_blank : AllByRecursion IsBlankLine blanks
  pub some : ¬ IsBlankLine line

pub first_unblank : (f : List (List ℕ)) → AllByRecursion IsBlankLine f ⊎ Unblank f
first_unblank [] = inl tt
first_unblank (l ∷ ls) = cases (is_blank_line l) refl (first_unblank ls)
  where
    cases : (b : Bool) → is_blank_line l ≡ b → AllByRecursion IsBlankLine ls ⊎ Unblank ls → AllByRecursion IsBlankLine (l ∷ ls) ⊎ Unblank (l ∷ ls)
    cases false k o = inr (record { blanks = []; line = l; more = ls; are = refl; all_blank = tt; some = unblank_not l k })
    cases true k (inl h) = inl (blank_says l k, h)
    cases true k (inr u) = inr (record { blanks = l ∷ u.blanks; line = u.line; more = u.more; are = ap (λ x. l ∷ x) u.are; all_blank = (blank_says l k, u.all_blank); some = u.some })

pub all_back : (a b : List (List ℕ)) → AllByRecursion IsBlankLine (a ++ b) → AllByRecursion IsBlankLine b
all_back [] b h = h
all_back (l ∷ a) b h = all_back a b h.1
