-- What the bytes so far say of every file that begins with them.
use Rattle.std.proofs.Common.{◌≡◌, ◌≢◌, ℕ, Bool, true, false, ◌==◌, List, [], ◌∷◌, ◌++◌, refl, ap, ◌∙◌, sym, if◌then◌else◌, Option, Some, None, append_assoc, append-nil, inl, inr, ◌⊎◌, subst}
use Rattle.mail_core.specs.Lines.{lines, onto_first_line}
use Rattle.mbox_core.specs.Separator.{Envelope}
use Rattle.mbox_core.specs.Division.{Item, FrontAndItems, is_blank_line, with_front_line, with_new_item, front_and_items_of_lines, item_text_of_lines}
use Rattle.mbox_stream.specs.Stream.{IsBeginning, byte_before_nonempty, settled_bytes, all_blank, items_unless_preamble, all_but_last}
use Rattle.mbox_items.proofs.LineLemmas.{lines-nil}
use Rattle.mbox_items.proofs.SplitLemmas.{heads, split-nil, split-none, split-some, one}

-- ---- beginnings

pub begin_nil : {A : Type 0} (b : List A) → IsBeginning [] b
begin_nil b = (b, refl)

pub begin_cons : {A : Type 0} (x : A) (a b : List A) → IsBeginning a b → IsBeginning (x ∷ a) (x ∷ b)
begin_cons x a b (rest, e) = (rest, ap (λ l. x ∷ l) e)

pub begin_all_but_last : {A : Type 0} (a : List A) → IsBeginning (all_but_last a) a
unfolding all_but_last
begin_all_but_last [] = ([], refl)
begin_all_but_last (x ∷ []) = (x ∷ [], refl)
begin_all_but_last (x ∷ y ∷ ys) = begin_cons x (all_but_last (y ∷ ys)) (y ∷ ys) (begin_all_but_last (y ∷ ys))

pub begin_trans : {A : Type 0} (a b c : List A) → IsBeginning a b → IsBeginning b c → IsBeginning a c
begin_trans a b c (r, e) (s, f) = (r ++ s, f ∙ ap (λ l. l ++ s) e ∙ append_assoc a r s)

-- ---- more lines leave all items but the last as they are

pub record Grown (s t : FrontAndItems) : Type 0 where
  pub more : List (List ℕ)
  pub front : t.front ≡ s.front ++ more
  pub items : IsBeginning (all_but_last s.items) (all_but_last t.items)
  pub kept : (s.items ≡ []) ⊎ ((t.front ≡ s.front) × (t.items ≢ []))

grown_line : (l : List ℕ) (s t : FrontAndItems) → Grown s t → Grown (with_front_line l s) (with_front_line l t)
grown_line l s t g = record {
  more = g.more;
  front = ap (λ ls. l ∷ ls) g.front;
  items = g.items;
  kept = cases g.kept;
}
  where
    cases : (s.items ≡ []) ⊎ ((t.front ≡ s.front) × (t.items ≢ [])) → (s.items ≡ []) ⊎ ((l ∷ t.front ≡ l ∷ s.front) × (t.items ≢ []))
    cases (inl e) = inl e
    cases (inr (e, n)) = inr (ap (λ ls. l ∷ ls) e, n)

begin_none : (i : Item) (is js : List Item) → is ≡ [] → IsBeginning (all_but_last (i ∷ is)) js
unfolding all_but_last
begin_none i [] js e = begin_nil js
begin_none i (x ∷ is) js e = absurd (cc)

begin_some : (i : Item) (is js : List Item) → js ≢ [] → IsBeginning (all_but_last is) (all_but_last js)
    → IsBeginning (all_but_last (i ∷ is)) (all_but_last (i ∷ js))
unfolding all_but_last
begin_some i is [] n b = absurd (n refl)
begin_some i [] (y ∷ js) n b = begin_nil (i ∷ all_but_last (y ∷ js))
begin_some i (x ∷ is) (y ∷ js) n b = begin_cons i (all_but_last (x ∷ is)) (all_but_last (y ∷ js)) b

grown_item : (e : Envelope) (s t : FrontAndItems) → Grown s t → Grown (with_new_item e s) (with_new_item e t)
grown_item e s t g = record {
  more = [];
  front = refl;
  items = cases g.kept;
  kept = inr (refl, λ (h : one e (item_text_of_lines t.front) ∷ t.items ≡ []). absurd (cc));
}
  where
    cases : (s.items ≡ []) ⊎ ((t.front ≡ s.front) × (t.items ≢ []))
        → IsBeginning (all_but_last (one e (item_text_of_lines s.front) ∷ s.items)) (all_but_last (one e (item_text_of_lines t.front) ∷ t.items))
    cases (inl h) = begin_none (one e (item_text_of_lines s.front)) s.items (all_but_last (one e (item_text_of_lines t.front) ∷ t.items)) h
    cases (inr (h, n)) =
        subst (λ (f : List (List ℕ)). IsBeginning (all_but_last (one e (item_text_of_lines s.front) ∷ s.items)) (all_but_last (one e (item_text_of_lines f) ∷ t.items))) (sym h)
        (begin_some (one e (item_text_of_lines s.front)) s.items t.items n g.items)

grown_nil : (t : FrontAndItems) → Grown (record { front = []; items = [] }) t
unfolding all_but_last
grown_nil t = record { more = t.front; front = refl; items = begin_nil (all_but_last t.items); kept = inl refl }

grown_head : (p : Bool) (l : List ℕ) (ls ms : List (List ℕ)) → (o : Option Envelope) → heads p l ≡ o
    → ((b : Bool) → Grown (front_and_items_of_lines b ls) (front_and_items_of_lines b (ls ++ ms))) → Grown (front_and_items_of_lines p (l ∷ ls)) (front_and_items_of_lines p (l ∷ (ls ++ ms)))
grown_head p l ls ms None h r =
    rw (split-none p l ls h, split-none p l (ls ++ ms) h) (grown_line l (front_and_items_of_lines (is_blank_line l) ls) (front_and_items_of_lines (is_blank_line l) (ls ++ ms)) (r (is_blank_line l)))
grown_head p l ls ms (Some e) h r =
    rw (split-some p l ls e h, split-some p l (ls ++ ms) e h) (grown_item e (front_and_items_of_lines false ls) (front_and_items_of_lines false (ls ++ ms)) (r false))

pub grown : (p : Bool) (ls ms : List (List ℕ)) → Grown (front_and_items_of_lines p ls) (front_and_items_of_lines p (ls ++ ms))
grown p [] ms = rw (split-nil p) (grown_nil (front_and_items_of_lines p ms))
grown p (l ∷ ls) ms = grown_head p l ls ms (heads p l) refl (λ b. grown b ls ms)

-- where something stands in front, there are no items of the file
pub begin_blank : (a b : Bool) (s t : FrontAndItems) → all_blank s.front ≡ a → all_blank t.front ≡ b → Grown s t
    → IsBeginning (all_but_last (items_unless_preamble s)) (all_but_last (items_unless_preamble t))
unfolding all_but_last
begin_blank false b s t h k g = rw h (begin_nil (all_but_last (items_unless_preamble t)))
begin_blank true true s t h k g = rw (h, k) g.items
begin_blank true false s t h k g = cases g.kept
  where
    cases : (s.items ≡ []) ⊎ ((t.front ≡ s.front) × (t.items ≢ [])) → IsBeginning (all_but_last (items_unless_preamble s)) (all_but_last (items_unless_preamble t))
    cases (inl e) = rw (h, e) (begin_nil (all_but_last (items_unless_preamble t)))
    cases (inr (e, n)) = let bad : true ≡ false = sym h ∙ ap all_blank (sym e) ∙ k in absurd (cc)

-- ---- the bytes up to the last LF

-- whatever follows, the lines are these and then those of what follows
abbrev pub Ended : List ℕ → Type 0
Ended a = (x : List ℕ) → lines (a ++ x) ≡ lines a ++ lines x

ended_nil : Ended []
ended_nil x = ap (λ ls. ls ++ lines x) (sym lines-nil)

onto_append : (b : ℕ) (ls ms : List (List ℕ)) → ls ≢ [] → onto_first_line b (ls ++ ms) ≡ onto_first_line b ls ++ ms
onto_append b [] ms h = absurd (h refl)
onto_append b (l ∷ ls) ms h = refl

some_line : (b : ℕ) (bs : List ℕ) → lines (b ∷ bs) ≢ []
unfolding lines
some_line b bs = cases (b == 10) (lines bs)
  where
    cases : (t : Bool) (ls : List (List ℕ)) → (if t then (b ∷ []) ∷ ls else onto_first_line b ls) ≢ []
    cases true ls e = cc
    cases false [] e = cc
    cases false (l ∷ ls) e = cc

ended_lf : (b : ℕ) (a : List ℕ) → (b == 10) ≡ true → Ended a → Ended (b ∷ a)
unfolding lines
ended_lf b a t h x = rw (t, h x) refl

not_lf : (b : ℕ) (bs : List ℕ) → (b == 10) ≡ false → lines (b ∷ bs) ≡ onto_first_line b (lines bs)
unfolding lines
not_lf b bs t = rw t refl

ended_some : (b c : ℕ) (a : List ℕ) → (b == 10) ≡ false → Ended (c ∷ a) → Ended (b ∷ c ∷ a)
ended_some b c a t h x =
    not_lf b ((c ∷ a) ++ x) t ∙ ap (onto_first_line b) (h x) ∙ onto_append b (lines (c ∷ a)) (lines x) (some_line c a)
    ∙ ap (λ ls. ls ++ lines x) (sym (not_lf b (c ∷ a) t))

ended_before : (b : ℕ) (a : List ℕ) → (b == 10) ≡ false → Ended a → Ended (byte_before_nonempty b a)
ended_before b [] t h = ended_nil
ended_before b (c ∷ a) t h = ended_some b c a t h

pub settled_ended : (stream : List ℕ) → Ended (settled_bytes stream)
unfolding settled_bytes
settled_ended [] = ended_nil
settled_ended (b ∷ bs) = cases (b == 10) refl (settled_ended bs)
  where
    cases : (t : Bool) → (b == 10) ≡ t → Ended (settled_bytes bs) → Ended (if t then b ∷ settled_bytes bs else byte_before_nonempty b (settled_bytes bs))
    cases true e h = ended_lf b (settled_bytes bs) e h
    cases false e h = ended_before b (settled_bytes bs) e h

-- they are a beginning of those of every continuation
before_begin : (b : ℕ) (a c : List ℕ) → IsBeginning a c → IsBeginning (byte_before_nonempty b a) (byte_before_nonempty b c)
before_begin b [] c h = begin_nil (byte_before_nonempty b c)
before_begin b (x ∷ a) [] (rest, e) = absurd (cc)
before_begin b (x ∷ a) (y ∷ c) h = begin_cons b (x ∷ a) (y ∷ c) h

before_all : (b : ℕ) (a : List ℕ) → IsBeginning (byte_before_nonempty b a) (b ∷ a)
before_all b [] = begin_nil (b ∷ [])
before_all b (x ∷ a) = ([], sym (append-nil (b ∷ x ∷ a)))

pub settled_bytes_begin : (stream more : List ℕ) → IsBeginning (settled_bytes stream) (settled_bytes (stream ++ more))
unfolding settled_bytes
settled_bytes_begin [] more = begin_nil (settled_bytes more)
settled_bytes_begin (b ∷ bs) more = cases (b == 10) (settled_bytes_begin bs more)
  where
    cases : (t : Bool) → IsBeginning (settled_bytes bs) (settled_bytes (bs ++ more))
        → IsBeginning (if t then b ∷ settled_bytes bs else byte_before_nonempty b (settled_bytes bs))
        (if t then b ∷ settled_bytes (bs ++ more) else byte_before_nonempty b (settled_bytes (bs ++ more)))
    cases true h = begin_cons b (settled_bytes bs) (settled_bytes (bs ++ more)) h
    cases false h = before_begin b (settled_bytes bs) (settled_bytes (bs ++ more)) h

pub settled_bytes_all : (stream : List ℕ) → IsBeginning (settled_bytes stream) stream
unfolding settled_bytes
settled_bytes_all [] = ([], refl)
settled_bytes_all (b ∷ bs) = cases (b == 10) (settled_bytes_all bs)
  where
    cases : (t : Bool) → IsBeginning (settled_bytes bs) bs → IsBeginning (if t then b ∷ settled_bytes bs else byte_before_nonempty b (settled_bytes bs)) (b ∷ bs)
    cases true h = begin_cons b (settled_bytes bs) bs h
    cases false h = begin_trans (byte_before_nonempty b (settled_bytes bs)) (b ∷ settled_bytes bs) (b ∷ bs) (before_all b (settled_bytes bs)) (begin_cons b (settled_bytes bs) bs h)
