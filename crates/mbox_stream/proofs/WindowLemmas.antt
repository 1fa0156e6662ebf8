-- The steps of what a cutter keeps.
use Rattle.std.proofs.Common.{◌≡◌, ℕ, suc, ◌<◌, Bool, true, false, ◌==◌, List, [], ◌∷◌, ◌++◌, length, get_or, refl, arith, ap, ◌∙◌, sym, if◌then◌else◌, Some, append_assoc, append-nil, subst}
use Rattle.std.specs.List.{concat}
use Rattle.mail_core.specs.Lines.{lines, content}
use Rattle.mbox_core.specs.Separator.{Envelope, separator_of}
use Rattle.mbox_core.specs.Division.{Item, FrontAndItems, is_blank_line, front_and_items_of_lines}
use Rattle.mbox_core.specs.Division.{with_new_item, item_text_of_lines, items_after_separator, items_from_separator, text_before_separator}
use Rattle.mbox_stream.specs.Stream.{byte_before_nonempty, settled_bytes, file_items, all_but_last, settled_items, IsSettledPreamble}
use Rattle.mbox_stream.specs.Window.{HoldsWholeLines, IsOpenMessageWindow, EndsOpenMessage}
use Rattle.mbox_items.proofs.SplitLemmas.{Quiet, last_append, with_lines, split-quiet, split-some, body-blank, one}
use Rattle.mbox_stream.proofs.StreamLemmas.{Ended, settled_ended}
use Rattle.mbox_stream.proofs.StreamLaws.{all_snoc, file_items_preamble}

pub settled_nil : settled_bytes [] ≡ []
unfolding settled_bytes
settled_nil = refl

-- more bytes
pub window_fed : (e : Envelope) (stream window bytes : List ℕ) (items : List Item) → IsOpenMessageWindow e stream window items → IsOpenMessageWindow e (stream ++ bytes) (window ++ bytes) items
window_fed e stream window bytes items w = record {
  bytes_before = w.bytes_before;
  stream_is = ap (λ x. x ++ bytes) w.stream_is ∙ append_assoc w.bytes_before window bytes;
  whole_lines = w.whole_lines;
  items_after_more = w.items_after_more;
}

-- whole lines, and the settled bytes of what follows
tail_is : (a b : ℕ) (xs ys : List ℕ) → a ∷ xs ≡ b ∷ ys → xs ≡ ys
tail_is a b xs ys e = cc

before_is : (b : ℕ) (a bs : List ℕ) → byte_before_nonempty b a ≡ b ∷ bs → a ≡ bs
before_is b [] bs e = absurd (cc)
before_is b (c ∷ a) bs e = tail_is b b (c ∷ a) bs e

before_append : (b : ℕ) (a x : List ℕ) → byte_before_nonempty b a ≡ b ∷ a → byte_before_nonempty b (a ++ x) ≡ b ∷ (a ++ x)
before_append b [] x e = absurd (cc)
before_append b (c ∷ a) x e = refl

pub settled_append : (a x : List ℕ) → settled_bytes a ≡ a → settled_bytes (a ++ x) ≡ a ++ settled_bytes x
unfolding settled_bytes
settled_append [] x e = refl
settled_append (b ∷ bs) x e = cases (b == 10) e (settled_append bs x)
  where
    cases : (t : Bool) → (if t then b ∷ settled_bytes bs else byte_before_nonempty b (settled_bytes bs)) ≡ b ∷ bs
        → (settled_bytes bs ≡ bs → settled_bytes (bs ++ x) ≡ bs ++ settled_bytes x)
        → (if t then b ∷ settled_bytes (bs ++ x) else byte_before_nonempty b (settled_bytes (bs ++ x))) ≡ b ∷ (bs ++ settled_bytes x)
    cases true e h = ap (λ l. b ∷ l) (h (tail_is b b (settled_bytes bs) bs e))
    cases false e h =
        let later = before_is b (settled_bytes bs) bs e in
        ap (byte_before_nonempty b) (h later) ∙ before_append b bs (settled_bytes x) (ap (byte_before_nonempty b) (sym later) ∙ e)

-- a message is cut off
pub window_cut : (e next : Envelope) (stream front rest : List ℕ) (items : List Item) (item : Item)
    → IsOpenMessageWindow e stream (front ++ rest) items → EndsOpenMessage e next front item → IsOpenMessageWindow next stream rest (items ++ item ∷ [])
window_cut e next stream front rest items item w c = record {
  bytes_before = w.bytes_before ++ front;
  stream_is = w.stream_is ∙ sym (append_assoc w.bytes_before front rest);
  whole_lines = settled_append w.bytes_before front w.whole_lines ∙ ap (λ x. w.bytes_before ++ x) c.whole_lines;
  items_after_more = λ more. ap file_items (append_assoc w.bytes_before front more) ∙ w.items_after_more (front ++ more) ∙ ap (λ x. items ++ x) (c.items more)
      ∙ sym (append_assoc items (item ∷ []) (items_after_separator (Some next) more));
}

-- Where no whole line of the window separates, the items given are the settled ones.
pub window_settled : (e : Envelope) (stream window : List ℕ) (items : List Item) → IsOpenMessageWindow e stream window items
    → items_from_separator (settled_bytes window) ≡ [] → items ≡ settled_items stream
window_settled e stream window items w n =
    let i : Item = one e (text_before_separator (settled_bytes window)) in
    let whole : settled_bytes stream ≡ w.bytes_before ++ settled_bytes window = ap settled_bytes w.stream_is ∙ settled_append w.bytes_before window w.whole_lines in
    let last : items_after_separator (Some e) (settled_bytes window) ≡ i ∷ [] = ap (λ x. i ∷ x) n in
    sym (ap (λ x. all_but_last (file_items x)) whole ∙ ap all_but_last (w.items_after_more (settled_bytes window) ∙ ap (λ x. items ++ x) last) ∙ all_snoc items i)

-- at the end they are the items given and those of the window
pub window_end : (e : Envelope) (stream window : List ℕ) (items : List Item) → IsOpenMessageWindow e stream window items → file_items stream ≡ items ++ items_after_separator (Some e) window
window_end e stream window items w = ap file_items w.stream_is ∙ w.items_after_more window

-- lines that begin no message, then a blank line and a separator line
pub cut_off : (e next : Envelope) (front : List ℕ) (ts : List (List ℕ)) (b h : List ℕ) → settled_bytes front ≡ front
    → lines front ≡ (ts ++ b ∷ []) ++ h ∷ [] → Quiet false (ts ++ b ∷ []) → is_blank_line b ≡ true → separator_of (content h) ≡ Some next
    → EndsOpenMessage e next front (one e (concat ts))
cut_off e next front ts b h whole are q k s = record { whole_lines = whole; items = items }
  where
    ended : Ended front
    ended = subst (λ (x : List ℕ). Ended x) whole (settled_ended front)

    items : (more : List ℕ) → items_after_separator (Some e) (front ++ more) ≡ one e (concat ts) ∷ items_after_separator (Some next) more
    items more =
        let off = ts ++ b ∷ [] in
        let rest : FrontAndItems = with_new_item next (front_and_items_of_lines false (lines more)) in
        let here : lines (front ++ more) ≡ off ++ h ∷ lines more = ended more ∙ ap (λ x. x ++ lines more) are ∙ append_assoc off (h ∷ []) (lines more) in
        let split : front_and_items_of_lines false (lines (front ++ more)) ≡ with_lines off rest =
        ap (front_and_items_of_lines false) here ∙ split-quiet false off (h ∷ lines more) q
        ∙ ap (λ p. with_lines off (front_and_items_of_lines p (h ∷ lines more))) (last_append false ts (b ∷ []) ∙ k)
        ∙ ap (with_lines off) (split-some true h (lines more) next s) in
        ap (λ (x : FrontAndItems). (with_new_item e x).items) split
        ∙ ap (λ t. one e t ∷ rest.items) (ap item_text_of_lines (append-nil off) ∙ body-blank ts b k)

none_some : (is : List Item) (i : Item) (js : List Item) → [] ≡ is ++ i ∷ js → ⊥
none_some [] i js e = absurd (cc)
none_some (x ∷ is) i js e = absurd (cc)

-- Where a message is open, no line in front is faulty.
pub window_sound : (e : Envelope) (stream window : List ℕ) (items : List Item) → IsOpenMessageWindow e stream window items → (offset : ℕ) → ¬ IsSettledPreamble stream offset
window_sound e stream window items w offset p =
    let whole : settled_bytes stream ≡ w.bytes_before ++ settled_bytes window = ap settled_bytes w.stream_is ∙ settled_append w.bytes_before window w.whole_lines in
    none_some items (one e (text_before_separator (settled_bytes window))) (items_from_separator (settled_bytes window))
    (sym (file_items_preamble (settled_bytes stream) offset p) ∙ ap file_items whole ∙ w.items_after_more (settled_bytes window))

-- ---- which bytes are whole lines

pub ended_whole : (a : List ℕ) → HoldsWholeLines a → Ended a
ended_whole a h = subst (λ (x : List ℕ). Ended x) h (settled_ended a)

some_before : (b : ℕ) (a : List ℕ) → byte_before_nonempty b (a ++ 10 ∷ []) ≡ b ∷ (a ++ 10 ∷ [])
some_before b [] = refl
some_before b (c ∷ a) = refl

-- bytes that end in LF
pub settled_lf : (a : List ℕ) → HoldsWholeLines (a ++ 10 ∷ [])
unfolding settled_bytes
settled_lf [] = refl
settled_lf (b ∷ a) = cases (b == 10) (settled_lf a)
  where
    cases : (t : Bool) → settled_bytes (a ++ 10 ∷ []) ≡ a ++ 10 ∷ []
        → (if t then b ∷ settled_bytes (a ++ 10 ∷ []) else byte_before_nonempty b (settled_bytes (a ++ 10 ∷ []))) ≡ b ∷ (a ++ 10 ∷ [])
    cases true e = ap (λ l. b ∷ l) e
    cases false e = ap (byte_before_nonempty b) e ∙ some_before b a

-- bytes without LF
pub no_item_is_settled_before_a_preamble : (xs : List ℕ) → ((k : ℕ) → k < length xs → (get_or xs k 0 == 10) ≡ true → ⊥) → settled_bytes xs ≡ []
unfolding settled_bytes
no_item_is_settled_before_a_preamble [] h = refl
no_item_is_settled_before_a_preamble (x ∷ xs) h = cases (x == 10) refl (no_item_is_settled_before_a_preamble xs (λ k lt e. h (suc k) (omega (arith, lt)) e))
  where
    cases : (t : Bool) → (x == 10) ≡ t → settled_bytes xs ≡ [] → (if t then x ∷ settled_bytes xs else byte_before_nonempty x (settled_bytes xs)) ≡ []
    cases true e g = absurd (h 0 (omega arith) e)
    cases false e g = ap (byte_before_nonempty x) g

-- they settle nothing
pub settled_same : (a p : List ℕ) → settled_bytes p ≡ [] → settled_bytes (a ++ p) ≡ settled_bytes a
unfolding settled_bytes
settled_same [] p h = h
settled_same (b ∷ a) p h = cases (b == 10) (settled_same a p h)
  where
    cases : (t : Bool) → settled_bytes (a ++ p) ≡ settled_bytes a
        → (if t then b ∷ settled_bytes (a ++ p) else byte_before_nonempty b (settled_bytes (a ++ p))) ≡ (if t then b ∷ settled_bytes a else byte_before_nonempty b (settled_bytes a))
    cases true e = ap (λ l. b ∷ l) e
    cases false e = ap (byte_before_nonempty b) e

-- whole lines, and what settles nothing
pub settled_front : (a b : List ℕ) → HoldsWholeLines a → settled_bytes b ≡ [] → settled_bytes (a ++ b) ≡ a
settled_front a b w n = settled_append a b w ∙ ap (λ x. a ++ x) n ∙ append-nil a

pub whole_append : (a b : List ℕ) → HoldsWholeLines a → HoldsWholeLines b → HoldsWholeLines (a ++ b)
whole_append a b w v = settled_append a b w ∙ ap (λ x. a ++ x) v
