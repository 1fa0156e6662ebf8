-- The loop that finds where a text ends.
use Rattle.std.proofs.Common.{◌≡◌, ℕ, ◌+◌, ◌≤◌, Bool, true, false, List, [], ◌∷◌, ◌++◌, length, take, drop, refl, arith, ap, ◌∙◌, sym, if◌then◌else◌, Some, None, append_assoc, append-nil, subst}
use Rattle.std.proofs.lemmas.List.{drop-drop, drop_all}
use Rattle.std.proofs.Math.Seq.{take-add}
use Rattle.std.specs.List.{concat}
use Rattle.mail_core.specs.Lines.{lines, content}
use Rattle.mbox_items.specs.Separator.{Envelope, separator_of}
use Rattle.mbox_items.specs.Division.{is_blank_line, FrontAndItems, item_text_of_lines, with_new_item, front_and_items_of_lines, items_after_separator, text_before_separator, items_from_separator}
use Rattle.mbox_items.proofs.LineLemmas.{concat-lines, AreLines, are_front, lines-concat, lines_are, lines-nil}
use Rattle.mbox_items.proofs.SplitLemmas.{Quiet, last_blank, heads, with_lines, nothing, split-nil, split-some, split-quiet, body-blank, body-some, body-nil}

concat_append : (a b : List (List ℕ)) → concat (a ++ b) ≡ concat a ++ concat b
concat_append [] b = refl
concat_append (l ∷ a) b = ap (λ x. l ++ x) (concat_append a b) ∙ sym (append_assoc l (concat a) (concat b))

-- up to `at` the bytes are whole lines, none of which begins an item
pub record Front (bytes : List ℕ) (at : ℕ) (after_blank : Bool) : Type 0 where
  pub low : at ≤ length bytes
  pub cut : lines bytes ≡ lines (take at bytes) ++ lines (drop at bytes)
  pub split : front_and_items_of_lines false (lines bytes) ≡ with_lines (lines (take at bytes)) (front_and_items_of_lines after_blank (lines (drop at bytes)))

pub front_start : (bytes : List ℕ) → Front bytes 0 false
front_start bytes = record {
  low = omega arith;
  cut = ap (λ ls. ls ++ lines bytes) (sym lines-nil);
  split = ap (λ ls. with_lines ls (front_and_items_of_lines false (lines bytes))) (sym lines-nil);
}

-- some lines more
module _ (bytes : List ℕ) (at n : ℕ) (cs : List (List ℕ)) (fits : at + n ≤ length bytes)
    (next : lines (drop at bytes) ≡ cs ++ lines (drop n (drop at bytes))) (joined : concat cs ≡ take n (drop at bytes))
    (cut : lines bytes ≡ lines (take at bytes) ++ lines (drop at bytes)) where
  cut_more : lines bytes ≡ (lines (take at bytes) ++ cs) ++ lines (drop (at + n) bytes)
  cut_more = cut ∙ ap (λ ls. lines (take at bytes) ++ ls) (next ∙ ap (λ x. cs ++ lines x) (drop-drop n at bytes))
      ∙ sym (append_assoc (lines (take at bytes)) cs (lines (drop (at + n) bytes)))

  -- the lines up to there
  pub taken_more : lines (take (at + n) bytes) ≡ lines (take at bytes) ++ cs
  taken_more =
      let A : List (List ℕ) → Type 0 = λ x. AreLines x in
      let are = are_front (lines (take at bytes) ++ cs) (lines (drop (at + n) bytes)) (subst A cut_more (lines_are bytes)) in
      let all : concat (lines (take at bytes) ++ cs) ≡ take (at + n) bytes =
      concat_append (lines (take at bytes)) cs ∙ ap (λ x. x ++ concat cs) (concat-lines (take at bytes))
      ∙ ap (λ x. take at bytes ++ x) joined ∙ sym (take-add at n bytes) in
      ap lines (sym all) ∙ lines-concat (lines (take at bytes) ++ cs) are

  pub cut_on : lines bytes ≡ lines (take (at + n) bytes) ++ lines (drop (at + n) bytes)
  cut_on = cut_more ∙ ap (λ ls. ls ++ lines (drop (at + n) bytes)) (sym taken_more)

pub front_more : (bytes : List ℕ) (at n : ℕ) (b : Bool) (cs : List (List ℕ)) → at + n ≤ length bytes
    → lines (drop at bytes) ≡ cs ++ lines (drop n (drop at bytes)) → concat cs ≡ take n (drop at bytes)
    → Front bytes at b → Quiet b cs → Front bytes (at + n) (last_blank b cs)
front_more bytes at n b cs fits next joined f q = record {
  low = fits;
  cut = cut_on bytes at n cs fits next joined f.cut;
  split =
      let s = front_and_items_of_lines (last_blank b cs) (lines (drop (at + n) bytes)) in
      let here : front_and_items_of_lines b (lines (drop at bytes)) ≡ with_lines cs s =
      ap (front_and_items_of_lines b) next ∙ split-quiet b cs (lines (drop n (drop at bytes))) q
      ∙ ap (λ x. with_lines cs (front_and_items_of_lines (last_blank b cs) (lines x))) (drop-drop n at bytes) in
      f.split ∙ ap (with_lines (lines (take at bytes))) here
      ∙ ap (λ (x : List (List ℕ)). record { front = x; items = s.items }) (sym (append_assoc (lines (take at bytes)) cs s.front))
      ∙ ap (λ x. with_lines x s) (sym (taken_more bytes at n cs fits next joined f.cut));
}

-- where the text ends, if the message ended here
pub record State (bytes : List ℕ) (at end : ℕ) (after_blank : Bool) : Type 0 where
  pub front : Front bytes at after_blank
  pub stop : end ≤ at
  pub text : item_text_of_lines (lines (take at bytes)) ≡ take end bytes

pub state_start : (bytes : List ℕ) → State bytes 0 0 false
state_start bytes = record { front = front_start bytes; stop = omega arith; text = ap item_text_of_lines lines-nil ∙ body-nil }

-- one line more
module _ (bytes : List ℕ) (at n : ℕ) (line : List ℕ) (is : line ≡ take n (drop at bytes)) (fits : at + n ≤ length bytes)
    (next : lines (drop at bytes) ≡ take n (drop at bytes) ∷ lines (drop n (drop at bytes))) where
  pub next_line : lines (drop at bytes) ≡ (line ∷ []) ++ lines (drop n (drop at bytes))
  next_line = next ∙ ap (λ l. l ∷ lines (drop n (drop at bytes))) (sym is)

  pub joined_line : concat (line ∷ []) ≡ take n (drop at bytes)
  joined_line = append-nil line ∙ is

  pub text_blank : lines bytes ≡ lines (take at bytes) ++ lines (drop at bytes) → is_blank_line line ≡ true → item_text_of_lines (lines (take (at + n) bytes)) ≡ take at bytes
  text_blank cut k = ap item_text_of_lines (taken_more bytes at n (line ∷ []) fits next_line joined_line cut)
      ∙ body-blank (lines (take at bytes)) line k ∙ concat-lines (take at bytes)

  pub text_some : lines bytes ≡ lines (take at bytes) ++ lines (drop at bytes) → is_blank_line line ≡ false → item_text_of_lines (lines (take (at + n) bytes)) ≡ take (at + n) bytes
  text_some cut k = ap item_text_of_lines (taken_more bytes at n (line ∷ []) fits next_line joined_line cut)
      ∙ body-some (lines (take at bytes)) line k ∙ ap (λ x. x ++ line) (concat-lines (take at bytes))
      ∙ ap (λ x. take at bytes ++ x) is ∙ sym (take-add at n bytes)

  -- a line that begins no item
  pub state_more : (end new : ℕ) (b c : Bool) → State bytes at end b → heads b line ≡ None → is_blank_line line ≡ c
      → new ≡ (if c then at else at + n) → State bytes (at + n) new c
  state_more end new b true s h k e = record {
    front = subst (λ (x : Bool). Front bytes (at + n) x) k (front_more bytes at n b (line ∷ []) fits next_line joined_line s.front (h, tt));
    stop = omega (arith, e);
    text = text_blank s.front.cut k ∙ ap (λ x. take x bytes) (sym e);
  }
  state_more end new b false s h k e = record {
    front = subst (λ (x : Bool). Front bytes (at + n) x) k (front_more bytes at n b (line ∷ []) fits next_line joined_line s.front (h, tt));
    stop = omega (arith, e);
    text = text_some s.front.cut k ∙ ap (λ x. take x bytes) (sym e);
  }

  -- a line that begins an item
  pub split_here : (end : ℕ) (e : Envelope) → State bytes at end true → separator_of (content line) ≡ Some e
      → front_and_items_of_lines false (lines bytes) ≡ with_lines (lines (take at bytes)) (with_new_item e (front_and_items_of_lines false (lines (drop n (drop at bytes)))))
  split_here end e s h = s.front.split
      ∙ ap (λ ls. with_lines (lines (take at bytes)) (front_and_items_of_lines true ls)) next_line
      ∙ ap (with_lines (lines (take at bytes))) (split-some true line (lines (drop n (drop at bytes))) e h)

  pub text_here : (end : ℕ) (e : Envelope) → State bytes at end true → separator_of (content line) ≡ Some e → take end bytes ≡ text_before_separator bytes
  text_here end e s h = sym (ap (λ (x : FrontAndItems). item_text_of_lines x.front) (split_here end e s h) ∙ ap item_text_of_lines (append-nil (lines (take at bytes))) ∙ s.text)

  pub items_here : (end : ℕ) (e : Envelope) → State bytes at end true → separator_of (content line) ≡ Some e
      → items_after_separator (Some e) (drop n (drop at bytes)) ≡ items_from_separator bytes
  items_here end e s h = sym (ap (λ (x : FrontAndItems). x.items) (split_here end e s h))

-- at the end of the bytes
split_end : (bytes : List ℕ) (at end : ℕ) (b : Bool) → State bytes at end b → length bytes ≤ at
    → front_and_items_of_lines false (lines bytes) ≡ with_lines (lines (take at bytes)) nothing
split_end bytes at end b s h = s.front.split
    ∙ ap (λ x. with_lines (lines (take at bytes)) (front_and_items_of_lines b x)) (ap lines (drop_all at bytes h) ∙ lines-nil)
    ∙ ap (with_lines (lines (take at bytes))) (split-nil b)

pub text_end : (bytes : List ℕ) (at end : ℕ) (b : Bool) → State bytes at end b → length bytes ≤ at → take end bytes ≡ text_before_separator bytes
text_end bytes at end b s h = sym (ap (λ (x : FrontAndItems). item_text_of_lines x.front) (split_end bytes at end b s h) ∙ ap item_text_of_lines (append-nil (lines (take at bytes))) ∙ s.text)

pub items_end : (bytes rest : List ℕ) (at end : ℕ) (b : Bool) → State bytes at end b → length bytes ≤ at → items_after_separator None rest ≡ items_from_separator bytes
items_end bytes rest at end b s h = sym (ap (λ (x : FrontAndItems). x.items) (split_end bytes at end b s h))
