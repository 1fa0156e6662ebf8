-- How long the texts of a message are at most, and those of the messages of an mbox: no two fields overlap, and no two messages.
use Rattle.std.proofs.Common.{◌≡◌, ℕ, ◌+◌, ◌-◌, ◌*◌, ◌≤◌, Bool, true, false, cond, List, [], ◌∷◌, ◌++◌, length, arith, refl, ap, sym, ◌∙◌, Some, inl, inr, length-append, codes}
use Rattle.std.specs.List.{concat, find}
use Rattle.std.proofs.lemmas.List.Folds.{concat-append}
use Rattle.mail_core.specs.Fields.{HeaderField, fields_of, field_of, has_name}
use Rattle.mail_core.specs.Headers.{or_empty, ids_in_field, unfolded_subject_of}
use Rattle.mail_core.specs.Lines.{lines}
use Rattle.mbox_core.specs.Division.{Item, AreBlocks, DividesIntoItems}
use Rattle.mbox_items.proofs.LineLemmas.{concat-lines}
use Rattle.luvazhimba_c.specs.Ids.{id_texts}
use Rattle.luvazhimba_c.specs.Fields.{unfolded_from_of, field_texts, field_text_lengths, all_field_texts, all_field_text_lengths}
use Rattle.luvazhimba_c.proofs.IdBounds.{unfolded_few, body_len, total, all_few, body_is, AreApart, names_apart, of_fields, count_few}

-- ---- four fields of a message

-- no entry passes both tests
abbrev Apart : (HeaderField → Bool) → (HeaderField → Bool) → Type 0
Apart p q = (f : HeaderField) → p f ≡ true → q f ≡ true → ⊥

module _ (p q r s : HeaderField → Bool) (pq : Apart p q) (pr : Apart p r) (ps : Apart p s) (qr : Apart q r) (qs : Apart q s) (rs : Apart r s) where
  abbrev found : List HeaderField → ℕ
  found fs = body_len (find p fs) + body_len (find q fs) + body_len (find r fs) + body_len (find s fs)

  four_few : (fs : List HeaderField) → found fs ≤ total fs
  four_few [] = omega arith
  four_few (f ∷ fs) = go (p f) refl (q f) refl (r f) refl (s f) refl (four_few fs)
    where
      go : (a : Bool) → p f ≡ a → (b : Bool) → q f ≡ b → (c : Bool) → r f ≡ c → (d : Bool) → s f ≡ d → found fs ≤ total fs
          → body_len (cond a (Some f) (find p fs)) + body_len (cond b (Some f) (find q fs)) + body_len (cond c (Some f) (find r fs))
          + body_len (cond d (Some f) (find s fs)) ≤ length f.body + total fs
      go true a true b c e d g h = absurd (pq f a b)
      go true a false b true c d g h = absurd (pr f a c)
      go true a false b false c true d h = absurd (ps f a d)
      go true a false b false c false d h = omega (arith, h)
      go false a true b true c d g h = absurd (qr f b c)
      go false a true b false c true d h = absurd (qs f b d)
      go false a true b false c false d h = omega (arith, h)
      go false a false b true c true d h = absurd (rs f c d)
      go false a false b true c false d h = omega (arith, h)
      go false a false b false c true d h = omega (arith, h)
      go false a false b false c false d h = omega (arith, h)

-- ---- all texts of a message

-- how long the body of a field is
abbrev body_of : List ℕ → List ℕ → ℕ
body_of text name = length (or_empty (field_of text name))

four_fields : (text k l m n : List ℕ) → AreApart k l → AreApart k m → AreApart k n → AreApart l m → AreApart l n → AreApart m n
    → body_of text k + body_of text l + body_of text m + body_of text n ≤ length text
four_fields text k l m n kl km kn lm ln mn =
    let fs = fields_of text in
    let one : body_of text k ≡ body_len (find (has_name k) fs) = body_is (find (has_name k) fs) in
    let two : body_of text l ≡ body_len (find (has_name l) fs) = body_is (find (has_name l) fs) in
    let three : body_of text m ≡ body_len (find (has_name m) fs) = body_is (find (has_name m) fs) in
    let four : body_of text n ≡ body_len (find (has_name n) fs) = body_is (find (has_name n) fs) in
    let sum = four_few (has_name k) (has_name l) (has_name m) (has_name n) (names_apart k l kl) (names_apart k m km) (names_apart k n kn) (names_apart l m lm)
    (names_apart l n ln) (names_apart m n mn) fs in
    let all = all_few text in
    omega (arith, one, two, three, four, sum, all)

pub field_texts_few : (message : List ℕ) → length (field_texts message) ≤ length message
field_texts_few message =
    let own = field_of message (codes "message-id") in
    let references = field_of message (codes "references") in
    let reply = field_of message (codes "in-reply-to") in
    let with_references = four_fields message (codes "subject") (codes "from") (codes "message-id") (codes "references")
    (omega arith) (omega arith) (omega arith) (omega arith) (omega arith) (omega arith) in
    let with_reply = four_fields message (codes "subject") (codes "from") (codes "message-id") (codes "in-reply-to")
    (omega arith) (omega arith) (omega arith) (omega arith) (omega arith) (omega arith) in
    let s = body_of message (codes "subject") in
    let f = body_of message (codes "from") in
    let ids = of_fields own references reply (ids_in_field references) (length message - (s + f)) refl (omega (arith, with_references)) (omega (arith, with_reply)) in
    let subject : length (unfolded_subject_of message) ≤ s = unfolded_few (or_empty (field_of message (codes "subject"))) in
    let from : length (unfolded_from_of message) ≤ f = unfolded_few (or_empty (field_of message (codes "from"))) in
    let all : length (field_texts message) ≡ length (unfolded_subject_of message) + (length (unfolded_from_of message) + length (id_texts message)) = simp length-append (omega arith) in
    let texts = ids.texts in
    omega (arith, texts, subject, from, all, with_references)

pub field_lens_few : (message : List ℕ) → 5 * length (field_text_lengths message) ≤ length message + 10
field_lens_few message = let ids = count_few message in omega (arith, ids)

-- ---- all texts of an mbox

-- how long the messages are together
abbrev all_len : List Item → ℕ
all_len [] = 0
all_len (item ∷ items) = length item.text + all_len items

blocks_len : (items : List Item) (ls : List (List ℕ)) → AreBlocks items ls → all_len items ≤ length (concat ls)
blocks_len [] ls e = omega arith
blocks_len (i ∷ is) ls (heading, says, none, inl e) =
    let last : all_len is ≡ 0 = ap all_len e.0 in
    let whole : length (concat ls) ≡ length heading + length i.text =
    ap (λ x. length (concat x)) e.1 ∙ length-append heading (concat (lines i.text)) ∙ ap (λ x. length heading + length x) (concat-lines i.text) in
    omega (arith, last, whole)
blocks_len (i ∷ is) ls (heading, says, none, inr e) =
    let behind = e.0 ∷ e.1 in
    let whole : length (concat ls) ≡ length heading + length (i.text ++ concat behind) =
    ap (λ x. length (concat x)) e.3 ∙ length-append heading (concat (lines i.text ++ behind))
    ∙ ap (λ x. length heading + length x) (concat-append (lines i.text) behind ∙ ap (λ x. x ++ concat behind) (concat-lines i.text)) in
    let text : length (i.text ++ concat behind) ≡ length i.text + length (concat behind) = length-append i.text (concat behind) in
    let blank : length (concat behind) ≡ length e.0 + length (concat e.1) = length-append e.0 (concat e.1) in
    let later = blocks_len is e.1 e.4 in
    omega (arith, whole, text, blank, later)

messages_fit : (mbox : List ℕ) (items : List Item) → DividesIntoItems mbox items → all_len items ≤ length mbox
messages_fit mbox items (blanks, rest, are, all, blocks) =
    let whole : length mbox ≡ length (concat blanks ++ concat rest) = ap length (sym (concat-lines mbox) ∙ ap concat are ∙ concat-append blanks rest) in
    let both : length (concat blanks ++ concat rest) ≡ length (concat blanks) + length (concat rest) = length-append (concat blanks) (concat rest) in
    let later = blocks_len items rest blocks in
    omega (arith, whole, both, later)

texts_in : (items : List Item) → length (all_field_texts items) ≤ all_len items
texts_in [] = omega arith
texts_in (i ∷ is) =
    let all : length (all_field_texts (i ∷ is)) ≡ length (field_texts i.text) + length (all_field_texts is) = length-append (field_texts i.text) (all_field_texts is) in
    let few = field_texts_few i.text in
    let later = texts_in is in
    omega (arith, all, few, later)

lens_in : (items : List Item) → 5 * length (all_field_text_lengths items) ≤ all_len items + 10 * length items
lens_in [] = omega arith
lens_in (i ∷ is) =
    let all : length (all_field_text_lengths (i ∷ is)) ≡ length (field_text_lengths i.text) + length (all_field_text_lengths is) = length-append (field_text_lengths i.text)
    (all_field_text_lengths is) in
    let few = field_lens_few i.text in
    let later = lens_in is in
    omega (arith, all, few, later)

pub all_texts_few : (mbox : List ℕ) (items : List Item) → DividesIntoItems mbox items → length (all_field_texts items) ≤ length mbox
all_texts_few mbox items d = let texts = texts_in items in let fit = messages_fit mbox items d in omega (arith, texts, fit)

pub all_lens_few : (mbox : List ℕ) (items : List Item) → DividesIntoItems mbox items → 5 * length (all_field_text_lengths items) ≤ length mbox + 10 * length items
all_lens_few mbox items d = let lens = lens_in items in let fit = messages_fit mbox items d in omega (arith, lens, fit)
