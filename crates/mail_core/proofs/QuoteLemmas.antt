-- The grammar of quoted strings and the scan for the quote that ends them are one.
use Rattle.std.proofs.Common.{◌≡◌, ◌≢◌, ℕ, zero, suc, ◌+◌, ◌<◌, ◌≤◌, Bool, true, false, ◌==◌, List, [], ◌∷◌, ◌++◌, length, refl, arith, ap, ◌∙◌, sym}
use Rattle.std.proofs.Common.{Some, None, if◌then◌else◌, drop, get_or, ◌-◌, length-drop, drop-drop, get_or-drop, append_assoc}
use Rattle.mail_core.specs.Quotes.{IsQuotedContent, QuoteByteKind, quote_byte_kind, after_closing_quote, unquoted}
use Rattle.mail_core.specs.Quotes.IsQuotedContent.{nothing, byte, pair}
use Rattle.mail_core.specs.Quotes.QuoteByteKind.{ending, escape, plain}
use Rattle.mail_core.proofs.CommentLemmas.{is_it, is_not, not_equal}
use Rattle.mail_core.proofs.CommentTable.{drop-at, drop-past}

abbrev QuoteFacts : ℕ → QuoteByteKind → Type 0
QuoteFacts b ending = b ≡ 34
QuoteFacts b escape = b ≡ 92
QuoteFacts b plain = (b ≢ 34) × (b ≢ 92)

quote_mark_is : (b : ℕ) → QuoteFacts b (quote_byte_kind b)
unfolding quote_byte_kind
quote_mark_is b = go (b == 34) (b == 92) refl refl
  where
    go : (p q : Bool) → (b == 34) ≡ p → (b == 92) ≡ q → QuoteFacts b (if p then ending else (if q then escape else plain))
    go true q hp hq = is_it b 34 hp
    go false true hp hq = is_it b 92 hq
    go false false hp hq = (is_not b 34 hp, is_not b 92 hq)

pub comment_mark-ending : quote_byte_kind 34 ≡ ending
unfolding quote_byte_kind
comment_mark-ending = refl

pub comment_mark-escape : quote_byte_kind 92 ≡ escape
unfolding quote_byte_kind
comment_mark-escape = refl

pub comment_mark-plain : (b : ℕ) → b ≢ 34 → b ≢ 92 → quote_byte_kind b ≡ plain
unfolding quote_byte_kind
comment_mark-plain b p q = rw (not_equal b 34 p, not_equal b 92 q) refl

pub quote-end : (q : Bool) → after_closing_quote q [] ≡ None
unfolding after_closing_quote
quote-end true = refl
quote-end false = refl

pub quote-quoted : (b : ℕ) (bs : List ℕ) → after_closing_quote true (b ∷ bs) ≡ after_closing_quote false bs
unfolding after_closing_quote
quote-quoted b bs = refl

pub quote-ending : (b : ℕ) (bs : List ℕ) → quote_byte_kind b ≡ ending → after_closing_quote false (b ∷ bs) ≡ Some bs
unfolding after_closing_quote
quote-ending b bs e = rw (e, after_closing_quote) refl

pub quote-escape : (b : ℕ) (bs : List ℕ) → quote_byte_kind b ≡ escape → after_closing_quote false (b ∷ bs) ≡ after_closing_quote true bs
unfolding after_closing_quote
quote-escape b bs e = rw (e, after_closing_quote) refl

pub quote-plain : (b : ℕ) (bs : List ℕ) → quote_byte_kind b ≡ plain → after_closing_quote false (b ∷ bs) ≡ after_closing_quote false bs
unfolding after_closing_quote
quote-plain b bs e = rw (e, after_closing_quote) refl

-- what the grammar ends, the scan ends there
pub quote_ends : (rest : List ℕ) {xs vs : List ℕ} → IsQuotedContent xs vs → after_closing_quote false (xs ++ 34 ∷ rest) ≡ Some rest
quote_ends rest nothing = quote-ending 34 rest comment_mark-ending
quote_ends rest (byte {b = b} {bs = bs} p q h) = quote-plain b (bs ++ 34 ∷ rest) (comment_mark-plain b p q) ∙ quote_ends rest h
quote_ends rest (pair {b = b} {bs = bs} h) = quote-escape 92 (b ∷ bs ++ 34 ∷ rest) comment_mark-escape ∙ quote-quoted b (bs ++ 34 ∷ rest) ∙ quote_ends rest h

-- what the scan ends, the grammar ends there
abbrev Text : List ℕ → List ℕ → Type 0
Text xs rest = (i : List ℕ) × (v : List ℕ) × IsQuotedContent i v × (xs ≡ i ++ 34 ∷ rest)

abbrev Left : Bool → List ℕ → List ℕ → Type 0
Left false xs rest = Text xs rest
Left true xs rest = (b : ℕ) × (bs : List ℕ) × (xs ≡ b ∷ bs) × Text bs rest

text_of : (xs : List ℕ) (q : Bool) (rest : List ℕ) → after_closing_quote q xs ≡ Some rest → Left q xs rest
text_of [] q rest h = absurd (let e : None ≡ Some rest = sym (quote-end q) ∙ h in cc)
text_of (b ∷ bs) true rest h = (b, bs, refl, text_of bs false rest (sym (quote-quoted b bs) ∙ h))
text_of (b ∷ bs) false rest h = go (quote_byte_kind b) refl (quote_mark_is b) (text_of bs)
  where
    go : (m : QuoteByteKind) → quote_byte_kind b ≡ m → QuoteFacts b m → ((q : Bool) (rest : List ℕ) → after_closing_quote q bs ≡ Some rest → Left q bs rest) → Text (b ∷ bs) rest
    go ending e f ih =
        let same : Some bs ≡ Some rest = sym (quote-ending b bs e) ∙ h in
        let eq : bs ≡ rest = cc in
        ([], [], nothing, (cc))
    go escape e f ih =
        let w = ih true rest (sym (quote-escape b bs e) ∙ h) in
        (92 ∷ w.0 ∷ w.3.0, w.0 ∷ w.3.1, pair w.3.2, (let k : b ∷ bs ≡ 92 ∷ w.0 ∷ w.3.0 ++ 34 ∷ rest = cc (f, w.2, w.3.3) in k))
    go plain e f ih =
        let w = ih false rest (sym (quote-plain b bs e) ∙ h) in
        (b ∷ w.0, b ∷ w.1, byte f.0 f.1 w.2, ap (λ (l : List ℕ). b ∷ l) w.3)

pub quoted_of : (xs rest : List ℕ) → after_closing_quote false xs ≡ Some rest → (i : List ℕ) × (v : List ℕ) × IsQuotedContent i v × (xs ≡ i ++ 34 ∷ rest)
quoted_of xs rest h = text_of xs false rest h

-- where one quote is never ended, no later quote is
pub later_open : (xs : List ℕ) (q : Bool) (k : ℕ) → after_closing_quote q xs ≡ None → k < length xs → get_or xs k 0 ≡ 34 → after_closing_quote false (drop (suc k) xs) ≡ None
later_open [] q k h lt e = absurd (let bad : k < 0 = lt in omega (arith, bad))
later_open (b ∷ bs) true zero h lt e = sym (quote-quoted b bs) ∙ h
later_open (b ∷ bs) true (suc k) h lt e = later_open bs false k (sym (quote-quoted b bs) ∙ h) (let g : suc k < suc (length bs) = lt in omega (arith, g)) e
later_open (b ∷ bs) false zero h lt e =
    absurd (let m : quote_byte_kind b ≡ ending = ap quote_byte_kind e ∙ comment_mark-ending in let bad : None ≡ Some bs = sym h ∙ quote-ending b bs m in cc)
later_open (b ∷ bs) false (suc k) h lt e = go (quote_byte_kind b) refl (later_open bs)
  where
    less : k < length bs
    less = let g : suc k < suc (length bs) = lt in omega (arith, g)

    go : (m : QuoteByteKind) → quote_byte_kind b ≡ m
        → ((q : Bool) (k : ℕ) → after_closing_quote q bs ≡ None → k < length bs → get_or bs k 0 ≡ 34 → after_closing_quote false (drop (suc k) bs) ≡ None)
        → after_closing_quote false (drop (suc k) bs) ≡ None
    go ending m ih = absurd (let bad : None ≡ Some bs = sym h ∙ quote-ending b bs m in cc)
    go escape m ih = ih true k (sym (quote-escape b bs m) ∙ h) less e
    go plain m ih = ih false k (sym (quote-plain b bs m) ∙ h) less e

-- the same, by places of a text
pub at-quoted : (text : List ℕ) (i : ℕ) → i < length text → after_closing_quote true (drop i text) ≡ after_closing_quote false (drop (i + 1) text)
at-quoted text i h = ap (after_closing_quote true) (drop-at text i _ h refl) ∙ quote-quoted _ _

pub at-ending : (text : List ℕ) (i : ℕ) → i < length text → get_or text i 0 ≡ 34 → after_closing_quote false (drop i text) ≡ Some (drop (i + 1) text)
at-ending text i h e = ap (after_closing_quote false) (drop-at text i 34 h e) ∙ quote-ending 34 _ comment_mark-ending

pub at-escape : (text : List ℕ) (i : ℕ) → i < length text → get_or text i 0 ≡ 92 → after_closing_quote false (drop i text) ≡ after_closing_quote true (drop (i + 1) text)
at-escape text i h e = ap (after_closing_quote false) (drop-at text i 92 h e) ∙ quote-escape 92 _ comment_mark-escape

pub at-plain : (text : List ℕ) (i : ℕ) → i < length text → get_or text i 0 ≢ 34 → get_or text i 0 ≢ 92 → after_closing_quote false (drop i text) ≡ after_closing_quote false (drop (i + 1) text)
at-plain text i h p q = ap (after_closing_quote false) (drop-at text i _ h refl) ∙ quote-plain _ _ (comment_mark-plain _ p q)

pub at-past : (text : List ℕ) (q : Bool) (i : ℕ) → length text ≤ i → after_closing_quote q (drop i text) ≡ None
at-past text q i h = ap (after_closing_quote q) (drop-past text i h) ∙ quote-end q

-- where one quote is never ended, no quote after it is
pub later_at : (text : List ℕ) (p i : ℕ) → p ≤ i → i < length text → get_or text i 0 ≡ 34 → after_closing_quote false (drop p text) ≡ None → after_closing_quote false (drop (i + 1) text) ≡ None
later_at text p i le lt e h =
    let here : get_or (drop p text) (i - p) 0 ≡ 34 = get_or-drop p text (i - p) 0 ∙ ap (λ (n : ℕ). get_or text n 0) (let k : p + (i - p) ≡ i = omega arith in k) ∙ e in
    let under : i - p < length (drop p text) = simp length-drop (omega arith) in
    ap (after_closing_quote false) (ap (λ (n : ℕ). drop n text) (let k : i + 1 ≡ p + suc (i - p) = omega arith in k) ∙ sym (drop-drop (suc (i - p)) p text))
    ∙ later_open (drop p text) false (i - p) h under here

-- the meaning, byte by byte
unquoted-over : (q : Bool) → unquoted q [] ≡ []
unfolding unquoted
unquoted-over true = refl
unquoted-over false = refl

unquoted-quoted : (b : ℕ) (bs : List ℕ) → unquoted true (b ∷ bs) ≡ b ∷ unquoted false bs
unfolding unquoted
unquoted-quoted b bs = refl

unquoted-escape : (b : ℕ) (bs : List ℕ) → quote_byte_kind b ≡ escape → unquoted false (b ∷ bs) ≡ unquoted true bs
unfolding unquoted
unquoted-escape b bs e = rw (e, unquoted) refl

unquoted-byte : (b : ℕ) (bs : List ℕ) → b ≢ 92 → unquoted false (b ∷ bs) ≡ b ∷ unquoted false bs
unfolding unquoted
unquoted-byte b bs n = go (quote_byte_kind b) refl (quote_mark_is b)
  where
    go : (m : QuoteByteKind) → quote_byte_kind b ≡ m → QuoteFacts b m → unquoted false (b ∷ bs) ≡ b ∷ unquoted false bs
    go ending e f = rw (e, unquoted) refl
    go escape e f = absurd (n f)
    go plain e f = rw (e, unquoted) refl

-- what the grammar says a quoted text means
pub means : {xs vs : List ℕ} → IsQuotedContent xs vs → unquoted false xs ≡ vs
means nothing = unquoted-over false
means (byte {b = b} {bs = bs} p q h) = unquoted-byte b bs q ∙ ap (λ (l : List ℕ). b ∷ l) (means h)
means (pair {b = b} {bs = bs} h) = unquoted-escape 92 (b ∷ bs) comment_mark-escape ∙ unquoted-quoted b bs ∙ ap (λ (l : List ℕ). b ∷ l) (means h)

-- by places
pub unquoted-past : (q : Bool) (text : List ℕ) (i : ℕ) → length text ≤ i → unquoted q (drop i text) ≡ []
unquoted-past q text i h = ap (unquoted q) (drop-past text i h) ∙ unquoted-over q

pub unquoted-at_quoted : (text : List ℕ) (i : ℕ) → i < length text → unquoted true (drop i text) ≡ get_or text i 0 ∷ unquoted false (drop (i + 1) text)
unquoted-at_quoted text i h = ap (unquoted true) (drop-at text i _ h refl) ∙ unquoted-quoted _ _

pub unquoted-at_escape : (text : List ℕ) (i : ℕ) → i < length text → get_or text i 0 ≡ 92 → unquoted false (drop i text) ≡ unquoted true (drop (i + 1) text)
unquoted-at_escape text i h e = ap (unquoted false) (drop-at text i 92 h e) ∙ unquoted-escape 92 _ comment_mark-escape

pub unquoted-at_byte : (text : List ℕ) (i : ℕ) → i < length text → get_or text i 0 ≢ 92 → unquoted false (drop i text) ≡ get_or text i 0 ∷ unquoted false (drop (i + 1) text)
unquoted-at_byte text i h n = ap (unquoted false) (drop-at text i _ h refl) ∙ unquoted-byte _ _ n

-- one byte more
pub unquoted-push : (value later : List ℕ) (b : ℕ) (rest whole : List ℕ) → later ≡ value ++ b ∷ [] → value ++ b ∷ rest ≡ whole → later ++ rest ≡ whole
unquoted-push value later b rest whole e h = ap (λ (l : List ℕ). l ++ rest) e ∙ append_assoc value (b ∷ []) rest ∙ h
