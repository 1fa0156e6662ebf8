-- What is written is cut again.
use Rattle.std.proofs.Common.{◌≡◌, ℕ, suc, ◌+◌, ◌-◌, ◌*◌, ◌/◌, ◌%◌, ◌<◌, Bool, true, false, ◌==◌, nat_lt, refl, arith, ap, ◌∙◌, sym, if◌then◌else◌, inl, inr, ◌⊎◌, List, [], ◌∷◌}
use Rattle.std.proofs.Common.{◌++◌, length, length-append, take, take_all, get_or, subst, codes, map, append_assoc, Some, None, ℤ, pos, ◌+ℤ◌, ◌-ℤ◌, ◌*ℤ◌, unsigned_abs}
use Rattle.std.specs.List.{All}
use Rattle.std.specs.Int.{int_rem_euclid}
use Rattle.std.proofs.lemmas.List.{take_more}
use Rattle.std.proofs.lemmas.List.Elements.{All-nil, All-cons, All-tail}
use Rattle.civil_time.specs.Calendar.{weekday, day_of_instant, is_instant}
use Rattle.std.proofs.lemmas.Bool.{eqb-true}
use Rattle.std.proofs.lemmas.Bool.Decides.{nat_tests}
use Rattle.mail_core.specs.Lines.{lines, content, ends_in}
use Rattle.mbox_items.specs.Separator.{Envelope, IsSeparator, IsSenderText, AreSenderTokens, joined_by_spaces, instant_of_local_time}
use Rattle.mbox_items.specs.Division.{Item, IsBlankLine, NoneSeparates, AreBlocks, DividesIntoItems, is_empty_or_ends_in_lf, whole}
use Rattle.civil_time.specs.Dates.{Date, date_of_days_since_1900, days_since_1900}
use Rattle.mbox_items.specs.Written.{IsEnvelope, IsItem, separator_line_text, with_lf, written, whole_item, time_text, ctime_text, as_day_digits, clock_text}
use Rattle.civil_time.specs.Digits.{as_two_digits, as_four_digits}
use Rattle.civil_time.specs.Names.{name_at, weekday_names, month_names}
use Rattle.mbox_items.proofs.LineLemmas.{lines-nil, lines-append, IsEnded, lf_first, more_ended, lf_ended}
use Rattle.mbox_items.proofs.ItemLemmas.{ends_cons, content-lf, never, whole_none}
use Rattle.civil_time.proofs.DateLemmas.{both}
use Rattle.mbox_items.proofs.RunLemmas.{is_run, is_plain, plain_inside, sender_run}
use Rattle.mbox_core.proofs.DigitLemmas.{two_plain, one_plain, four_plain, clock_plain, weekday_plain, month_plain}
use Rattle.mbox_core.proofs.HeadingLemmas.{name_length, day_length, heading_says, rest_small, in_year_after}

-- ---- the separator line is one line

ended_run : (t : List ℕ) → is_run t ≡ true → (x : List ℕ) → IsEnded (x ++ 10 ∷ []) → IsEnded ((t ++ x) ++ 10 ∷ [])
ended_run [] h x e = e
ended_run (b ∷ t) h x e =
    let two = both (is_plain b) (is_run t) h in
    more_ended b ((t ++ x) ++ 10 ∷ []) (plain_inside b two.0) (ended_run t two.1 x e)

ended_space : (x : List ℕ) → IsEnded (x ++ 10 ∷ []) → IsEnded ((32 ∷ x) ++ 10 ∷ [])
ended_space x e = more_ended 32 (x ++ 10 ∷ []) refl e

ended_word : (t : List ℕ) → is_run t ≡ true → IsEnded (t ++ 10 ∷ [])
ended_word [] h = lf_ended
ended_word (b ∷ t) h =
    let two = both (is_plain b) (is_run t) h in
    more_ended b (t ++ 10 ∷ []) (plain_inside b two.0) (ended_word t two.1)

ended_day : (n : ℕ) (x : List ℕ) → IsEnded (x ++ 10 ∷ []) → IsEnded ((as_day_digits n ++ x) ++ 10 ∷ [])
ended_day n x e = cases (nat_lt n 10)
  where
    cases : (t : Bool) → IsEnded (((if t then 32 ∷ (48 + n) ∷ [] else as_two_digits n) ++ x) ++ 10 ∷ [])
    cases true = ended_space ((48 + n) ∷ x) (ended_run ((48 + n) ∷ []) (one_plain n) x e)
    cases false = ended_run (as_two_digits n) (two_plain n) x e

date_ended : (w : ℕ) (date : Date) (s : ℕ) → w < 7 → date.month - 1 < 12 → IsEnded (ctime_text w date s ++ 10 ∷ [])
date_ended w date s hw hm =
    let year = as_four_digits date.year in
    let clock = clock_text s ++ 32 ∷ year in
    let day = as_day_digits date.day ++ 32 ∷ clock in
    let month = name_at (date.month - 1) month_names ++ 32 ∷ day in
    let e4 = ended_space year (ended_word year (four_plain date.year)) in
    let e3 = ended_space clock (ended_run (clock_text s) (clock_plain s) (32 ∷ year) e4) in
    let e2 = ended_space day (ended_day date.day (32 ∷ clock) e3) in
    let e1 = ended_space month (ended_run (name_at (date.month - 1) month_names) (month_plain (date.month - 1) hm) (32 ∷ day) e2) in
    ended_run (name_at w weekday_names) (weekday_plain w hw) (32 ∷ month) e1

-- a text behind another ends as it does
ends-append : (b : ℕ) (xs : List ℕ) (y : ℕ) (ys : List ℕ) → ends_in b (xs ++ y ∷ ys) ≡ ends_in b (y ∷ ys)
ends-append b [] y ys = refl
ends-append b (x ∷ []) y ys = ends_cons x y ys b
ends-append b (x ∷ z ∷ xs) y ys = ends_cons x z (xs ++ y ∷ ys) b ∙ ends-append b (z ∷ xs) y ys

other_digit : (n b : ℕ) → b < 48 → (48 + n == b) ≡ false
other_digit n b h = grind (arith, nat_tests)

year_ends : (n b : ℕ) → b < 48 → ends_in b (as_four_digits n) ≡ false
year_ends n b h = other_digit (n % 100 % 10) b h

date_ends : (w : ℕ) (date : Date) (s b : ℕ) → b < 48 → ends_in b (32 ∷ ctime_text w date s) ≡ false
date_ends w date s b h =
    let year = as_four_digits date.year in
    let clock = clock_text s ++ 32 ∷ year in
    let day = as_day_digits date.day ++ 32 ∷ clock in
    let month = name_at (date.month - 1) month_names ++ 32 ∷ day in
    ends-append b (32 ∷ name_at w weekday_names) 32 month
    ∙ ends-append b (32 ∷ name_at (date.month - 1) month_names) 32 day
    ∙ ends-append b (32 ∷ as_day_digits date.day) 32 clock
    ∙ ends-append b (32 ∷ clock_text s) 32 year
    ∙ ends_cons 32 (48 + date.year / 100 / 10) ((48 + date.year / 100 % 10) ∷ (48 + date.year % 100 / 10) ∷ (48 + date.year % 100 % 10) ∷ []) b
    ∙ year_ends date.year b h

heading_ends : (e : Envelope) (b : ℕ) → b < 48 → ends_in b (separator_line_text e) ≡ false
unfolding time_text
heading_ends e b h =
    let day = day_of_instant e.arrival in
    ends-append b (codes "From " ++ e.sender) 32 (time_text e.arrival)
    ∙ date_ends (weekday day) (date_of_days_since_1900 (days_since_1900 day)) (unsigned_abs (int_rem_euclid e.arrival (pos 86400))) b h

-- what it says is itself
says_itself : (l : List ℕ) → ends_in 10 l ≡ false → ends_in 13 l ≡ false → content (l ++ 10 ∷ []) ≡ l
unfolding content
says_itself l h g = content-lf l h ∙ rw (h, g) refl

heading_content : (e : Envelope) → content (separator_line_text e ++ 10 ∷ []) ≡ separator_line_text e
heading_content e = says_itself (separator_line_text e) (heading_ends e 10 (omega arith)) (heading_ends e 13 (omega arith))

sender_ended : (who : List (List ℕ)) (x : List ℕ) → AreSenderTokens who → IsEnded (x ++ 10 ∷ []) → IsEnded ((joined_by_spaces who ++ x) ++ 10 ∷ [])
sender_ended [] x h e = absurd h
sender_ended (a ∷ []) x h e = ended_run a (sender_run a h) x e
sender_ended (a ∷ b ∷ []) x h e = absurd h
sender_ended (a ∷ word ∷ b ∷ []) x (left, at, right) e =
    let same : joined_by_spaces (a ∷ word ∷ b ∷ []) ++ x ≡ a ++ 32 ∷ (word ++ 32 ∷ (b ++ x)) =
    append_assoc a (32 ∷ (word ++ 32 ∷ b)) x ∙ ap (λ y. a ++ 32 ∷ y) (append_assoc word (32 ∷ b) x) in
    let P : List ℕ → Type 0 = λ y. IsEnded (y ++ 10 ∷ []) in
    subst P (sym same) (ended_run a (sender_run a left) (32 ∷ (word ++ 32 ∷ (b ++ x)))
    (ended_space (word ++ 32 ∷ (b ++ x)) (ended_run word (ap is_run at) (32 ∷ (b ++ x))
    (ended_space (b ++ x) (ended_run b (sender_run b right) x e)))))
sender_ended (a ∷ b ∷ c ∷ d ∷ who) x h e = absurd h

text_ended : (s x : List ℕ) → IsSenderText s → IsEnded (x ++ 10 ∷ []) → IsEnded ((s ++ x) ++ 10 ∷ [])
text_ended s x (who, (h, same)) e = let P : List ℕ → Type 0 = λ y. IsEnded ((y ++ x) ++ 10 ∷ []) in subst P (sym same) (sender_ended who x h e)

heading_ended : (e : Envelope) → IsEnvelope e → IsEnded (separator_line_text e ++ 10 ∷ [])
unfolding time_text
heading_ended e is =
    let day = day_of_instant e.arrival in
    ended_run (codes "From") refl (32 ∷ (e.sender ++ 32 ∷ time_text e.arrival))
    (ended_space (e.sender ++ 32 ∷ time_text e.arrival) (text_ended e.sender (32 ∷ time_text e.arrival) is.is_sender_text
    (ended_space (time_text e.arrival) (date_ended (weekday day) (date_of_days_since_1900 (days_since_1900 day)) (unsigned_abs (int_rem_euclid e.arrival (pos 86400)))
    (rest_small (day +ℤ pos 3)) (in_year_after e is)))))

-- ---- its length

date_length : (w : ℕ) (date : Date) (s : ℕ) → w < 7 → date.month - 1 < 12 → length (ctime_text w date s) ≡ 24
date_length w date s hw hm =
    let year = as_four_digits date.year in
    let clock = clock_text s ++ 32 ∷ year in
    let day = as_day_digits date.day ++ 32 ∷ clock in
    let month = name_at (date.month - 1) month_names ++ 32 ∷ day in
    let lw = name_length w weekday_names (let g : 3 * w + 2 < 21 = omega (arith, hw) in g) in
    let lm = name_length (date.month - 1) month_names (let g : 3 * (date.month - 1) + 2 < 36 = omega (arith, hm) in g) in
    omega (
      arith,
      lw,
      lm,
      day_length date.day,
      length-append (name_at w weekday_names) (32 ∷ month),
      length-append (name_at (date.month - 1) month_names) (32 ∷ day),
      length-append (as_day_digits date.day) (32 ∷ clock),
    )

time_length : (e : Envelope) → IsEnvelope e → length (time_text e.arrival) ≡ 24
unfolding time_text
time_length e is =
    let day = day_of_instant e.arrival in
    date_length (weekday day) (date_of_days_since_1900 (days_since_1900 day)) (unsigned_abs (int_rem_euclid e.arrival (pos 86400))) (rest_small (day +ℤ pos 3)) (in_year_after e is)

pub heading_length : (e : Envelope) → IsEnvelope e → length (with_lf (separator_line_text e)) ≡ 31 + length e.sender
heading_length e is =
    let t = time_text e.arrival in
    omega (arith, time_length e is, length-append (codes "From " ++ (e.sender ++ 32 ∷ t)) (10 ∷ []), length-append e.sender (32 ∷ t))

-- ---- the division of what is written

-- a text that is empty or ends in LF
ends_split : (t : List ℕ) → is_empty_or_ends_in_lf t ≡ true → (t ≡ []) ⊎ ((u : List ℕ) × (t ≡ u ++ 10 ∷ []))
ends_split [] h = inl refl
ends_split (b ∷ t) h =
    let n = length t in
    let at : get_or (b ∷ t) n 0 ≡ 10 = eqb-true (get_or (b ∷ t) n 0) 10 (rw (never (length t), sub_one (length t)) at h) in
    inr (take n (b ∷ t), sym (take_all (n + 1) (b ∷ t) (omega arith)) ∙ take_more (b ∷ t) n 0 (omega arith) ∙ ap (λ x. take n (b ∷ t) ++ x ∷ []) at)
  where
    sub_one : (n : ℕ) → suc n - 1 ≡ n
    sub_one n = omega arith

after_whole : (t x : List ℕ) → (t ≡ []) ⊎ ((u : List ℕ) × (t ≡ u ++ 10 ∷ [])) → lines (t ++ x) ≡ lines t ++ lines x
after_whole t x (inl e) = ap (λ u. lines (u ++ x)) e ∙ ap (λ ls. ls ++ lines x) (sym lines-nil) ∙ ap (λ u. lines u ++ lines x) (sym e)
after_whole t x (inr (u, e)) = ap (λ v. lines (v ++ x)) e ∙ ap lines (append_assoc u (10 ∷ []) x) ∙ lines-append u x ∙ ap (λ v. lines v ++ lines x) (sym e)

whole_ends : (t : List ℕ) (w : Bool) → is_empty_or_ends_in_lf t ≡ w → (whole t ≡ []) ⊎ ((u : List ℕ) × (whole t ≡ u ++ 10 ∷ []))
whole_ends t true k = let e : whole t ≡ t = rw k refl in subst (λ (x : List ℕ). (x ≡ []) ⊎ ((u : List ℕ) × (x ≡ u ++ 10 ∷ []))) (sym e) (ends_split t k)
whole_ends t false k = inr (t, rw k refl)

pub whole_then : (t x : List ℕ) → lines (whole t ++ 10 ∷ x) ≡ lines (whole t) ++ (10 ∷ []) ∷ lines x
whole_then t x = after_whole (whole t) (10 ∷ x) (whole_ends t (is_empty_or_ends_in_lf t) refl) ∙ ap (λ ls. lines (whole t) ++ ls) (lf_first x)

lf_blank : IsBlankLine (10 ∷ [])
unfolding content
lf_blank = refl

blocks_written : (items : List Item) → All IsItem items → AreBlocks (map whole_item items) (lines (written items))
blocks_written [] h = lines-nil
blocks_written (i ∷ is) h =
    let item : IsItem i = h 0 i (omega arith) in (
      separator_line_text i.envelope ++ 10 ∷ [],
      subst (λ (x : List ℕ). IsSeparator x i.envelope) (sym (heading_content i.envelope)) (heading_says i.envelope item.is_envelope),
      item.no_line_separates,
      inr (
        10 ∷ [],
        lines (written is),
        lf_blank,
        ap lines (append_assoc (separator_line_text i.envelope ++ 10 ∷ []) (whole i.text ++ 10 ∷ []) (written is))
            ∙ heading_ended i.envelope item.is_envelope ((whole i.text ++ 10 ∷ []) ++ written is)
            ∙ ap (λ ls. (separator_line_text i.envelope ++ 10 ∷ []) ∷ ls) (ap lines (append_assoc (whole i.text) (10 ∷ []) (written is)) ∙ whole_then i.text (written is)),
        blocks_written is (All-tail IsItem i is h),
      ),
    )

-- the division of what is written has the same envelopes, and the whole texts
pub written_messages_are_cut_again : (items : List Item) → All IsItem items → DividesIntoItems (written items) (map whole_item items)
written_messages_are_cut_again items h = ([], lines (written items), refl, tt, blocks_written items h)

-- ---- what is cut

in_range : (z arrival : ℤ) (t : Bool) → is_instant z ≡ t → (if t then Some z else None) ≡ Some arrival → is_instant arrival ≡ true
in_range z arrival true e h = let same : z ≡ arrival = cc in ap is_instant (sym same) ∙ e
in_range z arrival false e h = absurd (cc)

said_envelope : (said : List ℕ) (e : Envelope) → IsSeparator said e → IsEnvelope e
unfolding instant_of_local_time
said_envelope said e s =
    let z : ℤ = s.is_arrival.day_number *ℤ pos 86400 +ℤ pos s.is_arrival.seconds -ℤ s.is_arrival.east in
    record { is_sender_text = (s.sender_tokens, s.are_sender_tokens); arrival_is_instant = in_range z e.arrival (is_instant z) refl s.is_arrival.instant }

block_item : (separator_line_text : List ℕ) (i : Item) → IsSeparator (content separator_line_text) i.envelope → NoneSeparates (lines i.text) → IsItem i
block_item separator_line_text i s n = record { is_envelope = said_envelope (content separator_line_text) i.envelope s; no_line_separates = whole_none i.text n }

blocks_items : (items : List Item) (ls : List (List ℕ)) → AreBlocks items ls → All IsItem items
blocks_items [] ls h = All-nil IsItem
blocks_items (i ∷ is) ls (h, sep, none, inl last) = All-cons IsItem i is (block_item h i sep none) (subst (λ (x : List Item). All IsItem x) (sym last.0) (All-nil IsItem))
blocks_items (i ∷ is) ls (h, sep, none, inr more) = All-cons IsItem i is (block_item h i sep none) (blocks_items is more.1 more.4)

-- the items of a division are such that they can be written
pub messages_of_a_division_are_items : (bytes : List ℕ) (items : List Item) → DividesIntoItems bytes items → All IsItem items
messages_of_a_division_are_items bytes items (blanks, rest, e, b, blocks) = blocks_items items rest blocks
