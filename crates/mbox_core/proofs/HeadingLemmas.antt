-- The canonical separator line of an envelope says that envelope.
use Rattle.std.proofs.Common.{◌≡◌, ◌≢◌, ℕ, zero, suc, ◌+◌, ◌-◌, ◌*◌, ◌/◌, ◌%◌, ◌<◌, ◌≤◌, Bool, true, false, nat_lt, refl, arith, ap, ◌∙◌, sym, if◌then◌else◌, Some, List, [], ◌∷◌}
use Rattle.std.proofs.Common.{◌++◌, length, drop, length-take, length-drop, get_or, ℤ, pos, negsuc, ◌+ℤ◌, ◌-ℤ◌, ◌*ℤ◌, unsigned_abs, codes, append_assoc}
use Rattle.std.proofs.lemmas.Bool.Decides.{nat_tests}
use Rattle.std.proofs.lemmas.Int.{ints}
use Rattle.std.specs.Int.{int_rem_euclid}
use Rattle.civil_time.specs.Calendar.{month_days, day_of_instant, weekday, is_instant, checked_instant}
use Rattle.mail_core.specs.Lines.{onto_first_line}
use Rattle.mbox_items.specs.Separator.{Envelope, IsSeparator, AreTokensOfSender, AreSenderTokens, joined_by_spaces, tokens, parsed_day_of_month, instant_of_local_time}
use Rattle.civil_time.specs.Dates.{Date, date_of_days_since_1900, days_since_1900}
use Rattle.mbox_items.specs.Written.{IsEnvelope, separator_line_text, time_text, ctime_text, as_day_digits, clock_text}
use Rattle.civil_time.specs.Digits.{as_two_digits, as_four_digits}
use Rattle.civil_time.specs.Names.{name_at, weekday_names, month_names}
use Rattle.civil_time.proofs.DateLemmas.{both, date_is, found_number, split_is}
use Rattle.mbox_items.proofs.RunLemmas.{is_plain, is_run, plain_other, sender_some, sender_run}
use Rattle.mbox_core.proofs.DigitLemmas.{day_one, day_two, clock_read, year_read, two_plain, one_plain, four_plain, clock_plain, weekday_plain, month_plain}
use Rattle.civil_time.proofs.NameLemmas.{weekday_read, month_read}

-- ---- tokens

-- a token, and a space behind it
pub token_then : (t r : List ℕ) → t ≢ [] → is_run t ≡ true → tokens (t ++ 32 ∷ r) ≡ t ∷ tokens r
unfolding tokens
token_then [] r some h = absurd (some refl)
token_then (b ∷ []) r some h = rw (plain_other b (both (is_plain b) true h).0) refl
token_then (b ∷ c ∷ t) r some h =
    let first = both (is_plain b) (is_run (c ∷ t)) h in
    let second = both (is_plain c) (is_run t) first.1 in
    let later = token_then (c ∷ t) r (λ e. cc) first.1 in
    rw (plain_other b first.0, plain_other c second.0) (ap (onto_first_line b) (sym (rw (plain_other c second.0) refl) ∙ later))

-- a token at the end
pub token_last : (t : List ℕ) → t ≢ [] → is_run t ≡ true → tokens t ≡ t ∷ []
unfolding tokens
token_last [] some h = absurd (some refl)
token_last (b ∷ []) some h = rw (plain_other b (both (is_plain b) true h).0) refl
token_last (b ∷ c ∷ t) some h =
    let first = both (is_plain b) (is_run (c ∷ t)) h in
    let second = both (is_plain c) (is_run t) first.1 in
    let later = token_last (c ∷ t) (λ e. cc) first.1 in
    rw (plain_other b first.0, plain_other c second.0) (ap (onto_first_line b) (sym (rw (plain_other c second.0) refl) ∙ later))

after_space : (r : List ℕ) → tokens (32 ∷ r) ≡ tokens r
unfolding tokens
after_space r = refl

-- the day's token: the digits without the space in front of one
abbrev day_token : ℕ → List ℕ
day_token n = if nat_lt n 10 then (48 + n) ∷ [] else as_two_digits n

day_then : (n : ℕ) (r : List ℕ) → tokens (as_day_digits n ++ 32 ∷ r) ≡ day_token n ∷ tokens r
day_then n r = cases (nat_lt n 10)
  where
    cases : (t : Bool) → tokens ((if t then 32 ∷ (48 + n) ∷ [] else as_two_digits n) ++ 32 ∷ r) ≡ (if t then (48 + n) ∷ [] else as_two_digits n) ∷ tokens r
    cases true = after_space ((48 + n) ∷ 32 ∷ r) ∙ token_then ((48 + n) ∷ []) r (λ e. cc) (one_plain n)
    cases false = token_then (as_two_digits n) r (λ e. cc) (two_plain n)

day_read : (n : ℕ) → n < 100 → parsed_day_of_month (day_token n) ≡ Some n
day_read n h = cases (nat_lt n 10) refl
  where
    cases : (t : Bool) → nat_lt n 10 ≡ t → parsed_day_of_month (if t then (48 + n) ∷ [] else as_two_digits n) ≡ Some n
    cases true e = day_one n (let g : n < 10 = grind (arith, nat_tests) in g)
    cases false e = day_two n h

weekday_some : (n : ℕ) → n < 7 → name_at n weekday_names ≢ []
weekday_some zero h = λ e. cc
weekday_some (suc zero) h = λ e. cc
weekday_some (suc (suc zero)) h = λ e. cc
weekday_some (suc (suc (suc zero))) h = λ e. cc
weekday_some (suc (suc (suc (suc zero)))) h = λ e. cc
weekday_some (suc (suc (suc (suc (suc zero))))) h = λ e. cc
weekday_some (suc (suc (suc (suc (suc (suc zero)))))) h = λ e. cc
weekday_some (suc (suc (suc (suc (suc (suc (suc n))))))) h = absurd (omega (arith, h))

month_some : (n : ℕ) → n < 12 → name_at n month_names ≢ []
month_some zero h = λ e. cc
month_some (suc zero) h = λ e. cc
month_some (suc (suc zero)) h = λ e. cc
month_some (suc (suc (suc zero))) h = λ e. cc
month_some (suc (suc (suc (suc zero)))) h = λ e. cc
month_some (suc (suc (suc (suc (suc zero))))) h = λ e. cc
month_some (suc (suc (suc (suc (suc (suc zero)))))) h = λ e. cc
month_some (suc (suc (suc (suc (suc (suc (suc zero))))))) h = λ e. cc
month_some (suc (suc (suc (suc (suc (suc (suc (suc zero)))))))) h = λ e. cc
month_some (suc (suc (suc (suc (suc (suc (suc (suc (suc zero))))))))) h = λ e. cc
month_some (suc (suc (suc (suc (suc (suc (suc (suc (suc (suc zero)))))))))) h = λ e. cc
month_some (suc (suc (suc (suc (suc (suc (suc (suc (suc (suc (suc zero))))))))))) h = λ e. cc
month_some (suc (suc (suc (suc (suc (suc (suc (suc (suc (suc (suc (suc n)))))))))))) h = absurd (omega (arith, h))

-- the tokens of a time
date_tokens : (w : ℕ) (date : Date) (s : ℕ) → w < 7 → date.month - 1 < 12
    → tokens (ctime_text w date s) ≡ name_at w weekday_names ∷ name_at (date.month - 1) month_names ∷ day_token date.day ∷ clock_text s ∷ as_four_digits date.year ∷ []
date_tokens w date s hw hm =
    let year = as_four_digits date.year in
    let clock = clock_text s ++ 32 ∷ year in
    let day = as_day_digits date.day ++ 32 ∷ clock in
    let month = name_at (date.month - 1) month_names ++ 32 ∷ day in
    token_then (name_at w weekday_names) month (weekday_some w hw) (weekday_plain w hw)
    ∙ ap (λ ts. name_at w weekday_names ∷ ts) (token_then (name_at (date.month - 1) month_names) day (month_some (date.month - 1) hm) (month_plain (date.month - 1) hm)
    ∙ ap (λ ts. name_at (date.month - 1) month_names ∷ ts) (day_then date.day clock
    ∙ ap (λ ts. day_token date.day ∷ ts) (token_then (clock_text s) year (λ e. cc) (clock_plain s)
    ∙ ap (λ ts. clock_text s ∷ ts) (token_last year (λ e. cc) (four_plain date.year)))))

-- ---- the whole line

month_short : (y m : ℕ) → month_days y m ≤ 31
month_short y m = grind (arith, nat_tests)

pub rest_small : (z : ℤ) → unsigned_abs (int_rem_euclid z (pos 7)) < 7
rest_small (pos a) = omega arith
rest_small (negsuc a) = omega arith

-- the tokens of a sender, and what follows a space behind it
who_then : (who : List (List ℕ)) (r : List ℕ) → AreSenderTokens who → tokens (joined_by_spaces who ++ 32 ∷ r) ≡ who ++ tokens r
who_then [] r h = absurd h
who_then (a ∷ []) r h = token_then a r (sender_some a h) (sender_run a h)
who_then (a ∷ b ∷ []) r h = absurd h
who_then (a ∷ word ∷ b ∷ []) r (left, at, right) =
    let run : is_run word ≡ true = ap is_run at in
    let some : word ≢ [] = λ e. let bad : codes "at" ≡ [] = sym at ∙ e in absurd (cc) in
    ap tokens (append_assoc a (32 ∷ (word ++ 32 ∷ b)) (32 ∷ r) ∙ ap (λ x. a ++ 32 ∷ x) (append_assoc word (32 ∷ b) (32 ∷ r)))
    ∙ token_then a (word ++ 32 ∷ (b ++ 32 ∷ r)) (sender_some a left) (sender_run a left)
    ∙ ap (λ ts. a ∷ ts) (token_then word (b ++ 32 ∷ r) some run
    ∙ ap (λ ts. word ∷ ts) (token_then b r (sender_some b right) (sender_run b right)))
who_then (a ∷ b ∷ c ∷ d ∷ who) r h = absurd h

heading_tokens : (sender : List ℕ) (who : List (List ℕ)) (z : ℤ) (date : Date) (s : ℕ) → AreTokensOfSender who sender → date.month - 1 < 12
    → tokens (sender ++ 32 ∷ ctime_text (weekday z) date s)
    ≡ who ++ (name_at (weekday z) weekday_names ∷ name_at (date.month - 1) month_names ∷ day_token date.day ∷ clock_text s ∷ as_four_digits date.year ∷ [])
heading_tokens sender who z date s h hm =
    ap (λ x. tokens (x ++ 32 ∷ ctime_text (weekday z) date s)) h.1
    ∙ who_then who (ctime_text (weekday z) date s) h.0
    ∙ ap (λ ts. who ++ ts) (date_tokens (weekday z) date s (rest_small (z +ℤ pos 3)) hm)

less_none : (z : ℤ) → z -ℤ pos 0 ≡ z
less_none z = omega (arith, ints)

instant_is : (z day : ℤ) (s : ℕ) → is_instant z ≡ true → day *ℤ pos 86400 +ℤ pos s ≡ z → instant_of_local_time day s (pos 0) ≡ Some z
unfolding instant_of_local_time
instant_is z day s h e = ap checked_instant (less_none (day *ℤ pos 86400 +ℤ pos s) ∙ e) ∙ rw h refl

-- the month of an arrival
pub in_year_after : (e : Envelope) → IsEnvelope e → (date_of_days_since_1900 (days_since_1900 (day_of_instant e.arrival))).month - 1 < 12
in_year_after e is =
    let split = split_is e.arrival is.arrival_is_instant in
    let found = date_is (days_since_1900 (day_of_instant e.arrival)) split.high in
    omega (arith, found.in_year)

pub heading_says : (e : Envelope) → IsEnvelope e → IsSeparator (separator_line_text e) e
unfolding time_text
heading_says e is =
    let z = e.arrival in
    let split = split_is z is.arrival_is_instant in
    let day = day_of_instant z in
    let n = days_since_1900 day in
    let date = date_of_days_since_1900 n in
    let found = date_is n split.high in
    let s = unsigned_abs (int_rem_euclid z (pos 86400)) in
    let in_year : date.month - 1 < 12 = omega (arith, found.in_year) in
    let month : date.month - 1 + 1 ≡ date.month = omega (arith, found.some_month) in
    record {
      after_from = e.sender ++ 32 ∷ ctime_text (weekday day) date s;
      begins_with_from = refl;
      weekday = name_at (weekday day) weekday_names;
      month_name = name_at (date.month - 1) month_names;
      day_text = day_token date.day;
      time_text = clock_text s;
      year_text = as_four_digits date.year;
      sender_tokens = is.is_sender_text.0;
      zone = [];
      are_tokens = heading_tokens e.sender is.is_sender_text.0 day date s is.is_sender_text.1 in_year;
      are_sender_tokens = is.is_sender_text.1;
      is_arrival = record {
        weekday_is_day_name = weekday_read (weekday day) (rest_small (day +ℤ pos 3));
        month = date.month;
        is_month = month_read (date.month - 1) in_year ∙ ap (λ m. Some m) month;
        day = date.day;
        is_day = day_read date.day (omega (arith, found.in_month, month_short date.year date.month));
        seconds = s;
        is_time = clock_read s split.seconds;
        east = pos 0;
        is_zone = refl;
        year = date.year;
        is_year = year_read date.year (omega (arith, found.last));
        day_number = day;
        date_exists = found_number n day date found split.low;
        instant = instant_is z day s is.arrival_is_instant split.same;
      };
    }

-- ---- the line as the code puts it together

pub list_two : (xs : List ℕ) → length xs ≡ 2 → xs ≡ get_or xs 0 0 ∷ get_or xs 1 0 ∷ []
list_two [] h = absurd (let e : 0 ≡ 2 = h in omega (arith, e))
list_two (a ∷ []) h = absurd (let e : 1 ≡ 2 = h in omega (arith, e))
list_two (a ∷ b ∷ []) h = refl
list_two (a ∷ b ∷ c ∷ xs) h = absurd (let e : suc (suc (suc (length xs))) ≡ 2 = h in omega (arith, e))

pub list_three : (xs : List ℕ) → length xs ≡ 3 → xs ≡ get_or xs 0 0 ∷ get_or xs 1 0 ∷ get_or xs 2 0 ∷ []
list_three [] h = absurd (let e : 0 ≡ 3 = h in omega (arith, e))
list_three (a ∷ []) h = absurd (let e : 1 ≡ 3 = h in omega (arith, e))
list_three (a ∷ b ∷ []) h = absurd (let e : 2 ≡ 3 = h in omega (arith, e))
list_three (a ∷ b ∷ c ∷ []) h = refl
list_three (a ∷ b ∷ c ∷ d ∷ xs) h = absurd (let e : suc (suc (suc (suc (length xs)))) ≡ 3 = h in omega (arith, e))

pub name_length : (n : ℕ) (names : List ℕ) → 3 * n + 2 < length names → length (name_at n names) ≡ 3
name_length n names h = omega (arith, h, length-take 3 (drop (3 * n) names), length-drop (3 * n) names)

pub day_length : (n : ℕ) → length (as_day_digits n) ≡ 2
day_length n = cases (nat_lt n 10)
  where
    cases : (t : Bool) → length (if t then 32 ∷ (48 + n) ∷ [] else as_two_digits n) ≡ 2
    cases true = refl
    cases false = refl

-- the pieces of a line, byte by byte
by_bytes : (w0 w1 w2 m0 m1 m2 d0 d1 h0 h1 n0 n1 s0 s1 y0 y1 z0 z1 : ℕ) (w m d h n s y z : List ℕ)
    → w ≡ w0 ∷ w1 ∷ w2 ∷ [] → m ≡ m0 ∷ m1 ∷ m2 ∷ [] → d ≡ d0 ∷ d1 ∷ [] → h ≡ h0 ∷ h1 ∷ [] → n ≡ n0 ∷ n1 ∷ [] → s ≡ s0 ∷ s1 ∷ [] → y ≡ y0 ∷ y1 ∷ [] → z ≡ z0 ∷ z1 ∷ []
    → (32 ∷ (w ++ 32 ∷ (m ++ 32 ∷ (d ++ 32 ∷ ((h ++ 58 ∷ (n ++ 58 ∷ s)) ++ 32 ∷ (y ++ z)))))) ++ 10 ∷ []
    ≡ 32 ∷ w0 ∷ w1 ∷ w2 ∷ 32 ∷ m0 ∷ m1 ∷ m2 ∷ 32 ∷ d0 ∷ d1 ∷ 32 ∷ h0 ∷ h1 ∷ 58 ∷ n0 ∷ n1 ∷ 58 ∷ s0 ∷ s1 ∷ 32 ∷ y0 ∷ y1 ∷ z0 ∷ z1 ∷ 10 ∷ []
by_bytes w0 w1 w2 m0 m1 m2 d0 d1 h0 h1 n0 n1 s0 s1 y0 y1 z0 z1 w m d h n s y z ew em ed eh en es ey ez = rw (ew, em, ed, eh, en, es, ey, ez) refl

three_of : (xs ys : List ℕ) → xs ≡ ys → length ys ≡ 3 → ys ≡ get_or xs 0 0 ∷ get_or xs 1 0 ∷ get_or xs 2 0 ∷ []
three_of xs ys e h = sym e ∙ list_three xs (ap length e ∙ h)

two_of : (xs ys : List ℕ) → xs ≡ ys → length ys ≡ 2 → ys ≡ get_or xs 0 0 ∷ get_or xs 1 0 ∷ []
two_of xs ys e h = sym e ∙ list_two xs (ap length e ∙ h)

-- the same, where each piece was made
pub line_is : (weekday : ℕ) (date : Date) (seconds : ℕ) (w m d h n s y z : List ℕ) → weekday < 7 → date.month - 1 < 12
    → w ≡ name_at weekday weekday_names → m ≡ name_at (date.month - 1) month_names → d ≡ as_day_digits date.day
    → h ≡ as_two_digits (seconds / 3600) → n ≡ as_two_digits (seconds / 60 % 60) → s ≡ as_two_digits (seconds % 60)
    → y ≡ as_two_digits (date.year / 100) → z ≡ as_two_digits (date.year % 100)
    → 32 ∷ get_or w 0 0 ∷ get_or w 1 0 ∷ get_or w 2 0 ∷ 32 ∷ get_or m 0 0 ∷ get_or m 1 0 ∷ get_or m 2 0 ∷ 32 ∷ get_or d 0 0 ∷ get_or d 1 0
    ∷ 32 ∷ get_or h 0 0 ∷ get_or h 1 0 ∷ 58 ∷ get_or n 0 0 ∷ get_or n 1 0 ∷ 58 ∷ get_or s 0 0 ∷ get_or s 1 0
    ∷ 32 ∷ get_or y 0 0 ∷ get_or y 1 0 ∷ get_or z 0 0 ∷ get_or z 1 0 ∷ 10 ∷ []
    ≡ (32 ∷ ctime_text weekday date seconds) ++ 10 ∷ []
line_is weekday date seconds w m d h n s y z hw hm ew em ed eh en es ey ez = sym (by_bytes
    (get_or w 0 0) (get_or w 1 0) (get_or w 2 0) (get_or m 0 0) (get_or m 1 0) (get_or m 2 0) (get_or d 0 0) (get_or d 1 0)
    (get_or h 0 0) (get_or h 1 0) (get_or n 0 0) (get_or n 1 0) (get_or s 0 0) (get_or s 1 0) (get_or y 0 0) (get_or y 1 0) (get_or z 0 0) (get_or z 1 0)
    (name_at weekday weekday_names) (name_at (date.month - 1) month_names) (as_day_digits date.day)
    (as_two_digits (seconds / 3600)) (as_two_digits (seconds / 60 % 60)) (as_two_digits (seconds % 60)) (as_two_digits (date.year / 100)) (as_two_digits (date.year % 100))
    (three_of w _ ew (name_length weekday weekday_names (let g : 3 * weekday + 2 < 21 = omega (arith, hw) in g)))
    (three_of m _ em (name_length (date.month - 1) month_names (let g : 3 * (date.month - 1) + 2 < 36 = omega (arith, hm) in g)))
    (two_of d _ ed (day_length date.day)) (two_of h _ eh refl) (two_of n _ en refl) (two_of s _ es refl) (two_of y _ ey refl) (two_of z _ ez refl))

-- the time of an instant, from its day, its date and the seconds in the day
pub time_is : (z day : ℤ) (date : Date) (s : ℕ) → day ≡ day_of_instant z → date_of_days_since_1900 (days_since_1900 day) ≡ date
    → unsigned_abs (int_rem_euclid z (pos 86400)) ≡ s → time_text z ≡ ctime_text (weekday day) date s
unfolding time_text
time_is z day date s e f g = rw (← e, f, g) refl

-- a line of the same parts
pub same_line : (r : List ℕ) (z : ℤ) (w s y m d : ℕ) (w' s' y' m' d' : ℕ)
    → r ≡ (32 ∷ ctime_text w (record { year = y; month = m; day = d }) s) ++ 10 ∷ []
    → time_text z ≡ ctime_text w' (record { year = y'; month = m'; day = d' }) s' → w ≡ w' → s ≡ s' → y ≡ y' → m ≡ m' → d ≡ d'
    → r ≡ (32 ∷ time_text z) ++ 10 ∷ []
same_line r z w s y m d w' s' y' m' d' h t ew es ey em ed = h ∙ rw (t, ew, es, ey, em, ed) refl
