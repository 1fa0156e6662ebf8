-- The relation and the value.
use Rattle.std.proofs.Common.{◌≡◌, ℕ, Bool, true, false, ◌&&◌, List, [], ◌∷◌, ◌++◌, take, drop, refl, ap, ◌∙◌, sym}
use Rattle.std.proofs.Common.{if◌then◌else◌, Option, Some, None, ℤ, pos, ◌+ℤ◌, ◌-ℤ◌, ◌*ℤ◌, codes, take-append-drop}
use Rattle.std.specs.Str.{bytes_eq}
use Rattle.std.specs.Option.{MatchOption, IfSome, IfNone, is_some}
use Rattle.std.proofs.lemmas.Slice.Eq.{bytes_eq-Decides}
use Rattle.civil_time.specs.Calendar.{checked_day_number, checked_instant}
use Rattle.civil_time.specs.Zones.{zone_of}
use Rattle.mbox_items.specs.Separator.{◌>>=◌, Envelope, IsSeparator, IsArrival, AreTokensOfSender, separator_of, envelope_of, arrival_of, envelope_of_one_token}
use Rattle.mbox_items.specs.Separator.{envelope_of_two_tokens, seconds_east_of_utc, joined_by_spaces, tokens}
use Rattle.mbox_items.specs.Separator.{is_sender_token, parsed_day_of_month, parsed_time_of_day, parsed_four_digit_year, instant_of_local_time}
use Rattle.civil_time.specs.Names.{is_day_name, month_of_name}

pub bind_some : {A B : Type 0} (o : Option A) (f : A → Option B) (y : B) → (o >>= f) ≡ Some y → (x : A) × (o ≡ Some x) × (f x ≡ Some y)
bind_some None f y h = absurd (cc)
bind_some (Some x) f y h = (x, refl, h)

pub guard_some : {A : Type 0} (b : Bool) (o : Option A) (y : A) → (if b then o else None) ≡ Some y → (b ≡ true) × (o ≡ Some y)
guard_some true o y h = (refl, h)
guard_some false o y h = absurd (cc)

pub both : (a b : Bool) → (a && b) ≡ true → (a ≡ true) × (b ≡ true)
both true b h = (refl, h)
both false b h = absurd (cc)

pub no_envelope : separator_of [] ≡ None
unfolding separator_of
no_envelope = refl

from_is : (said : List ℕ) → bytes_eq (take 5 said) (codes "From ") ≡ true → take 5 said ≡ codes "From "
from_is said h = (bytes_eq-Decides (take 5 said) (codes "From ")).0 h

some_is : {A : Type 0} (x y : A) → Some x ≡ Some y → x ≡ y
some_is x y h = cc

-- ---- arrivals

arrival_says : (b c d e : List ℕ) (zone : List (List ℕ)) (f : List ℕ) (arrival : ℤ) → arrival_of b c d e (seconds_east_of_utc zone) f ≡ Some arrival
    → IsArrival b c d e zone f arrival
unfolding arrival_of
arrival_says b c d e zone f arrival h =
    let g = guard_some (is_day_name b) _ arrival h in
    let m = bind_some (month_of_name c) _ arrival g.1 in
    let n = bind_some (parsed_day_of_month d) _ arrival m.2 in
    let s = bind_some (parsed_time_of_day e) _ arrival n.2 in
    let o = bind_some (seconds_east_of_utc zone) _ arrival s.2 in
    let y = bind_some (parsed_four_digit_year f) _ arrival o.2 in
    let i = bind_some (checked_day_number y.0 m.0 n.0) _ arrival y.2 in
    record {
      weekday_is_day_name = g.0;
      month = m.0;
      is_month = m.1;
      day = n.0;
      is_day = n.1;
      seconds = s.0;
      is_time = s.1;
      east = o.0;
      is_zone = o.1;
      year = y.0;
      is_year = y.1;
      day_number = i.0;
      date_exists = i.1;
      instant = i.2;
    }

says_arrival : (b c d e : List ℕ) (zone : List (List ℕ)) (f : List ℕ) (o : Option ℤ) (arrival : ℤ) → o ≡ seconds_east_of_utc zone
    → IsArrival b c d e zone f arrival → arrival_of b c d e o f ≡ Some arrival
unfolding arrival_of
says_arrival b c d e zone f o arrival h s =
    let is : o ≡ Some s.east = h ∙ s.is_zone in
    rw (s.weekday_is_day_name, s.is_month, s.is_day, s.is_time, is, s.is_year, s.date_exists, s.instant) refl

-- ---- senders

one_says : (a : List ℕ) (o : Option ℤ) (e : Envelope) → envelope_of_one_token a o ≡ Some e → AreTokensOfSender (a ∷ []) e.sender × (o ≡ Some e.arrival)
unfolding envelope_of_one_token
one_says a o e h =
    let g = guard_some (is_sender_token a) _ e h in
    let w = bind_some o _ e g.1 in
    let same : record { sender = a; arrival = w.0 } ≡ e = some_is (record { sender = a; arrival = w.0 }) e w.2 in
    ((g.0, sym (ap (λ (x : Envelope). x.sender) same)), w.1 ∙ ap (λ (x : Envelope). Some x.arrival) same)

says_one : (a : List ℕ) (o : Option ℤ) (e : Envelope) → AreTokensOfSender (a ∷ []) e.sender → o ≡ Some e.arrival → envelope_of_one_token a o ≡ Some e
unfolding envelope_of_one_token
says_one a o e s h =
    let is : record { sender = a; arrival = e.arrival } ≡ e = ap (λ (x : List ℕ). record { sender = x; arrival = e.arrival }) (sym s.1) in
    rw (s.0, h) (ap (λ (x : Envelope). Some x) is)

two_says : (a at b : List ℕ) (o : Option ℤ) (e : Envelope) → envelope_of_two_tokens a at b o ≡ Some e → AreTokensOfSender (a ∷ at ∷ b ∷ []) e.sender × (o ≡ Some e.arrival)
unfolding envelope_of_two_tokens
two_says a at b o e h =
    let g = guard_some (is_sender_token a && (bytes_eq at (codes "at") && is_sender_token b)) _ e h in
    let first = both (is_sender_token a) (bytes_eq at (codes "at") && is_sender_token b) g.0 in
    let second = both (bytes_eq at (codes "at")) (is_sender_token b) first.1 in
    let w = bind_some o _ e g.1 in
    let text = joined_by_spaces (a ∷ at ∷ b ∷ []) in
    let same : record { sender = text; arrival = w.0 } ≡ e = some_is (record { sender = text; arrival = w.0 }) e w.2 in (
      ((first.0, (bytes_eq-Decides at (codes "at")).0 second.0, second.1), sym (ap (λ (x : Envelope). x.sender) same)),
      w.1 ∙ ap (λ (x : Envelope). Some x.arrival) same,
    )

says_two : (a at b : List ℕ) (o : Option ℤ) (e : Envelope) → AreTokensOfSender (a ∷ at ∷ b ∷ []) e.sender → o ≡ Some e.arrival → envelope_of_two_tokens a at b o ≡ Some e
unfolding envelope_of_two_tokens
says_two a at b o e ((left, word, right), text) h =
    let is : record { sender = joined_by_spaces (a ∷ at ∷ b ∷ []); arrival = e.arrival } ≡ e = ap (λ (x : List ℕ). record { sender = x; arrival = e.arrival }) (sym text) in
    let ok : (is_sender_token a && (bytes_eq at (codes "at") && is_sender_token b)) ≡ true = rw (left, word, right) refl in
    rw (ok, h) (ap (λ (x : Envelope). Some x) is)

-- ---- what the tokens say

record Says (ts : List (List ℕ)) (e : Envelope) : Type 0 where
  pub who : List (List ℕ)
  pub weekday : List ℕ
  pub month_name : List ℕ
  pub day_text : List ℕ
  pub time_text : List ℕ
  pub zone : List (List ℕ)
  pub year_text : List ℕ
  pub are_tokens : ts ≡ who ++ (weekday ∷ month_name ∷ day_text ∷ time_text ∷ (zone ++ (year_text ∷ [])))
  pub sender : AreTokensOfSender who e.sender
  pub arrival : IsArrival weekday month_name day_text time_text zone year_text e.arrival

by_one : (a b c d e : List ℕ) (zone : List (List ℕ)) (f : List ℕ) (v : Envelope) → envelope_of_one_token a (arrival_of b c d e (seconds_east_of_utc zone) f) ≡ Some v
    → Says (a ∷ b ∷ c ∷ d ∷ e ∷ (zone ++ (f ∷ []))) v
by_one a b c d e zone f v h =
    let s = one_says a (arrival_of b c d e (seconds_east_of_utc zone) f) v h in
    record {
      who = a ∷ [];
      weekday = b;
      month_name = c;
      day_text = d;
      time_text = e;
      zone = zone;
      year_text = f;
      are_tokens = refl;
      sender = s.0;
      arrival = arrival_says b c d e zone f v.arrival s.1;
    }

by_two : (a at g b c d e : List ℕ) (zone : List (List ℕ)) (f : List ℕ) (v : Envelope) → envelope_of_two_tokens a at g (arrival_of b c d e (seconds_east_of_utc zone) f) ≡ Some v
    → Says (a ∷ at ∷ g ∷ b ∷ c ∷ d ∷ e ∷ (zone ++ (f ∷ []))) v
by_two a at g b c d e zone f v h =
    let s = two_says a at g (arrival_of b c d e (seconds_east_of_utc zone) f) v h in
    record {
      who = a ∷ at ∷ g ∷ [];
      weekday = b;
      month_name = c;
      day_text = d;
      time_text = e;
      zone = zone;
      year_text = f;
      are_tokens = refl;
      sender = s.0;
      arrival = arrival_says b c d e zone f v.arrival s.1;
    }

tokens_say : (ts : List (List ℕ)) (v : Envelope) → envelope_of ts ≡ Some v → Says ts v
unfolding envelope_of
tokens_say [] v h = absurd (cc)
tokens_say (a ∷ []) v h = absurd (cc)
tokens_say (a ∷ b ∷ []) v h = absurd (cc)
tokens_say (a ∷ b ∷ c ∷ []) v h = absurd (cc)
tokens_say (a ∷ b ∷ c ∷ d ∷ []) v h = absurd (cc)
tokens_say (a ∷ b ∷ c ∷ d ∷ e ∷ []) v h = absurd (cc)
tokens_say (a ∷ b ∷ c ∷ d ∷ e ∷ f ∷ []) v h = by_one a b c d e [] f v h
tokens_say (a ∷ b ∷ c ∷ d ∷ e ∷ f ∷ g ∷ []) v h = by_one a b c d e (f ∷ []) g v h
tokens_say (a ∷ b ∷ c ∷ d ∷ e ∷ f ∷ g ∷ i ∷ []) v h = by_two a b c d e f g [] i v h
tokens_say (a ∷ b ∷ c ∷ d ∷ e ∷ f ∷ g ∷ i ∷ j ∷ []) v h = by_two a b c d e f g (i ∷ []) j v h
tokens_say (a ∷ b ∷ c ∷ d ∷ e ∷ f ∷ g ∷ i ∷ j ∷ k ∷ ts) v h = absurd (cc)

say_tokens : (who : List (List ℕ)) (b c d e : List ℕ) (zone : List (List ℕ)) (f : List ℕ) (v : Envelope) → AreTokensOfSender who v.sender
    → IsArrival b c d e zone f v.arrival → envelope_of (who ++ (b ∷ c ∷ d ∷ e ∷ (zone ++ (f ∷ [])))) ≡ Some v
unfolding envelope_of
say_tokens [] b c d e zone f v s w = absurd (s.0)
say_tokens (a ∷ []) b c d e [] f v s w = says_one a _ v s (says_arrival b c d e [] f (Some (pos 0)) v.arrival refl w)
say_tokens (a ∷ []) b c d e (z ∷ []) f v s w = says_one a _ v s (says_arrival b c d e (z ∷ []) f (zone_of z) v.arrival refl w)
say_tokens (a ∷ []) b c d e (y ∷ z ∷ zs) f v s w = let bad : None ≡ Some w.east = w.is_zone in absurd (cc)
say_tokens (a ∷ at ∷ []) b c d e zone f v s w = absurd (s.0)
say_tokens (a ∷ at ∷ g ∷ []) b c d e [] f v s w = says_two a at g _ v s (says_arrival b c d e [] f (Some (pos 0)) v.arrival refl w)
say_tokens (a ∷ at ∷ g ∷ []) b c d e (z ∷ []) f v s w = says_two a at g _ v s (says_arrival b c d e (z ∷ []) f (zone_of z) v.arrival refl w)
say_tokens (a ∷ at ∷ g ∷ []) b c d e (y ∷ z ∷ zs) f v s w = let bad : None ≡ Some w.east = w.is_zone in absurd (cc)
say_tokens (a ∷ at ∷ g ∷ i ∷ who) b c d e zone f v s w = absurd (s.0)

-- what is computed is in the relation
pub separator_is : (said : List ℕ) (envelope : Envelope) → separator_of said ≡ Some envelope → IsSeparator said envelope
unfolding separator_of
separator_is said envelope h =
    let g = guard_some (bytes_eq (take 5 said) (codes "From ")) _ envelope h in
    let s = tokens_say (tokens (drop 5 said)) envelope g.1 in
    record {
      after_from = drop 5 said;
      begins_with_from = sym (take-append-drop 5 said) ∙ ap (λ x. x ++ drop 5 said) (from_is said g.0);
      sender_tokens = s.who;
      weekday = s.weekday;
      month_name = s.month_name;
      day_text = s.day_text;
      time_text = s.time_text;
      zone = s.zone;
      year_text = s.year_text;
      are_tokens = s.are_tokens;
      are_sender_tokens = s.sender;
      is_arrival = s.arrival;
    }

begun : (after : List ℕ) → separator_of (codes "From " ++ after) ≡ envelope_of (tokens after)
unfolding separator_of
begun after = refl

-- what is in the relation is computed
pub separator_all : (said : List ℕ) (envelope : Envelope) → IsSeparator said envelope → separator_of said ≡ Some envelope
separator_all said envelope s =
    ap separator_of s.begins_with_from ∙ begun s.after_from ∙ ap envelope_of s.are_tokens
    ∙ say_tokens s.sender_tokens s.weekday s.month_name s.day_text s.time_text s.zone s.year_text envelope s.are_sender_tokens s.is_arrival

pub instant_is : (day : ℤ) (seconds : ℕ) (east : ℤ) → checked_instant (day *ℤ pos 86400 +ℤ pos seconds -ℤ east) ≡ instant_of_local_time day seconds east
unfolding instant_of_local_time
instant_is day seconds east = refl

-- no content says two envelopes
pub each_line_has_at_most_one_envelope : (said : List ℕ) (a b : Envelope) → IsSeparator said a → IsSeparator said b → a ≡ b
each_line_has_at_most_one_envelope said a b h g = some_is a b (sym (separator_all said a h) ∙ separator_all said b g)

-- ---- what the code finds, token by token

pub not_begun : (s : List ℕ) → bytes_eq (take 5 s) (codes "From ") ≡ false → separator_of s ≡ None
unfolding separator_of
not_begun s h = rw h refl

pub begun_by : (s a : List ℕ) → bytes_eq (take 5 s) (codes "From ") ≡ true → a ≡ drop 5 s → separator_of s ≡ envelope_of (tokens a)
unfolding separator_of
begun_by s a h e = rw (h, ← e) refl

-- tokens that were found one after the other, and what follows them
pub chain_1 : (x0 x1 t1 : List ℕ) (ts : List (List ℕ)) → tokens x0 ≡ t1 ∷ tokens x1 → tokens x1 ≡ ts → tokens x0 ≡ t1 ∷ ts
chain_1 x0 x1 t1 ts h1 e = h1 ∙ ap (λ r. t1 ∷ r) e

pub chain_2 : (x0 x1 x2 t1 t2 : List ℕ) (ts : List (List ℕ)) → tokens x0 ≡ t1 ∷ tokens x1 → tokens x1 ≡ t2 ∷ tokens x2 → tokens x2 ≡ ts → tokens x0 ≡ t1 ∷ t2 ∷ ts
chain_2 x0 x1 x2 t1 t2 ts h1 h2 e = h1 ∙ ap (λ r. t1 ∷ r) (chain_1 x1 x2 t2 ts h2 e)

pub chain_3 : (x0 x1 x2 x3 t1 t2 t3 : List ℕ) (ts : List (List ℕ)) → tokens x0 ≡ t1 ∷ tokens x1 → tokens x1 ≡ t2 ∷ tokens x2 → tokens x2 ≡ t3 ∷ tokens x3
    → tokens x3 ≡ ts → tokens x0 ≡ t1 ∷ t2 ∷ t3 ∷ ts
chain_3 x0 x1 x2 x3 t1 t2 t3 ts h1 h2 h3 e = h1 ∙ ap (λ r. t1 ∷ r) (chain_2 x1 x2 x3 t2 t3 ts h2 h3 e)

pub chain_4 : (x0 x1 x2 x3 x4 t1 t2 t3 t4 : List ℕ) (ts : List (List ℕ)) → tokens x0 ≡ t1 ∷ tokens x1 → tokens x1 ≡ t2 ∷ tokens x2 → tokens x2 ≡ t3 ∷ tokens x3
    → tokens x3 ≡ t4 ∷ tokens x4 → tokens x4 ≡ ts → tokens x0 ≡ t1 ∷ t2 ∷ t3 ∷ t4 ∷ ts
chain_4 x0 x1 x2 x3 x4 t1 t2 t3 t4 ts h1 h2 h3 h4 e = h1 ∙ ap (λ r. t1 ∷ r) (chain_3 x1 x2 x3 x4 t2 t3 t4 ts h2 h3 h4 e)

pub chain_5 : (x0 x1 x2 x3 x4 x5 t1 t2 t3 t4 t5 : List ℕ) (ts : List (List ℕ)) → tokens x0 ≡ t1 ∷ tokens x1 → tokens x1 ≡ t2 ∷ tokens x2 → tokens x2 ≡ t3 ∷ tokens x3
    → tokens x3 ≡ t4 ∷ tokens x4 → tokens x4 ≡ t5 ∷ tokens x5 → tokens x5 ≡ ts → tokens x0 ≡ t1 ∷ t2 ∷ t3 ∷ t4 ∷ t5 ∷ ts
chain_5 x0 x1 x2 x3 x4 x5 t1 t2 t3 t4 t5 ts h1 h2 h3 h4 h5 e = h1 ∙ ap (λ r. t1 ∷ r) (chain_4 x1 x2 x3 x4 x5 t2 t3 t4 t5 ts h2 h3 h4 h5 e)

pub chain_6 : (x0 x1 x2 x3 x4 x5 x6 t1 t2 t3 t4 t5 t6 : List ℕ) (ts : List (List ℕ)) → tokens x0 ≡ t1 ∷ tokens x1 → tokens x1 ≡ t2 ∷ tokens x2 → tokens x2 ≡ t3 ∷ tokens x3
    → tokens x3 ≡ t4 ∷ tokens x4 → tokens x4 ≡ t5 ∷ tokens x5 → tokens x5 ≡ t6 ∷ tokens x6 → tokens x6 ≡ ts → tokens x0 ≡ t1 ∷ t2 ∷ t3 ∷ t4 ∷ t5 ∷ t6 ∷ ts
chain_6 x0 x1 x2 x3 x4 x5 x6 t1 t2 t3 t4 t5 t6 ts h1 h2 h3 h4 h5 h6 e = h1 ∙ ap (λ r. t1 ∷ r) (chain_5 x1 x2 x3 x4 x5 x6 t2 t3 t4 t5 t6 ts h2 h3 h4 h5 h6 e)

pub chain_7 : (x0 x1 x2 x3 x4 x5 x6 x7 t1 t2 t3 t4 t5 t6 t7 : List ℕ) (ts : List (List ℕ)) → tokens x0 ≡ t1 ∷ tokens x1 → tokens x1 ≡ t2 ∷ tokens x2
    → tokens x2 ≡ t3 ∷ tokens x3 → tokens x3 ≡ t4 ∷ tokens x4 → tokens x4 ≡ t5 ∷ tokens x5 → tokens x5 ≡ t6 ∷ tokens x6 → tokens x6 ≡ t7 ∷ tokens x7 → tokens x7 ≡ ts
    → tokens x0 ≡ t1 ∷ t2 ∷ t3 ∷ t4 ∷ t5 ∷ t6 ∷ t7 ∷ ts
chain_7 x0 x1 x2 x3 x4 x5 x6 x7 t1 t2 t3 t4 t5 t6 t7 ts h1 h2 h3 h4 h5 h6 h7 e = h1 ∙ ap (λ r. t1 ∷ r) (chain_6 x1 x2 x3 x4 x5 x6 x7 t2 t3 t4 t5 t6 t7 ts h2 h3 h4 h5 h6 h7 e)

pub chain_8 : (x0 x1 x2 x3 x4 x5 x6 x7 x8 t1 t2 t3 t4 t5 t6 t7 t8 : List ℕ) (ts : List (List ℕ)) → tokens x0 ≡ t1 ∷ tokens x1 → tokens x1 ≡ t2 ∷ tokens x2
    → tokens x2 ≡ t3 ∷ tokens x3 → tokens x3 ≡ t4 ∷ tokens x4 → tokens x4 ≡ t5 ∷ tokens x5 → tokens x5 ≡ t6 ∷ tokens x6 → tokens x6 ≡ t7 ∷ tokens x7
    → tokens x7 ≡ t8 ∷ tokens x8 → tokens x8 ≡ ts → tokens x0 ≡ t1 ∷ t2 ∷ t3 ∷ t4 ∷ t5 ∷ t6 ∷ t7 ∷ t8 ∷ ts
chain_8 x0 x1 x2 x3 x4 x5 x6 x7 x8 t1 t2 t3 t4 t5 t6 t7 t8 ts h1 h2 h3 h4 h5 h6 h7 h8 e = h1 ∙ ap (λ r. t1 ∷ r) (chain_7 x1 x2 x3 x4 x5 x6 x7 x8 t2 t3 t4 t5 t6 t7 t8 ts h2 h3 h4 h5 h6 h7 h8 e)

pub chain_9 : (x0 x1 x2 x3 x4 x5 x6 x7 x8 x9 t1 t2 t3 t4 t5 t6 t7 t8 t9 : List ℕ) (ts : List (List ℕ)) → tokens x0 ≡ t1 ∷ tokens x1 → tokens x1 ≡ t2 ∷ tokens x2
    → tokens x2 ≡ t3 ∷ tokens x3 → tokens x3 ≡ t4 ∷ tokens x4 → tokens x4 ≡ t5 ∷ tokens x5 → tokens x5 ≡ t6 ∷ tokens x6 → tokens x6 ≡ t7 ∷ tokens x7
    → tokens x7 ≡ t8 ∷ tokens x8 → tokens x8 ≡ t9 ∷ tokens x9 → tokens x9 ≡ ts → tokens x0 ≡ t1 ∷ t2 ∷ t3 ∷ t4 ∷ t5 ∷ t6 ∷ t7 ∷ t8 ∷ t9 ∷ ts
chain_9 x0 x1 x2 x3 x4 x5 x6 x7 x8 x9 t1 t2 t3 t4 t5 t6 t7 t8 t9 ts h1 h2 h3 h4 h5 h6 h7 h8 h9 e =
    h1 ∙ ap (λ r. t1 ∷ r) (chain_8 x1 x2 x3 x4 x5 x6 x7 x8 x9 t2 t3 t4 t5 t6 t7 t8 t9 ts h2 h3 h4 h5 h6 h7 h8 h9 e)

pub few_0 : envelope_of [] ≡ None
unfolding envelope_of
few_0 = refl

pub few_1 : (a : List ℕ) → envelope_of (a ∷ []) ≡ None
unfolding envelope_of
few_1 a = refl

pub few_2 : (a b : List ℕ) → envelope_of (a ∷ b ∷ []) ≡ None
unfolding envelope_of
few_2 a b = refl

pub few_3 : (a b c : List ℕ) → envelope_of (a ∷ b ∷ c ∷ []) ≡ None
unfolding envelope_of
few_3 a b c = refl

pub few_4 : (a b c d : List ℕ) → envelope_of (a ∷ b ∷ c ∷ d ∷ []) ≡ None
unfolding envelope_of
few_4 a b c d = refl

pub few_5 : (a b c d e : List ℕ) → envelope_of (a ∷ b ∷ c ∷ d ∷ e ∷ []) ≡ None
unfolding envelope_of
few_5 a b c d e = refl

pub six : (a b c d e f : List ℕ) → envelope_of (a ∷ b ∷ c ∷ d ∷ e ∷ f ∷ []) ≡ envelope_of_one_token a (arrival_of b c d e (Some (pos 0)) f)
unfolding envelope_of
six a b c d e f = refl

pub seven : (a b c d e f g : List ℕ) → envelope_of (a ∷ b ∷ c ∷ d ∷ e ∷ f ∷ g ∷ []) ≡ envelope_of_one_token a (arrival_of b c d e (zone_of f) g)
unfolding envelope_of
seven a b c d e f g = refl

pub eight : (a b c d e f g h : List ℕ) → envelope_of (a ∷ b ∷ c ∷ d ∷ e ∷ f ∷ g ∷ h ∷ []) ≡ envelope_of_two_tokens a b c (arrival_of d e f g (Some (pos 0)) h)
unfolding envelope_of
eight a b c d e f g h = refl

pub nine : (a b c d e f g h i : List ℕ) → envelope_of (a ∷ b ∷ c ∷ d ∷ e ∷ f ∷ g ∷ h ∷ i ∷ []) ≡ envelope_of_two_tokens a b c (arrival_of d e f g (zone_of h) i)
unfolding envelope_of
nine a b c d e f g h i = refl

pub many : (a b c d e f g h i j : List ℕ) (ts : List (List ℕ)) → envelope_of (a ∷ b ∷ c ∷ d ∷ e ∷ f ∷ g ∷ h ∷ i ∷ j ∷ ts) ≡ None
unfolding envelope_of
many a b c d e f g h i j ts = refl

pub empty_from : {A : Type 0} (r : Option A) (P : Type 0) (Q : A → Type 0) → MatchOption r P Q → is_some r ≡ false → P
empty_from None P Q h e = h
empty_from (Some x) P Q h e = absurd (cc)

pub some_from : {A : Type 0} (r : Option A) (P : Type 0) (Q : A → Type 0) → MatchOption r P Q → is_some r ≡ true → (x : A) × Q x
some_from None P Q h e = absurd (cc)
some_from (Some x) P Q h e = (x, h)

-- the relation, from the value
pub found_of : (r : Option Envelope) (s : List ℕ) → r ≡ separator_of s → IfSome r (λ e. IsSeparator s e)
found_of None s h = tt
found_of (Some e) s h = separator_is s e (sym h)

pub none_of : (r : Option Envelope) (s : List ℕ) → r ≡ separator_of s → IfNone r ((e : Envelope) → ¬ IsSeparator s e)
none_of None s h = λ e i. let bad : None ≡ Some e = h ∙ separator_all s e i in absurd (cc)
none_of (Some e) s h = tt
