-- What is kept from one step to the next.
use Rattle.std.proofs.Common.{◌≡◌, ℕ, ◌+◌, ◌≤◌, min, Bool, true, false, if◌then◌else◌, List, [], ◌∷◌, ◌++◌, length, take, drop, refl, arith, ap}
use Rattle.std.proofs.Common.{◌∙◌, sym, Some, append_assoc, append-nil, subst, length-take, length-drop, length-append}
use Rattle.std.proofs.lemmas.List.{take-append-drop, drop-drop}
use Rattle.std.specs.List.{concat, AllByRecursion}
use Rattle.mail_core.specs.Lines.{lines, content}
use Rattle.mbox_core.specs.Separator.{Envelope, separator_of}
use Rattle.mbox_core.specs.Division.{Item, IsBlankLine, NoneSeparates, EndsUnblank, IsPreamble, DividesIntoItems}
use Rattle.mbox_core.specs.Division.{items_of, items_after_separator, items_from_separator, text_before_separator, front_and_items_of_lines, with_new_item}
use Rattle.mbox_items.proofs.LineLemmas.{lines-nil, concat-lines}
use Rattle.mbox_items.proofs.SplitLemmas.{one, split-quiet, split-some, quiet_blanks, last_blanks, with_lines}
use Rattle.mbox_stream.specs.Stream.{IsBeginning, settled_bytes, all_blank, items_unless_preamble, file_items, all_but_last, settled_items, IsSettledPreamble, IsOffsetUnlessOverflow}
use Rattle.memchr.specs.Find.{OccursAt}
use Rattle.mbox_core.proofs.DivisionLaws.{not_both, front_divides}
use Rattle.mbox_stream.specs.Window.{HoldsWholeLines, lf_and_from, IsOpenMessageWindow, IsSearchedUpTo, CutsAtFirstSeparator, IsBeforeFirstMessage, SkipsBlankLinesTo, OpensFirstMessage}
use Rattle.mbox_stream.specs.Kept.{IsWindowAtPlace, HoldsNoSettledItem}
use Rattle.mbox_stream.specs.declared.window.Place.{Place}
use Rattle.mbox_stream.specs.declared.window.Place.TheVariants.{Front, Message}
use Rattle.mbox_stream.proofs.WindowLemmas.{settled_nil, settled_append, ended_whole, whole_append, window_cut, window_fed, window_end, window_settled, window_sound, settled_front, settled_same}
use Rattle.mbox_stream.proofs.StreamLemmas.{settled_bytes_all}
use Rattle.mbox_stream.proofs.StreamLaws.{all_blank_is, is_all_blank, file_items_divide, settled_items_only_grow, no_item_is_settled_before_a_preamble, a_settled_preamble_stays}

-- ---- while a message is open

pub looked_start : (bytes : List ℕ) → IsSearchedUpTo bytes 0
looked_start bytes =
    let N : List (List ℕ) → Type 0 = λ x. NoneSeparates x in
    let E : List (List ℕ) → Type 0 = λ x. EndsUnblank x in
    record {
      front = [];
      unsearched = bytes;
      bytes_are = refl;
      whole_lines = settled_nil;
      no_line_separates = subst N (sym lines-nil) tt;
      ends_unblank = subst E (sym lines-nil) tt;
      from_behind_front = omega arith;
      from_in_range = omega arith;
      no_mark_before = λ more k low lt o. absurd (omega (arith, lt));
    }

-- one message is cut off
pub window_next : (e next : Envelope) (stream bytes text : List ℕ) (start len : ℕ) (taken waiting : List Item)
    → IsOpenMessageWindow e stream (drop start bytes) (taken ++ waiting) → CutsAtFirstSeparator (drop start bytes) len text next
    → IsOpenMessageWindow next stream (drop (start + len) bytes) (taken ++ (waiting ++ one e text ∷ []))
window_next e next stream bytes text start len taken waiting w n =
    let rest = drop start bytes in
    let P : List ℕ → Type 0 = λ x. IsOpenMessageWindow e stream x (taken ++ waiting) in
    let D : List ℕ → Type 0 = λ x. IsOpenMessageWindow next stream x (taken ++ (waiting ++ one e text ∷ [])) in
    let I : List Item → Type 0 = λ x. IsOpenMessageWindow next stream (drop len rest) x in
    let parted = subst P (sym (take-append-drop len rest)) w in
    let cut = window_cut e next stream (take len rest) (drop len rest) (taken ++ waiting) (one e text) parted (n.ends_open_message e) in
    subst D (drop-drop len start bytes) (subst I (append_assoc taken waiting (one e text ∷ [])) cut)

pub start_next : (bytes text : List ℕ) (start len : ℕ) (next : Envelope) → start ≤ length bytes → CutsAtFirstSeparator (drop start bytes) len text next → start + len ≤ length bytes
start_next bytes text start len next low n = omega (arith, low, n.len_in_range, length-drop start bytes)

pub begin_more : (a b : List Item) (i : Item) → IsBeginning a b → IsBeginning a (b ++ i ∷ [])
begin_more a b i (rest, e) = (rest ++ i ∷ [], ap (λ x. x ++ i ∷ []) e ∙ append_assoc a rest (i ∷ []))

pub begin_self : (a : List Item) → IsBeginning a a
begin_self a = ([], sym (append-nil a))

all_but : (is : List Item) (i : Item) (js : List Item) → all_but_last (is ++ i ∷ js) ≡ is ++ all_but_last (i ∷ js)
unfolding all_but_last
all_but [] i js = refl
all_but (j ∷ []) i js = refl
all_but (j ∷ k ∷ is) i js = ap (λ x. j ∷ x) (all_but (k ∷ is) i js)

-- the items given are settled
pub window_begin : (e : Envelope) (stream window : List ℕ) (items : List Item) → IsOpenMessageWindow e stream window items → IsBeginning items (settled_items stream)
window_begin e stream window items w =
    let i : Item = one e (text_before_separator (settled_bytes window)) in
    let whole : settled_bytes stream ≡ w.bytes_before ++ settled_bytes window = ap settled_bytes w.stream_is ∙ settled_append w.bytes_before window w.whole_lines in (
      all_but_last (i ∷ items_from_separator (settled_bytes window)),
      ap (λ x. all_but_last (file_items x)) whole ∙ ap all_but_last (w.items_after_more (settled_bytes window)) ∙ all_but items i (items_from_separator (settled_bytes window)),
    )

looked_fed : (bytes more : List ℕ) (from : ℕ) → IsSearchedUpTo bytes from → IsSearchedUpTo (bytes ++ more) from
looked_fed bytes more from l = record {
  front = l.front;
  unsearched = l.unsearched ++ more;
  bytes_are = ap (λ x. x ++ more) l.bytes_are ∙ append_assoc l.front l.unsearched more;
  whole_lines = l.whole_lines;
  no_line_separates = l.no_line_separates;
  ends_unblank = l.ends_unblank;
  from_behind_front = l.from_behind_front;
  from_in_range = omega (arith, l.from_in_range, length-append bytes more);
  no_mark_before = λ next k low lt o.
      let O : List ℕ → Type 0 = λ x. OccursAt x lf_and_from k in
      l.no_mark_before (more ++ next) k low lt (subst O (append_assoc bytes more next) o);
}

-- ---- the front of a file

lines_on : (a b : List ℕ) → HoldsWholeLines a → lines (a ++ b) ≡ lines a ++ lines b
lines_on a b w = ended_whole a w b

all_append : (a b : List (List ℕ)) → AllByRecursion IsBlankLine a → AllByRecursion IsBlankLine b → AllByRecursion IsBlankLine (a ++ b)
all_append [] b h g = g
all_append (l ∷ a) b h g = (h.0, all_append a b h.1 g)

blanks_on : (a b : List ℕ) → HoldsWholeLines a → AllByRecursion IsBlankLine (lines a) → AllByRecursion IsBlankLine (lines b) → AllByRecursion IsBlankLine (lines (a ++ b))
blanks_on a b w h g = subst (λ (x : List (List ℕ)). AllByRecursion IsBlankLine x) (sym (lines_on a b w)) (all_append (lines a) (lines b) h g)

parted : (stream gone window : List ℕ) (at : ℕ) → stream ≡ gone ++ window → stream ≡ (gone ++ take at window) ++ drop at window
parted stream gone window at e = e ∙ ap (λ x. gone ++ x) (sym (take-append-drop at window)) ∙ sym (append_assoc gone (take at window) (drop at window))

pub front_passed : (stream window : List ℕ) (skipped at n : ℕ) → IsBeforeFirstMessage stream window skipped [] → SkipsBlankLinesTo window at
    → n ≡ min (skipped + at) 18446744073709551615 → IsBeforeFirstMessage stream (drop at window) n []
front_passed stream window skipped at n u p e = record {
  bytes_before = u.bytes_before ++ take at window;
  stream_is = parted stream u.bytes_before window at u.stream_is;
  whole_lines = whole_append u.bytes_before (take at window) u.whole_lines p.whole_lines;
  all_blank = blanks_on u.bytes_before (take at window) u.whole_lines u.all_blank p.all_blank;
  skipped_is_length = λ fits.
      let c = u.skipped_is_length fits in
      omega (arith, e, c, fits, ap length u.stream_is, length-append u.bytes_before window, length-append u.bytes_before (take at window), length-take at window, p.at_in_range);
  no_item_yet = refl;
}

-- blank lines, a separator line, and what follows
opens : (front line more : List ℕ) (e : Envelope) → HoldsWholeLines front → AllByRecursion IsBlankLine (lines front) → HoldsWholeLines line → lines line ≡ line ∷ []
    → separator_of (content line) ≡ Some e → file_items ((front ++ line) ++ more) ≡ items_after_separator (Some e) more
opens front line more e w b v alone s =
    let bs = lines front in
    let are : lines ((front ++ line) ++ more) ≡ bs ++ line ∷ lines more =
    ap lines (append_assoc front line more) ∙ lines_on front (line ++ more) w ∙ ap (λ x. bs ++ x) (lines_on line more v ∙ ap (λ x. x ++ lines more) alone) in
    let split : front_and_items_of_lines true (lines ((front ++ line) ++ more)) ≡ with_lines bs (with_new_item e (front_and_items_of_lines false (lines more))) =
    ap (front_and_items_of_lines true) are ∙ split-quiet true bs (line ∷ lines more) (quiet_blanks true bs b)
    ∙ ap (λ p. with_lines bs (front_and_items_of_lines p (line ∷ lines more))) (last_blanks bs b)
    ∙ ap (with_lines bs) (split-some true line (lines more) e s) in
    ap items_unless_preamble split ∙ if_blank (all_blank (bs ++ [])) (items_after_separator (Some e) more) (ap all_blank (append-nil bs) ∙ all_blank_is bs b)
  where
    if_blank : (t : Bool) (is : List Item) → t ≡ true → (if t then is else []) ≡ is
    if_blank true is h = refl
    if_blank false is h = absurd (cc)

pub front_opened : (stream window : List ℕ) (skipped at : ℕ) (e : Envelope) → IsBeforeFirstMessage stream window skipped [] → OpensFirstMessage window at e
    → IsOpenMessageWindow e stream (drop at window) []
front_opened stream window skipped at e u o =
    let front = u.bytes_before ++ o.blanks in
    let whole = whole_append u.bytes_before o.blanks u.whole_lines o.whole_lines in
    let same : u.bytes_before ++ take at window ≡ front ++ o.line = ap (λ x. u.bytes_before ++ x) o.bytes_are ∙ sym (append_assoc u.bytes_before o.blanks o.line) in
    record {
      bytes_before = front ++ o.line;
      stream_is = parted stream u.bytes_before window at u.stream_is ∙ ap (λ x. x ++ drop at window) same;
      whole_lines = whole_append front o.line whole o.whole_line;
      items_after_more = λ more. opens front o.line more e whole (blanks_on u.bytes_before o.blanks u.whole_lines u.all_blank o.all_blank) o.whole_line o.one_line o.line_separates;
    }

concat_append : (a b : List (List ℕ)) → concat (a ++ b) ≡ concat a ++ concat b
concat_append [] b = refl
concat_append (l ∷ a) b = ap (λ x. l ++ x) (concat_append a b) ∙ sym (append_assoc l (concat a) (concat b))

pub behind_blanks : (gone x : List ℕ) (at : ℕ) → HoldsWholeLines gone → AllByRecursion IsBlankLine (lines gone) → IsPreamble x at → IsPreamble (gone ++ x) (length gone + at)
behind_blanks gone x at w b p = record {
  blanks = lines gone ++ p.blanks;
  line = p.line;
  lines_after = p.lines_after;
  are_lines = lines_on gone x w ∙ ap (λ ls. lines gone ++ ls) p.are_lines ∙ sym (append_assoc (lines gone) p.blanks (p.line ∷ p.lines_after));
  all_blank = all_append (lines gone) p.blanks b p.all_blank;
  is_not_blank = p.is_not_blank;
  is_no_separator = p.is_no_separator;
  offset_is = ap (λ n. length gone + n) p.offset_is ∙ ap (λ t. length t + length (concat p.blanks)) (sym (concat-lines gone))
      ∙ sym (length-append (concat (lines gone)) (concat p.blanks)) ∙ ap length (sym (concat_append (lines gone) p.blanks));
}

pub front_counted : (stream window : List ℕ) (skipped at n : ℕ) (items : List Item) (u : IsBeforeFirstMessage stream window skipped items) → at ≤ length window
    → n ≡ min (skipped + at) 18446744073709551615 → IsOffsetUnlessOverflow stream n (length u.bytes_before + at)
front_counted stream window skipped at n items u low e fits =
    let c = u.skipped_is_length fits in omega (arith, e, c, fits, ap length u.stream_is, length-append u.bytes_before window, low)

pub front_faulty : (stream window : List ℕ) (skipped at n : ℕ) → (u : IsBeforeFirstMessage stream window skipped []) → IsSettledPreamble window at
    → IsSettledPreamble stream (length u.bytes_before + at)
front_faulty stream window skipped at n u p =
    let P : List ℕ → Type 0 = λ x. IsPreamble x (length u.bytes_before + at) in
    subst P (sym (ap settled_bytes u.stream_is ∙ settled_append u.bytes_before window u.whole_lines)) (behind_blanks u.bytes_before (settled_bytes window) at u.whole_lines u.all_blank p)

-- the faulty line lies in the bytes
pub preamble_within : (bytes : List ℕ) (at : ℕ) → IsPreamble bytes at → at ≤ length bytes
preamble_within bytes at p =
    let all : length bytes ≡ length (concat p.blanks) + length (concat (p.line ∷ p.lines_after)) =
    ap length (sym (concat-lines bytes)) ∙ ap (λ ls. length (concat ls)) p.are_lines ∙ ap length (concat_append p.blanks (p.line ∷ p.lines_after))
    ∙ length-append (concat p.blanks) (concat (p.line ∷ p.lines_after)) in
    omega (arith, all, p.offset_is)

pub settled_within : (bytes : List ℕ) (at : ℕ) → IsSettledPreamble bytes at → at ≤ length bytes
settled_within bytes at p =
    let s = settled_bytes_all bytes in
    omega (arith, preamble_within (settled_bytes bytes) at p, ap length s.1, length-append (settled_bytes bytes) s.0)

-- ---- what was given is what is settled

pub unopened_given : (stream window : List ℕ) (skipped : ℕ) (items : List Item) → IsBeforeFirstMessage stream window skipped items → settled_bytes window ≡ [] → items ≡ settled_items stream
unfolding all_but_last
unopened_given stream window skipped items u n =
    let whole : settled_bytes stream ≡ u.bytes_before = ap settled_bytes u.stream_is ∙ settled_front u.bytes_before window u.whole_lines n in
    u.no_item_yet ∙ sym (ap (λ x. all_but_last (file_items x)) whole ∙ ap all_but_last (blank_none u.bytes_before u.all_blank))
  where
    blank_none : (gone : List ℕ) → AllByRecursion IsBlankLine (lines gone) → file_items gone ≡ []
    blank_none gone b =
        let d : DividesIntoItems gone [] = (lines gone, [], sym (append-nil (lines gone)), b, refl) in
        file_items_divide gone [] d

pub unopened_sound : (stream window : List ℕ) (skipped : ℕ) (items : List Item) → IsBeforeFirstMessage stream window skipped items → settled_bytes window ≡ []
    → (offset : ℕ) → ¬ IsSettledPreamble stream offset
unopened_sound stream window skipped items u n offset p =
    let whole : settled_bytes stream ≡ u.bytes_before = ap settled_bytes u.stream_is ∙ settled_front u.bytes_before window u.whole_lines n in
    let P : List ℕ → Type 0 = λ x. IsPreamble x offset in
    let d : DividesIntoItems u.bytes_before [] = (lines u.bytes_before, [], sym (append-nil (lines u.bytes_before)), u.all_blank, refl) in
    not_both u.bytes_before offset [] (subst P whole p) d

pub kept_given : (place : Place) (window stream : List ℕ) (items : List Item) → IsWindowAtPlace place window stream items → HoldsNoSettledItem place window → items ≡ settled_items stream
kept_given (Front skipped) window stream items k s = unopened_given stream window skipped items k s
kept_given (Message head from) window stream items k s = window_settled head.envelope stream window items k.0 s

pub kept_sound : (place : Place) (window stream : List ℕ) (items : List Item) → IsWindowAtPlace place window stream items → HoldsNoSettledItem place window
    → (offset : ℕ) → ¬ IsSettledPreamble stream offset
kept_sound (Front skipped) window stream items k s = unopened_sound stream window skipped items k s
kept_sound (Message head from) window stream items k s = window_sound head.envelope stream window items k.0

pub kept_fed : (place : Place) (window stream piece : List ℕ) (items : List Item) → IsWindowAtPlace place window stream items → IsWindowAtPlace place (window ++ piece) (stream ++ piece) items
kept_fed (Front skipped) window stream piece items u = record {
  bytes_before = u.bytes_before;
  stream_is = ap (λ x. x ++ piece) u.stream_is ∙ append_assoc u.bytes_before window piece;
  whole_lines = u.whole_lines;
  all_blank = u.all_blank;
  skipped_is_length = λ fits. u.skipped_is_length (omega (arith, fits, length-append stream piece));
  no_item_yet = u.no_item_yet;
}
kept_fed (Message head from) window stream piece items k = (window_fed head.envelope stream window piece items k.0, looked_fed window piece from k.1)

pub settled_fed : (place : Place) (window piece : List ℕ) → settled_bytes piece ≡ [] → HoldsNoSettledItem place window → HoldsNoSettledItem place (window ++ piece)
settled_fed (Front skipped) window piece n s = settled_same window piece n ∙ s
settled_fed (Message head from) window piece n s = ap items_from_separator (settled_same window piece n) ∙ s

pub kept_short : (place : Place) (window stream before piece : List ℕ) (items : List Item) → stream ≡ before ++ piece → IsWindowAtPlace place window before items
    → HoldsNoSettledItem place window → IsBeginning items (settled_items stream)
kept_short place window stream before piece items e k s =
    let B : List Item → Type 0 = λ x. IsBeginning x (settled_items (before ++ piece)) in
    let S : List ℕ → Type 0 = λ x. IsBeginning items (settled_items x) in
    subst S (sym e) (subst B (sym (kept_given place window before items k s)) (settled_items_only_grow before piece))

pub kept_on : (place : Place) (window longer stream before piece : List ℕ) (items : List Item) → stream ≡ before ++ piece → longer ≡ window ++ piece
    → IsWindowAtPlace place window before items → IsWindowAtPlace place longer stream items
kept_on place window longer stream before piece items e l k =
    let S : List ℕ → Type 0 = λ x. IsWindowAtPlace place (window ++ piece) x items in
    let W : List ℕ → Type 0 = λ x. IsWindowAtPlace place x stream items in
    subst W (sym l) (subst S (sym e) (kept_fed place window before piece items k))

pub settled_on : (place : Place) (window longer piece : List ℕ) → longer ≡ window ++ piece → settled_bytes piece ≡ [] → HoldsNoSettledItem place window → HoldsNoSettledItem place longer
settled_on place window longer piece l n s =
    let W : List ℕ → Type 0 = λ x. HoldsNoSettledItem place x in subst W (sym l) (settled_fed place window piece n s)

-- ---- at the end

-- items are those of a division
divided : (bytes : List ℕ) (i : Item) (is js : List Item) → file_items bytes ≡ is ++ i ∷ js → DividesIntoItems bytes (is ++ i ∷ js)
divided bytes i is js e = cases (all_blank (front_and_items_of_lines true (lines bytes)).front) refl
  where
    none_some : (is : List Item) → [] ≡ is ++ i ∷ js → ⊥
    none_some [] h = absurd (cc)
    none_some (x ∷ is) h = absurd (cc)

    if_blank : (t : Bool) (x : List Item) → t ≡ true → (if t then x else []) ≡ x
    if_blank true x h = refl
    if_blank false x h = absurd (cc)

    unless : (t : Bool) (x : List Item) → t ≡ false → (if t then x else []) ≡ []
    unless true x h = absurd (cc)
    unless false x h = refl

    cases : (t : Bool) → all_blank (front_and_items_of_lines true (lines bytes)).front ≡ t → DividesIntoItems bytes (is ++ i ∷ js)
    cases true h =
        let D : List Item → Type 0 = λ x. DividesIntoItems bytes x in
        let same : items_of bytes ≡ is ++ i ∷ js = sym (if_blank (all_blank (front_and_items_of_lines true (lines bytes)).front) (items_of bytes) h) ∙ e in
        subst D same (front_divides bytes (is_all_blank (front_and_items_of_lines true (lines bytes)).front h))
    cases false h = absurd (none_some is (sym (unless (all_blank (front_and_items_of_lines true (lines bytes)).front) (items_of bytes) h) ∙ e))

pub message_end : (e : Envelope) (stream window : List ℕ) (taken waiting last : List Item) → IsOpenMessageWindow e stream window (taken ++ waiting)
    → last ≡ items_after_separator (Some e) window → DividesIntoItems stream (taken ++ (waiting ++ last))
message_end e stream window taken waiting last w same =
    let i : Item = one e (text_before_separator window) in
    let d = divided stream i (taken ++ waiting) (items_from_separator window) (window_end e stream window (taken ++ waiting) w) in
    let D : List Item → Type 0 = λ x. DividesIntoItems stream x in
    subst D (append_assoc taken waiting (items_after_separator (Some e) window) ∙ ap (λ x. taken ++ (waiting ++ x)) (sym same)) d

pub front_end : (stream window : List ℕ) (skipped : ℕ) (taken waiting last : List Item) → IsBeforeFirstMessage stream window skipped (taken ++ waiting)
    → DividesIntoItems window last → DividesIntoItems stream (taken ++ (waiting ++ last))
front_end stream window skipped taken waiting last u (blanks, rest, e, b, blocks) =
    let D : List Item → Type 0 = λ x. DividesIntoItems stream x in
    let same : last ≡ taken ++ (waiting ++ last) = ap (λ x. x ++ last) (sym u.no_item_yet) ∙ append_assoc taken waiting last in
    let are : lines stream ≡ (lines u.bytes_before ++ blanks) ++ rest =
    ap lines u.stream_is ∙ lines_on u.bytes_before window u.whole_lines ∙ ap (λ x. lines u.bytes_before ++ x) e ∙ sym (append_assoc (lines u.bytes_before) blanks rest) in
    subst D same (lines u.bytes_before ++ blanks, rest, are, all_append (lines u.bytes_before) blanks u.all_blank b, blocks)

pub front_end_faulty : (stream window : List ℕ) (skipped at n : ℕ) (items : List Item) → (u : IsBeforeFirstMessage stream window skipped items) → IsPreamble window at
    → n ≡ min (skipped + at) 18446744073709551615 → (offset : ℕ) × IsPreamble stream offset × IsOffsetUnlessOverflow stream n offset
front_end_faulty stream window skipped at n items u p e =
    let P : List ℕ → Type 0 = λ x. IsPreamble x (length u.bytes_before + at) in (
      length u.bytes_before + at,
      subst P (sym u.stream_is) (behind_blanks u.bytes_before window at u.whole_lines u.all_blank p),
      front_counted stream window skipped at n items u (preamble_within window at p) e,
    )

pub faulty_none : (stream : List ℕ) (offset : ℕ) → IsSettledPreamble stream offset → settled_items stream ≡ []
faulty_none stream offset p = no_item_is_settled_before_a_preamble stream [] offset (a_settled_preamble_stays stream [] offset p)

-- of no bytes nothing is given
pub unopened_nothing : (stream window : List ℕ) (items : List Item) → stream ≡ [] → window ≡ [] → items ≡ [] → IsBeforeFirstMessage stream window 0 items
unopened_nothing stream window items s w i = record {
  bytes_before = [];
  stream_is = s ∙ sym w;
  whole_lines = settled_nil;
  all_blank = subst (λ (x : List (List ℕ)). AllByRecursion IsBlankLine x) (sym lines-nil) tt;
  skipped_is_length = λ fits. refl;
  no_item_yet = i;
}
