-- How far the messages that pass are out.
use Rattle.std.proofs.Common.{◌≡◌, ◌≢◌, ℕ, ◌+◌, ◌-◌, ◌<◌, ◌^◌, min, Bool, List, [], ◌∷◌, ◌++◌, length, take, true, false, refl, sym, ap}
use Rattle.std.proofs.Common.{subst, ◌∙◌, arith, append_assoc, length-append, inl, inr, ◌⊎◌, Result, Err, if◌then◌else◌}
use Rattle.std.proofs.lemmas.List.{append-nil}
use Rattle.std.proofs.lemmas.List.{take-append-le}
use Rattle.std.proofs.Math.Seq.{take-append-add}
use Rattle.std.proofs.Common.{length-take}
use Rattle.mbox_core.specs.Division.{Item, DividesIntoItems}
use Rattle.mbox_core.specs.Written.{written_item, AppendsPrefixOfText}
use Rattle.policy_core.specs.Rules.{Rule}
use Rattle.mbox_core.specs.Division.{IsPreamble}
use Rattle.mbox_stream.specs.Stream.{IsBeginning, settled_items, IsSettledPreamble, IsOffsetUnlessOverflow}
use Rattle.mbox_stream.specs.Cutter.{CutterState, taken_and_waiting_items, AreItemsGivenInPhase, IsCutterConsistent, IsReadFault, IsEndFault, is_read_failure}
use Rattle.mbox_stream.specs.declared.cutter.CutterPhase.{CutterPhase}
use Rattle.mbox_stream.specs.declared.cutter.CutterPhase.TheVariants.{Open, Finished}
use Rattle.mbox_core.specs.declared.faults.MboxFault.{MboxFault}
use Rattle.mbox_core.specs.declared.faults.MboxFault.TheVariants.{Preamble, Read, Memory, Failed}
use Rattle.mbox_core.proofs.DivisionLaws.{each_text_has_a_division_or_a_preamble}
use Rattle.sift_run.specs.declared.sifting.SiftFault.TheVariants.{Mbox}
use Rattle.mbox_stream.proofs.StreamLaws.{settled_items_only_grow, no_item_is_settled_before_a_preamble, a_settled_preamble_stays, settled_divide}
use Rattle.sift_run.specs.Sifting.{SiftConditions, message_passes, filtered_text, FiltersSettledMessages, FiltersSomeSettledMessages}
use Rattle.sift_run.specs.Sifting.{StopsAtPreamble, FiltersUntilInputError, FiltersSoFar, FiltersTranscriptPartly, FiltersTranscript, MatchesReadFailures}

-- Of a text `all` a part is out, `left` is to come, and `count` bytes were counted, up to the greatest number of 64 bits.
pub record Sent (old now all left : List ℕ) (count : ℕ) : Type 0 where
  pub part : List ℕ
  pub out : now ≡ old ++ part
  pub whole : all ≡ part ++ left
  pub counted : count ≡ min (length part) 18446744073709551615

pub sent_none : (old all : List ℕ) → Sent old old all all 0
sent_none old all = record { part = []; out = sym (append-nil old); whole = refl; counted = refl }

-- one message more
pub sent_more : (old now all left text rest new : List ℕ) (count more : ℕ) → Sent old now all left count → left ≡ text ++ rest
    → new ≡ now ++ text → more ≡ min (count + min (length text) 18446744073709551615) 18446744073709551615 → Sent old new all rest more
sent_more old now all left text rest new count more s e n m = record {
  part = s.part ++ text;
  out = n ∙ ap (λ x. x ++ text) s.out ∙ append_assoc old s.part text;
  whole = s.whole ∙ ap (λ x. s.part ++ x) e ∙ sym (append_assoc s.part text rest);
  counted = omega (arith, m, s.counted, length-append s.part text);
}

-- a fault in the next message
pub sent_part : (old now all left text rest new : List ℕ) (count k more : ℕ) → Sent old now all left count → left ≡ text ++ rest
    → (length new < 2 ^ 64 → AppendsPrefixOfText now new text k) → more ≡ min (count + k) 18446744073709551615
    → length new < 2 ^ 64 → AppendsPrefixOfText old new all more
sent_part old now all left text rest new count k more s e cut m fits =
    let low = (cut fits).0 in
    let out = (cut fits).1 in
    let told : length new ≡ length old + length s.part + k =
    omega (arith, ap length out, length-append now (take k text), ap length s.out, length-append old s.part, length-take k text, low) in
    let exact : more ≡ length s.part + k = omega (arith, m, s.counted, told, fits) in (
      omega (arith, exact, low, ap length s.whole, length-append s.part left, ap length e, length-append text rest),
      out ∙ ap (λ x. x ++ take k text) s.out ∙ append_assoc old s.part (take k text)
          ∙ ap (λ x. old ++ (s.part ++ x)) (sym (take-append-le k text rest low) ∙ ap (take k) (sym e))
          ∙ ap (λ x. old ++ x) (sym (take-append-add s.part left k))
          ∙ ap (λ x. old ++ take (length s.part + k) x) (sym s.whole) ∙ ap (λ n. old ++ take n all) (sym exact),
    )

pub sent_all : (old now all left : List ℕ) (count : ℕ) → Sent old now all left count → left ≡ [] → now ≡ old ++ all
sent_all old now all left count s e =
    s.out ∙ ap (λ x. old ++ x) (sym (append-nil s.part) ∙ ap (λ x. s.part ++ x) (sym e) ∙ sym s.whole)

pub sifted-yes : (rules : List Rule) (asked : SiftConditions) (item : Item) (items all : List Item) → all ≡ item ∷ items → true ≡ message_passes rules asked item
    → filtered_text rules asked all ≡ written_item item ++ filtered_text rules asked items
sifted-yes rules asked item items all e h = rw (e, sym h) refl

pub sifted-no : (rules : List Rule) (asked : SiftConditions) (item : Item) (items all : List Item) → all ≡ item ∷ items → false ≡ message_passes rules asked item
    → filtered_text rules asked all ≡ filtered_text rules asked items
sifted-no rules asked item items all e h = rw (e, sym h) refl

pub divides_at : (items : List Item) (a b : List ℕ) → a ≡ b → DividesIntoItems a items → DividesIntoItems b items
divides_at items a b e h = let P : List ℕ → Type 0 = λ x. DividesIntoItems x items in subst P e h

pub sifted-append : (rules : List Rule) (asked : SiftConditions) (a b : List Item) → filtered_text rules asked (a ++ b) ≡ filtered_text rules asked a ++ filtered_text rules asked b
sifted-append rules asked [] b = refl
sifted-append rules asked (i ∷ a) b = cases (message_passes rules asked i) refl (sifted-append rules asked a b)
  where
    cases : (t : Bool) → t ≡ message_passes rules asked i → filtered_text rules asked (a ++ b) ≡ filtered_text rules asked a ++ filtered_text rules asked b
        → filtered_text rules asked (i ∷ (a ++ b)) ≡ filtered_text rules asked (i ∷ a) ++ filtered_text rules asked b
    cases true e h = sifted-yes rules asked i (a ++ b) (i ∷ (a ++ b)) refl e ∙ ap (λ x. written_item i ++ x) h
        ∙ sym (append_assoc (written_item i) (filtered_text rules asked a) (filtered_text rules asked b))
        ∙ ap (λ x. x ++ filtered_text rules asked b) (sym (sifted-yes rules asked i a (i ∷ a) refl e))
    cases false e h = sifted-no rules asked i (a ++ b) (i ∷ (a ++ b)) refl e ∙ h
        ∙ ap (λ x. x ++ filtered_text rules asked b) (sym (sifted-no rules asked i a (i ∷ a) refl e))

-- some of those that waited are taken
pub record Moved (taken waiting taken_now waiting_now : List Item) : Type 0 where
  pub done : List Item
  pub was : waiting ≡ done ++ waiting_now
  pub is : taken_now ≡ taken ++ done

pub moved_none : (taken waiting : List Item) → Moved taken waiting taken waiting
moved_none taken waiting = record { done = []; was = refl; is = sym (append-nil taken) }

pub moved_one : (taken waiting t w t2 w2 : List Item) (i : Item) → Moved taken waiting t w → w ≡ i ∷ w2 → t2 ≡ t ++ i ∷ [] → Moved taken waiting t2 w2
moved_one taken waiting t w t2 w2 i m e f = record {
  done = m.done ++ i ∷ [];
  was = m.was ∙ ap (λ x. m.done ++ x) e ∙ sym (append_assoc m.done (i ∷ []) w2);
  is = f ∙ ap (λ x. x ++ i ∷ []) m.is ∙ append_assoc taken m.done (i ∷ []);
}

pub moved_all : (taken waiting t w : List Item) → Moved taken waiting t w → w ≡ [] → t ≡ taken ++ waiting
moved_all taken waiting t w m e = m.is ∙ ap (λ x. taken ++ x) (sym (append-nil m.done) ∙ ap (λ x. m.done ++ x) (sym e) ∙ sym m.was)

none_some : (a b : List Item) (i : Item) → a ++ i ∷ b ≢ []
none_some [] b i e = cc
none_some (x ∷ a) b i e = cc

pub moved_some : (taken waiting t w w2 : List Item) (i : Item) → Moved taken waiting t w → w ≡ i ∷ w2 → waiting ≢ []
moved_some taken waiting t w w2 i m e z = none_some m.done w2 i (ap (λ x. m.done ++ x) (sym e) ∙ sym m.was ∙ z)

-- ---- between the reads

-- what was given is a beginning of what was given later
pub given_open : (c : CutterState) → IsCutterConsistent c → c.phase ≡ Open → (taken_and_waiting_items c ≡ settled_items c.stream) × ((offset : ℕ) → ¬ IsSettledPreamble c.stream offset)
given_open c g o = let G : CutterPhase → Type 0 = λ s. AreItemsGivenInPhase s c.stream (taken_and_waiting_items c) in subst G o g

given_end : (c : CutterState) → IsCutterConsistent c → c.phase ≡ Finished → DividesIntoItems c.stream (taken_and_waiting_items c)
given_end c g o = let G : CutterPhase → Type 0 = λ s. AreItemsGivenInPhase s c.stream (taken_and_waiting_items c) in subst G o g

nil_back : (a b : List Item) → a ++ b ≡ [] → b ≡ []
nil_back [] b e = e
nil_back (x ∷ a) b e = absurd (cc)

taken_is : (c : CutterState) → c.waiting ≡ [] → taken_and_waiting_items c ≡ c.taken
taken_is c w = ap (λ x. c.taken ++ x) w ∙ append-nil c.taken

module _ (rules : List Rule) (asked : SiftConditions) (in_old in_new out_old out_new : List ℕ) (c : CutterState) (before : ℕ)
    (s : FiltersSoFar rules asked in_old in_new out_old out_new c before) where
  settled_taken : c.taken ≡ settled_items c.stream
  settled_taken = sym (taken_is c s.none_waits) ∙ (given_open c s.is_consistent s.phase_is_open).0

  -- a read more
  module _ (told piece stream : List ℕ) (e : told ≡ in_new ++ piece) (f : stream ≡ c.stream ++ piece) where
    joined : told ≡ in_old ++ stream
    joined = e ∙ ap (λ x. x ++ piece) s.input_is_stream ∙ append_assoc in_old c.stream piece ∙ ap (λ x. in_old ++ x) (sym f)

    -- it failed
    unread_read : stream ≡ c.stream → FiltersSettledMessages rules asked in_old told out_old out_new
    unread_read same = (
      stream,
      joined,
      s.output_so_far ∙ ap (λ x. out_old ++ filtered_text rules asked x) (settled_taken ∙ ap settled_items (sym same)),
    )

    -- there was no memory for what it gave
    unread_memory : FiltersSomeSettledMessages rules asked in_old told out_old out_new
    unread_memory =
        let B : List Item → Type 0 = λ x. IsBeginning x (settled_items (c.stream ++ piece)) in
        let S : List ℕ → Type 0 = λ x. IsBeginning c.taken (settled_items x) in
        (stream, c.taken, joined, subst S (sym f) (subst B (sym settled_taken) (settled_items_only_grow c.stream piece)), s.output_so_far)

    -- the first line is faulty
    unread_preamble : (n offset : ℕ) → IsPreamble stream offset → IsOffsetUnlessOverflow stream n offset → StopsAtPreamble n in_old told out_old out_new
    unread_preamble n offset p counted =
        let P : List ℕ → Type 0 = λ x. IsPreamble x offset in
        let none : c.taken ≡ [] = settled_taken ∙ no_item_is_settled_before_a_preamble c.stream piece offset (subst P f p) in
        (stream, offset, joined, p, counted, s.output_so_far ∙ ap (λ x. out_old ++ filtered_text rules asked x) none ∙ append-nil out_old)

    settled_whole : (offset : ℕ) → IsSettledPreamble stream offset → IsPreamble stream offset
    settled_whole offset p = let P : List ℕ → Type 0 = λ x. IsPreamble x offset in subst P (append-nil stream) (a_settled_preamble_stays stream [] offset p)

    pub unread_fault : (fault : MboxFault) → IsReadFault stream fault → (fault ≡ Failed → ⊥) → (fault ≡ Read → stream ≡ c.stream)
        → FiltersUntilInputError rules asked in_old told out_old out_new (Mbox fault)
    unread_fault (Preamble n) p off same = unread_preamble n p.0 (settled_whole p.0 p.1) p.2
    unread_fault Read p off same = unread_read (same refl)
    unread_fault Memory p off same = unread_memory
    unread_fault Failed p off same = off refl

    pub end_fault : (fault : MboxFault) → IsEndFault stream fault → (fault ≡ Failed → ⊥) → FiltersUntilInputError rules asked in_old told out_old out_new (Mbox fault)
    end_fault (Preamble n) p off = unread_preamble n p.0 p.1 p.2
    end_fault Read p off = absurd p
    end_fault Memory p off = unread_memory
    end_fault Failed p off = off refl

    -- what waits goes out
    pub so_far_more : (d : CutterState) (waiting : List Item) (out_now : List ℕ) (count more : ℕ) → d.stream ≡ stream → d.taken ≡ c.taken ++ waiting
        → d.waiting ≡ [] → d.phase ≡ Open → IsCutterConsistent d → out_now ≡ out_new ++ filtered_text rules asked waiting
        → count ≡ min (length (filtered_text rules asked waiting)) (2 ^ 64 - 1) → more ≡ min (before + count) 18446744073709551615
        → FiltersSoFar rules asked in_old told out_old out_now d more
    so_far_more d waiting out_now count more ds dt dw dst dg o k m =
        let all : filtered_text rules asked d.taken ≡ filtered_text rules asked c.taken ++ filtered_text rules asked waiting = ap (filtered_text rules asked) dt ∙ sifted-append rules asked
        c.taken waiting in
        record {
          input_is_stream = joined ∙ ap (λ x. in_old ++ x) (sym ds);
          output_so_far = o ∙ ap (λ x. x ++ filtered_text rules asked waiting) s.output_so_far ∙ append_assoc out_old (filtered_text rules asked c.taken) (filtered_text rules asked waiting) ∙ ap
              (λ x. out_old ++ x) (sym all);
          count_is_length = omega (arith, m, k, s.count_is_length, ap length all, length-append (filtered_text rules asked c.taken) (filtered_text rules asked waiting));
          none_waits = dw;
          phase_is_open = dst;
          is_consistent = dg;
        }

    -- the output fails, as messages of a division go out
    part_of : (waiting rest items : List Item) (out_now : List ℕ) (k written : ℕ) → DividesIntoItems stream items → items ≡ (c.taken ++ waiting) ++ rest
        → (length out_now < 2 ^ 64 → AppendsPrefixOfText out_new out_now (filtered_text rules asked waiting) k) → written ≡ min (before + k) 18446744073709551615
        → FiltersTranscriptPartly rules asked in_old told out_old out_now written
    part_of waiting rest items out_now k written d are cut m =
        let left = filtered_text rules asked waiting ++ filtered_text rules asked rest in
        let whole : filtered_text rules asked items ≡ filtered_text rules asked c.taken ++ left =
        ap (filtered_text rules asked) are ∙ sifted-append rules asked (c.taken ++ waiting) rest ∙ ap (λ x. x ++ filtered_text rules asked rest) (sifted-append rules asked c.taken waiting)
        ∙ append_assoc (filtered_text rules asked c.taken) (filtered_text rules asked waiting) (filtered_text rules asked rest) in
        let sent : Sent out_old out_new (filtered_text rules asked items) left before =
        record { part = filtered_text rules asked c.taken; out = s.output_so_far; whole = whole; counted = s.count_is_length } in (
          stream,
          filtered_text rules asked items,
          joined,
          record { items = items; divides_into_items = d; output_is_filtered = refl },
          sent_part out_old out_new (filtered_text rules asked items) left (filtered_text rules asked waiting) (filtered_text rules asked rest) out_now before k written sent refl cut m,
        )

    pub part_open : (d : CutterState) (out_now : List ℕ) (k written : ℕ) → d.stream ≡ stream → d.taken ≡ c.taken → d.phase ≡ Open → IsCutterConsistent d → d.waiting ≢ []
        → (length out_now < 2 ^ 64 → AppendsPrefixOfText out_new out_now (filtered_text rules asked d.waiting) k) → written ≡ min (before + k) 18446744073709551615
        → FiltersTranscriptPartly rules asked in_old told out_old out_now written
    part_open d out_now k written ds dt dst dg some cut m = cases (each_text_has_a_division_or_a_preamble stream)
      where
        given_is : c.taken ++ d.waiting ≡ settled_items stream
        given_is = ap (λ x. x ++ d.waiting) (sym dt) ∙ (given_open d dg dst).0 ∙ ap settled_items ds

        cases : ((is : List Item) × DividesIntoItems stream is) ⊎ ((offset : ℕ) × IsPreamble stream offset) → FiltersTranscriptPartly rules asked in_old told out_old out_now written
        cases (inl (is, div)) =
            let D : List ℕ → Type 0 = λ x. DividesIntoItems x is in
            let b = settled_divide stream [] is (subst D (sym (append-nil stream)) div) in
            part_of d.waiting b.0 is out_now k written div (b.1 ∙ ap (λ x. x ++ b.0) (sym given_is)) cut m
        cases (inr (offset, p)) =
            let P : List ℕ → Type 0 = λ x. IsPreamble x offset in
            absurd (some (nil_back c.taken d.waiting (given_is ∙ no_item_is_settled_before_a_preamble stream [] offset (subst P (sym (append-nil stream)) p))))

    pub part_end : (d : CutterState) (out_now : List ℕ) (k written : ℕ) → d.stream ≡ stream → d.taken ≡ c.taken → d.phase ≡ Finished → IsCutterConsistent d
        → (length out_now < 2 ^ 64 → AppendsPrefixOfText out_new out_now (filtered_text rules asked d.waiting) k) → written ≡ min (before + k) 18446744073709551615
        → FiltersTranscriptPartly rules asked in_old told out_old out_now written
    part_end d out_now k written ds dt dst dg cut m =
        let D : List ℕ → Type 0 = λ x. DividesIntoItems x (taken_and_waiting_items d) in
        part_of d.waiting [] (taken_and_waiting_items d) out_now k written (subst D ds (given_end d dg dst)) (ap (λ x. x ++ d.waiting) dt ∙ sym (append-nil (c.taken ++ d.waiting))) cut m

    pub told_end : (d : CutterState) (out_now : List ℕ) → d.stream ≡ stream → d.taken ≡ c.taken → d.phase ≡ Finished → IsCutterConsistent d
        → out_now ≡ out_new ++ filtered_text rules asked d.waiting → FiltersTranscript rules asked in_old told out_old out_now
    told_end d out_now ds dt dst dg o =
        let D : List ℕ → Type 0 = λ x. DividesIntoItems x (taken_and_waiting_items d) in
        let all : filtered_text rules asked (taken_and_waiting_items d) ≡ filtered_text rules asked c.taken ++ filtered_text rules asked d.waiting =
        ap (λ x. filtered_text rules asked (x ++ d.waiting)) dt ∙ sifted-append rules asked c.taken d.waiting in (
          stream,
          filtered_text rules asked (taken_and_waiting_items d),
          joined,
          o ∙ ap (λ x. x ++ filtered_text rules asked d.waiting) s.output_so_far ∙ append_assoc out_old (filtered_text rules asked c.taken) (filtered_text rules asked d.waiting) ∙ ap
              (λ x. out_old ++ x) (sym all),
          record { items = taken_and_waiting_items d; divides_into_items = subst D ds (given_end d dg dst); output_is_filtered = refl },
        )

-- M2 alone is told of a read that failed
by_read : (fault : MboxFault) (first old now : ℕ) → old ≡ first → now ≡ old + (if is_read_failure (Err fault) then 1 else 0) → MatchesReadFailures (Mbox fault) first now
by_read (Preamble at) first old now same n = omega (arith, n, same)
by_read Read first old now same n = omega (arith, n, same)
by_read Memory first old now same n = omega (arith, n, same)
by_read Failed first old now same n = omega (arith, n, same)

pub of_read_fault : (result : Result Bool MboxFault) (fault : MboxFault) (first old now : ℕ) → result ≡ Err fault → old ≡ first
    → now ≡ old + (if is_read_failure result then 1 else 0) → MatchesReadFailures (Mbox fault) first now
of_read_fault result fault first old now e same n =
    let N : Result Bool MboxFault → Type 0 = λ r. now ≡ old + (if is_read_failure r then 1 else 0) in
    by_read fault first old now same (subst N e n)

-- the end of an input is met by no read that failed
pub of_read_end : (stream : List ℕ) (fault : MboxFault) (first now : ℕ) → IsEndFault stream fault → now ≡ first → MatchesReadFailures (Mbox fault) first now
of_read_end stream (Preamble at) first now why same = same
of_read_end stream Read first now why same = absurd why
of_read_end stream Memory first now why same = same
of_read_end stream Failed first now why same = same

pub so_far_start : (rules : List Rule) (asked : SiftConditions) (in_old out_old : List ℕ) (c : CutterState) → c ≡ record { stream = []; taken = []; waiting = []; phase = Open }
    → IsCutterConsistent c → FiltersSoFar rules asked in_old in_old out_old out_old c 0
so_far_start rules asked in_old out_old c e g = record {
  input_is_stream = sym (ap (λ x. in_old ++ x) (ap (λ (x : CutterState). x.stream) e) ∙ append-nil in_old);
  output_so_far = sym (ap (λ x. out_old ++ filtered_text rules asked x) (ap (λ (x : CutterState). x.taken) e) ∙ append-nil out_old);
  count_is_length = ap (λ x. min (length (filtered_text rules asked x)) 18446744073709551615) (sym (ap (λ (x : CutterState). x.taken) e));
  none_waits = ap (λ (x : CutterState). x.waiting) e;
  phase_is_open = ap (λ (x : CutterState). x.phase) e;
  is_consistent = g;
}
