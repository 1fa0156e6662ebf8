-- Heads at the front of a buffer.
use Rattle.std.proofs.Common.{◌≡◌, ◌≤◌, ◌<◌, ◌++◌, ℕ, List, [], length, ap, arith, map, take, drop, sym, ◌∙◌, refl, ◌+◌, ◌-◌, ◌≢◌, ◌∷◌, get_or, inl, inr}
use Rattle.std.specs.Prelude.{flat_map}
use Rattle.std.proofs.lemmas.Bool.{cases_lt}
use Rattle.std.proofs.lemmas.Grind.{common_steps}
use Rattle.std.proofs.lemmas.List.{length-append, append_assoc, take-append-le, length-take-le, append-nil}
use Rattle.std.proofs.Math.Seq.{take-append-add, take-append_seam, get_or-append_seam, get_or-append_right}
use Rattle.httparse.specs.Grammar.{RequestHead, ReadsRequest, LineEnd, crlf, lf, print_end, print_section, print_field, print_blank, print_version, print_request, HasNoRequest, NeverHasRequest}
use Rattle.httparse.specs.Spans.{IsRequestAt, header_bytes, name_and_value}
use Rattle.httparse.specs.declared.spans.HeaderSpan.{HeaderSpan}
use Rattle.httparse.specs.declared.spans.RequestSpans.{RequestSpans}
use Rattle.httparse.proofs.GrammarLemmas.{request_unique, request_prefix_free, ReadsRequest-append, print_request-append}
use borrow.Rule.Slice.PartMut.{put_mid}
use Rattle.archive_requests.specs.Heads.{BeginsWithHead, BeginsWithTooManyFields, CanBecomeHead}

few : {A B C : Type 0} (f : A → C) (g : B → C) (n : ℕ) (xs : List A) (ys : List B) → map f (take n xs) ≡ map g ys → length ys ≤ length xs
few f g n xs ys e = let l = ap length e in grind (arith, common_steps, l)

-- a head that was read into 64 places has no more fields
pub few_fields : (buf : List ℕ) (headers : List HeaderSpan) (r : RequestSpans) → length headers ≡ 64
    → (h : RequestHead) → IsRequestAt buf headers r h → length h.fields ≤ 64
few_fields buf headers r n h at =
    let small = few (header_bytes buf) name_and_value r.headers headers h.fields at.fields in
    omega (arith, n, small)

-- a head at the front is no longer than the buffer
pub head_fits : (buf : List ℕ) (h : RequestHead) (rest : List ℕ) → ReadsRequest buf h rest → length (print_request h) ≤ length buf
head_fits buf h rest x =
    let l = ap length x.1 ∙ length-append (print_request h) rest in
    omega (arith, l)

-- what was read is a head that the bytes begin with
pub begins : (buf : List ℕ) (headers : List HeaderSpan) (r : RequestSpans) → length headers ≡ 64 → length buf ≤ 8192
    → (h : RequestHead) → IsRequestAt buf headers r h → BeginsWithHead buf h
begins buf headers r n short h at = record {
  after_head = drop r.len buf;
  reads_head = at.reads;
  at_most_8192 = let l = head_fits buf h (drop r.len buf) at.reads in omega (arith, l, short);
  at_most_64_fields = few_fields buf headers r n h at;
}

-- then no head of more fields is there
pub not_more : (buf : List ℕ) (h k : RequestHead) → BeginsWithHead buf h → BeginsWithTooManyFields buf k → ⊥
not_more buf h k b x =
    let u = request_unique buf h k b.after_head x.after_head b.reads_head x.reads_head in
    let same = ap (λ (g : RequestHead). length g.fields) u.0 in
    let a = b.at_most_64_fields in
    let z = x.over_64_fields in
    omega (arith, same, a, z)

-- what follows leaves the head as it is
pub stays : (buf more : List ℕ) (h k : RequestHead) → BeginsWithHead buf h → BeginsWithHead (buf ++ more) k → BeginsWithHead buf k
stays buf more h k b x =
    let u = request_prefix_free buf more h k b.after_head x.after_head b.reads_head x.reads_head in
    rw u.0 at b

-- bytes that never have a head begin with none
pub never_none : (buf : List ℕ) (h : RequestHead) (rest : List ℕ) → NeverHasRequest buf → ReadsRequest buf h rest → ⊥
never_none buf h rest never x = never [] h (rest ++ []) (ReadsRequest-append buf h rest [] x)

-- the spans that were read are those of each head that the bytes begin with
pub is_it : (buf : List ℕ) (headers : List HeaderSpan) (r : RequestSpans) (h k : RequestHead)
    → IsRequestAt buf headers r h → BeginsWithHead buf k → IsRequestAt buf headers r k
is_it buf headers r h k at b =
    let u = request_unique buf h k (drop r.len buf) b.after_head at.reads b.reads_head in
    rw u.0 at at

-- the first n bytes of a text that begins with no more than n bytes
pub take_more : (n : ℕ) (xs ys : List ℕ) → length xs ≤ n → take n (xs ++ ys) ≡ xs ++ take (n - length xs) ys
take_more n xs ys le =
    let same : length xs + (n - length xs) ≡ n = omega (arith, le) in
    let t : take (length xs + (n - length xs)) (xs ++ ys) ≡ xs ++ take (n - length xs) ys = take-append-add xs ys (n - length xs) in
    rw same at t

-- a head of at most n bytes is in the first n bytes
pub in_front : (n : ℕ) (buf : List ℕ) (h : RequestHead) (rest : List ℕ) → length (print_request h) ≤ n → ReadsRequest buf h rest
    → ReadsRequest (take n buf) h (take (n - length (print_request h)) rest)
in_front n buf h rest le x = (x.0, ap (take n) x.1 ∙ take_more n (print_request h) rest le)

-- bytes that never have a head have none either way when cut
pub never_cut : (n : ℕ) (buf more : List ℕ) → length buf ≤ n → NeverHasRequest buf → CanBecomeHead (take n (buf ++ more)) → ⊥
never_cut n buf more le never can =
    let cut = take_more n buf more le in
    let all = ap (λ (t : List ℕ). t ++ can.0) cut ∙ append_assoc buf (take (n - length buf) more) can.0 in
    never (take (n - length buf) more ++ can.0) can.1 can.2 (can.3.0, sym all ∙ can.3.1)

-- the head of a beginning is in the first 8,192 bytes of the whole
pub has_front : (buf more : List ℕ) (h : RequestHead) → BeginsWithHead buf h → HasNoRequest (take 8192 (buf ++ more)) → ⊥
has_front buf more h b none =
    none h (take (8192 - length (print_request h)) (b.after_head ++ more))
    (in_front 8192 (buf ++ more) h (b.after_head ++ more) b.at_most_8192 (ReadsRequest-append buf h b.after_head more b.reads_head))

-- what follows leaves a head of more fields as it is
pub more_stays : (buf more : List ℕ) (h k : RequestHead) → BeginsWithHead buf h → BeginsWithTooManyFields (buf ++ more) k → ⊥
more_stays buf more h k b x =
    let u = request_prefix_free buf more h k b.after_head x.after_head b.reads_head x.reads_head in
    let same = ap (λ (g : RequestHead). length g.fields) u.0 in
    let a = b.at_most_64_fields in
    let z = x.over_64_fields in
    omega (arith, same, a, z)

-- a text whose last byte is a line feed
abbrev EndsLine : List ℕ → Type 0
EndsLine text = (front : List ℕ) × (text ≡ front ++ 10 ∷ [])

after : (a b : List ℕ) → EndsLine b → EndsLine (a ++ b)
after a b e = (a ++ e.0, ap (λ (t : List ℕ). a ++ t) e.1 ∙ sym (append_assoc a e.0 (10 ∷ [])))

end_line : (e : LineEnd) → EndsLine (print_end e)
end_line crlf = (13 ∷ [], refl)
end_line lf = ([], refl)

next : (x : ℕ) (b : List ℕ) → EndsLine b → EndsLine (x ∷ b)
next x b e = (x ∷ e.0, ap (λ (t : List ℕ). x ∷ t) e.1)

same_line : (a b : List ℕ) → a ≡ b → EndsLine b → EndsLine a
same_line a b p e = (e.0, p ∙ e.1)

-- the last byte of a head is a line feed
pub head_line : (h : RequestHead) → EndsLine (print_request h)
head_line h =
    let s : EndsLine (print_section h.fields h.last) = after (flat_map print_field h.fields) (print_end h.last) (end_line h.last) in
    let t = same_line (print_section h.fields h.last ++ []) _ (append-nil _) s in
    let u = after (print_blank h.blank) _ (after h.method _ (next 32 _ (after h.target _ (next 32 _ (after (print_version h.minor) _ (after (print_end h.line_end) _ t)))))) in
    same_line (print_request h) _ (sym (append-nil (print_request h)) ∙ print_request-append h []) u

-- bytes with no head, and then some without a line feed, hold no head
pub no_line : (a p : List ℕ) → HasNoRequest a → ((k : ℕ) → k < length p → get_or p k 0 ≢ 10) → HasNoRequest (a ++ p)
no_line a p none dull h rest x =
    let e = head_line h in
    elim (cases_lt (length a) (length (print_request h))) [
      | inl long ↦
          let size = ap length e.1 ∙ length-append e.0 (10 ∷ []) in
          let le : length a ≤ length e.0 = omega (arith, long, size) in
          let same : a ++ p ≡ e.0 ++ 10 ∷ rest = x.1 ∙ ap (λ (t : List ℕ). t ++ rest) e.1 ∙ append_assoc e.0 (10 ∷ []) rest in
          let here = sym (get_or-append_right a p (length e.0) 0 le) ∙ ap (λ (t : List ℕ). get_or t (length e.0) 0) same ∙ get_or-append_seam e.0 10 rest 0 in
          let total = ap length same in
          let l1 = length-append a p in
          let l2 = length-append e.0 (10 ∷ rest) in
          dull (length e.0 - length a) (omega (arith, total, l1, l2, le)) here
      | inr short ↦
          let f = in_front (length a) (a ++ p) h rest short x in
          none h _ (f.0, sym (take-append_seam a p) ∙ f.1)
    ]

-- no head is in no byte
pub no_byte : HasNoRequest []
no_byte h rest x = let e = head_line h in
    let l = ap length (x.1 ∙ ap (λ (t : List ℕ). t ++ rest) e.1) in
    let a = length-append (e.0 ++ 10 ∷ []) rest in
    let b = length-append e.0 (10 ∷ []) in
    omega (arith, l, a, b)

-- what a slice holds up to the bytes that were written into its end
pub take_put : (a n k : ℕ) (xs ys : List ℕ) → a ≤ length xs → n ≤ length ys → take (a + n) (put_mid a k xs ys) ≡ take a xs ++ take n ys
take_put a n k xs ys le short =
    let size = length-take-le a xs le in
    let t : take (length (take a xs) + n) (put_mid a k xs ys) ≡ take a xs ++ take n (ys ++ drop k (drop a xs)) = take-append-add (take a xs) (ys ++ drop k (drop a xs)) n in
    let u : take (a + n) (put_mid a k xs ys) ≡ take a xs ++ take n (ys ++ drop k (drop a xs)) = ap (λ (m : ℕ). take (m + n) (put_mid a k xs ys)) (sym size) ∙ t in
    u ∙ ap (λ (t : List ℕ). take a xs ++ t) (take-append-le n ys (drop k (drop a xs)) short)

-- the first 8,192 bytes of so many and what follows
pub full_final : (buf more : List ℕ) → length buf ≡ 8192 → take 8192 (buf ++ more) ≡ buf
full_final buf more n =
    let le : length buf ≤ 8192 = omega (arith, n) in
    let zeroed : 8192 - length buf ≡ 0 = omega (arith, n) in
    let t : take (8192 - length buf) more ≡ [] = ap (λ (m : ℕ). take m more) zeroed in
    take_more 8192 buf more le ∙ ap (λ (x : List ℕ). buf ++ x) t ∙ append-nil buf

-- then no head of at most 8,192 bytes is at the front, whatever follows
pub full_none : (buf more : List ℕ) (h : RequestHead) (rest : List ℕ) → length buf ≡ 8192 → HasNoRequest buf
    → length (print_request h) ≤ 8192 → ReadsRequest (buf ++ more) h rest → ⊥
full_none buf more h rest n none short x =
    let f = in_front 8192 (buf ++ more) h rest short x in
    none h _ (f.0, sym (full_final buf more n) ∙ f.1)

-- a read of no byte leaves what came
pub same_front : (filled count : ℕ) (old new piece : List ℕ) → count ≡ 0 → length piece ≡ count
    → take (filled + count) new ≡ take filled old ++ piece → take filled new ≡ take filled old
same_front filled count old new [] z l e =
    let same : filled ≡ filled + count = omega (arith, z) in
    ap (λ (m : ℕ). take m new) same ∙ e ∙ append-nil (take filled old)
same_front filled count old new (x ∷ p) z l e = absurd (omega (arith, z, l))

pub same_told : (count : ℕ) (told now piece : List ℕ) → count ≡ 0 → length piece ≡ count → now ≡ told ++ piece → now ≡ told
same_told count told now [] z l e = e ∙ append-nil told
same_told count told now (x ∷ p) z l e = absurd (omega (arith, z, l))
