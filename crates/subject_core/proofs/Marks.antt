-- Marks of a reply and leaders: the functions find what the grammar says.
use Rattle.std.proofs.Common.{◌≡◌, ◌≢◌, ℕ, zero, suc, ◌+◌, ◌≤◌, Bool, true, List, [], ◌∷◌, ◌++◌, length, refl, arith, ap, ◌∙◌, sym, Some, None, append_assoc, length-append, subst, ◌⊎◌, inl, inr}
use Rattle.std.specs.Prelude.{codes}
use Rattle.std.specs.Option.{option_or, option_and_then}
use Rattle.std.specs.Char.{to_ascii_lowercase}
use Rattle.subject_core.specs.Pieces.{AreSpaces, IsBlob, EqualsIgnoringCase, IsReplyWord, IsRefwd, IsLeader}
use Rattle.subject_core.specs.Pieces.IsLeader.{space, refwd, behind}
use Rattle.subject_core.specs.Removal.{after_literal, after_spaces, after_blob, after_blob_and_colon, after_reply_word, after_refwd, after_leader}
use Rattle.subject_core.proofs.Steps.{after-nothing, after-same, after-other, spaces-done}
use Rattle.subject_core.proofs.Options.{some_or, or_none, or_some, some_then, then_some, then_none}
use Rattle.subject_core.proofs.Literals.{after_sound, after_complete}
use Rattle.subject_core.proofs.Blobs.{spaces_sound, spaces_over, blob_sound, blob_complete, that_byte}

-- what stands between the word and what follows the colon
pub record IsTail (t u : List ℕ) : Type 0 where
  pub spaces : List ℕ
  pub blob : List ℕ
  pub are_spaces : AreSpaces spaces
  pub is_blob : (blob ≡ []) ⊎ IsBlob blob
  pub is : t ≡ spaces ++ (blob ++ 58 ∷ u)

colon_at : (t u : List ℕ) → after_literal (codes ":") t ≡ Some u → t ≡ 58 ∷ u
colon_at t u h = let w = after_sound (codes ":") t u h in w.2 ∙ ap (λ (l : List ℕ). l ++ u) (that_byte w.0 58 (omega arith) w.1)

at_colon : (u : List ℕ) → after_literal (codes ":") (58 ∷ u) ≡ Some u
at_colon u = after-same 58 58 [] u refl ∙ after-nothing u

pub colon_sound : (t u : List ℕ) → after_blob_and_colon t ≡ Some u → IsTail t u
colon_sound t u h = go (some_or (after_literal (codes ":") (after_spaces t)) (option_and_then (after_literal (codes ":")) (after_blob (after_spaces t))) u h)
  where
    go : (after_literal (codes ":") (after_spaces t) ≡ Some u) ⊎ ((after_literal (codes ":") (after_spaces t) ≡ None)
        × (option_and_then (after_literal (codes ":")) (after_blob (after_spaces t)) ≡ Some u)) → IsTail t u
    go (inl e) =
        let s = spaces_sound t in
        record { spaces = s.0; blob = []; are_spaces = s.1; is_blob = inl refl; is = s.2 ∙ ap (λ (l : List ℕ). s.0 ++ l) (colon_at (after_spaces t) u e) }
    go (inr e) =
        let s = spaces_sound t in
        let x = some_then (after_literal (codes ":")) (after_blob (after_spaces t)) u e.1 in
        let b = blob_sound (after_spaces t) x.0 x.1 in
        record { spaces = s.0; blob = b.0; are_spaces = s.1; is_blob = inr b.1; is = s.2 ∙ ap (λ (l : List ℕ). s.0 ++ l) (b.2 ∙ ap (λ (l : List ℕ). b.0 ++ l) (colon_at x.0 u x.2)) }

-- a blob begins with its bracket
pub blob_opens : (blob t : List ℕ) → IsBlob blob → (rest : List ℕ) × (blob ++ t ≡ 91 ∷ rest)
blob_opens blob t h = ((h.inside ++ 93 ∷ h.spaces) ++ t, ap (λ (l : List ℕ). l ++ t) h.text_is)

pub no_spaces : (t rest : List ℕ) (b : ℕ) → t ≡ b ∷ rest → b ≢ 32 → after_spaces t ≡ t
no_spaces t rest b e n = ap after_spaces e ∙ spaces-done b rest n ∙ sym e

pub other_first : (t rest ks : List ℕ) (b k : ℕ) → t ≡ b ∷ rest → to_ascii_lowercase b ≢ k → after_literal (k ∷ ks) t ≡ None
other_first t rest ks b k e n = ap (after_literal (k ∷ ks)) e ∙ after-other k b ks rest n

pub colon_complete : (t u : List ℕ) → IsTail t u → after_blob_and_colon t ≡ Some u
colon_complete t u h = ap after_blob_and_colon h.is ∙ go h.blob h.is_blob
  where
    go : (blob : List ℕ) → (blob ≡ []) ⊎ IsBlob blob → after_blob_and_colon (h.spaces ++ (blob ++ 58 ∷ u)) ≡ Some u
    go blob (inl e) =
        or_some (after_literal (codes ":") (after_spaces (h.spaces ++ (blob ++ 58 ∷ u)))) _ u
        (ap (after_literal (codes ":"))
        (spaces_over h.spaces (blob ++ 58 ∷ u) h.are_spaces ∙ ap (λ (l : List ℕ). after_spaces (l ++ 58 ∷ u)) e ∙ spaces-done 58 u (λ (n : 58 ≡ 32). omega arith))
        ∙ at_colon u)
    go blob (inr b) =
        let o = blob_opens blob (58 ∷ u) b in
        let s : after_spaces (h.spaces ++ (blob ++ 58 ∷ u)) ≡ blob ++ 58 ∷ u =
        spaces_over h.spaces (blob ++ 58 ∷ u) h.are_spaces ∙ no_spaces (blob ++ 58 ∷ u) o.0 91 o.1 (λ (n : 91 ≡ 32). omega arith) in
        or_none (after_literal (codes ":") (after_spaces (h.spaces ++ (blob ++ 58 ∷ u)))) (option_and_then (after_literal (codes ":")) (after_blob (after_spaces (h.spaces ++ (blob ++ 58 ∷ u)))))
        (ap (after_literal (codes ":")) s ∙ other_first (blob ++ 58 ∷ u) o.0 [] 91 58 o.1 (λ (n : 91 ≡ 58). omega arith))
        ∙ ap (λ (l : List ℕ). option_and_then (after_literal (codes ":")) (after_blob l)) s
        ∙ then_some (after_literal (codes ":")) (after_blob (blob ++ 58 ∷ u)) (58 ∷ u) (blob_complete blob (58 ∷ u) b ∙ ap Some (spaces-done 58 u (λ (n : 58 ≡ 32). omega arith)))
        ∙ at_colon u

-- a word with its tail is a subj-refwd
tail_refwd : (k t u : List ℕ) → ((w : List ℕ) → EqualsIgnoringCase k w → IsReplyWord w) → after_reply_word k t ≡ Some u → (r : List ℕ) × IsRefwd r × (t ≡ r ++ u)
tail_refwd k t u word h =
    let x = some_then after_blob_and_colon (after_literal k t) u h in
    let w = after_sound k t x.0 x.1 in
    let c = colon_sound x.0 u x.2 in (
      ((w.0 ++ c.spaces) ++ c.blob) ++ 58 ∷ [],
      record { word = w.0; spaces = c.spaces; blob = c.blob; is_word = word w.0 w.1; are_spaces = c.are_spaces; is_blob = c.is_blob; text_is = refl },
      w.2 ∙ ap (λ (l : List ℕ). w.0 ++ l) c.is ∙ sym (simp append_assoc),
    )

pub refwd_sound : (t u : List ℕ) → after_refwd t ≡ Some u → (r : List ℕ) × IsRefwd r × (t ≡ r ++ u)
unfolding after_refwd
refwd_sound t u h = go (some_or (after_reply_word (codes "re") t) (option_or (after_reply_word (codes "fwd") t) (after_reply_word (codes "fw") t)) u h)
  where
    last : (after_reply_word (codes "fwd") t ≡ Some u) ⊎ ((after_reply_word (codes "fwd") t ≡ None) × (after_reply_word (codes "fw") t ≡ Some u)) → (r : List ℕ) × IsRefwd r × (t ≡ r ++ u)
    last (inl e) = tail_refwd (codes "fwd") t u (λ (w : List ℕ) (l : EqualsIgnoringCase (codes "fwd") w). inr (inl l)) e
    last (inr e) = tail_refwd (codes "fw") t u (λ (w : List ℕ) (l : EqualsIgnoringCase (codes "fw") w). inr (inr l)) e.1

    go : (after_reply_word (codes "re") t ≡ Some u) ⊎ ((after_reply_word (codes "re") t ≡ None) × (option_or (after_reply_word (codes "fwd") t) (after_reply_word (codes "fw") t) ≡ Some u))
        → (r : List ℕ) × IsRefwd r × (t ≡ r ++ u)
    go (inl e) = tail_refwd (codes "re") t u (λ (w : List ℕ) (l : EqualsIgnoringCase (codes "re") w). inl l) e
    go (inr e) = last (some_or (after_reply_word (codes "fwd") t) (after_reply_word (codes "fw") t) u e.1)

-- the words, byte by byte
two_bytes : (w : List ℕ) (k l : ℕ) → EqualsIgnoringCase (k ∷ l ∷ []) w → (b : ℕ) × (c : ℕ) × (w ≡ b ∷ c ∷ []) × (to_ascii_lowercase b ≡ k) × (to_ascii_lowercase c ≡ l)
two_bytes [] k l h = absurd (cc)
two_bytes (b ∷ []) k l h = absurd (cc)
two_bytes (b ∷ c ∷ []) k l h = (b, c, refl, cc, cc)
two_bytes (b ∷ c ∷ d ∷ w) k l h = absurd (cc)

first_byte : (w ks : List ℕ) (k : ℕ) → EqualsIgnoringCase (k ∷ ks) w → (b : ℕ) × (v : List ℕ) × (w ≡ b ∷ v) × (to_ascii_lowercase b ≡ k)
first_byte [] ks k h = absurd (cc)
first_byte (b ∷ v) ks k h = (b, v, refl, cc)

not_mark : (k t : List ℕ) → after_literal k t ≡ None → after_reply_word k t ≡ None
not_mark k t h = then_none after_blob_and_colon (after_literal k t) h

-- no mark begins with this byte
pub no_refwd : (t rest : List ℕ) (b : ℕ) → t ≡ b ∷ rest → to_ascii_lowercase b ≢ 114 → to_ascii_lowercase b ≢ 102 → after_refwd t ≡ None
unfolding after_refwd
no_refwd t rest b e p q =
    or_none (after_reply_word (codes "re") t) (option_or (after_reply_word (codes "fwd") t) (after_reply_word (codes "fw") t)) (not_mark (codes "re") t (other_first t rest (101 ∷ []) b 114 e p))
    ∙ or_none (after_reply_word (codes "fwd") t) (after_reply_word (codes "fw") t) (not_mark (codes "fwd") t (other_first t rest (119 ∷ 100 ∷ []) b 102 e q))
    ∙ not_mark (codes "fw") t (other_first t rest (119 ∷ []) b 102 e q)

mark_at : (k w t u : List ℕ) → EqualsIgnoringCase k w → IsTail t u → after_reply_word k (w ++ t) ≡ Some u
mark_at k w t u h c = then_some after_blob_and_colon (after_literal k (w ++ t)) t (after_complete k w t h) ∙ colon_complete t u c

-- a tail begins with a space, a bracket or a colon
tail_first : (t u : List ℕ) → IsTail t u → (b : ℕ) × (rest : List ℕ) × (t ≡ b ∷ rest) × (to_ascii_lowercase b ≢ 100)
tail_first t u c = go c.spaces c.are_spaces c.blob c.is_blob c.is
  where
    go : (spaces : List ℕ) → AreSpaces spaces → (blob : List ℕ) → (blob ≡ []) ⊎ IsBlob blob → t ≡ spaces ++ (blob ++ 58 ∷ u)
        → (b : ℕ) × (rest : List ℕ) × (t ≡ b ∷ rest) × (to_ascii_lowercase b ≢ 100)
    go (b ∷ s) a blob o e = (32, s ++ (blob ++ 58 ∷ u), e ∙ ap (λ (x : ℕ). x ∷ s ++ (blob ++ 58 ∷ u)) a.0, λ (n : 32 ≡ 100). omega arith)
    go [] a blob (inl n) e = (58, u, e ∙ ap (λ (l : List ℕ). l ++ 58 ∷ u) n, λ (n : 58 ≡ 100). omega arith)
    go [] a blob (inr b) e = let o = blob_opens blob (58 ∷ u) b in (91, o.0, e ∙ o.1, λ (n : 91 ≡ 100). omega arith)

not_re : (w ks t : List ℕ) → EqualsIgnoringCase (102 ∷ ks) w → after_reply_word (codes "re") (w ++ t) ≡ None
not_re w ks t h =
    let f = first_byte w ks 102 h in
    not_mark (codes "re") (w ++ t) (other_first (w ++ t) (f.1 ++ t) (101 ∷ []) f.0 114 (ap (λ (l : List ℕ). l ++ t) f.2)
    (λ (n : to_ascii_lowercase f.0 ≡ 114). let e : 114 ≡ 102 = sym n ∙ f.3 in omega arith))

not_fwd : (w t u : List ℕ) → EqualsIgnoringCase (codes "fw") w → IsTail t u → after_reply_word (codes "fwd") (w ++ t) ≡ None
not_fwd w t u h c =
    let f = two_bytes w 102 119 h in
    let g = tail_first t u c in
    not_mark (codes "fwd") (w ++ t)
    (ap (λ (l : List ℕ). after_literal (codes "fwd") (l ++ t)) f.2
    ∙ after-same 102 f.0 (119 ∷ 100 ∷ []) (f.1 ∷ t) f.3
    ∙ after-same 119 f.1 (100 ∷ []) t f.4
    ∙ other_first t g.1 [] g.0 100 g.2 g.3)

pub refwd_complete : (r u : List ℕ) → IsRefwd r → after_refwd (r ++ u) ≡ Some u
unfolding after_refwd
refwd_complete r u h = ap after_refwd whole ∙ go h.is_word
  where
    tail : List ℕ
    tail = h.spaces ++ (h.blob ++ 58 ∷ u)

    is_tail : IsTail (h.spaces ++ (h.blob ++ 58 ∷ u)) u
    is_tail = record { spaces = h.spaces; blob = h.blob; are_spaces = h.are_spaces; is_blob = h.is_blob; is = refl }

    whole : r ++ u ≡ h.word ++ (h.spaces ++ (h.blob ++ 58 ∷ u))
    whole = ap (λ (l : List ℕ). l ++ u) h.text_is ∙ simp append_assoc

    go : IsReplyWord h.word → after_refwd (h.word ++ (h.spaces ++ (h.blob ++ 58 ∷ u))) ≡ Some u
    go (inl re) =
        let t = h.word ++ (h.spaces ++ (h.blob ++ 58 ∷ u)) in
        or_some (after_reply_word (codes "re") t) (option_or (after_reply_word (codes "fwd") t) (after_reply_word (codes "fw") t)) u (mark_at (codes "re") h.word (h.spaces ++ (h.blob ++ 58 ∷ u)) u re is_tail)
    go (inr (inl fwd)) =
        let t = h.word ++ (h.spaces ++ (h.blob ++ 58 ∷ u)) in
        or_none (after_reply_word (codes "re") t) (option_or (after_reply_word (codes "fwd") t) (after_reply_word (codes "fw") t)) (not_re h.word (119 ∷ 100 ∷ []) (h.spaces ++ (h.blob ++ 58 ∷ u)) fwd)
        ∙ or_some (after_reply_word (codes "fwd") t) (after_reply_word (codes "fw") t) u (mark_at (codes "fwd") h.word (h.spaces ++ (h.blob ++ 58 ∷ u)) u fwd is_tail)
    go (inr (inr fw)) =
        let t = h.word ++ (h.spaces ++ (h.blob ++ 58 ∷ u)) in
        or_none (after_reply_word (codes "re") t) (option_or (after_reply_word (codes "fwd") t) (after_reply_word (codes "fw") t)) (not_re h.word (119 ∷ []) (h.spaces ++ (h.blob ++ 58 ∷ u)) fw)
        ∙ or_none (after_reply_word (codes "fwd") t) (after_reply_word (codes "fw") t) (not_fwd h.word (h.spaces ++ (h.blob ++ 58 ∷ u)) u fw is_tail)
        ∙ mark_at (codes "fw") h.word (h.spaces ++ (h.blob ++ 58 ∷ u)) u fw is_tail

-- leaders
pub leader-stop : (n : ℕ) (t u : List ℕ) → after_refwd t ≡ Some u → after_leader n t ≡ Some u
unfolding after_leader
leader-stop zero t u h = h
leader-stop (suc n) t u h = or_some (after_refwd t) (option_and_then (after_leader n) (after_blob t)) u h

pub leader-zero : (t : List ℕ) → after_refwd t ≡ after_leader zero t
unfolding after_leader
leader-zero t = refl

pub leader-more : (n : ℕ) (t v : List ℕ) → after_refwd t ≡ None → after_blob t ≡ Some v → after_leader (suc n) t ≡ after_leader n v
unfolding after_leader
leader-more n t v h b = or_none (after_refwd t) (option_and_then (after_leader n) (after_blob t)) h ∙ then_some (after_leader n) (after_blob t) v b

pub leader-none : (n : ℕ) (t : List ℕ) → after_refwd t ≡ None → after_blob t ≡ None → after_leader n t ≡ None
unfolding after_leader
leader-none zero t h b = h
leader-none (suc n) t h b = or_none (after_refwd t) (option_and_then (after_leader n) (after_blob t)) h ∙ then_none (after_leader n) (after_blob t) b

pub leader_sound : (n : ℕ) (t u : List ℕ) → after_leader n t ≡ Some u → (l : List ℕ) × IsLeader true l × (t ≡ l ++ u)
unfolding after_leader
leader_sound zero t u h = let r = refwd_sound t u h in (r.0, refwd r.1, r.2)
leader_sound (suc n) t u h = go (leader_sound n) (some_or (after_refwd t) (option_and_then (after_leader n) (after_blob t)) u h)
  where
    go : ((t u : List ℕ) → after_leader n t ≡ Some u → (l : List ℕ) × IsLeader true l × (t ≡ l ++ u))
        → (after_refwd t ≡ Some u) ⊎ ((after_refwd t ≡ None) × (option_and_then (after_leader n) (after_blob t) ≡ Some u)) → (l : List ℕ) × IsLeader true l × (t ≡ l ++ u)
    go ih (inl e) = let r = refwd_sound t u e in (r.0, refwd r.1, r.2)
    go ih (inr e) =
        let x = some_then (after_leader n) (after_blob t) u e.1 in
        let b = blob_sound t x.0 x.1 in
        let l = ih x.0 u x.2 in
        (b.0 ++ l.0, behind b.1 l.1, b.2 ∙ ap (λ (m : List ℕ). b.0 ++ m) l.2 ∙ sym (append_assoc b.0 l.0 u))

-- a leader with a mark begins with a letter or a bracket
pub refwd_first : (r u : List ℕ) → IsRefwd r → (b : ℕ) × (rest : List ℕ) × (r ++ u ≡ b ∷ rest) × (97 ≤ to_ascii_lowercase b)
refwd_first r u h = go h.is_word
  where
    word_first : (ks : List ℕ) (k : ℕ) → 97 ≤ k → EqualsIgnoringCase (k ∷ ks) h.word → (b : ℕ) × (rest : List ℕ) × (r ++ u ≡ b ∷ rest) × (97 ≤ to_ascii_lowercase b)
    word_first ks k l w =
        let f = first_byte h.word ks k w in (
          f.0,
          f.1 ++ (h.spaces ++ (h.blob ++ 58 ∷ u)),
          ap (λ (m : List ℕ). m ++ u) h.text_is ∙ simp append_assoc (ap (λ (m : List ℕ). m ++ (h.spaces ++ (h.blob ++ 58 ∷ u))) f.2),
          let P : ℕ → Type 0 = λ x. 97 ≤ x in subst P (sym f.3) l,
        )

    go : IsReplyWord h.word → (b : ℕ) × (rest : List ℕ) × (r ++ u ≡ b ∷ rest) × (97 ≤ to_ascii_lowercase b)
    go (inl w) = word_first (101 ∷ []) 114 (omega arith) w
    go (inr (inl w)) = word_first (119 ∷ 100 ∷ []) 102 (omega arith) w
    go (inr (inr w)) = word_first (119 ∷ []) 102 (omega arith) w

pub leader_first : (m : Bool) (l u : List ℕ) → IsLeader m l → m ≡ true → (b : ℕ) × (rest : List ℕ) × (l ++ u ≡ b ∷ rest) × (91 ≤ to_ascii_lowercase b)
leader_first m l u space e = absurd (cc)
leader_first m l u (refwd r) e = let f = refwd_first l u r in (f.0, f.1, f.2, omega (arith, f.3))
leader_first m l u (behind {blob = b} {text = t} x y) e = let o = blob_opens b (t ++ u) x in (91, o.0, append_assoc b t u ∙ o.1, omega arith)

pub not_space : (b : ℕ) → 91 ≤ to_ascii_lowercase b → b ≢ 32
not_space b h e = let n : to_ascii_lowercase b ≡ 32 = ap to_ascii_lowercase e in omega (arith, n, h)

pub leader_complete : (m : Bool) (l u : List ℕ) → IsLeader m l → m ≡ true → (n : ℕ) → length l ≤ n → after_leader n (l ++ u) ≡ Some u
leader_complete m l u space e n s = absurd (cc)
leader_complete m l u (refwd r) e n s = leader-stop n (l ++ u) u (refwd_complete l u r)
leader_complete m l u (behind {blob = b} {text = t} x y) e n s = go n s (leader_complete true t u y refl)
  where
    long : length (b ++ t) ≡ suc (length (x.inside ++ 93 ∷ x.spaces)) + length t
    long = length-append b t ∙ ap (λ (l : List ℕ). length l + length t) x.text_is

    go : (n : ℕ) → length (b ++ t) ≤ n → ((n : ℕ) → length t ≤ n → after_leader n (t ++ u) ≡ Some u) → after_leader n ((b ++ t) ++ u) ≡ Some u
    go zero s ih = absurd (omega (arith, long, s))
    go (suc n) s ih =
        let o = blob_opens b (t ++ u) x in
        let f = leader_first true t u y refl in
        leader-more n ((b ++ t) ++ u) (t ++ u)
        (no_refwd ((b ++ t) ++ u) o.0 91 (append_assoc b t u ∙ o.1) (λ (k : 91 ≡ 114). omega arith) (λ (k : 91 ≡ 102). omega arith))
        (ap after_blob (append_assoc b t u) ∙ blob_complete b (t ++ u) x ∙ ap Some (no_spaces (t ++ u) f.1 f.0 f.2 (not_space f.0 f.3)))
        ∙ ih n (omega (arith, long, s))
