-- A walk, from one message to the next.
use Rattle.std.proofs.Common.{arith, zero, suc, ◌≡◌, ℕ, ◌+◌, ◌≤◌, List, [], ◌∷◌, ◌++◌, length, drop, map, refl, ap, sym, subst, ◌∙◌, Option, Some, None, inl, inr}
use Rattle.std.specs.Prelude.{slice_get}
use Rattle.std.proofs.lemmas.List.{append-nil, drop_all, drop_more}
use Rattle.std.proofs.lemmas.Option.{slice_get_cases, slice_get_within, get_or_from_slice_get}
use Rattle.archive_model.specs.Records.{Archive, Message}
use Rattle.archive_port.specs.Walking.{PassesNext, WalksOver, walk_over_store}
use Rattle.archive_memory.specs.State.{IsSoundArchive, archive_in_memory, memory_state, message_at_place, remaining_places}
use Rattle.archive_memory.specs.declared.archive.MemoryArchive.{MemoryArchive}
use Rattle.archive_memory.specs.declared.selecting.DatedPlace.{DatedPlace}
use Rattle.archive_memory.specs.declared.selecting.MessageWalk.{MessageWalk}
use Rattle.archive_memory.proofs.SelectLemmas.{is_of_list}

drop_suc : {A : Type 0} (xs : List A) (at : ℕ) → drop (suc at) xs ≡ drop 1 (drop at xs)
drop_suc xs zero = refl
drop_suc [] (suc at) = refl
drop_suc (x ∷ xs) (suc at) = drop_suc xs at

-- the places after one that is passed by
pub drop_next : {A : Type 0} (xs : List A) (at : ℕ) → drop (at + 1) xs ≡ drop 1 (drop at xs)
drop_next xs at =
    let is : at + 1 ≡ suc at = omega arith in
    ap (λ n. drop n xs) is ∙ drop_suc xs at

pub drop_none : {A : Type 0} (xs : List A) (at : ℕ) → length xs ≤ at → drop at xs ≡ drop 1 (drop at xs)
drop_none xs at past = drop_all at xs past ∙ sym (ap (drop 1) (drop_all at xs past))

pub past_end : {A : Type 0} (xs : List A) (i : ℕ) → slice_get xs i ≡ None → length xs ≤ i
past_end xs i none = elim ((slice_get_cases xs i).1) [ inl found ↦ absurd (let bad = sym none ∙ found.2 in cc) | inr past ↦ past.0 ]

-- what follows the same is the same
same_behind : {A : Type 0} (given xs ys : List A) → given ++ xs ≡ given ++ ys → xs ≡ ys
same_behind [] xs ys is = is
same_behind (g ∷ given) xs ys is = same_behind given xs ys (cc)

one_more : {A : Type 0} (given : List A) (x : A) (rest : List A) → (given ++ x ∷ []) ++ rest ≡ given ++ x ∷ rest
one_more [] x rest = refl
one_more (g ∷ given) x rest = ap (λ xs. g ∷ xs) (one_more given x rest)

module _ {P : Type 0} (f : P → Option Message) where
  -- the next place is that of the next message
  next_is : (places : List P) (at : ℕ) (p : P) (left : List Message) → map f (drop at places) ≡ map Some left → slice_get places at ≡ Some p
      → (m : Message) × (rest : List Message) × (left ≡ m ∷ rest) × (f p ≡ Some m)
  next_is places at p left ahead found =
      go left (sym (ap (map f) (drop_more places at p (slice_get_within places at p found) ∙ ap (λ x. x ∷ drop (at + 1) places) (get_or_from_slice_get places at p p found))) ∙ ahead)
    where
      go : (left : List Message) → f p ∷ map f (drop (at + 1) places) ≡ map Some left → (m : Message) × (rest : List Message) × (left ≡ m ∷ rest) × (f p ≡ Some m)
      go [] is = absurd cc
      go (m ∷ rest) is = (m, rest, refl, cc)

  nothing_ahead : (places : List P) (at : ℕ) (left : List Message) → map f (drop at places) ≡ map Some left → length places ≤ at → left ≡ []
  nothing_ahead places at left ahead past = go left (sym (ap (map f) (drop_all at places past)) ∙ ahead)
    where
      go : (left : List Message) → [] ≡ map Some left → left ≡ []
      go [] is = refl
      go (m ∷ rest) is = absurd cc

  behind_first : (places : List P) (next : Message) (rest : List Message) → map f places ≡ map Some (next ∷ rest) → map f (drop 1 places) ≡ map Some rest
  behind_first [] next rest is = absurd cc
  behind_first (p ∷ places) next rest is = cc

module _ (list : List ℕ) (all : List Message) (a : Archive) (given : List Message) where
  abbrev pub Walks : MemoryArchive → MessageWalk → Type 0
  Walks memory walk = WalksOver memory_state list all a given (walk_over_store memory walk)

  -- the same archive is held
  pub walks_on : (old new : MemoryArchive) (walk : MessageWalk) → archive_in_memory new ≡ archive_in_memory old → Walks old walk → Walks new walk
  walks_on old new walk same w = record {
    is_archive_at_rest = subst IsSoundArchive (sym same) w.is_archive_at_rest;
    archive_is = same ∙ w.archive_is;
    remaining = w.remaining;
    gives_remaining = subst (λ (b : Archive). map (message_at_place b) (remaining_places walk) ≡ map Some w.remaining) (sym same) w.gives_remaining;
    given_and_remaining = w.given_and_remaining;
    all_are_of_list = w.all_are_of_list;
  }

  -- past the last place all were given
  pub all_given : (memory : MemoryArchive) (walk : MessageWalk) → Walks memory walk → slice_get walk.places.items walk.at ≡ None → given ≡ all
  all_given memory walk w none =
      let nothing = nothing_ahead (message_at_place (archive_in_memory memory)) walk.places.items walk.at w.remaining w.gives_remaining (past_end walk.places.items walk.at none) in
      sym (append-nil given) ∙ ap (λ rest. given ++ rest) (sym nothing) ∙ w.given_and_remaining

  -- the message at the next place is the next of the list
  pub next_given : (memory : MemoryArchive) (walk : MessageWalk) (dated : DatedPlace) → Walks memory walk → slice_get walk.places.items walk.at ≡ Some dated
      → (next : Message) × (rest : List Message) × (given ++ next ∷ rest ≡ all) × (message_at_place (archive_in_memory memory) dated ≡ Some next) × (next.list ≡ list)
  next_given memory walk dated w found =
      let it = next_is (message_at_place (archive_in_memory memory)) walk.places.items walk.at dated w.remaining w.gives_remaining found in
      let joined : given ++ it.0 ∷ it.1 ≡ all = ap (λ l. given ++ l) (sym it.2) ∙ w.given_and_remaining in
      (it.0, it.1, joined, it.3, is_of_list list given it.1 all it.0 w.all_are_of_list joined)

  pub passed_next : (memory : MemoryArchive) (old new : MessageWalk) (rest : List Message) (next : Message) → remaining_places new ≡ drop 1 (remaining_places old)
      → Walks memory old → given ++ next ∷ rest ≡ all → WalksOver memory_state list all a (given ++ next ∷ []) (walk_over_store memory new)
  passed_next memory old new rest next moved w joined =
      let left = same_behind given w.remaining (next ∷ rest) (w.given_and_remaining ∙ sym joined) in
      let at = message_at_place (archive_in_memory memory) in
      record {
        is_archive_at_rest = w.is_archive_at_rest;
        archive_is = w.archive_is;
        remaining = rest;
        gives_remaining = ap (map at) moved ∙ behind_first at (remaining_places old) next rest (w.gives_remaining ∙ ap (map Some) left);
        given_and_remaining = one_more given next rest ∙ joined;
        all_are_of_list = w.all_are_of_list;
      }

pub passes : (old new : MessageWalk) → remaining_places new ≡ drop 1 (remaining_places old) → PassesNext memory_state old new
passes old new moved = λ memory list all a given rest next w joined. passed_next list all a given memory old new rest next moved w joined
