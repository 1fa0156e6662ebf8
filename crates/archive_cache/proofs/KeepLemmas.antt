-- What is kept, from call to call.
use Rattle.std.specs.Prelude.{insert}
use Rattle.std.proofs.Common.{◌≡◌, refl, sym, ap, ◌∙◌, subst, ℕ, zero, suc, ℤ, List, [], ◌∷◌, drop, filter, map, slice_get, Option, Some}
use Rattle.archive_port.specs.declared.state.ArchiveState.{Ghosts}
use Rattle.policy_core.specs.Rules.{Rule}
use Rattle.archive_model.specs.Records.{Archive, Message}
use Rattle.archive_model.specs.Questions.{merge_of, messages_in}
use Rattle.archive_port.specs.Told.{StaysOpenUnlessDiskFails}
use Rattle.archive_results.specs.Access.{Ask, ReaderFacts, is_shown, ruling_on, view_of}
use Rattle.archive_results.specs.Shown.{shown_message}
use Rattle.archive_desk.specs.Asking.{DeterminesVerdicts}
use Rattle.archive_desk.specs.Holding.{RelatesTableArchives}
use Rattle.archive_desk.proofs.MarkLemmas.{view_alike}
use Rattle.archive_cache.specs.ListIndexes.{ListIndex, index_for_ask, index_of_view_part}
use Rattle.archive_cache.specs.Parts.{ViewPart}
use Rattle.archive_cache.specs.Views.{CachedView, CacheState, DropsOldest}
use Rattle.archive_cache.specs.Coherence.{IsCacheCoherent, AreCoherent, IsCoherent, KeepsCacheCoherent}

-- ---- who asks does not matter

module _ (a : Archive) (ask : Ask) (reader : ReaderFacts) (who : Option (List ℕ)) where
  -- the same question, asked by another
  abbrev other : Ask
  other = record ask { reader = who }

  shown_alike : (messages : List Message) → filter (is_shown ask reader) messages ≡ filter (is_shown other reader) messages
  unfolding ruling_on
  shown_alike messages = refl

  view_same : DeterminesVerdicts a ask reader → DeterminesVerdicts a other reader → view_of a ask ≡ view_of a other
  view_same one two = sym (view_alike a ask reader one (messages_in a ask.list)) ∙ shown_alike (messages_in a ask.list)
      ∙ view_alike a other reader two (messages_in a ask.list)

  outline_same : (part : ViewPart) → DeterminesVerdicts a ask reader → DeterminesVerdicts a other reader → index_for_ask a ask part ≡ index_for_ask a other part
  outline_same part one two = ap (λ (ms : List Message). index_of_view_part ask.list (merge_of a ask.list) (map shown_message ms) part) (view_same one two)

-- the outline of what one asker is shown is of the archive, for all
pub of_asked : (a : Archive) (ask : Ask) (reader : ReaderFacts) (part : ViewPart) (outline : ListIndex) → DeterminesVerdicts a ask reader → outline ≡ index_for_ask a ask part
    → IsCoherent a ask.rules ask.day (record { list = ask.list; reader = reader; part = part; outline = outline })
of_asked a ask reader part outline enough is = λ asked rules day list known.
    let same : asked ≡ record ask { reader = asked.reader } = λ i. record { rules = rules i; reader = asked.reader; list = list i; day = day i } in
    is ∙ outline_same a ask reader asked.reader part enough (subst (λ x. DeterminesVerdicts a x reader) same known) ∙ ap (λ q. index_for_ask a q part) (sym same)

-- ---- all that is kept

module _ (a : Archive) (rules : List Rule) (day : ℤ) where
  -- what stands at a place
  pub of_at : (views : List CachedView) (place : ℕ) (v : CachedView) → AreCoherent a rules day views → slice_get views place ≡ Some v → IsCoherent a rules day v
  of_at [] place v h e = absurd (cc)
  of_at (x ∷ xs) zero v h e = let same : x ≡ v = cc in subst (λ (w : CachedView). IsCoherent a rules day w) same h.0
  of_at (x ∷ xs) (suc n) v h e = of_at xs n v h.1 e

  -- one more
  pub of_more : (views : List CachedView) (place : ℕ) (v : CachedView) → AreCoherent a rules day views → IsCoherent a rules day v → AreCoherent a rules day (insert views place v)
  of_more [] zero v h is = (is, tt)
  of_more [] (suc n) v h is = (is, tt)
  of_more (x ∷ xs) zero v h is = (is, h)
  of_more (x ∷ xs) (suc n) v h is = (h.0, of_more xs n v h.1 is)

  -- and fewer
  of_later : (n : ℕ) (views : List CachedView) → AreCoherent a rules day views → AreCoherent a rules day (drop n views)
  of_later zero views h = h
  of_later (suc n) [] h = tt
  of_later (suc n) (v ∷ vs) h = of_later n vs h.1

  pub of_dropped : (old rest : List CachedView) → DropsOldest old rest → AreCoherent a rules day old → AreCoherent a rules day rest
  of_dropped old rest (n, is) h = subst (λ (vs : List CachedView). AreCoherent a rules day vs) (sym is) (of_later n old h)

-- ---- from call to call

module _ {S W : Type 0} (g : Ghosts S W) (rules : List Rule) (day : ℤ) where
  -- a call that lets what is kept be
  pub keeps_same : (old new : S) (kept : CacheState) → KeepsCacheCoherent g old new rules day kept kept
  keeps_same old new kept = record { keeps_coherent = λ returned held are. are; when_store_closed = λ returned shut. refl; capacity_is_same = refl; cache_stays_bounded = λ within. within }

  -- before another that does
  pub keeps_later : (old mid new : S) (kept later : CacheState) → KeepsCacheCoherent g old mid rules day kept later → StaysOpenUnlessDiskFails g mid new
      → KeepsCacheCoherent g old new rules day kept later
  keeps_later old mid new kept later keeps lasts = record {
    keeps_coherent = λ returned held are. keeps.keeps_coherent (lasts.disk_was_clean returned) held are;
    when_store_closed = λ returned shut. keeps.when_store_closed (lasts.disk_was_clean returned) shut;
    capacity_is_same = keeps.capacity_is_same;
    cache_stays_bounded = keeps.cache_stays_bounded;
  }

  -- after one that does, and leaves the archive
  pub keeps_after : (old mid new : S) (kept later : CacheState) → RelatesTableArchives g old mid (λ a b. b ≡ a) → StaysOpenUnlessDiskFails g mid new
      → KeepsCacheCoherent g mid new rules day kept later
      → KeepsCacheCoherent g old new rules day kept later
  keeps_after old mid new kept later goes lasts keeps = record {
    keeps_coherent = λ returned held are.
        let it = goes.1 (lasts.disk_was_clean returned) held in
        subst (λ a. IsCacheCoherent a rules day later) it.1 (keeps.keeps_coherent returned it.0 (subst (λ a. IsCacheCoherent a rules day kept) (sym it.1) are));
    when_store_closed = λ returned shut. keeps.when_store_closed returned (λ up. shut (goes.0.closed_stays_closed (lasts.disk_was_clean returned) up));
    capacity_is_same = keeps.capacity_is_same;
    cache_stays_bounded = keeps.cache_stays_bounded;
  }
