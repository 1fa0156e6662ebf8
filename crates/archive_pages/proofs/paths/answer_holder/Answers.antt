use Rattle.std.proofs.Common.{◌≡◌, ◌∙◌, inl, Some, List, ℕ, ap, sym, subst}
use Rattle.std.specs.Prelude.{option_map, string_bytes}
use Rattle.std.specs.Option.{option_map_or}
use Rattle.archive_model.specs.Questions.{person_of_token}
use Rattle.archive_port.specs.Told.{HoldsTables}
use Rattle.archive_port.proofs.Joins.{goes_in_as}
use Rattle.archive_cache.specs.Coherence.{IsCacheCoherent}
use Rattle.archive_cache.proofs.KeepLemmas.{keeps_after}
use Rattle.archive_pages.specs.Answers.{path_reply}
use Rattle.archive_pages.specs.Replies.{unauthorized}
use Rattle.archive_desk.specs.Readable.{IsTokenHolderUnreadable}
use Rattle.archive_pages.specs.Causes.{IsTokenDataUnreadable, IsPathDataUnreadable, IsUnreadableOrReaderUnknown}
use Rattle.archive_pages.proofs.CauseLemmas.{cause_as, holder_unread, served_after}
use Rattle.archive_pages.proofs.KeptLemmas.{keeps_still, lasts_kept, serves_if_after}
use Rattle.archive_pages.proofs.paths.answer_holder.Goals as goal

pub returns-in-Ok-Some-clause-sent : goal.returns-in-Ok-Some-clause-sent
returns-in-Ok-Some-clause-sent g c =
    let named : Some c.as_str.result.now ≡ option_map string_bytes c.in-Ok-Some.field-0 =
    ap (λ (n : List ℕ). Some n) c.as_str.ensures.value ∙ sym (ap (option_map string_bytes) c.in-Ok-Some.field-0-is) in
    serves_if_after g.S.ArchiveState (g.W.Sink.told c.args.output.now) (g.W.Sink.told c.answer_path.new.output) c.answer_path.result c.args.store.now c.find_person.new.store
    c.answer_path.new.store (λ a. option_map string_bytes c.in-Ok-Some.field-0 ≡ person_of_token a c.args.token.now)
    (λ a. IsCacheCoherent a c.args.pages.now.policy.now c.args.pages.now.day c.args.pages.now.kept)
    (λ a reply. reply ≡ path_reply a c.args.pages.now.policy.now c.args.pages.now.day c.args.path.now (Some c.as_str.result.now))
    (λ a reply. reply ≡ option_map_or (path_reply a c.args.pages.now.policy.now c.args.pages.now.day c.args.path.now)
    (option_map (λ (x : List ℕ). Some x) (person_of_token a c.args.token.now)) unauthorized)
    c.in-Ok-Some.ensures.found.0
    (λ a r it is. subst (λ o. r ≡ option_map_or (path_reply a c.args.pages.now.policy.now c.args.pages.now.day c.args.path.now) (option_map (λ (x : List ℕ). Some x) o) unauthorized)
    (named ∙ it) is)
    c.in-Ok-Some.ensures.found.1 c.answer_path.ensures.sent

pub returns-in-Ok-Some-clause-ends : goal.returns-in-Ok-Some-clause-ends
returns-in-Ok-Some-clause-ends g c =
    let named : Some c.as_str.result.now ≡ option_map string_bytes c.in-Ok-Some.field-0 =
    ap (λ (n : List ℕ). Some n) c.as_str.ensures.value ∙ sym (ap (option_map string_bytes) c.in-Ok-Some.field-0-is) in
    record {
      ends_reply = c.answer_path.ensures.ends.ends_reply;
      fault_has_cause = served_after g.S.ArchiveState c.args.store.now c.find_person.new.store c.answer_path.new.store
          (λ a. option_map string_bytes c.in-Ok-Some.field-0 ≡ person_of_token a c.args.token.now)
          c.in-Ok-Some.ensures.found.0 c.in-Ok-Some.ensures.caused.0
          (lasts_kept g.S.ArchiveState (g.W.Sink.told c.args.output.now) (g.W.Sink.told c.answer_path.new.output) c.answer_path.result
          c.find_person.new.store c.answer_path.new.store (λ a. IsCacheCoherent a c.args.pages.now.policy.now c.args.pages.now.day c.args.pages.now.kept)
          (λ a reply. reply ≡ path_reply a c.args.pages.now.policy.now c.args.pages.now.day c.args.path.now (Some c.as_str.result.now)) c.answer_path.ensures.sent)
          c.answer_path.result
          (IsUnreadableOrReaderUnknown (IsPathDataUnreadable c.args.pages.now.policy.now c.args.pages.now.day c.args.path.now (Some c.as_str.result.now)) (Some c.as_str.result.now))
          (IsTokenDataUnreadable c.args.pages.now.policy.now c.args.pages.now.day c.args.token.now c.args.path.now)
          (λ a is bad. holder_unread c.args.pages.now.policy.now c.args.pages.now.day a c.args.token.now c.args.path.now c.as_str.result.now (sym (named ∙ is)) bad)
          c.answer_path.ensures.ends.fault_has_cause;
      changes_only_cache = record {
        only_cache_differs = c.answer_path.ensures.ends.changes_only_cache.only_cache_differs;
        cache_stays_coherent = keeps_after g.S.ArchiveState c.args.pages.now.policy.now c.args.pages.now.day c.args.store.now c.find_person.new.store c.answer_path.new.store
            c.args.pages.now.kept c.answer_path.new.pages.kept
            (goes_in_as g.S.ArchiveState (HoldsTables g.S.ArchiveState) c.args.store.now c.find_person.new.store
            (λ a b. (b ≡ a) × (option_map string_bytes c.in-Ok-Some.field-0 ≡ person_of_token a c.args.token.now))
            (λ a b. b ≡ a) (λ a b h. h.0) c.in-Ok-Some.ensures.found.0)
            (lasts_kept g.S.ArchiveState (g.W.Sink.told c.args.output.now) (g.W.Sink.told c.answer_path.new.output) c.answer_path.result
            c.find_person.new.store c.answer_path.new.store (λ a. IsCacheCoherent a c.args.pages.now.policy.now c.args.pages.now.day c.args.pages.now.kept)
            (λ a reply. reply ≡ path_reply a c.args.pages.now.policy.now c.args.pages.now.day c.args.path.now (Some c.as_str.result.now)) c.answer_path.ensures.sent)
            c.answer_path.ensures.ends.changes_only_cache.cache_stays_coherent;
      };
    }

pub returns-in-Err-clause-ends : goal.returns-in-Err-clause-ends
returns-in-Err-clause-ends g c = record {
  ends_reply = c.write_failure-in-Err.ensures.ends;
  fault_has_cause = (
    c.in-Err.ensures.caused.0,
    λ it. cause_as g.S.ArchiveState c.args.store.now c.find_person.new.store (λ a. IsTokenHolderUnreadable a c.args.token.now)
        (IsTokenDataUnreadable c.args.pages.now.policy.now c.args.pages.now.day c.args.token.now c.args.path.now) (λ a bad. inl bad) c.in-Err.ensures.caused.1,
  );
  changes_only_cache = keeps_still g.S.ArchiveState c.args.store.now c.find_person.new.store c.args.pages.now;
}
