use Rattle.std.proofs.Common.{◌≡◌, Bool, List, Ok, Err, true, false, option_map, ap, sym, ◌∙◌, subst, inr, rules}
use Rattle.std.specs.Prelude.{string_bytes}
use Rattle.std.specs.declared.alloc.Global.{Global}
use Rattle.policy_core.specs.Facts.{Facts}
use Rattle.policy_core.specs.Rules.{Rule, has_own_condition}
use Rattle.policy_core.specs.Verdict.{verdict_of}
use Rattle.archive_results.specs.Access.{Ask, ReaderFacts}
use Rattle.archive_port.specs.Told.{StaysOpenUnlessDiskFails}
use Rattle.archive_desk.specs.Causes.{IsAddressUnreadable, IsPersonUnreadable}
use Rattle.archive_desk.specs.Faults.{IsAskFault, refusal_reason}
use Rattle.archive_desk.proofs.MarkLemmas.{person_known, person_unasked}
use Rattle.archive_desk.proofs.EndLemmas.{ends_after, stops_as}
use Rattle.archive_desk.proofs.CallLemmas.{by_reason, unchanged}
use Rattle.archive_desk.proofs.viewing.person_marks.Goals as goal

pub returns-then-not-asks_own-clause-found : goal.returns-then-not-asks_own-clause-found
returns-then-not-asks_own-clause-found g c =
    let none : c.asks_own.result ≡ false = cc in
    person_unasked g.S.ArchiveState c.args.ask.now c.args.name.now c.in-Ok.standing c.args.store.now c.find_standing.new.store c.in-Ok.ensures.found
    (subst (λ (rules : List Rule). (facts : Facts) (own : Bool) → verdict_of rules (record facts { own = own }) ≡ verdict_of rules facts)
    (ap (λ (ask : Ask). ask.rules) c.ask.view_is) (c.asks_own.ensures.alike none))

pub returns-in-Ok-find_address-clause-found : goal.returns-in-Ok-find_address-clause-found
returns-in-Ok-find_address-clause-found g c =
    person_known g.S.ArchiveState c.args.ask.now c.args.name.now c.in-Ok.standing c.args.store.now c.find_standing.new.store c.find_address.new.store
    (option_map (string_bytes {Z = Global})) (Ok c.in-Ok-find_address.address) c.in-Ok.ensures.found c.in-Ok-find_address.ensures.found

pub returns-in-Err-find_address : goal.returns-in-Err-find_address
returns-in-Err-find_address g c =
    let ask = c.args.ask.now in
    let name = c.args.name.now in
    let old = c.args.store.now in
    let mid = c.find_standing.new.store in
    let new = c.find_address.new.store in
    let fault = c.in-Err-find_address.fault in
    let found = c.in-Err-find_address.ensures.found in
    let asked : c.asks_own.result ≡ true = cc in
    let own : has_own_condition ask.rules ≡ true = sym (c.asks_own.ensures.value ∙ ap (λ (ask : Ask). has_own_condition ask.rules) c.ask.view_is) ∙ asked in
    let last : StaysOpenUnlessDiskFails g.S.ArchiveState mid new = by_reason (refusal_reason fault) found (λ it. it.0) (λ why it. it.0) in
    record {
      found = person_known g.S.ArchiveState ask name c.in-Ok.standing old mid new (option_map (string_bytes {Z = Global})) (Err fault) c.in-Ok.ensures.found found;
      ends = ends_after g.S.ArchiveState old mid new (unchanged c.in-Ok.ensures.found) last c.in-Ok.ensures.ends.refusals_counted.0 IsAskFault {A = ReaderFacts} (Err fault)
          (λ a. IsAddressUnreadable a name) (λ a. IsPersonUnreadable a ask name) (λ a bad. inr (own, bad))
          (stops_as g.S.ArchiveState mid new IsAskFault _ ReaderFacts fault (λ a. IsAddressUnreadable a name) (λ a. IsAddressUnreadable a name) (λ a bad. bad)
          c.in-Err-find_address.ensures.ends);
      writes_nothing = search rules;
    }
