-- How often the system was asked, and what came of it.
use Rattle.std.proofs.Common.{◌≡◌, ◌∙◌, ◌+◌, List, [], ◌∷◌, None, Some, Result, Ok, Err, inl, inr, ap, length, length-append, arith}
use Rattle.std.specs.declared.time.Instant.{Instant}
use Rattle.std_io.specs.declared.io.kind.ErrorKind.{ErrorKind}
use Rattle.archive_listen.specs.Asking.{after_accept_call, accept_error_of_result}
use Rattle.archive_listen.specs.Connections.{Exchange, ConnectionResult, ConnectionTranscript}
use Rattle.archive_listen.specs.Given.{AccountsForAcceptCalls, EachAcceptedIsAnswered}
use Rattle.archive_listen.specs.Serving.{ServerState, ServesOneConnection}
use Rattle.archive_listen.specs.Sockets.{CallsAcceptOnce, ClosesConnection, LoopbackState, close_adds_one_exchange}
use Rattle.archive_listen.specs.declared.faults.AcceptError.TheVariants.{Peer}

-- one that was given: the system gave no error
given_one : (answer : Result Instant ErrorKind) (before after : LoopbackState) → after ≡ record before { asked = after_accept_call answer before.asked }
    → None ≡ accept_error_of_result answer
    → (after.asked.times ≡ before.asked.times + 1) × (length after.asked.errors ≡ length before.asked.errors) × (after.exchanges ≡ before.exchanges)
given_one (Ok at) before after asked none = (
  ap (λ (l : LoopbackState). l.asked.times) asked,
  ap (λ (l : LoopbackState). length l.asked.errors) asked,
  ap (λ (l : LoopbackState). l.exchanges) asked,
)
given_one (Err kind) before after asked none = cc

-- and one that was not
missed_one : (answer : Result Instant ErrorKind) (before after : LoopbackState) → after ≡ record before { asked = after_accept_call answer before.asked }
    → Some Peer ≡ accept_error_of_result answer
    → (after.asked.times ≡ before.asked.times + 1) × (length after.asked.errors ≡ length before.asked.errors + 1) × (after.exchanges ≡ before.exchanges)
missed_one (Ok at) before after asked some = cc
missed_one (Err kind) before after asked some = (
  ap (λ (l : LoopbackState). l.asked.times) asked,
  ap (λ (l : LoopbackState). length l.asked.errors) asked ∙ length-append before.asked.errors (kind ∷ []),
  ap (λ (l : LoopbackState). l.exchanges) asked,
)

module _ {St : Type 0} (answers : St → St → ConnectionTranscript → ConnectionTranscript → ConnectionResult → Type 0) where
  one_answered : (outcome : ConnectionResult) (before after : ServerState LoopbackState St) → ServesOneConnection answers CallsAcceptOnce ClosesConnection outcome before after
      → AccountsForAcceptCalls before.listener after.listener
  one_answered outcome before after (inl takes) =
      let given = given_one takes.accepts_peer.answer before.listener takes.listening takes.accepts_peer.state_is_after_call takes.accepts_peer.fault_is_of_answer in
      let more : length after.listener.exchanges ≡ length takes.listening.exchanges + 1 =
      ap (λ (l : List Exchange). length l) (close_adds_one_exchange takes.listening after.listener _ _ takes.closes_exchange) ∙ length-append takes.listening.exchanges (_ ∷ []) in
      let times = ap (λ (l : LoopbackState). l.asked.times) takes.closes_exchange.exchange_is_added in
      let errors = ap (λ (l : LoopbackState). length l.asked.errors) takes.closes_exchange.exchange_is_added in
      let before_it = ap (λ (l : List Exchange). length l) given.2 in
      record {
        answer_count = 1;
        error_count = 0;
        calls_are_counted = omega (arith, times, given.0);
        exchanges_are_counted = omega (arith, more, before_it);
        errors_are_counted = omega (arith, errors, given.1);
      }
  one_answered outcome before after (inr misses) =
      let missed = missed_one misses.accepts_no_peer.answer before.listener after.listener misses.accepts_no_peer.state_is_after_call misses.accepts_no_peer.fault_is_of_answer in
      let same = ap (λ (l : List Exchange). length l) missed.2 in
      record {
        answer_count = 0;
        error_count = 1;
        calls_are_counted = omega (arith, missed.0);
        exchanges_are_counted = omega (arith, same);
        errors_are_counted = omega (arith, missed.1);
      }

  pub each_answered : EachAcceptedIsAnswered answers
  each_answered [] first last same = record {
    answer_count = 0;
    error_count = 0;
    calls_are_counted = omega (arith, ap (λ (s : ServerState LoopbackState St). s.listener.asked.times) same);
    exchanges_are_counted = omega (arith, ap (λ (s : ServerState LoopbackState St). length s.listener.exchanges) same);
    errors_are_counted = omega (arith, ap (λ (s : ServerState LoopbackState St). length s.listener.asked.errors) same);
  }
  each_answered (outcome ∷ outcomes) first last (between, one, rest) =
      let here = one_answered outcome first between one in
      let there = each_answered outcomes between last rest in
      record {
        answer_count = here.answer_count + there.answer_count;
        error_count = here.error_count + there.error_count;
        calls_are_counted = omega (arith, here.calls_are_counted, there.calls_are_counted);
        exchanges_are_counted = omega (arith, here.exchanges_are_counted, there.exchanges_are_counted);
        errors_are_counted = omega (arith, here.errors_are_counted, there.errors_are_counted);
      }
