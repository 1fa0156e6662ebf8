-- What an exit status says.
use Rattle.std.proofs.Common.{◌≡◌, ◌≤◌, ◌⊎◌, inl, inr, ℕ, List, [], ◌∷◌, Bool, true, false, Option, Some, None, Result, Ok, Err, arith}
use Rattle.std.specs.Prelude.{MatchResult}
use Rattle.archive_args.specs.Values.{SiftValues}
use Rattle.archive_args.specs.declared.orders.Order.{Order}
use Rattle.archive_args.specs.declared.orders.Order.TheVariants.{Sift}
use Rattle.archive_args.specs.declared.orders.OrderStop.{OrderStop}
use Rattle.archive_args.specs.declared.orders.OrderStop.TheVariants.{Help, Words, Memory}
use Rattle.archive_args.specs.Orders.{IsUsageError, IsOutOfMemoryStop, IsOrderStopOf, order_of_args}
use Rattle.clap.specs.Words.{IsAmong, Kinds, fault_of, takes}
use Rattle.archive_args.specs.Program.{archive_app}
use Rattle.clap.specs.declared.error.kind.ErrorKind.{ErrorKind}
use Rattle.sift_run.specs.Running.{ParseAsOrder}
use Rattle.byte_device.specs.declared.devices.Sink.{Ghosts as Takes}
use Rattle.archive_listen.specs.declared.connections.BufferedSink.{Ghosts as Passes}
use Rattle.sift_run.specs.Refusals.{ReportsOrderStop, WritesErrorLine, command_error_text}
use Rattle.archive_listen.specs.Connections.{error_stream_state}
use Rattle.sift_run.specs.declared.faults.CommandError.TheVariants as fault

none_among : (k : ErrorKind) (kinds : Kinds) → kinds ≡ [] → IsAmong k kinds → ⊥
none_among k [] e among = among
none_among k (x ∷ xs) e among = cc

-- a status by what was done: 0 and `Kept`, or 1 and `Told` of the refusal
module _ {A R : Type 0} (Kept : Type 0) (Told : R → Type 0) where
  abbrev pub IsStatus : Result A R → ℕ → Type 0
  IsStatus done status = MatchResult done (λ _. (status ≡ 0) × Kept) (λ refusal. (status ≡ 1) × Told refusal)

  pub at_most_one : (done : Result A R) (status : ℕ) → IsStatus done status → status ≤ 1
  at_most_one (Ok a) status is = omega (arith, is.0)
  at_most_one (Err refusal) status is = omega (arith, is.0)

  pub at_zero : (Runs : Result A R → Type 0) (done : Result A R) (status : ℕ) → IsStatus done status → Runs done → status ≡ 0 → (a : A) × Runs (Ok a) × Kept
  at_zero Runs (Ok a) status is it zero = (a, it, is.1)
  at_zero Runs (Err refusal) status is it zero = let one : status ≡ 1 = is.0 in cc

  pub at_one : (Runs : Result A R → Type 0) (done : Result A R) (status : ℕ) → IsStatus done status → Runs done → status ≡ 1
      → (refusal : R) × Runs (Err refusal) × Told refusal
  at_one Runs (Ok a) status is it one = let zero : status ≡ 0 = is.0 in cc
  at_one Runs (Err refusal) status is it one = (refusal, it, is.1)

-- words that are taken and order something are refused for want of memory alone
stopped : {A M : Type 0} (takes : Bool) (found : Option A) (order : A) → M ⊎ ((takes ≡ false) ⊎ (found ≡ None)) → takes ≡ true → found ≡ Some order → M
stopped takes found order (inl memory) taken some = memory
stopped takes found order (inr (inl e)) taken some = cc
stopped takes found order (inr (inr e)) taken some = cc

-- and so are words of which `clap` has no fault to tell
unfaulted : (words : List (List ℕ)) (order : Order) (stop : OrderStop) → IsOrderStopOf words stop → fault_of archive_app words ≡ [] → order_of_args words ≡ Some order → IsOutOfMemoryStop stop
unfaulted words order Memory is none some = tt
unfaulted words order (Help text) (inl help) none some = absurd (none_among _ _ none help)
unfaulted words order (Help text) (inr version) none some = absurd (none_among _ _ none version)
unfaulted words order (Words text) (inl refused) none some = absurd (none_among _ _ none refused.1)
unfaulted words order (Words text) (inr bad) none some = let nothing : order_of_args words ≡ None = bad.1 in cc

pub memory_alone : (words : List (List ℕ)) (order : Order) (stop : OrderStop)
    → IsOutOfMemoryStop stop ⊎ ((takes archive_app words ≡ false) ⊎ (order_of_args words ≡ None)) → IsOrderStopOf words stop → ParseAsOrder words order → IsOutOfMemoryStop stop
memory_alone words order stop refused is (inl taken, some) = stopped _ _ _ refused taken some
memory_alone words order stop refused is (inr none, some) = unfaulted words order stop is none some

pub same_order : {A : Type 0} (found : Option A) (x y : A) → found ≡ Some x → found ≡ Some y → x ≡ y
same_order found x y a b = cc

pub same_sift : (found : Option Order) (first : Order) (x y : SiftValues) → found ≡ Some first → first ≡ Sift x → found ≡ Some (Sift y) → x ≡ y
same_sift found first x y a b c = cc

-- what is said of a want of memory, and of bad words
module _ {O E : Type 0} (writes : Takes O) (passes : Passes O) (notes : Takes E) (out_old out_new : O) (err_old err_new : E) (status : ℕ) where
  pub memory_said : (stop : OrderStop) → IsOutOfMemoryStop stop → ReportsOrderStop writes passes notes out_old out_new err_old err_new stop status
      → (status ≡ 1) × (out_new ≡ out_old) × WritesErrorLine (command_error_text fault.Memory) (error_stream_state notes err_old) (error_stream_state notes err_new)
  memory_said Memory is said = said
  memory_said (Help text) is said = absurd is
  memory_said (Words text) is said = absurd is

  pub words_bad : (words : List (List ℕ)) (stop : OrderStop) → IsOrderStopOf words stop
      → IsOutOfMemoryStop stop ⊎ ((takes archive_app words ≡ false) ⊎ (order_of_args words ≡ None)) → ReportsOrderStop writes passes notes out_old out_new err_old err_new stop status
      → status ≡ 2 → IsUsageError words × ((takes archive_app words ≡ false) ⊎ (order_of_args words ≡ None))
  words_bad words Memory is why said two = let one : status ≡ 1 = said.0 in cc
  words_bad words (Help text) is why (inl done) two = let zero : status ≡ 0 = done.0 in cc
  words_bad words (Help text) is why (inr failed) two = let one : status ≡ 1 = failed.0 in cc
  words_bad words (Words text) is (inl memory) said two = absurd memory
  words_bad words (Words text) is (inr bad) said two = (is, bad)
