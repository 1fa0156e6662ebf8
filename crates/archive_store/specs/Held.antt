-- What a store holds: its connection, and how often memory was refused to its calls.
use Rattle.std.specs.Prelude.{ℕ}
use Rattle.sqlite.specs.Held.{Held}
use Rattle.archive_store.specs.declared.store.Store.{Store}

-- what the connection of a store holds
abbrev pub store_connection : {S : Type 0} → Store S → Held S
store_connection store = store.conn

-- how often memory was refused to a store's calls, by its count
abbrev pub memory_refusal_count : {S : Type 0} → Store S → ℕ
memory_refusal_count store = store.wants
