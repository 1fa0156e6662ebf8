-- What the clauses of private functions speak of.
use Rattle.std.specs.Prelude.{◌<◌, not, List, [], ◌∷◌, filter}
use Rattle.mail_core.specs.MsgIds.{MessageId}
use Rattle.thread_links.specs.Containers.{same_id, container_number_of_id, container_count}
use Rattle.thread_links.specs.declared.entry.Entry.{Entry}

-- ids put before others, each once
abbrev pub distinct_ids_before : List MessageId → List MessageId → List MessageId
distinct_ids_before [] others = others
distinct_ids_before (id ∷ ids) others = id ∷ filter (λ other. not (same_id id other)) (distinct_ids_before ids others)

-- each id has a number below the count
abbrev pub HaveContainerNumbers : List Entry → List MessageId → Type 0
HaveContainerNumbers entries [] = Unit {0}
HaveContainerNumbers entries (id ∷ ids) = (container_number_of_id entries id < container_count entries) × HaveContainerNumbers entries ids
