use Rattle.std.proofs.Common.{inl, inr, rules}
use Rattle.archive_database.proofs.taking.write_down.Goals as goal

pub returns-clause-taken : goal.returns-clause-taken
returns-clause-taken g c is clean behind k none =
    let written = c.in_ok-add_message.ensures.answer_holds clean behind k in
    search rules

pub returns-clause-made : goal.returns-clause-made
returns-clause-made g c = λ is clean behind k free.
    let written = c.in_ok-add_message.ensures.executes_statement clean behind k free in
    search rules

-- ---- what a stop of the machine leaves

pub returns-in_err-add_message-clause-crash : goal.returns-in_err-add_message-clause-crash
returns-in_err-add_message-clause-crash g c = λ is behind k needs clean db may.
    elim (c.add_message.ensures.crash behind k (search rules) clean db may) [
      | inl before ↦ inl before
      | inr made ↦ inr (made.0, (let stored = made.1 in search rules))
    ]

pub returns-clause-crash : goal.returns-clause-crash
returns-clause-crash g c = λ is behind k needs clean db may.
    elim (c.add_message.ensures.crash behind k (search rules) clean db may) [
      | inl before ↦ inl before
      | inr made ↦ inr (made.0, (let stored = made.1 in search rules))
    ]
