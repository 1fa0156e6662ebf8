use Rattle.std.proofs.lemmas.Result.{err_from_is_err_and}
use Rattle.policy_core.specs.Rules.{lists, standings, withdrawn, embargo, age_min, from, until, own}
use Rattle.policy_core.proofs.TreeLemmas.{as_stated}
use Rattle.policy_core.proofs.rule_reading.read_condition.Goals as goal

pub returns-in_err-read_words-in-Standings : goal.returns-in_err-read_words-in-Standings
returns-in_err-read_words-in-Standings c =
    let p = err_from_is_err_and c.from_residual-in_err-read_words-in-Standings.result c.from_residual-in_err-read_words-in-Standings.ensures.1 in
    rw (p.1, p.2, c.in-Standings.is) c.in_err-read_words-in-Standings.ensures

pub returns-in_err-read_words-in-Withdrawn : goal.returns-in_err-read_words-in-Withdrawn
returns-in_err-read_words-in-Withdrawn c =
    let p = err_from_is_err_and c.from_residual-in_err-read_words-in-Withdrawn.result c.from_residual-in_err-read_words-in-Withdrawn.ensures.1 in
    rw (p.1, p.2, c.in-Withdrawn.is) c.in_err-read_words-in-Withdrawn.ensures

pub returns-in_ok-read_names-in-Lists : goal.returns-in_ok-read_names-in-Lists
returns-in_ok-read_names-in-Lists c = rw c.in-Lists.is (as_stated lists c.in_ok-read_names-in-Lists.ensures)

pub returns-in_ok-read_words-in-Standings : goal.returns-in_ok-read_words-in-Standings
returns-in_ok-read_words-in-Standings c = rw c.in-Standings.is (as_stated standings c.in_ok-read_words-in-Standings.ensures)

pub returns-in_ok-read_words-in-Withdrawn : goal.returns-in_ok-read_words-in-Withdrawn
returns-in_ok-read_words-in-Withdrawn c = rw c.in-Withdrawn.is (as_stated withdrawn c.in_ok-read_words-in-Withdrawn.ensures)

pub returns-in_ok-read_flag-in-Embargo : goal.returns-in_ok-read_flag-in-Embargo
returns-in_ok-read_flag-in-Embargo c = rw c.in-Embargo.is (as_stated embargo c.in_ok-read_flag-in-Embargo.ensures)

pub returns-in_ok-read_age-in-AgeMin : goal.returns-in_ok-read_age-in-AgeMin
returns-in_ok-read_age-in-AgeMin c = rw c.in-AgeMin.is (as_stated age_min c.in_ok-read_age-in-AgeMin.ensures)

pub returns-in_ok-read_day-in-From : goal.returns-in_ok-read_day-in-From
returns-in_ok-read_day-in-From c = rw c.in-From.is (as_stated from c.in_ok-read_day-in-From.ensures)

pub returns-in_ok-read_day-in-Until : goal.returns-in_ok-read_day-in-Until
returns-in_ok-read_day-in-Until c = rw c.in-Until.is (as_stated until c.in_ok-read_day-in-Until.ensures)

pub returns-in_ok-read_flag-in-Own : goal.returns-in_ok-read_flag-in-Own
returns-in_ok-read_flag-in-Own c = rw c.in-Own.is (as_stated own c.in_ok-read_flag-in-Own.ensures)
