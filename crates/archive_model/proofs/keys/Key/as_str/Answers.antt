use Rattle.archive_model.proofs.KeyLemmas.{IsUtf8-key}
use Rattle.archive_model.proofs.keys.Key.as_str.Goals as goal

pub returns-in-Err : goal.returns-in-Err
returns-in-Err c = absurd (c.in-Err.ensures.cases.0 (IsUtf8-key _ c.self.invariant))
