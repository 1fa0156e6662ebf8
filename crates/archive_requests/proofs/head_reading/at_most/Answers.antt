use Rattle.std.proofs.Common.{rules, arith, refl, inl}
use Rattle.httparse.specs.Grammar.{HasNoRequest}
use Rattle.archive_requests.proofs.HeadLemmas.{full_none}
use Rattle.archive_requests.proofs.head_reading.at_most.Goals as goal

pub returns-in-None : goal.returns-in-None
returns-in-None c =
    let none : HasNoRequest c.args.bytes.now = search rules in
    λ more. record {
      when_head = λ h x. full_none _ more h x.after_head c.requires none x.at_most_8192 x.reads_head;
      when_read = search rules;
      when_too_many_fields = λ _ _. refl;
      when_too_long = λ _ _ _. refl;
      too_large_means_too_long = λ _. inl (omega (arith, c.requires));
    }
