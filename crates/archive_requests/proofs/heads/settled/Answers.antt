use Rattle.std.proofs.Common.{rules, ◌≡◌, length, refl}
use Rattle.httparse.specs.Grammar.{NeverHasRequest}
use Rattle.httparse.specs.Spans.{IsRequestOf, IsRequestWithin}
use Rattle.archive_requests.proofs.HeadLemmas.{begins, is_it, more_stays, stays, never_cut, has_front}
use Rattle.archive_requests.proofs.heads.settled.Goals as goal

pub returns-in-Ok-Complete-clause-read : goal.returns-in-Ok-Complete-clause-read
returns-in-Ok-Complete-clause-read c =
    let w : IsRequestOf c.args.bytes.now c.parse_request.new.headers c.in-Ok-Complete.spans = search rules in
    let n : length c.parse_request.new.headers ≡ 64 = search rules in
    let inside : IsRequestWithin c.args.bytes.now c.parse_request.new.headers c.in-Ok-Complete.spans = search rules in
    let b = begins _ _ _ n c.requires w.0 w.1 in
    λ more. record {
      when_head = λ h x. record { filled_is_length = refl; spans_in_range = inside; spans_give_head = is_it _ _ _ w.0 h w.1 (stays _ more _ _ b x) };
      when_read = (w.0, b, record { filled_is_length = refl; spans_in_range = inside; spans_give_head = w.1 });
      when_too_many_fields = λ h x. absurd (more_stays _ more _ _ b x);
      when_too_long = λ _ none _. absurd (has_front _ more _ b none);
      too_large_means_too_long = search rules;
    }

pub returns-in-Err : goal.returns-in-Err
returns-in-Err c =
    let never : NeverHasRequest c.args.bytes.now = search rules in
    record {
      read = λ more. record {
        when_head = λ h x. never more h x.after_head x.reads_head;
        when_read = search rules;
        when_too_many_fields = λ h x. absurd (never more h x.after_head x.reads_head);
        when_too_long = λ _ _ can. absurd (never_cut _ _ more c.requires never can);
        too_large_means_too_long = search rules;
      };
      more = search rules;
    }
