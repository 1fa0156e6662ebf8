use Rattle.std.proofs.Common.{rules, arith, ◌≡◌, length}
use Rattle.archive_requests.proofs.ReadingLemmas.{bad, large, came_fits, came_within, asked, asked_whole}
use Rattle.archive_requests.proofs.reading.read_request.Goals as goal

pub shared_ref_as_front-came : goal.shared_ref_as_front-came
shared_ref_as_front-came g c =
    let came = rw c.in-Whole.is at c.in_ok-head.ensures.read in
    let fits = came_fits _ _ _ _ _ _ came in
    let size : length c.read_head.new.buffer ≡ 8192 = search rules in
    omega (arith, fits, size)

pub request-requires : goal.request-requires
request-requires g c =
    let came = rw c.in-Whole.is at c.in_ok-head.ensures.read in
    came_within _ _ _ _ _ _ came

pub returns-in-Whole-clause-read : goal.returns-in-Whole-clause-read
returns-in-Whole-clause-read g c =
    let came = rw c.in-Whole.is at c.in_ok-head.ensures.read in
    asked_whole _ _ _ _ _ _ _ came c.request.ensures

pub returns-in-Bad-clause-read : goal.returns-in-Bad-clause-read
returns-in-Bad-clause-read g c =
    let came = rw c.in-Bad.is at c.in_ok-head.ensures.read in
    asked _ _ _ _ _ _ _ came bad

pub returns-in-TooLarge-clause-read : goal.returns-in-TooLarge-clause-read
returns-in-TooLarge-clause-read g c =
    let came = rw c.in-TooLarge.is at c.in_ok-head.ensures.read in
    asked _ _ _ _ _ _ _ came large
