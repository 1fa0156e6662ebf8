use Rattle.archive_pages.proofs.ReplyExamples.{of_bad_request, of_unauthorized, of_not_found, of_not_allowed, of_head_too_large, of_unavailable}
use Rattle.archive_pages.proofs.replies.Failure.reply.Goals as goal

pub returns-in-BadRequest : goal.returns-in-BadRequest
returns-in-BadRequest c = rw c.in-BadRequest.is of_bad_request

pub returns-in-Unauthorized : goal.returns-in-Unauthorized
returns-in-Unauthorized c = rw c.in-Unauthorized.is of_unauthorized

pub returns-in-NotFound : goal.returns-in-NotFound
returns-in-NotFound c = rw c.in-NotFound.is of_not_found

pub returns-in-NotAllowed : goal.returns-in-NotAllowed
returns-in-NotAllowed c = rw c.in-NotAllowed.is of_not_allowed

pub returns-in-HeadTooLarge : goal.returns-in-HeadTooLarge
returns-in-HeadTooLarge c = rw c.in-HeadTooLarge.is of_head_too_large

pub returns-in-Unavailable : goal.returns-in-Unavailable
returns-in-Unavailable c = rw c.in-Unavailable.is of_unavailable
