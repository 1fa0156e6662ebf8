-- The replies of the code, as the definition's.
use Rattle.archive_pages.specs.Replies.{Reply, page_reply, message_reply, bad_request, unauthorized, forbidden, not_found, method_not_allowed, head_too_large, unavailable}
use Rattle.archive_pages.specs.declared.replies.Failure.{Failure}
use Rattle.archive_pages.specs.declared.replies.Failure.TheVariants.{BadRequest, Unauthorized, NotFound, NotAllowed, HeadTooLarge, Unavailable}
use Rattle.archive_pages.specs.declared.replies.Reply.{Reply as Made}
use Rattle.archive_pages.specs.declared.replies.Reply.TheVariants.{Page, Message, Forbidden, Failed}

abbrev pub failure_reply : Failure → Reply
failure_reply BadRequest = bad_request
failure_reply Unauthorized = unauthorized
failure_reply NotFound = not_found
failure_reply NotAllowed = method_not_allowed
failure_reply HeadTooLarge = head_too_large
failure_reply Unavailable = unavailable

abbrev pub model_reply : Made → Reply
model_reply (Page page) = page_reply page.items
model_reply (Message text) = message_reply text.items
model_reply (Forbidden rule) = forbidden rule.now
model_reply (Failed failure) = failure_reply failure
