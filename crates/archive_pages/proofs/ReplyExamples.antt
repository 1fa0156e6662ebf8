-- Worked examples of replies: those that no request changes, byte for byte.
use Rattle.std.proofs.Common.{◌≡◌, refl, codes}
use Rattle.std.specs.Fmt.{digits}
use Rattle.archive_pages.specs.Replies.{head_bytes, reply_bytes, page_reply, mbox_reply, forbidden, bad_request, unauthorized, not_found, method_not_allowed, head_too_large, unavailable}

pub of_bad_request : codes "HTTP/1.1 400 Bad Request\r\nContent-Type: text/plain; charset=us-ascii\r\nContent-Length: 16\r\nConnection: close\r\n\r\n400 Bad Request\n"
    ≡ reply_bytes bad_request
unfolding digits head_bytes
of_bad_request = refl

pub of_unauthorized : codes "HTTP/1.1 401 Unauthorized\r\nContent-Type: text/plain; charset=us-ascii\r\nContent-Length: 17\r\nWWW-Authenticate: Bearer realm=\"archive\"\r\nConnection: close\r\n\r\n401 Unauthorized\n"
    ≡ reply_bytes unauthorized
unfolding digits head_bytes
of_unauthorized = refl

pub of_not_found : codes "HTTP/1.1 404 Not Found\r\nContent-Type: text/plain; charset=us-ascii\r\nContent-Length: 14\r\nConnection: close\r\n\r\n404 Not Found\n"
    ≡ reply_bytes not_found
unfolding digits head_bytes
of_not_found = refl

pub of_not_allowed : codes "HTTP/1.1 405 Method Not Allowed\r\nContent-Type: text/plain; charset=us-ascii\r\nContent-Length: 23\r\nAllow: GET\r\nConnection: close\r\n\r\n405 Method Not Allowed\n"
    ≡ reply_bytes method_not_allowed
unfolding digits head_bytes
of_not_allowed = refl

pub of_head_too_large : codes "HTTP/1.1 431 Request Header Fields Too Large\r\nContent-Type: text/plain; charset=us-ascii\r\nContent-Length: 36\r\nConnection: close\r\n\r\n431 Request Header Fields Too Large\n"
    ≡ reply_bytes head_too_large
unfolding digits head_bytes
of_head_too_large = refl

pub of_unavailable : codes "HTTP/1.1 503 Service Unavailable\r\nContent-Type: text/plain; charset=us-ascii\r\nContent-Length: 24\r\nConnection: close\r\n\r\n503 Service Unavailable\n"
    ≡ reply_bytes unavailable
unfolding digits head_bytes
of_unavailable = refl

a_denial : codes "HTTP/1.1 403 Forbidden\r\nContent-Type: text/plain; charset=us-ascii\r\nContent-Length: 25\r\nConnection: close\r\n\r\n403 Forbidden: withdrawn\n"
    ≡ reply_bytes (forbidden (codes "withdrawn"))
unfolding digits head_bytes
a_denial = refl

-- the body of an mbox ends with the connection
an_mbox : codes "HTTP/1.1 200 OK\r\nContent-Type: application/mbox\r\nConnection: close\r\n\r\nFrom a\n\n" ≡ reply_bytes (mbox_reply (codes "From a\n\n"))
unfolding digits head_bytes
an_mbox = refl

a_page : codes "HTTP/1.1 200 OK\r\nContent-Type: text/html; charset=us-ascii\r\nContent-Length: 2\r\nConnection: close\r\n\r\n<>" ≡ reply_bytes (page_reply (codes "<>"))
unfolding digits head_bytes
a_page = refl
