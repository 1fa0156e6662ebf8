-- The head of a reply as it is written at once.
use Rattle.std.proofs.Common.{◌≡◌, ℕ, List, ◌++◌, append_assoc, codes, length}
use Rattle.std.specs.Prelude.{decimal}
use Rattle.http.specs.StatusCode.{status_text}
use Rattle.archive_pages.specs.Replies.{head_bytes, reply_with_length}

joined : (start status end type kind size length close : List ℕ) →
    start ++ (status ++ ((end ++ type) ++ (kind ++ ((end ++ size) ++ (length ++ (end ++ (close ++ end)))))))
    ≡ ((start ++ status ++ end) ++ ((type ++ kind ++ end) ++ ((size ++ length ++ end) ++ close))) ++ end
joined start status end type kind size length close = simp append_assoc

pub sized_head : (status : ℕ) (kind body : List ℕ) →
    codes "HTTP/1.1 " ++ (status_text status ++ (codes "\r\nContent-Type: " ++ (kind ++ (codes "\r\nContent-Length: " ++ (decimal (length body) ++ codes "\r\nConnection: close\r\n\r\n")))))
    ≡ head_bytes (reply_with_length status kind body)
unfolding head_bytes
sized_head status kind body =
    joined (codes "HTTP/1.1 ") (status_text status) (codes "\r\n") (codes "Content-Type: ") kind (codes "Content-Length: ") (decimal (length body)) (codes "Connection: close\r\n")
