use Rattle.mail_core.proofs.CommentLemmas.{comment_counted, counted_comment, one_comment}
use Rattle.mail_core.proofs.laws.depth_count_finds_comments.Goals as goal

pub returns : goal.returns
returns c = record { counted = comment_counted; comment = counted_comment; one = one_comment }
