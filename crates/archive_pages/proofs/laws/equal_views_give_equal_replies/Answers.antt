use Rattle.archive_pages.proofs.LawLemmas.{equal_views_give_equal_replies}
use Rattle.archive_pages.proofs.laws.equal_views_give_equal_replies.Goals as goal

pub returns : goal.returns
returns c = equal_views_give_equal_replies
