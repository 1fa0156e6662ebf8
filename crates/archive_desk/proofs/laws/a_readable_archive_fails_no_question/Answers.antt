use Rattle.archive_desk.proofs.UnbrokenLemmas.{list_read, month_read, author_read, message_read, reader_read, lists_read, holder_read}
use Rattle.archive_desk.proofs.laws.a_readable_archive_fails_no_question.Goals as goal

pub returns : goal.returns
returns c = λ a can. record {
  list = list_read a can;
  month = month_read a can;
  author = author_read a can;
  message = message_read a can;
  reader = reader_read a can;
  lists = lists_read a can;
  holder = holder_read a can;
}
