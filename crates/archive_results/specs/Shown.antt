-- What a reader sees of a message, and what of it the lists of messages and the threads need.
use Rattle.std.specs.Prelude.{ℕ, ℤ, List}
use Rattle.mail_core.specs.Author.{author_of}
use Rattle.mail_core.specs.Headers.{own_id_of, references_of, sent_date_of, unfolded_subject_of, subject_line_of}
use Rattle.mbox_items.specs.Division.{Item}
use Rattle.subject_core.specs.BaseSubject.{base_subject_of, is_reply}
use Rattle.thread_links.specs.declared.entry.Entry.{Entry}
use Rattle.archive_model.specs.Records.{Message}
use Rattle.archive_model.specs.Sound.{item_of}

-- A message as it is shown: no mark of it, and no number.
pub record ShownMessage : Type 0 where
  pub key : List ℕ
  pub item : Item

-- a message without its marks: a page knows neither who withdrew it nor its embargo
abbrev pub shown_message : Message → ShownMessage
shown_message m = record { key = m.key; item = item_of m }

-- What a message says about threads (RFC 5256, section 3): its own id, what it refers to, its sent date, which is the arrival
-- where the Date field is not valid or missing, and its base subject.
abbrev pub thread_entry_of : Item → Entry
thread_entry_of item = record {
  id = own_id_of item.text;
  refs = references_of item.text;
  sent = sent_date_of item.text item.envelope.arrival;
  base = base_subject_of (unfolded_subject_of item.text);
  reply = is_reply (unfolded_subject_of item.text);
}

-- A message in a list: its key, sent date and author key, and its subject, unfolded and without the spaces and tabs at its
-- ends.
pub record Line : Type 0 where
  pub key : List ℕ
  pub sent : ℤ
  pub author : List ℕ
  pub subject : List ℕ

-- A message on one line. It is dated by its Date field (RFC 5322 section 3.6.1), and by its arrival where that is missing or not
-- valid; its subject is unfolded (section 2.2.3).
abbrev pub line_of : ShownMessage → Line
line_of s = record {
  key = s.key;
  sent = sent_date_of s.item.text s.item.envelope.arrival;
  author = author_of s.item.text;
  subject = subject_line_of s.item.text;
}
