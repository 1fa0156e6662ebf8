-- What a message says of itself in its header: which message it is and which it answers (RFC 5322 section 3.6.4, RFC 5256
-- section 3), when it was sent (RFC 5256 section 2.2), its subject (RFC 5322 section 3.6.5) and its author.
-- Profile: of several fields of one name the first counts, and a field that is absent is read as one without a body.
use Rattle.std.specs.Prelude.{ℕ, ℤ, List, [], ◌∷◌, Option, Some, None, unwrap_or, codes}
use Rattle.mail_core.specs.Fields.{field_of, unfolded}
use Rattle.mail_core.specs.Author.{trimmed}
use Rattle.mail_core.specs.MsgIds.{MessageId, ids_of}
use Rattle.mail_core.specs.Sent.{sent_date_of_body}

-- the bodies of these fields, as they stand
pub record Header : Type 0 where
  pub message_id : Option (List ℕ)
  pub references : Option (List ℕ)
  pub in_reply_to : Option (List ℕ)
  pub date : Option (List ℕ)
  pub from : Option (List ℕ)
  pub subject : Option (List ℕ)

-- of each name the first field's
abbrev pub header_of : List ℕ → Header
header_of text = record {
  message_id = field_of text (codes "message-id");
  references = field_of text (codes "references");
  in_reply_to = field_of text (codes "in-reply-to");
  date = field_of text (codes "date");
  from = field_of text (codes "from");
  subject = field_of text (codes "subject");
}

abbrev pub or_empty : Option (List ℕ) → List ℕ
or_empty body = unwrap_or body []

-- the identities of a field, in order
abbrev pub ids_in_field : Option (List ℕ) → List MessageId
ids_in_field body = ids_of (unfolded (or_empty body))

-- the first of some, where there is one
abbrev pub first_id_of_list : List MessageId → Option MessageId
first_id_of_list [] = None
first_id_of_list (id ∷ ids) = Some id

-- the message's own identity: the first of its Message-ID field
abbrev pub own_id_in : Header → Option MessageId
own_id_in header = first_id_of_list (ids_in_field header.message_id)

abbrev pub id_option_to_list : Option MessageId → List MessageId
id_option_to_list None = []
id_option_to_list (Some id) = id ∷ []

abbrev pub references_or_reply_id : List MessageId → Option MessageId → List MessageId
references_or_reply_id [] reply = id_option_to_list reply
references_or_reply_id (id ∷ ids) reply = id ∷ ids

-- what the message refers to: all identities of References; where it has none, the first of In-Reply-To alone
abbrev pub references_in : Header → List MessageId
references_in header = references_or_reply_id (ids_in_field header.references) (first_id_of_list (ids_in_field header.in_reply_to))

-- when the message was sent, where it arrived at this instant
abbrev pub sent_date_in : Header → ℤ → ℤ
sent_date_in header arrival = sent_date_of_body (or_empty header.date) arrival

-- the unfolded body of the Subject field (RFC 5322 section 3.6.5), spaces and tabs at its ends included; empty without the field
abbrev pub unfolded_subject_in : Header → List ℕ
unfolded_subject_in header = unfolded (or_empty header.subject)

-- the subject on one line, without the spaces and tabs at its ends
abbrev pub subject_line_in : Header → List ℕ
subject_line_in header = trimmed (unfolded_subject_in header)

-- The same of a message's whole text. (The author key is `author_of`.)
abbrev pub own_id_of : List ℕ → Option MessageId
own_id_of text = own_id_in (header_of text)

abbrev pub references_of : List ℕ → List MessageId
references_of text = references_in (header_of text)

-- the sent date of a message (RFC 5256 section 2.2), in seconds since 1970-01-01 00:00:00 UTC; the second argument is its arrival
abbrev pub sent_date_of : List ℕ → ℤ → ℤ
sent_date_of text arrival = sent_date_in (header_of text) arrival

abbrev pub unfolded_subject_of : List ℕ → List ℕ
unfolded_subject_of text = unfolded_subject_in (header_of text)

abbrev pub subject_line_of : List ℕ → List ℕ
subject_line_of text = subject_line_in (header_of text)
