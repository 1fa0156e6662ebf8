-- The fields of a header, gathered one after the other.
use Rattle.std.specs.Prelude.{ℕ, List, [], ◌∷◌, Bool, true, false, Option, Some, None, codes}
use Rattle.std.specs.Option.{option_or}
use Rattle.mail_core.specs.Fields.{HeaderField, has_name}
use Rattle.mail_core.specs.Headers.{Header}

-- the body that was found before, and else that of this field, where it has the name
abbrev pub body_if_named : Bool → HeaderField → Option (List ℕ)
body_if_named true field = Some field.body
body_if_named false field = None

abbrev pub found_or_field_body : List ℕ → HeaderField → Option (List ℕ) → Option (List ℕ)
found_or_field_body name field found = option_or found (body_if_named (has_name name field) field)

-- one field more
abbrev pub with_field : HeaderField → Header → Header
with_field field found = record {
  message_id = found_or_field_body (codes "message-id") field found.message_id;
  references = found_or_field_body (codes "references") field found.references;
  in_reply_to = found_or_field_body (codes "in-reply-to") field found.in_reply_to;
  date = found_or_field_body (codes "date") field found.date;
  from = found_or_field_body (codes "from") field found.from;
  subject = found_or_field_body (codes "subject") field found.subject;
}

-- the fields of a list more
unfoldable pub with_fields : List HeaderField → Header → Header
with_fields [] found = found
with_fields (field ∷ fields) found = with_fields fields (with_field field found)
