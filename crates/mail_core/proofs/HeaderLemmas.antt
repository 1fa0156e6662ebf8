-- Fields that are gathered one after the other are the first of their names.
use Rattle.std.proofs.Common.{◌≡◌, ℕ, Bool, true, false, List, [], ◌∷◌, refl, ◌∙◌, Option, Some, None, option_map, codes, if◌then◌else◌}
use Rattle.std.specs.List.{find}
use Rattle.std.specs.Option.{option_or}
use Rattle.mail_core.specs.Fields.{HeaderField, fields_of, has_name}
use Rattle.mail_core.specs.Headers.{Header, header_of}
use Rattle.mail_core.specs.Gathering.{body_if_named, found_or_field_body, with_field, with_fields}

abbrev first_body : List ℕ → List HeaderField → Option (List ℕ)
first_body name fields = option_map (λ (field : HeaderField). field.body) (find (has_name name) fields)

abbrev or_first : List HeaderField → Header → Header
or_first fields found = record {
  message_id = option_or found.message_id (first_body (codes "message-id") fields);
  references = option_or found.references (first_body (codes "references") fields);
  in_reply_to = option_or found.in_reply_to (first_body (codes "in-reply-to") fields);
  date = option_or found.date (first_body (codes "date") fields);
  from = option_or found.from (first_body (codes "from") fields);
  subject = option_or found.subject (first_body (codes "subject") fields);
}

or_none : (found : Option (List ℕ)) → option_or found None ≡ found
or_none None = refl
or_none (Some body) = refl

one_more : (name : List ℕ) (field : HeaderField) (fields : List HeaderField) (found : Option (List ℕ))
    → option_or (found_or_field_body name field found) (first_body name fields) ≡ option_or found (first_body name (field ∷ fields))
one_more name field fields (Some body) = refl
one_more name field fields None = go (has_name name field)
  where
    go : (named : Bool) → option_or (body_if_named named field) (first_body name fields)
        ≡ option_map (λ (f : HeaderField). f.body) (if named then Some field else find (has_name name) fields)
    go true = refl
    go false = refl

gathered : (fields : List HeaderField) (found : Header) → with_fields fields found ≡ or_first fields found
unfolding with_fields
gathered [] found =
    rw (or_none found.message_id, or_none found.references, or_none found.in_reply_to, or_none found.date, or_none found.from, or_none found.subject) refl
gathered (field ∷ fields) found =
    gathered fields (with_field field found)
    ∙ rw (
      one_more (codes "message-id") field fields found.message_id,
      one_more (codes "references") field fields found.references,
      one_more (codes "in-reply-to") field fields found.in_reply_to,
      one_more (codes "date") field fields found.date,
      one_more (codes "from") field fields found.from,
      one_more (codes "subject") field fields found.subject,
    )
    refl

abbrev pub no_fields : Header
no_fields = record { message_id = None; references = None; in_reply_to = None; date = None; from = None; subject = None }

-- from none on
pub all_gathered : (text : List ℕ) → with_fields (fields_of text) no_fields ≡ header_of text
all_gathered text = gathered (fields_of text) no_fields

pub none-more : (fields : List HeaderField) (found : Header) → fields ≡ [] → with_fields fields found ≡ found
unfolding with_fields
none-more fields found h = rw (h, with_fields) refl

pub some-more : (fields more : List HeaderField) (field : HeaderField) (found : Header) → fields ≡ field ∷ more → with_fields fields found ≡ with_fields more (with_field field found)
unfolding with_fields
some-more fields more field found h = rw (h, with_fields) refl
