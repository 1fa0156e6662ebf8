-- The lists of a month and of an author by what is filed of the messages, whether or not that is what their texts say.
use Rattle.std.specs.Prelude.{ℕ, ℤ, List, map, filter}
use Rattle.archive_model.specs.Records.{Archive}
use Rattle.archive_model.specs.Filing.{messages_in_month, messages_by_author}
use Rattle.archive_results.specs.Access.{Ask, is_shown, reader_facts}
use Rattle.archive_results.specs.Shown.{Line, shown_message}
use Rattle.archive_results.specs.Results.{lines_of}

-- of those that the policy shows, the messages that are filed under a month, by the sent date that is filed and then in mailbox order
abbrev pub indexed_month_lines : Archive → Ask → (month : ℤ) → List Line
indexed_month_lines archive ask month = lines_of (map shown_message (filter (is_shown ask (reader_facts archive ask)) (messages_in_month archive ask.list month)))

-- the same of an author key
abbrev pub indexed_author_lines : Archive → Ask → (key : List ℕ) → List Line
indexed_author_lines archive ask key = lines_of (map shown_message (filter (is_shown ask (reader_facts archive ask)) (messages_by_author archive ask.list key)))
