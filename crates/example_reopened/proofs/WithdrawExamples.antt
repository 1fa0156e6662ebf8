-- Worked values of a withdrawal behind an import: an mbox of two messages, the first of which its author withdraws.
use Rattle.std.proofs.Common.{◌≡◌, ◌∙◌, ℕ, pos, List, [], ◌∷◌, Option, Some, None, false, refl, sym, ap, subst, codes}
use Rattle.std.specs.Fmt.{digits}
use Rattle.httparse.specs.Grammar.{RequestHead, crlf}
use Rattle.civil_time.specs.Calendar.{days_before_year, days_in_first_months}
use Rattle.civil_time.specs.Dates.{year_and_day_after, month_and_day_after, date_of_days_since_1900}
use Rattle.civil_time.specs.Names.{month_of_name, is_day_name}
use Rattle.sha2.specs.Sha256.{sha256, digest_bytes, hash_after, compress, rounds, schedule, first_words}
use Rattle.hex.proofs.OnLiterals.{hex_on_literals}
use Rattle.policy_core.specs.Rules.{standings, withdrawn as if_withdrawn, Rule, open_rule}
use Rattle.policy_core.specs.declared.access.WithdrawnBy.TheVariants as party
use Rattle.policy_core.specs.declared.access.Standing.TheVariants.{Public}
use Rattle.policy_core.specs.declared.access.Withdrawn.TheVariants.{Author, Board}
use Rattle.mail_core.specs.Lines.{lines, content}
use Rattle.mbox_items.specs.Division.{Item, DividesIntoItems, items_of, front_and_items_of_lines, item_text_of_lines}
use Rattle.mbox_items.specs.Separator.{tokens, parsed_day_of_month, parsed_time_of_day, parsed_four_digit_year, instant_of_local_time}
use Rattle.mbox_items.specs.Separator.{arrival_of, envelope_of_one_token, envelope_of_two_tokens, envelope_of, separator_of}
use Rattle.mbox_items.specs.Written.{time_text}
use Rattle.mbox_core.proofs.DivisionLaws.{front_divides}
use Rattle.archive_model.specs.Records.{Archive}
use Rattle.archive_model.specs.Commands.{list_add, withdraw, done}
use Rattle.archive_model.specs.Filing.{item_index_columns}
use Rattle.archive_model.specs.Machine.{default_list_option, keyed_message, is_too_large, step}
use Rattle.archive_model.specs.Runs.{run, taken}
use Rattle.archive_tables.specs.Making.{empty_archive}
use Rattle.archive_results.specs.Access.{message_facts, ruling_on}
use Rattle.archive_requests.specs.Requests.{asks, request_of}
use Rattle.archive_requests.specs.Routes.{Route, mbox, route_of}
use Rattle.archive_pages.specs.Answers.{reply_of}
use Rattle.archive_pages.specs.Laws.{is_message_route}
use Rattle.archive_pages.specs.Replies.{head_bytes, reply_bytes}
use Rattle.example_reopened.specs.Withdrawing.{IsAnonymousListRequest, DeniesWithdrawnToPublic}

abbrev soc : List ℕ
soc = codes "soc"

abbrev text : List ℕ
text = codes "From anna@example.org Tue Mar  4 10:00:00 2003\nFrom: Anna <anna@example.org>\nSubject: Hello\n\nOne.\n\nFrom bob@example.org Wed Mar 12 10:30:00 2003\nSubject: Re: Hello\n\nTwo.\n\n"

abbrev of_anna : Item
of_anna = record { envelope = record { sender = codes "anna@example.org"; arrival = pos 1046772000 }; text = codes "From: Anna <anna@example.org>\nSubject: Hello\n\nOne.\n" }

abbrev of_bob : Item
of_bob = record { envelope = record { sender = codes "bob@example.org"; arrival = pos 1047465000 }; text = codes "Subject: Re: Hello\n\nTwo.\n" }

two_divide : items_of text ≡ of_anna ∷ of_bob ∷ []
unfolding separator_of envelope_of envelope_of_one_token envelope_of_two_tokens arrival_of instant_of_local_time is_day_name month_of_name parsed_four_digit_year parsed_time_of_day
    parsed_day_of_month tokens days_before_year days_in_first_months front_and_items_of_lines lines content item_text_of_lines
two_divide = refl

divided : DividesIntoItems text (of_anna ∷ of_bob ∷ [])
unfolding separator_of envelope_of envelope_of_one_token envelope_of_two_tokens arrival_of instant_of_local_time is_day_name month_of_name parsed_four_digit_year parsed_time_of_day
    parsed_day_of_month tokens days_before_year days_in_first_months front_and_items_of_lines lines content item_text_of_lines
divided = subst (DividesIntoItems text) two_divide (front_divides text tt)

-- ---- the archive

abbrev key_of_anna : List ℕ
key_of_anna = codes "a9fda901d43094a70ddaab56f97a3ed4ab7d9e3f14e4c1717930bee493395661"

abbrev key_of_bob : List ℕ
key_of_bob = codes "d41bdfeadb4b458370ddcfa1a3a8aa91197973a0a547288c06ee2a2ae4dbf327"

-- a list
abbrev listed : Archive
listed = record empty_archive { lists = soc ∷ []; options = default_list_option soc ∷ [] }

by_commands : (run empty_archive (list_add soc ∷ [])).archive ≡ listed
unfolding run
by_commands = refl

-- with both messages
abbrev imported : Archive
imported = record listed {
  messages = keyed_message soc key_of_anna of_anna ∷ keyed_message soc key_of_bob of_bob ∷ [];
  index_columns = item_index_columns of_anna ∷ item_index_columns of_bob ∷ [];
}

both_taken : (taken listed soc (of_anna ∷ of_bob ∷ [])).archive ≡ imported
unfolding run hex_on_literals sha256 digest_bytes hash_after compress rounds schedule first_words is_too_large
both_taken = refl

-- the first is withdrawn by its author
abbrev withdrawn : Archive
withdrawn = record imported { messages = record (keyed_message soc key_of_anna of_anna) { withdrawn = pos 1 } ∷ keyed_message soc key_of_bob of_bob ∷ [] }

by_its_author : step imported (withdraw soc key_of_anna (pos 1)) ≡ (withdrawn, done)
by_its_author = refl

-- ---- two requests, under a policy that denies the public what is withdrawn

abbrev example : List Rule
example = record open_rule { name = codes "withdrawn"; allows = false; conditions = standings (Public ∷ []) ∷ if_withdrawn (Author ∷ Board ∷ []) ∷ [] }
    ∷ record open_rule { name = codes "all" } ∷ []

abbrev gets : (target : List ℕ) → RequestHead
gets target = record { blank = []; method = codes "GET"; target = target; minor = 1; line_end = crlf; fields = []; last = crlf }

of_the_mbox : reply_bytes (reply_of withdrawn example (pos 12131) (gets (codes "/l/soc/mbox")))
    ≡ codes "HTTP/1.1 200 OK\r\nContent-Type: application/mbox\r\nConnection: close\r\n\r\nFrom bob@example.org Wed Mar 12 10:30:00 2003\nSubject: Re: Hello\n\nTwo.\n\n"
unfolding digits head_bytes message_facts ruling_on date_of_days_since_1900 year_and_day_after month_and_day_after time_text
of_the_mbox = refl

of_the_message : reply_bytes (reply_of withdrawn example (pos 12131) (gets (codes "/l/soc/m/a9fda901d43094a70ddaab56f97a3ed4ab7d9e3f14e4c1717930bee493395661")))
    ≡ codes "HTTP/1.1 403 Forbidden\r\nContent-Type: text/plain; charset=us-ascii\r\nContent-Length: 25\r\nConnection: close\r\n\r\n403 Forbidden: withdrawn\n"
unfolding digits head_bytes message_facts ruling_on
of_the_message = refl

-- ---- no trace

denied : DeniesWithdrawnToPublic party.Author example (pos 12131)
unfolding ruling_on
denied list marks is own = rw is refl

abbrev the_mbox : RequestHead
the_mbox = gets (codes "/l/soc/mbox")

asked : request_of the_mbox ≡ asks None (codes "/l/soc/mbox")
asked = refl

token_is : (a b : Option (List ℕ)) (p q : List ℕ) → asks a p ≡ asks b q → b ≡ a
token_is a b p q same = cc

path_is : (a b : Option (List ℕ)) (p q : List ℕ) → asks a p ≡ asks b q → q ≡ p
path_is a b p q same = cc

route_is : (a b : Route) → Some a ≡ Some b → b ≡ a
route_is a b same = cc

openly : IsAnonymousListRequest the_mbox
openly = record {
  has_no_token = λ token path is. token_is None token (codes "/l/soc/mbox") path is;
  asks_for_no_message = λ token path route is where_to.
      ap is_message_route (route_is (mbox soc) route (sym (ap route_of (path_is None token (codes "/l/soc/mbox") path is)) ∙ where_to));
}
