-- Worked examples of replies to requests.
use Rattle.std.proofs.Common.{◌≡◌, ℕ, pos, List, [], ◌∷◌, None, false, refl, codes}
use Rattle.std.specs.Fmt.{digits}
use Rattle.httparse.specs.Grammar.{RequestHead, Field, crlf, trim_ows}
use Rattle.policy_core.specs.Rules.{standings, withdrawn, Rule, open_rule}
use Rattle.policy_core.specs.declared.access.Standing.TheVariants.{Public}
use Rattle.policy_core.specs.declared.access.Withdrawn.TheVariants.{Author, Board}
use Rattle.archive_model.specs.Records.{Archive}
use Rattle.archive_results.specs.Access.{message_facts, ruling_on}
use Rattle.archive_results.specs.Promise.{without_message}
use Rattle.civil_time.specs.Dates.{year_and_day_after, month_and_day_after, date_of_days_since_1900}
use Rattle.civil_time.specs.Texts.{month_text, instant_text, instant_month_text}
use Rattle.mail_core.specs.Lines.{lines, is_empty_line, content}
use Rattle.mail_core.specs.Fields.{fields_of, header_blocks, unfolded}
use Rattle.mail_core.specs.DateTokens.{tokens_of, tokens_from, token_at, token_byte_kind}
use Rattle.mail_core.specs.Sent.{date_at}
use Rattle.mail_core.specs.MsgIds.{ids_from}
use Rattle.subject_core.specs.BaseSubject.{after_bounded_removals, after_one_removal}
use Rattle.subject_core.specs.Spaces.{with_single_spaces}
use Rattle.subject_core.specs.Removal.{without_trailer, after_literal, after_closing_bracket, without_leader, after_leader, after_refwd, without_blob, without_fwd_brackets, after_spaces}
use Rattle.subject_core.specs.Front.{without_front_piece}
use Rattle.mbox_core.specs.Written.{time_text}
use Rattle.archive_html.specs.Links.{month_link, author_link, subject_text, message_link, thread_link}
use Rattle.archive_html.specs.Rows.{list_row, message_row, tree_row}
use Rattle.archive_html.specs.Pages.{page_head, page_foot}
use Rattle.archive_pages.specs.Replies.{Reply, head_bytes, reply_bytes, bad_request, unauthorized, method_not_allowed, not_found}
use Rattle.archive_pages.specs.Answers.{reply_of}

-- an archive with one list and one person, no message, and the open policy
abbrev soc : Archive
soc = record { lists = codes "soc" ∷ []; persons = record { name = codes "mo"; token = codes "0123456789abcdef" } ∷ []; grants = []; messages = []; index_columns = []; options = []; addresses = [] }

abbrev opened : List Rule
opened = open_rule ∷ []

abbrev asks : (method target : List ℕ) → List Field → RequestHead
asks method target fields = record { blank = []; method = method; target = target; minor = 1; line_end = crlf; fields = fields; last = crlf }

abbrev gets : (target : List ℕ) → Reply
gets target = reply_of soc opened (pos 12131) (asks (codes "GET") target [])

abbrev authorization : List ℕ → Field
authorization value = record { name = codes "Authorization"; raw = value; end = crlf }

the_lists : reply_bytes (gets (codes "/"))
    ≡ codes "HTTP/1.1 200 OK\r\nContent-Type: text/html; charset=us-ascii\r\nContent-Length: 178\r\nConnection: close\r\n\r\n<!DOCTYPE html>\n<html><head><title>Lists</title></head><body>\n<h1>Lists</h1>\n<div class=\"d0\"><a href=\"/l/soc/threads\">soc</a> <a href=\"/l/soc/mbox\">mbox</a></div>\n</body></html>\n"
unfolding digits head_bytes page_head page_foot list_row
the_lists = refl

with_a_query : gets (codes "/?x=1") ≡ gets (codes "/")
with_a_query = refl

a_month_without_messages : reply_bytes (gets (codes "/l/soc/month/2003-04"))
    ≡ codes "HTTP/1.1 200 OK\r\nContent-Type: text/html; charset=us-ascii\r\nContent-Length: 106\r\nConnection: close\r\n\r\n<!DOCTYPE html>\n<html><head><title>soc: 2003-04</title></head><body>\n<h1>soc: 2003-04</h1>\n</body></html>\n"
unfolding digits head_bytes page_head page_foot month_text
a_month_without_messages = refl

no_month : gets (codes "/l/soc/month/2003-13") ≡ not_found
no_month = refl

not_a_path : reply_of soc opened (pos 12131) (asks (codes "OPTIONS") (codes "*") []) ≡ bad_request
not_a_path = refl

-- the method is looked at before the path
a_post : reply_of soc opened (pos 12131) (asks (codes "POST") (codes "/nope") []) ≡ method_not_allowed
a_post = refl

-- the token is looked at before the path
an_unknown_token : reply_of soc opened (pos 12131) (asks (codes "GET") (codes "/nope") (authorization (codes "Bearer 0123456789abcdeF") ∷ [])) ≡ unauthorized
unfolding trim_ows
an_unknown_token = refl

two_tokens : reply_of soc opened (pos 12131) (asks (codes "GET") (codes "/") (authorization (codes "Bearer 0123456789abcdef") ∷ authorization [] ∷ [])) ≡ bad_request
unfolding trim_ows
two_tokens = refl

a_known_token : reply_of soc opened (pos 12131) (asks (codes "GET") (codes "/") (authorization (codes " bearer  0123456789abcdef") ∷ [])) ≡ gets (codes "/")
unfolding trim_ows
a_known_token = refl

nowhere : gets (codes "/nope") ≡ not_found
nowhere = refl

no_such_list : gets (codes "/l/xyz/threads") ≡ not_found
no_such_list = refl

no_key : gets (codes "/l/soc/m/1111") ≡ not_found
no_key = refl

an_mbox_without_messages : reply_bytes (gets (codes "/l/soc/mbox")) ≡ codes "HTTP/1.1 200 OK\r\nContent-Type: application/mbox\r\nConnection: close\r\n\r\n"
unfolding digits head_bytes
an_mbox_without_messages = refl

-- ---- two messages, the first withdrawn by its author

abbrev two : Archive
two = record soc {
  messages =
      record {
        list = codes "soc";
        key = codes "1111111111111111111111111111111111111111111111111111111111111111";
        sender = codes "anna@example.org";
        arrival = pos 1046772000;
        text = codes "From: Anna <anna@example.org>\nSubject: Hello\n\nOne.\n";
        withdrawn = pos 1;
        embargo = None;
      }
      ∷ record {
        list = codes "soc";
        key = codes "2222222222222222222222222222222222222222222222222222222222222222";
        sender = codes "bob@example.org";
        arrival = pos 1047465000;
        text = codes "Subject: Re: Hello\n\nTwo.\n";
        withdrawn = pos 0;
        embargo = None;
      } ∷ [];
}

abbrev moderated : Archive
moderated = record two { grants = record { person = codes "mo"; list = codes "soc"; rank = pos 3; from_day = pos 12000; until_day = pos 13000 } ∷ [] }

-- the public sees no withdrawn message
abbrev example : List Rule
example = record open_rule { name = codes "withdrawn"; allows = false; conditions = standings (Public ∷ []) ∷ withdrawn (Author ∷ Board ∷ []) ∷ [] }
    ∷ record open_rule { name = codes "all" } ∷ []

a_withdrawn_message : reply_bytes (reply_of two example (pos 12131) (asks (codes "GET") (codes "/l/soc/m/1111111111111111111111111111111111111111111111111111111111111111") []))
    ≡ codes "HTTP/1.1 403 Forbidden\r\nContent-Type: text/plain; charset=us-ascii\r\nContent-Length: 25\r\nConnection: close\r\n\r\n403 Forbidden: withdrawn\n"
unfolding digits head_bytes message_facts ruling_on
a_withdrawn_message = refl

a_message : reply_bytes (reply_of two example (pos 12131) (asks (codes "GET") (codes "/l/soc/m/2222222222222222222222222222222222222222222222222222222222222222") []))
    ≡ codes "HTTP/1.1 200 OK\r\nContent-Type: message/rfc822\r\nContent-Length: 25\r\nConnection: close\r\n\r\nSubject: Re: Hello\n\nTwo.\n"
unfolding digits head_bytes message_facts ruling_on
a_message = refl

-- the threads show nothing of it, as if it had never come
its_threads : reply_bytes (reply_of two example (pos 12131) (asks (codes "GET") (codes "/l/soc/threads") []))
    ≡ codes "HTTP/1.1 200 OK\r\nContent-Type: text/html; charset=us-ascii\r\nContent-Length: 380\r\nConnection: close\r\n\r\n<!DOCTYPE html>\n<html><head><title>soc: threads</title></head><body>\n<h1>soc: threads</h1>\n<div class=\"d0\"><a href=\"/l/soc/month/2003-03\">2003-03-12 10:30</a> (none) <a href=\"/l/soc/m/2222222222222222222222222222222222222222222222222222222222222222\">Re: Hello</a> <a href=\"/l/soc/t/2222222222222222222222222222222222222222222222222222222222222222\">thread</a></div>\n</body></html>\n"
unfolding head_bytes lines is_empty_line content fields_of header_blocks unfolded tokens_of tokens_from token_at token_byte_kind date_at ids_from after_bounded_removals with_single_spaces
    after_one_removal without_trailer after_literal after_closing_bracket without_leader after_leader after_refwd without_blob without_fwd_brackets after_spaces without_front_piece page_head page_foot
    tree_row message_row month_link author_link subject_text message_link thread_link instant_text instant_month_text date_of_days_since_1900 year_and_day_after month_and_day_after digits
    message_facts ruling_on
its_threads = refl

-- a moderator reads both, the second below the first: it has no reference, but the subject of a reply
its_threads_for_a_moderator : reply_bytes (reply_of moderated example (pos 12131) (asks (codes "GET") (codes "/l/soc/threads") (authorization (codes "Bearer 0123456789abcdef") ∷ [])))
    ≡ codes "HTTP/1.1 200 OK\r\nContent-Type: text/html; charset=us-ascii\r\nContent-Length: 703\r\nConnection: close\r\n\r\n<!DOCTYPE html>\n<html><head><title>soc: threads</title></head><body>\n<h1>soc: threads</h1>\n<div class=\"d0\"><a href=\"/l/soc/month/2003-03\">2003-03-04 10:00</a> <a href=\"/l/soc/by/anna%40example.org\">anna@example.org</a> <a href=\"/l/soc/m/1111111111111111111111111111111111111111111111111111111111111111\">Hello</a> <a href=\"/l/soc/t/1111111111111111111111111111111111111111111111111111111111111111\">thread</a></div>\n<div class=\"d1\"><a href=\"/l/soc/month/2003-03\">2003-03-12 10:30</a> (none) <a href=\"/l/soc/m/2222222222222222222222222222222222222222222222222222222222222222\">Re: Hello</a> <a href=\"/l/soc/t/2222222222222222222222222222222222222222222222222222222222222222\">thread</a></div>\n</body></html>\n"
unfolding trim_ows head_bytes lines is_empty_line content fields_of header_blocks unfolded tokens_of tokens_from token_at token_byte_kind date_at ids_from after_bounded_removals
    with_single_spaces after_one_removal without_trailer after_literal after_closing_bracket without_leader after_leader after_refwd without_blob without_fwd_brackets after_spaces
    without_front_piece page_head
    page_foot tree_row message_row month_link author_link subject_text message_link thread_link instant_text instant_month_text date_of_days_since_1900 year_and_day_after month_and_day_after
    digits message_facts ruling_on
its_threads_for_a_moderator = refl

-- nor does the mbox hold it
its_mbox : reply_bytes (reply_of two example (pos 12131) (asks (codes "GET") (codes "/l/soc/mbox") []))
    ≡ codes "HTTP/1.1 200 OK\r\nContent-Type: application/mbox\r\nConnection: close\r\n\r\nFrom bob@example.org Wed Mar 12 10:30:00 2003\nSubject: Re: Hello\n\nTwo.\n\n"
unfolding digits head_bytes message_facts ruling_on date_of_days_since_1900 year_and_day_after month_and_day_after time_text
its_mbox = refl

-- ---- what is withheld leaves no trace: the first of the two, under a policy that names authors alone

abbrev of_authors : List Rule
of_authors = record open_rule { name = codes "author"; allows = false; conditions = withdrawn (Author ∷ []) ∷ [] } ∷ record open_rule { name = codes "all" } ∷ []

abbrev mbox_of : Archive → Reply
mbox_of archive = reply_of archive of_authors (pos 12131) (asks (codes "GET") (codes "/l/soc/mbox") [])

abbrev never : Archive
never = without_message two (codes "soc") (codes "1111111111111111111111111111111111111111111111111111111111111111")

one_never_came : never ≡ record two {
  messages = record {
    list = codes "soc";
    key = codes "2222222222222222222222222222222222222222222222222222222222222222";
    sender = codes "bob@example.org";
    arrival = pos 1047465000;
    text = codes "Subject: Re: Hello\n\nTwo.\n";
    withdrawn = pos 0;
    embargo = None;
  } ∷ [];
}
one_never_came = refl

without_a_trace : mbox_of two ≡ mbox_of never
unfolding message_facts ruling_on
without_a_trace = refl
