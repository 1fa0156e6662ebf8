-- Worked examples of pages, byte for byte.
use Rattle.std.proofs.Common.{◌≡◌, pos, [], ◌∷◌, ◌++◌, Some, None, refl, codes}
use Rattle.std.specs.Fmt.{digits}
use Rattle.civil_time.specs.Dates.{year_and_day_after, month_and_day_after, date_of_days_since_1900}
use Rattle.archive_results.specs.Shown.{Line}
use Rattle.civil_time.specs.Texts.{instant_text, instant_month_text, month_text}
use Rattle.archive_html.specs.Texts.{html_escaped_text}
use Rattle.archive_html.specs.Links.{percent_encoded, month_link, author_link, subject_text, message_link, thread_link}
use Rattle.archive_html.specs.Rows.{list_row, message_row, missing_row, tree_row}
use Rattle.archive_html.specs.Pages.{page_head, page_foot, lists_page, month_page, author_page, threads_page, thread_page}

-- ---- texts

a_hostile_text : html_escaped_text (codes "<script>\"&\t~" ++ 127 ∷ 233 ∷ []) ≡ codes "&lt;script&gt;&quot;&amp;?~??"
a_hostile_text = refl

an_address : percent_encoded (codes "anna@example.org") ≡ codes "anna%40example.org"
an_address = refl

-- capitals, and what stays
an_odd_author : percent_encoded (codes "a\"b /Z-._~9?" ++ 233 ∷ []) ≡ codes "a%22b%20%2FZ-._~9%3F%E9"
an_odd_author = refl

-- ---- rows

abbrev hello : Line
hello = record { key = codes "K1"; sent = pos 1046772000; author = codes "anna@example.org"; subject = codes "Hello" }

abbrev re_hello : Line
re_hello = record { key = codes "K2"; sent = pos 1047465000; author = []; subject = codes "Re: Hello" }

a_list : list_row (codes "soc") ≡ codes "<div class=\"d0\"><a href=\"/l/soc/threads\">soc</a> <a href=\"/l/soc/mbox\">mbox</a></div>\n"
unfolding list_row digits
a_list = refl

a_message : message_row (codes "soc") 1 re_hello
    ≡ codes "<div class=\"d1\"><a href=\"/l/soc/month/2003-03\">2003-03-12 10:30</a> (none) <a href=\"/l/soc/m/K2\">Re: Hello</a> <a href=\"/l/soc/t/K2\">thread</a></div>\n"
unfolding message_row month_link author_link subject_text message_link thread_link instant_text instant_month_text date_of_days_since_1900 year_and_day_after month_and_day_after digits
a_message = refl

-- at a depth of more than 20, by a hostile author, with no subject
a_deep_message : message_row (codes "soc") 21 (record hello { author = codes "\"<a>"; subject = [] })
    ≡ codes "<div class=\"d20\"><a href=\"/l/soc/month/2003-03\">2003-03-04 10:00</a> <a href=\"/l/soc/by/%22%3Ca%3E\">&quot;&lt;a&gt;</a> <a href=\"/l/soc/m/K1\">(no subject)</a> <a href=\"/l/soc/t/K1\">thread</a></div>\n"
unfolding message_row month_link author_link subject_text message_link thread_link instant_text instant_month_text date_of_days_since_1900 year_and_day_after month_and_day_after digits
a_deep_message = refl

a_missing_one : tree_row (codes "soc") (record { depth = 0; line = None }) ≡ codes "<div class=\"d0\">(missing)</div>\n"
unfolding tree_row missing_row digits
a_missing_one = refl

-- ---- pages

the_lists : lists_page (codes "soc" ∷ [])
    ≡ codes "<!DOCTYPE html>\n<html><head><title>Lists</title></head><body>\n<h1>Lists</h1>\n<div class=\"d0\"><a href=\"/l/soc/threads\">soc</a> <a href=\"/l/soc/mbox\">mbox</a></div>\n</body></html>\n"
unfolding page_head page_foot list_row digits
the_lists = refl

an_empty_month : month_page (codes "soc") 24039 []
    ≡ codes "<!DOCTYPE html>\n<html><head><title>soc: 2003-04</title></head><body>\n<h1>soc: 2003-04</h1>\n</body></html>\n"
unfolding page_head page_foot month_text
an_empty_month = refl

no_message_by_an_author : author_page (codes "soc") (codes "a<b@c") []
    ≡ codes "<!DOCTYPE html>\n<html><head><title>soc: by a&lt;b@c</title></head><body>\n<h1>soc: by a&lt;b@c</h1>\n</body></html>\n"
unfolding page_head page_foot
no_message_by_an_author = refl

-- a reply by nobody, below the first message
the_threads : threads_page (codes "soc") (record { depth = 0; line = Some hello } ∷ record { depth = 1; line = Some re_hello } ∷ [])
    ≡ codes "<!DOCTYPE html>\n<html><head><title>soc: threads</title></head><body>\n<h1>soc: threads</h1>\n<div class=\"d0\"><a href=\"/l/soc/month/2003-03\">2003-03-04 10:00</a> <a href=\"/l/soc/by/anna%40example.org\">anna@example.org</a> <a href=\"/l/soc/m/K1\">Hello</a> <a href=\"/l/soc/t/K1\">thread</a></div>\n<div class=\"d1\"><a href=\"/l/soc/month/2003-03\">2003-03-12 10:30</a> (none) <a href=\"/l/soc/m/K2\">Re: Hello</a> <a href=\"/l/soc/t/K2\">thread</a></div>\n</body></html>\n"
unfolding page_head page_foot tree_row message_row month_link author_link subject_text message_link thread_link instant_text instant_month_text date_of_days_since_1900 year_and_day_after
    month_and_day_after digits
the_threads = refl

a_thread : thread_page (codes "soc") (record { depth = 0; line = None } ∷ [])
    ≡ codes "<!DOCTYPE html>\n<html><head><title>soc: thread</title></head><body>\n<h1>soc: thread</h1>\n<div class=\"d0\">(missing)</div>\n</body></html>\n"
unfolding page_head page_foot tree_row missing_row digits
a_thread = refl
