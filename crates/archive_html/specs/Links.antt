-- Links between pages. (RFC 3986 for escapes; profile: the routes)
use Rattle.std.specs.Prelude.{ℕ, ◌+◌, ◌/◌, ◌%◌, ◌==◌, nat_lt, ℤ, Bool, ◌||◌, if◌then◌else◌, List, [], ◌∷◌, ◌++◌, length, flat_map, codes}
use Rattle.std.specs.List.{list_any}
use Rattle.std.specs.Char.{is_ascii_alphanumeric}
use Rattle.civil_time.specs.Texts.{instant_text, instant_month_text}
use Rattle.archive_html.specs.Texts.{html_escaped_text}

-- ---- escapes

-- RFC 3986, section 2.3: ASCII letters, digits and `-._~`
abbrev pub is_unreserved : ℕ → Bool
is_unreserved b = is_ascii_alphanumeric b || list_any (λ c. c == b) (codes "-._~")

-- a hexadecimal digit, in capitals
abbrev pub hex_digit : ℕ → ℕ
hex_digit n = if nat_lt n 10 then 48 + n else 55 + n

-- RFC 3986, section 2.1: an unreserved byte as it is, any other as `%` and two hexadecimal digits
abbrev pub percent_encoded_byte : ℕ → List ℕ
percent_encoded_byte b = if is_unreserved b then b ∷ [] else 37 ∷ hex_digit (b / 16) ∷ hex_digit (b % 16) ∷ []

abbrev pub percent_encoded : List ℕ → List ℕ
percent_encoded text = flat_map percent_encoded_byte text

-- ---- links

-- a link to a target, with a text that is shown
abbrev pub link : (target text : List ℕ) → List ℕ
link target text = codes "<a href=\"" ++ (target ++ (codes "\">" ++ (text ++ codes "</a>")))

-- the path below a list
abbrev pub list_path : (list rest : List ℕ) → List ℕ
list_path list rest = codes "/l/" ++ (list ++ rest)

-- an instant, which leads to its month
unfoldable pub month_link : (list : List ℕ) → (sent : ℤ) → List ℕ
month_link list sent = link (list_path list (codes "/month/" ++ instant_month_text sent)) (instant_text sent)

-- an author key, which leads to all that this author wrote; `(none)` without a link where it is empty
unfoldable pub author_link : (list author : List ℕ) → List ℕ
author_link list author =
    if length author == 0 then codes "(none)" else link (list_path list (codes "/by/" ++ percent_encoded author)) (html_escaped_text author)

-- a subject as it is shown, and `(no subject)` for an empty one
unfoldable pub subject_text : List ℕ → List ℕ
subject_text subject = if length subject == 0 then codes "(no subject)" else html_escaped_text subject

-- a subject, which leads to the message
unfoldable pub message_link : (list key subject : List ℕ) → List ℕ
message_link list key subject = link (list_path list (codes "/m/" ++ key)) (subject_text subject)

-- the word `thread`, which leads to the message's thread
unfoldable pub thread_link : (list key : List ℕ) → List ℕ
thread_link list key = link (list_path list (codes "/t/" ++ key)) (codes "thread")
