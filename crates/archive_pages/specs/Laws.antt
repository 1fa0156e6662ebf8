-- What the replies are, in words of the policy and of the results.
use Rattle.std.specs.Prelude.{◌≡◌, ◌≢◌, ◌↔◌, ◌⊎◌, ℕ, ℤ, Bool, true, false, List, ◌∷◌, ◌++◌, codes, Option, Some, None, is_some}
use Rattle.std.specs.List.{AllByRecursion}
use Rattle.httparse.specs.Grammar.{RequestHead}
use Rattle.civil_time.specs.Calendar.{month_of_text}
use Rattle.policy_core.specs.Facts.{Facts}
use Rattle.policy_core.specs.Rules.{Rule, fits}
use Rattle.policy_core.specs.declared.access.Withdrawn.{Withdrawn}
use Rattle.policy_core.specs.declared.access.Withdrawn.TheVariants.{No}
use Rattle.archive_model.specs.Records.{Archive, Message}
use Rattle.archive_model.specs.Commands.{Command, withdraw, embargo, done}
use Rattle.archive_model.specs.Lasting.{NoCommandSatisfies, ends_withdrawal, changes_embargo}
use Rattle.archive_model.specs.Machine.{step}
use Rattle.archive_model.specs.Messages.{withdrawal_number}
use Rattle.archive_model.specs.Questions.{has_list, list_names, merge_of, message_of}
use Rattle.archive_model.specs.Keys.{is_key}
use Rattle.archive_model.specs.Runs.{run}
use Rattle.archive_results.specs.Access.{Ask, ReaderFacts, policy_facts_of, message_facts, reader_facts, is_shown}
use Rattle.archive_results.specs.Promise.{without_message, IsMessageHidden, IsNotOwnMessage, DeniesWithdrawnBy, DeniesEmbargoed}
use Rattle.archive_results.specs.Results.{TreeLine, month_lines, author_lines, tree_lines, thread_lines, export_text}
use Rattle.archive_html.specs.Pages.{month_page, author_page, threads_page, thread_page}
use Rattle.archive_requests.specs.Requests.{asks, request_of}
use Rattle.archive_requests.specs.Routes.{Route, lists, message, month, threads, thread, author, mbox, route_of}
use Rattle.archive_pages.specs.Replies.{page_reply, message_reply, mbox_reply, forbidden}
use Rattle.archive_pages.specs.Answers.{reader_of, ask_of_reader, shown_view, reply_of}

-- ---- what a request asks for

-- A request is a reader's, for this route: its target begins with a slash, its method is GET, and it has no token, or that of a
-- person.
pub record AsksFor (archive : Archive) (head : RequestHead) (reader : Option (List ℕ)) (route : Route) : Type 0 where
  pub token : Option (List ℕ)
  pub path : List ℕ
  pub request_is : request_of head ≡ asks token path
  pub reader_is : reader_of archive token ≡ Some reader
  pub route_is : route_of path ≡ Some route

-- for a message by its key, of a list that is there
pub record AsksForMessage (archive : Archive) (head : RequestHead) (reader : Option (List ℕ)) (list key : List ℕ) : Type 0 where
  pub asks_for : AsksFor archive head reader (message list key)
  pub list_exists : has_list archive list ≡ true
  pub key_is_valid : is_key key ≡ true

-- ---- one message

-- the facts of a message, on which the rules decide
abbrev pub facts_on : Archive → Ask → Message → Facts
facts_on archive ask m = policy_facts_of ask (reader_facts archive ask) (message_facts (reader_facts archive ask).address m)

-- no rule fits
abbrev pub NoRuleFits : List Rule → Facts → Type 0
NoRuleFits rules f = AllByRecursion (λ r. fits r f ≡ false) rules

-- it fits, and no rule before it does
pub record IsFirstToFit (rules : List Rule) (f : Facts) (rule : Rule) : Type 0 where
  pub rules_before : List Rule
  pub rules_after : List Rule
  pub rules_are : rules ≡ rules_before ++ rule ∷ rules_after
  pub none_fits_before : NoRuleFits rules_before f
  pub fits_facts : fits rule f ≡ true

-- the first rule that fits allows it
pub record IsAllowed (rules : List Rule) (f : Facts) : Type 0 where
  pub rule : Rule
  pub is_first_to_fit : IsFirstToFit rules f rule
  pub rule_allows : rule.allows ≡ true

-- the first rule that fits denies it, and has this name
pub record IsDeniedBy (rules : List Rule) (f : Facts) (name : List ℕ) : Type 0 where
  pub rule : Rule
  pub is_first_to_fit : IsFirstToFit rules f rule
  pub rule_denies : rule.allows ≡ false
  pub name_is : rule.name ≡ name

-- the message of this key that the list holds, and this of the facts on which the rules decide
abbrev pub HoldsMessageWithFacts : Archive → Ask → (key : List ℕ) → (Facts → Type 0) → Type 0
HoldsMessageWithFacts archive ask key P = (m : Message) × (message_of archive ask.list key ≡ Some m) × P (facts_on archive ask m)

-- A message is served exactly where the list holds it and the first rule that fits allows it. Then the reply is its whole text.
pub record ServesWhatIsAllowed (archive : Archive) (rules : List Rule) (day : ℤ) (head : RequestHead) : Type 0 where
  pub served_iff_allowed : (reader : Option (List ℕ)) (list key : List ℕ) → AsksForMessage archive head reader list key
      → ((reply_of archive rules day head).status ≡ 200) ↔ HoldsMessageWithFacts archive (ask_of_reader rules day reader list) key (IsAllowed rules)
  pub serves_message : (reader : Option (List ℕ)) (list key : List ℕ) → AsksForMessage archive head reader list key
      → (m : Message) → message_of archive list key ≡ Some m → IsAllowed rules (facts_on archive (ask_of_reader rules day reader list) m)
      → reply_of archive rules day head ≡ message_reply m.text

-- 403 is answered exactly to a request for a message that the list holds and the rules deny. Then the reply names the first rule
-- that fits, and `default` where none fits.
pub record DeniesWhatIsDenied (archive : Archive) (rules : List Rule) (day : ℤ) (head : RequestHead) : Type 0 where
  pub denied_iff_403 : ((reply_of archive rules day head).status ≡ 403) ↔ ((reader : Option (List ℕ)) × (list : List ℕ) × (key : List ℕ)
      × AsksForMessage archive head reader list key
      × HoldsMessageWithFacts archive (ask_of_reader rules day reader list) key (λ f. ((name : List ℕ) × IsDeniedBy rules f name) ⊎ NoRuleFits rules f))
  pub names_first_rule : (reader : Option (List ℕ)) (list key name : List ℕ) → AsksForMessage archive head reader list key
      → HoldsMessageWithFacts archive (ask_of_reader rules day reader list) key (λ f. IsDeniedBy rules f name) → reply_of archive rules day head ≡ forbidden name
  pub names_default : (reader : Option (List ℕ)) (list key : List ℕ) → AsksForMessage archive head reader list key
      → HoldsMessageWithFacts archive (ask_of_reader rules day reader list) key (NoRuleFits rules) → reply_of archive rules day head ≡ forbidden (codes "default")

-- ---- listings

-- Every other reply on a list that is there shows the results of RFC 5256 and RFC 4155 over the messages that the rules allow,
-- and nothing else.
pub record ShowsWhatIsAllowed (archive : Archive) (rules : List Rule) (day : ℤ) (head : RequestHead) : Type 0 where
  pub view : (ask : Ask) (m : Message) → (is_shown ask (reader_facts archive ask) m ≡ true) ↔ IsAllowed ask.rules (facts_on archive ask m)
  pub of_month : (reader : Option (List ℕ)) (list text : List ℕ) (m : ℕ) → AsksFor archive head reader (month list text) → has_list archive list ≡ true
      → month_of_text text ≡ Some m
      → reply_of archive rules day head ≡ page_reply (month_page list m (month_lines m (shown_view archive (ask_of_reader rules day reader list))))
  pub of_author : (reader : Option (List ℕ)) (list key : List ℕ) → AsksFor archive head reader (author list key) → has_list archive list ≡ true
      → reply_of archive rules day head ≡ page_reply (author_page list key (author_lines key (shown_view archive (ask_of_reader rules day reader list))))
  pub of_threads : (reader : Option (List ℕ)) (list : List ℕ) → AsksFor archive head reader (threads list) → has_list archive list ≡ true
      → reply_of archive rules day head ≡ page_reply (threads_page list (tree_lines (merge_of archive list) (shown_view archive (ask_of_reader rules day reader list))))
  pub of_thread : (reader : Option (List ℕ)) (list key : List ℕ) (rows : List TreeLine) → AsksFor archive head reader (thread list key)
      → has_list archive list ≡ true → is_key key ≡ true → thread_lines (merge_of archive list) key (shown_view archive (ask_of_reader rules day reader list)) ≡ Some rows
      → reply_of archive rules day head ≡ page_reply (thread_page list rows)
  pub of_mbox : (reader : Option (List ℕ)) (list : List ℕ) → AsksFor archive head reader (mbox list) → has_list archive list ≡ true
      → reply_of archive rules day head ≡ mbox_reply (export_text (shown_view archive (ask_of_reader rules day reader list)))

-- ---- what a withheld message leaves in a listing: nothing

-- the list of a route
abbrev pub list_of_route : Route → Option (List ℕ)
list_of_route lists = None
list_of_route (message list key) = Some list
list_of_route (month list text) = Some list
list_of_route (threads list) = Some list
list_of_route (thread list key) = Some list
list_of_route (author list key) = Some list
list_of_route (mbox list) = Some list

-- the route of one message by its key
abbrev pub is_message_route : Route → Bool
is_message_route (message list key) = true
is_message_route lists = false
is_message_route (month list text) = false
is_message_route (threads list) = false
is_message_route (thread list key) = false
is_message_route (author list key) = false
is_message_route (mbox list) = false

-- Two archives with the same list names, asked for one path by one token, which is a person's in both or in neither. The list that
-- the path names is threaded alike in both, and what the two readers are shown of it is equal in key, sender, arrival and whole
-- text.
pub record HaveSameViews (rules : List Rule) (day : ℤ) (token : Option (List ℕ)) (path : List ℕ) (a b : Archive) : Type 0 where
  pub same_list_names : list_names a ≡ list_names b
  pub same_tokens_known : is_some (reader_of a token) ≡ is_some (reader_of b token)
  pub same_merging : (route : Route) (list : List ℕ) → route_of path ≡ Some route → list_of_route route ≡ Some list → merge_of a list ≡ merge_of b list
  pub same_views : (route : Route) (list : List ℕ) (x y : Option (List ℕ)) → route_of path ≡ Some route → list_of_route route ≡ Some list
      → reader_of a token ≡ Some x → reader_of b token ≡ Some y
      → shown_view a (ask_of_reader rules day x list) ≡ shown_view b (ask_of_reader rules day y list)

-- Then the replies are equal, byte for byte, but where one message is asked for by its key.
abbrev pub EqualViews : Type 0
EqualViews = (rules : List Rule) (day : ℤ) (head : RequestHead) (a b : Archive)
    → ((token : Option (List ℕ)) (path : List ℕ) → request_of head ≡ asks token path → HaveSameViews rules day token path a b
    × ((route : Route) → route_of path ≡ Some route → is_message_route route ≡ false))
    → reply_of a rules day head ≡ reply_of b rules day head

-- ---- what an author is promised

-- no message is asked for by its key
abbrev pub AsksForNoMessage : RequestHead → Type 0
AsksForNoMessage head = (token : Option (List ℕ)) (path : List ℕ) (route : Route) → request_of head ≡ asks token path → route_of path ≡ Some route
    → is_message_route route ≡ false

-- Whoever asks is not shown the message, by these rules and on this day.
abbrev pub IsWithheldFromAskers : Archive → List Rule → (day : ℤ) → RequestHead → (list key : List ℕ) → Type 0
IsWithheldFromAskers archive rules day head list key = (reader : Option (List ℕ)) (route : Route) (asked : List ℕ) → AsksFor archive head reader route
    → list_of_route route ≡ Some asked → IsMessageHidden archive (ask_of_reader rules day reader asked) list key

-- The reply to such a request is that of the archive in which the message never came: out of every archive, so at any time, and
-- whatever hides the message, be it a withdrawal, an embargo or anything else that rules ask for.
abbrev pub WithheldLeavesNoTrace : Type 0
WithheldLeavesNoTrace = (archive : Archive) (rules : List Rule) (day : ℤ) (head : RequestHead) (list key : List ℕ) → AsksForNoMessage head
    → IsWithheldFromAskers archive rules day head list key → reply_of archive rules day head ≡ reply_of (without_message archive list key) rules day head

-- Whoever asks did not write the message, and to them the policy denies such messages on the list that they ask for.
abbrev pub IsAskedByOthers : (Ask → ReaderFacts → Type 0) → Archive → List Rule → (day : ℤ) → RequestHead → (list key : List ℕ) → Type 0
IsAskedByOthers Denies archive rules day head list key = (reader : Option (List ℕ)) (route : Route) (asked : List ℕ) → AsksFor archive head reader route
    → list_of_route route ≡ Some asked
    → IsNotOwnMessage archive (ask_of_reader rules day reader asked) list key
    × Denies (ask_of_reader rules day reader asked) (reader_facts archive (ask_of_reader rules day reader asked))

-- Once the message is withdrawn, by its author or the board, the reply to such a request is that of the archive in which it never came.
abbrev pub IsAsIfItNeverCame : Type 0
IsAsIfItNeverCame = (archive : Archive) (rules : List Rule) (day : ℤ) (head : RequestHead) (list key : List ℕ) (by : Withdrawn) → by ≢ No
    → (step archive (withdraw list key (withdrawal_number by))).1 ≡ done → AsksForNoMessage head
    → IsAskedByOthers (DeniesWithdrawnBy by) archive rules day head list key
    → reply_of (step archive (withdraw list key (withdrawal_number by))).0 rules day head ≡ reply_of (without_message archive list key) rules day head

-- The same of a request to a later archive, where the message is hidden by what the policy denies.
abbrev pub IsHiddenInReplies : (Ask → ReaderFacts → Type 0) → Archive → (list key : List ℕ) → Type 0
IsHiddenInReplies Denies archive list key = (rules : List Rule) (day : ℤ) (head : RequestHead) → AsksForNoMessage head
    → IsAskedByOthers Denies archive rules day head list key → reply_of archive rules day head ≡ reply_of (without_message archive list key) rules day head

-- It stays so, whatever is commanded but to restore the message;
abbrev pub StaysAsIfItNeverCame : Type 0
StaysAsIfItNeverCame = (archive : Archive) (list key : List ℕ) (by : Withdrawn) (commands : List Command) → by ≢ No
    → (step archive (withdraw list key (withdrawal_number by))).1 ≡ done → NoCommandSatisfies (ends_withdrawal list key) commands
    → IsHiddenInReplies (DeniesWithdrawnBy by) (run (step archive (withdraw list key (withdrawal_number by))).0 commands).archive list key

-- and so it is of one that is held back up to a day, whatever is commanded but to set its embargo anew or to lift it.
abbrev pub StaysEmbargoed : Type 0
StaysEmbargoed = (archive : Archive) (list key : List ℕ) (until : ℤ) (commands : List Command)
    → (step archive (embargo list key until)).1 ≡ done → NoCommandSatisfies (changes_embargo list key) commands
    → IsHiddenInReplies (DeniesEmbargoed until) (run (step archive (embargo list key until)).0 commands).archive list key
