-- Why a message that is withheld leaves no trace in the replies.
use Rattle.std.proofs.Common.{◌≡◌, ◌≢◌, ◌∙◌, ℕ, ℤ, List, map, Option, Some, None, refl, sym, ap}
use Rattle.std.specs.Prelude.{is_some, option_map}
use Rattle.httparse.specs.Grammar.{RequestHead}
use Rattle.policy_core.specs.Rules.{Rule}
use Rattle.policy_core.specs.declared.access.Withdrawn.{Withdrawn}
use Rattle.policy_core.specs.declared.access.Withdrawn.TheVariants.{No}
use Rattle.archive_model.specs.Records.{Archive}
use Rattle.archive_model.specs.Commands.{Command, withdraw, embargo, done}
use Rattle.archive_model.specs.Lasting.{NoCommandSatisfies, ends_withdrawal, changes_embargo}
use Rattle.archive_model.specs.Machine.{step}
use Rattle.archive_model.specs.Messages.{withdrawal_number}
use Rattle.archive_model.specs.Questions.{person_of_token}
use Rattle.archive_model.specs.Runs.{run}
use Rattle.archive_results.specs.Access.{Ask, ReaderFacts}
use Rattle.archive_results.specs.Promise.{without_message, without_all_messages, DeniesWithdrawnBy, DeniesEmbargoed, IsMessageHiddenIfDenied}
use Rattle.archive_results.specs.Shown.{shown_message}
use Rattle.archive_results.proofs.PromiseLemmas.{all_else_alike, leaves_no_trace, withheld_after, without_withdrawn}
use Rattle.archive_requests.specs.Requests.{asks, request_of}
use Rattle.archive_requests.specs.Routes.{Route, route_of}
use Rattle.archive_pages.specs.Answers.{reader_of, ask_of_reader, shown_view, reply_of}
use Rattle.archive_pages.specs.Laws.{AsksFor, IsWithheldFromAskers, WithheldLeavesNoTrace, IsAsIfItNeverCame, IsHiddenInReplies, StaysAsIfItNeverCame, StaysEmbargoed, HaveSameViews, list_of_route}
use Rattle.archive_pages.proofs.LawLemmas.{equal_views_give_equal_replies}

-- ---- what does not turn on messages

same_reader : (a b : Archive) → without_all_messages a ≡ without_all_messages b → (token : Option (List ℕ)) → reader_of a token ≡ reader_of b token
same_reader a b same None = refl
same_reader a b same (Some token) = ap (λ (x : Archive). option_map Some (person_of_token x token)) same

some_is : {X : Type 0} (x y : X) → Some x ≡ Some y → x ≡ y
some_is x y same = cc

-- ---- the replies

module _ (archive : Archive) (rules : List Rule) (day : ℤ) (head : RequestHead) (list key : List ℕ) (hidden : IsWithheldFromAskers archive rules day head list key) where
  abbrev never : Archive
  never = without_message archive list key

  module _ (token : Option (List ℕ)) (path : List ℕ) (request : request_of head ≡ asks token path) where
    -- what a reader is shown of the list that the path names
    seen : (route : Route) (asked : List ℕ) (x y : Option (List ℕ)) → route_of path ≡ Some route → list_of_route route ≡ Some asked
        → reader_of archive token ≡ Some x → reader_of never token ≡ Some y
        → shown_view archive (ask_of_reader rules day x asked) ≡ shown_view never (ask_of_reader rules day y asked)
    seen route asked x y where_to names first second =
        let both : x ≡ y = some_is x y (sym first ∙ same_reader archive never refl token ∙ second) in
        ap (map shown_message) (leaves_no_trace archive (ask_of_reader rules day x asked) list key
        (hidden x route asked (record { token = token; path = path; request_is = request; reader_is = first; route_is = where_to }) names))
        ∙ ap (λ (reader : Option (List ℕ)). shown_view never (ask_of_reader rules day reader asked)) both

    look : HaveSameViews rules day token path archive never
    look = record {
      same_list_names = refl;
      same_tokens_known = ap (λ o. is_some o) (same_reader archive never refl token);
      same_merging = λ route asked where_to names. refl;
      same_views = seen;
    }

pub no_trace : WithheldLeavesNoTrace
no_trace archive rules day head list key none hidden =
    equal_views_give_equal_replies rules day head archive (without_message archive list key)
    (λ token path request. (look archive rules day head list key hidden token path request, (λ route where_to. none token path route request where_to)))

-- ---- a message that was just withdrawn

-- who asks the archive after a withdrawal asked the one before
asked_before : (archive : Archive) (list key : List ℕ) (by : Withdrawn) (head : RequestHead) (reader : Option (List ℕ)) (route : Route)
    → AsksFor (step archive (withdraw list key (withdrawal_number by))).0 head reader route → AsksFor archive head reader route
asked_before archive list key by head reader route it = record {
  token = it.token;
  path = it.path;
  request_is = it.request_is;
  reader_is = same_reader archive (step archive (withdraw list key (withdrawal_number by))).0 (sym (all_else_alike archive list key (withdrawal_number by))) it.token ∙ it.reader_is;
  route_is = it.route_is;
}

pub promised : IsAsIfItNeverCame
promised archive rules day head list key by some is none others =
    no_trace (step archive (withdraw list key (withdrawal_number by))).0 rules day head list key none
    (λ reader route asked asks names.
    let it = others reader route asked (asked_before archive list key by head reader route asks) names in
    withheld_after archive (ask_of_reader rules day reader asked) list key by is it.0 it.1)
    ∙ ap (λ (a : Archive). reply_of a rules day head) (without_withdrawn archive list key (withdrawal_number by) is)

-- ---- later

hidden_in : (Denies : Ask → ReaderFacts → Type 0) (archive : Archive) (list key : List ℕ) → ((ask : Ask) → IsMessageHiddenIfDenied Denies archive ask list key)
    → IsHiddenInReplies Denies archive list key
hidden_in Denies archive list key hides rules day head none others =
    no_trace archive rules day head list key none
    (λ reader route asked asks names. let it = others reader route asked asks names in hides (ask_of_reader rules day reader asked) it.0 it.1)

-- what the law of views says of a message that was withdrawn, and of one that was held back
abbrev pub WithdrawnLater : Type 0
WithdrawnLater = (a : Archive) (ask : Ask) (list key : List ℕ) (by : Withdrawn) (commands : List Command) → by ≢ No
    → (step a (withdraw list key (withdrawal_number by))).1 ≡ done → NoCommandSatisfies (ends_withdrawal list key) commands
    → IsMessageHiddenIfDenied (DeniesWithdrawnBy by) (run (step a (withdraw list key (withdrawal_number by))).0 commands).archive ask list key

abbrev pub HeldBackLater : Type 0
HeldBackLater = (a : Archive) (ask : Ask) (list key : List ℕ) (until : ℤ) (commands : List Command)
    → (step a (embargo list key until)).1 ≡ done → NoCommandSatisfies (changes_embargo list key) commands
    → IsMessageHiddenIfDenied (DeniesEmbargoed until) (run (step a (embargo list key until)).0 commands).archive ask list key

pub stays_withdrawn : WithdrawnLater → StaysAsIfItNeverCame
stays_withdrawn later archive list key by commands some is none =
    hidden_in (DeniesWithdrawnBy by) (run (step archive (withdraw list key (withdrawal_number by))).0 commands).archive list key
    (λ ask. later archive ask list key by commands some is none)

pub stays_held_back : HeldBackLater → StaysEmbargoed
stays_held_back later archive list key until commands is none =
    hidden_in (DeniesEmbargoed until) (run (step archive (embargo list key until)).0 commands).archive list key
    (λ ask. later archive ask list key until commands is none)
