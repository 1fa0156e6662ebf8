-- What the answers of the desk say of a reply.
use Rattle.std.proofs.Common.{◌≡◌, ◌∙◌, ◌<◌, ℕ, List, [], ◌∷◌, Bool, true, false, not, cond, Option, Some, None, refl, ap, codes, arith, append-nil}
use Rattle.std.specs.Prelude.{option_map, if◌then◌else◌}
use Rattle.std.specs.Option.{option_map_or}
use Rattle.std.specs.Fmt.{digits}
use Rattle.archive_model.specs.Records.{Archive}
use Rattle.archive_model.specs.Questions.{has_list, has_person}
use Rattle.archive_results.specs.Access.{Ask, no_list, no_person}
use Rattle.archive_desk.specs.Exporting.{HasWrittenBytes}
use Rattle.archive_desk.specs.Faults.{RefusalReason, refused, ask_reason}
use Rattle.archive_pages.specs.Replies.{Reply, head_bytes, mbox_reply, not_found}
use Rattle.archive_pages.specs.Answers.{reply_if_list_exists}

-- ---- G1

abbrev refusal_by : (listed unknown : Bool) → Option RefusalReason
refusal_by listed unknown = option_map refused (if not listed then Some no_list else if unknown then Some no_person else None)

listed_by : (listed unknown : Bool) → refusal_by listed unknown ≡ None → listed ≡ true
listed_by true unknown is = refl
listed_by false unknown is = absurd (cc)

pub on_listed : (a : Archive) (ask : Ask) (made : Reply) → ask_reason a ask ≡ None → reply_if_list_exists a ask.list made ≡ made
on_listed a ask made is = ap (λ b. cond b made not_found)
    (listed_by (has_list a ask.list) (option_map_or (λ person. not (has_person a person)) ask.reader false) is)

unlisted_by : (listed unknown : Bool) → refusal_by listed unknown ≡ Some (refused no_list) → listed ≡ false
unlisted_by false unknown is = refl
unlisted_by true true is = absurd (cc)
unlisted_by true false is = absurd (cc)

pub on_unlisted : (a : Archive) (ask : Ask) (made : Reply) → ask_reason a ask ≡ Some (refused no_list) → reply_if_list_exists a ask.list made ≡ not_found
on_unlisted a ask made is = ap (λ b. cond b made not_found)
    (unlisted_by (has_list a ask.list) (option_map_or (λ person. not (has_person a person)) ask.reader false) is)

-- ---- an mbox

abbrev pub mbox_head : List ℕ
mbox_head = codes "HTTP/1.1 200 OK\r\nContent-Type: application/mbox\r\nConnection: close\r\n\r\n"

pub mbox_head_is : (text : List ℕ) → mbox_head ≡ head_bytes (mbox_reply text)
unfolding digits head_bytes
mbox_head_is text = refl

-- nothing went out where nothing was counted
pub none_out : (before after : List ℕ) (count : ℕ) → HasWrittenBytes before after count → ¬ (0 < count) → after ≡ before
none_out before after count ([], out, counted) none = out ∙ append-nil before
none_out before after count (x ∷ xs, out, counted) none = absurd (none (omega (arith, counted)))
