-- Worked examples of the definitions, for RFC 5256, section 2.1.
use Rattle.std.proofs.Common.{◌≡◌, ◌∷◌, ◌++◌, [], List, ℕ, Bool, refl, true, false}
use Rattle.std.specs.Prelude.{codes}
use Rattle.subject_core.specs.Spaces.{with_single_spaces}
use Rattle.subject_core.specs.Removal.{after_literal, after_spaces, after_closing_bracket, after_refwd, after_leader, without_trailer, without_leader, without_blob, without_fwd_brackets}
use Rattle.subject_core.specs.BaseSubject.{after_one_removal, after_bounded_removals, base_subject_of, is_reply}

-- the base of the subject and its mark of a reply
abbrev Gives : List ℕ → List ℕ → Bool → Type 0
Gives subject base reply = (base_subject_of subject ≡ base) × (is_reply subject ≡ reply)

runs_of_white_space : with_single_spaces (codes "a  b" ++ 9 ∷ codes "c" ++ 9 ∷ 32 ∷ 9 ∷ []) ≡ codes "a b c "
unfolding with_single_spaces
runs_of_white_space = refl

a_reply_with_a_blob_and_a_trailer : Gives (codes "Re: [soc] Hello (fwd)") (codes "hello") true
unfolding with_single_spaces after_literal after_spaces after_closing_bracket after_refwd after_leader without_trailer without_leader without_blob without_fwd_brackets after_one_removal
    after_bounded_removals
a_reply_with_a_blob_and_a_trailer = (refl, refl)

a_blob_alone_stays : Gives (codes "[soc]") (codes "[soc]") false
unfolding with_single_spaces after_literal after_spaces after_closing_bracket after_refwd after_leader without_trailer without_leader without_blob without_fwd_brackets after_one_removal
    after_bounded_removals
a_blob_alone_stays = (refl, refl)

pairs_inside_one_another : Gives (codes "[Fwd: [fwd: x]]") (codes "x") true
unfolding with_single_spaces after_literal after_spaces after_closing_bracket after_refwd after_leader without_trailer without_leader without_blob without_fwd_brackets after_one_removal
    after_bounded_removals
pairs_inside_one_another = (refl, refl)

a_reply_to_nothing : Gives (codes "Re:") [] true
unfolding with_single_spaces after_literal after_spaces after_closing_bracket after_refwd after_leader without_trailer without_leader without_blob without_fwd_brackets after_one_removal
    after_bounded_removals
a_reply_to_nothing = (refl, refl)

a_counted_reply : Gives (codes "Re [2]: a  b") (codes "a b") true
unfolding with_single_spaces after_literal after_spaces after_closing_bracket after_refwd after_leader without_trailer without_leader without_blob without_fwd_brackets after_one_removal
    after_bounded_removals
a_counted_reply = (refl, refl)

an_opening_of_a_pair_in_a_blob : Gives (codes "[fwd: x] y") (codes "y") false
unfolding with_single_spaces after_literal after_spaces after_closing_bracket after_refwd after_leader without_trailer without_leader without_blob without_fwd_brackets after_one_removal
    after_bounded_removals
an_opening_of_a_pair_in_a_blob = (refl, refl)

two_replies_and_two_blobs : Gives (codes "Re: Re: [a] [b] x") (codes "x") true
unfolding with_single_spaces after_literal after_spaces after_closing_bracket after_refwd after_leader without_trailer without_leader without_blob without_fwd_brackets after_one_removal
    after_bounded_removals
two_replies_and_two_blobs = (refl, refl)

a_blob_before_a_reply : Gives (codes "[a] re: [b]") (codes "[b]") true
unfolding with_single_spaces after_literal after_spaces after_closing_bracket after_refwd after_leader without_trailer without_leader without_blob without_fwd_brackets after_one_removal
    after_bounded_removals
a_blob_before_a_reply = (refl, refl)

a_trailer_alone : Gives (codes "(fwd)") [] true
unfolding with_single_spaces after_literal after_spaces after_closing_bracket after_refwd after_leader without_trailer without_leader without_blob without_fwd_brackets after_one_removal
    after_bounded_removals
a_trailer_alone = (refl, refl)

a_blob_inside_a_refwd : Gives (codes "FWD[x] : Hi") (codes "hi") true
unfolding with_single_spaces after_literal after_spaces after_closing_bracket after_refwd after_leader without_trailer without_leader without_blob without_fwd_brackets after_one_removal
    after_bounded_removals
a_blob_inside_a_refwd = (refl, refl)

text_between_a_blob_and_its_colon : Gives (codes "Re[x]y: z") (codes "re[x]y: z") false
unfolding with_single_spaces after_literal after_spaces after_closing_bracket after_refwd after_leader without_trailer without_leader without_blob without_fwd_brackets after_one_removal
    after_bounded_removals
text_between_a_blob_and_its_colon = (refl, refl)

an_empty_subject : Gives [] [] false
unfolding with_single_spaces after_literal after_spaces after_closing_bracket after_refwd after_leader without_trailer without_leader without_blob without_fwd_brackets after_one_removal
    after_bounded_removals
an_empty_subject = (refl, refl)

white_space_alone : Gives (codes "  ") [] false
unfolding with_single_spaces after_literal after_spaces after_closing_bracket after_refwd after_leader without_trailer without_leader without_blob without_fwd_brackets after_one_removal
    after_bounded_removals
white_space_alone = (refl, refl)

tabs_are_white_space : Gives (codes "Re:" ++ 9 ∷ codes "x" ++ 9 ∷ 32 ∷ codes "y" ++ 9 ∷ codes "(Fwd)" ++ 9 ∷ []) (codes "x y") true
unfolding with_single_spaces after_literal after_spaces after_closing_bracket after_refwd after_leader without_trailer without_leader without_blob without_fwd_brackets after_one_removal
    after_bounded_removals
tabs_are_white_space = (refl, refl)

a_trailer_inside_a_pair : Gives (codes "[fwd: x (fwd)]") (codes "x") true
unfolding with_single_spaces after_literal after_spaces after_closing_bracket after_refwd after_leader without_trailer without_leader without_blob without_fwd_brackets after_one_removal
    after_bounded_removals
a_trailer_inside_a_pair = (refl, refl)

a_trailer_behind_a_pair : Gives (codes "[fwd: x] (fwd)") (codes "x") true
unfolding with_single_spaces after_literal after_spaces after_closing_bracket after_refwd after_leader without_trailer without_leader without_blob without_fwd_brackets after_one_removal
    after_bounded_removals
a_trailer_behind_a_pair = (refl, refl)

a_blob_before_a_trailer_stays : Gives (codes "[a] (fwd)") (codes "[a]") true
unfolding with_single_spaces after_literal after_spaces after_closing_bracket after_refwd after_leader without_trailer without_leader without_blob without_fwd_brackets after_one_removal
    after_bounded_removals
a_blob_before_a_trailer_stays = (refl, refl)

an_empty_pair : Gives (codes "[fwd:]") [] true
unfolding with_single_spaces after_literal after_spaces after_closing_bracket after_refwd after_leader without_trailer without_leader without_blob without_fwd_brackets after_one_removal
    after_bounded_removals
an_empty_pair = (refl, refl)

an_empty_blob : Gives (codes "[] fw: x") (codes "x") true
unfolding with_single_spaces after_literal after_spaces after_closing_bracket after_refwd after_leader without_trailer without_leader without_blob without_fwd_brackets after_one_removal
    after_bounded_removals
an_empty_blob = (refl, refl)

a_bracket_inside_a_blob : Gives (codes "[a[b] x") (codes "[a[b] x") false
unfolding with_single_spaces after_literal after_spaces after_closing_bracket after_refwd after_leader without_trailer without_leader without_blob without_fwd_brackets after_one_removal
    after_bounded_removals
a_bracket_inside_a_blob = (refl, refl)

a_bracket_that_is_open : Gives (codes "Re [2: x") (codes "re [2: x") false
unfolding with_single_spaces after_literal after_spaces after_closing_bracket after_refwd after_leader without_trailer without_leader without_blob without_fwd_brackets after_one_removal
    after_bounded_removals
a_bracket_that_is_open = (refl, refl)

a_word_that_begins_like_a_reply : Gives (codes "Regarding: fw") (codes "regarding: fw") false
unfolding with_single_spaces after_literal after_spaces after_closing_bracket after_refwd after_leader without_trailer without_leader without_blob without_fwd_brackets after_one_removal
    after_bounded_removals
a_word_that_begins_like_a_reply = (refl, refl)
