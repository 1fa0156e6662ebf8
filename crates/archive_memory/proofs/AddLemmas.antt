-- Messages added to one list, one after the other.
use Rattle.std.proofs.Common.{◌≡◌, ◌+◌, ◌<◌, ◌≤◌, ℕ, Bool, true, false, List, [], ◌∷◌, ◌++◌, length, get_or, take, map, filter, refl, ap, sym, subst, ◌∙◌, arith, inl, inr, Option, Some, None}
use Rattle.std.specs.Prelude.{⊤, MatchOption, nat_le}
use Rattle.std.proofs.lemmas.Bool.{cases_Bool}
use Rattle.std.proofs.lemmas.Bool.Decides.{nat_tests}
use Rattle.std.proofs.lemmas.List.{map_more}
use Rattle.mbox_items.specs.Division.{Item}
use Rattle.archive_model.specs.Commands.{Command, Refusal, add, already_known, list_full, refused, taken_in, too_large}
use Rattle.archive_model.specs.Keys.{item_key}
use Rattle.archive_model.specs.Machine.{is_too_large, message_limit, step, with_message}
use Rattle.archive_model.specs.Questions.{has_list, has_message, messages_in}
use Rattle.archive_model.specs.Records.{Archive}
use Rattle.archive_model.specs.Runs.{Tally, is_added_reply, is_known_reply, is_too_large_reply, run, taken, tally_replies}
use Rattle.archive_port.specs.Adding.{IsRefusedAt, tally_of_report}
use Rattle.archive_port.specs.declared.reports.AddReport.{AddReport}
use Rattle.archive_memory.specs.Adding.{IsRefusedFull, ReportsOne}

-- ---- one message

module _ (a : Archive) (list : List ℕ) (item : Item) (there : has_list a list ≡ true) where
  pub large_step : true ≡ is_too_large item → step a (add list item) ≡ (a, refused too_large)
  large_step large = rw (there, sym large) refl

  module _ (small : false ≡ is_too_large item) where
    pub known_step : true ≡ has_message a list (item_key item) → step a (add list item) ≡ (a, already_known)
    known_step known = rw (there, sym small, sym known) refl

    module _ (new : false ≡ has_message a list (item_key item)) where
      pub full_step : true ≡ nat_le message_limit (length (messages_in a list)) → step a (add list item) ≡ (a, refused list_full)
      full_step full = rw (there, sym small, sym new, sym full) refl

      pub new_step : false ≡ nat_le message_limit (length (messages_in a list)) → step a (add list item) ≡ (with_message a list item, taken_in)
      new_step room = rw (there, sym small, sym new, sym room) refl

pub is_limit : (n : ℕ) → true ≡ nat_le message_limit n → 50000 ≤ n
is_limit n h = let so = sym h in grind (arith, nat_tests, so)

-- ---- the report

counted_more : {X : Type 0} (p : X → Bool) (xs : List X) (x : X) → p x ≡ true → length (filter p (xs ++ x ∷ [])) ≡ length (filter p xs) + 1
counted_more p [] x h = rw h refl
counted_more p (y ∷ ys) x h = elim (cases_Bool (p y)) [
  | inl kept ↦ rw kept (omega (arith, counted_more p ys x h))
  | inr dropped ↦ rw dropped (counted_more p ys x h)
]

counted_same : {X : Type 0} (p : X → Bool) (xs : List X) (x : X) → p x ≡ false → length (filter p (xs ++ x ∷ [])) ≡ length (filter p xs)
counted_same p [] x h = rw h refl
counted_same p (y ∷ ys) x h = elim (cases_Bool (p y)) [
  | inl kept ↦ rw kept (omega (arith, counted_same p ys x h))
  | inr dropped ↦ rw dropped (counted_same p ys x h)
]

abbrev tally_is : ℕ → ℕ → ℕ → Tally
tally_is n k l = record { new = n; known = k; too_large = l }

same_tally : (n k l n' k' l' : ℕ) → n ≡ n' → k ≡ k' → l ≡ l' → tally_is n k l ≡ tally_is n' k' l'
same_tally n k l n' k' l' e f g = λ i. tally_is (e i) (f i) (g i)

pub reports_new : (r : AddReport) → ReportsOne r taken_in (record r { new = r.new + 1 })
reports_new r = record {
  one_more = omega arith;
  counts_reply = λ replies t. same_tally _ _ _ _ _ _
      (ap (λ (x : Tally). x.new + 1) t ∙ sym (counted_more is_added_reply replies taken_in refl))
      (ap (λ (x : Tally). x.known) t ∙ sym (counted_same is_known_reply replies taken_in refl))
      (ap (λ (x : Tally). x.too_large) t ∙ sym (counted_same is_too_large_reply replies taken_in refl));
}

pub reports_known : (r : AddReport) → ReportsOne r already_known (record r { known = r.known + 1 })
reports_known r = record {
  one_more = omega arith;
  counts_reply = λ replies t. same_tally _ _ _ _ _ _
      (ap (λ (x : Tally). x.new) t ∙ sym (counted_same is_added_reply replies already_known refl))
      (ap (λ (x : Tally). x.known + 1) t ∙ sym (counted_more is_known_reply replies already_known refl))
      (ap (λ (x : Tally). x.too_large) t ∙ sym (counted_same is_too_large_reply replies already_known refl));
}

pub reports_too_large : (r : AddReport) → ReportsOne r (refused too_large) (record r { too_large = r.too_large + 1 })
reports_too_large r = record {
  one_more = omega arith;
  counts_reply = λ replies t. same_tally _ _ _ _ _ _
      (ap (λ (x : Tally). x.new) t ∙ sym (counted_same is_added_reply replies (refused too_large) refl))
      (ap (λ (x : Tally). x.known) t ∙ sym (counted_same is_known_reply replies (refused too_large) refl))
      (ap (λ (x : Tally). x.too_large + 1) t ∙ sym (counted_more is_too_large_reply replies (refused too_large) refl));
}

-- ---- one message more

run_archive : (a : Archive) (cs : List Command) (c : Command) → (run a (cs ++ c ∷ [])).archive ≡ (step (run a cs).archive c).0
unfolding run
run_archive a [] c = refl
run_archive a (d ∷ cs) c = run_archive (step a d).0 cs c

run_replies : (a : Archive) (cs : List Command) (c : Command) → (run a (cs ++ c ∷ [])).replies ≡ (run a cs).replies ++ (step (run a cs).archive c).1 ∷ []
unfolding run
run_replies a [] c = refl
run_replies a (d ∷ cs) c = ap (λ rs. (step a d).1 ∷ rs) (run_replies (step a d).0 cs c)

-- no message changes nothing
pub none_taken : (a : Archive) (list : List ℕ) → a ≡ (taken a list []).archive
unfolding run
none_taken a list = refl

pub none_told : (a : Archive) (list : List ℕ) → tally_is 0 0 0 ≡ tally_replies (taken a list []).replies
unfolding run
none_told a list = refl

module _ (a : Archive) (list : List ℕ) (items : List Item) (i : ℕ) (item : Item) (within : i < length items) (is : item ≡ get_or items i item) where
  one_more_is : map (add list) (take (i + 1) items) ≡ map (add list) (take i items) ++ add list item ∷ []
  one_more_is = map_more (add list) items i item within ∙ ap (λ x. map (add list) (take i items) ++ add list x ∷ []) (sym is)

  pub taken_more : (b c : Archive) → b ≡ (taken a list (take i items)).archive → c ≡ (step b (add list item)).0 → c ≡ (taken a list (take (i + 1) items)).archive
  taken_more b c before after =
      after ∙ ap (λ x. (step x (add list item)).0) before ∙ sym (ap (λ cs. (run a cs).archive) one_more_is ∙ run_archive a (map (add list) (take i items)) (add list item))

  replies_more : (taken a list (take (i + 1) items)).replies ≡ (taken a list (take i items)).replies ++ (step (taken a list (take i items)).archive (add list item)).1 ∷ []
  replies_more = ap (λ cs. (run a cs).replies) one_more_is ∙ run_replies a (map (add list) (take i items)) (add list item)

  pub told_more : (b : Archive) (told report : AddReport) → b ≡ (taken a list (take i items)).archive → ReportsOne told (step b (add list item)).1 report
      → tally_of_report told ≡ tally_replies (taken a list (take i items)).replies → tally_of_report report ≡ tally_replies (taken a list (take (i + 1) items)).replies
  told_more b told report before reports so_far =
      reports.counts_reply (taken a list (take i items)).replies so_far
      ∙ ap (λ x. tally_replies ((taken a list (take i items)).replies ++ (step x (add list item)).1 ∷ [])) before ∙ ap tally_replies (sym replies_more)

  -- why no more are added
  pub stops_at : (b : Archive) (o : Option Refusal) → b ≡ (taken a list (take i items)).archive → MatchOption o ⊤ (λ why. IsRefusedFull b list item why)
      → MatchOption o ⊤ (λ why. IsRefusedAt a list items i why)
  stops_at b None before stop = tt
  stops_at b (Some why) before stop =
      let full = subst (λ x. IsRefusedFull x list item why) before stop in
      subst (λ w. IsRefusedAt a list items i w) (sym full.why_is) (record {
        at_in_range = within;
        list_is_full = full.list_is_full;
        item_is_refused = replies_more ∙ ap (λ r. (taken a list (take i items)).replies ++ r ∷ []) full.reply_is;
      })
