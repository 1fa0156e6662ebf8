-- What messages that are held make of an archive once they are added.
use Rattle.std.proofs.Common.{◌≡◌, ℕ, ◌+◌, ◌<◌, ◌≤◌, Bool, true, false, List, [], ◌∷◌, ◌++◌, length, take, map, filter, min, inl}
use Rattle.std.proofs.Common.{refl, ap, sym, subst, ◌∙◌, arith, append_assoc, append-nil, length-append}
use Rattle.std.specs.Prelude.{not, if◌then◌else◌, bytes_eq}
use Rattle.std.specs.List.{list_any}
use Rattle.std.proofs.lemmas.List.{take-append-le, map-append}
use Rattle.std.proofs.lemmas.List.Elements.{filter-append}
use Rattle.std.proofs.lemmas.List.Sums.{sum_by-append}
use Rattle.std.proofs.Math.Seq.{take-append-add, take-append_seam}
use Rattle.mbox_core.specs.Division.{Item}
use Rattle.archive_model.specs.Records.{Archive}
use Rattle.archive_model.specs.Commands.{add, CommandReply, refused, list_full, no_list, too_large, already_known, taken_in}
use Rattle.archive_model.specs.Questions.{has_list, messages_in}
use Rattle.archive_model.specs.Machine.{StepOutcome, step}
use Rattle.archive_model.specs.Runs.{run, taken, Tally, tally_replies, is_added_reply, is_known_reply, is_too_large_reply}
use Rattle.archive_model.proofs.RunLemmas.{archive_of_both, replies_of_both}
use Rattle.archive_port.specs.Adding.{HasAddedFirstItems, IsListFullAt, total_text_bytes}
use Rattle.archive_port.proofs.RightLemmas.{run_nothing}
use Rattle.archive_desk.specs.Importing.{import_tally_of}
use Rattle.archive_import.specs.declared.intake.TheConstants.{MESSAGES_HELD, BYTES_HELD}
use Rattle.archive_import.specs.Intake.{IntakeState, IsUnderWay, FitsIntakeLimits, ReportGrowsBy, tally_sum}

-- ---- some messages and then others

pub archive_both : (a : Archive) (list : List ℕ) (xs ys : List Item) → (taken a list (xs ++ ys)).archive ≡ (taken (taken a list xs).archive list ys).archive
archive_both a list xs ys = ap (λ cs. (run a cs).archive) (map-append (add list) xs ys) ∙ archive_of_both a (map (add list) xs) (map (add list) ys)

pub replies_both : (a : Archive) (list : List ℕ) (xs ys : List Item)
    → (taken a list (xs ++ ys)).replies ≡ (taken a list xs).replies ++ (taken (taken a list xs).archive list ys).replies
replies_both a list xs ys = ap (λ cs. (run a cs).replies) (map-append (add list) xs ys) ∙ replies_of_both a (map (add list) xs) (map (add list) ys)

filtered_both : (p : CommandReply → Bool) (xs ys : List CommandReply) → length (filter p (xs ++ ys)) ≡ length (filter p xs) + length (filter p ys)
filtered_both p xs ys = ap length (filter-append p xs ys) ∙ length-append (filter p xs) (filter p ys)

abbrev tally_is : ℕ → ℕ → ℕ → Tally
tally_is n k l = record { new = n; known = k; too_large = l }

same_tally : (n k l n' k' l' : ℕ) → n ≡ n' → k ≡ k' → l ≡ l' → tally_is n k l ≡ tally_is n' k' l'
same_tally n k l n' k' l' e f g = λ i. tally_is (e i) (f i) (g i)

pub tally_both : (xs ys : List CommandReply) → tally_replies (xs ++ ys) ≡ tally_sum (tally_replies xs) (tally_replies ys)
tally_both xs ys = same_tally _ _ _ _ _ _ (filtered_both is_added_reply xs ys) (filtered_both is_known_reply xs ys) (filtered_both is_too_large_reply xs ys)

-- ---- adding messages leaves the lists

abbrev outcome_by : Archive → Archive → Bool → Bool → Bool → Bool → StepOutcome
outcome_by a x there large known full =
    if not there then (a, refused no_list) else if large then (a, refused too_large) else if known then (a, already_known) else if full then (a, refused list_full) else (x, taken_in)

lists_by : (a x : Archive) (there large known full : Bool) → x.lists ≡ a.lists → (outcome_by a x there large known full).0.lists ≡ a.lists
lists_by a x false large known full same = refl
lists_by a x true true known full same = refl
lists_by a x true false true full same = refl
lists_by a x true false false true same = refl
lists_by a x true false false false same = same

lists_stay : (a : Archive) (list : List ℕ) (item : Item) → (step a (add list item)).0.lists ≡ a.lists
lists_stay a list item = lists_by a _ _ _ _ _ refl

lists_taken : (a : Archive) (list : List ℕ) (items : List Item) → (taken a list items).archive.lists ≡ a.lists
unfolding run
lists_taken a list [] = refl
lists_taken a list (item ∷ items) = lists_taken (step a (add list item)).0 list items ∙ lists_stay a list item

pub still_there : (a : Archive) (list : List ℕ) (items : List Item) → has_list a list ≡ true → has_list (taken a list items).archive list ≡ true
still_there a list items there = ap (λ ls. list_any (λ known. bytes_eq known list) ls) (lists_taken a list items) ∙ there

-- ---- the first of some messages

pub first_longer : (list : List ℕ) (items rest : List Item) (done : ℕ) (a b : Archive) → HasAddedFirstItems list items done a b → HasAddedFirstItems list (items ++ rest) done a b
first_longer list items rest done a b it = (
  omega (arith, it.0, length-append items rest),
  it.1 ∙ ap (λ is. (taken a list is).archive) (sym (take-append-le done items rest it.0)),
)

pub full_longer : (list : List ℕ) (items rest : List Item) (done : ℕ) (a : Archive) → IsListFullAt a list items done → IsListFullAt a list (items ++ rest) done
full_longer list items rest done a it =
    let low : done ≤ length items = omega (arith, it.at_in_range) in
    let next : done + 1 ≤ length items = omega (arith, it.at_in_range) in
    let now = sym (take-append-le done items rest low) in
    record {
      at_in_range = omega (arith, it.at_in_range, length-append items rest);
      list_is_full = subst (λ is. 50000 ≤ length (messages_in (taken a list is).archive list)) now it.list_is_full;
      item_is_refused = ap (λ is. (taken a list is).replies) (take-append-le (done + 1) items rest next) ∙ it.item_is_refused
          ∙ ap (λ is. (taken a list is).replies ++ refused list_full ∷ []) now;
    }

-- ---- what is held

module _ (list : List ℕ) (a b : Archive) (items : List Item) (i : IntakeState) (w : IsUnderWay list a b items i) where
  -- how many messages there are
  pub all_counted : length items ≡ i.done + length i.held
  all_counted = omega (arith, ap length w.items_are, length-append w.items_before i.held, w.done_is_count)

  -- before what is held
  pub first_done : HasAddedFirstItems list items i.done a b
  first_done = (
    omega (arith, all_counted),
    w.archive_is ∙ ap (λ is. (taken a list is).archive)
        (sym (take-append_seam w.items_before i.held) ∙ ap (λ n. take n (w.items_before ++ i.held)) (sym w.done_is_count) ∙ ap (take i.done) (sym w.items_are)),
  )

  -- the messages up to a place of what is held
  first_are : (k : ℕ) → take (i.done + k) items ≡ w.items_before ++ take k i.held
  first_are k = ap (λ n. take (n + k) items) w.done_is_count ∙ ap (take (length w.items_before + k)) w.items_are ∙ take-append-add w.items_before i.held k

  first_archive : (k : ℕ) → (taken a list (take (i.done + k) items)).archive ≡ (taken b list (take k i.held)).archive
  first_archive k = ap (λ is. (taken a list is).archive) (first_are k) ∙ archive_both a list w.items_before (take k i.held)
      ∙ ap (λ x. (taken x list (take k i.held)).archive) (sym w.archive_is)

  first_replies : (k : ℕ) → (taken a list (take (i.done + k) items)).replies ≡ (taken a list w.items_before).replies ++ (taken b list (take k i.held)).replies
  first_replies k = ap (λ is. (taken a list is).replies) (first_are k) ∙ replies_both a list w.items_before (take k i.held)
      ∙ ap (λ x. (taken a list w.items_before).replies ++ (taken x list (take k i.held)).replies) (sym w.archive_is)

  pub some_added : (c : Archive) (k : ℕ) → k ≤ length i.held → c ≡ (taken b list (take k i.held)).archive → HasAddedFirstItems list items (i.done + k) a c
  some_added c k low is = (omega (arith, low, all_counted), is ∙ sym (first_archive k))

  pub full_amid : (k : ℕ) → IsListFullAt b list i.held k → IsListFullAt a list items (i.done + k)
  full_amid k it =
      let before = (taken a list w.items_before).replies in
      record {
        at_in_range = omega (arith, it.at_in_range, all_counted);
        list_is_full = subst (λ x. 50000 ≤ length (messages_in x list)) (sym (first_archive k)) it.list_is_full;
        item_is_refused = ap (λ n. (taken a list (take n items)).replies) (omega arith) ∙ first_replies (k + 1) ∙ ap (λ rs. before ++ rs) it.item_is_refused
            ∙ sym (append_assoc before (taken b list (take k i.held)).replies (refused list_full ∷ []))
            ∙ ap (λ rs. rs ++ refused list_full ∷ []) (sym (first_replies k));
      }

  pub still_listed : has_list b list ≡ true
  still_listed = ap (λ x. has_list x list) w.archive_is ∙ still_there a list w.items_before w.list_exists

  -- all that is held is added
  pub all_added : (c : Archive) (j : IntakeState) (counts : Tally) → c ≡ (taken b list i.held).archive → counts ≡ tally_replies (taken b list i.held).replies
      → j.held ≡ [] → j.done ≡ i.done + length i.held → ReportGrowsBy i.report counts j.report → IsUnderWay list a c items j
  all_added c j counts is are none done more = record {
    list_exists = w.list_exists;
    items_before = items;
    items_are = sym (ap (λ is. items ++ is) none ∙ append-nil items);
    done_is_count = done ∙ sym all_counted;
    archive_is = is ∙ ap (λ x. (taken x list i.held).archive) w.archive_is ∙ sym (archive_both a list w.items_before i.held) ∙ ap (λ is. (taken a list is).archive) (sym w.items_are);
    tally_is = more ∙ ap (λ t. tally_sum t counts) w.tally_is ∙ ap (tally_sum (tally_replies (taken a list w.items_before).replies)) are
        ∙ sym (tally_both (taken a list w.items_before).replies (taken b list i.held).replies)
        ∙ ap (λ x. tally_replies ((taken a list w.items_before).replies ++ (taken x list i.held).replies)) w.archive_is
        ∙ ap tally_replies (sym (replies_both a list w.items_before i.held)) ∙ ap (λ is. tally_replies (taken a list is).replies) (sym w.items_are);
  }

  -- one message more is held
  pub one_held : (j : IntakeState) (item : Item) → j ≡ record i { held = i.held ++ item ∷ [] } → IsUnderWay list a b (items ++ item ∷ []) j
  one_held j item is = subst (λ x. IsUnderWay list a b (items ++ item ∷ []) x) (sym is) (record {
    list_exists = w.list_exists;
    items_before = w.items_before;
    items_are = ap (λ is. is ++ item ∷ []) w.items_are ∙ append_assoc w.items_before i.held (item ∷ []);
    done_is_count = w.done_is_count;
    archive_is = w.archive_is;
    tally_is = w.tally_is;
  })

  -- nothing is held: all is added
  pub none_held : i.held ≡ [] → (i.done ≡ length items) × (b ≡ (taken a list items).archive) × (import_tally_of i.report ≡ tally_replies (taken a list items).replies)
  none_held none =
      let same : items ≡ w.items_before = w.items_are ∙ ap (λ is. w.items_before ++ is) none ∙ append-nil w.items_before in (
        w.done_is_count ∙ ap length (sym same),
        w.archive_is ∙ ap (λ is. (taken a list is).archive) (sym same),
        w.tally_is ∙ ap (λ is. tally_replies (taken a list is).replies) (sym same),
      )

  -- there was no message
  pub none_there : items ≡ [] → (i.done ≡ 0) × (b ≡ a)
  none_there none =
      let done : i.done ≡ 0 = omega (arith, ap length none, all_counted) in
      let first = first_done in (
        done,
        first.1 ∙ ap (λ is. (taken a list (take i.done is)).archive) none ∙ ap (λ n. (taken a list (take n [])).archive) done ∙ sym (run_nothing a),
      )

-- nothing was done, and nothing is held
no_replies : (a : Archive) → tally_replies (run a []).replies ≡ tally_replies []
unfolding run
no_replies a = refl

pub under_way_first : (list : List ℕ) (a b : Archive) (i : IntakeState) → has_list a list ≡ true → b ≡ a
    → i ≡ record { held = []; done = 0; report = record { new = 0; known = 0; too_large = 0 } } → IsUnderWay list a b [] i
under_way_first list a b i there same is = subst (λ x. IsUnderWay list a b [] x) (sym is) (record {
  list_exists = there;
  items_before = [];
  items_are = refl;
  done_is_count = refl;
  archive_is = same ∙ run_nothing a;
  tally_is = sym (no_replies a);
})

-- ---- what may be held

pub small_more : (held : List Item) (item : Item) (bytes all : ℕ) → bytes ≡ total_text_bytes held → length held < MESSAGES_HELD
    → all ≡ min (bytes + length item.text) 18446744073709551615 → all ≤ BYTES_HELD
    → FitsIntakeLimits (held ++ item ∷ [])
small_more held item bytes all is few sum small = (
  omega (arith, few, length-append held (item ∷ [])),
  inl (omega (arith, is, sum, small, sum_by-append (λ (x : Item). length x.text) held (item ∷ []))),
)
