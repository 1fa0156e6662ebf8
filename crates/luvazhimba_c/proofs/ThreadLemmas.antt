-- What messages say about threads, by their places and by the mbox.
use Rattle.std.proofs.Common.{◌≡◌, ℕ, ◌+◌, ◌-◌, List, [], ◌∷◌, ◌++◌, Bool, length, map, take, drop, refl, arith, ap, ◌∙◌, sym, ℤ, flat_map}
use Rattle.std.proofs.Math.Seq.{drop-append_seam, take-append_seam}
use Rattle.std.proofs.lemmas.List.{drop-drop}
use Rattle.std.specs.List.{concat}
use Rattle.mail_core.specs.Places.{between}
use Rattle.mbox_core.specs.Division.{Item, DividesIntoItems}
use Rattle.mbox_core.proofs.DivisionLaws.{each_text_has_at_most_one_division}
use Rattle.thread_core.specs.Threads.{threads_of}
use Rattle.luvazhimba_c.specs.Entries.{entry_of_message, entry_at, AreThreadsOfMbox}
use Rattle.luvazhimba_c.specs.Places.{IsMessageAtOffset, AreMessagesFromOffset, ArePlacesOfMessages}
use Rattle.luvazhimba_c.specs.declared.messages.LuvMessage.{LuvMessage}

-- where a message stands is its text
text_there : (bytes : List ℕ) (at : ℕ) (item : Item) (place : LuvMessage) (next : ℕ) → IsMessageAtOffset bytes at item place next
    → between bytes place.start place.end ≡ item.text
text_there bytes at item place next s =
    let tail = s.blank_line ++ drop next bytes in
    let begins : drop place.start bytes ≡ item.text ++ tail =
    ap (λ n. drop n bytes) s.start_is_after_heading ∙ sym (drop-drop (length s.heading) at bytes) ∙ ap (drop (length s.heading)) s.bytes_are ∙ drop-append_seam s.heading (item.text ++ tail) in
    let to : place.end ≡ place.start + length item.text = s.end_is_after_text in
    let long : place.end - place.start ≡ length item.text = omega (arith, to) in
    ap (λ n. take n (drop place.start bytes)) long ∙ ap (take (length item.text)) begins ∙ take-append_seam item.text tail

-- what is said of each message by its text and its arrival is said of it where it stands
each_there : {X : Type 0} (f : List ℕ → ℤ → X) (bytes : List ℕ) (at : ℕ) (items : List Item) (places : List LuvMessage) → AreMessagesFromOffset bytes at items places
    → map (λ (p : LuvMessage). f (between bytes p.start p.end) p.arrival) places ≡ map (λ (i : Item). f i.text i.envelope.arrival) items
each_there f bytes at [] [] s = refl
each_there f bytes at [] (p ∷ ps) s = absurd s
each_there f bytes at (i ∷ is) [] s = absurd s
each_there f bytes at (i ∷ is) (p ∷ ps) (next, here, later) =
    let first : f (between bytes p.start p.end) p.arrival ≡ f i.text i.envelope.arrival = ap (λ text. f text p.arrival) (text_there bytes at i p next here) ∙ ap (f i.text) here.arrival_is in
    let others = each_there f bytes next is ps later in cc

-- the same of the messages of an mbox, which has one division
pub said_there : {X : Type 0} (f : List ℕ → ℤ → X) (mbox : List ℕ) (items : List Item) (places : List LuvMessage) → DividesIntoItems mbox items → ArePlacesOfMessages mbox places
    → map (λ (p : LuvMessage). f (between mbox p.start p.end) p.arrival) places ≡ map (λ (i : Item). f i.text i.envelope.arrival) items
said_there f mbox items places d m =
    each_there f mbox m.first_offset m.items places m.places_are_of_messages ∙ ap (map (λ (i : Item). f i.text i.envelope.arrival))
    (each_text_has_at_most_one_division mbox m.items items m.divides_into_items d)

-- and of lists, one behind the other
pub texts_there : (g : List ℕ → List ℕ) (mbox : List ℕ) (items : List Item) (places : List LuvMessage) → DividesIntoItems mbox items → ArePlacesOfMessages mbox places
    → flat_map (λ (p : LuvMessage). g (between mbox p.start p.end)) places ≡ flat_map (λ (i : Item). g i.text) items
texts_there g mbox items places d m =
    joined places (λ (p : LuvMessage). g (between mbox p.start p.end)) ∙ ap concat (said_there (λ text arrival. g text) mbox items places d m) ∙ sym (joined items (λ (i : Item). g i.text))
  where
    joined : {X : Type 0} (xs : List X) (h : X → List ℕ) → flat_map h xs ≡ concat (map h xs)
    joined [] h = refl
    joined (x ∷ xs) h = ap (λ l. h x ++ l) (joined xs h)

pub threads_there : (mbox : List ℕ) (places : List LuvMessage) (merge : Bool) → ArePlacesOfMessages mbox places
    → AreThreadsOfMbox mbox merge (threads_of (map (entry_at mbox) places) merge)
threads_there mbox places merge m = record {
  items = m.items;
  divides_into_items = m.divides_into_items;
  rows_are_threads = ap (λ entries. threads_of entries merge) (each_there entry_of_message mbox m.first_offset m.items places m.places_are_of_messages);
}
