-- What messages say of themselves in numbers, and how much of the arrays that is.
use Rattle.std.proofs.Common.{◌≡◌, ℕ, ◌+◌, ◌-◌, ◌<◌, ◌≤◌, List, [], ◌∷◌, ◌++◌, length, map, take, arith, refl, ap, sym, ◌∙◌, length-append, inl, ℤ, Bool}
use Rattle.std.proofs.lemmas.List.{length-map, length-take-le}
use Rattle.mail_core.specs.Headers.{own_id_of, id_option_to_list, sent_date_of}
use Rattle.mbox_core.specs.Division.{Item, DividesIntoItems}
use Rattle.mbox_core.proofs.DivisionLaws.{each_text_has_at_most_one_division}
use Rattle.luvazhimba_c.specs.Fields.{field_texts, field_text_lengths, has_sent_date, field_numbers, all_field_texts}
use Rattle.luvazhimba_c.specs.Fields.{all_field_text_lengths, field_numbers_of_item, mbox_totals, HoldMboxFields, LacksRoomForMboxFields}
use Rattle.luvazhimba_c.specs.Places.{AreMessagesFromOffset, ArePlacesOfMessages}
use Rattle.luvazhimba_c.specs.declared.fields.LuvFields.{LuvFields}
use Rattle.luvazhimba_c.specs.declared.mbox_fields.LuvTotals.{LuvTotals}
use Rattle.luvazhimba_c.specs.declared.messages.LuvMessage.{LuvMessage}

-- how many were put behind others
pub more : (old added all : List ℕ) (n m : ℕ) → n ≡ length all → m ≡ length old → all ≡ old ++ added → n - m ≡ length added
more old added all n m e f g =
    let whole : length all ≡ length old + length added = ap length g ∙ length-append old added in
    omega (arith, e, f, whole)

-- the numbers, each by itself
pub numbers_are : (message : List ℕ) (arrival sent : ℤ) (own count len : ℕ) (date : Bool) → sent ≡ sent_date_of message arrival
    → own ≡ length (id_option_to_list (own_id_of message)) → count ≡ length (field_text_lengths message) → len ≡ length (field_texts message) → date ≡ has_sent_date message
    → ◌≡◌ {A = LuvFields} record { sent = sent; own = own; count = count; len = len; is_dated = date } (field_numbers message arrival)
numbers_are message arrival sent own count len date e f g h k = cc

-- ---- of each message of an mbox

-- there are as many places as messages
stand_len : (bytes : List ℕ) (at : ℕ) (items : List Item) (places : List LuvMessage) → AreMessagesFromOffset bytes at items places → length places ≡ length items
stand_len bytes at [] [] s = refl
stand_len bytes at [] (p ∷ ps) s = absurd s
stand_len bytes at (i ∷ is) [] s = absurd s
stand_len bytes at (i ∷ is) (p ∷ ps) (next, here, later) = let others = stand_len bytes next is ps later in omega (arith, others)

places_len : (mbox : List ℕ) (items : List Item) (places : List LuvMessage) → DividesIntoItems mbox items → ArePlacesOfMessages mbox places → length places ≡ length items
places_len mbox items places d m = stand_len mbox m.first_offset m.items places m.places_are_of_messages ∙ ap length (each_text_has_at_most_one_division mbox m.items items m.divides_into_items d)

-- what was gathered of the messages of an mbox
module _ (mbox : List ℕ) (items : List Item) (numbers : List LuvFields) (texts lens : List ℕ) (many count len : ℕ) (divides : DividesIntoItems mbox items)
    (are_numbers : numbers ≡ map field_numbers_of_item items) (are_texts : texts ≡ all_field_texts items) (are_lens : lens ≡ all_field_text_lengths items)
    (is_count : count ≡ length lens) (is_len : len ≡ length texts) where
  totals_are : many ≡ length items → ◌≡◌ {A = LuvTotals} record { messages = many; count = count; len = len } (mbox_totals items)
  totals_are e =
      let c : count ≡ length (all_field_text_lengths items) = is_count ∙ ap length are_lens in
      let l : len ≡ length (all_field_texts items) = is_len ∙ ap length are_texts in cc

  -- it was written, and where the messages stand
  pub all_written : (messages : List LuvMessage) (fields : List LuvFields) (bytes sizes : List ℕ) → ArePlacesOfMessages mbox (take many messages) → many ≤ length messages
      → take (length numbers) fields ≡ numbers → take (length texts) bytes ≡ texts → take (length lens) sizes ≡ lens
      → HoldMboxFields mbox messages fields bytes sizes (record { messages = many; count = count; len = len })
  all_written messages fields bytes sizes places low f g h =
      let are : many ≡ length items = sym (length-take-le many messages low) ∙ places_len mbox items (take many messages) divides places in
      record {
        items = items;
        divides_into_items = divides;
        places = places;
        numbers = ap (λ n. take n fields) (are ∙ sym (length-map items field_numbers_of_item) ∙ ap length (sym are_numbers)) ∙ f ∙ are_numbers;
        texts = ap (λ n. take n bytes) is_len ∙ g ∙ are_texts;
        lens = ap (λ n. take n sizes) is_count ∙ h ∙ are_lens;
        totals = totals_are are;
      }

  -- there is no room for the places
  pub none_fits : (messages : List LuvMessage) (fields : List LuvFields) (bytes sizes : List ℕ)
      → ((others : List Item) × DividesIntoItems mbox others × (many ≡ length others) × (length messages < many))
      → LacksRoomForMboxFields mbox messages fields bytes sizes (record { messages = many; count = count; len = len })
  none_fits messages fields bytes sizes (others, division, e, short) = record {
    items = items;
    divides_into_items = divides;
    array_too_short = inl short;
    totals = totals_are (e ∙ ap length (each_text_has_at_most_one_division mbox others items division divides));
  }
