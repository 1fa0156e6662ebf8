-- What messages in some bytes say about threads.
use Rattle.std.specs.Prelude.{◌≡◌, ◌<◌, ◌≤◌, ℕ, ℤ, List, length, map, Bool, true, false, All, Contains}
use Rattle.civil_time.specs.Calendar.{is_instant}
use Rattle.mail_core.specs.Headers.{own_id_of, references_of, sent_date_of, unfolded_subject_of}
use Rattle.mail_core.specs.Places.{between}
use Rattle.mbox_core.specs.Division.{Item, DividesIntoItems}
use Rattle.subject_core.specs.BaseSubject.{base_subject_of, is_reply}
use Rattle.thread_core.specs.Threads.{threads_of}
use Rattle.thread_core.specs.declared.row.Row.{Row}
use Rattle.thread_links.specs.declared.entry.Entry.{Entry}
use Rattle.luvazhimba_c.specs.Numbers.{luv_no_room, luv_outside, luv_no_instant}
use Rattle.luvazhimba_c.specs.declared.messages.LuvMessage.{LuvMessage}

-- what a message says about threads (RFC 5256, section 3) that arrived then
abbrev pub entry_of_message : List ℕ → ℤ → Entry
entry_of_message text arrival = record {
  id = own_id_of text;
  refs = references_of text;
  sent = sent_date_of text arrival;
  base = base_subject_of (unfolded_subject_of text);
  reply = is_reply (unfolded_subject_of text);
}

-- the same of the message that stands at a place
abbrev pub entry_at : List ℕ → LuvMessage → Entry
entry_at bytes m = entry_of_message (between bytes m.start m.end) m.arrival

-- the same of a message of an mbox
abbrev pub entry_of_item : Item → Entry
entry_of_item item = entry_of_message item.text item.envelope.arrival

-- the rows are the threads of the messages of an mbox, which has one division
pub record AreThreadsOfMbox (bytes : List ℕ) (merge : Bool) (rows : List Row) : Type 0 where
  pub items : List Item
  pub divides_into_items : DividesIntoItems bytes items
  pub rows_are_threads : rows ≡ threads_of (map entry_of_item items) merge

-- so much room is too little for the threads of the messages of an mbox, and how many rows are wanted is said
pub record LacksRoomForRows (bytes : List ℕ) (merge : Bool) (room count : ℕ) : Type 0 where
  pub rows : List Row
  pub rows_are_threads : AreThreadsOfMbox bytes merge rows
  pub is_count : count ≡ length rows
  pub array_too_short : room < count

-- a message's place lies in the bytes
abbrev pub LiesWithinBytes : List ℕ → LuvMessage → Type 0
LiesWithinBytes bytes m = (m.start ≤ m.end) × (m.end ≤ length bytes)

-- a message's place does not lie in the bytes, or ends before it begins
abbrev pub LiesOutsideBytes : List ℕ → LuvMessage → Type 0
LiesOutsideBytes bytes m = ¬ LiesWithinBytes bytes m

-- a message arrived outside the years 1900 to 9998
abbrev pub ArrivesOutOfRange : LuvMessage → Type 0
ArrivesOutOfRange m = is_instant m.arrival ≡ false

-- a message's place lies in the bytes, and it arrived in the years 1900 to 9998
abbrev pub IsReadableMessage : List ℕ → LuvMessage → Type 0
IsReadableMessage bytes m = LiesWithinBytes bytes m × (is_instant m.arrival ≡ true)

-- What an answer says of the messages: at 0 and 1 each can be read, at 3 and 4 one of them cannot.
pub record StatusMatchesMessages (bytes : List ℕ) (messages : List LuvMessage) (number : ℕ) : Type 0 where
  pub readable : number ≤ luv_no_room → All (IsReadableMessage bytes) messages
  pub one_is_outside_bytes : number ≡ luv_outside → (m : LuvMessage) × Contains messages m × LiesOutsideBytes bytes m
  pub one_arrives_out_of_range : number ≡ luv_no_instant → (m : LuvMessage) × Contains messages m × ArrivesOutOfRange m
