-- What the archive remembers: lists of records, each in the order in which they came.
use Rattle.std.specs.Prelude.{ℕ, ℤ, Bool, List, Option}

-- a person, and the token by which a request shows who asks (RFC 6750)
pub record Person : Type 0 where
  pub name : List ℕ
  pub token : List ℕ

-- what a person holds on a list: rank 1 is a member, 2 a subscriber, 3 a moderator. It holds from its first day to its
-- last, both within; days are counted from 1970-01-01.
pub record Grant : Type 0 where
  pub person : List ℕ
  pub list : List ℕ
  pub rank : ℤ
  pub from_day : ℤ
  pub until_day : ℤ

-- a message of a list: its key, the sender as written, its arrival in seconds since 1970-01-01 00:00:00 UTC, its whole
-- text, who withdrew it (0 nobody, 1 its author, 2 the board), and the day up to which it is held back
pub record Message : Type 0 where
  pub list : List ℕ
  pub key : List ℕ
  pub sender : List ℕ
  pub arrival : ℤ
  pub text : List ℕ
  pub withdrawn : ℤ
  pub embargo : Option ℤ

-- what is filed of a message: its sent date, in seconds as an arrival; the month of that, as year times 12 plus month less 1;
-- and its author key
pub record IndexColumns : Type 0 where
  pub sent : ℤ
  pub month : ℤ
  pub author : List ℕ

-- how the threads of a list are made: whether those of one subject are gathered (RFC 5256, THREAD=REFERENCES, step 5)
pub record ListOption : Type 0 where
  pub list : List ℕ
  pub merge : Bool

-- the address of a person, in ASCII lower case
pub record Address : Type 0 where
  pub person : List ℕ
  pub address : List ℕ

-- The filings are those of the messages, in the same order. Each list has one option, which comes with it; a person has an
-- address where one was given.
pub record Archive : Type 0 where
  pub lists : List (List ℕ)
  pub persons : List Person
  pub grants : List Grant
  pub messages : List Message
  pub index_columns : List IndexColumns
  pub options : List ListOption
  pub addresses : List Address
