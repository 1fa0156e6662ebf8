-- Which page a path names. (profile: the routes are this project's)
use Rattle.std.specs.Prelude.{ℕ, ◌==◌, if◌then◌else◌, List, [], ◌∷◌, bytes_eq, codes, Option, Some, None}
use Rattle.percent_encoding.specs.Percent.{percent_decode}

-- `key` and `month` as they stand in the path, `author` percent-decoded (RFC 3986, section 2.1)
pub data Route : Type 0 where
  lists : Route
  message : (list key : List ℕ) → Route
  month : (list month : List ℕ) → Route
  threads : (list : List ℕ) → Route
  thread : (list key : List ℕ) → Route
  author : (list author : List ℕ) → Route
  mbox : (list : List ℕ) → Route

abbrev pub prepend_to_first_segment : ℕ → List (List ℕ) → List (List ℕ)
prepend_to_first_segment b [] = (b ∷ []) ∷ []
prepend_to_first_segment b (segment ∷ segments) = (b ∷ segment) ∷ segments

-- the texts between the slashes, the empty ones too
abbrev pub segments : List ℕ → List (List ℕ)
segments [] = [] ∷ []
segments (b ∷ bs) = if b == 47 then [] ∷ segments bs else prepend_to_first_segment b (segments bs)

-- a parameter is one byte or more
abbrev pub some_if_nonempty : {A : Type 0} → List ℕ → A → Option A
some_if_nonempty [] a = None
some_if_nonempty (b ∷ bs) a = Some a

-- what follows `/l/LIST`
abbrev pub list_route : (list : List ℕ) → List (List ℕ) → Option Route
list_route list (word ∷ []) =
    if bytes_eq word (codes "threads") then Some (threads list)
    else if bytes_eq word (codes "mbox") then Some (mbox list)
    else None
list_route list (word ∷ parameter ∷ []) =
    if bytes_eq word (codes "m") then some_if_nonempty parameter (message list parameter)
    else if bytes_eq word (codes "month") then some_if_nonempty parameter (month list parameter)
    else if bytes_eq word (codes "t") then some_if_nonempty parameter (thread list parameter)
    else if bytes_eq word (codes "by") then some_if_nonempty parameter (author list (percent_decode parameter))
    else None
list_route list _ = None

abbrev pub route_if_list_path : (word list : List ℕ) → Option Route → Option Route
route_if_list_path word [] route = None
route_if_list_path word (b ∷ bs) route = if bytes_eq word (codes "l") then route else None

-- the route of the segments of a path, the first of which stands before the first slash
abbrev pub route_of_segments : List (List ℕ) → Option Route
route_of_segments ([] ∷ [] ∷ []) = Some lists
route_of_segments ([] ∷ word ∷ list ∷ rest) = route_if_list_path word list (list_route list rest)
route_of_segments _ = None

-- Profile: the form of a path alone says which page is asked for, whether or not its list or message is there; an empty list name
-- or parameter names no page.
abbrev pub route_of : (path : List ℕ) → Option Route
route_of path = route_of_segments (segments path)
