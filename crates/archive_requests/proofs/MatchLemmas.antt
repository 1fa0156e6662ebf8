-- What the router of the pages finds is what the definition says.
use Rattle.std.proofs.Common.{◌≡◌, ℕ, suc, ◌+◌, List, [], ◌∷◌, ◌++◌, length, get_or, Option, Some, None, false, refl, sym, ap, ap₂, subst, ◌∙◌, arith, codes, IsUtf8, Fits, w8}
use Rattle.std.proofs.lemmas.Str.{IsUtf8-from_is_utf8}
use Rattle.std.specs.Str.{is_utf8, chars}
use Rattle.percent_encoding.specs.Percent.{percent_decode}
use Rattle.matchit.specs.Router.{RouteOf}
use Rattle.matchit.specs.Seek.{first, has_slash}
use Rattle.matchit.specs.Params.{walk, AllText, named, wild_stop, part_of}
use Rattle.matchit.proofs.OnLiterals.{matchit_on_literals}
use Rattle.archive_requests.specs.Routes.{Route, lists, message, month, threads, thread, author, mbox, route_of}
use Rattle.archive_requests.specs.Routing.{route_table}
use Rattle.archive_requests.specs.declared.routes.Page.{Page}
use Rattle.archive_requests.specs.declared.routes.Page.TheVariants.{Lists, Message, Month, Threads, Thread, Author, Mbox}
use Rattle.archive_requests.proofs.RouteCases.{AllBytes, Case, is_none, is_root, is_threads, is_mbox, is_message, is_month, is_thread, is_author, settle, all_rows, below}
use Rattle.archive_requests.proofs.ParamLemmas.{IsRun, listed, list_walk, last_walk, list_utf8, cut_utf8}

abbrev Entry : Type 0
Entry = RouteOf Page

abbrev parameter_pattern : List ℕ → List ℕ
parameter_pattern word = listed (word ++ 256 ∷ [])

abbrev pub by_row : Entry
by_row = record { pattern = parameter_pattern (codes "by/"); text = codes "/l/{list}/by/{author}"; names = (4, 8) ∷ (14, 20) ∷ []; value = Author }

abbrev pub m_row : Entry
m_row = record { pattern = parameter_pattern (codes "m/"); text = codes "/l/{list}/m/{key}"; names = (4, 8) ∷ (13, 16) ∷ []; value = Message }

abbrev pub mbox_row : Entry
mbox_row = record { pattern = listed (codes "mbox"); text = codes "/l/{list}/mbox"; names = (4, 8) ∷ []; value = Mbox }

abbrev pub month_row : Entry
month_row = record { pattern = parameter_pattern (codes "month/"); text = codes "/l/{list}/month/{month}"; names = (4, 8) ∷ (17, 22) ∷ []; value = Month }

abbrev pub t_row : Entry
t_row = record { pattern = parameter_pattern (codes "t/"); text = codes "/l/{list}/t/{key}"; names = (4, 8) ∷ (13, 16) ∷ []; value = Thread }

abbrev pub threads_row : Entry
threads_row = record { pattern = listed (codes "threads"); text = codes "/l/{list}/threads"; names = (4, 8) ∷ []; value = Threads }

abbrev pub root_row : Entry
root_row = record { pattern = codes "/"; text = codes "/"; names = []; value = Lists }

abbrev page_rows : List (List ℕ × Entry)
page_rows = all_rows by_row m_row mbox_row month_row t_row threads_row root_row

rows_are : route_table ≡ page_rows
unfolding matchit_on_literals route_table
rows_are = refl

abbrev Parts : Type 0
Parts = List (List ℕ × List ℕ)

abbrev Two : (first second : List ℕ) → (List ℕ → List ℕ → Route) → Parts → Option Route → Type 0
Two first second make parts route =
    (a : List ℕ) × (b : List ℕ) × (named first parts ≡ Some a) × (named second parts ≡ Some b) × (route ≡ Some (make a b))

abbrev One : (List ℕ → Route) → Parts → Option Route → Type 0
One make parts route = (a : List ℕ) × (named (codes "list") parts ≡ Some a) × (route ≡ Some (make a))

-- the route of a page, by the parts of the path
abbrev pub Tells : Page → Parts → Option Route → Type 0
Tells Lists parts route = route ≡ Some lists
Tells Message parts route = Two (codes "list") (codes "key") message parts route
Tells Month parts route = Two (codes "list") (codes "month") month parts route
Tells Threads parts route = One threads parts route
Tells Thread parts route = Two (codes "list") (codes "key") thread parts route
Tells Author parts route = Two (codes "list") (codes "author") (λ list who. author list (percent_decode who)) parts route
Tells Mbox parts route = One mbox parts route

abbrev pub parts_of : Entry → List ℕ → Parts
parts_of r path = walk r.pattern r.text path r.names 0 0

abbrev pub Matched : Entry → List ℕ → Option Route → Type 0
Matched r path route = AllText (parts_of r path) × Tells r.value (parts_of r path) route

text_list : IsUtf8 (codes "list")
unfolding is_utf8 chars lib.Utf8.encode
text_list = IsUtf8-from_is_utf8 (codes "list") refl

text_key : IsUtf8 (codes "key")
unfolding is_utf8 chars lib.Utf8.encode
text_key = IsUtf8-from_is_utf8 (codes "key") refl

text_month : IsUtf8 (codes "month")
unfolding is_utf8 chars lib.Utf8.encode
text_month = IsUtf8-from_is_utf8 (codes "month") refl

text_author : IsUtf8 (codes "author")
unfolding is_utf8 chars lib.Utf8.encode
text_author = IsUtf8-from_is_utf8 (codes "author") refl

abbrev IsLast : List ℕ → Type 0
IsLast u = (p : List ℕ) (at : ℕ) → wild_stop (parameter_pattern u) (4 + suc (length u)) p at ≡ length p

two_walk : (u text : List ℕ) (n m : ℕ × ℕ) (d : ℕ) (list key : List ℕ) → has_slash (d ∷ list) ≡ false → IsRun u → IsLast u
    → walk (parameter_pattern u) text (below d list (u ++ key)) (n ∷ m ∷ []) 0 0 ≡ (part_of text n.0 n.1, d ∷ list) ∷ (part_of text m.0 m.1, key) ∷ []
two_walk u text n m d list key h run last =
    list_walk (u ++ 256 ∷ []) text n (m ∷ []) d list (u ++ key) h ∙ ap (λ r. (part_of text n.0 n.1, d ∷ list) ∷ r) (last_walk u text m d list key run last)

-- a row with two parts matched
two_parts : (row : Entry) (path first second a b : List ℕ) (make : List ℕ → List ℕ → Route)
    → parts_of row path ≡ (first, a) ∷ (second, b) ∷ [] → ((p : Parts) (o : Option Route) → Two first second make p o → Tells row.value p o)
    → named second ((first, a) ∷ (second, b) ∷ []) ≡ Some b → named first ((first, a) ∷ (second, b) ∷ []) ≡ Some a
    → IsUtf8 first → IsUtf8 a → IsUtf8 second → IsUtf8 b → Matched row path (Some (make a b))
two_parts row path first second a b make parts tells two one u v w x = (
  subst AllText (sym parts) (u, v, (w, x, tt)),
  subst (λ p. Tells row.value p (Some (make a b))) (sym parts) (tells _ _ (a, b, one, two, refl)),
)

one_part : (row : Entry) (path a : List ℕ) (make : List ℕ → Route) → parts_of row path ≡ (codes "list", a) ∷ []
    → ((p : Parts) (o : Option Route) → One make p o → Tells row.value p o) → IsUtf8 a → Matched row path (Some (make a))
one_part row path a make parts tells u =
    (subst AllText (sym parts) (text_list, u, tt), subst (λ p. Tells row.value p (Some (make a))) (sym parts) (tells _ _ (a, refl, refl)))

same_some : {A : Type 0} (a b : A) → Some a ≡ Some b → a ≡ b
same_some a b e = cc

none_some : {A : Type 0} (a : A) → None ≡ Some a → ⊥
none_some a e = cc

abbrev Found : List ℕ → Option Entry → Option Route → Type 0
Found = Case by_row m_row mbox_row month_row t_row threads_row root_row

matched_by : (path : List ℕ) (found : Option Entry) (route : Option Route) → Found path found route → IsUtf8 path → (r : Entry) → found ≡ Some r → Matched r path route
matched_by _ _ _ (is_none path) u r e = absurd (none_some r e)
matched_by _ _ _ is_root u r e = subst (λ x. Matched x (codes "/") (Some lists)) (same_some root_row r e) (tt, refl)
matched_by _ _ _ (is_threads d list h) u r e = subst (λ x. Matched x (below d list (codes "threads")) (Some (threads (d ∷ list)))) (same_some threads_row r e)
    (one_part threads_row (below d list (codes "threads")) (d ∷ list) threads (list_walk (codes "threads") (codes "/l/{list}/threads") (4, 8) [] d list (codes "threads") h)
    (λ p o x. x) (list_utf8 d list (codes "threads") u).0)
matched_by _ _ _ (is_mbox d list h) u r e = subst (λ x. Matched x (below d list (codes "mbox")) (Some (mbox (d ∷ list)))) (same_some mbox_row r e)
    (one_part mbox_row (below d list (codes "mbox")) (d ∷ list) mbox (list_walk (codes "mbox") (codes "/l/{list}/mbox") (4, 8) [] d list (codes "mbox") h)
    (λ p o x. x) (list_utf8 d list (codes "mbox") u).0)
matched_by _ _ _ (is_message d list x key h g) u r e = subst (λ y. Matched y (below d list (codes "m/" ++ x ∷ key)) (Some (message (d ∷ list) (x ∷ key)))) (same_some m_row r e)
    (let us = list_utf8 d list (codes "m/" ++ x ∷ key) u in
    two_parts m_row (below d list (codes "m/" ++ x ∷ key)) (codes "list") (codes "key") (d ∷ list) (x ∷ key) message
    (two_walk (codes "m/") (codes "/l/{list}/m/{key}") (4, 8) (13, 16) d list (x ∷ key) h (omega arith, (omega arith, tt)) (λ p at. refl)) (λ p o y. y) refl refl
    text_list us.0 text_key (cut_utf8 (codes "m") (x ∷ key) us.1).1)
matched_by _ _ _ (is_month d list x key h g) u r e = subst (λ y. Matched y (below d list (codes "month/" ++ x ∷ key)) (Some (month (d ∷ list) (x ∷ key)))) (same_some month_row r e)
    (let us = list_utf8 d list (codes "month/" ++ x ∷ key) u in
    two_parts month_row (below d list (codes "month/" ++ x ∷ key)) (codes "list") (codes "month") (d ∷ list) (x ∷ key) month
    (two_walk (codes "month/") (codes "/l/{list}/month/{month}") (4, 8) (17, 22) d list (x ∷ key) h
    (omega arith, (omega arith, (omega arith, (omega arith, (omega arith, (omega arith, tt)))))) (λ p at. refl)) (λ p o y. y) refl refl
    text_list us.0 text_month (cut_utf8 (codes "month") (x ∷ key) us.1).1)
matched_by _ _ _ (is_thread d list x key h g) u r e = subst (λ y. Matched y (below d list (codes "t/" ++ x ∷ key)) (Some (thread (d ∷ list) (x ∷ key)))) (same_some t_row r e)
    (let us = list_utf8 d list (codes "t/" ++ x ∷ key) u in
    two_parts t_row (below d list (codes "t/" ++ x ∷ key)) (codes "list") (codes "key") (d ∷ list) (x ∷ key) thread
    (two_walk (codes "t/") (codes "/l/{list}/t/{key}") (4, 8) (13, 16) d list (x ∷ key) h (omega arith, (omega arith, tt)) (λ p at. refl)) (λ p o y. y) refl refl
    text_list us.0 text_key (cut_utf8 (codes "t") (x ∷ key) us.1).1)
matched_by _ _ _ (is_author d list x key h g) u r e = subst (λ y. Matched y (below d list (codes "by/" ++ x ∷ key)) (Some (author (d ∷ list) (percent_decode (x ∷ key))))) (same_some by_row r e)
    (let us = list_utf8 d list (codes "by/" ++ x ∷ key) u in
    two_parts by_row (below d list (codes "by/" ++ x ∷ key)) (codes "list") (codes "author") (d ∷ list) (x ∷ key) (λ a who. author a (percent_decode who))
    (two_walk (codes "by/") (codes "/l/{list}/by/{author}") (4, 8) (14, 20) d list (x ∷ key) h (omega arith, (omega arith, (omega arith, tt))) (λ p at. refl)) (λ p o y. y) refl refl
    text_list us.0 text_author (cut_utf8 (codes "by") (x ∷ key) us.1).1)

missed_by : (path : List ℕ) (found : Option Entry) (route : Option Route) → Found path found route → found ≡ None → route ≡ None
missed_by _ _ _ (is_none path) e = refl
missed_by _ _ _ is_root e = absurd (none_some root_row (sym e))
missed_by _ _ _ (is_threads d list h) e = absurd (none_some threads_row (sym e))
missed_by _ _ _ (is_mbox d list h) e = absurd (none_some mbox_row (sym e))
missed_by _ _ _ (is_message d list x key h g) e = absurd (none_some m_row (sym e))
missed_by _ _ _ (is_month d list x key h g) e = absurd (none_some month_row (sym e))
missed_by _ _ _ (is_thread d list x key h g) e = absurd (none_some t_row (sym e))
missed_by _ _ _ (is_author d list x key h g) e = absurd (none_some by_row (sym e))

-- each item fits a byte
all_bytes : (path : List ℕ) → ((i : ℕ) → Fits w8 (get_or path i 0)) → AllBytes path
all_bytes [] fits = tt
all_bytes (b ∷ path) fits = ((fits 0).fits, all_bytes path (λ i. fits (suc i)))

pub matched : (path : List ℕ) → IsUtf8 path → ((i : ℕ) → Fits w8 (get_or path i 0)) → (r : Entry) → first route_table path ≡ Some r → Matched r path (route_of path)
matched path u fits r e =
    let rows : first page_rows path ≡ Some r = subst (λ rs. first rs path ≡ Some r) rows_are e in
    matched_by path (first page_rows path) (route_of path) (settle by_row m_row mbox_row month_row t_row threads_row root_row path (all_bytes path fits)) u r rows

pub missed : (path : List ℕ) → ((i : ℕ) → Fits w8 (get_or path i 0)) → first route_table path ≡ None → route_of path ≡ None
missed path fits e =
    let rows : first page_rows path ≡ None = subst (λ rs. first rs path ≡ None) rows_are e in
    missed_by path (first page_rows path) (route_of path) (settle by_row m_row mbox_row month_row t_row threads_row root_row path (all_bytes path fits)) rows

-- ---- what the calls of `get` leave to show

pub both : (make : List ℕ → List ℕ → Route) (o p : Option (List ℕ)) (route : Option Route) (a b c d : List ℕ)
    → o ≡ Some a → p ≡ Some b → route ≡ Some (make a b) → o ≡ Some c → p ≡ Some d → Some (make c d) ≡ route
both make o p route a b c d first second is one two =
    ap₂ (λ x y. Some (make x y)) (same_some c a (sym one ∙ first)) (same_some d b (sym two ∙ second)) ∙ sym is

pub alone : (make : List ℕ → Route) (o : Option (List ℕ)) (route : Option Route) (a c : List ℕ)
    → o ≡ Some a → route ≡ Some (make a) → o ≡ Some c → Some (make c) ≡ route
alone make o route a c first is one = ap (λ x. Some (make x)) (same_some c a (sym one ∙ first)) ∙ sym is

pub not_gone : {A : Type 0} (o : Option A) (a : A) → o ≡ None → o ≡ Some a → ⊥
not_gone o a gone there = none_some a (sym gone ∙ there)
