-- Worked examples of routes.
use Rattle.std.proofs.Common.{◌≡◌, Some, None, refl, codes}
use Rattle.percent_encoding.specs.Percent.{percent_decode}
use Rattle.archive_requests.specs.Routes.{lists, message, month, threads, thread, author, mbox, route_of}

root : route_of (codes "/") ≡ Some lists
root = refl

of_a_message : route_of (codes "/l/soc/m/k1") ≡ Some (message (codes "soc") (codes "k1"))
of_a_message = refl

-- whether it is a month is asked later
of_a_month : route_of (codes "/l/soc/month/march") ≡ Some (month (codes "soc") (codes "march"))
of_a_month = refl

of_all_threads : route_of (codes "/l/soc/threads") ≡ Some (threads (codes "soc"))
of_all_threads = refl

of_a_thread : route_of (codes "/l/soc/t/k1") ≡ Some (thread (codes "soc") (codes "k1"))
of_a_thread = refl

of_an_mbox : route_of (codes "/l/soc/mbox") ≡ Some (mbox (codes "soc"))
of_an_mbox = refl

-- the author alone is decoded, once
by_author : route_of (codes "/l/soc/by/anna%40example.org") ≡ Some (author (codes "soc") (codes "anna@example.org"))
unfolding percent_decode
by_author = refl

decoded_once : route_of (codes "/l/soc/by/a%2540b") ≡ Some (author (codes "soc") (codes "a%40b"))
unfolding percent_decode
decoded_once = refl

an_escaped_slash : route_of (codes "/l/soc/by/a%2Fb") ≡ Some (author (codes "soc") (codes "a/b"))
unfolding percent_decode
an_escaped_slash = refl

-- an escape that is none stays
half_an_escape : route_of (codes "/l/soc/by/a%4") ≡ Some (author (codes "soc") (codes "a%4"))
unfolding percent_decode
half_an_escape = refl

an_escaped_list : route_of (codes "/l/%73oc/threads") ≡ Some (threads (codes "%73oc"))
an_escaped_list = refl

an_escaped_word : route_of (codes "/l/soc/thread%73") ≡ None
an_escaped_word = refl

no_parameter : route_of (codes "/l/soc/m/") ≡ None
no_parameter = refl

no_list : route_of (codes "/l//threads") ≡ None
no_list = refl

a_slash_more : route_of (codes "/l/soc/threads/") ≡ None
a_slash_more = refl

a_list_alone : route_of (codes "/l/soc") ≡ None
a_list_alone = refl

in_capitals : route_of (codes "/L/soc/threads") ≡ None
in_capitals = refl

two_slashes : route_of (codes "//") ≡ None
two_slashes = refl

no_byte : route_of (codes "") ≡ None
no_byte = refl
