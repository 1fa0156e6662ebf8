-- Links, piece by piece.
use Rattle.std.proofs.Common.{◌≡◌, List, ℕ, ℤ, ◌++◌, take, codes, append_assoc}
use Rattle.civil_time.specs.Texts.{instant_text}
use Rattle.archive_html.specs.Links.{month_link}
use Rattle.civil_time.proofs.TextLemmas.{begins_with_month}

pub month_link_is : (list text p0 p1 p2 p3 p4 p5 : List ℕ) (z : ℤ) → text ≡ instant_text z → p1 ≡ p0 ++ (codes "<a href=\"/l/" ++ (list ++ codes "/month/"))
    → p2 ≡ p1 ++ take 7 text → p3 ≡ p2 ++ codes "\">" → p4 ≡ p3 ++ text → p5 ≡ p4 ++ codes "</a>" → p5 ≡ p0 ++ month_link list z
unfolding month_link
month_link_is list text p0 p1 p2 p3 p4 p5 z e e1 e2 e3 e4 e5 = rw (e5, e4, e3, e2, e1, e, begins_with_month z) (simp append_assoc)
