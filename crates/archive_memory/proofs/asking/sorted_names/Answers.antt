use Rattle.std.proofs.Common.{subst, map, Global, List, ℕ}
use Rattle.std.specs.Prelude.{string_bytes}
use Rattle.std.specs.List.Sorted.{IsPermutation}
use Rattle.std.proofs.lemmas.List.Sorted.{IsPermutation-map}
use Rattle.archive_memory.proofs.AskLemmas.{names_sorted, sorted_by}
use Rattle.archive_memory.proofs.asking.sorted_names.Goals as goal

pub returns : goal.returns
returns c =
    let names = c.sort.new.self.items in
    let same = IsPermutation-map (string_bytes {Z = Global}) _ names c.in_ok-sort.ensures.permutation in
    names_sorted _ (map (string_bytes {Z = Global}) names) (subst (λ (l : List (List ℕ)). IsPermutation l (map (string_bytes {Z = Global}) names)) c.in_ok-names.ensures same)
    (sorted_by (string_bytes {Z = Global}) names c.in_ok-sort.ensures.sorted)
