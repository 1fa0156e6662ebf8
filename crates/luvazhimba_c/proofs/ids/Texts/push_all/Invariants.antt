use Rattle.std.proofs.Common.{◌≡◌, ◌++◌, take, map}
use Rattle.std.specs.List.{flat_map}
use Rattle.luvazhimba_c.specs.Ids.{id_text, id_text_length}
use Rattle.luvazhimba_c.proofs.ids.Texts.push_all.Given as goal

abbrev pub invariant-loop-at : goal.invariant-loop-at
invariant-loop-at l = record {
  bytes : l.self.bytes.items ≡ l.initial.self.bytes.items ++ flat_map id_text (take l.at l.ids);
  lens : l.self.lens.items ≡ l.initial.self.lens.items ++ map id_text_length (take l.at l.ids);
}
