use Rattle.std.proofs.Common.{◌≡◌, ℕ, ◌+◌, ◌≤◌, ◌<◌, length, drop, arith, rules, subst, sym, ◌∙◌, FitsSigned, w64, to_z, of_z}
use Rattle.std.proofs.lemmas.Int.{to_z-of_z}
use Rattle.mail_core.specs.Lines.{lines}
use Rattle.mbox_core.specs.Division.{Item, AreBlocks}
use Rattle.luvazhimba_c.specs.Places.{IsMessageAtOffset}
use Rattle.luvazhimba_c.proofs.PlaceLemmas.{IsLineLen, text_within, placed, begins_block}
use Rattle.luvazhimba_c.proofs.cutting.place_of.Goals as goal

pub line_len-blank-requires : goal.line_len-blank-requires
line_len-blank-requires c =
    let bytes = c.args.bytes.now in
    let item : Item = c.args.item.now in
    let n = c.line_len-heading.result in
    let text : c.len_and_arrival-text.result.0 ≡ length item.text = c.len_and_arrival-text.ensures.len in
    let len : IsLineLen bytes c.args.at n = record { within = c.line_len-heading.ensures.within; line = c.line_len-heading.ensures.line; end = c.line_len-heading.ensures.end } in
    let fits : c.args.at + n + length item.text ≤ length bytes = text_within bytes c.args.at n item c.requires.blocks.0 len c.requires.blocks.1 in
    omega (arith, fits, text)

pub returns-clause-stands : goal.returns-clause-stands
returns-clause-stands c =
    let bytes = c.args.bytes.now in
    let at = c.args.at in
    let item : Item = c.args.item.now in
    let n = c.line_len-heading.result in
    let m = c.line_len-blank.result in
    let e : length item.text ≡ c.len_and_arrival-text.result.0 = sym c.len_and_arrival-text.ensures.len in
    let len : IsLineLen bytes at n = record { within = c.line_len-heading.ensures.within; line = c.line_len-heading.ensures.line; end = c.line_len-heading.ensures.end } in
    let here : IsLineLen bytes (at + n + c.len_and_arrival-text.result.0) m = record {
      within = c.line_len-blank.ensures.within;
      line = c.line_len-blank.ensures.line;
      end = c.line_len-blank.ensures.end;
    } in
    let p = placed bytes at n item c.requires.blocks.0 len c.requires.blocks.1 m (subst (λ (t : ℕ). IsLineLen bytes (at + n + t) m) (sym e) here) in
    let fits : FitsSigned w64 c.len_and_arrival-text.result.1 = search rules in
    let kept : to_z w64 (of_z w64 c.len_and_arrival-text.result.1) ≡ c.len_and_arrival-text.result.1 = to_z-of_z w64 c.len_and_arrival-text.result.1 fits in
    let arrival = to_z w64 (of_z w64 c.len_and_arrival-text.result.1) in
    subst (λ (t : ℕ). IsMessageAtOffset bytes at item (record { start = at + n; end = at + n + t; arrival = arrival }) (at + n + t + m)) e
    (p.stands arrival (kept ∙ c.len_and_arrival-text.ensures.arrival))

pub returns-clause-later : goal.returns-clause-later
returns-clause-later c = λ rest block.
    let bytes = c.args.bytes.now in
    let at = c.args.at in
    let item : Item = c.args.item.now in
    let n = c.line_len-heading.result in
    let m = c.line_len-blank.result in
    let e : length item.text ≡ c.len_and_arrival-text.result.0 = sym c.len_and_arrival-text.ensures.len in
    let len : IsLineLen bytes at n = record { within = c.line_len-heading.ensures.within; line = c.line_len-heading.ensures.line; end = c.line_len-heading.ensures.end } in
    let here : IsLineLen bytes (at + n + c.len_and_arrival-text.result.0) m = record {
      within = c.line_len-blank.ensures.within;
      line = c.line_len-blank.ensures.line;
      end = c.line_len-blank.ensures.end;
    } in
    let p = placed bytes at n item rest len block m (subst (λ (t : ℕ). IsLineLen bytes (at + n + t) m) (sym e) here) in
    subst (λ (t : ℕ). AreBlocks rest (lines (drop (at + n + t + m) bytes))) e p.later

pub returns-clause-on : goal.returns-clause-on
returns-clause-on c =
    let bytes = c.args.bytes.now in
    let begun : c.args.at < length bytes = begins_block bytes c.args.at c.args.item.now c.requires.blocks.0 c.requires.blocks.1 in
    let some : 0 < c.line_len-heading.result = c.line_len-heading.ensures.some begun in
    (omega (arith, some), c.line_len-blank.ensures.within)
