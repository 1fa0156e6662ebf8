use Rattle.std.proofs.Common.{◌∙◌, sym, ap, arith, length}
use Rattle.std.proofs.lemmas.Bool.{eqb-true}
use Rattle.std.proofs.lemmas.List.{nil_from_length}
use Rattle.mail_core.specs.Fields.{header_blocks}
use Rattle.mail_core.proofs.FieldLemmas.{blocks-empty, blocks-over, blocks-begin}
use Rattle.mail_core.proofs.field_blocks.first_block.Goals as goal

pub returns-then-is_empty : goal.returns-then-is_empty
returns-then-is_empty c = ap header_blocks (nil_from_length c.args.text.now (eqb-true (length c.args.text.now) 0 (sym c.if-is_empty.ensures))) ∙ blocks-empty

pub returns-then-has_no_content : goal.returns-then-has_no_content
returns-then-has_no_content c = blocks-over c.args.text.now c.line_end-first.result c.line_end-first.ensures.cuts (sym c.if-has_no_content.ensures)

pub returns : goal.returns
returns c = (
  omega arith,
  rw (c.split_at.ensures.back, c.split_at.ensures.front) (blocks-begin c.args.text.now c.line_end-first.result c.line_end-first.ensures.cuts (sym c.if-has_no_content.ensures)
      ∙ c.block_end.ensures.cuts),
)
