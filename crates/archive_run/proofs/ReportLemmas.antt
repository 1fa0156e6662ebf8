-- A text that is written piece by piece.
use Rattle.std.proofs.Common.{◌≡◌, ◌++◌, ◌∙◌, ap, append_assoc, codes, refl, subst, ℕ, List, Result, Ok, Err, arith}
use Rattle.std.specs.Prelude.{decimal, ⊤}
use Rattle.mbox_core.proofs.WritingLemmas.{first_short, second_short}
use Rattle.archive_desk.specs.declared.importing.Report.{Report}
use Rattle.sift_run.specs.Streams.{OutputStreamState, WritesAndFlushesOrFails, WritesPartAndFails}
use Rattle.sift_run.specs.declared.faults.CommandError.TheVariants.{Write}
use Rattle.archive_run.specs.Working.{WritesTextOrFails, report_line}
use Rattle.archive_run.specs.declared.faults.RunError.{RunError}
use Rattle.archive_run.specs.declared.faults.RunError.TheVariants.{Run}

-- the output failed at the first piece
pub cut_first : (before after : OutputStreamState) (first rest : List ℕ) → WritesPartAndFails before after first → WritesPartAndFails before after (first ++ rest)
cut_first before after first rest it = (it.0, first_short before.written after.written first rest it.0 it.1, it.2)

-- the first piece was written
module _ (before mid after : OutputStreamState) (first next : List ℕ) (wrote : (mid.written ≡ before.written ++ first) × (mid.failures ≡ before.failures)) where
  whole_text : after.written ≡ mid.written ++ next → after.written ≡ before.written ++ (first ++ next)
  whole_text e = e ∙ (ap (λ told. told ++ next) wrote.0 ∙ append_assoc before.written first next)

  pub cut_next : WritesPartAndFails mid after next → WritesPartAndFails before after (first ++ next)
  cut_next it = (_, second_short before.written mid.written after.written first next it.0 _ wrote.0 it.1 refl, omega (arith, it.2, wrote.1))

  pub put_then : (result : Result ⊤ RunError) → WritesTextOrFails mid after next result → WritesTextOrFails before after (first ++ next) result
  put_then (Ok done) it = (whole_text it.0, it.1 ∙ wrote.1)
  put_then (Err why) it = (it.0, cut_next it.1)

  pub sent_then : (result : Result ⊤ RunError) → WritesAndFlushesOrFails (Run Write) mid after next result
      → WritesAndFlushesOrFails (Run Write) before after (first ++ next) result
  sent_then (Ok done) it = (whole_text it.0, it.1 ∙ wrote.1, it.2)
  sent_then (Err why) it = (it.0, cut_next it.1)

-- ---- the line of a report

abbrev new_text : Report → List ℕ
new_text report = codes "new " ++ decimal report.new

abbrev known_text : Report → List ℕ
known_text report = codes " known " ++ decimal report.known

abbrev too_large_text : Report → List ℕ
too_large_text report = codes " too-large " ++ decimal report.too_large

-- a text was written, whole
abbrev Wrote : (before after : OutputStreamState) → List ℕ → Type 0
Wrote before after text = (after.written ≡ before.written ++ text) × (after.failures ≡ before.failures)

module _ (report : Report) where
  line_is : new_text report ++ (known_text report ++ (too_large_text report ++ codes "\n")) ≡ report_line report
  line_is = simp append_assoc

  cut_of : (before after : OutputStreamState) → WritesPartAndFails before after (new_text report ++ (known_text report ++ (too_large_text report ++ codes "\n")))
      → WritesPartAndFails before after (report_line report)
  cut_of before after it = subst (λ text. WritesPartAndFails before after text) line_is it

  pub cut_at_new : (before after : OutputStreamState) → WritesPartAndFails before after (new_text report) → WritesPartAndFails before after (report_line report)
  cut_at_new before after it = cut_of before after (cut_first before after (new_text report) _ it)

  pub cut_at_known : (before one after : OutputStreamState) → Wrote before one (new_text report) → WritesPartAndFails one after (known_text report)
      → WritesPartAndFails before after (report_line report)
  cut_at_known before one after wrote it = cut_of before after (cut_next before one after (new_text report) _ wrote (cut_first one after (known_text report) _ it))

  pub cut_at_too_large : (before one two after : OutputStreamState) → Wrote before one (new_text report) → Wrote one two (known_text report)
      → WritesPartAndFails two after (too_large_text report) → WritesPartAndFails before after (report_line report)
  cut_at_too_large before one two after first second it =
      cut_of before after
      (cut_next before one after (new_text report) _ first
      (cut_next one two after (known_text report) _ second (cut_first two after (too_large_text report) _ it)))

  pub report_sent : (before one two three after : OutputStreamState) (result : Result ⊤ RunError) → Wrote before one (new_text report) → Wrote one two (known_text report)
      → Wrote two three (too_large_text report) → WritesAndFlushesOrFails (Run Write) three after (codes "\n") result
      → WritesAndFlushesOrFails (Run Write) before after (report_line report) result
  report_sent before one two three after result first second third it =
      subst (λ text. WritesAndFlushesOrFails (Run Write) before after text result) line_is
      (sent_then before one after (new_text report) _ first result
      (sent_then one two after (known_text report) _ second result
      (sent_then two three after (too_large_text report) _ third result it)))
