use Rattle.archive_html.proofs.LawLemmas.{shown_is_inert, escaped_is_inert}
use Rattle.archive_html.proofs.laws.escaped_texts_are_inert.Goals as goal

pub returns : goal.returns
returns c = record { shown = shown_is_inert; escaped = escaped_is_inert }
