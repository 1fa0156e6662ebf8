use Rattle.archive_html.proofs.TextLemmas.{run_and_byte, run_to_end}
use Rattle.archive_html.proofs.texts.push_shown.Goals as goal

pub returns-in_default : goal.returns-in_default
returns-in_default c =
    run_to_end c.loop-byte.page.items c.loop-byte.rest.now c.loop-byte.invariant c.plain_len.ensures.value c.split_at.ensures.front c.split_at.ensures.back
    c.in_ok-extend_from_slice.ensures.items c.in_default.ensures.cases

pub loop-byte-preserved : goal.loop-byte-preserved
loop-byte-preserved c =
    run_and_byte c.loop-byte.page.items c.loop-byte.rest.now c.loop-byte.invariant c.plain_len.ensures.value c.split_at.ensures.front c.split_at.ensures.back
    c.in_ok-extend_from_slice.ensures.items c.in-Some.ensures.cases.0 c.in_ok-push_shown_byte.ensures
