use Rattle.std.proofs.Common.{arith}
use Rattle.mbox_core.proofs.HeadingLemmas.{line_is}
use Rattle.mbox_core.proofs.heading.date_line.Goals as goal

pub returns : goal.returns
returns c =
    let date = c.args.date in
    line_is c.args.weekday (record { year = date.year; month = date.month; day = date.day }) c.args.seconds
    c.weekday_name.result c.month_name.result c.day_pair.result c.digit_pair.result c.digit_pair-2.result c.digit_pair-3.result c.digit_pair-4.result c.digit_pair-5.result
    c.requires.weekday (omega (arith, c.requires.month))
    c.weekday_name.ensures c.month_name.ensures c.day_pair.ensures c.digit_pair.ensures c.digit_pair-2.ensures c.digit_pair-3.ensures c.digit_pair-4.ensures c.digit_pair-5.ensures
