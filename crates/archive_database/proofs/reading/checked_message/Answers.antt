use Rattle.std.proofs.Common.{rules, List, ℕ}
use Rattle.archive_tables.specs.Rows.{message_from_result_row}
use Rattle.archive_database.proofs.reading.checked_message.Goals as goal

pub returns-in_err-marks-clause-unread : goal.returns-in_err-marks-clause-unread
returns-in_err-marks-clause-unread c =
    let unread = λ (list : List ℕ). c.in_err-marks.ensures.unread.1 (message_from_result_row list c.args.row) (search rules) in search rules

pub returns-clause-read : goal.returns-clause-read
returns-clause-read c = λ list. let marks = c.in_ok-marks.ensures.read (message_from_result_row list c.args.row) (search rules) in search rules
