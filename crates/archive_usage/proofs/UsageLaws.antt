-- The command line is of the kind whose matches and faults `clap` gives as functions of the words.
use Rattle.std.proofs.Common.{◌≡◌, true, refl}
use Rattle.clap.specs.Words.{is_simple, is_simple_and_free}
use Rattle.archive_usage.specs.Program.{archive_app}
use Rattle.archive_usage.proofs.OnLiterals.{archive_on_literals}

pub simple : is_simple archive_app ≡ true
unfolding archive_on_literals
simple = refl

pub free : is_simple_and_free archive_app ≡ true
unfolding archive_on_literals
free = refl
