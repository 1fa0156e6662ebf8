-- The command line of the program, as `clap` reads it.
pub use Rattle.archive_usage.specs.Program.{archive_app}
