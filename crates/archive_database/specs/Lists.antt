-- A list that is added comes with its option.
use Rattle.std.specs.Prelude.{◌⊎◌, ℕ, List, [], ◌∷◌, ◌++◌}
use Rattle.archive_model.specs.Records.{Archive}
use Rattle.archive_model.specs.Machine.{default_list_option}
use Rattle.sqlite.specs.Effect.{Database}
use Rattle.archive_tables.specs.Statements.{insert_list_statement, insert_option_statement, IsStatementRefused, StatementExecutesTo}

-- the archive with one list more, and its option
abbrev pub archive_with_list : Archive → List ℕ → Archive
archive_with_list a name = record a { lists = a.lists ++ name ∷ []; options = a.options ++ default_list_option name ∷ [] }

-- The rows refuse the list, or behind it its option.
abbrev pub IsListRefused : List ℕ → Database → Type 0
IsListRefused name db =
    IsStatementRefused (insert_list_statement name) db ⊎ ((listed : Database) × StatementExecutesTo (insert_list_statement name) db listed
    × IsStatementRefused (insert_option_statement (default_list_option name)) listed)
