-- What is filed, as the code has it.
use Rattle.archive_model.specs.Records.{IndexColumns as Filed}
use Rattle.archive_database.specs.declared.filing.IndexColumns.{IndexColumns}

-- what is filed of a message, of the code
abbrev pub model_index_columns : IndexColumns → Filed
model_index_columns f = record { sent = f.sent; month = f.month; author = f.author.items }
