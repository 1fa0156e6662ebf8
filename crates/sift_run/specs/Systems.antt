-- What a run makes of what a system gives.
use Rattle.std.specs.Prelude.{◌≡◌, ℕ, ℤ, pos, [], List, drop, Option, Some, None, option_map, option_and_then, Result, Ok, Err}
use Rattle.std.specs.declared.io.ErrorKind.{ErrorKind}
use Rattle.std.specs.declared.io.ErrorKind.TheVariants.{OutOfMemory}
use Rattle.byte_device.specs.Device.{CountedState}
use Rattle.civil_time.specs.Calendar.{day_of_instant, checked_instant}
use Rattle.archive_args.specs.declared.orders.OrderStop.{OrderStop}
use Rattle.archive_args.specs.declared.orders.OrderStop.TheVariants as stop
use Rattle.sift_run.specs.declared.files.FileError.{FileError}
use Rattle.sift_run.specs.declared.files.FileError.TheVariants as file

-- ---- the day

-- the day number of so many seconds after 1970-01-01 00:00:00 UTC, if that lies in the years that a day may have
abbrev pub day_of_unix_seconds : ℕ → Option ℤ
day_of_unix_seconds seconds = option_map day_of_instant (checked_instant (pos seconds))

-- the day is that of the seconds which the system told
abbrev pub IsToday : {R : Type 0} → (tells : R → Option ℕ → Type 0) → R → Option ℤ → Type 0
IsToday tells system day = (seconds : Option ℕ) × tells system seconds × (day ≡ option_and_then day_of_unix_seconds seconds)

-- ---- files

-- want of memory is told as that, and every other fault of the system as a read that failed
abbrev pub file_error_of_kind : ErrorKind → FileError
file_error_of_kind OutOfMemory = file.Memory
file_error_of_kind _ = file.Read

-- the bytes are those that the system read under the name, or its fault is told
abbrev pub ReadsSystemFile : {R : Type 0} → (reads : R → List ℕ → Result (List ℕ) ErrorKind → Type 0) → R → List ℕ → Result (List ℕ) FileError → Type 0
ReadsSystemFile reads system name (Ok bytes) = reads system name (Ok bytes)
ReadsSystemFile reads system name (Err why) = (kind : ErrorKind) × reads system name (Err kind) × (why ≡ file_error_of_kind kind)

-- the input is the file that the system opened under the name, of which nothing was read yet, or the system's fault is told
abbrev pub OpensSystemFile : {R D : Type 0} → (opens : R → List ℕ → Result D ErrorKind → Type 0) → R → List ℕ → Result (CountedState D) FileError → Type 0
OpensSystemFile {R} {D} opens system name (Ok input) =
    (opened : D) × opens system name (Ok opened) × (input ≡ record { inner = opened; told = []; failures = 0; ends = 0 })
OpensSystemFile opens system name (Err why) = (kind : ErrorKind) × opens system name (Err kind) × (why ≡ file_error_of_kind kind)

-- ---- words

-- the words are those that the system was given, but the first, which is the program's name
abbrev pub AreProgramArguments : {R : Type 0} → (gave : R → Option (List (List ℕ)) → Type 0) → R → List (List ℕ) → Type 0
AreProgramArguments gave system words = (all : List (List ℕ)) × gave system (Some all) × (words ≡ drop 1 all)

-- why there are none: they cannot be read, or there was no memory for them
abbrev pub IsArgumentsError : {R : Type 0} → (gave : R → Option (List (List ℕ)) → Type 0) → R → OrderStop → Type 0
IsArgumentsError gave system (stop.Words text) = gave system None
IsArgumentsError gave system stop.Memory = Unit {0}
IsArgumentsError gave system (stop.Help text) = ⊥
