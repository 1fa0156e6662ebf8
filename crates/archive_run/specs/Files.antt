-- What is read of a file that is opened by its name.
use Rattle.std.specs.Prelude.{◌≡◌, ◌+◌, ◌++◌, ℕ, List, Ok, Err}
use Rattle.byte_device.specs.declared.devices.Source.{Ghosts as Reads}
use Rattle.sift_run.specs.declared.files.FileError.{FileError}
use Rattle.sift_run.specs.declared.files.StreamedFiles.{Ghosts}

module _ {F I : Type 0} (opens : Ghosts F I) (reads : Reads I) (files : F) (name : List ℕ) where
  -- The file of this name gave an input. From there on this text was read of it, it met its end so often, and failed so often;
  -- and this became of what was read.
  pub record ReadsOpenedFile (Becomes : (text : List ℕ) → (ended failed : ℕ) → Type 0) : Type 0 where
    pub input_before : I
    pub input_after : I
    pub opens_input : opens.inputs files name (Ok input_before)
    pub text : List ℕ
    pub end_count : ℕ
    pub failure_count : ℕ
    pub reads_text : reads.told input_after ≡ reads.told input_before ++ text
    pub adds_end_reads : reads.ends input_after ≡ reads.ends input_before + end_count
    pub adds_failed_reads : reads.failures input_after ≡ reads.failures input_before + failure_count
    pub input_becomes : Becomes text end_count failure_count

  -- It gave none, for this fault.
  abbrev pub GivesNoInput : FileError → Type 0
  GivesNoInput fault = opens.inputs files name (Err fault)
