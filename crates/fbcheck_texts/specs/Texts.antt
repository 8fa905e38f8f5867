-- The text of each fault, as it stands behind the program's name.
use Rattle.std.specs.Prelude.{ℕ, ◌==◌, if◌then◌else◌, List, [], ◌++◌, Option, Some, None, codes, decimal}
use Rattle.std.specs.declared.io.ErrorKind.{ErrorKind}
use Rattle.fb_access.specs.{PathCodes.path_code, declared.path_fault.PathFault.PathFault}
use Rattle.fb_access.specs.declared.path_fault.PathFault.TheVariants as path
use Rattle.fb_bfbs.specs.{Codes.code_text, declared.load_fault.LoadFault.LoadFault}
use Rattle.fb_bfbs.specs.declared.load_fault.LoadFault.TheVariants as load
use Rattle.fb_schema.specs.declared.fault.SchemaFault.{SchemaFault}
use Rattle.fb_rules.specs.{Reasons.reason_text, declared.fault.Fault.Fault}
use Rattle.fb_run.specs.{FaultText.fault_text, Line.field_text, Line.numbers_text, declared.fault.RunFault.RunFault}
use Rattle.fb_run.specs.declared.fault.RunFault.TheVariants as run
use Rattle.fbcheck_texts.specs.Causes.{known_reason}
use Rattle.fbcheck_texts.specs.declared.{fault.AskFault.AskFault, fault.FileFault.FileFault, fault.WordsFault.WordsFault, causes.Causes.Causes}
use Rattle.fbcheck_texts.specs.declared.fault.AskFault.TheVariants as ask
use Rattle.fbcheck_texts.specs.declared.fault.FileFault.TheVariants as file
use Rattle.fbcheck_texts.specs.declared.fault.WordsFault.TheVariants as words

-- a reason behind what failed, where there is one
abbrev pub behind_colon : Option (List ℕ) → List ℕ
behind_colon None = []
behind_colon (Some reason) = codes ": " ++ reason

-- the reason of a failed read alone
abbrev pub of_read : Option ErrorKind → Causes
of_read cause = record { read = cause; write = None }

-- why a call failed, where that is known and told
abbrev pub cause_text : Option ErrorKind → List ℕ
cause_text None = []
cause_text (Some cause) = behind_colon (known_reason cause)

-- why a run came to rest, with the reason of a failed read or write
abbrev pub run_text : Causes → RunFault → List ℕ
run_text causes run.ReadFault = fault_text run.ReadFault ++ cause_text causes.read
run_text causes (run.WriteFault written) = fault_text (run.WriteFault written) ++ cause_text causes.write
run_text causes fault = fault_text fault

-- why the rejects aren't whole, and why there are none
abbrev pub unkept_text : ℕ → Option ErrorKind → List ℕ
unkept_text written cause = fault_text (run.RejectFault written) ++ cause_text cause

abbrev pub unmade_text : ErrorKind → List ℕ
unmade_text cause = codes "cannot write rejects" ++ cause_text (Some cause)

-- where a path doesn't fit
abbrev pub step_text : PathFault → List ℕ
step_text (path.BadText at) = codes " at=" ++ decimal at
step_text (path.NoSuchField step) = codes " step=" ++ decimal step
step_text (path.NotIndexable step) = codes " step=" ++ decimal step
step_text (path.NotAUnion step) = codes " step=" ++ decimal step
step_text (path.NoSuchMember step) = codes " step=" ++ decimal step
step_text (path.NotATable step) = codes " step=" ++ decimal step
step_text path.OutOfMemory = []

-- why a text is no path
abbrev pub path_text : PathFault → List ℕ
path_text fault = (path_code fault).1 ++ step_text fault

-- the first fault of a schema file that isn't well formed
abbrev pub ill_text : Fault → List ℕ
ill_text fault = codes "L1 " ++ reason_text fault.reason ++ codes " at=" ++ decimal fault.at ++ numbers_text fault

-- what is wrong with its rows
abbrev pub rows_text : SchemaFault → List ℕ
rows_text fault = codes "L2 " ++ code_text fault.code ++ codes " owner=" ++ decimal fault.owner ++ codes " part=" ++ field_text fault.part

-- why a file gives no schema
abbrev pub load_text : LoadFault → List ℕ
load_text (load.NotWellFormed fault) = ill_text fault
load_text (load.BadSchema fault) = rows_text fault
load_text load.RootNotListed = codes "L3 RootNotListed"
load_text load.OutOfMemory = codes "L4 OutOfMemory"
load_text load.TooLong = codes "L5 TooLong"
load_text load.TooMuchShared = codes "L6 TooMuchShared"

-- why there is nothing to check by
abbrev pub ask_text : AskFault → List ℕ
ask_text (ask.Load cause) = codes "schema: " ++ load_text cause
ask_text ask.NoRoot = codes "no root table"
ask_text (ask.Path cause) = codes "path: " ++ path_text cause
ask_text ask.NoIdent = codes "the schema's identifier isn't four bytes"
ask_text ask.UnmarkedBytes = codes "strict can't tell which bytes are nested buffers or flexbuffers"
ask_text ask.NoSuchTable = codes "strict can't find the table of a nested buffer"
ask_text ask.OutOfMemory = codes "out of memory"

-- why a schema file can't be read
abbrev pub file_text : FileFault → List ℕ
file_text (file.Unreadable cause) = codes "cannot read schema"
file_text file.OutOfMemory = codes "out of memory"

-- why a list of names can't be read
abbrev pub list_text : FileFault → List ℕ
list_text (file.Unreadable cause) = codes "cannot read names"
list_text file.OutOfMemory = codes "out of memory"

-- which word is no text, by its number, 0 being the program's own name
abbrev pub word_text : ℕ → List ℕ
word_text number = if number == 0 then codes "the program's own name is not UTF-8" else codes "a word is not UTF-8: number " ++ decimal number

-- why the words can't be read
abbrev pub words_text : WordsFault → List ℕ
words_text (words.NotText word) = word_text word.number
words_text words.OutOfMemory = codes "out of memory"

-- why the summary isn't whole
abbrev pub unsummed_text : ℕ → List ℕ
unsummed_text written = codes "write to standard error failed after " ++ decimal written ++ codes " bytes of the summary"

-- the line that tells that an input ended behind so many bad messages, as many as there may be
abbrev pub stopped_text : ℕ → List ℕ
stopped_text bad = codes "stopped at bad message " ++ decimal bad ++ codes "\n"
