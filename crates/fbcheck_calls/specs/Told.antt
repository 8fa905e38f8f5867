-- How an answer is told in numbers.
use Rattle.std.specs.Prelude.{ℕ, min, replicate, Option, Some, None, Result, Ok, Err}
use Rattle.fb_schema.specs.declared.fault.Code.{Code}
use Rattle.fb_schema.specs.declared.fault.Code.TheVariants.{NoSuchObject, NoSuchEnum, Unsupported, BadSlot, NoTypeField, BadStruct, BadMember, NameTwice, OutOfMemory as NoMemory}
use Rattle.fb_rules.specs.{Reasons.reason_number, declared.fault.Fault.Fault, declared.fault.Report.Report}
use Rattle.fb_access.specs.declared.path_fault.PathFault.{PathFault}
use Rattle.fb_access.specs.declared.path_fault.PathFault.TheVariants as path
use Rattle.fb_bytes.specs.declared.stream_fault.StreamFault.{StreamFault}
use Rattle.fb_bytes.specs.declared.stream_fault.StreamFault.TheVariants as stream
use Rattle.fb_bfbs.specs.declared.load_fault.LoadFault.{LoadFault}
use Rattle.fb_bfbs.specs.declared.load_fault.LoadFault.TheVariants as load
use Rattle.fbcheck_calls.specs.declared.{outcome.Outcome.Outcome, outcome.FieldAt.FieldAt, outcome.Verdict.Verdict, status.Status.Status}
use Rattle.fbcheck_calls.specs.declared.outcome.Outcome.TheVariants.{Done, Good, Bad, UnknownOptions, OutOfRange, NoIdent, NoRoot, TooLong, NoSchema, NoSpan, BadStream, BadPath, NoRoom}
use Rattle.fbcheck_calls.specs.declared.outcome.Outcome.TheVariants.{Misfit, NotPlanned, UnmarkedBytes, NoSuchTable, Changed}
use Rattle.fbcheck_calls.specs.declared.status.Status.TheVariants as status

-- the number of a status, as C has it
abbrev pub number : Status → ℕ
number status.Done = 0
number status.Bad = 1
number status.Null = 2
number status.UnknownOptions = 3
number status.OutOfRange = 4
number status.NoIdent = 5
number status.NoRoot = 6
number status.TooLong = 7
number status.NotWellFormed = 8
number status.BadSchema = 9
number status.RootNotListed = 10
number status.OutOfMemory = 11
number status.NoSpan = 12
number status.More = 13
number status.Oversize = 14
number status.Truncated = 15
number status.Failed = 16
number status.BadPath = 17
number status.NoRoom = 18
number status.Misfit = 19
number status.TooMuchShared = 20
number status.NotPlanned = 21
number status.UnmarkedBytes = 22
number status.NoSuchTable = 23
number status.Changed = 24

-- what is wrong with rows, by the number of its code
abbrev pub code_number : Code → ℕ
code_number NoSuchObject = 1
code_number NoSuchEnum = 2
code_number Unsupported = 3
code_number BadSlot = 4
code_number NoTypeField = 5
code_number BadStruct = 6
code_number BadMember = 7
code_number NameTwice = 8
code_number NoMemory = 9

-- the number of no field, and of no part
abbrev pub none_number : ℕ
none_number = 4294967295

abbrev pub field_number : Option ℕ → ℕ
field_number (Some n) = n
field_number None = none_number

abbrev pub part_number : Option ℕ → ℕ
part_number (Some n) = n
part_number None = none_number

-- so many reads, or the greatest number that there is room for
abbrev pub low : ℕ → ℕ
low reads = min reads 18446744073709551615

-- a status, with nothing more to tell
abbrev pub blank : Status → Verdict
blank s = record { status = number s; reason = 0; object = 0; field = none_number; tables = 0; depth = 0; at = 0; reads = 0; reserved = replicate 3 0 }

-- a fault of the verifier
abbrev pub fault_told : Status → Fault → Verdict
fault_told s f = record (blank s) { reason = reason_number f.reason; object = f.object; field = field_number f.field; at = f.at; reads = low f.reads }

-- why a schema file gives no schema
abbrev pub load_told : LoadFault → Verdict
load_told load.TooLong = blank status.TooLong
load_told (load.NotWellFormed f) = fault_told status.NotWellFormed f
load_told (load.BadSchema f) = record (blank status.BadSchema) { reason = code_number f.code; object = f.owner; field = part_number f.part }
load_told load.RootNotListed = blank status.RootNotListed
load_told load.OutOfMemory = blank status.OutOfMemory
load_told load.TooMuchShared = blank status.TooMuchShared

-- what is wrong with a stream
abbrev pub stream_status : StreamFault → Status
stream_status stream.OutOfMemory = status.OutOfMemory
stream_status (stream.Oversize bytes) = status.Oversize
stream_status (stream.Truncated held) = status.Truncated
stream_status stream.Failed = status.Failed

-- a fault of a path, by the number of its code, and the place in the text or the number of the step
abbrev pub misplaced : ℕ → ℕ → Verdict
misplaced reason at = record (blank status.BadPath) { reason = reason; at = at }

-- why a text is no path
abbrev pub path_told : PathFault → Verdict
path_told (path.BadText at) = misplaced 1 at
path_told (path.NoSuchField step) = misplaced 2 step
path_told (path.NotIndexable step) = misplaced 3 step
path_told (path.NotAUnion step) = misplaced 4 step
path_told (path.NoSuchMember step) = misplaced 5 step
path_told (path.NotATable step) = misplaced 6 step
path_told path.OutOfMemory = blank status.OutOfMemory

-- a field that keeps demands from being asked, by the numbers of its table and its own
abbrev pub field_told : Status → FieldAt → Verdict
field_told s f = record (blank s) { object = f.object; field = f.field }

-- the answer by what a check found
abbrev pub found_by : {G B : Type 0} → (G → Report) → (B → Fault) → Result G B → Outcome
found_by report fault (Ok good) = Good (report good)
found_by report fault (Err bad) = Bad (fault bad)

-- an answer in numbers
abbrev pub told : Outcome → Verdict
told Done = blank status.Done
told (Good r) = record (blank status.Done) { tables = r.tables; depth = r.depth; reads = low r.reads }
told (Bad f) = fault_told status.Bad f
told UnknownOptions = blank status.UnknownOptions
told OutOfRange = blank status.OutOfRange
told NoIdent = blank status.NoIdent
told NoRoot = blank status.NoRoot
told TooLong = blank status.TooLong
told (NoSchema fault) = load_told fault
told NoSpan = blank status.NoSpan
told (BadStream fault) = blank (stream_status fault)
told (BadPath fault) = path_told fault
told NoRoom = blank status.NoRoom
told (Misfit place) = record (blank status.Misfit) { at = place }
told NotPlanned = blank status.NotPlanned
told (UnmarkedBytes f) = field_told status.UnmarkedBytes f
told (NoSuchTable f) = field_told status.NoSuchTable f
told (Changed at) = record (blank status.Changed) { at = at }
