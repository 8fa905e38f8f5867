-- What a fault of a part is told as, the exit status, and what a read of a file gives.
use Rattle.std.specs.Prelude.{ℕ, List, Option, Some, None, Result, Ok, Err}
use Rattle.fb_access.specs.declared.path_fault.PathFault.{PathFault}
use Rattle.fb_access.specs.declared.path_fault.PathFault.TheVariants as path
use Rattle.fb_bfbs.specs.declared.load_fault.LoadFault.{LoadFault}
use Rattle.fb_bfbs.specs.declared.load_fault.LoadFault.TheVariants as load
use Rattle.std.specs.declared.io.ErrorKind.{ErrorKind}
use Rattle.std.specs.declared.io.ErrorKind.TheVariants as kind
use Rattle.fbcheck_texts.specs.declared.fault.{FileFault.FileFault, WordsFault.WordsFault, WrongWord.WrongWord, AskFault.AskFault, AskFault.TheVariants.Load, AskFault.TheVariants.Path}
use Rattle.fbcheck_texts.specs.declared.fault.AskFault.TheVariants.{OutOfMemory}
use Rattle.std.specs.declared.alloc.AllocError.{AllocError}
use Rattle.fbcheck_texts.specs.declared.fault.FileFault.TheVariants as file
use Rattle.fbcheck_texts.specs.declared.fault.WordsFault.TheVariants as words

-- an error of this kind, where the words were read, of which this is the first that is no text or there was no memory
-- for it, and where a schema file was
abbrev pub words_fault : ErrorKind → Result WrongWord AllocError → WordsFault
words_fault kind.OutOfMemory word = words.OutOfMemory
words_fault _ (Err none) = words.OutOfMemory
words_fault _ (Ok word) = words.NotText word

abbrev pub file_fault : ErrorKind → FileFault
file_fault kind.OutOfMemory = file.OutOfMemory
file_fault cause = file.Unreadable cause

-- a fault of a load
abbrev pub load_fault : LoadFault → AskFault
load_fault load.OutOfMemory = OutOfMemory
load_fault cause = Load cause

-- of a path
abbrev pub path_fault : PathFault → AskFault
path_fault path.OutOfMemory = OutOfMemory
path_fault cause = Path cause

-- the exit status where there is nothing to check by
abbrev pub ask_status : AskFault → ℕ
ask_status OutOfMemory = 3
ask_status _ = 2

-- where a file is named, a read of it gave these bytes; where none is, there are none
abbrev pub IsFile : (List ℕ → Result (List ℕ) FileFault → Type 0) → Option (List ℕ) → Option (List ℕ) → Type 0
IsFile gives None None = Unit {0}
IsFile gives (Some name) (Some bytes) = gives name (Ok bytes)
IsFile gives _ _ = ⊥

-- a file is named, and a read of it had this fault
abbrev pub HasFileFault : (List ℕ → Result (List ℕ) FileFault → Type 0) → Option (List ℕ) → FileFault → Type 0
HasFileFault gives None fault = ⊥
HasFileFault gives (Some name) fault = gives name (Err fault)
