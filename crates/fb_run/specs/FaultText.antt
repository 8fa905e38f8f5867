-- The texts of a run's faults.
use Rattle.std.specs.Prelude.{ℕ, List, ◌++◌, codes, decimal}
use Rattle.fb_bytes.specs.declared.stream_fault.StreamFault.{StreamFault}
use Rattle.fb_bytes.specs.declared.stream_fault.StreamFault.TheVariants as stream
use Rattle.fb_run.specs.declared.fault.RunFault.{RunFault}
use Rattle.fb_run.specs.declared.fault.RunFault.TheVariants.{ReadFault, WriteFault, NoteFault, RejectFault, Stream, TooManyTurns, OutOfMemory, BareTooLong, SkipPastEnd}

-- what is wrong with a stream
abbrev pub stream_text : StreamFault → List ℕ
stream_text (stream.Oversize declared) = codes "S1 Oversize declared=" ++ decimal declared
stream_text (stream.Truncated held) = codes "S2 Truncated held=" ++ decimal held
stream_text stream.OutOfMemory = codes "S3 OutOfMemory"
stream_text stream.Failed = codes "S4 Failed"

-- why a run came to rest
abbrev pub fault_text : RunFault → List ℕ
fault_text ReadFault = codes "read failed"
fault_text (WriteFault written) = codes "write failed after " ++ decimal written ++ codes " bytes"
fault_text (NoteFault written) = codes "write to standard error failed after " ++ decimal written ++ codes " bytes"
fault_text (RejectFault written) = codes "write of rejects failed after " ++ decimal written ++ codes " bytes"
fault_text (Stream cause) = codes "stream: " ++ stream_text cause
fault_text TooManyTurns = codes "too many reads"
fault_text OutOfMemory = codes "out of memory"
fault_text (SkipPastEnd skip) = codes "the input ends before its first " ++ decimal skip ++ codes " bytes are skipped"
fault_text (BareTooLong limit) = codes "input longer than " ++ decimal limit ++ codes " bytes"
