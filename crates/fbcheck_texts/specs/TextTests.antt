-- The texts of faults by example.
use Rattle.std.specs.Prelude.{◌≡◌, Some, None, codes}
use Rattle.std.specs.declared.io.ErrorKind.TheVariants as kind
use Rattle.fb_access.specs.declared.path_fault.PathFault.TheVariants as path
use Rattle.fb_bfbs.specs.declared.load_fault.LoadFault.TheVariants as load
use Rattle.fb_bytes.specs.declared.stream_fault.StreamFault.TheVariants as stream
use Rattle.fb_schema.specs.declared.{fault.Code.TheVariants.BadSlot, fault.SchemaFault.SchemaFault}
use Rattle.fb_rules.specs.declared.{fault.Fault.Fault, fault.Reason.TheVariants.TooDeep, fault.Reason.TheVariants.WrongIdentifier}
use Rattle.fb_run.specs.{FaultText.fault_text, FaultText.stream_text}
use Rattle.fb_run.specs.declared.fault.RunFault.TheVariants as run
use Rattle.fbcheck_texts.specs.Texts.{ask_text, load_text, of_read, path_text, run_text, stopped_text, unkept_text, unmade_text}
use Rattle.fbcheck_texts.specs.declared.fault.AskFault.TheVariants as ask

-- those of a run
pub record RunTexts : Type 0 where
  pub read : run_text (of_read None) run.ReadFault ≡ codes "read failed"
  pub read_folder : run_text (of_read (Some kind.IsADirectory)) run.ReadFault ≡ codes "read failed: is a directory"
  pub read_early : run_text (of_read (Some kind.WouldBlock)) run.ReadFault ≡ codes "read failed: operation would block"
  pub read_unknown : run_text (of_read (Some kind.Uncategorized)) run.ReadFault ≡ codes "read failed"
  pub write : run_text (of_read (Some kind.WouldBlock)) (run.WriteFault 30) ≡ codes "write failed after 30 bytes"
  pub write_full : run_text (record { read = None; write = Some kind.StorageFull }) (run.WriteFault 30) ≡ codes "write failed after 30 bytes: no storage space"
  pub read_alone : run_text (record { read = None; write = Some kind.StorageFull }) run.ReadFault ≡ codes "read failed"
  pub note : fault_text (run.NoteFault 0) ≡ codes "write to standard error failed after 0 bytes"
  pub reject : unkept_text 30 (Some kind.StorageFull) ≡ codes "write of rejects failed after 30 bytes: no storage space"
  pub unmade : unmade_text kind.PermissionDenied ≡ codes "cannot write rejects: permission denied"
  pub oversize : fault_text (run.Stream (stream.Oversize 4294967295)) ≡ codes "stream: S1 Oversize declared=4294967295"
  pub truncated : fault_text (run.Stream (stream.Truncated 31)) ≡ codes "stream: S2 Truncated held=31"
  pub no_room : stream_text stream.OutOfMemory ≡ codes "S3 OutOfMemory"
  pub again : stream_text stream.Failed ≡ codes "S4 Failed"
  pub turns : fault_text run.TooManyTurns ≡ codes "too many reads"
  pub memory : fault_text run.OutOfMemory ≡ codes "out of memory"
  pub too_long : fault_text (run.BareTooLong 31) ≡ codes "input longer than 31 bytes"
  pub stopped : stopped_text 10 ≡ codes "stopped at bad message 10\n"
  pub too_short : fault_text (run.SkipPastEnd 31) ≡ codes "the input ends before its first 31 bytes are skipped"

-- a schema file with a fault in a field, and one whose rows have one, in a part or in none
abbrev pub deep : Fault
deep = record { at = 31; object = 4; field = Some 1; reads = 8; reason = TooDeep }

abbrev pub odd_slot : SchemaFault
odd_slot = record { code = BadSlot; owner = 3; part = Some 2 }

-- those of a schema file
pub record LoadTexts : Type 0 where
  pub ill : load_text (load.NotWellFormed deep) ≡ codes "L1 V6 TooDeep at=31 object=4 field=1 reads=8"
  pub no_field : load_text (load.NotWellFormed (record deep { field = None; reason = WrongIdentifier })) ≡ codes "L1 V5 WrongIdentifier at=31 object=4 field=- reads=8"
  pub rows : load_text (load.BadSchema odd_slot) ≡ codes "L2 C4 BadSlot owner=3 part=2"
  pub no_part : load_text (load.BadSchema (record odd_slot { part = None })) ≡ codes "L2 C4 BadSlot owner=3 part=-"
  pub unlisted : load_text load.RootNotListed ≡ codes "L3 RootNotListed"
  pub memory : load_text load.OutOfMemory ≡ codes "L4 OutOfMemory"
  pub long : load_text load.TooLong ≡ codes "L5 TooLong"
  pub shared : load_text load.TooMuchShared ≡ codes "L6 TooMuchShared"

-- and what else there may be nothing to check by for
pub record AskTexts : Type 0 where
  pub file : ask_text (ask.Load load.TooLong) ≡ codes "schema: L5 TooLong"
  pub root : ask_text ask.NoRoot ≡ codes "no root table"
  pub text : ask_text (ask.Path (path.BadText 3)) ≡ codes "path: P1 BadText at=3"
  pub name : path_text (path.NoSuchField 0) ≡ codes "P2 NoSuchField step=0"
  pub index : path_text (path.NotIndexable 1) ≡ codes "P3 NotIndexable step=1"
  pub union : path_text (path.NotAUnion 2) ≡ codes "P4 NotAUnion step=2"
  pub member : path_text (path.NoSuchMember 12) ≡ codes "P5 NoSuchMember step=12"
  pub table : path_text (path.NotATable 1) ≡ codes "P6 NotATable step=1"
  pub path_memory : path_text path.OutOfMemory ≡ codes "P7 OutOfMemory"
  pub ident : ask_text ask.NoIdent ≡ codes "the schema's identifier isn't four bytes"
  pub unmarked : ask_text ask.UnmarkedBytes ≡ codes "strict can't tell which bytes are nested buffers or flexbuffers"
  pub lost : ask_text ask.NoSuchTable ≡ codes "strict can't find the table of a nested buffer"
  pub memory : ask_text ask.OutOfMemory ≡ codes "out of memory"
