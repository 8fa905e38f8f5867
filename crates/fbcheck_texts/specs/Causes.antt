-- Why a call failed, in words.
use Rattle.std.specs.Prelude.{ℕ, Bool, true, false, List, Option, Some, None, codes}
use Rattle.std.specs.declared.io.ErrorKind.{ErrorKind}
use Rattle.std.specs.declared.io.ErrorKind.TheVariants as kind

-- why the system refuses an open or a read, by the words that are told
abbrev pub known_reason : ErrorKind → Option (List ℕ)
known_reason kind.NotFound = Some (codes "no such file")
known_reason kind.PermissionDenied = Some (codes "permission denied")
known_reason kind.IsADirectory = Some (codes "is a directory")
known_reason kind.NotADirectory = Some (codes "not a directory")
known_reason kind.InvalidFilename = Some (codes "invalid file name")
known_reason kind.FilesystemLoop = Some (codes "too many links")
known_reason kind.WouldBlock = Some (codes "operation would block")
known_reason kind.Interrupted = Some (codes "operation interrupted")
known_reason kind.InvalidInput = Some (codes "invalid input parameter")
known_reason kind.Unsupported = Some (codes "unsupported")
known_reason kind.ResourceBusy = Some (codes "resource busy")
known_reason kind.OutOfMemory = Some (codes "out of memory")
known_reason kind.StaleNetworkFileHandle = Some (codes "stale network file handle")
known_reason kind.TimedOut = Some (codes "timed out")
known_reason kind.NotConnected = Some (codes "not connected")
known_reason kind.ConnectionReset = Some (codes "connection reset")
known_reason kind.ConnectionRefused = Some (codes "connection refused")
known_reason kind.ConnectionAborted = Some (codes "connection aborted")
known_reason kind.HostUnreachable = Some (codes "host unreachable")
known_reason kind.NetworkUnreachable = Some (codes "network unreachable")
known_reason kind.NetworkDown = Some (codes "network down")
known_reason kind.AddrInUse = Some (codes "address in use")
known_reason kind.AddrNotAvailable = Some (codes "address not available")
known_reason kind.BrokenPipe = Some (codes "broken pipe")
known_reason kind.AlreadyExists = Some (codes "entity already exists")
known_reason kind.DirectoryNotEmpty = Some (codes "directory not empty")
known_reason kind.ReadOnlyFilesystem = Some (codes "read-only filesystem or storage medium")
known_reason kind.InvalidData = Some (codes "invalid data")
known_reason kind.WriteZero = Some (codes "write zero")
known_reason kind.StorageFull = Some (codes "no storage space")
known_reason kind.NotSeekable = Some (codes "seek on unseekable file")
known_reason kind.QuotaExceeded = Some (codes "quota exceeded")
known_reason kind.FileTooLarge = Some (codes "file too large")
known_reason kind.ExecutableFileBusy = Some (codes "executable file busy")
known_reason kind.Deadlock = Some (codes "deadlock")
known_reason kind.CrossesDevices = Some (codes "cross-device link or rename")
known_reason kind.TooManyLinks = Some (codes "too many links")
known_reason kind.ArgumentListTooLong = Some (codes "argument list too long")
known_reason kind.UnexpectedEof = Some (codes "unexpected end of file")
known_reason kind.InProgress = Some (codes "in progress")
known_reason kind.Other = Some (codes "other error")
known_reason kind.Uncategorized = None

-- or that it does, where there are no words for it
abbrev pub or_failed : Option (List ℕ) → List ℕ
or_failed None = codes "an open or a read failed"
or_failed (Some reason) = reason

-- why the system gives no file
abbrev pub reason_text : ErrorKind → List ℕ
reason_text cause = or_failed (known_reason cause)

-- whether a write failed since nobody reads the output any more
abbrev pub is_unread : Option ErrorKind → Bool
is_unread (Some kind.BrokenPipe) = true
is_unread _ = false
