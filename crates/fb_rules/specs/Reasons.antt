-- What the reasons are called where they are told.
use Rattle.std.specs.Prelude.{ℕ, List, [], ◌∷◌, codes}
use Rattle.fb_rules.specs.declared.fault.Reason.{Reason}
use Rattle.fb_rules.specs.declared.fault.Reason.TheVariants.{WrongPrefix, OutOfBuffer, Misaligned, ZeroOffset, WrongIdentifier, TooDeep, TooManyTables, BadVtable}
use Rattle.fb_rules.specs.declared.fault.Reason.TheVariants.{MissingRequired, NoTerminator, LengthsDiffer, PastTable, TooManyReads, FlexContent, NotUtf8, UnknownField}

-- a reason's number, and its code and name
abbrev pub reason_code : Reason → ℕ × List ℕ
reason_code WrongPrefix = (1, codes "V1 WrongPrefix")
reason_code OutOfBuffer = (2, codes "V2 OutOfBuffer")
reason_code Misaligned = (3, codes "V3 Misaligned")
reason_code ZeroOffset = (4, codes "V4 ZeroOffset")
reason_code WrongIdentifier = (5, codes "V5 WrongIdentifier")
reason_code TooDeep = (6, codes "V6 TooDeep")
reason_code TooManyTables = (7, codes "V7 TooManyTables")
reason_code BadVtable = (8, codes "V8 BadVtable")
reason_code MissingRequired = (9, codes "V9 MissingRequired")
reason_code NoTerminator = (10, codes "V10 NoTerminator")
reason_code LengthsDiffer = (11, codes "V11 LengthsDiffer")
reason_code PastTable = (12, codes "V12 PastTable")
reason_code TooManyReads = (13, codes "V13 TooManyReads")
reason_code FlexContent = (14, codes "V14 FlexContent")
reason_code NotUtf8 = (15, codes "V15 NotUtf8")
reason_code UnknownField = (16, codes "V16 UnknownField")

-- all in the order of their numbers, and how many they are
abbrev pub reasons : List Reason
reasons =
    WrongPrefix ∷ OutOfBuffer ∷ Misaligned ∷ ZeroOffset ∷ WrongIdentifier ∷ TooDeep ∷ TooManyTables ∷ BadVtable
    ∷ MissingRequired ∷ NoTerminator ∷ LengthsDiffer ∷ PastTable ∷ TooManyReads ∷ FlexContent ∷ NotUtf8 ∷ UnknownField ∷ []

abbrev pub reason_count : ℕ
reason_count = 16

abbrev pub reason_number : Reason → ℕ
reason_number reason = (reason_code reason).0

abbrev pub reason_text : Reason → List ℕ
reason_text reason = (reason_code reason).1
