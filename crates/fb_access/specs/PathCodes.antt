-- What the faults of paths are called where they are told.
use Rattle.std.specs.Prelude.{ℕ, List, codes}
use Rattle.fb_access.specs.declared.path_fault.PathFault.{PathFault}
use Rattle.fb_access.specs.declared.path_fault.PathFault.TheVariants.{BadText, NoSuchField, NotIndexable, NotAUnion, NoSuchMember, NotATable, OutOfMemory}

-- a fault's number, and its code and name
abbrev pub path_code : PathFault → ℕ × List ℕ
path_code (BadText at) = (1, codes "P1 BadText")
path_code (NoSuchField step) = (2, codes "P2 NoSuchField")
path_code (NotIndexable step) = (3, codes "P3 NotIndexable")
path_code (NotAUnion step) = (4, codes "P4 NotAUnion")
path_code (NoSuchMember step) = (5, codes "P5 NoSuchMember")
path_code (NotATable step) = (6, codes "P6 NotATable")
path_code OutOfMemory = (7, codes "P7 OutOfMemory")
