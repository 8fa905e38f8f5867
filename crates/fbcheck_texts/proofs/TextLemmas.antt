-- How long the texts of codes are.
use Rattle.std.proofs.Common.{◌≤◌, length, arith}
use Rattle.fb_access.specs.{PathCodes.path_code, declared.path_fault.PathFault.PathFault}
use Rattle.fb_access.specs.declared.path_fault.PathFault.TheVariants as path
use Rattle.fb_bfbs.specs.Codes.{code_text}
use Rattle.fb_schema.specs.declared.fault.Code.{Code}
use Rattle.fb_schema.specs.declared.fault.Code.TheVariants as code

-- of a path's fault
pub path_short : (fault : PathFault) → length (path_code fault).1 ≤ 20
path_short (path.BadText at) = omega arith
path_short _ = omega arith

-- and of what is wrong with rows
pub code_short : (fault : Code) → length (code_text fault) ≤ 20
code_short code.NoSuchObject = omega arith
code_short _ = omega arith
