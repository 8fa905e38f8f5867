-- What is said of rows that are no schema.
use Rattle.std.specs.Prelude.{ℕ, List, codes}
use Rattle.fb_schema.specs.declared.fault.Code.{Code}
use Rattle.fb_schema.specs.declared.fault.Code.TheVariants.{NoSuchObject, NoSuchEnum, Unsupported, BadSlot, NoTypeField, BadStruct, BadMember, NameTwice, OutOfMemory}

-- the code and name of what is wrong with them
abbrev pub code_text : Code → List ℕ
code_text NoSuchObject = codes "C1 NoSuchObject"
code_text NoSuchEnum = codes "C2 NoSuchEnum"
code_text Unsupported = codes "C3 Unsupported"
code_text BadSlot = codes "C4 BadSlot"
code_text NoTypeField = codes "C5 NoTypeField"
code_text BadStruct = codes "C6 BadStruct"
code_text BadMember = codes "C7 BadMember"
code_text NameTwice = codes "C8 NameTwice"
code_text OutOfMemory = codes "C9 OutOfMemory"
