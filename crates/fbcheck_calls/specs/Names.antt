-- Names by their numbers, and how they are copied.
use Rattle.std.specs.Prelude.{◌≡◌, ◌≢◌, ℕ, nat_le, codes, List, [], ◌∷◌, ◌++◌, drop, length, slice_get, IsSome, Option, Some, None, option_map, if◌then◌else◌}
use Rattle.fb_schema.specs.{Rows.Rows, Rows.table_named, declared.fault.Code.Code}
use Rattle.fb_rules.specs.{Reasons.reason_number, Reasons.reason_text, declared.fault.Reason.Reason}
use Rattle.fb_access.specs.{PathCodes.path_code, declared.path_fault.PathFault.PathFault}
use Rattle.fb_access.specs.declared.path_fault.PathFault.TheVariants as path
use Rattle.fb_bfbs.specs.Codes.{code_text}
use Rattle.fb_bfbs.specs.declared.load_fault.LoadFault.TheVariants as load
use Rattle.fbcheck_calls.specs.{Told.code_number, Told.told, declared.outcome.Outcome.Outcome, declared.outcome.Outcome.TheVariants.Bad, declared.outcome.Outcome.TheVariants.BadPath}
use Rattle.fbcheck_calls.specs.declared.{outcome.Outcome.TheVariants.NoSchema, held.Held.Held, held.Held.TheVariants.Schema, held.Held.TheVariants.Room}

-- no reason has this number
abbrev pub NumbersNothing : ℕ → Type 0
NumbersNothing n = (r : Reason) → reason_number r ≡ n → ⊥

abbrev pub object_name : Rows → ℕ → Option (List ℕ)
object_name rows n = option_map (λ o. o.name) (slice_get rows.objects n)

-- room after a text was copied to its front, or as it was where the text has more bytes
abbrev pub filled : List ℕ → List ℕ → List ℕ
filled text room = if nat_le (length text) (length room) then text ++ drop (length text) room else room

-- what is told of a name: its length, and it is copied where there is room; or 0, and nothing is
abbrev pub IsNameTold : Option (List ℕ) → List ℕ → List ℕ → ℕ → Type 0
IsNameTold (Some name) room room' told = (told ≡ length name) × (room' ≡ filled name room)
IsNameTold None room room' told = (told ≡ 0) × (room' ≡ room)

-- a name by what is shared, none where it is no schema
abbrev pub held_name : Held → (Rows → Option (List ℕ)) → Option (List ℕ)
held_name (Schema s) name = name s.loaded.schema
held_name (Room r) name = None

-- the number of a table by its name, or the number of none
abbrev pub number_or_none : Option ℕ → ℕ
number_or_none (Some n) = n
number_or_none None = 4294967294

abbrev pub table_number : Held → List ℕ → ℕ
table_number (Schema s) name = number_or_none (table_named s.loaded.schema name)
table_number (Room r) name = 4294967294

-- the name of the reason with this number, or that there is none
abbrev pub IsReasonName : ℕ → Option (List ℕ) → Type 0
IsReasonName n (Some text) = (r : Reason) × (reason_number r ≡ n) × (text ≡ reason_text r)
IsReasonName n None = NumbersNothing n

-- that of what is wrong with rows
abbrev pub IsCodeName : ℕ → Option (List ℕ) → Type 0
IsCodeName n (Some text) = (c : Code) × (code_number c ≡ n) × (text ≡ code_text c)
IsCodeName n None = (c : Code) → code_number c ≡ n → ⊥

-- that of why a text is no path
abbrev pub IsPathName : ℕ → Option (List ℕ) → Type 0
IsPathName n (Some text) = (f : PathFault) × ((path_code f).0 ≡ n) × (text ≡ (path_code f).1)
IsPathName n None = (f : PathFault) → (path_code f).0 ≡ n → ⊥

-- the name of a fault, by the status with which it is told and its number
pub record IsFaultName (status n : ℕ) (name : Option (List ℕ)) : Type 0 where
  pub of_buffer : status ≡ 1 → IsReasonName n name
  pub of_file : status ≡ 8 → IsReasonName n name
  pub of_rows : status ≡ 9 → IsCodeName n name
  pub of_text : status ≡ 17 → IsPathName n name
  pub of_nothing : status ≢ 1 → status ≢ 8 → status ≢ 9 → status ≢ 17 → name ≡ None

-- what each status says in words, by its number
abbrev pub status_texts : List (List ℕ)
status_texts =
    codes "good" ∷ codes "bad" ∷ codes "a pointer is null" ∷ codes "the options are of another version"
    ∷ codes "a depth or a room is out of range" ∷ codes "the schema's identifier isn't four bytes" ∷ codes "no root table"
    ∷ codes "2^31 bytes or more" ∷ codes "not well formed" ∷ codes "no schema" ∷ codes "its root table isn't listed"
    ∷ codes "out of memory" ∷ codes "the span isn't in the block" ∷ codes "the message goes on"
    ∷ codes "a message is too long for the room" ∷ codes "the stream ends inside a message"
    ∷ codes "the stream has failed before" ∷ codes "no path" ∷ codes "too many steps"
    ∷ codes "a path is none of this schema's from this root" ∷ codes "its rows or names are more than its length pays for"
    ∷ codes "the schema was made with other demands" ∷ codes "strict can't tell which bytes are nested buffers or flexbuffers"
    ∷ codes "strict can't find the table of a nested buffer" ∷ codes "the bytes aren't those of a good buffer" ∷ []

abbrev pub status_text : ℕ → Option (List ℕ)
status_text n = slice_get status_texts n

-- the code and name of the fault that an answer has, if it is told by a number
abbrev pub fault_name : Outcome → Option (List ℕ)
fault_name (Bad f) = Some (reason_text f.reason)
fault_name (NoSchema (load.NotWellFormed f)) = Some (reason_text f.reason)
fault_name (NoSchema (load.BadSchema f)) = Some (code_text f.code)
fault_name (BadPath path.OutOfMemory) = None
fault_name (BadPath f) = Some (path_code f).1
fault_name _ = None

-- what is the name by the numbers that an answer is told by is that of its own fault
abbrev pub FaultsHaveTheirNames : Type 0
FaultsHaveTheirNames = (a : Outcome) (name : Option (List ℕ)) → IsFaultName (told a).status (told a).reason name → name ≡ fault_name a

-- each answer is told by a status that has words
abbrev pub StatusesHaveWords : Type 0
StatusesHaveWords = (a : Outcome) → IsSome (status_text (told a).status)
