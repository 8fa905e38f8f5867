-- The lines that tell verdicts.
use Rattle.std.specs.Prelude.{◌≡◌, ℕ, List, [], ◌++◌, map, Option, Some, None, Ok, Err, codes, decimal}
use Rattle.json.specs.Json.{Members}
use Rattle.fb_access.specs.Denotes.{Shown}
use Rattle.fb_run.specs.{AnswerText.answers_text, AnswerText.label_text, Csv.IsRow, Job.IsVerdict, Job.Job, Job.Verdict, Job.buffer_in, Json.IsValuesMember, Json.IsYes}
use Rattle.fb_run.specs.{Json.begin_part, Json.counts_part, Json.following, Json.json_no, Spot.Before, Spot.spot_of, Texts.Texts, Texts.silent, Texts.spoken, Texts.to_notes}
use Rattle.fb_run.specs.{Texts.to_out, Wanted.Wanted, declared.spot.Spot.Spot, declared.options.LineForm.LineForm, declared.options.LineForm.TheVariants.Plain}
use Rattle.fb_run.specs.declared.options.{LineForm.TheVariants.Json, Mode.Mode, Rejects.Rejects, Rejects.TheVariants.Dropped, Rejects.TheVariants.Kept, Mode.TheVariants.Lines}
use Rattle.fb_run.specs.declared.options.Mode.TheVariants.{BadLines, Filter, Csv}
use Rattle.fb_rules.specs.{declared.fault.Fault.Fault, declared.fault.Report.Report, Reasons.reason_text}

-- a field's number, where there is one
abbrev pub field_text : Option ℕ → List ℕ
field_text None = codes "-"
field_text (Some number) = decimal number

-- what the line of a yes has behind the message's number
abbrev pub yes_text : Report → List ℕ
yes_text report =
    codes " ok tables=" ++ decimal report.tables ++ codes " depth=" ++ decimal report.depth
    ++ codes " reads=" ++ decimal report.reads

-- where in the schema a fault is, and the reads by then
abbrev pub numbers_text : Fault → List ℕ
numbers_text fault =
    codes " object=" ++ decimal fault.object ++ codes " field=" ++ field_text fault.field
    ++ codes " reads=" ++ decimal fault.reads

-- what the line of a no has behind the message's number
abbrev pub no_text : Fault → List ℕ
no_text fault = codes " bad " ++ reason_text fault.reason ++ codes " at=" ++ decimal fault.at ++ numbers_text fault

-- the line of the verdict on message number k but for what was asked for
abbrev pub short_line : ℕ → Verdict → List ℕ
short_line k (Ok found) = decimal k ++ yes_text found.report
short_line k (Err bad) = decimal k ++ no_text bad.fault

-- a place in words behind a space, where there is one
abbrev pub words_text : Option (List ℕ) → List ℕ
words_text None = []
words_text (Some words) = codes " " ++ words

-- what was asked for: the values of a yes, the place of a no in words
abbrev pub asked_text : Verdict → List ℕ
asked_text (Ok found) = answers_text found.answers
asked_text (Err bad) = words_text bad.place

-- the line of the verdict on message number k
abbrev pub verdict_line : ℕ → Verdict → List ℕ
verdict_line k verdict = short_line k verdict ++ (asked_text verdict ++ codes "\n")

-- the same as JSON
abbrev pub IsJsonLine : Job → Spot → Verdict → List ℕ → Type 0
IsJsonLine job spot (Ok found) line = IsYes job.label spot found.report (map (λ (wanted : Wanted). wanted.text) job.paths) found.answers line
IsJsonLine job spot (Err bad) line = line ≡ json_no job.label spot job.rows bad.fault bad.place

-- the line of the verdict on the message there, with the input's name where it has one: before it, or as JSON has it
abbrev pub IsLineIn : LineForm → Job → Spot → Verdict → List ℕ → Type 0
IsLineIn Plain job spot verdict line = line ≡ label_text job.label ++ verdict_line spot.number verdict
IsLineIn Json job spot verdict line = IsJsonLine job spot verdict line

-- what is written of a message: the row of a good one, where rows are asked for, and else its line
abbrev pub IsLineBy : Mode → Job → Spot → Verdict → List ℕ → Type 0
IsLineBy Csv job spot (Ok found) row = IsRow job.label found.answers row
IsLineBy _ job spot verdict line = IsLineIn job.terms.form job spot verdict line

abbrev pub IsLine : Job → Spot → Verdict → List ℕ → Type 0
IsLine job = IsLineBy job.terms.mode job

-- what the line of a yes has behind its counts
abbrev pub IsRest : LineForm → List (List ℕ) → List Shown → List ℕ → Type 0
IsRest Plain paths shown text = text ≡ answers_text shown ++ codes "\n"
IsRest Json paths shown text = (values : Members) × IsValuesMember paths shown values × (text ≡ following values ++ codes "\n")

-- what its line has up to there, or all of the line of a no
abbrev pub front_in : LineForm → Job → Spot → Verdict → List ℕ
front_in Plain job spot (Ok found) = label_text job.label ++ short_line spot.number (Ok found)
front_in Json job spot (Ok found) = begin_part job.label spot ++ counts_part found.report
front_in Plain job spot (Err bad) = label_text job.label ++ verdict_line spot.number (Err bad)
front_in Json job spot (Err bad) = json_no job.label spot job.rows bad.fault bad.place

-- a line that goes there
abbrev pub TellsLine : (List ℕ → Type 0) → (List ℕ → Texts) → Texts → Type 0
TellsLine IsItsLine there told = (line : List ℕ) × IsItsLine line × (told ≡ there line)

-- what is said of a message by its verdict: the line of each, that of each bad message alone, or the good message itself
-- and, in the notes, the line of a bad one; or the row of a good message, and the line of a bad one in the notes
abbrev pub SaidBy : Mode → (List ℕ → Type 0) → List ℕ → Verdict → Texts → Type 0
SaidBy Lines IsItsLine message verdict told = TellsLine IsItsLine to_out told
SaidBy BadLines IsItsLine message (Ok found) told = told ≡ silent
SaidBy BadLines IsItsLine message (Err bad) told = TellsLine IsItsLine to_out told
SaidBy Filter IsItsLine message (Ok found) told = told ≡ to_out message
SaidBy Filter IsItsLine message (Err bad) told = TellsLine IsItsLine to_notes told
SaidBy Csv IsItsLine message (Ok found) told = TellsLine IsItsLine to_out told
SaidBy Csv IsItsLine message (Err bad) told = TellsLine IsItsLine to_notes told

-- what the rejects get of it: a bad message itself, where these are kept
abbrev pub rejected : Verdict → Rejects → List ℕ → List ℕ
rejected (Ok found) rejects message = []
rejected (Err bad) Dropped message = []
rejected (Err bad) Kept message = message

-- both
abbrev pub ToldBy : Mode → Rejects → (List ℕ → Type 0) → List ℕ → Verdict → Texts → Type 0
ToldBy mode rejects IsItsLine message verdict told = SaidBy mode IsItsLine message verdict (spoken told) × (told.rejects ≡ rejected verdict rejects message)

-- what is told of the message behind so much, by the verdict on the buffer in it
pub record IsTold (job : Job) (before : Before) (bytes : List ℕ) (verdict : Verdict) (told : Texts) : Type 0 where
  pub verdict_is : IsVerdict job (buffer_in job bytes) verdict
  pub text : ToldBy job.terms.mode job.rejects (IsLine job (spot_of before bytes) verdict) bytes verdict told
