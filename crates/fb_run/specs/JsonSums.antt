-- The line of JSON that tells what messages come to: an object with the names of the plain line.
use Rattle.std.specs.Prelude.{◌≡◌, ℕ, ◌+◌, ◌==◌, if◌then◌else◌, List, [], ◌∷◌, ◌++◌, codes, decimal}
use Rattle.json.specs.Json.{Json, object, Members, no_members, member}
use Rattle.fb_run.specs.{Json.count_json, Json.json_text, Sums.count_of, Sums.no_tally, Sums.one_more, Sums.summary_line}
use Rattle.fb_run.specs.declared.{options.LineForm.LineForm, tally.Tally.Tally}
use Rattle.fb_run.specs.declared.options.LineForm.TheVariants as form

-- how often the reasons from this number on were given, those that were, before other members
abbrev pub reasons_members : ℕ → List ℕ → Members → Members
reasons_members number [] rest = rest
reasons_members number (count ∷ counts) rest =
    if count == 0 then reasons_members (number + 1) counts rest
    else member (codes "V" ++ decimal number) (count_json count) (reasons_members (number + 1) counts rest)

abbrev pub sums_json : Tally → Json
sums_json tally = object (
    member (codes "messages") (count_json (count_of tally))
    (member (codes "yes") (count_json tally.yes)
    (member (codes "no") (count_json tally.no)
    (reasons_members 1 tally.reasons
    (member (codes "bytes") (count_json tally.bytes)
    (member (codes "tables") (count_json tally.tables)
    (member (codes "reads") (count_json tally.reads) no_members)))))))

abbrev pub json_summary : Tally → List ℕ
json_summary tally = json_text (sums_json tally) ++ codes "\n"

-- the line in either form
abbrev pub summary_in : LineForm → Tally → List ℕ
summary_in form.Plain tally = summary_line tally
summary_in form.Json tally = json_summary tally

-- by example: nothing, and two messages of which one is bad
pub record Summaries : Type 0 where
  pub none : json_summary no_tally ≡ codes "{\"messages\":0,\"yes\":0,\"no\":0,\"bytes\":0,\"tables\":0,\"reads\":0}\n"
  pub two : json_summary (record no_tally { yes = 1; no = 1; reasons = one_more 2 no_tally.reasons; bytes = 64; tables = 1; reads = 8 })
      ≡ codes "{\"messages\":2,\"yes\":1,\"no\":1,\"V3\":1,\"bytes\":64,\"tables\":1,\"reads\":8}\n"
  pub plain : summary_line (record no_tally { yes = 1; bytes = 32; tables = 1; reads = 5 }) ≡ codes "summary: messages=1 yes=1 no=0 bytes=32 tables=1 reads=5\n"
