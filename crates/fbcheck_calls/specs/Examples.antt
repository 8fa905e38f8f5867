-- What C is told, by example. The numbers are those that a caller in C knows from its header.
use Rattle.std.specs.Prelude.{◌≡◌, ℕ, pos, true, false, List, [], ◌∷◌, filter, map, codes, replicate, Option, Some, None, Ok, Err}
use Rattle.std.specs.{Borrow.Bor, List.range_with_len}
use Rattle.fb_bfbs.specs.declared.load_fault.LoadFault.TheVariants as load
use Rattle.fb_bfbs.specs.declared.loading.Loaded.{Loaded}
use Rattle.fb_bytes.specs.declared.stream_fault.StreamFault.TheVariants as stream
use Rattle.fb_schema.specs.declared.fault.Code.TheVariants.{NoSuchObject, NoSuchEnum, Unsupported, BadSlot, NoTypeField, BadStruct, BadMember, NameTwice}
use Rattle.fb_rules.specs.{Samples.table, Reasons.reason_count, Reasons.reason_number, Reasons.reasons, declared.fault.Fault.Fault, declared.start.Ident.TheVariants.Any}
use Rattle.fb_rules.specs.declared.{start.Ident.TheVariants.Want, start.Start.TheVariants.Bare, start.Start.TheVariants.Prefixed, fault.Reason.TheVariants.OutOfBuffer}
use Rattle.fb_rules.specs.declared.fault.Reason.TheVariants.{TooManyReads}
use Rattle.fb_access.specs.Denotes as denotes
use Rattle.fb_access.specs.declared.path_fault.PathFault.TheVariants as path
use Rattle.fb_access.specs.declared.step.Step.TheVariants.{Field, Element, Member}
use Rattle.fbcheck_calls.specs.Asked.{asks_marks, checks_asked, demands_of, ident_asked, known_demands, limits_of, plan_asked, published, root_asked, start_asked}
use Rattle.fbcheck_calls.specs.{Bases.Based, Framers.IsRoom, Framers.fed_status, Framers.used_or, Names.filled, Names.number_or_none, Placed.cut_to, Spans.all_good, Spans.cut}
use Rattle.fbcheck_calls.specs.{Steps.no_step, Steps.step_of, Steps.steps_in, Told.blank, Told.code_number, Told.told, Values.placed, Values.plain, Values.value_told}
use Rattle.fbcheck_calls.specs.declared.{outcome.Outcome.Outcome, outcome.Verdict.Verdict, options.Options.Options, steps.PlainPath.PlainPath, steps.PlainStep.PlainStep}
use Rattle.fbcheck_calls.specs.declared.outcome.Outcome.TheVariants.{Done, Good, Bad, UnknownOptions, OutOfRange, NoIdent, NoRoot, TooLong, NoSchema, NoSpan, BadStream, BadPath, NoRoom}
use Rattle.fbcheck_calls.specs.declared.outcome.Outcome.TheVariants.{Misfit, NotPlanned, UnmarkedBytes, NoSuchTable}
use Rattle.fbcheck_calls.specs.declared.status.Status.TheVariants as statuses
use Rattle.fb_strict.specs.{Demanded.demanded, Planned.Planned, declared.demands.Demands.Demands}

-- ---- answers in numbers

-- a verdict with these numbers
abbrev pub verdict : ℕ → ℕ → ℕ → ℕ → Verdict
verdict status reason object field = record { status = status; reason = reason; object = object; field = field; tables = 0; depth = 0; at = 0; reads = 0; reserved = 0 ∷ 0 ∷ 0 ∷ [] }

-- the third field of object 2 ends past byte 28
abbrev pub torn : Fault
torn = record { at = 28; object = 2; field = Some 3; reads = 7; reason = OutOfBuffer }

abbrev pub status : Outcome → ℕ
status a = (told a).status

pub record Verdicts : Type 0 where
  pub good : told (Good (record { tables = 3; depth = 2; reads = 40 })) ≡ record (verdict 0 0 0 4294967295) { tables = 3; depth = 2; reads = 40 }
  pub bad : told (Bad torn) ≡ record (verdict 1 2 2 3) { at = 28; reads = 7 }
  pub reasons : map reason_number reasons ≡ range_with_len 1 reason_count
  pub of_no_field : told (Bad (record torn { field = None; reason = TooManyReads })) ≡ record (verdict 1 13 2 4294967295) { at = 28; reads = 7 }
  pub of_more_reads : (told (Bad (record torn { reads = 18446744073709551616 }))).reads ≡ 18446744073709551615
  pub unserved : map status (UnknownOptions ∷ OutOfRange ∷ NoIdent ∷ NoRoot ∷ TooLong ∷ []) ≡ 3 ∷ 4 ∷ 5 ∷ 6 ∷ 7 ∷ []
  pub others : map status (Done ∷ NoSpan ∷ NoRoom ∷ Misfit 0 ∷ NotPlanned ∷ []) ≡ 0 ∷ 12 ∷ 18 ∷ 19 ∷ 21 ∷ []
  pub misfit : told (Misfit 4) ≡ record (verdict 19 0 0 4294967295) { at = 4 }
  pub nothing_else : told NoRoot ≡ verdict 6 0 0 4294967295
  pub no_schema : told (NoSchema (load.NotWellFormed torn)) ≡ record (verdict 8 2 2 3) { at = 28; reads = 7 }
  pub bad_rows : told (NoSchema (load.BadSchema (record { code = BadSlot; owner = 5; part = Some 1 }))) ≡ verdict 9 4 5 1
  pub demands : map code_number (NoSuchObject ∷ NoSuchEnum ∷ Unsupported ∷ BadSlot ∷ NoTypeField ∷ BadStruct ∷ BadMember ∷ NameTwice ∷ []) ≡ 1 ∷ 2 ∷ 3 ∷ 4 ∷ 5 ∷ 6 ∷ 7 ∷ 8 ∷ []
  pub of_no_part : told (NoSchema (load.BadSchema (record { code = NameTwice; owner = 5; part = None }))) ≡ verdict 9 8 5 4294967295
  pub other_files : map (λ f. status (NoSchema f)) (load.TooLong ∷ load.RootNotListed ∷ load.OutOfMemory ∷ load.TooMuchShared ∷ []) ≡ 7 ∷ 10 ∷ 11 ∷ 20 ∷ []
  pub of_bytes : map told (UnmarkedBytes (record { object = 5; field = 1 }) ∷ NoSuchTable (record { object = 5; field = 0 }) ∷ []) ≡ verdict 22 0 5 1 ∷ verdict 23 0 5 0 ∷ []
  pub no_path : told (BadPath (path.NoSuchField 4)) ≡ record (verdict 17 2 0 4294967295) { at = 4 }
  pub other_paths : map (λ f. (told (BadPath f)).reason) (path.BadText 0 ∷ path.NotIndexable 0 ∷ path.NotAUnion 0 ∷ path.NoSuchMember 0 ∷ path.NotATable 0 ∷ []) ≡ 1 ∷ 3 ∷ 4 ∷ 5 ∷ 6 ∷ []
  pub no_memory : told (BadPath path.OutOfMemory) ≡ verdict 11 0 0 4294967295
  pub streams : map (λ f. status (BadStream f)) (stream.Oversize 9 ∷ stream.Truncated 3 ∷ stream.Failed ∷ []) ≡ 14 ∷ 15 ∷ 16 ∷ []

-- ---- what options ask

-- a schema of two tables and a struct between them, with this root and this identifier of its own
abbrev pub schema : Option ℕ → Option (Bor (List ℕ)) → Loaded
schema root ident = record {
  schema = record { objects = table (codes "A") [] ∷ record (table (codes "S") []) { is_struct = true; minalign = pos 1; bytesize = pos 1 } ∷ table (codes "B") [] ∷ []; enums = [] };
  root = root;
  ident = ident;
}

abbrev pub with_nested : Demands
with_nested = record { unions = true; nested = true; known_fields = false; utf8 = false }

abbrev pub unions_alone : Demands
unions_alone = record { unions = true; nested = false; known_fields = false; utf8 = false }

abbrev pub fields_alone : Demands
fields_alone = record { unions = false; nested = false; known_fields = true; utf8 = false }

abbrev pub texts_alone : Demands
texts_alone = record { unions = false; nested = false; known_fields = false; utf8 = true }

-- one that was made with these demands, whose plan asks nothing
abbrev pub no_tasks : Planned
no_tasks = record { demands = demanded (demands_of 1) []; marks = []; tasks = [] }

abbrev pub made_with : ℕ → Based
made_with demands = record { loaded = schema (Some 2) None; demands = demands; plan = Some no_tasks }

abbrev pub with_root : ℕ → Options
with_root n = record published { root = n }

abbrev pub with_ident : ℕ → Options
with_ident from = record published { ident = codes "THIS"; ident_from = from }

abbrev pub name : List ℕ → Option (Bor (List ℕ))
name text = Some (record { ref_ptr = (0, 0); now = text })

pub record Questions : Type 0 where
  pub own_root : root_asked (schema (Some 2) None) published ≡ Some 2
  pub no_own_root : root_asked (schema None None) published ≡ None
  pub another_root : root_asked (schema (Some 2) None) (with_root 0) ≡ Some 0
  pub no_table : root_asked (schema (Some 2) None) (with_root 1) ≡ None
  pub no_object : root_asked (schema (Some 2) None) (with_root 3) ≡ None
  pub root_of_none : root_asked (schema (Some 2) None) (with_root 4294967294) ≡ None
  pub any_ident : ident_asked (schema None (name (codes "OWNS"))) (with_ident 0) ≡ Some Any
  pub this_ident : ident_asked (schema None (name (codes "OWNS"))) (with_ident 1) ≡ Some (Want (codes "THIS"))
  pub own_ident : ident_asked (schema None (name (codes "OWNS"))) (with_ident 2) ≡ Some (Want (codes "OWNS"))
  pub no_own_ident : ident_asked (schema None None) (with_ident 2) ≡ Some Any
  pub empty_ident : ident_asked (schema None (name [])) (with_ident 2) ≡ Some Any
  pub long_ident : ident_asked (schema None (name (codes "LONGER"))) (with_ident 2) ≡ None
  pub demands : filter known_demands (0 ∷ 1 ∷ 2 ∷ 3 ∷ 4 ∷ 5 ∷ 6 ∷ 7 ∷ 8 ∷ 9 ∷ 10 ∷ 11 ∷ 12 ∷ 13 ∷ 14 ∷ 15 ∷ 16 ∷ 17 ∷ []) ≡ 0 ∷ 1 ∷ 2 ∷ 3 ∷ 4 ∷ 5 ∷ 6 ∷ 7 ∷ 9 ∷ 11 ∷ 13 ∷ 15 ∷ []
  pub of_one : map demands_of (1 ∷ 9 ∷ 2 ∷ 4 ∷ []) ≡ with_nested ∷ unions_alone ∷ fields_alone ∷ texts_alone ∷ []
  pub of_several : map demands_of (3 ∷ 13 ∷ 6 ∷ []) ≡ record with_nested { known_fields = true } ∷ record unions_alone { utf8 = true } ∷ record fields_alone { utf8 = true } ∷ []
  pub marks : filter asks_marks (0 ∷ 1 ∷ 2 ∷ 3 ∷ 4 ∷ 5 ∷ 6 ∷ 7 ∷ 9 ∷ 11 ∷ 13 ∷ 15 ∷ []) ≡ 1 ∷ 3 ∷ 5 ∷ 7 ∷ []
  pub no_demands : plan_asked (made_with 1) published ≡ Some None
  pub planned : plan_asked (made_with 1) (record published { demands = 1 }) ≡ Some (Some no_tasks)
  pub unplanned : map (λ n. plan_asked (made_with n) (record published { demands = 1 })) (0 ∷ 9 ∷ []) ≡ None ∷ None ∷ []
  pub bare : start_asked published ≡ Bare
  pub prefixed : start_asked (record published { prefixed = 255 }) ≡ Prefixed
  pub checks : checks_asked published ≡ record { alignment = true; inline_size = false }
  pub other_checks : checks_asked (record published { no_alignment = 1; inline_size = 1 }) ≡ record { alignment = false; inline_size = true }
  pub limits : limits_of published 100 ≡ record { depth = 64; tables = 1000000; reads = Some 10496 }
  pub limits_of_more : limits_of published 10000000 ≡ record { depth = 64; tables = 1000000; reads = Some 100000000 }

-- ---- spans, paths, values, texts and framers

abbrev pub step : ℕ → ℕ → PlainStep
step kind number = record { kind = kind; number = number }

abbrev pub path_of : ℕ → PlainPath
path_of count = record { count = count; each = 0; steps = step 1 7 ∷ replicate 30 no_step }

pub record Paths : Type 0 where
  pub field : map step_of (step 1 0 ∷ step 1 65535 ∷ step 1 65536 ∷ []) ≡ Some (Field 0) ∷ Some (Field 65535) ∷ None ∷ []
  pub element : map step_of (step 2 0 ∷ step 2 4294967295 ∷ []) ≡ Some (Element 0) ∷ Some (Element 4294967295) ∷ []
  pub member : map step_of (step 3 255 ∷ step 3 256 ∷ []) ≡ Some (Member 255) ∷ None ∷ []
  pub none : map step_of (step 0 0 ∷ step 4 0 ∷ []) ≡ None ∷ None ∷ []
  pub steps : steps_in (path_of 1) ≡ Some (step 1 7 ∷ [])
  pub most_steps : steps_in (path_of 31) ≡ Some (step 1 7 ∷ replicate 30 no_step)
  pub too_many_steps : steps_in (path_of 32) ≡ None

pub record Values : Type 0 where
  pub absences : map value_told (denotes.nothing ∷ denotes.no_element ∷ denotes.other_member ∷ []) ≡ plain 0 ∷ plain 1 ∷ plain 2 ∷ []
  pub truth : value_told (denotes.truth true) ≡ record (plain 3) { number = 1 }
  pub signed : value_told (denotes.signed (pos 7)) ≡ record (plain 4) { integer = pos 7 }
  pub unsigned : value_told (denotes.unsigned 7) ≡ record (plain 5) { number = 7 }
  pub bytes : map value_told (denotes.float [] ∷ denotes.text [] ∷ denotes.structure [] ∷ []) ≡ plain 6 ∷ plain 7 ∷ plain 8 ∷ []
  pub vector : value_told (denotes.vector 3) ≡ record (plain 9) { number = 3 }
  pub single : value_told (denotes.default_float 0x3dcccccd) ≡ record (plain 12) { number = 0x3fb99999a0000000 }
  pub double : value_told (denotes.default_double 0x3fb999999999999a) ≡ record (plain 12) { number = 0x3fb999999999999a }
  pub table : value_told denotes.table ≡ plain 10
  pub union : value_told (denotes.union 2) ≡ record (plain 11) { number = 2 }
  pub stands : placed (plain 7) (Some (record { at = 40; size = 5 })) ≡ record { kind = 7; reserved = 0; number = 0; integer = pos 0; at = 40; size = 5 }
  pub stands_nowhere : placed (plain 10) None ≡ plain 10

abbrev pub span : ℕ → ℕ → Option (List ℕ)
span at size = cut (codes "abc") (record { at = at; size = size })

pub record Pieces : Type 0 where
  pub inside : span 1 2 ≡ Some (codes "bc")
  pub at_the_end : span 3 0 ≡ Some []
  pub past_the_end : span 2 2 ≡ None
  pub behind_the_end : span 4 0 ≡ None
  pub all : map all_good ([] ∷ (blank statuses.Done ∷ blank statuses.Done ∷ []) ∷ (blank statuses.Done ∷ blank statuses.NoSpan ∷ []) ∷ []) ≡ 0 ∷ 0 ∷ 1 ∷ []
  pub place : cut_to (codes "place") (codes "???????") ≡ codes "place??"
  pub place_cut : cut_to (codes "place") (codes "???") ≡ codes "pla"
  pub name : filled (codes "name") (codes "?????") ≡ codes "name?"
  pub name_left : filled (codes "name") (codes "???") ≡ codes "???"
  pub number : map number_or_none (Some 7 ∷ None ∷ []) ≡ 7 ∷ 4294967294 ∷ []
  pub rooms : IsRoom 8 × IsRoom 2147483647
  pub too_little_room : IsRoom 7 → ⊥
  pub too_much_room : IsRoom 2147483648 → ⊥
  pub fed : map fed_status (Ok (record { used = 3; whole = true }) ∷ Ok (record { used = 3; whole = false }) ∷ Err OutOfRange ∷ []) ≡ 0 ∷ 13 ∷ 4 ∷ []
  pub used : used_or (Ok (record { used = 3; whole = false })) 77 ≡ 3
  pub unused : used_or (Err OutOfRange) 77 ≡ 77
