-- Files as inputs, by example.
use Rattle.std.specs.Prelude.{◌≡◌, ℕ, true, false, [], ◌∷◌, Some, None, Ok, Err, codes}
use Rattle.fb_bytes.specs.declared.stream_fault.StreamFault.{StreamFault}
use Rattle.fb_run.specs.{Sums.no_tally, declared.fault.RunFault.TheVariants.ReadFault, declared.fault.RunFault.TheVariants.WriteFault}
use Rattle.fb_run.specs.declared.fault.RunFault.TheVariants.{NoteFault, RejectFault, Stream, TooManyTurns, OutOfMemory, BareTooLong, SkipPastEnd}
use Rattle.fb_run.specs.declared.run.Ran.{Ran}
use Rattle.fbcheck_serve.specs.{Inputs.are_named, Inputs.course_with, Inputs.fault_line, Inputs.is_final, Inputs.label_of, Inputs.no_course, Names.listed_name, Names.listed_names}
use Rattle.fbcheck_serve.specs.{Names.misnomer_text, Names.word_name, Names.wrong_name, declared.names.Misnomer.TheVariants.Empty, declared.names.Misnomer.TheVariants.NotText}
use Rattle.fbcheck_serve.specs.declared.inputs.{Standard.TheVariants.Spent, Missed.TheVariants.Again}

-- a run over two good buffers, one over a bad one, and one that ended in a failed read
abbrev pub good : Ran
good = record { tally = record no_tally { yes = 2; bytes = 60 }; end = Ok tt }

abbrev pub bad : Ran
bad = record { tally = record no_tally { no = 1; bytes = 32 }; end = Ok tt }

abbrev pub cut : Ran
cut = record { tally = no_tally; end = Err ReadFault }

-- two files come to the greater of their statuses, whichever is the last, and to the sums of their numbers
pub record Courses : Type 0 where
  pub first_bad : (course_with (word_name (codes "b")) (Ok good) (course_with (word_name (codes "a")) (Ok bad) no_course)).status ≡ 1
  pub last_bad : (course_with (word_name (codes "b")) (Ok bad) (course_with (word_name (codes "a")) (Ok good) no_course)).status ≡ 1
  pub first_cut : (course_with (word_name (codes "b")) (Ok bad) (course_with (word_name (codes "a")) (Ok cut) no_course)).status ≡ 3
  pub read_twice : (course_with (word_name (codes "-")) (Err Again) (course_with (word_name (codes "-")) (Ok good) no_course)).status ≡ 3
  pub both : (course_with (word_name (codes "b")) (Ok good) (course_with (word_name (codes "a")) (Ok bad) no_course)).tally ≡ record no_tally { yes = 2; no = 1; bytes = 92 }
  pub spent : (course_with (word_name (codes "a")) (Ok good) (course_with (word_name (codes "-")) (Ok bad) no_course)).standard ≡ Spent

-- what ends it all, whatever files are left: a failed write or note, and want of memory; and what ends one file alone
pub record Finals : Type 0 where
  pub written : (written : ℕ) → is_final (WriteFault written) ≡ true
  pub noted : (written : ℕ) → is_final (NoteFault written) ≡ true
  pub rejected : (written : ℕ) → is_final (RejectFault written) ≡ true
  pub memory : is_final OutOfMemory ≡ true
  pub read : is_final ReadFault ≡ false
  pub stream : (fault : StreamFault) → is_final (Stream fault) ≡ false
  pub turns : is_final TooManyTurns ≡ false
  pub long : (limit : ℕ) → is_final (BareTooLong limit) ≡ false
  pub short : (skip : ℕ) → is_final (SkipPastEnd skip) ≡ false

-- lines begin with names where there are several files, or where those of standard input do; those of faults always
pub record Labels : Type 0 where
  pub of_two : label_of (are_named None (codes "a" ∷ codes "b" ∷ [])) (codes "a") ≡ Some (codes "a")
  pub of_one : label_of (are_named None (codes "a" ∷ [])) (codes "a") ≡ None
  pub of_one_named : label_of (are_named (Some (codes "-")) (codes "a" ∷ [])) (codes "a") ≡ Some (codes "a")
  pub of_a_fault : fault_line (codes "a.bin") (codes "no such file") (codes "\n") ≡ codes "fbcheck: a.bin: no such file\n"

-- names in a list stand in its order, each up to a zero byte, or the last up to the end; and which are those of no file
pub record Listed : Type 0 where
  pub none : listed_names [] ≡ []
  pub two : listed_names (98 ∷ 0 ∷ 97 ∷ 0 ∷ []) ≡ listed_name (codes "b") ∷ listed_name (codes "a") ∷ []
  pub unended : listed_names (98 ∷ 0 ∷ 97 ∷ []) ≡ listed_name (codes "b") ∷ listed_name (codes "a") ∷ []
  pub empty : listed_names (0 ∷ 97 ∷ 0 ∷ 0 ∷ []) ≡ listed_name [] ∷ listed_name (codes "a") ∷ listed_name [] ∷ []
  pub without_bytes : wrong_name (listed_name []) ≡ Some Empty
  pub word_without_bytes : wrong_name (word_name []) ≡ None
  pub no_text : wrong_name (listed_name (97 ∷ 195 ∷ [])) ≡ Some NotText
  pub a_text : wrong_name (listed_name (codes "a/b.bin")) ≡ None
  pub empty_text : misnomer_text Empty ≡ codes "invalid zero-length file name"
  pub no_text_text : misnomer_text NotText ≡ codes "file name isn't UTF-8"
