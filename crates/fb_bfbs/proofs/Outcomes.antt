-- From what was read to what is answered.
use Rattle.std.proofs.Common.{◌≡◌, ℕ, List, length, Option, Some, None, option_map, is_some, IsSome, true, false, refl, sym, ◌∙◌, ap, subst, inl, inr}
use Rattle.fb_schema.specs.{Rows.rows_of, Demands.Refuses, declared.fault.Code.Code, declared.fault.Code.TheVariants.OutOfMemory as NoMemory, declared.fault.SchemaFault.SchemaFault}
use Rattle.fb_rules.specs.{Bounds.Bounds}
use Rattle.fb_verify.specs.Sealed.{Sealed}
use Rattle.fb_access.specs.Denotes.{Denotes}
use Rattle.fb_bfbs.specs.{Says.Says, FileRows.IsTold, FileRows.AreRead, FileRows.IsReadFile, FileRows.IsVerifiedFile, FileRows.IsVerifyFault, Sums.ArePaid, Sums.IsOver}
use Rattle.fb_bfbs.specs.declared.{file.FileRows.FileRows, marks.Marks.Marks, load_fault.LoadFault.LoadFault, load_fault.LoadFault.TheVariants.NotWellFormed, load_fault.LoadFault.TheVariants.OutOfMemory}
use Rattle.fb_bfbs.specs.Loads.{SharesTooMuch, IsSchemaFile, IsLoadFault, build_fault, told}
use Rattle.fb_bfbs.specs.{Marks.HasFewRows, Marks.HasManyRows, Marks.HasTooManyRows, Marks.AreMarks, Marks.IsMarksFault, Tags.AreToldMarks, Tags.AreMarksRead}
use Rattle.fb_bfbs.proofs.{Counts.paid_rows, OneLoad.file_is_single}

module _ (b : List ℕ) (L : Bounds) where
  -- rows that are refused are no schema, or memory ran out
  refused_by : (f : FileRows) (fault : SchemaFault) (code : Code) → IsReadFile b L f → Refuses (rows_of f.objects.items f.enums.items) fault → fault.code ≡ code → IsLoadFault b L (build_fault code fault)
  refused_by f fault NoMemory read refuses e = read.file.short
  refused_by f fault code read (inl first) e = record { file = read.file; rows = rows_of f.objects.items f.enums.items; described = read.told.rows; paid = read.paid; first = first }
  refused_by f fault code read (inr memory) e = absurd (let w = sym memory.code ∙ e in cc)

  pub refused : (f : FileRows) (fault : SchemaFault) → IsReadFile b L f → Refuses (rows_of f.objects.items f.enums.items) fault → IsLoadFault b L (build_fault fault.code fault)
  refused f fault read refuses = refused_by f fault fault.code read refuses refl

  -- why no file is verified is why none is loaded, and why no marks are read
  pub no_load : (fault : LoadFault) → IsVerifyFault b L fault → IsLoadFault b L fault
  no_load (NotWellFormed f) h = h
  no_load OutOfMemory h = h
  no_load fault h = absurd h

  pub no_marks : (fault : LoadFault) → IsVerifyFault b L fault → IsMarksFault b L fault
  no_marks (NotWellFormed f) h = h
  no_marks OutOfMemory h = h
  no_marks fault h = absurd h

  -- what was read of a verified file, as far as its length pays for the rows where the limits have a budget of reads
  module _ (v : Sealed) (verified : IsVerifiedFile b L v) (n : ℕ) (paying : Option ℕ) (len : n ≡ length b) (pays : paying ≡ option_map (λ _. n) L.reads) where
    abbrev said : Says
    said = Denotes v.bytes v.schema v.start v.root

    told_too : (P : Says → Type 0) → P said → P (told b)
    told_too P p = rw (verified.kept) at p

    file : IsSchemaFile b L
    file = record { short = verified.short; found = verified.yes.found; well_formed = verified.yes.well_formed; within = verified.yes.within }

    pays_by : (o p : Option ℕ) → L.reads ≡ o → option_map (λ _. length b) o ≡ p → paying ≡ p
    pays_by o p e i = pays ∙ ap (option_map (λ _. n)) e ∙ ap (λ m. option_map (λ _. m) o) len ∙ i

    unpaid : {X : Type 0} → L.reads ≡ None → IsSome L.reads → X
    unpaid e h = absurd (let w : false ≡ true = sym (ap is_some e) ∙ h in cc)

    pub read_file : (f : FileRows) → AreRead said paying (Some f) → IsReadFile b L f
    read_file f read = go L.reads refl where
      go : (o : Option ℕ) → L.reads ≡ o → IsReadFile b L f
      go None e =
          let all : IsTold said f = subst (λ p. AreRead said p (Some f)) (pays_by None None e refl) read in
          record { file = file; told = told_too (λ D. IsTold D f) all; paid = unpaid e }
      go (Some m) e =
          let all : IsTold said f × ArePaid said (rows_of f.objects.items f.enums.items) (length b) = subst (λ p. AreRead said p (Some f)) (pays_by (Some m) (Some (length b)) e refl) read in
          let is_told = told_too (λ D. IsTold D f) all.0 in
          record { file = file; told = is_told; paid = λ h. paid_rows (told b) _ (length b) (file_is_single b) is_told.rows (told_too (λ D. ArePaid D (rows_of f.objects.items f.enums.items) (length b)) all.1) }

    -- rows that were not paid for are more than the file's length pays for
    pub too_much : AreRead said paying None → SharesTooMuch b L
    too_much read = go L.reads refl where
      go : (o : Option ℕ) → L.reads ≡ o → SharesTooMuch b L
      go None e = absurd (subst (λ p. AreRead said p None) (pays_by None None e refl) read)
      go (Some m) e = record { file = file; budget = ap is_some e; over = told_too (λ D. IsOver D (length b)) (subst (λ p. AreRead said p None) (pays_by (Some m) (Some (length b)) e refl) read) }

    -- and so for marks
    pub read_marks : (marks : Marks) → AreMarksRead said paying (Some marks) → AreMarks b L marks
    read_marks marks read = go L.reads refl where
      go : (o : Option ℕ) → L.reads ≡ o → AreMarks b L marks
      go None e = record { file = file; says = told_too (λ D. AreToldMarks D marks) (subst (λ p. AreMarksRead said p (Some marks)) (pays_by None None e refl) read); paid = unpaid e }
      go (Some m) e =
          let all : AreToldMarks said marks × HasFewRows said (length b) = subst (λ p. AreMarksRead said p (Some marks)) (pays_by (Some m) (Some (length b)) e refl) read in
          record { file = file; says = told_too (λ D. AreToldMarks D marks) all.0; paid = λ h. told_too (λ D. HasFewRows D (length b)) all.1 }

    pub too_many : AreMarksRead said paying None → HasTooManyRows b L
    too_many read = go L.reads refl where
      go : (o : Option ℕ) → L.reads ≡ o → HasTooManyRows b L
      go None e = absurd (subst (λ p. AreMarksRead said p None) (pays_by None None e refl) read)
      go (Some m) e = record { file = file; budget = ap is_some e; many = told_too (λ D. HasManyRows D (length b)) (subst (λ p. AreMarksRead said p None) (pays_by (Some m) (Some (length b)) e refl) read) }
