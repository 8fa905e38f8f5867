use Rattle.std.proofs.Common.{Err, None, refl, true}
use Rattle.std.specs.Prelude.{map, string_bytes}
use Rattle.fb_run.specs.{Ends.writer_of, Leave.ends_of}
use Rattle.fb_run.proofs.RunLemmas.{err_is}
use Rattle.fbcheck_texts.specs.declared.choices.SettingsFault.TheVariants as refusal
use Rattle.fbcheck_serve.proofs.AskedLemmas.{idle}
use Rattle.fbcheck_serve.proofs.ServingLemmas.{comes_files, comes_given, comes_run, comes_unserved, early, files_rests, holds_given, may_read, nameless, prompt_alone, prompt_among, run_rests, same_ends, told_as_lines, told_plainly}
use Rattle.fbcheck_serve.specs.{Inputs.folder_of, Inputs.seen_of, Keeping.maker_of}
use Rattle.fbcheck_serve.proofs.serve.come_to.Goals as goal

pub returns-in-Err-clause-comes : goal.returns-in-Err-clause-comes
returns-in-Err-clause-comes g c =
    let ends = ends_of g.S.Input g.K.Sink g.N.Sink c.args.reader.now c.args.writer.now c.args.notes.now in
    rw c.in-Err.is ((refl, idle ends, refl), early ends ends _ (refl, refl, refl, refl) refl)

pub returns-in_err-hint-in-Err-clause-comes : goal.returns-in_err-hint-in-Err-clause-comes
returns-in_err-hint-in-Err-clause-comes g c =
    let ends = ends_of g.S.Input g.K.Sink g.N.Sink c.args.reader.now c.args.writer.now c.args.notes.now in
    rw (err_is _ _ c.from_residual.ensures.1, c.in-Err.is) ((idle ends, refl), early ends ends _ (refl, refl, refl, refl) refl)

pub returns-in-Err-settings-clause-comes : goal.returns-in-Err-settings-clause-comes
returns-in-Err-settings-clause-comes g c =
    let old = ends_of g.S.Input g.K.Sink g.N.Sink c.args.reader.now c.args.writer.now c.args.notes.now in
    let new = ends_of g.S.Input g.K.Sink g.N.Sink c.args.reader.now c.without_settings.new.writer c.args.notes.now in
    let comes = comes_unserved (maker_of g.F.Makes g.F.Made.Sink c.args.files.now) (folder_of g.F.Files g.F.Opened.Input g.F.Opened.Explains c.args.files.now) (map string_bytes c.as_slice.result.now) old.reader old.outs.writer
    new.outs.writer old.outs.notes (g.S.Explains.cause c.args.reader.now) c.in-Err-settings.fault c.without_settings.result c.in-Err-settings.ensures.refused c.without_settings.ensures.0 in (
      rw (c.in-Ok.is, ← c.as_slice.ensures.value) comes,
      early old new _ (c.without_settings.ensures.1 old.reader old.outs.notes _) refl,
    )

pub returns-in-Err-read_schema-clause-comes : goal.returns-in-Err-read_schema-clause-comes
returns-in-Err-read_schema-clause-comes g c =
    let given = c.in-Ok-settings.ensures.given in
    let ends = ends_of g.S.Input g.K.Sink g.N.Sink c.args.reader.now c.args.writer.now c.args.notes.now in
    rw (c.in-Ok.is, ← c.as_slice.ensures.value)
    ((given.read, rw given.said.schema at c.in-Err-read_schema.ensures.fault, idle ends, refl), early ends ends _ (refl, refl, refl, refl) refl)

pub returns-in_err-hint-in-Err-read_schema-clause-comes : goal.returns-in_err-hint-in-Err-read_schema-clause-comes
returns-in_err-hint-in-Err-read_schema-clause-comes g c =
    let ends = ends_of g.S.Input g.K.Sink g.N.Sink c.args.reader.now c.args.writer.now c.args.notes.now in
    let (read, (wrote, noted, kept)) = idle ends in
    rw (err_is _ _ c.from_residual-in_err-hint-in-Err-read_schema.ensures.1, c.in-Ok.is)
    (((refusal.OutOfMemory, tt, read, wrote, noted), refl), early ends ends _ (refl, refl, refl, refl) refl)

pub returns-then-is_alone-clause-comes : goal.returns-then-is_alone-clause-comes
returns-then-is_alone-clause-comes g c =
    let maker = maker_of g.F.Makes g.F.Made.Sink c.args.files.now in
    let folder = folder_of g.F.Files g.F.Opened.Input g.F.Opened.Explains c.args.files.now in
    let before = seen_of g.S.Input g.S.Explains g.K.Sink g.N.Sink c.args.reader.now c.args.writer.now c.args.notes.now in
    let after = seen_of g.S.Input g.S.Explains g.K.Sink g.N.Sink c.check_keeping-ran.new.reader c.check_keeping-ran.new.writer c.check_keeping-ran.new.notes in
    let ran = c.check_keeping-ran.ensures in (
      rw (c.in-Ok.is, ← c.as_slice.ensures.value) (comes_given maker folder (map string_bytes c.as_slice.result.now) before after _ _ c.in-Ok-settings.settings c.as_deref-bytes.result _ c.in-Ok-settings.ensures.given c.as_deref-bytes.ensures.value c.in-Ok-read_schema.ensures.bytes
          (comes_run maker folder _ _ before after _ _ c.check_keeping-ran.result (c.is_alone.ensures.alone c.if-is_alone.true) ran.run c.run_ending.ensures)),
      run_rests c.in-Ok-settings.settings before.ends after.ends ran.turns refl maker _ c.check_keeping-ran.result _ _ ran.run c.run_ending.ensures ran.places
          (same_ends g.S.Input g.K.Sink g.N.Sink c.check_keeping-ran.result _ _ _ _ _ _ ran.unread ran.unwritten ran.unnoted),
    )

pub returns-in_err-names-clause-comes : goal.returns-in_err-names-clause-comes
returns-in_err-names-clause-comes g c =
    let seen = seen_of g.S.Input g.S.Explains g.K.Sink g.N.Sink c.args.reader.now c.args.writer.now c.args.notes.now in
    let (comes, rests) = nameless (maker_of g.F.Makes g.F.Made.Sink c.args.files.now) (folder_of g.F.Files g.F.Opened.Input g.F.Opened.Explains c.args.files.now) c.as_deref-bytes.result c.in-Ok-settings.settings seen c.in_err-names.field-0.0 c.in_err-names.ensures.none in
    rw (c.in-Ok.is, ← c.as_slice.ensures.value, err_is _ _ c.from_residual-in_err-names.ensures.1) (
      comes_given (maker_of g.F.Makes g.F.Made.Sink c.args.files.now) (folder_of g.F.Files g.F.Opened.Input g.F.Opened.Explains c.args.files.now) (map string_bytes c.as_slice.result.now) seen seen None (Err c.in_err-names.field-0.0) c.in-Ok-settings.settings
          c.as_deref-bytes.result _ c.in-Ok-settings.ensures.given c.as_deref-bytes.ensures.value c.in-Ok-read_schema.ensures.bytes comes,
      rests,
    )

pub returns-clause-comes : goal.returns-clause-comes
returns-clause-comes g c =
    let maker = maker_of g.F.Makes g.F.Made.Sink c.args.files.now in
    let folder = folder_of g.F.Files g.F.Opened.Input g.F.Opened.Explains c.args.files.now in
    let before = seen_of g.S.Input g.S.Explains g.K.Sink g.N.Sink c.args.reader.now c.args.writer.now c.args.notes.now in
    let after = seen_of g.S.Input g.S.Explains g.K.Sink g.N.Sink c.check_files-passed.new.reader c.check_files-passed.new.writer c.check_files-passed.new.notes in
    let are = rw (← c.as_slice-2.ensures.value) at c.in_ok-names.ensures.names in
    let passed = c.check_files-passed.ensures in (
      rw (c.in-Ok.is, ← c.as_slice.ensures.value) (comes_given maker folder (map string_bytes c.as_slice.result.now) before after _ _ c.in-Ok-settings.settings c.as_deref-bytes.result _ c.in-Ok-settings.ensures.given c.as_deref-bytes.ensures.value c.in-Ok-read_schema.ensures.bytes
          (comes_files maker folder _ _ before after _ _ c.as_slice-2.result.now c.check_files-passed.result are passed.served c.files_ending.ensures)),
      files_rests c.in-Ok-settings.settings before.ends after.ends passed.turns c.check_files-passed.result _ _ c.files_ending.ensures passed.places
          (same_ends g.S.Input g.K.Sink g.N.Sink c.check_files-passed.result _ _ _ _ _ _ passed.unread passed.unwritten passed.unnoted),
    )

pub check_keeping-ran-requires-clause-leave : goal.check_keeping-ran-requires-clause-leave
check_keeping-ran-requires-clause-leave g c now prompt unended =
    let before = ends_of g.S.Input g.K.Sink g.N.Sink c.args.reader.now c.args.writer.now c.args.notes.now in
    c.requires.leave now
    (rw (c.in-Ok.is, ← c.as_slice.ensures.value) (holds_given (folder_of g.F.Files g.F.Opened.Input g.F.Opened.Explains c.args.files.now) (map string_bytes c.as_slice.result.now)
    c.in-Ok-settings.settings c.as_deref-bytes.result _ _ c.in-Ok-settings.ensures.given c.as_deref-bytes.ensures.value c.in-Ok-read_schema.ensures.bytes
    (prompt_alone (folder_of g.F.Files g.F.Opened.Input g.F.Opened.Explains c.args.files.now) _ _ before now (c.is_alone.ensures.alone c.if-is_alone.true) prompt))) unended

pub check_files-passed-requires-clause-leave : goal.check_files-passed-requires-clause-leave
check_files-passed-requires-clause-leave g c now prompt unended =
    let before = ends_of g.S.Input g.K.Sink g.N.Sink c.args.reader.now c.args.writer.now c.args.notes.now in
    let are = rw (← c.as_slice-2.ensures.value) at c.in_ok-names.ensures.names in
    c.requires.leave now
    (rw (c.in-Ok.is, ← c.as_slice.ensures.value) (holds_given (folder_of g.F.Files g.F.Opened.Input g.F.Opened.Explains c.args.files.now) (map string_bytes c.as_slice.result.now)
    c.in-Ok-settings.settings c.as_deref-bytes.result _ _ c.in-Ok-settings.ensures.given c.as_deref-bytes.ensures.value c.in-Ok-read_schema.ensures.bytes
    (prompt_among (folder_of g.F.Files g.F.Opened.Input g.F.Opened.Explains c.args.files.now) _ _ c.as_slice-2.result.now before now are prompt))) unended

pub check_files-passed-requires-clause-files : goal.check_files-passed-requires-clause-files
check_files-passed-requires-clause-files g c =
    let before = ends_of g.S.Input g.K.Sink g.N.Sink c.args.reader.now c.args.writer.now c.args.notes.now in
    let are = rw (← c.as_slice-2.ensures.value) at c.in_ok-names.ensures.names in
    may_read (folder_of g.F.Files g.F.Opened.Input g.F.Opened.Explains c.args.files.now) (map string_bytes c.as_slice.result.now) before c.in-Ok-settings.settings c.as_deref-bytes.result _
    (rw (c.in-Ok.is, ← c.as_slice.ensures.value) at c.requires.files) c.in-Ok-settings.ensures.given c.as_deref-bytes.ensures.value c.in-Ok-read_schema.ensures.bytes c.as_slice-2.result.now are

-- how faults are told
pub returns-in-Err-clause-form : goal.returns-in-Err-clause-form
returns-in-Err-clause-form g c = rw c.in-Err.is refl

pub returns-in_err-hint-in-Err-clause-form : goal.returns-in_err-hint-in-Err-clause-form
returns-in_err-hint-in-Err-clause-form g c = rw c.in-Err.is refl

pub returns-in-Err-settings-clause-form : goal.returns-in-Err-settings-clause-form
returns-in-Err-settings-clause-form g c =
    rw (c.in-Ok.is, ← c.as_slice.ensures.value)
    (told_plainly c.in-Err-settings.fault (writer_of g.K.Sink c.args.writer.now) (writer_of g.K.Sink c.without_settings.new.writer) c.without_settings.result (map string_bytes c.as_slice.result.now) _ c.without_settings.ensures.0 refl)

pub returns-in_err-hint-in-Err-read_schema-clause-form : goal.returns-in_err-hint-in-Err-read_schema-clause-form
returns-in_err-hint-in-Err-read_schema-clause-form g c =
    rw (c.in-Ok.is, ← c.as_slice.ensures.value) (told_as_lines _ (map string_bytes c.as_slice.result.now) _ (c.in-Ok-settings.settings, c.in-Ok-settings.ensures.given, refl))

pub returns-in-Err-read_schema-clause-form : goal.returns-in-Err-read_schema-clause-form
returns-in-Err-read_schema-clause-form g c =
    rw (c.in-Ok.is, ← c.as_slice.ensures.value) (told_as_lines true (map string_bytes c.as_slice.result.now) _ (c.in-Ok-settings.settings, c.in-Ok-settings.ensures.given, refl))

pub returns-then-is_alone-clause-form : goal.returns-then-is_alone-clause-form
returns-then-is_alone-clause-form g c =
    rw (c.in-Ok.is, ← c.as_slice.ensures.value) (told_as_lines _ (map string_bytes c.as_slice.result.now) _ (c.in-Ok-settings.settings, c.in-Ok-settings.ensures.given, refl))

pub returns-in_err-names-clause-form : goal.returns-in_err-names-clause-form
returns-in_err-names-clause-form g c =
    rw (c.in-Ok.is, ← c.as_slice.ensures.value) (told_as_lines _ (map string_bytes c.as_slice.result.now) _ (c.in-Ok-settings.settings, c.in-Ok-settings.ensures.given, refl))

pub returns-clause-form : goal.returns-clause-form
returns-clause-form g c =
    rw (c.in-Ok.is, ← c.as_slice.ensures.value) (told_as_lines _ (map string_bytes c.as_slice.result.now) _ (c.in-Ok-settings.settings, c.in-Ok-settings.ensures.given, refl))
