-- The texts of the whole program by example.
use Rattle.std.specs.{Global.Global, Prelude.Vec}
use Rattle.std.specs.Prelude.{◌≡◌, ℕ, true, false, Some, None, codes}
use Rattle.std.specs.declared.io.ErrorKind.TheVariants as kind
use Rattle.fb_run.specs.Sums.{no_tally}
use Rattle.fb_run.specs.declared.fault.RunFault.TheVariants as run
use Rattle.fbcheck_texts.specs.{Texts.file_text, Texts.of_read, Texts.words_text, declared.framing.By.TheVariants.Named, declared.framing.Framing.TheVariants.Prefixed}
use Rattle.fbcheck_texts.specs.declared.choices.SettingsFault.TheVariants as refusal
use Rattle.fbcheck_texts.specs.declared.fault.FileFault.TheVariants as file
use Rattle.fbcheck_texts.specs.declared.fault.WordsFault.TheVariants as words
use Rattle.fbcheck_serve.specs.Serving.{is_quiet, stop_text}
use Rattle.fbcheck_serve.specs.declared.stop.EarlyEnd.TheVariants as stop

-- why the program comes to rest
pub record StopTexts : Type 0 where
  pub word : (bytes : Vec ℕ Global) → words_text (words.NotText (record { number = 2; bytes = bytes })) ≡ codes "a word is not UTF-8: number 2"
  pub own_name : (bytes : Vec ℕ Global) → words_text (words.NotText (record { number = 0; bytes = bytes })) ≡ codes "the program's own name is not UTF-8"
  pub words_memory : words_text words.OutOfMemory ≡ codes "out of memory"
  pub unreadable : file_text (file.Unreadable kind.NotFound) ≡ codes "cannot read schema"
  pub file_memory : file_text file.OutOfMemory ≡ codes "out of memory"
  pub ident : stop_text (of_read None) (stop.Settings refusal.BadIdent) ≡ codes "ident must be four bytes"
  pub filter : stop_text (of_read None) (stop.Settings refusal.PathInFilter) ≡ codes "a filter takes no path"
  pub idents : stop_text (of_read None) (stop.Settings refusal.TwoIdents) ≡ codes "ident and schema-ident exclude each other"
  pub paths : stop_text (of_read None) (stop.Settings refusal.TooManyPaths) ≡ codes "more than 16 paths"
  pub bare : stop_text (of_read None) (stop.Settings refusal.BareDelimited) ≡ codes "bare and delimited exclude each other"
  pub twice : stop_text (of_read None) (stop.Settings refusal.PathTwice) ≡ codes "the same path twice"
  pub steps : stop_text (of_read None) (stop.Settings refusal.TooManySteps) ≡ codes "more than 1024 steps in all paths"
  pub input : stop_text (of_read None) (stop.Settings refusal.SchemaAsInput)
      ≡ codes "a .bfbs file is given as input: put --schema before it, or --bare to check the file itself"
  pub memory : stop_text (of_read None) (stop.Settings refusal.OutOfMemory) ≡ codes "out of memory"
  pub help : stop_text (of_read None) (stop.CutOff 7) ≡ codes "write failed after 7 bytes"
  pub help_full : stop_text (record { read = None; write = Some kind.StorageFull }) (stop.CutOff 7) ≡ codes "write failed after 7 bytes: no storage space"
  pub summary : stop_text (of_read None) (stop.Unsummed 40) ≡ codes "write to standard error failed after 40 bytes of the summary"
  pub read : stop_text (of_read (Some kind.IsADirectory)) (stop.Run run.ReadFault no_tally (record { framing = Prefixed; by = Named; most_bad = 1 })) ≡ codes "read failed: is a directory"
  pub unread : is_quiet (record { read = None; write = Some kind.BrokenPipe }) (stop.CutOff 7) ≡ true
  pub full : is_quiet (record { read = None; write = Some kind.StorageFull }) (stop.CutOff 7) ≡ false
  pub note : is_quiet (record { read = None; write = Some kind.BrokenPipe }) (stop.Halted (run.NoteFault 7)) ≡ false
  pub halted : stop_text (of_read None) (stop.Halted run.TooManyTurns) ≡ codes "too many reads"
