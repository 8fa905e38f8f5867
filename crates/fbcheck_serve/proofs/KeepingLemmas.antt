-- Bad buffers that are kept.
use Rattle.std.proofs.Common.{◌≡◌, ℕ, List, Some, None, refl}
use Rattle.std.specs.Prelude.{option_map, string_bytes}
use Rattle.fb_run.specs.Ends.{Writer, nowhere}
use Rattle.fbcheck_texts.specs.declared.choices.Settings.{Settings}
use Rattle.fbcheck_serve.specs.{Keeping.Keeping, Keeping.Maker}

module _ (maker : Maker) (settings : Settings) (Holds : Writer → Writer → Type 0) where
  -- where no file is named, and where one is
  pub keeps_none : option_map string_bytes settings.rejects ≡ None → Holds nowhere nowhere → Keeping maker settings Holds
  keeps_none none holds = (nowhere, nowhere, rw none (refl, refl), holds)

  pub keeps_some : (name : List ℕ) (from to : maker.Made) → option_map string_bytes settings.rejects ≡ Some name → maker.makes name from → Holds (maker.writer from) (maker.writer to)
      → Keeping maker settings Holds
  keeps_some name from to is makes holds = (maker.writer from, maker.writer to, rw is (from, to, makes, refl, refl), holds)
