-- The way to a fault, in the front of a row of links.
use Rattle.std.proofs.Common.{◌≤◌, List, ◌++◌, length, sym, subst, take, Result, Ok, Err}
use Rattle.std.specs.Prelude.{IfErr}
use Rattle.std.proofs.lemmas.List.{take-append-le}
use Rattle.fb_rules.specs.declared.{fault.Fault.Fault, link.Link.Link}
use Rattle.fb_verify.specs.declared.links.Located.{Located}

pub along_front : {A : Type 0} (P : Fault → List Link → Type 0) (r : Result A Located) (front behind : List Link) → IfErr r (λ l. l.links ≤ length front) → IfErr r (λ l. P l.fault (take l.links front))
    → IfErr r (λ l. P l.fault (take l.links (front ++ behind)))
along_front P (Ok a) front behind few h = tt
along_front P (Err l) front behind few h = subst (P l.fault) (sym (take-append-le l.links front behind few)) h
