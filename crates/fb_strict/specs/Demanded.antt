-- What is demanded of buffers, and what the bytes of fields hold.
use Rattle.std.specs.Prelude.{ℕ, Bool, List, Option, None}
use Rattle.fb_schema.specs.{declared.kinds.Kind.Kind, declared.kinds.Kind.TheVariants.Scalars, declared.kinds.Scalar.TheVariants.UByte, Live.Live}
use Rattle.fb_strict.specs.{declared.demands.Demands.Demands, declared.tasks.Held.Held, declared.holding.Holding.Holding, Holding.held_in}

-- which demands there are, and which fields hold something
pub record Demanded : Type 0 where
  pub unions : Bool
  pub nested : Bool
  pub known_fields : Bool
  pub utf8 : Bool
  pub holds : List Holding

-- where these flags say so, and these fields hold something
abbrev pub demanded : Demands → List Holding → Demanded
demanded d hs = record { unions = d.unions; nested = d.nested; known_fields = d.known_fields; utf8 = d.utf8; holds = hs }

abbrev pub flags : Demanded → Demands
flags D = record { unions = D.unions; nested = D.nested; known_fields = D.known_fields; utf8 = D.utf8 }

-- what a field of this kind holds: only a vector of bytes does
abbrev pub held_by : Option Held → Kind → Option Held
held_by held (Scalars UByte) = held
held_by held _ = None

-- what the field f of the object k holds
abbrev pub held_of : Demanded → ℕ → Live → Option Held
held_of D k f = held_by (held_in D.holds k f.slot) f.kind
