-- What the schema tells of a type of a union is what its member leads to.
use Rattle.std.proofs.Common.{◌≡◌, refl, Option, Some, None}
use Rattle.fb_schema.specs.declared.{kinds.Kind.Kind, kinds.Kind.TheVariants.Scalar, kinds.Kind.TheVariants.Struct, kinds.Kind.TheVariants.Table, views.Target.Target}
use Rattle.fb_schema.specs.{Rows.Rows, Served.MemberHolds, Targets.target_of, Targets.kind_to}
use Rattle.fb_rules.specs.{Fields.to_nothing, Fields.lead_of, OffsetRows.lead_to, OffsetRows.referent_of, OffsetRows.IsReferent, declared.offset_row.Referent.Referent}
use Rattle.fb_rules.specs.declared.offset_row.Referent.TheVariants.{Nothing}

pub goal_leads : (S : Rows) (member : Option Kind) (t : Target) → t ≡ target_of S member → lead_to (referent_of t.goal t) ≡ lead_of S member
goal_leads S (Some (Scalar s)) t is = rw is refl
goal_leads S _ t is = rw is refl

pub goal_holds : (S : Rows) (member : Option Kind) (t : Target) → t ≡ target_of S member → MemberHolds S member → IsReferent S (referent_of t.goal t)
goal_holds S (Some (Struct k)) t is h = rw is h.1
goal_holds S (Some (Table k)) t is h = rw is h
goal_holds S _ t is h = rw is tt

-- a type that leads to nothing has no member, where the members of unions are what unions may hold
pub no_member : (S : Rows) (member : Option Kind) → kind_to (target_of S member) ≡ member → to_nothing ≡ lead_of S member → member ≡ None
no_member S None told e = refl
no_member S (Some (Scalar s)) told e = absurd cc
no_member S _ told e = absurd cc

-- what leads to something has one
no_nothing : (referent : Referent) → lead_to referent ≡ to_nothing → referent ≡ Nothing
no_nothing Nothing e = refl
no_nothing _ e = absurd cc

pub some_member : (S : Rows) (member : Option Kind) (referent : Referent) → lead_to referent ≡ lead_of S member → (referent ≡ Nothing → ⊥) → (kind : Kind) × (member ≡ Some kind)
some_member S None referent e n = absurd (n (no_nothing referent e))
some_member S (Some kind) referent e n = (kind, refl)
