-- The steps that parts are, and the kinds to which they lead.
use Rattle.std.proofs.Common.{arith, ◌≡◌, ℕ, List, slice_get, Option, Some, None, Ok, Err, IsTrue, IsSome, IfSome, refl}
use Rattle.fb_schema.specs.declared.{kinds.Kind.Kind, views.FieldView.FieldView, views.PartView.PartView, kinds.Kind.TheVariants.Struct, kinds.Kind.TheVariants.Table, kinds.Kind.TheVariants.Union}
use Rattle.fb_schema.specs.{Demands.IsLegal, Members.member_of, Members.member_named, Parts.PartFits, Parts.part_at, Parts.part_named, Rows.Rows, Rows.is_union, Served.KindHolds, Served.IsServed}
use Rattle.fb_schema.specs.Live.{Live, live_fields, live_of_view, field_named}
use Rattle.fb_schema.proofs.FindLemmas.{find_by_position}
use Rattle.fb_access.specs.declared.{step.Step.Step, step.Step.TheVariants.Field, misfit.Misfit.TheVariants.NoSuchField, misfit.Fitted.Fitted}
use Rattle.fb_access.specs.{Fitting.element_kind, Fitting.next_kind, Kept.IsThere, Grammar.Part, Grammar.field, Grammar.element, Grammar.member, Grammar.number_of}
use Rattle.fb_access.specs.Resolving.{field_with_name, to_field, to_part, to_place, to_element, to_member, field_step, member_step, fitting}
use Rattle.fb_access.proofs.{Found.found_there, MemberKinds.member_there, NumberedFields.found_by_number}

-- a table without the field
pub no_field : (S : Rows) (k : ℕ) (name : List ℕ) → field_named S k name ≡ None → Err NoSuchField ≡ field_step S (Table k) name
no_field S k name e = grind (arith, find_by_position)

-- and one with it
pub a_field : (S : Rows) (k i : ℕ) (name : List ℕ) (f : FieldView) → field_named S k name ≡ Some i → slice_get (live_fields S k) i ≡ Some (live_of_view f) → Ok (record { step = Field f.number; kind = f.kind }) ≡ field_step S (Table k) name
a_field S k i name f e at = grind (arith, find_by_position)

-- a member that is named has a kind
pub has_kind : (S : Rows) (e v : ℕ) (name : List ℕ) → IsLegal S → IsTrue (is_union S e) → member_named S e name ≡ Some v → IsSome (member_of S e v)
has_kind S e v name legal there named = grind (arith, member_there)

-- Where a step leads.
pub record Leads (S : Rows) (kind : Kind) (x : Fitted) : Type 0 where
  pub next : next_kind S kind x.step ≡ Some x.kind
  pub there : IsThere S x.kind

field_kind_there : (S : Rows) (f : Live) (kind : Kind) → KindHolds S f kind → IsThere S kind
field_kind_there S f kind h = grind arith

-- what stands in a struct names no table and no union
part_there : (S : Rows) (bytes : ℕ) (part : PartView) (kind : Kind) → PartFits S bytes part kind → IsThere S kind
part_there S bytes part kind h = grind arith

-- a step that fits, with the kind to which it leads
abbrev fitted : Step → Kind → Fitted
fitted step kind = record { step = step; kind = kind }

module _ (S : Rows) (legal : IsLegal S) (served : IsServed S) where
  field_leads : (k : ℕ) (name : List ℕ) (o : Option Live) (x : Fitted) → field_with_name S k name ≡ o → to_field o ≡ Ok x → Leads S (Table k) x
  unfolding next_kind
  field_leads k name o x e h = grind (arith, found_there, found_by_number, field_kind_there)

  part_leads : (k i : ℕ) (o : Option PartView) (x : Fitted) → part_at S k i ≡ o → to_part i o ≡ Ok x → Leads S (Struct k) x
  unfolding next_kind
  part_leads k i o x e h = grind (arith, part_there)

  placed_leads : (k : ℕ) (o : Option ℕ) (x : Fitted) → to_place S k o ≡ Ok x → Leads S (Struct k) x
  placed_leads k o x h = grind (arith, part_leads)

  member_leads : (e : ℕ) (name : List ℕ) (o : Option ℕ) (x : Fitted) → IsTrue (is_union S e) → member_named S e name ≡ o → to_member S e o ≡ Ok x → Leads S (Union e) x
  unfolding next_kind
  member_leads e name o x u n h = grind (arith, member_there)

  element_leads : (kind : Kind) (j : ℕ) (o : Option Kind) (x : Fitted) → element_kind kind ≡ o → IfSome o (IsThere S) → to_element j o ≡ Ok x → Leads S kind x
  unfolding next_kind
  element_leads kind j o x e t h = grind arith

  element_there : (kind : Kind) → IsThere S kind → IfSome (element_kind kind) (IsThere S)
  element_there kind h = grind arith

  named_leads : (kind : Kind) (name : List ℕ) (x : Fitted) → field_step S kind name ≡ Ok x → Leads S kind x
  named_leads (Table k) name x h = field_leads k name (field_with_name S k name) x refl h
  named_leads (Struct k) name x h = placed_leads k (part_named S k name) x h
  named_leads kind name x h = absurd cc

  chosen_leads : (kind : Kind) (name : List ℕ) (x : Fitted) → IsThere S kind → member_step S kind name ≡ Ok x → Leads S kind x
  chosen_leads (Union e) name x t h = member_leads e name (member_named S e name) x t refl h
  chosen_leads kind name x t h = absurd cc

  -- a part that fits leads to a kind that is there
  pub leads : (kind : Kind) (p : Part) (x : Fitted) → IsThere S kind → fitting S kind p ≡ Ok x → Leads S kind x
  leads kind (field name) x t h = named_leads kind name x h
  leads kind (element digits) x t h = element_leads kind (number_of digits) (element_kind kind) x refl (element_there kind t) h
  leads kind (member name) x t h = chosen_leads kind name x t h
