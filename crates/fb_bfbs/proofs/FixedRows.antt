-- The rows of the fixed table are few, and legal.
use Rattle.std.proofs.Common.{◌≡◌, ◌<◌, ◌^◌, zero, suc, true, nat_lt, inl, inr, List, [], ◌∷◌, map, length, vec_len, All, refl, sym, ◌∙◌, ap, subst, arith}
use Rattle.std.proofs.lemmas.{List.length-map, Bool.ltb-true, Bool.and_parts}
use Rattle.std.specs.List.{list_all}
use Rattle.fb_schema.specs.declared.{rows.ObjectRow.ObjectRow, rows.EnumRow.EnumRow, fault.Code.TheVariants.OutOfMemory, fault.SchemaFault.SchemaFault}
use Rattle.fb_schema.specs.{Rows.Rows, Rows.AreFew, Rows.field_of, Rows.object_of, Rows.enum_of, Rows.rows_of, Kinds.base_types, Kinds.shape_of, Kinds.kind_of, Demands.IsLegal}
use Rattle.fb_schema.specs.Demands.{Refuses, names_no_object, names_table, names_no_union, inline_bytes}
use Rattle.fb_schema.proofs.DemandLaws.{no_first_if_legal, levels_end, owners_end, places_end, object_end, enum_end}
use Rattle.fb_schema.proofs.Judged.{first_below, or_at, in_owner, in_level, in_rows, first_fault, legal}
use Rattle.fb_bfbs.specs.Fixed.{fixed}

-- the fixed table is a schema
pub fixed_legal : IsLegal fixed
unfolding fixed base_types shape_of kind_of names_no_object names_table names_no_union inline_bytes levels_end owners_end places_end object_end enum_end first_below or_at in_owner in_level in_rows first_fault
fixed_legal = legal refl

-- an object in memory has as many fields as its row
fields_few : (objects : List ObjectRow) → list_all (λ o. nat_lt (length o.fields) (2 ^ 31)) (map object_of objects) ≡ true → All (λ o. vec_len o.fields < 2 ^ 31) objects
fields_few [] e k d lt = absurd (omega arith)
fields_few (o ∷ objects) e zero d lt = let few : length (map field_of o.fields.items) < 2 ^ 31 = ltb-true _ _ (and_parts _ _ e).0 in rw (o.fields.ok.0) (rw length-map at few)
fields_few (o ∷ objects) e (suc k) d lt = fields_few objects (and_parts _ _ e).1 k d (omega arith)

-- the objects of the fixed table are few, and so are their fields
pub fixed_few : (objects : List ObjectRow) (enums : List EnumRow) → map object_of objects ≡ fixed.objects → enums ≡ [] → AreFew objects enums
unfolding fixed
fixed_few objects enums same none = record {
  objects = (let e : length objects ≡ 10 = sym (length-map objects object_of) ∙ ap length same in omega arith);
  enums = (let e : length enums ≡ 0 = ap length none in omega arith);
  fields = fields_few objects (ap (list_all (λ o. nat_lt (length o.fields) (2 ^ 31))) same);
  members = rw none (λ k d lt. absurd (omega arith));
}

-- rows in memory with these objects are the fixed table
pub are_fixed : (objects : List ObjectRow) (enums : List EnumRow) → map object_of objects ≡ fixed.objects → enums ≡ [] → rows_of objects enums ≡ fixed
unfolding fixed
are_fixed objects enums same none = λ i. record { objects = same i; enums = map enum_of (none i) }

-- the fixed table is refused for want of memory alone
pub refused_for_memory : (rows : Rows) (fault : SchemaFault) → rows ≡ fixed → Refuses rows fault → fault.code ≡ OutOfMemory
refused_for_memory rows fault same (inl first) = absurd (no_first_if_legal rows (subst IsLegal (sym same) fixed_legal) fault first)
refused_for_memory rows fault same (inr memory) = memory.code
