-- Texts of paths by example: what is a path, where a text is none, and what a path resolves to or why it doesn't.
use Rattle.std.specs.Prelude.{◌≡◌, ℕ, List, [], ◌∷◌, codes}
use Rattle.fb_access.specs.declared.{step.Step.Step, step.Step.TheVariants.Field, step.Step.TheVariants.Element, step.Step.TheVariants.Member, misfit.Misfit.Misfit}
use Rattle.fb_access.specs.declared.misfit.Misfit.TheVariants.{NoSuchField, NotIndexable, NotAUnion, NoSuchMember, NotATable}
use Rattle.fb_access.specs.Grammar.{field, element, member, IsName, IsNumber, number_of, spelling, IsReading}
use Rattle.fb_access.specs.{Resolving.Resolves, Resolving.Misfits, Samples.rows}

-- names and numbers at the bounds of what they may be
pub record Words : Type 0 where
  pub letters : IsName (codes "AZaz_09")
  pub underscore : IsName (codes "_")
  pub digit_first : IsName (codes "1a") → ⊥
  pub before_a_letter : IsName (codes "a@") → ⊥
  pub before_a_small_letter : IsName (codes "a`") → ⊥
  pub behind_a_small_letter : IsName (codes "a{") → ⊥
  pub zero : IsNumber (codes "0")
  pub zero_first : IsNumber (codes "07") → ⊥
  pub digits : number_of (codes "4294967295") ≡ 4294967295

-- how parts are written
pub record Spellings : Type 0 where
  pub field_in_a_table : spelling (field (codes "a") ∷ []) ≡ codes ".a"
  pub element_of_a_vector : spelling (element (codes "10") ∷ []) ≡ codes "[10]"
  pub member_of_a_union : spelling (member (codes "A") ∷ field (codes "b") ∷ []) ≡ codes "@A.b"
  pub reading : IsReading (codes "us[10]@A.byte") (codes "us") (element (codes "10") ∷ member (codes "A") ∷ field (codes "byte") ∷ [])

-- in the sample's rows this text resolves to these steps from the root table
abbrev pub LeadsBy : List ℕ → List Step → Type 0
LeadsBy text steps = Resolves rows 0 text steps

-- and this text fits until the step of this number
abbrev pub IsUnfit : List ℕ → Misfit → ℕ → Type 0
IsUnfit text misfit step = Misfits rows 0 text misfit step

-- fields of tables by their ids, which a deprecated field has too, and those of structs by their order
pub record Resolved : Type 0 where
  pub a_field : LeadsBy (codes "text") (Field 1 ∷ [])
  pub behind_a_deprecated_field : LeadsBy (codes "longs[7]") (Field 13 ∷ Element 7 ∷ [])
  pub of_a_table : LeadsBy (codes "table.ubyte") (Field 3 ∷ Field 2 ∷ [])
  pub of_a_struct : LeadsBy (codes "struct.y") (Field 2 ∷ Field 1 ∷ [])
  pub of_an_array : LeadsBy (codes "struct.z[3]") (Field 2 ∷ Field 2 ∷ Element 3 ∷ [])
  pub of_a_member : LeadsBy (codes "us[1]@A.byte") (Field 11 ∷ Element 1 ∷ Member 1 ∷ Field 1 ∷ [])

-- each way not to fit, behind what does
pub record Unfit : Type 0 where
  pub no_field : IsUnfit (codes "table.none") NoSuchField 1
  pub a_deprecated_field : IsUnfit (codes "old") NoSuchField 0
  pub no_vector : IsUnfit (codes "table[0]") NotIndexable 1
  pub no_union : IsUnfit (codes "tables[0]@A") NotAUnion 2
  pub no_member : IsUnfit (codes "us[0]@B") NoSuchMember 2
  pub no_part : IsUnfit (codes "us[0]@W.w") NoSuchField 3
  pub no_table : IsUnfit (codes "n.x") NotATable 1
