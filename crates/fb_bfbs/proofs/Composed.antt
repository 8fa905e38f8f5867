-- What is seen from a place is seen from the place before it, one step further on.
use Rattle.std.proofs.Common.{◌≡◌, ℕ, ℤ, Bool, true, false, zero, suc, ◌*◌, ◌≤◌, All, List, [], ◌∷◌, ◌++◌, map, length, refl, sym, Some, inl, inr}
use Rattle.std.specs.Prelude.{slice_get}
use Rattle.std.proofs.lemmas.List.{length-map, Elements.All-push}
use Rattle.fb_access.specs.{declared.step.Step.Step, declared.step.Step.TheVariants.Field as ToField, declared.step.Step.TheVariants.Element, Held.Placed, Denotes.Shown}
use Rattle.fb_access.specs.Denotes.{vector, Leads, value}
use Rattle.fb_bfbs.specs.{Says.Says, Says.after, Says.AreRows, Says.HasDouble, Seen.seen, Seen.Within, Seen.behind, Seen.IsRowAt, Describes.IsTypeRow, Describes.IsDefault}
use Rattle.fb_bfbs.specs.{Describes.is_float, Describes.IsFieldRow, Describes.IsObjectRow, Describes.IsTypeOrNone, Describes.IsMemberRow, Describes.IsEnumRow, Marks.IsTextOrEmpty}
use Rattle.fb_bfbs.specs.Marks.{IsAttribute, AreAttributes, IsAttributed, IsTagged, AreTagged}

-- what such rows say is kept by what says more
abbrev pub Carries : {R : Type 0} → (Says → R → Type 0) → Type 1
Carries {R} Is = (D E : Says) (r : R) → Within D E → Is D r → Is E r

within_after : (D E : Says) (s : Step) → Within D E → Within (after D s) (after E s)
within_after D E s h = λ steps x. h (s ∷ steps) x

-- the value here
pub seen_here : (p : Placed) (x : Shown) → x ≡ value (p.sealed).bytes (p.sealed).schema p.spot → seen p [] x
seen_here p x e = (p.spot, refl, e)

-- what is seen one step on
pub seen_after : (p r : Placed) (s : Step) → r.sealed ≡ p.sealed → Leads (p.sealed).bytes (p.sealed).schema p.spot s r.spot → Within (seen r) (after (seen p) s)
seen_after p r s same leads = λ steps x h. (h.0, (r.spot, leads, rw same at h.1), rw same at h.2)

-- the value one step on
pub seen_in : (p r : Placed) (s : Step) (x : Shown) → r.sealed ≡ p.sealed → Leads (p.sealed).bytes (p.sealed).schema p.spot s r.spot → x ≡ value (r.sealed).bytes (r.sealed).schema r.spot → seen p (s ∷ []) x
seen_in p r s x same leads e = seen_after p r s same leads [] x (seen_here r x e)

-- what a row says of a table is said of the table before it, one step further on
pub type_within : Carries IsTypeRow
type_within D E r h a = record { base = h _ _ a.base; element = h _ _ a.element; index = h _ _ a.index; fixed_length = h _ _ a.fixed_length }

pub type_or_none_within : Carries IsTypeOrNone
type_or_none_within D E r h (inl (here, a)) = inl (h _ _ here, type_within D E r h a)
type_or_none_within D E r h (inr (absent, e)) = inr (h _ _ absent, e)

double_within : (D E : Says) (bits : ℕ) → Within D E → HasDouble D bits → HasDouble E bits
double_within D E bits h (x, here, is) = (x, h [] x here, is)

default_within : (D E : Says) (float : Bool) (d : ℤ) → Within D E → IsDefault D float d → IsDefault E float d
default_within D E true d h (bits, real, is) = (bits, double_within (after D (ToField 5)) (after E (ToField 5)) bits (within_after D E (ToField 5) h) real, is)
default_within D E false d h a = h _ _ a

pub field_within : Carries IsFieldRow
field_within D E r h a = record {
  name = h _ _ a.name;
  ty = type_within (after D (ToField 1)) (after E (ToField 1)) r.ty (within_after D E (ToField 1) h) a.ty;
  slot = h _ _ a.slot;
  default = default_within D E (is_float (r.ty).base) r.default h a.default;
  deprecated = h _ _ a.deprecated;
  required = h _ _ a.required;
  optional = h _ _ a.optional;
  offset64 = h _ _ a.offset64;
}

pub rows_within : {R : Type 0} (Is : Says → R → Type 0) → Carries Is → (D E : Says) (rows : List R) → Within D E → AreRows Is D rows → AreRows Is E rows
rows_within Is f D E rows h a = record {
  count = h [] _ a.count;
  each = λ j r e. f (after D (Element j)) (after E (Element j)) r (within_after D E (Element j) h) (a.each j r e);
}

pub object_within : Carries IsObjectRow
object_within D E r h a = record {
  name = h _ _ a.name;
  fields = rows_within IsFieldRow field_within (after D (ToField 1)) (after E (ToField 1)) r.fields (within_after D E (ToField 1) h) a.fields;
  is_struct = h _ _ a.is_struct;
  minalign = h _ _ a.minalign;
  bytesize = h _ _ a.bytesize;
}

pub member_within : Carries IsMemberRow
member_within D E r h a = record {
  name = h _ _ a.name;
  value = h _ _ a.value;
  ty = type_or_none_within (after D (ToField 3)) (after E (ToField 3)) r.ty (within_after D E (ToField 3) h) a.ty;
}

pub enum_within : Carries IsEnumRow
enum_within D E r h a = record {
  name = h _ _ a.name;
  members = rows_within IsMemberRow member_within (after D (ToField 1)) (after E (ToField 1)) r.members (within_after D E (ToField 1) h) a.members;
  is_union = h _ _ a.is_union;
}

pub text_within : Carries IsTextOrEmpty
text_within D E s h (inl here) = inl (h _ _ here)
text_within D E s h (inr (absent, e)) = inr (h _ _ absent, e)

pub attribute_within : Carries IsAttribute
attribute_within D E a h is = record {
  key = text_within (after D (ToField 0)) (after E (ToField 0)) a.key (within_after D E (ToField 0) h) is.key;
  value = text_within (after D (ToField 1)) (after E (ToField 1)) a.value (within_after D E (ToField 1) h) is.value;
}

attributes_within : Carries AreAttributes
attributes_within D E attributes h (inl rows) = inl (rows_within IsAttribute attribute_within D E attributes h rows)
attributes_within D E attributes h (inr (absent, e)) = inr (h _ _ absent, e)

attributed_within : Carries IsAttributed
attributed_within D E f h is = record {
  slot = h _ _ is.slot;
  deprecated = h _ _ is.deprecated;
  required = h _ _ is.required;
  key = h _ _ is.key;
  attributes = attributes_within (after D (ToField 9)) (after E (ToField 9)) f.attributes (within_after D E (ToField 9) h) is.attributes;
}

pub tagged_within : Carries IsTagged
tagged_within D E t h is = record { field = is.field; read = attributed_within D E is.field h is.read; slot = is.slot; held = is.held; builtins = is.builtins }

pub fields_within : Carries AreTagged
fields_within D E fields h rows = rows_within IsTagged tagged_within (after D (ToField 1)) (after E (ToField 1)) fields (within_after D E (ToField 1) h) rows

-- what is seen of a row from its table is said of it by whoever says what is seen
pub row_here : {R : Type 0} (Is : Says → R → Type 0) → Carries Is → (q : Placed) (row : R) → Is (seen q) row → IsRowAt Is q row
row_here Is carries q row here = λ p way more. carries (seen q) (behind (seen p) way) row more here

-- who says what is seen from a place says what is seen one step on
pub said_after : (D : Says) (p r : Placed) (s : Step) → Within (seen p) D → r.sealed ≡ p.sealed → Leads (p.sealed).bytes (p.sealed).schema p.spot s r.spot → Within (seen r) (after D s)
said_after D p r s more same leads = λ steps x h. more (s ∷ steps) x (seen_after p r s same leads steps x h)

-- the rows so far
pub record AreRowsSoFar {R : Type 0} (Is : Says → R → Type 0) (D : Says) (rows : List R) : Type 0 where
  pub each : (j : ℕ) (r : R) → slice_get rows j ≡ Some r → Is (after D (Element j)) r

each_push : {R : Type 0} (P : ℕ → R → Type 0) (rows : List R) (row : R) → ((j : ℕ) (r : R) → slice_get rows j ≡ Some r → P j r) → P (length rows) row → (j : ℕ) (r : R) → slice_get (rows ++ row ∷ []) j ≡ Some r → P j r
each_push P [] y h i zero r e = let x : y ≡ r = cc in rw (← x) i
each_push P [] y h i (suc j) r e = absurd cc
each_push P (x ∷ xs) y h i zero r e = h zero r e
each_push P (x ∷ xs) y h i (suc j) r e = each_push (λ k. P (suc k)) xs y (λ k. h (suc k)) i j r e

pub no_rows : {R : Type 0} (Is : Says → R → Type 0) (D : Says) → AreRowsSoFar Is D []
no_rows Is D = record { each = λ j r e. absurd cc }

-- one row more, of the element behind those before
pub one_row_more : {R : Type 0} (Is : Says → R → Type 0) (D : Says) (rows : List R) (row : R) (now : List R) (n : ℕ) → now ≡ rows ++ row ∷ [] → length rows ≡ n → AreRowsSoFar Is D rows → Is (after D (Element n)) row → AreRowsSoFar Is D now
one_row_more Is D rows row now n pushed count so_far said = rw pushed (record { each = each_push (λ j r. Is (after D (Element j)) r) rows row so_far.each (rw count said) })

-- the rows are all there
pub all_rows : {R : Type 0} (Is : Says → R → Type 0) (D : Says) (rows : List R) (n : ℕ) → D [] (vector n) → length rows ≡ n → AreRowsSoFar Is D rows → AreRows Is D rows
all_rows Is D rows n count length_is so_far = record { count = rw length_is count; each = so_far.each }

each_mapped : {X R : Type 0} (P : ℕ → R → Type 0) (f : X → R) (xs : List X) → ((j : ℕ) (x : X) → slice_get xs j ≡ Some x → P j (f x)) → (j : ℕ) (r : R) → slice_get (map f xs) j ≡ Some r → P j r
each_mapped P f [] h j r e = absurd cc
each_mapped P f (x ∷ xs) h zero r e = let same : f x ≡ r = cc in rw (← same) (h zero x refl)
each_mapped P f (x ∷ xs) h (suc j) r e = each_mapped (λ k. P (suc k)) f xs (λ k. h (suc k)) j r e

-- what is said of rows by what each is, is said of what they are
pub mapped_rows : {X R : Type 0} (Is : Says → R → Type 0) (D : Says) (f : X → R) (xs : List X) → AreRows (λ E x. Is E (f x)) D xs → AreRows Is D (map f xs)
mapped_rows Is D f xs rows = record { count = rw (length-map xs f) (rows.count); each = each_mapped (λ j r. Is (after D (Element j)) r) f xs rows.each }

-- the count of a vector that is here
pub seen_count : (p : Placed) (n : ℕ) → value (p.sealed).bytes (p.sealed).schema p.spot ≡ vector n → seen p [] (vector n)
seen_count p n e = seen_here p (vector n) (sym e)

-- one item more that is no longer than the others may be
pub one_more_few : {X : Type 0} (size : X → ℕ) (xs : List X) (y : X) (now : List X) {n : ℕ} → now ≡ xs ++ y ∷ [] → All (λ x. 4 * size x ≤ n) xs → 4 * size y ≤ n → All (λ x. 4 * size x ≤ n) now
one_more_few size xs y now {n} pushed few one = rw pushed (All-push (λ x. 4 * size x ≤ n) xs y few one)
