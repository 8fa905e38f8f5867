-- The steps that a place in a schema file has, and what they lead to.
use Rattle.std.proofs.Common.{◌≡◌, ℕ, ◌<◌, List, refl, ◌∙◌, IsTrue}
use Rattle.fb_schema.specs.{declared.kinds.Kind.Kind, declared.kinds.Kind.TheVariants.Table, declared.kinds.Kind.TheVariants.Tables, Rows.Rows}
use Rattle.fb_access.specs.declared.{step.Step.TheVariants.Field as ToField, step.Step.TheVariants.Element, spot.Spot.Spot, spot.Spot.TheVariants.AtTable}
use Rattle.fb_access.specs.{Fitting.next_kind, Held.Placed, Here.IsHere, Here.MayBeHere, Here.HereGoesOn, Denotes.Leads, Denotes.allows, Denotes.nothing, Denotes.table}
use Rattle.fb_access.specs.Denotes.{vector, value}
use Rattle.fb_access.proofs.{Shapes.is_here, Callers.here_allows, Callers.field_may_be_here, Callers.element_is_here}
use Rattle.fb_bfbs.specs.{Fixed.fixed, Seen.IsAt, Seen.HasField, Seen.MayHaveField, Seen.IsOneOn}

-- a field that is always there
pub field_here : (p : Placed) (n : ℕ) (kind : Kind) (q : Spot) → HasField p n kind → HereGoesOn (p.sealed).schema p.spot (ToField n) q → IsHere q kind
field_here p n kind q h goes = goes (Table h.object) kind h.at.here (rw (h.at.by_fixed) h.sure)

pub at_field : (p r : Placed) (n : ℕ) (kind : Kind) → HasField p n kind → r.sealed ≡ p.sealed → HereGoesOn (p.sealed).schema p.spot (ToField n) r.spot → IsAt r kind
at_field p r n kind h same goes = record { by_fixed = rw same (h.at.by_fixed); here = field_here p n kind r.spot h goes }

-- a field that may be absent
pub maybe_allowed : (p : Placed) (n : ℕ) (kind : Kind) → MayHaveField p n kind → IsTrue (allows (p.sealed).schema p.spot (ToField n))
maybe_allowed p n kind h = rw (h.at.by_fixed) (here_allows fixed p.spot (ToField n) (Table h.object) kind h.at.here h.field)

pub maybe_here : (p : Placed) (n : ℕ) (kind : Kind) (q : Spot) → MayHaveField p n kind → Leads (p.sealed).bytes (p.sealed).schema p.spot (ToField n) q → MayBeHere q kind
maybe_here p n kind q h leads = field_may_be_here (p.sealed).bytes (p.sealed).schema p.spot h.object n kind q h.at.here (rw (h.at.by_fixed) h.field) leads

pub one_on : (p r : Placed) (n : ℕ) (kind : Kind) → MayHaveField p n kind → r.sealed ≡ p.sealed → Leads (p.sealed).bytes (p.sealed).schema p.spot (ToField n) r.spot → IsHere r.spot kind → IsOneOn p (ToField n) r kind
one_on p r n kind h same leads here = record { at = record { by_fixed = rw same (h.at.by_fixed); here = here }; same = same; leads = leads }

-- the elements of a vector of tables
pub element_allowed : (p : Placed) (k j : ℕ) → IsAt p (Tables k) → IsTrue (allows (p.sealed).schema p.spot (Element j))
unfolding next_kind
element_allowed p k j at = here_allows (p.sealed).schema p.spot (Element j) (Tables k) (Table k) at.here refl

pub at_element : (p r : Placed) (k j n : ℕ) → IsAt p (Tables k) → value (p.sealed).bytes (p.sealed).schema p.spot ≡ vector n → j < n → r.sealed ≡ p.sealed → Leads (p.sealed).bytes (p.sealed).schema p.spot (Element j) r.spot → IsAt r (Table k)
at_element p r k j n at count lt same leads = record {
  by_fixed = rw same (at.by_fixed);
  here = element_is_here (p.sealed).bytes (p.sealed).schema p.spot j n (Tables k) (Table k) r.spot at.here refl count lt leads;
}

nothing_is_no_table : (b : List ℕ) (S : Rows) (q : Spot) → table ≡ value b S q → value b S q ≡ nothing → ⊥
nothing_is_no_table b S q e i = let w : table ≡ nothing = e ∙ i in cc

-- where a table is shown, the field is there
pub maybe_one_on : (p r : Placed) (n k : ℕ) → MayHaveField p n (Table k) → r.sealed ≡ p.sealed → Leads (p.sealed).bytes (p.sealed).schema p.spot (ToField n) r.spot → table ≡ value (r.sealed).bytes (r.sealed).schema r.spot → IsOneOn p (ToField n) r (Table k)
maybe_one_on p r n k h same leads shown_here =
    one_on p r n (Table k) h same leads (is_here (r.sealed).bytes (r.sealed).schema r.spot (Table k) (maybe_here p n (Table k) r.spot h leads) (λ e. nothing_is_no_table (r.sealed).bytes (r.sealed).schema r.spot shown_here e))

-- a table that is here is shown as one
table_value : (b : List ℕ) (S : Rows) (q : Spot) (k : ℕ) → IsHere q (Table k) → value b S q ≡ table
unfolding value
table_value b S (AtTable o t) k here = refl
table_value b S q k here = absurd cc

pub table_is_here : (p : Placed) {k : ℕ} → IsAt p (Table k) → value (p.sealed).bytes (p.sealed).schema p.spot ≡ table
table_is_here p {k} at = table_value (p.sealed).bytes (p.sealed).schema p.spot k at.here

-- and where a vector is, it is of the field's tables
nothing_is_no_vector : (b : List ℕ) (S : Rows) (q : Spot) (n : ℕ) → vector n ≡ value b S q → value b S q ≡ nothing → ⊥
nothing_is_no_vector b S q n e i = let w : vector n ≡ nothing = e ∙ i in cc

pub maybe_list_on : (p r : Placed) (n k count : ℕ) → MayHaveField p n (Tables k) → r.sealed ≡ p.sealed → Leads (p.sealed).bytes (p.sealed).schema p.spot (ToField n) r.spot → vector count ≡ value (r.sealed).bytes (r.sealed).schema r.spot → IsOneOn p (ToField n) r (Tables k)
maybe_list_on p r n k count h same leads shown_here =
    one_on p r n (Tables k) h same leads (is_here (r.sealed).bytes (r.sealed).schema r.spot (Tables k) (maybe_here p n (Tables k) r.spot h leads) (λ e. nothing_is_no_vector (r.sealed).bytes (r.sealed).schema r.spot count shown_here e))
