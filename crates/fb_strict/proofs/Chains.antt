-- A chain of demands finds nothing exactly where they are met.
use Rattle.std.proofs.Common.{◌≡◌, ◌↔◌, ℕ, zero, suc, ◌+◌, List, [], ◌∷◌, ap, Option, Some, None, Bool, true, false, refl, sym, ◌∙◌, arith}
use Rattle.std.proofs.lemmas.{Bool.Decides.nat_tests, Str.IsUtf8-from_is_utf8, Str.is_utf8-from_IsUtf8}
use Rattle.std.specs.Str.{IsUtf8, is_utf8, Lossy.utf8_valid_len}
use Rattle.fb_bytes.specs.Word.{word}
use Rattle.fb_rules.specs.{declared.fault.Reason.TheVariants.NotUtf8, declared.fault.Reason.TheVariants.UnknownField, Order.check, declared.checks.Checks.Checks}
use Rattle.fb_rules.specs.Fields.{types_begin}
use Rattle.std.specs.Prelude.{slice_get, ◌==◌, ◌||◌, ◌≢◌}
use Rattle.fb_strict.proofs.Lists.{or_first, or_later}
use Rattle.fb_schema.specs.{Rows.Rows, Live.Live, Live.live_fields}
use Rattle.fb_rules.proofs.Chains.{offset_none}
use Rattle.fb_strict.specs.Strict.{text_at, IsUtf8At, IsLiveSlot, LeadsInside, IsStrictUnion, IsStrictElement, IsStrictUnions}
use Rattle.fb_strict.specs.InOrder.{inside_failure, union_failure, together_failure, element_failure, text_failure, is_live_slot, slot_failure, UnionsAreTold}

pub inside_none : (c : Checks) (b : List ℕ) (p : ℕ) → (inside_failure c b p ≡ None) ↔ LeadsInside c b p
unfolding inside_failure
inside_none c b p = grind (arith, nat_tests, offset_none)

pub union_none : (c : Checks) (b : List ℕ) (S : Rows) (e t : ℕ) (types place : Option ℕ) → (union_failure c b S e t types place ≡ None) ↔ IsStrictUnion c b S e types place
union_none c b S e t types None = grind (arith, nat_tests, inside_none)
union_none c b S e t types (Some p) = grind (arith, nat_tests, inside_none)

pub element_none : (c : Checks) (b : List ℕ) (S : Rows) (e q p : ℕ) → (element_failure c b S e q p ≡ None) ↔ IsStrictElement c b S e (word b q 1) p
unfolding element_failure
element_none c b S e q p = grind (arith, nat_tests, inside_none)

pub is_whole : (bs : List ℕ) → IsUtf8 bs → is_utf8 bs ≡ true
is_whole bs h = is_utf8-from_IsUtf8 bs h

wrong_by : (bs : List ℕ) → (IsUtf8 bs → ⊥) → (x : Bool) → is_utf8 bs ≡ x → x ≡ false
wrong_by bs h true is = absurd (h (IsUtf8-from_is_utf8 bs is))
wrong_by bs h false is = refl

pub is_wrong : (bs : List ℕ) → (IsUtf8 bs → ⊥) → is_utf8 bs ≡ false
is_wrong bs h = wrong_by bs h (is_utf8 bs) refl

text_by : (b : List ℕ) (s : ℕ) (x : Bool) → is_utf8 (text_at b s) ≡ x → (check x NotUtf8 (s + 4 + utf8_valid_len (text_at b s)) 0 None ≡ None) ↔ IsUtf8At b s
text_by b s true is = ((λ h. IsUtf8-from_is_utf8 (text_at b s) is), (λ h. refl))
text_by b s false is = ((λ h. absurd (cc)), (λ h. absurd (let z : false ≡ true = sym is ∙ is_utf8-from_IsUtf8 (text_at b s) h in cc)))

pub text_none : (b : List ℕ) (s : ℕ) → (text_failure b s ≡ None) ↔ IsUtf8At b s
text_none b s = text_by b s (is_utf8 (text_at b s)) refl

-- a slot
module _ (slot : ℕ) where
  abbrev pub Found : List Live → Type 0
  Found fs = (i : ℕ) × (f : Live) × (slice_get fs i ≡ Some f) × (f.slot ≡ slot)

  found_by : (f : Live) (fs : List Live) → (is_live_slot fs slot ≡ true → Found fs) → (x : Bool) → (f.slot == slot) ≡ x → (x || is_live_slot fs slot) ≡ true → Found (f ∷ fs)
  found_by f fs later true is h = (0, f, refl, grind (arith, nat_tests, is))
  found_by f fs later false is h = let r = later h in (suc r.0, r.1, r.2, r.3)

  pub found_slot : (fs : List Live) → is_live_slot fs slot ≡ true → Found fs
  found_slot [] h = absurd (cc)
  found_slot (f ∷ fs) h = found_by f fs (found_slot fs) (f.slot == slot) refl h

  pub is_slot : (fs : List Live) (i : ℕ) (f : Live) → slice_get fs i ≡ Some f → f.slot ≡ slot → is_live_slot fs slot ≡ true
  is_slot [] i f at is = absurd (cc)
  is_slot (g ∷ fs) zero f at is = let same : g ≡ f = cc in let its : g.slot ≡ slot = ap (λ (x : Live). x.slot) same ∙ is in or_first (g.slot == slot) (is_live_slot fs slot) (grind (arith, nat_tests, its))
  is_slot (g ∷ fs) (suc i) f at is = or_later (g.slot == slot) (is_live_slot fs slot) (is_slot fs i f at is)

slot_by : (S : Rows) (k n at slot : ℕ) (x y : Bool) → (n == 0) ≡ x → is_live_slot (live_fields S k) slot ≡ y → (check (x || y) UnknownField at 1 None ≡ None) ↔ (n ≢ 0 → IsLiveSlot S k slot)
slot_by S k n at slot true y none is = ((λ h some. absurd (some (grind (arith, nat_tests, none)))), (λ h. refl))
slot_by S k n at slot false true none is = ((λ h some. found_slot slot (live_fields S k) is), (λ h. refl))
slot_by S k n at slot false false none is =
    ((λ h. absurd (cc)), (λ h. absurd (let f = h (grind (arith, nat_tests, none)) in let w : false ≡ true = sym is ∙ is_slot slot (live_fields S k) f.0 f.1 f.2 f.3 in cc)))

pub slot_none : (b : List ℕ) (S : Rows) (k v slot : ℕ) → (slot_failure b (live_fields S k) v slot ≡ None) ↔ (word b (v + slot) 2 ≢ 0 → IsLiveSlot S k slot)
slot_none b S k v slot = slot_by S k (word b (v + slot) 2) (v + slot) slot (word b (v + slot) 2 == 0) (is_live_slot (live_fields S k) slot) refl refl

pub unions_none : (c : Checks) (b : List ℕ) (S : Rows) (e : ℕ) (types place : Option ℕ) → UnionsAreTold c b S e types place ↔ IsStrictUnions c b S e types place
unions_none c b S e types place = (
  (λ h. record { together = together types place h.0; leads = λ p j is lt. (element_none c b S e (types_begin b types + j) _).0 (h.1 p j is lt) }),
  (λ h. (alone types place h.together, λ p j is lt. (element_none c b S e (types_begin b types + j) _).1 (h.leads p j is lt))),
)
  where
    together : (types place : Option ℕ) → together_failure types place ≡ None → (types ≡ None) ↔ (place ≡ None)
    together None None h = grind arith
    together None (Some p) h = grind arith
    together (Some q) None h = grind arith
    together (Some q) (Some p) h = grind arith

    alone : (types place : Option ℕ) → (types ≡ None) ↔ (place ≡ None) → together_failure types place ≡ None
    alone None None h = grind arith
    alone None (Some p) h = grind arith
    alone (Some q) None h = grind arith
    alone (Some q) (Some p) h = grind arith
