-- The links of a trail: the fields that it goes through, from the root table on.
use Rattle.std.specs.Prelude.{◌≡◌, ℕ, ◌+◌, ◌⊎◌, List, [], ◌∷◌, Option, Some, None, slice_get}
use Rattle.fb_bytes.specs.Word.{word}
use Rattle.fb_schema.specs.declared.kinds.Kind.{Kind, TheVariants.Union, TheVariants.Texts, TheVariants.Tables, TheVariants.Unions}
use Rattle.fb_schema.specs.{Rows.Rows, Live.Live, Live.live_fields}
use Rattle.fb_rules.specs.{declared.checks.Checks.Checks, declared.fault.Fault.Fault, declared.link.Link.Link, Bounds.Bounds, Question.Question, Places.target, Tree.kids_length}
use Rattle.fb_rules.specs.{Tree.elements_length, Way.Way, Way.way_to_start, Way.way_to_root, WellFormed.base, WellFormed.IsStart, Fields.type_place, Fields.union_type}
use Rattle.fb_rules.specs.{Fields.types_begin, Fields.Lead, Fields.to_table, Fields.Entry, Fields.entries, Stops.in_start, Stops.IsFalseAt, Stops.Trail, Stops.at_head}
use Rattle.fb_rules.specs.Stops.{at_field, FieldTrail, at_own, at_element, ElementTrail, at_lead, through, IsTrail}

-- the number of an element with j others before it, where the field is a vector of what may lead on
abbrev pub element_of : ℕ → Kind → Option ℕ
element_of j Texts = Some j
element_of j (Tables k) = Some j
element_of j (Unions e) = Some j
element_of j _ = None

-- the type of a union with j others before it, where the field g of the table at t is a union or a vector of these
abbrev pub type_of : List ℕ → ℕ → Live → ℕ → Kind → Option ℕ
type_of b t g j (Union e) = Some (union_type b (type_place b t g.slot))
type_of b t g j (Unions e) = Some (word b (types_begin b (type_place b t g.slot) + j) 1)
type_of b t g j _ = None

-- the link to a field of a table of the object k
abbrev pub field_link : ℕ → Live → Link
field_link k g = record { object = k; field = g.number; element = None; member = None }

-- the link through the uoffset of this field that has j others before it
abbrev pub element_link : List ℕ → ℕ → ℕ → Live → ℕ → Link
element_link b k t g j = record { object = k; field = g.number; element = element_of j g.kind; member = type_of b t g j g.kind }

-- the object of the table to which a uoffset leads
abbrev pub object_led_to : Lead → ℕ
object_led_to (to_table k) = k
object_led_to _ = 0

unfoldable mutual
  -- the links of this trail from the table at t of the object k: one for each field
  pub links_of : Trail → List ℕ → Rows → ℕ → ℕ → List Link
  links_of at_head b S k t = []
  links_of (at_field earlier s) b S k t = links_in_field s b S k t (slice_get (live_fields S k) (kids_length earlier))

  pub links_in_field : FieldTrail → List ℕ → Rows → ℕ → ℕ → Option Live → List Link
  links_in_field s b S k t None = []
  links_in_field at_own b S k t (Some g) = field_link k g ∷ []
  links_in_field (at_element before s) b S k t (Some g) =
      element_link b k t g (elements_length before) ∷ links_in_element s b S (slice_get (entries b S t g) (elements_length before))

  pub links_in_element : ElementTrail → List ℕ → Rows → Option Entry → List Link
  links_in_element s b S None = []
  links_in_element at_lead b S (Some x) = []
  links_in_element (through s) b S (Some x) = links_of s b S (object_led_to x.lead) (target b x.place)

-- from the table at t a trail with these links leads to this fault
abbrev pub LeadsAlong : Checks → List ℕ → Rows → Bounds → ℕ → ℕ → Way → Fault → List Link → Type 0
LeadsAlong c b S L k t w f links = (s : Trail) × IsTrail s c b S L k t w f × (links_of s b S k t ≡ links)

-- the fault is the one at the start, to which no link leads, or the one at the end of a trail with these links from the
-- root
abbrev pub StopsAlong : Question → List ℕ → Fault → List Link → Type 0
StopsAlong q b f links =
    (IsFalseAt q.checks b q.rows q.limits (in_start q.start q.ident) (way_to_start q.root) f × (links ≡ []))
    ⊎ (IsStart q.checks b q.start q.ident × LeadsAlong q.checks b q.rows q.limits q.root (target b (base q.start)) (way_to_root q.root q.start q.ident) f links)
