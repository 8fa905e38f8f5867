-- A schema file says one list of marks.
use Rattle.std.proofs.Common.{List, [], length, map, sym, ◌∙◌, ap, inl, inr}
use Rattle.fb_access.specs.{declared.step.Step.TheVariants.Field as ToField, Denotes.nothing, Denotes.vector}
use Rattle.fb_bfbs.specs.{Says.Says, Says.after, Loads.told, Marks.Attribute, Marks.IsTextOrEmpty, Marks.IsAttribute, Marks.AreAttributes, Marks.IsAttributed, Marks.held_in}
use Rattle.fb_bfbs.specs.Marks.{told_by, IsTagged, AreTagged, marks_from, together, told_in, MarksOnce}
use Rattle.fb_bfbs.proofs.{OneLoad.file_is_single, OneFile.IsSingle, OneFile.IsOnly, OneFile.single_after, OneFile.only_rows, OneFile.one_truth, OneFile.one_unsigned}
use Rattle.fb_bfbs.proofs.OneFile.{one_text, text_is_something}

only_text : IsOnly IsTextOrEmpty
only_text D r s h (inl a) (inl b) = one_text D h [] a b
only_text D r s h (inl a) (inr b) = absurd (text_is_something D h [] a b.0)
only_text D r s h (inr a) (inl b) = absurd (text_is_something D h [] b a.0)
only_text D r s h (inr a) (inr b) = a.1 ∙ sym b.1

only_attribute : IsOnly IsAttribute
only_attribute D r s h a b =
    let key = only_text (after D (ToField 0)) r.key s.key (single_after D (ToField 0) h) a.key b.key in
    let value = only_text (after D (ToField 1)) r.value s.value (single_after D (ToField 1) h) a.value b.value in
    λ i. record { key = key i; value = value i }

vector_is_something : (D : Says) → IsSingle D → (rows : List Attribute) → D [] (vector (length rows)) → D [] nothing → ⊥
vector_is_something D h rows a b = let e = h [] (vector (length rows)) nothing a b in cc

only_attributes : IsOnly AreAttributes
only_attributes D r s h (inl a) (inl b) = only_rows IsAttribute only_attribute D r s h a b
only_attributes D r s h (inl a) (inr b) = absurd (vector_is_something D h r a.count b.0)
only_attributes D r s h (inr a) (inl b) = absurd (vector_is_something D h s b.count a.0)
only_attributes D r s h (inr a) (inr b) = a.1 ∙ sym b.1

only_attributed : IsOnly IsAttributed
only_attributed D r s h a b =
    let slot = one_unsigned D h _ a.slot b.slot in
    let deprecated = one_truth D h _ a.deprecated b.deprecated in
    let required = one_truth D h _ a.required b.required in
    let key = one_truth D h _ a.key b.key in
    let attributes = only_attributes (after D (ToField 9)) r.attributes s.attributes (single_after D (ToField 9) h) a.attributes b.attributes in
    λ i. record { slot = slot i; deprecated = deprecated i; required = required i; key = key i; attributes = attributes i }

only_tagged : IsOnly IsTagged
only_tagged D r s h a b =
    let same = only_attributed D a.field b.field h a.read b.read in
    let slot = a.slot ∙ ap (λ f. f.slot) same ∙ sym b.slot in
    let held = a.held ∙ ap held_in same ∙ sym b.held in
    let builtins = a.builtins ∙ ap told_by same ∙ sym b.builtins in
    λ i. record { slot = slot i; held = held i; builtins = builtins i }

only_fields : IsOnly AreTagged
only_fields D r s h a b = only_rows IsTagged only_tagged (after D (ToField 1)) r s (single_after D (ToField 1) h) a b

pub marks_once : MarksOnce
marks_once b fields others x y one two =
    let same = only_rows AreTagged only_fields (after (told b) (ToField 0)) one.objects two.objects (single_after (told b) (ToField 0) (file_is_single b)) one.tagged two.tagged in
    (one.marks ∙ ap (marks_from 0) same ∙ sym two.marks, one.told ∙ ap (λ objects. together (map told_in objects)) same ∙ sym two.told)
