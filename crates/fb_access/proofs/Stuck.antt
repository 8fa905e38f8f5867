-- Texts that no path goes on with from some byte on.
use Rattle.std.proofs.Common.{◌≡◌, ℕ, suc, ◌+◌, ◌-◌, ◌<◌, ◌≤◌, inl, false, List, [], ◌∷◌, ◌++◌, length, take, Option, Some, None, refl, sym, ◌∙◌, subst, ap, arith, append_assoc, Bor}
use Rattle.std.proofs.{lemmas.List.length-append, Math.Seq.take-append_seam, Math.Seq.take-append-add}
use Rattle.fb_access.specs.Grammar.{goes_on, IsName, IsNumber, Part, field, element, member, spelling, IsPath, BeginsPath, IsWrongAt}
use Rattle.fb_access.specs.{declared.pieces.Piece.TheVariants.Field, declared.pieces.Piece.TheVariants.Element, declared.pieces.Piece.TheVariants.Member, Cutting.IsNamed}
use Rattle.fb_access.specs.Cutting.{IsNumbered, IsCut, HasNoName, IsRead, Stops, written, Ends, BeginsWith, Spells, BeginsLike, IsStuck}
use Rattle.fb_access.proofs.{Words.ends_here, Words.AreSoFar, Words.IsDead, Words.no_number, OneReading.one_part, OneReading.some_written, OneReading.spelling_is}

-- Where no part goes on.

-- a byte that is no mark
pub no_mark : (c : ℕ) (cs : List ℕ) → (c ≡ 46 → ⊥) → (c ≡ 91 → ⊥) → (c ≡ 64 → ⊥) → IsStuck (c ∷ cs) (c ∷ cs)
no_mark c cs a b d = record { good = []; whole = refl; more = []; parts = []; goes_on = record { are_parts = tt; spelled = refl }; stuck = none } where
  none : (t : List ℕ) (ps : List Part) → BeginsLike (c ∷ cs) t → Spells t ps → ⊥
  none [] ps like h = like
  none (x ∷ t) [] like h = let e = h.spelled in absurd cc
  none (x ∷ t) (field n ∷ ps) like h = let e = h.spelled in a cc
  none (x ∷ t) (element n ∷ ps) like h = let e = h.spelled in b cc
  none (x ∷ t) (member n ∷ ps) like h = let e = h.spelled in d cc

-- a mark before what is no name
nameless : (bad t n u : List ℕ) → HasNoName bad → BeginsLike bad t → IsName n → t ≡ n ++ u → ⊥
nameless bad t n u none like name e = grind arith

pub no_field : (bad : List ℕ) → HasNoName bad → IsStuck (46 ∷ bad) bad
no_field bad nothing = record { good = 46 ∷ []; whole = refl; more = 97 ∷ []; parts = field (97 ∷ []) ∷ []; goes_on = record { are_parts = ((refl, tt), tt); spelled = refl }; stuck = none } where
  none : (t : List ℕ) (ps : List Part) → BeginsLike bad t → Spells (46 ∷ t) ps → ⊥
  none t [] like h = let e = h.spelled in absurd cc
  none t (field n ∷ ps) like h = let e = h.spelled in nameless bad t n (spelling ps) nothing like h.are_parts.0 cc
  none t (p ∷ ps) like h = let e = h.spelled in grind arith

pub no_member : (bad : List ℕ) → HasNoName bad → IsStuck (64 ∷ bad) bad
no_member bad nothing = record { good = 64 ∷ []; whole = refl; more = 97 ∷ []; parts = member (97 ∷ []) ∷ []; goes_on = record { are_parts = ((refl, tt), tt); spelled = refl }; stuck = none } where
  none : (t : List ℕ) (ps : List Part) → BeginsLike bad t → Spells (64 ∷ t) ps → ⊥
  none t [] like h = let e = h.spelled in absurd cc
  none t (member n ∷ ps) like h = let e = h.spelled in nameless bad t n (spelling ps) nothing like h.are_parts.0 cc
  none t (p ∷ ps) like h = let e = h.spelled in grind arith

-- a bracket before digits that no number goes on with
pub no_index : (text ds bad : List ℕ) (o : Option ℕ) → AreSoFar ds o → text ≡ ds ++ bad → IsDead o bad → IsStuck (91 ∷ text) bad
no_index text ds bad o so whole dead = record { good = 91 ∷ ds; whole = ap (λ t. 91 ∷ t) whole; more = (some o so).0; parts = element (some o so).1 ∷ []; goes_on = record { are_parts = ((some o so).2, tt); spelled = ap (λ t. 91 ∷ t) (some o so).3 }; stuck = none } where
  some : (o : Option ℕ) → AreSoFar ds o → (more : List ℕ) × (es : List ℕ) × IsNumber es × (ds ++ more ≡ es ++ 93 ∷ [])
  some None h = (48 ∷ 93 ∷ [], 48 ∷ [], inl (refl, refl), rw h refl)
  some (Some v) h = (93 ∷ [], ds, h.0, refl)

  none : (t : List ℕ) (ps : List Part) → BeginsLike bad t → Spells (91 ∷ ds ++ t) ps → ⊥
  none t [] like h = let e = h.spelled in absurd cc
  none t (element es ∷ ps) like h = let e = h.spelled in no_number ds es bad t (spelling ps) o so dead like h.are_parts.0 cc
  none t (p ∷ ps) like h = let e = h.spelled in grind arith

-- Behind a part.

pub written_on : (p : Part) (a b : List ℕ) → written p a ++ b ≡ written p (a ++ b)
written_on p a b = grind (arith, append_assoc)

stops_like : (good bad t : List ℕ) → Stops (good ++ bad) → BeginsLike bad t → Stops (good ++ t)
stops_like [] [] t h like = rw like tt
stops_like [] (c ∷ bad) [] h like = absurd like
stops_like [] (c ∷ bad) (d ∷ t) h like = subst (λ x. goes_on x ≡ false) like h
stops_like (c ∷ good) bad t h like = h

ends_like : (p : Part) (good bad t : List ℕ) → Ends p (good ++ bad) → BeginsLike bad t → Ends p (good ++ t)
ends_like p good bad t h like = grind (arith, stops_like)

pub part_spells : (p : Part) (ps : List Part) (text rest : List ℕ) → BeginsWith p text rest → Spells rest ps → Spells text (p ∷ ps)
part_spells p ps text rest b h = record { are_parts = (b.is_part, h.are_parts); spelled = b.whole ∙ ap (written p) h.spelled ∙ sym (spelling_is p ps) }

pub part_stuck : (p : Part) (text rest bad : List ℕ) → BeginsWith p text rest → IsStuck rest bad → IsStuck text bad
part_stuck p text rest bad b h = record {
  good = written p h.good;
  whole = b.whole ∙ ap (written p) h.whole ∙ sym (written_on p h.good bad);
  more = h.more;
  parts = p ∷ h.parts;
  goes_on = record { are_parts = (b.is_part, h.goes_on.are_parts); spelled = written_on p h.good h.more ∙ ap (written p) h.goes_on.spelled ∙ sym (spelling_is p h.parts) };
  stuck = none;
} where
  none : (t : List ℕ) (ps : List Part) → BeginsLike bad t → Spells (written p h.good ++ t) ps → ⊥
  none t [] like g = some_written p (h.good ++ t) (sym (written_on p h.good t) ∙ g.spelled)
  none t (q ∷ ps) like g =
      let one = one_part p q (h.good ++ t) (spelling ps) b.is_part (ends_like p h.good bad t (subst (Ends p) h.whole b.ends) like) g.are_parts.0 (ends_here q ps) (sym (written_on p h.good t) ∙ g.spelled ∙ spelling_is q ps) in
      h.stuck t ps like (record { are_parts = g.are_parts.1; spelled = one.1 })

pub read_on : (p : Part) (text rest : List ℕ) (bad : Option (Bor (List ℕ))) → BeginsWith p text rest → IsRead rest bad → IsRead text bad
read_on p text rest None b h = (p ∷ h.0, part_spells p h.0 text rest b h.1)
read_on p text rest (Some bad) b h = part_stuck p text rest bad.now b h

-- What a text begins with.

pub field_cut : (text rest : List ℕ) (name : Bor (List ℕ)) → IsNamed text name.now rest → IsCut (46 ∷ text) (Field name) rest
field_cut text rest name h = record { part = field name.now; begins = record { is_part = h.is_name; whole = ap (λ t. 46 ∷ t) h.word.whole; ends = h.word.stops }; says = refl }

pub member_cut : (text rest : List ℕ) (name : Bor (List ℕ)) → IsNamed text name.now rest → IsCut (64 ∷ text) (Member name) rest
member_cut text rest name h = record { part = member name.now; begins = record { is_part = h.is_name; whole = ap (λ t. 64 ∷ t) h.word.whole; ends = h.word.stops }; says = refl }

pub element_cut : (text rest : List ℕ) (n : ℕ) → IsNumbered text n rest → IsCut (91 ∷ text) (Element n) rest
element_cut text rest n h = record { part = element h.digits; begins = record { is_part = h.is_number; whole = ap (λ t. 91 ∷ t) h.whole; ends = tt }; says = h.value }

-- Paths, which have no dot before the first name.

pub path_spells : (t : List ℕ) (p : IsPath t) → Spells (46 ∷ t) (field p.name ∷ p.parts)
path_spells t p = record { are_parts = (p.reading.is_name, p.reading.are_parts); spelled = ap (λ t. 46 ∷ t) p.reading.spelled }

pub spells_path : (t : List ℕ) (ps : List Part) → Spells (46 ∷ t) ps → (p : IsPath t) × (field p.name ∷ p.parts ≡ ps)
spells_path t [] h = let e = h.spelled in absurd cc
spells_path t (field n ∷ ps) h = let e = h.spelled in (record { name = n; parts = ps; reading = record { is_name = h.are_parts.0; are_parts = h.are_parts.1; spelled = cc } }, refl)
spells_path t (p ∷ ps) h = let e = h.spelled in absurd (grind arith)

like_itself : (t : List ℕ) → BeginsLike t t
like_itself t = grind arith

-- the place of the byte that no path goes on with
module _ (text good bad : List ℕ) (whole : text ≡ good ++ bad) (stuck : (t : List ℕ) (ps : List Part) → BeginsLike bad t → Spells (46 ∷ good ++ t) ps → ⊥) where
  no_path : (t : List ℕ) → BeginsLike bad t → IsPath (good ++ t) → ⊥
  no_path t like p = stuck t (field p.name ∷ p.parts) like (path_spells (good ++ t) p)

  none_longer : (bytes : List ℕ) (n : ℕ) → bad ≡ bytes → length good < n → n ≤ length text → BeginsPath (take n text) → ⊥
  none_longer [] n e less most b = absurd (omega (arith, ap length whole, length-append good bad, ap length e))
  none_longer (c ∷ cs) n e less most b =
      let rest : n ≡ length good + suc (n - length good - 1) = omega arith in
      let cut : take n text ≡ good ++ c ∷ take (n - length good - 1) cs = ap (take n) (whole ∙ ap (λ t. good ++ t) e) ∙ ap (λ m. take m (good ++ c ∷ cs)) rest ∙ take-append-add good (c ∷ cs) (suc (n - length good - 1)) in
      no_path (c ∷ take (n - length good - 1) cs ++ b.rest) (subst (λ t. BeginsLike t (c ∷ take (n - length good - 1) cs ++ b.rest)) (sym e) refl) (subst IsPath (ap (λ t. t ++ b.rest) cut ∙ append_assoc good (c ∷ take (n - length good - 1) cs) b.rest) b.path)

  wrong_at : (more : List ℕ) (ps : List Part) → Spells (46 ∷ good ++ more) ps → IsWrongAt text (length good)
  wrong_at more ps g = record {
    within = omega (arith, ap length whole, length-append good bad);
    begins = rw (whole, take-append_seam good bad) (record { rest = more; path = (spells_path (good ++ more) ps g).0 });
    longest = λ n less most b. none_longer bad n refl less most b;
    wrong = λ p. no_path bad (like_itself bad) (subst IsPath whole p);
  }

pub stuck_wrong : (text bad : List ℕ) → IsStuck (46 ∷ text) bad → (length bad ≤ length text) × IsWrongAt text (length text - length bad)
stuck_wrong text bad h = go h.good h.whole h.goes_on h.stuck where
  go : (good : List ℕ) → 46 ∷ text ≡ good ++ bad → Spells (good ++ h.more) h.parts → ((t : List ℕ) (ps : List Part) → BeginsLike bad t → Spells (good ++ t) ps → ⊥) → (length bad ≤ length text) × IsWrongAt text (length text - length bad)
  go [] e g stuck = absurd (stuck (46 ∷ 97 ∷ []) (field (97 ∷ []) ∷ []) (subst (λ b. BeginsLike b (46 ∷ 97 ∷ [])) e refl) (record { are_parts = ((refl, tt), tt); spelled = refl }))
  go (c ∷ good) e g stuck =
      let dot : c ≡ 46 = cc in
      let whole : text ≡ good ++ bad = cc in
      let long : length text ≡ length good + length bad = ap length whole ∙ length-append good bad in
      let at : length good ≡ length text - length bad = omega arith in
      (omega arith, subst (IsWrongAt text) at (wrong_at text good bad whole (rw dot at stuck) h.more h.parts (rw dot at g)))

pub no_longer : (text bad : List ℕ) → IsStuck (46 ∷ text) bad → length bad ≤ length text
no_longer text bad h = (stuck_wrong text bad h).0
