-- What a framer holds after a piece.
use Rattle.std.proofs.Common.{◌≡◌, ℕ, Bool, true, false, ◌+◌, ◌<◌, ◌≤◌, ◌≢◌, inl, inr, List, ◌++◌, length, take, drop, refl, sym, ap, ap₂, ◌∙◌, arith, append_assoc, length-append, length-drop, length-take-le, take_all, take-add, take-append-drop}
use Rattle.std.proofs.lemmas.{Bool.Decides.leb_tells, List.take-append-le}
use Rattle.fb_bytes.specs.{Messages.declared, Messages.little, Messages.IsMessage, Framing.Framing, Framing.Feeds, Framing.IsHeld, Framing.IsRefused, declared.cut.Endian.TheVariants.Little}
use Rattle.fb_bytes.proofs.MessageLemmas.{declared_append, declared_take}
use Rattle.fbcheck_calls.specs.{Framers.IsFilled, Framers.IsKept, declared.framer.Framer.Framer}

-- a framer that goes on, and holds the first h bytes of the room
abbrev pub going : List ℕ → ℕ → Framing
going room h = record { cut = little (length room); held = take h room; failed = false }

-- a framer that failed is kept, and one that holds a part of a prefix
pub failed_is_kept : (room : List ℕ) (h number : ℕ) → h ≤ length room → IsKept room (record { held = h; failed = 1; declared = number })
failed_is_kept room h number within = record { within = within; held = λ zero. absurd (omega (arith, zero)) }

pub short_is_kept : (room : List ℕ) (f : Framer) → f.held ≤ length room → f.held < 4 → IsKept room f
short_is_kept room f within few = record { within = within; held = λ _. inl (λ four. absurd (omega (arith, four, length-take-le f.held room within))) }

-- the first bytes of a room are a message exactly where they are as many as they declare
pub first_is_message : (room : List ℕ) (h : ℕ) → h ≤ length room → 4 ≤ h → h ≡ 4 + declared Little room → IsMessage (little (length room)) (take h room)
first_is_message room h within four e =
    let long : length (take h room) ≡ h = length-take-le h room within in
    let number : declared Little (take h room) ≡ declared Little room = declared_take Little h room four within in
    record { prefixed = omega arith; whole = omega arith; within = omega arith }

pub message_is_first : (room : List ℕ) (h : ℕ) → h ≤ length room → IsMessage (little (length room)) (take h room) → h ≡ 4 + declared Little room
message_is_first room h within is =
    let long : length (take h room) ≡ h = length-take-le h room within in
    let number : declared Little (take h room) ≡ declared Little room = declared_take Little h room (omega (arith, is.prefixed)) within in
    omega (arith, is.whole)

-- what was fed is a message or the part of one
pub fed_is_held : (old new : Framing) (piece : List ℕ) (used : ℕ) (whole : Bool) → Feeds old new piece used whole → IsHeld new.cut new.held
fed_is_held old new piece used true fed = inr (fed.message refl)
fed_is_held old new piece used false fed = inl (fed.partial refl).0

-- the prefix is whole, with u bytes of the piece
module _ (room room' piece : List ℕ) (h u : ℕ) (within : h ≤ length room) (low : 8 ≤ length room) (held : IsHeld (little (length room)) (take h room)) (f : IsFilled room room' piece h 4 u) (four : 4 ≤ h + u) where
  stands : h + u ≤ length room'
  stands = omega (arith, f.count_is, f.same)

  -- a prefix that was whole before is the same
  was_whole : 4 ≤ h → declared Little room' ≡ declared Little (take h room)
  was_whole whole =
      sym (declared_take Little (h + u) room' four stands) ∙ ap (declared Little) f.bytes ∙ declared_append Little (take h room) (take u piece) (omega (arith, length-take-le h room within))

  -- so it declared what there is room for, and no less than was held
  pub held_fits : 4 ≤ h → (h ≤ 4 + declared Little room') × (4 + declared Little room' ≤ length room)
  held_fits whole =
      let long : length (take h room) ≡ h = length-take-le h room within in
      let same = was_whole whole in
      elim held [
        | inl part ↦ let p = part (omega arith) in (omega (arith, p.0), omega (arith, p.1))
        | inr is ↦ (omega (arith, is.whole), omega (arith, is.whole, is.within))
      ]

  pub reaches : h + u ≤ 4 + declared Little room'
  reaches = elim (leb_tells 4 h) [ inl long ↦ omega (arith, f.count_is, held_fits long.1) | inr short ↦ omega (arith, f.count_is, short.1) ]

  -- it declares more than there is room for
  pub refused : (number : ℕ) → number ≡ declared Little room' → length room < 4 + number
      → IsRefused (going room h) (record { cut = little (length room'); held = take (h + u) room'; failed = true }) piece number
  refused number told over =
      let few : h < 4 = elim (leb_tells 4 h) [ inl long ↦ let fits = held_fits long.1 in absurd (omega (arith, fits.1)) | inr short ↦ short.1 ] in
      let front = take h room ++ take u piece in
      let long : length front ≡ 4 = omega (arith, ap length f.bytes, length-take-le (h + u) room' stands, f.count_is) in
      let joined : take h room ++ piece ≡ front ++ drop u piece = ap (λ l. take h room ++ l) (sym (take-append-drop u piece)) ∙ sym (append_assoc (take h room) (take u piece) (drop u piece)) in
      let first : take 4 (take h room ++ piece) ≡ take (h + u) room' = ap (take 4) joined ∙ take-append-le 4 front (drop u piece) (omega arith) ∙ take_all 4 front (omega arith) ∙ sym f.bytes in
      let enough : 4 ≤ length (take h room ++ piece) = omega (arith, ap length joined, length-append front (drop u piece)) in
      let number' : declared Little (take h room ++ piece) ≡ declared Little room' = sym (declared_take Little 4 (take h room ++ piece) (omega arith) enough) ∙ ap (declared Little) first ∙ declared_take Little (h + u) room' four stands in
      record {
        oversize = (enough, omega arith);
        number = told ∙ sym number';
        after = ap₂ (λ l d. record { cut = little l; held = d; failed = true }) f.same (sym first);
      }

  -- further bytes of the piece follow, until the message is whole
  module _ (number : ℕ) (told : number ≡ declared Little room') (room'' : List ℕ) (m : ℕ) (more : IsFilled room' room'' (drop u piece) (h + u) (number + 4) m) (fits : number + 4 ≤ length room) where
    grown : take (h + u + m) room'' ≡ take h room ++ take (u + m) piece
    grown =
        more.bytes ∙ ap (λ l. l ++ take m (drop u piece)) f.bytes ∙ append_assoc (take h room) (take u piece) (take m (drop u piece))
        ∙ ap (λ l. take h room ++ l) (sym (take-add u m piece))

    ends : h + u + m ≤ number + 4
    ends = omega (arith, more.count_is, reaches, told)

    stays : h + u + m ≤ length room''
    stays = omega (arith, ends, more.same, f.same)

    number' : declared Little (take (h + u + m) room'') ≡ number
    number' =
        ap (declared Little) more.bytes ∙ declared_append Little (take (h + u) room') (take m (drop u piece)) (omega (arith, length-take-le (h + u) room' stands))
        ∙ declared_take Little (h + u) room' four stands ∙ sym told

    pub fed_message : (whole : Bool) → (whole ≡ true → h + u + m ≡ number + 4) → (whole ≡ false → h + u + m ≢ number + 4)
        → Feeds (going room h) (going room'' (h + u + m)) piece (u + m) whole
    fed_message whole is_end is_part =
        let long : length (take (h + u + m) room'') ≡ h + u + m = length-take-le (h + u + m) room'' stays in
        let n = number' in
        let e = ends in
        let rest = length-drop u piece in
        record {
          cut = ap little (more.same ∙ f.same);
          fine = (refl, refl);
          within = omega (arith, f.count_is, more.count_is);
          held = grown;
          message = λ is. let all = is_end is in record { prefixed = omega arith; whole = omega arith; within = omega (arith, more.same, f.same) };
          partial = λ is.
              let part : h + u + m ≢ number + 4 = is_part is in
              ((λ _. (omega arith, omega (arith, more.same, f.same))), omega (arith, f.count_is, more.count_is));
        }
