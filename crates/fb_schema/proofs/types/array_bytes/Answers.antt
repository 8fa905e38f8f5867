use Rattle.std.proofs.Common.{ℕ, ◌^◌, ◌-◌, ◌<◌, ◌≤◌, ℤ, pos, ◌*ℤ◌, unsigned_abs, FitsSigned, to_z, of_z, w32, w64, ◌≡◌, ◌∙◌, arith, rules}
use Rattle.std.proofs.lemmas.{Grind.common_steps, Int.ints, Int.to_z-of_z, Int.fits_signed_mul}
use Rattle.fb_schema.proofs.types.array_bytes.Goals as goal

fits : (x y : ℤ) (l : ℕ) (e : ℤ) → FitsSigned w64 x → FitsSigned w64 y → x ≡ pos l → y ≡ e → l < 2 ^ 16 → unsigned_abs e ≤ 2 ^ 31 → FitsSigned w64 (to_z w64 (of_z w64 x) *ℤ to_z w64 (of_z w64 y))
fits x y l e p q is at short narrow = rw (to_z-of_z w64 x p, to_z-of_z w64 y q, is, at) (fits_signed_mul w64 (pos l) e (2 ^ 16 - 1) (2 ^ 31) (omega arith) narrow (omega arith))

pub overflow_mul-result : goal.overflow_mul-result
overflow_mul-result c =
    let x : FitsSigned w64 c.from.result = search rules in
    let y : FitsSigned w64 c.from-2.result = search rules in
    let each : FitsSigned w32 c.args.each = search rules in
    fits c.from.result c.from-2.result c.args.length c.args.each x y c.from.ensures (c.from-2.ensures ∙ to_z-of_z w32 c.args.each each) (grind arith) (grind (arith, ints))

pub returns : goal.returns
returns c = grind (arith, common_steps)
