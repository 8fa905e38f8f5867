use Rattle.std.proofs.Common.{◌≡◌, ℕ, ℤ, pos, negsuc, ◌+ℤ◌, ◌-ℤ◌, FitsSigned, to_z, of_z, w32, w64, ap, ◌∙◌, arith, rules, int_lt}
use Rattle.std.proofs.lemmas.Int.{ints, to_z-of_z}
use Rattle.fb_schema.proofs.demands.passes_end.Goals as goal

plain : (x y z : ℤ) → FitsSigned w64 x → FitsSigned w64 y → FitsSigned w64 z → FitsSigned w64 (x -ℤ y) → int_lt (to_z w64 (of_z w64 (to_z w64 (of_z w64 x) -ℤ to_z w64 (of_z w64 y)))) (to_z w64 (of_z w64 z)) ≡ int_lt (x -ℤ y) z
plain x y z p q r s = simp to_z-of_z

moved : (x : ℤ) (n : ℕ) (z : ℤ) → int_lt (x -ℤ pos n) z ≡ int_lt x (pos n +ℤ z)
moved (pos x) n (pos z) = grind (arith, ints)
moved (pos x) n (negsuc z) = grind (arith, ints)
moved (negsuc x) n (pos z) = grind (arith, ints)
moved (negsuc x) n (negsuc z) = grind (arith, ints)

pub returns : goal.returns
returns c =
    let x = c.from.result in
    let y = c.from-2.result in
    let z = c.inline_bytes.result in
    let slot = c.type_inv.field in
    let xs : FitsSigned w64 x = search rules in
    let ys : FitsSigned w64 y = search rules in
    let zs : FitsSigned w64 z = search rules in
    let bytes : FitsSigned w32 c.args.object.now.bytesize = search rules in
    let room : FitsSigned w64 (x -ℤ y) = search (rules, ints) in
    plain x y z xs ys zs room
    ∙ ap (λ a. int_lt (a -ℤ y) z) (c.from.ensures ∙ to_z-of_z w32 c.args.object.now.bytesize bytes)
    ∙ ap (λ a. int_lt (c.args.object.now.bytesize -ℤ a) z) c.from-2.ensures
    ∙ moved c.args.object.now.bytesize c.args.field.now.slot z
    ∙ ap (λ a. int_lt c.args.object.now.bytesize (pos c.args.field.now.slot +ℤ a)) c.inline_bytes.ensures
