use Rattle.std.proofs.Common.{arith, rules, w64}
use Rattle.fb_bfbs.specs.Seen.{IsKnown}
use Rattle.fb_bfbs.proofs.{KnownFields.known_here, KnownFields.number_low, Narrow.kept}
use Rattle.fb_bfbs.proofs.values.go_to.Goals as goal

pub overflow_mul-number : goal.overflow_mul-number
overflow_mul-number c = let low = number_low _ _ _ _ c.requires in omega arith

pub overflow_add-number : goal.overflow_add-number
overflow_add-number c = let low = number_low _ _ _ _ c.requires in omega arith

pub go_to-requires : goal.go_to-requires
go_to-requires c = known_here _ _ _ _ (kept w64 (λ d. IsKnown c.args.place.now c.args.number c.args.kind d) c.args.default (search rules) c.requires)
