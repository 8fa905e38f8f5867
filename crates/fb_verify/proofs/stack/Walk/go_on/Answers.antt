use Rattle.fb_verify.proofs.Turning.{gone_from, slowly, under_way}
use Rattle.fb_verify.proofs.stack.Walk.go_on.Goals as goal

pub returns-in_default : goal.returns-in_default
returns-in_default g c = let on = slowly _ _ c.walk_on.result c.in_default.not-Up c.in_default.not-Halt c.walk_on.ensures in gone_from _ _ _ _ _ _ _ on.same on.bytes _ c.go_slowly.result c.go_slowly.ensures

pub go_slowly-requires : goal.go_slowly-requires
go_slowly-requires g c = under_way (slowly _ _ c.walk_on.result c.in_default.not-Up c.in_default.not-Halt c.walk_on.ensures) c.requires.few
