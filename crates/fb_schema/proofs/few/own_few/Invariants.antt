use Rattle.std.proofs.Common.{◌<◌, ◌^◌, All, take}
use Rattle.fb_schema.proofs.few.own_few.Given as goal

abbrev pub invariant-loop-owner : goal.invariant-loop-owner
invariant-loop-owner g l = All (λ o. g.O.Owner.count o < 2 ^ 31) (take l.owner-index l.owners)
