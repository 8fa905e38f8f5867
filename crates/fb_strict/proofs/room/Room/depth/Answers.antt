use Rattle.std.proofs.Common.{rules}
use Rattle.fb_strict.proofs.room.Room.depth.Goals as goal

pub returns : goal.returns
returns g c = search rules
