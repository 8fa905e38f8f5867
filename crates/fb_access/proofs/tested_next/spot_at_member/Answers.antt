use Rattle.fb_access.proofs.{Leading.led_to_table, Leading.led_to_string, Leading.led_to_struct, Tested.changed}
use Rattle.fb_access.proofs.tested_next.spot_at_member.Goals as goal

pub returns-in_err-target_of-in-Table : goal.returns-in_err-target_of-in-Table
returns-in_err-target_of-in-Table c = changed _ _ _ _ c.from_residual.ensures.1 (λ led. c.in_err-target_of-in-Table.ensures (led_to_table _ _ _ _ (rw c.in-Table.is at c.requires) (rw c.in-Table.is at led)).0)

pub returns-in_err-target_of-in-Struct : goal.returns-in_err-target_of-in-Struct
returns-in_err-target_of-in-Struct c = changed _ _ _ _ c.from_residual-in_err-target_of-in-Struct.ensures.1 (λ led. c.in_err-target_of-in-Struct.ensures (led_to_struct _ _ _ _ _ (rw c.in-Struct.is at led)).0)

pub returns-in_err-target_of-in-Text : goal.returns-in_err-target_of-in-Text
returns-in_err-target_of-in-Text c = changed _ _ _ _ c.from_residual-in_err-target_of-in-Text.ensures.1 (λ led. c.in_err-target_of-in-Text.ensures (led_to_string _ _ _ (rw c.in-Text.is at led)).0)
