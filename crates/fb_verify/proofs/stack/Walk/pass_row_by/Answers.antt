use Rattle.std.proofs.Common.{sym, ◌∙◌, ap, arith}
use Rattle.fb_rules.specs.declared.offset_row.Leads.TheVariants.{All}
use Rattle.fb_verify.specs.Turns.{IsAtMembers}
use Rattle.fb_verify.proofs.stack.Walk.pass_row_by.Goals as goal

pub returns-else-is_deepest : goal.returns-else-is_deepest
returns-else-is_deepest g c = c.pass_flats_on.ensures c.args.child.now

pub returns-in-All : goal.returns-in-All
returns-in-All g c = c.pass_words.ensures c.args.child.now

pub pass_members_on-requires : goal.pass_members_on-requires
pass_members_on-requires g c =
    let depth = c.depth.ensures in
    (record { row = c.requires.0; deep = rw depth.value at c.if-is_deepest-2.false; low = omega (arith, c.if-is_deepest-2.false, depth.in_range) }, (c.in-ByType.is, c.requires.1))

pub pass_flats_on-requires : goal.pass_flats_on-requires
pass_flats_on-requires g c =
    let h = c.requires.0 in
    let depth = c.depth.ensures in
    let leads = c.in-All-Table.is ∙ ap All (rw c.in-All-Table.is at c.in-All-Table.field-0-is) in
    let table = rw leads at ((((h.walking).frame).row).leads h.more) in
    let down : IsAtMembers c.args.self.now c.args.reads.now g.under c.args.waiting c.args.top.now = record { row = h; deep = rw depth.value at c.if-is_deepest.false; low = omega (arith, c.if-is_deepest.false, depth.in_range) } in
    (record { down = down; leads = leads; table = table; plain = sym c.is_plain.ensures ∙ c.if-not-is_plain.false }, c.requires.1)

pub next_table-requires : goal.next_table-requires
next_table-requires g c =
    let h = c.requires.0 in
    let leads = c.in-All-Table.is ∙ ap All (rw c.in-All-Table.is at c.in-All-Table.field-0-is) in
    let table = rw leads at ((((h.walking).frame).row).leads h.more) in
    (record { in-row = h; leads = leads; table = table }, c.requires.1)
