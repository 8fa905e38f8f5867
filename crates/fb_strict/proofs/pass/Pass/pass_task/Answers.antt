use Rattle.std.proofs.Common.{refl}
use Rattle.fb_strict.specs.declared.tasks.Ask.TheVariants.{Text as AskText, Texts as AskTexts, Table as GoInto, Tables as GoIntoEach}
use Rattle.fb_strict.proofs.Answered.{holds_none}
use Rattle.fb_strict.proofs.pass.Pass.pass_task.Goals as goal

-- src/pass.rt
pub pass_each-requires-clause-stands : goal.pass_each-requires-clause-stands
pass_each-requires-clause-stands g c = rw c.in-Texts.is at c.requires.taskable

pub returns-in-Text : goal.returns-in-Text
returns-in-Text g c = rw c.in-Text.is (holds_none _ _ _ _ _ _ _ _ _ c.pass_one.result c.holding_none.result refl (c.pass_one.ensures AskText refl) c.holding_none.ensures.yes c.holding_none.ensures.no)

pub returns-in-Texts : goal.returns-in-Texts
returns-in-Texts g c = rw c.in-Texts.is (holds_none _ _ _ _ _ _ _ _ _ c.pass_each.result c.holding_none-in-Texts.result refl (c.pass_each.ensures AskTexts refl) c.holding_none-in-Texts.ensures.yes c.holding_none-in-Texts.ensures.no)

pub returns-in-Table : goal.returns-in-Table
returns-in-Table g c = rw c.in-Table.is (holds_none _ _ _ _ _ _ _ _ _ c.pass_one-in-Table.result c.holding_none-in-Table.result refl (c.pass_one-in-Table.ensures (GoInto c.in-Table.object) refl) c.holding_none-in-Table.ensures.yes c.holding_none-in-Table.ensures.no)

pub returns-in-Tables : goal.returns-in-Tables
returns-in-Tables g c = rw c.in-Tables.is (holds_none _ _ _ _ _ _ _ _ _ c.pass_each-in-Tables.result c.holding_none-in-Tables.result refl (c.pass_each-in-Tables.ensures (GoIntoEach c.in-Tables.object) refl) c.holding_none-in-Tables.ensures.yes c.holding_none-in-Tables.ensures.no)

pub returns-in-Bytes : goal.returns-in-Bytes
returns-in-Bytes g c = rw c.in-Bytes.is (c.pass_bytes.ensures c.args.row.now)
