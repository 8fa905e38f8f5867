use Rattle.std.proofs.Common.{unsigned_abs, FitsSigned, w32, sym, ap, rules, ◌∙◌}
use Rattle.std.proofs.lemmas.Int.{to_z-of_z}
use Rattle.fb_schema.specs.{FlatRows.object_in, Kinds.size_in, Kinds.align_in}
use Rattle.fb_schema.proofs.{LookLemmas.past_mapped, NextRequired.item_lent, NextRequired.no_item_lent, WalkLemmas.mapped_at}
use Rattle.fb_schema.proofs.flat.RowLists.struct_layout.Goals as goal

pub returns-in-None-clause-size : goal.returns-in-None-clause-size
returns-in-None-clause-size c = let objects = c.args.self.now.objects.now in sym (ap size_in (past_mapped (object_in c.args.self.now.fields.now) objects c.args.number (no_item_lent objects c.args.number c.get.result c.get.ensures.lookup c.in-None.is)))

pub returns-in-None-clause-align : goal.returns-in-None-clause-align
returns-in-None-clause-align c = let objects = c.args.self.now.objects.now in sym (ap align_in (past_mapped (object_in c.args.self.now.fields.now) objects c.args.number (no_item_lent objects c.args.number c.get.result c.get.ensures.lookup c.in-None.is)))

pub returns-in-Some-clause-size : goal.returns-in-Some-clause-size
returns-in-Some-clause-size c = let objects = c.args.self.now.objects.now in let fits : FitsSigned w32 c.in-Some.object.now.bytesize = search rules in c.unsigned_abs.ensures.value ∙ ap unsigned_abs (to_z-of_z w32 c.in-Some.object.now.bytesize fits) ∙ sym (ap size_in (mapped_at (object_in c.args.self.now.fields.now) objects c.args.number c.in-Some.object.now (item_lent objects c.args.number c.get.result c.in-Some.object c.get.ensures.lookup c.in-Some.is)))

pub returns-in-Some-clause-align : goal.returns-in-Some-clause-align
returns-in-Some-clause-align c = let objects = c.args.self.now.objects.now in let fits : FitsSigned w32 c.in-Some.object.now.minalign = search rules in c.unsigned_abs-in-Some.ensures.value ∙ ap unsigned_abs (to_z-of_z w32 c.in-Some.object.now.minalign fits) ∙ sym (ap align_in (mapped_at (object_in c.args.self.now.fields.now) objects c.args.number c.in-Some.object.now (item_lent objects c.args.number c.get.result c.in-Some.object c.get.ensures.lookup c.in-Some.is)))
