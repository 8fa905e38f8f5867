use Rattle.std.proofs.Common.{◌∙◌, refl, rules, sym}
use Rattle.std.proofs.KnownBytes.{Keeps-refl}
use Rattle.fb_run.specs.Ends.{writer_of}
use Rattle.fbcheck_serve.proofs.NoteLemmas.{line_told, object_told}
use Rattle.fbcheck_serve.proofs.stop.EarlyEnd.tell.Goals as goal

pub returns-in-Some : goal.returns-in-Some
returns-in-Some g c =
    rw (sym c.is_quiet.ensures ∙ c.if-is_quiet.false)
    (object_told c.args.form c.args.causes c.args.self.now _ _ c.bytes.result.now c.behind-behind.result.now c.in-Some.line.items c.status.result c.in_default.not-Usage c.behind-behind.ensures
    (c.bytes.ensures ∙ c.text-text.ensures.text) c.status.ensures c.in-Some.ensures (rw c.as_slice.ensures.value at c.note-in-Some.ensures))

pub returns-in-None : goal.returns-in-None
returns-in-None g c =
    rw (sym c.is_quiet.ensures ∙ c.if-is_quiet.false)
    (line_told c.args.form c.args.causes c.args.self.now _ _ c.text-text.result c.behind-behind.result.now c.in_default.not-Usage c.behind-behind.ensures c.text-text.ensures.text c.note_plain.ensures)

pub returns-in-Usage : goal.returns-in-Usage
returns-in-Usage g c = search rules

pub returns-then-is_quiet : goal.returns-then-is_quiet
returns-then-is_quiet g c = rw (sym c.is_quiet.ensures ∙ c.if-is_quiet.true) (Keeps-refl (writer_of g.N.Sink c.args.notes.now).bytes, refl)
