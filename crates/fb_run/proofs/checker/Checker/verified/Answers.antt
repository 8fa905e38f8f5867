use Rattle.std.proofs.Common.{◌≡◌, [], ap, length, rules, sym, take_at, ◌∙◌}
use Rattle.fb_verify.proofs.Frames.{as_many_kept}
use Rattle.fb_run.specs.Job.{Beside}
use Rattle.fb_run.proofs.{PlaceLemmas.same_room, PlaceLemmas.told_no, PlaceLemmas.told_none}
use Rattle.fb_run.proofs.checker.Checker.verified.{Goals.in-Ok-put_place, Goals.in-Err-put_place}
use Rattle.fb_run.proofs.checker.Checker.verified.Goals as goal

pub returns-after-put_place-clause-verdict : goal.returns-after-put_place-clause-verdict
returns-after-put_place-clause-verdict g c =
    let no = c.in-Err.ensures in
    let empty : c.clear.new.self.items ≡ [] = search rules in
    let links = c.deref.ensures.value
    ∙ take_at c.located.new.links _ _ (c.located.ensures.long ∙ ap length c.deref_mut.ensures.value ∙ sym c.room.inside.links.ok.0) in
    elim c.match-put_place.branch [
      | in-Ok-put_place w ↦ rw w.result-is (told_no c.self.inside.options.now _ _ _ c.self.view_is c.in-Words.is no.no no.along _ (rw (empty, links) at w.in-Ok-put_place.ensures.ok))
      | in-Err-put_place w ↦ rw w.result-is (told_none c.self.inside.options.now _ _ _ c.self.view_is c.in-Words.is no.no no.along)
    ]

pub returns-after-put_place-clause-room : goal.returns-after-put_place-clause-room
returns-after-put_place-clause-room g c =
    same_room c.requires.room (c.located.ensures.scratch ∙ ap (λ (r : Beside). r.levels) c.room.view_is) (c.located.ensures.pass ∙ ap (λ (r : Beside). r.pass) c.room.view_is)
    (as_many_kept c.located.new.links _ c.room.inside.links.items (c.located.ensures.long ∙ ap length c.deref_mut.ensures.value) c.room.inside.links.ok.0 (ap (λ (r : Beside). r.links) c.room.view_is))
    (ap (λ (r : Beside). r.label) c.room.view_is)
