use Rattle.std.proofs.{Common.nat_lt, Common.ap, Common.arith, Math.Nat.add-sub_cancel}
use Rattle.fb_schema.specs.Live.{live_of_view}
use Rattle.fb_verify.proofs.{IntoField.into_askable, IntoField.into_stops, IntoField.passed_over, IntoField.row_begins, Turns.halts_in_field}
use Rattle.fb_verify.proofs.stack.Walk.put_far.Goals as goal

pub put_row_by-failed-requires : goal.put_row_by-failed-requires
put_row_by-failed-requires g c =
    let o = (c.requires.0).at in
    let f = live_of_view c.args.field.now in
    let r = c.requires.0 in
    record {
      may = record {
        askable = into_askable c.requires.0;
        few = omega (arith, r.short);
        placed = record { table = ((o.walking).frame).near; place = o.near; head = ((o.walking).frame).head };
        rests = (c.requires.0).rests;
      };
      far = c.requires.1.0;
      present = (o.present f (c.requires.0).here).1;
      same = c.requires.1.1;
    }

pub returns-in-Some : goal.returns-in-Some
returns-in-Some g c =
    let o = (c.requires.0).at in
    let new = c.put_row_by-failed.new in
    let e = c.put_row_by-failed.ensures.tested in
    let s = c.stop_in_field.ensures in
    rw s.turn
    (halts_in_field (c.requires.0).many e.bytes (o.walking).links s.links s.last
    (into_stops c.requires.0 new.at new.reads.count c.in-Some.reason (rw c.in-Some.is at e.told) _
    (record { refusal = s.refusal; object = s.object; field = rw add-sub_cancel at s.field })))

pub returns-then-top-eq0 : goal.returns-then-top-eq0
returns-then-top-eq0 g c =
    let e = c.put_row_by-failed.ensures in
    let none = c.in_default.is in
    let left = c.if-top-eq0.true in
    rw ((e.leads none).none (ap (nat_lt 0) left)).1 (passed_over c.requires.0 _ _ _ e.tested none _ _ (e.leads none) left)

pub returns : goal.returns
returns g c =
    let e = c.put_row_by-failed.ensures in
    let none = c.in_default.is in
    row_begins c.requires.0 _ _ _ e.tested none _ _ (e.leads none) (omega arith)
