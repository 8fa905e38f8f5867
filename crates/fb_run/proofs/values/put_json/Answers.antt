use Rattle.std.proofs.Common.{◌≡◌, ◌<◌, ◌++◌, map, length, ap, arith, codes, rules, sym}
use Rattle.std.proofs.lemmas.List.{length-map}
use Rattle.json.specs.Json.{no_members}
use Rattle.fb_access.specs.Denotes.{shown}
use Rattle.fb_run.specs.{Puts.queue_of, Wanted.Wanted}
use Rattle.fb_run.proofs.{JsonLemmas.asked_parts, JsonLemmas.line_end, JsonLemmas.no_more, JsonLemmas.none_asked, PutsLemmas.three_puts}
use Rattle.fb_run.proofs.values.put_json.Goals as goal

pub returns-then-is_empty : goal.returns-then-is_empty
returns-then-is_empty g c =
    let none : length c.args.paths.now ≡ 0 = search rules in
    let asked = none_asked (map (λ (p : Wanted). p.text) c.args.paths.now) (map shown c.args.answers.now) (omega (arith, none, length-map c.args.paths.now (λ (p : Wanted). p.text))) in
    (_, (no_members, asked, ap (λ l. l ++ codes "\n") (sym no_more)), c.put.ensures.puts)

pub returns : goal.returns
returns g c =
    let some : 0 < length c.args.paths.now = search rules in
    let (text, (values, are, is), put) = c.put_members.ensures in
    let parts = asked_parts (map (λ (p : Wanted). p.text) c.args.paths.now) (map shown c.args.answers.now) values (omega (arith, some, length-map c.args.paths.now (λ (p : Wanted). p.text))) are in (
      _,
      (parts.0, parts.1, line_end (codes ",\"values\":{") text _ _ is parts.2),
      three_puts (codes ",\"values\":{") text (codes "}\n") (queue_of g.K.Sink c.args.out.now c.args.sink.now) (queue_of g.K.Sink c.put-2.new.self c.put-2.new.sink) (queue_of g.K.Sink c.put_members.new.out c.put_members.new.sink) (queue_of g.K.Sink c.put-3.new.self c.put-3.new.sink) c.put-2.ensures.puts put c.put-3.ensures.puts,
    )
