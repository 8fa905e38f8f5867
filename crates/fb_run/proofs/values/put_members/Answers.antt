use Rattle.std.proofs.Common.{◌<◌, ◌≤◌, min, ◌++◌, [], ℕ, List, map, length, arith, ap, codes, refl, subst, sym, ◌∙◌}
use Rattle.std.proofs.lemmas.List.{length-map, get_or-map}
use Rattle.std.specs.Prelude.{nat_lt, if◌then◌else◌}
use Rattle.json.specs.Json.{string}
use Rattle.fb_access.specs.{Denotes.Shown, Denotes.nothing, Denotes.shown, declared.answer.Answer.TheVariants.Absent}
use Rattle.fb_run.specs.{Json.IsValue, Json.json_text, Puts.queue_of, Wanted.Wanted}
use Rattle.fb_run.proofs.{JsonLemmas.none_yet, JsonLemmas.one_value_more, JsonLemmas.part_put, JsonLemmas.values_end, PutsLemmas.puts_none, PutsLemmas.puts_then}
use Rattle.fb_run.proofs.values.put_members.Goals as goal

abbrev text_of : Wanted → List ℕ
text_of p = p.text

pub loop-index-init : goal.loop-index-init
loop-index-init g c = ([], puts_none (queue_of g.K.Sink c.args.out.now c.args.sink.now), none_yet _ _ [])

pub loop-index-preserved : goal.loop-index-preserved
loop-index-preserved g c =
    let paths = c.args.paths.now in
    let answers = c.args.answers.now in
    let i = c.loop-index.index in
    let few : i < length paths = omega (arith, c.loop-index-test.true) in
    let enough : i < length answers = omega (arith, c.loop-index-test.true) in
    let path = c.text.ensures ∙ ap text_of c.index-paths-index.is ∙ sym (get_or-map text_of paths i c.index-paths-index.result [] few) in
    let (text, put, completes) = c.loop-index.invariant in
    let (more, (value, is, said), last) = c.put_value.ensures in
    let start = (queue_of g.K.Sink c.args.out.now c.args.sink.now) in
    let now = queue_of g.K.Sink c.loop-index.out c.loop-index.sink in
    let between = (queue_of g.K.Sink c.put_key.new.out c.put_key.new.sink) in
    let end = (queue_of g.K.Sink c.put_value.new.out c.put_value.new.sink) in
    let key = (if nat_lt 0 i then codes "," else []) ++ (json_text (string c.text.result.now) ++ codes ":") in (
      text ++ (key ++ more),
      puts_then text (key ++ more) start now end put (puts_then key more now between end c.put_key.ensures last),
      one_value_more (map text_of paths) (map shown answers) i text _ [] value (omega (arith, length-map paths text_of)) (omega (arith, length-map answers shown)) completes
          (subst (λ (v : Shown). IsValue v value) (sym (get_or-map shown answers i Absent nothing enough)) is) (ap (λ (l : List ℕ). text ++ l) (part_put (nat_lt 0 i) _ _ more value path said)),
    )

pub returns : goal.returns
returns g c =
    let paths = map text_of c.args.paths.now in
    let values = map shown c.args.answers.now in
    let (text, put, completes) = c.loop-index.invariant in
    let ended : min (length paths) (length values) ≤ c.loop-index.index = rw (length-map c.args.paths.now text_of, length-map c.args.answers.now shown) (omega arith) in
    let (all, are, is) = values_end paths values c.loop-index.index text _ [] ended completes refl in
    (text ++ codes "}", (all, are, is), puts_then text (codes "}") (queue_of g.K.Sink c.args.out.now c.args.sink.now) (queue_of g.K.Sink c.loop-index.out c.loop-index.sink) (queue_of g.K.Sink c.put.new.self c.put.new.sink) put c.put.ensures.puts)
