-- The walk of a buffer inside, within what is left.
use Rattle.std.proofs.Common.{◌≡◌, ◌⊎◌, ℕ, ◌+◌, ◌-◌, ◌*◌, ◌^◌, ◌<◌, ◌≤◌, min, List, ◌++◌, length, take, drop, inl, inr, sym, ap, subst, ◌∙◌, arith, length-take, length-drop, length-append}
use Rattle.std.proofs.Math.Seq.{drop-append_seam}
use Rattle.fb_schema.specs.{Rows.Rows, Live.widest}
use Rattle.fb_rules.specs.{declared.fault.Fault.Fault, declared.fault.Report.Report, declared.link.Link.Link, Bounds.Bounds, Question.Question, MostReads.most_reads, Stops.Stops}
use Rattle.fb_rules.specs.{Links.StopsAlong, Verdict.Reports}
use Rattle.fb_strict.specs.{declared.levels.Level.Level, Levels.Whole, Levels.IsAsking, Levels.AreEnough, Levels.bytes_of, Levels.walk_at, Levels.WalkStops, Nested.later}
use Rattle.fb_schema.proofs.Numbers.{le_or_lt}
use Rattle.fb_strict.proofs.{Nesting.along, Verdicts.walk_few, Verdicts.few_reads, Verdicts.least_of}

pub report_few : (q : Question) (b : List ℕ) (r : Report) → Reports q b r → (q.limits).tables < 2 ^ 32 → widest q.rows < 2 ^ 32 → length b < 2 ^ 31 → r.reads ≤ 2 ^ 112
report_few q b r h t w l = let few = walk_few q b h.found h.well_formed h.within t w l in omega (arith, few, h.reads)

pub most_few : (S : Rows) (L : Bounds) (len : ℕ) → L.tables < 2 ^ 32 → widest S < 2 ^ 32 → len < 2 ^ 31 → most_reads S L len ≤ 2 ^ 112
unfolding most_reads
most_few S L len t w l = omega (arith, least_of L.reads (4 + L.tables * (4 + widest S * (8 + len))), few_reads L.tables (widest S) len t w l)

pub report_deep : (q : Question) (b : List ℕ) (r : Report) → Reports q b r → r.depth ≤ (q.limits).depth
report_deep q b r h = omega (arith, h.depth, h.within.depth)

-- its bytes are no more than the whole
pub short_bytes : (w : Whole) (l : Level) → IsAsking w → length (bytes_of w l) < 2 ^ 31
short_bytes w l h =
    let t = length-take l.size (drop l.begin w.bytes) in
    let d = length-drop l.begin w.bytes in
    omega (arith, t, d, h.short)

-- what serves for walks of the whole serves inside, whose links are put behind those around
pub enough_inside : (above : ℕ) {depth frames row inside own : ℕ} → AreEnough depth frames row → inside ≡ depth - above → own ≡ row - min above row → AreEnough inside frames own
enough_inside above {depth} {frames} {row} {inside} {own} e deep behind = record { some = omega (arith, e.some, deep); room = omega (arith, e.room, deep); located = located (le_or_lt depth row) }
  where
    located : (depth ≤ row) ⊎ (row < depth) → inside ≤ own → inside ≤ frames
    located (inl le) h = omega (arith, e.located le, deep)
    located (inr lt) h = omega (arith, lt, h, deep, behind)

pub enough_still : {depth d frames f row r : ℕ} → AreEnough depth frames row → d ≡ depth → f ≡ frames → r ≡ row → AreEnough d f r
enough_still h deep same long = rw (deep, same, long) h

-- it stops: the links that lead to the fault are told where there is room for them behind those around it
pub walk_stops : (w : Whole) (spent : Report) (row front own : List Link) (level : Level) (root : ℕ) → row ≡ front ++ own → (old : ℕ) → old ≡ length own → length front ≡ min level.above (old + length front) → level.above ≤ ((w.question).limits).depth
    → (q : Question) → q ≡ walk_at w level root spent → (b : List ℕ) → b ≡ bytes_of w level → (f f' : Fault) (many : ℕ) → Stops q b f → ((q.limits).depth ≤ old → StopsAlong q b f (take many own)) → many ≤ length own
    → f' ≡ later spent.reads f → WalkStops w spent row level root f' many
walk_stops w spent row front own level root joined old old-is front-is deep q q-is b b-is f f' many stops along-it room later-is = by (le_or_lt ((w.question).limits).depth (length row))
  where
    long : length row ≡ length front + length own
    long = ap length joined ∙ length-append front own

    behind : length front ≡ level.above → take many own ≡ take many (drop level.above row)
    behind e = ap (take many) (sym (ap (drop level.above) joined ∙ ap (λ n. drop n (front ++ own)) (sym e) ∙ drop-append_seam front own))

    by : (((w.question).limits).depth ≤ length row) ⊎ (length row < ((w.question).limits).depth) → WalkStops w spent row level root f' many
    by (inl le) =
        let e : length front ≡ level.above = omega (arith, front-is, deep, le, long, old-is) in
        let inside = ap (λ (q : Question). (q.limits).depth) q-is in
        let enough : (q.limits).depth ≤ old = omega (arith, inside, long, e, le, old-is) in
        record {
          own = f;
          links = take many own;
          stops = subst (λ q. StopsAlong q (bytes_of w level) f (take many own)) q-is (subst (λ b. StopsAlong q b f (take many own)) b-is (along-it enough));
          fault = later-is;
          told = λ h. (behind e, omega (arith, long, e, room));
        }
    by (inr lt) =
        let a = along q b f stops in
        record {
          own = f;
          links = a.0;
          stops = subst (λ q. StopsAlong q (bytes_of w level) f a.0) q-is (subst (λ b. StopsAlong q b f a.0) b-is a.1);
          fault = later-is;
          told = λ h. absurd (omega (arith, h, lt));
        }
