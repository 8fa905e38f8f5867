-- A turn of the top, over the frames in which it stands.
use Rattle.std.proofs.Common.{◌≡◌, ℕ, ◌+◌, ◌-◌, ◌^◌, ◌≤◌, ◌<◌, List, [], ◌∷◌, ◌++◌, length, take, min, get_or, refl, sym, ◌∙◌, ap, subst, arith, Option, Some, None, Result, Ok, Err}
use Rattle.std.proofs.{Math.ListN.set, Math.ListN.length-set, lemmas.List.take-take, lemmas.List.length-take, lemmas.List.length-append}
use Rattle.fb_bytes.specs.Word.{Lent}
use Rattle.fb_schema.specs.Live.{live_fields}
use Rattle.fb_rules.specs.{Told.stopped, declared.table.Child.Child, declared.site.Halt.Halt, declared.site.Stop.Stop}
use Rattle.fb_rules.specs.declared.site.LastLink.TheVariants.{Behind, InField}
use Rattle.fb_verify.specs.Stack.{blank, Origin, frame_work, work, Waiting, IsWalking, IsStopped, IsStoppedBehind, IsOver}
use Rattle.fb_verify.specs.{Walked.ended, Walked.TableWalked, Turns.GoesOn, Turns.GoesDown, Turns.Halts, Turns.WentOn, Turns.WentOver, Turns.WentWrong, Turns.Opened, Turns.Turned}
use Rattle.fb_verify.specs.Turns.{FramesTurned, PassedField, FieldTurned, ByTurn, IsUnderWayOver, GoneOn, WentDeeper, Ran}
use Rattle.fb_verify.specs.{PassesOn.HasPassed, Units.WorkedOn, declared.scratch.Frame.Frame, declared.stack.Turn.Turn, declared.stack.Walk.Walk}
use Rattle.fb_verify.specs.declared.stack.Turn.TheVariants.{Down, Up, Slowly, Halt as Halted}
use Rattle.fb_verify.proofs.{Stacks.top_is as low_top, Stacks.last_is, Stacks.sum_last, Stacks.below_joined, Stacks.grown_joined, Stacks.top_joined, Stacks.next_joined, Standings.close_last}
use Rattle.fb_verify.proofs.Walking.{table_closed}

-- where the fields of its first table are passed, a walk is over
pub went_over : {w then : Walk} {m new : Lent} (under : Waiting) (past : Frame) → then ≡ record w { tables = then.tables; deepest = then.deepest } → IsWalking then new under.start under.frames past → under.frames ≡ []
    → (past.row).left ≡ 0 → length (live_fields then.schema.now (past.table).object) ≤ past.next → new.bytes ≡ m.bytes → WentOver w then m new under.start
went_over {w} {then} {m} {new} under past same h none rests all bytes =
    let over = close_last then.checks new.bytes then.schema.now then.limits under.start under.frames past then.tables then.deepest new.count h.standing none rests all in
    search (arith, same, bytes, over)

-- what isn't passed of the top is the work that it left
pub passed_work : {w : Walk} {m new : Lent} {under : Waiting} {top past : Frame} → HasPassed w m new under top past → (n : ℕ) → new.count + work w.schema.now w.limits under.frames past n ≤ m.count + work w.schema.now w.limits under.frames top n
unfolding work
passed_work h n = omega (arith, h.falls)

-- the frames of a walk are in two parts, of which the first ends with its top
pub record AreParted (under : Waiting) (old low high : List Frame) (waiting : ℕ) : Type 0 where
  pub parts : old ≡ low ++ high
  pub front : length low ≡ waiting + 1
  pub below : under.frames ≡ take waiting old

module _ {under : Waiting} {old low high : List Frame} {waiting : ℕ} (p : AreParted under old low high waiting) where
  abbrev top_was : Frame
  top_was = get_or low waiting blank

  pub stands : top_was ≡ get_or old waiting blank
  stands = low_top old low high waiting blank p.parts p.front blank

-- The top is written.
module _ {under : Waiting} {old low high : List Frame} {waiting : ℕ} (p : AreParted under old low high waiting) (past : Frame) (other : List Frame) where
  abbrev frames : List Frame
  frames = set low waiting past ++ other

  waits : under.frames ≡ take waiting frames
  waits = p.below ∙ sym (below_joined old low high waiting past p.parts p.front other blank)

  top_is : get_or frames waiting blank ≡ past
  top_is = top_joined old low high waiting past p.parts p.front other blank

  grown : take (waiting + 1) frames ≡ under.frames ++ past ∷ []
  grown = grown_joined old low high waiting past p.parts p.front other blank ∙ ap (λ zs. zs ++ past ∷ []) (sym p.below)

  next_is : get_or frames (waiting + 1) blank ≡ get_or other 0 blank
  next_is = next_joined old low high waiting past p.parts p.front other blank

  long : length frames ≡ waiting + 1 + length other
  long = omega (arith, length-append (set low waiting past) other, length-set low waiting past, p.front)

  many : length under.frames ≡ waiting
  many = omega (arith, ap length p.below, length-take waiting old, ap length p.parts, length-append low high, p.front)

  module _ {w then : Walk} {m new : Lent} where
    -- the top's fields are passed, and frames wait
    pub goes_above : 0 < waiting → then ≡ record w { tables = then.tables; deepest = then.deepest } → IsWalking then new under.start under.frames past → (past.row).left ≡ 0
        → length (live_fields then.schema.now (past.table).object) ≤ past.next → new.count + work w.schema.now w.limits under.frames past then.tables ≤ m.count + work w.schema.now w.limits under.frames (top_was p) w.tables → m.count ≤ new.count
        → new.bytes ≡ m.bytes → WentOn w then m new under.start old waiting frames (waiting - 1) 1
    unfolding work
    goes_above some kept h rests all falls grows bytes =
        let room : waiting ≤ length frames = omega (arith, long) in
        let walking = table_closed h (take (waiting - 1) frames) (get_or frames (waiting - 1) blank) (waits ∙ last_is frames waiting blank some room) rests all in
        let same = ap (λ zs. work w.schema.now w.limits zs past then.tables) waits in
        let sum = sum_last frames waiting blank some room (frame_work w.schema.now) in
        search (arith, kept, walking, falls, grows, bytes, same, sum, sym p.below, sym (stands p), some, room)

    -- a unit of the top is passed
    pub stays_on : WorkedOn w then m new under.start under.frames (top_was p) under.frames past → WentOn w then m new under.start old waiting frames waiting 1
    stays_on h = record { same = h.same; walking = rw (sym waits, top_is) h.walking; top = omega (arith, long); falls = rw (sym waits, top_is, sym p.below, sym (stands p)) (omega (arith, h.falls)); grows = h.grows; bytes = h.bytes }

    -- and it leads to a table below
    pub goes_below : min (w.limits).depth (waiting + 2) ≤ length old → length other ≡ length high → WorkedOn w then m new under.start under.frames (top_was p) (under.frames ++ past ∷ []) (get_or other 0 blank) → WentOn w then m new under.start old waiting frames (waiting + 1) 1
    goes_below room size h =
        let links : length (under.frames ++ past ∷ []) < (w.limits).depth = rw (ap (λ (x : Walk). (x.limits).depth) h.same) at (h.walking).links in
        let top_in : waiting + 1 < length frames = omega (arith, links, room, size, long, many, p.front, ap length p.parts, length-append low high, length-append under.frames (past ∷ [])) in
        record { same = h.same; walking = rw (grown, next_is) h.walking; top = top_in; falls = rw (grown, next_is, sym p.below, sym (stands p)) (omega (arith, h.falls)); grows = h.grows; bytes = h.bytes }

  -- or the walk stops there, behind a word of the top or in a field of it
  module _ {w : Walk} {m new : Lent} {stop : Stop} (deep : length under.frames < (w.limits).depth) where
    pub stops_behind : (new.bytes ≡ m.bytes) × IsStoppedBehind w m under.start (under.frames ++ past ∷ []) (stopped stop new.count) → WentWrong w m new under.start frames (record { stop = stop; links = waiting + 1; last = Behind })
    stops_behind e = record { deep = omega (arith, deep, many); err = rw grown e.1; bytes = e.0 }

    pub stops_in_field : (new.bytes ≡ m.bytes) × IsStopped w m under.start under.frames (stopped stop new.count) → WentWrong w m new under.start frames (record { stop = stop; links = waiting; last = InField })
    stops_in_field e = record { deep = omega (arith, deep, many); err = rw (sym waits) e.1; bytes = e.0 }

  module _ (w then : Walk) (m new : Lent) where
    -- the top goes on, is passed to its end, or stops, where the links are those of the first frames
    pub frames_turned : (child : Child) (turn : Turn) → (turn ≡ Down → ⊥) → Turned w then m new under (top_was p) past child turn → FramesTurned w then m new under.start old frames waiting turn
    unfolding work
    frames_turned child Down un h = absurd (un refl)
    frames_turned child Up un e =
        let h = e.on.walking in
        let all : length (live_fields then.schema.now (past.table).object) ≤ past.next = rw e.on.same e.all in
        record {
          over = λ zero. went_over under past e.on.same h (p.below ∙ rw zero refl) e.rests all e.on.bytes;
          above = λ some. (goes_above some e.on.same h e.rests all e.on.falls e.on.grows e.on.bytes, e.on.short);
        }
    frames_turned child Slowly un h = search (arith, sym waits, top_is, sym p.below, sym (stands p), long)
    frames_turned child Halted un h =
        let l = (then.halt).links in
        let same : take l frames ≡ take l (under.frames ++ past ∷ []) = sym (take-take l (waiting + 1) frames (omega (arith, h.links, many))) ∙ ap (take l) grown in
        record { deep = h.deep; err = rw same h.err; bytes = h.bytes }

  -- a table below was opened, or its head stops the walk
  module _ {w then : Walk} {m new : Lent} {child : Child} (last : Walk) (then-reads : Lent) (open-frame : Frame) (first : get_or other 0 blank ≡ open-frame) (some : 0 < length other) (h : GoesDown w then m new under (top_was p) past child) where
    abbrev above : Waiting
    above = record { start = under.start; frames = under.frames ++ past ∷ [] }

    pub frames_down : (turn : Turn) → Opened then last new then-reads above open-frame child turn → FramesTurned w last m then-reads under.start old frames waiting turn
    unfolding work
    frames_down Down o =
        let less = ap (λ x. work w.schema.now w.limits (under.frames ++ past ∷ []) x then.tables) o.opens in
        search (arith, grown, next_is, first, o.same, sym p.below, sym (stands p), less, long, some)
    frames_down Halted o =
        let links : (last.halt).links ≡ waiting + 1 = omega (arith, o.links, length-append under.frames (past ∷ []), many) in
        let err = rw (h.same, h.bytes) at o.err in
        search (arith, links, grown, o.behind, err, h, o, many)
    frames_down _ o = absurd o

-- The walk goes on from where it came to before.
module _ {w mid then : Walk} {m been new : Lent} {under : Waiting} (kept : mid ≡ record w { tables = mid.tables; deepest = mid.deepest }) (bytes : been.bytes ≡ m.bytes) where
  pub halts_on : {past : Frame} → Halts mid then been new under past → Halts w then m new under past
  halts_on h = search (arith, kept, bytes)

  module _ {top t past : Frame} (table : t.table ≡ top.table) (falls : been.count + work w.schema.now w.limits under.frames t mid.tables ≤ m.count + work w.schema.now w.limits under.frames top w.tables)
      (grows : m.count ≤ new.count) where
    pub goes_on : GoesOn mid then been new under t past → GoesOn w then m new under top past
    goes_on h = search (arith, kept, bytes, table, falls)

    pub goes_down : {child : Child} → GoesDown mid then been new under t past child → GoesDown w then m new under top past child
    goes_down h = search (arith, kept, bytes, falls)

-- Past a field that leads on.
module _ (w mid then : Walk) (m been new : Lent) (under : Waiting) (kept : mid ≡ record w { tables = mid.tables; deepest = mid.deepest }) (bytes : been.bytes ≡ m.bytes) (top t past : Frame) (child : Child) (table : t.table ≡ top.table)
    (grows : m.count ≤ been.count) (falls : been.count - 1 + work w.schema.now w.limits under.frames t mid.tables ≤ m.count + work w.schema.now w.limits under.frames top w.tables) where
  pub field_turned : (turn : Turn) → (turn ≡ Up → ⊥) → FieldTurned mid then been new under t past child turn → Turned w then m new under top past child turn
  field_turned Down un h = goes_down kept bytes table falls (omega (arith, grows, h.grows)) h.down
  field_turned Up un h = absurd (un refl)
  field_turned Slowly un h = goes_on kept bytes table falls (omega (arith, grows, h.grows)) h.on
  field_turned Halted un h = halts_on kept bytes h

  pub field_over : PassedField mid then been new under t past → GoesOn w then m new under top past × ((past.row).left ≡ 0)
  field_over h = (field_turned Slowly (λ e. cc) h.on, h.rests)

-- what goes neither up nor down and doesn't stop goes on
pub slowly : (up halted : Type 0) {on : Type 0} (turn : Turn) → (turn ≡ Up → ⊥) → (turn ≡ Halted → ⊥) → ByTurn ⊥ up on halted turn → on
slowly _ _ Down up halt h = absurd h
slowly _ _ Up up halt h = absurd (up refl)
slowly _ _ Slowly up halt h = h
slowly _ _ Halted up halt h = absurd (halt refl)

-- A walk that went on from where it came to before.
module _ {w mid : Walk} {m been new : Lent} {s : Origin} {tables deepest : ℕ} (kept : mid ≡ record w { tables = tables; deepest = deepest }) (bytes : been.bytes ≡ m.bytes) where
  pub over_from : {then : Walk} → WentOver mid then been new s → WentOver w then m new s
  over_from h = search (arith, kept, bytes)

  pub wrong_from : {frames : List Frame} {h : Halt} → WentWrong mid been new s frames h → WentWrong w m new s frames h
  wrong_from h = search (arith, kept, bytes)

module _ (w mid then : Walk) (m been new : Lent) (s : Origin) {tables deepest : ℕ} (kept : mid ≡ record w { tables = tables; deepest = deepest }) (bytes : been.bytes ≡ m.bytes) (rows : List Frame) where
  pub gone_from : (r : Result (Option ℕ) Halt) → GoneOn mid then been new s rows r → GoneOn w then m new s rows r
  gone_from (Ok None) h = over_from kept bytes h
  gone_from (Ok (Some n)) h = search (arith, kept, bytes)
  gone_from (Err e) h = wrong_from kept bytes h

  -- over frames of its own, as these are used up
  pub ran_deeper : {A : Type 0} (r : Result A Halt) → length rows < (w.limits).depth → WentDeeper mid then been new s r → Ran w then m new s rows r
  ran_deeper (Ok a) less h = over_from kept bytes h
  ran_deeper (Err e) less h = record { rows = h.0; wrong = wrong_from kept bytes h.1; along = λ room. absurd (omega (arith, less, room)) }

-- before the first turn
pub begins : {w : Walk} {m : Lent} {s : Origin} {frames : List Frame} {waiting : ℕ} → IsWalking w m s (take waiting frames) (get_or frames waiting blank) → waiting < length frames → WentOn w w m m s frames waiting frames waiting 0
begins h top = record { same = refl; walking = h; top = top; falls = omega arith; grows = omega arith; bytes = refl }

-- a count holds the work that is left
pub under_way : {w then : Walk} {m new : Lent} {s : Origin} {old frames : List Frame} {waiting left less : ℕ} → WentOn w then m new s old waiting frames left less
    → m.count + work w.schema.now w.limits (take waiting old) (get_or old waiting blank) w.tables ≤ 2 ^ 94 → IsUnderWayOver then new s frames left
under_way h few = record { walking = h.walking; top = h.top; few = rw (ap (λ (x : Walk). x.schema) h.same, ap (λ (x : Walk). x.limits) h.same) (omega (arith, h.falls, few)) }

-- a walk that is over has walked its first table
pub walked_over : {w then : Walk} {m new : Lent} {s : Origin} → WentOver w then m new s → TableWalked w.checks m.bytes w.schema.now s.object s.position s.way (ended s.way then.tables then.deepest new.count)
walked_over {w} {then} {new = new} {s} h = rw h.bytes at (subst (λ (x : Walk). IsOver x new s) h.same h.over)
