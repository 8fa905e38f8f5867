use Rattle.std.proofs.Common.{◌<◌, ◌+◌, ◌∷◌, ◌++◌, slice_index_or, ◌≡◌, slice_get, [], filter, if◌then◌else◌, Some, map, take, length, sym, ap, subst, ◌∙◌}
use Rattle.std.proofs.lemmas.List.{length-map}
use Rattle.fb_schema.specs.{Index.IsLiveIndex, FlatRows.borrowed_rows, FlatRows.object_in, Rows.Object, Live.live_of_view, Live.by_slot, Live.is_live, Live.AreKinded}
use Rattle.fb_schema.specs.Live.{AreSpaced}
use Rattle.fb_schema.proofs.{Blank.blank_object, Kinded.rows_kinded, Kinded.live_long, TypedLemmas.rows_spaced, IndexLemmas.on_ok, IndexLemmas.take_more, IndexLemmas.kept_read}
use Rattle.fb_schema.proofs.IndexLemmas.{mapped_read}
use Rattle.fb_schema.proofs.index.LiveIndex.add.Goals as goal
use Rattle.fb_schema.proofs.{index.LiveIndex.add.Goals.Start, LegalLemmas.legal_slots}

-- the object with this number, as it is read there
abbrev object_read : (g : _) → Start g → Object
object_read g c = object_in c.args.rows.now.fields.now (slice_index_or c.args.rows.now.objects.now c.args.n blank_object)

object_there : (g : _) (c : Start g) → slice_get (borrowed_rows c.args.rows.now).objects c.args.n ≡ Some (object_read g c)
object_there g c = kept_read (object_in c.args.rows.now.fields.now) c.args.rows.now.objects.now c.args.n blank_object c.requires.here

pub table_views-requires-clause-apart : goal.table_views-requires-clause-apart
table_views-requires-clause-apart g c = λ table.
    let d = (goal.at.table_views-requires-clause-apart g c).Start in
    legal_slots (borrowed_rows c.args.rows.now) c.requires.legal c.args.n (object_read g d) (object_there g d) table

pub table_views-requires-clause-spaced : goal.table_views-requires-clause-spaced
table_views-requires-clause-spaced g c = λ table.
    let d = (goal.at.table_views-requires-clause-spaced g c).Start in
    subst (λ b. AreSpaced (if b then [] else by_slot (filter is_live (object_read g d).fields))) table
    (rows_spaced (borrowed_rows c.args.rows.now) c.requires.legal c.args.n (object_read g d) (object_there g d))

pub table_views-requires-clause-kinds : goal.table_views-requires-clause-kinds
table_views-requires-clause-kinds g c = λ table.
    let d = (goal.at.table_views-requires-clause-kinds g c).Start in
    let rows = borrowed_rows c.args.rows.now in
    subst (λ b. AreKinded rows (if b then [] else by_slot (filter is_live (object_read g d).fields))) table
    (rows_kinded rows c.requires.legal c.args.n (object_read g d) (object_there g d))

pub returns : goal.returns
returns g c =
    let objects = c.args.rows.now.objects.now in
    let rows = borrowed_rows c.args.rows.now in
    let i = c.args.n in
    let told = object_in c.args.rows.now.fields.now in
    let o = told (slice_index_or objects i blank_object) in
    let low : i < length (map told objects) = rw length-map c.requires.here in
    let more = take_more (map told objects) i o low (mapped_read told objects i blank_object c.requires.here) in
    let live = ap (map live_of_view) c.deref.ensures.value ∙ c.in_ok-fields.ensures.value in
    let long = sym (length-map c.deref.result.now live_of_view) ∙ ap length live ∙ live_long rows c.requires.legal i o (object_there g (goal.at.returns g c).Start) in
    on_ok c.push.result (IsLiveIndex rows (take i (map told objects) ++ o ∷ []) c.push.new.self) (IsLiveIndex rows (take (i + 1) (map told objects)) c.push.new.self)
    (subst (λ os. IsLiveIndex rows os c.push.new.self) more) (c.push.ensures rows (take i (map told objects)) o c.requires.before live long)
