-- What flat lists stand for.
use Rattle.std.specs.Prelude.{List, map}
use Rattle.fb_schema.specs.{declared.lists.Lists.Lists, Flat.part}

-- the lists, one by one
abbrev pub lists_of : {T A : Type 0} → Lists T A → List (List T)
lists_of s = map (part s.rows.items) s.ranges.items
