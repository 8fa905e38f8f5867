-- What a schema holds beside its rows.
use Rattle.std.specs.Prelude.{[], map}
use Rattle.fb_schema.specs.{declared.flat.FlatRows.FlatRows, declared.flat.RowLists.RowLists, declared.index.Index.Index, Demands.IsLegal, FlatRows.flat_rows}
use Rattle.fb_schema.specs.{FlatRows.borrowed_rows, FlatRows.AreParts, Index.IsLiveIndex, Index.IsMemberIndex, Sorting.IsOrderOf, Sorting.name_cmp, Sorting.object_name}

-- the rows are legal, and this is their index
pub record IsIndexed {A : Type 0} (rows : FlatRows A) (index : Index A) : Type 0 where
  pub parts : AreParts rows.objects.items rows.fields.items rows.enums.items rows.members.items
  pub legal : IsLegal (flat_rows rows)
  pub names : IsOrderOf name_cmp (map object_name rows.objects.items) index.order.items
  pub fields : IsLiveIndex (flat_rows rows) (flat_rows rows).objects index.live
  pub kinds : IsMemberIndex (flat_rows rows) rows.members.items rows.enums.items index.members

-- the same of rows that are lent
pub record AreIndexed {A : Type 0} (rows : RowLists) (index : Index A) : Type 0 where
  pub legal : IsLegal (borrowed_rows rows)
  pub names : IsOrderOf name_cmp (map object_name rows.objects.now) index.order.items
  pub fields : IsLiveIndex (borrowed_rows rows) (borrowed_rows rows).objects index.live
  pub kinds : IsMemberIndex (borrowed_rows rows) rows.members.now rows.enums.now index.members

-- nothing is kept yet but the order of the objects' names
pub record IsBlank {A : Type 0} (rows : RowLists) (index : Index A) : Type 0 where
  pub names : IsOrderOf name_cmp (map object_name rows.objects.now) index.order.items
  pub fields : IsLiveIndex (borrowed_rows rows) [] index.live
  pub kinds : IsMemberIndex (borrowed_rows rows) rows.members.now [] index.members
