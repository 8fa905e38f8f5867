-- What goals name in place of an item that isn't there.
use Rattle.std.proofs.Common.{[], false, pos, None}
use Rattle.fb_schema.specs.declared.{kinds.Kind.TheVariants.Scalar, kinds.Scalar.TheVariants.UType, flat.ObjectPart.ObjectPart, flat.EnumPart.EnumPart, views.FieldView.FieldView}
use Rattle.fb_schema.specs.declared.rows.{TypeRow.TypeRow, FieldRow.FieldRow, MemberRow.MemberRow}

abbrev pub blank_type : TypeRow
blank_type = record { base = pos 0; element = pos 0; index = pos 0; fixed_length = 0 }

abbrev pub blank_field : FieldRow
blank_field = record { name = record { ref_ptr = (0, 0); now = [] }; ty = blank_type; slot = 0; default = pos 0; deprecated = false; required = false; optional = false; offset64 = false }

abbrev pub blank_member : MemberRow
blank_member = record { name = record { ref_ptr = (0, 0); now = [] }; value = pos 0; ty = blank_type }

abbrev pub blank_object : ObjectPart
blank_object = record { name = record { ref_ptr = (0, 0); now = [] }; fields = (0, 0); is_struct = false; minalign = pos 0; bytesize = pos 0 }

abbrev pub blank_enum : EnumPart
blank_enum = record { name = record { ref_ptr = (0, 0); now = [] }; members = (0, 0); is_union = false }

abbrev pub blank_view : FieldView
blank_view = record { number = 0; slot = 0; name = record { ref_ptr = (0, 0); now = [] }; kind = Scalar UType; default = pos 0; required = false; optional = false; size = 0; align = 0; companion = None }
