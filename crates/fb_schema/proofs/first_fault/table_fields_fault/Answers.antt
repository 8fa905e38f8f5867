use Rattle.fb_schema.proofs.first_fault.table_fields_fault.Goals as goal

pub first_table_fault-requires : goal.first_table_fault-requires
first_table_fault-requires g c = record {
  few = c.requires;
  names = c.in_ok-name_again.ensures;
  slots = c.in_ok-slot_again.ensures;
  bytes = rw c.deref.ensures.value c.in_ok-bytes.ensures;
  vectors = rw c.deref-2.ensures.value c.in_ok-vectors.ensures;
}
