use Rattle.std.proofs.Common.{refl, rules}
use Rattle.fb_rules.proofs.Shown.{computing, shown, start, past, among}
use Rattle.fb_rules.proofs.examples.faults.Goals as goal

pub returns : goal.returns
unfolding computing
returns c = record {
  no_terminator = (start refl, (_, past refl (search shown, tt, tt) refl, (_, among refl tt refl, record { within = search rules; first = refl })));
  a_zero_offset = (start refl, (_, past refl (search shown, tt, tt) refl, (_, among refl tt refl, record { within = search rules; first = refl })));
  lengths_differ = (start refl, (_, past refl (search shown, tt, tt) refl, record { within = search rules; first = refl }));
  a_struct_out_of_alignment = (start refl, (_, past refl (search shown, tt, tt) refl, (_, among refl tt refl, record { within = search rules; first = refl })));
  one_table_too_many = (start refl, (_, past refl (search shown) refl, (_, among refl tt refl, (_, refl, search shown, (_, past refl (search shown) refl, (_, among refl tt refl, (_, refl, search shown, record { within = search rules; first = refl })))))));
  one_level_too_deep_before_one_table_too_many = (start refl, (_, past refl tt refl, (_, among refl tt refl, (_, refl, search shown, (_, past refl tt refl, (_, among refl tt refl, (_, refl, search shown, record { within = search rules; first = refl })))))));
  an_odd_vtable_size = (start refl, (_, past refl (search shown, tt, tt) refl, (_, among refl tt refl, (_, refl, search shown, record { within = search rules; first = refl }))));
  a_field_past_its_table = (start refl, (_, past refl tt refl, record { within = search rules; first = refl }));
  too_many_reads_in_the_start = record { within = search rules; first = refl };
  too_many_reads_in_a_text = (start refl, (_, past refl (search shown, tt, tt) refl, (_, among refl tt refl, record { within = search rules; first = refl })));
  too_many_reads_in_a_head = (start refl, (_, past refl (search shown) refl, (_, among refl tt refl, (_, refl, search shown, (_, past refl (search shown) refl, (_, among refl tt refl, (_, refl, search shown, record { within = search rules; first = refl })))))));
  too_many_reads_in_a_field = (start refl, (_, past refl (search shown, tt, tt) refl, (_, among refl tt refl, (_, refl, search shown, (_, past refl tt refl, record { within = search rules; first = refl })))));
}
