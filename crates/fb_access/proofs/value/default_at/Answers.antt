use Rattle.std.proofs.Common.{rules, ◌≡◌, ◌∙◌, ap, sym, ◌%◌, ◌^◌, w64}
use Rattle.std.specs.Int.{cast_unsigned}
use Rattle.fb_schema.specs.Kinds.{scalar_size}
use Rattle.fb_access.specs.Denotes.{number, default_value}
use Rattle.fb_access.proofs.Counted.{low_fits, number_fits, whole_default}
use Rattle.fb_access.proofs.value.default_at.Goals as goal

pub returns-in_default : goal.returns-in_default
returns-in_default c =
    let s = c.args.scalar in
    let bits : c.cast_unsigned-bits.result ≡ cast_unsigned w64 c.args.default = search rules in
    let low = c.low_bytes.ensures ∙ ap (λ n. n % 256 ^ scalar_size s) bits in
    record {
      shown = c.number_of.ensures ∙ ap (number s) low ∙ sym (whole_default s c.args.default c.in_default.not-Float c.in_default.not-Double);
      fits = number_fits s c.low_bytes.result c.number_of.result (low_fits s c.cast_unsigned-bits.result c.low_bytes.result c.low_bytes.ensures) c.number_of.ensures;
    }

pub returns-in-Double-clause-shown : goal.returns-in-Double-clause-shown
unfolding default_value
returns-in-Double-clause-shown c = search rules

pub returns-in-Float-clause-shown : goal.returns-in-Float-clause-shown
unfolding default_value
returns-in-Float-clause-shown c = search rules
