use Rattle.rw_text.proofs.shared.LineLemmas.{no_sample_time, no_sample_number, no_sample_integer, no_sample_value}
use Rattle.rw_text.proofs.lines.read_sample.Goals as goal

pub returns-in_default-split_at_byte : goal.returns-in_default-split_at_byte
returns-in_default-split_at_byte c = no_sample_time c.args.text.now c.in-Some.number.now c.in-Some.rest.now c.in-Some.ensures.0 c.in-Some.ensures.1 c.in_default-split_at_byte.ensures

pub returns-in_default-read_number : goal.returns-in_default-read_number
returns-in_default-read_number c = no_sample_number c.args.text.now c.in-Some.number.now c.in-Some.rest.now c.in-Some.ensures.0 c.in-Some.ensures.1 c.in_default-read_number.ensures

pub returns-in_default-read_integer : goal.returns-in_default-read_integer
returns-in_default-read_integer c =
    no_sample_integer c.args.text.now c.in-Some.number.now c.in-Some.rest.now c.in-Some-split_at_byte.time.now c.in-Some-split_at_byte.value.now
    c.in-Some.ensures.0 c.in-Some.ensures.1 c.in-Some-split_at_byte.ensures.0 c.in-Some-split_at_byte.ensures.1 c.in_default-read_integer.ensures

pub returns-in_default-read_value : goal.returns-in_default-read_value
returns-in_default-read_value c =
    no_sample_value c.args.text.now c.in-Some.number.now c.in-Some.rest.now c.in-Some-split_at_byte.time.now c.in-Some-split_at_byte.value.now
    c.in-Some.ensures.0 c.in-Some.ensures.1 c.in-Some-split_at_byte.ensures.0 c.in-Some-split_at_byte.ensures.1 c.in_default-read_value.ensures
