use Rattle.std.proofs.Common.{◌≡◌, ◌<◌, ◌^◌, drop}
use Rattle.std.specs.List.{list_all}
use Rattle.std.specs.Char.{is_ascii_digit}
use Rattle.std.specs.Str.Parse.{digits_value_after}
use Rattle.rw_endpoint.proofs.values.length_value.Given as goal

abbrev pub invariant-loop-b : goal.invariant-loop-b
invariant-loop-b l = record {
  digits : list_all is_ascii_digit l.text ≡ list_all is_ascii_digit (drop l.b-index l.text);
  value : digits_value_after 10 0 l.text ≡ digits_value_after 10 l.n (drop l.b-index l.text);
  bound : l.n < 10 ^ l.b-index;
}
