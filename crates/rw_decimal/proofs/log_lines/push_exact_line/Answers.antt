use Rattle.std.proofs.Common.{refl, inl, inr}
use Rattle.rw_decimal.proofs.ResultLemmas.{on_ok_then}
use Rattle.rw_decimal.proofs.log_lines.push_exact_line.Goals as goal

pub returns-in-Some : goal.returns-in-Some
returns-in-Some c = on_ok_then c.push_sample.result c.push_sample.ensures (λ e. (_, e, inl (c.in-Some.front.now, c.in-Some.value.now, c.in-Some.ensures, refl)))

pub returns-in-None : goal.returns-in-None
returns-in-None c = on_ok_then c.push_other.result c.push_other.ensures (λ e. (_, e, inr (refl, c.in-None.ensures)))
