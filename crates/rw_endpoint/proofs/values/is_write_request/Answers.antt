use Rattle.std.proofs.Common.{◌≡◌, ◌<◌, ◌≢◌, ℕ, List, [], ◌∷◌, false, codes, arith, length, drop, get_or, refl}
use Rattle.std.specs.Str.{str_eq_ignore_ascii_case}
use Rattle.std.proofs.lemmas.Grind.{common_steps}
use Rattle.httparse.specs.Grammar.{skip_ows}
use Rattle.rw_endpoint.specs.Values.{is_write_request}
use Rattle.rw_endpoint.proofs.values.is_write_request.Goals as goal

none : (rest : List ℕ) → length rest ≡ 0 → is_write_request rest ≡ false
unfolding is_write_request
none [] e = refl
none (b ∷ rest) e = absurd (omega (arith, e))

other : (rest : List ℕ) → get_or rest 0 0 ≢ 59 → is_write_request rest ≡ false
unfolding is_write_request
other [] e = refl
other (b ∷ rest) e = grind (arith, e)

after : (rest : List ℕ) → 0 < length rest → get_or rest 0 0 ≡ 59 →
    is_write_request rest ≡ str_eq_ignore_ascii_case (skip_ows (drop 1 rest)) (codes "proto=prometheus.WriteRequest")
unfolding is_write_request
after [] e p = absurd (omega (arith, e))
after (b ∷ rest) e p = grind (arith, p)

pub returns-then-is_empty : goal.returns-then-is_empty
returns-then-is_empty c = grind (arith, common_steps, none)

pub returns-then-rest-ne59 : goal.returns-then-rest-ne59
returns-then-rest-ne59 c = grind (arith, common_steps, other)

pub returns : goal.returns
returns c = grind (arith, common_steps, after)
