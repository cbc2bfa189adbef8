use Rattle.std.proofs.Common.{arith, ap, ◌∙◌, ◌+◌, ◌<◌, ◌++◌, List, ℕ, sym, length}
use Rattle.std.specs.Vec.{vec_len, vec_capacity}
use Rattle.rw_codes.specs.Varint.{uvarint}
use Rattle.rw_codes.proofs.shared.Digits.{uvarint_one, uvarint_length_one}
use Rattle.rw_codes.proofs.shared.VarintLaws.{also_on_err}
use Rattle.rw_codes.proofs.varint.put_uvarint.Goals as goal

pub returns-in_err-push-clause-full : goal.returns-in_err-push-clause-full
returns-in_err-push-clause-full c =
    let full : vec_capacity c.args.out.now < vec_len c.args.out.now + length (uvarint c.args.n) =
    omega (arith, c.in_err-push.ensures.full, uvarint_length_one c.args.n c.if-n-lt128.true) in
    also_on_err (vec_capacity c.args.out.now < vec_len c.args.out.now + length (uvarint c.args.n)) c.from_residual.result full

pub returns-then-n-lt128-clause-ok : goal.returns-then-n-lt128-clause-ok
returns-then-n-lt128-clause-ok c = c.in_ok-push.ensures.items ∙ ap (λ (l : List ℕ). c.args.out.now.items ++ l) (sym (uvarint_one c.args.n c.if-n-lt128.true))
