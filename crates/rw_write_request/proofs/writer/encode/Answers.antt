use Rattle.std.proofs.Common.{◌≡◌, ◌<◌, ◌^◌, ℕ, List, length, ap, subst, sym, arith, rules}
use Rattle.std.specs.List.{AllByRecursion}
use Rattle.rw_write_request.specs.Canon.{canon}
use Rattle.rw_write_request.specs.Spells.{Spells}
use Rattle.rw_write_request.specs.Valid.{IsSeries}
use Rattle.rw_write_request.proofs.shared.Spelled.{canon-spelled}
use Rattle.rw_write_request.proofs.writer.encode.Goals as goal

pub returns-clause-again : goal.returns-clause-again
returns-clause-again c =
    let written : c.put_all_series.new.out.items ≡ canon c.args.message.now = search rules in
    let valid : AllByRecursion IsSeries c.args.message.now = search (rules, c.put_all_series.ensures.valid) in
    let short : length (canon c.args.message.now) < 2 ^ 64 = omega (arith, ap length written, c.put_all_series.new.out.ok.0, c.put_all_series.new.out.ok.1, c.put_all_series.new.out.small) in
    subst (λ (bytes : List ℕ). Spells bytes c.args.message.now) (sym written) (canon-spelled c.args.message.now (record { series = valid; short = short }))
