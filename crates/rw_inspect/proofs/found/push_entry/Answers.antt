use Rattle.std.proofs.Common.{rules, ◌≡◌, ◌++◌, ℤ, FitsSigned, w64, subst, to_z-of_z}
use Rattle.std.specs.Result.{OnOk}
use Rattle.rw_series_cache.specs.Known.{known}
use Rattle.rw_inspect.specs.Finding.{any_names, sample_text}
use Rattle.rw_inspect.proofs.FindingLemmas.{sample_said}
use Rattle.rw_inspect.proofs.found.push_entry.Goals as goal

pub returns-in-Sample : goal.returns-in-Sample
returns-in-Sample c before h =
    let fits : FitsSigned w64 c.in-Sample.t = search rules in
    let said = sample_said _ _ _ _ _ _ _ _ before c.requires (c.look.ensures.log before h) c.push_sample.ensures in
    rw c.in-Sample.is
    (subst (λ (z : ℤ). OnOk c.push_sample.result (c.push_sample.new.out.items ≡ c.args.out.now.items ++ sample_text c.in-Sample.reference z c.in-Sample.word (known any_names before c.in-Sample.reference)))
    (to_z-of_z {w = w64} {z = c.in-Sample.t} fits) said)
