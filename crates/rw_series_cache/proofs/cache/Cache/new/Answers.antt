use Rattle.std.proofs.Common.{◌≡◌, List, length, sym, ap, subst, arith}
use Rattle.rw_types.specs.declared.entry.Entry.{Entry}
use Rattle.rw_series_cache.specs.inner.Cached.{Judged}
use Rattle.rw_series_cache.specs.inner.Verdicts.{verdict_in, IsWithin}
use Rattle.rw_series_cache.proofs.CacheLemmas.{nothing_defined}
use Rattle.rw_series_cache.proofs.cache.Cache.new.Goals as goal

pub invariant_of-result : goal.invariant_of-result
invariant_of-result c = (
  nothing_defined c.new-2.result.choice c.new.result (verdict_in c.new-3.result) c.new-2.result.series c.new.ensures c.new-3.ensures.empty (ap (λ (j : Judged). j.series) c.new-2.ensures),
  let none : length c.new-2.result.series ≡ 0 = ap (λ (j : Judged). length j.series) c.new-2.ensures in omega arith,
  subst (λ (ds : List Entry). IsWithin c.new-3.result (length ds)) (sym c.new.ensures) c.new-3.ensures.within,
)
