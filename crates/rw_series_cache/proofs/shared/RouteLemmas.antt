-- What follows from what a router returned.
use Rattle.std.proofs.Common.{◌≡◌, ℕ, ◌+◌, ◌≤◌, ℤ, List, refl, sym, ap, ◌∙◌, arith}
use Rattle.rw_types.specs.declared.entry.Entry.{Entry}
use Rattle.rw_types.specs.declared.entry.Entry.TheVariants.{Def, Sample}
use Rattle.rw_ledger.specs.declared.ledger.Reason.{Reason}
use Rattle.rw_series_cache.specs.Fates.{Fate, Drops, Filters, Sends, fate}
use Rattle.rw_series_cache.specs.Routing.{Routing, Routes, RoutesAs}
use Rattle.rw_series_cache.specs.declared.router.Routed.TheVariants as routed
use Rattle.rw_series_cache.specs.declared.sample.RoutedSample.{RoutedSample}

-- an entry that was placed is counted once at most
pub placed_filtered : (router after : Routing) (before : List Entry) (pos : ℕ) (e : Entry) → Routes router before pos e after routed.Placed → after.filtered ≤ router.filtered + 1
placed_filtered router after before pos (Def reference l) is = let same = ap (λ (x : Routing). x.filtered) is.1 in omega arith
placed_filtered router after before pos (Sample reference t word) is = by_fate (fate router.cache.choice before reference t) is
  where
    by_fate : (f : Fate) → RoutesAs router before pos t word f after routed.Placed → after.filtered ≤ router.filtered + 1
    by_fate (Drops reason) is = absurd is
    by_fate Filters is = let more = ap (λ (x : Routing). x.filtered) is in omega arith
    by_fate (Sends l) is = absurd is

-- a sample that is to be dropped
pub told_dropped : (router after : Routing) (before : List Entry) (pos : ℕ) (e : Entry) (reason : Reason) → Routes router before pos e after (routed.Dropped reason)
    → (after ≡ router) × ((reference : ℕ) × (t : ℤ) × (word : ℕ) × (e ≡ Sample reference t word) × (fate router.cache.choice before reference t ≡ Drops reason))
told_dropped router after before pos (Def reference l) reason is = absurd (cc)
told_dropped router after before pos (Sample reference t word) reason is = by_fate (fate router.cache.choice before reference t) refl is
  where
    by_fate : (f : Fate) → fate router.cache.choice before reference t ≡ f → RoutesAs router before pos t word f after (routed.Dropped reason)
        → (after ≡ router) × ((r : ℕ) × (u : ℤ) × (w : ℕ) × (Sample reference t word ≡ Sample r u w) × (fate router.cache.choice before r u ≡ Drops reason))
    by_fate (Drops why) e is = (is.1, (reference, t, word, refl, e ∙ ap Drops (sym is.0)))
    by_fate Filters e is = absurd is
    by_fate (Sends l) e is = absurd is

-- one that is to be sent
pub told_sample : (router after : Routing) (before : List Entry) (pos : ℕ) (e : Entry) (s : RoutedSample) → Routes router before pos e after (routed.Sample s) → after ≡ router
told_sample router after before pos (Def reference l) s is = absurd (cc)
told_sample router after before pos (Sample reference t word) s is = by_fate (fate router.cache.choice before reference t) is
  where
    by_fate : (f : Fate) → RoutesAs router before pos t word f after (routed.Sample s) → after ≡ router
    by_fate (Drops why) is = absurd is
    by_fate Filters is = absurd is
    by_fate (Sends l) is = is.1
