-- The small history of lives is one of those that the law speaks of.
use Rattle.std.proofs.Common.{◌≡◌, ℕ, ℤ, pos, zero, suc, Bool, true, cond, List, [], ◌∷◌, ◌++◌, slice_get, Some, refl, sym, ap, ◌∙◌, subst}
use Rattle.std.proofs.lemmas.Option.{none-some, same_Some}
use Rattle.rw_wal_format.specs.Series.{samples_after}
use Rattle.rw_relabel.specs.Rules.{keeps}
use Rattle.rw_series_cache.specs.Points.{is_kept}
use Rattle.rw_shard_core.specs.declared.outcome.Outcome.TheVariants.{Complete}
use Rattle.rw_head.specs.Order.{Point}
use Rattle.rw_restarts.specs.Examples.{example_series, first, second, killed_run, second_run, whole, runs, limits, events, states}
use Rattle.rw_restarts.specs.LifeExamples.{choice, log, killed, complete, both}
use Rattle.rw_restarts.specs.Lives.{IsHistoryOf}
use Rattle.rw_restarts.specs.Owed.{owed_of, pairs_of, rising}
use Rattle.rw_restarts.specs.RunLives.{life_of, holding_of, IsReportedOver, AreReportedOver}
use Rattle.rw_restarts.specs.Runs.{SenderRun, SendsNext, acknowledged_in}
use Rattle.rw_restarts.proofs.ExampleLemmas.{itself, runs-are-over, receiver-is, no-gap}
use Rattle.rw_restarts.proofs.RunLifeLemmas.{are-lives, not_reported}

kept_is : is_kept choice example_series ≡ true
unfolding keeps
kept_is = refl

abbrev last_sample : List (ℕ × ℤ × ℕ)
last_sample = (2, pos 20, 2) ∷ []

samples_are : samples_after example_series [] log ≡ (1, pos 10, 1) ∷ last_sample
samples_are = ap (λ b. cond b ((1, pos 10, 1) ∷ cond b last_sample []) (cond b last_sample [])) itself

pub owed-is : owed_of choice log example_series ≡ first ∷ second ∷ []
owed-is = ap (λ b. rising (pairs_of (cond b (samples_after example_series [] log) []))) kept_is ∙ ap (λ ps. rising (pairs_of ps)) samples_are

whole_is : whole example_series ≡ first ∷ second ∷ []
whole_is = ap (λ b. cond b (first ∷ second ∷ []) []) itself

abbrev if_own : Bool → Point → List Point
if_own b p = cond b (p ∷ []) []

acknowledged_is : acknowledged_in example_series second_run.sent ≡ first ∷ second ∷ []
acknowledged_is = ap (λ b. (if_own b first ++ []) ++ ((if_own b second ++ []) ++ [])) itself

sends : (i : ℕ) (run : SenderRun) → slice_get runs i ≡ Some run → SendsNext example_series (owed_of choice log example_series) run
sends i run at = subst (λ ws. SendsNext example_series ws run) (whole_is ∙ sym owed-is) (runs-are-over example_series i run at)

killed-is : IsReportedOver choice log example_series killed
killed-is = record { sends = sends 0 killed_run refl; complete = λ end is. absurd (not_reported (Complete end) is) }

complete-is : IsReportedOver choice log example_series complete
complete-is = record { sends = sends 1 second_run refl; complete = λ end is never. acknowledged_is ∙ sym owed-is }

each : AreReportedOver choice log example_series both
each zero r at = subst (IsReportedOver choice log example_series) (same_Some killed r at) killed-is
each (suc zero) r at = subst (IsReportedOver choice log example_series) (same_Some complete r at) complete-is
each (suc (suc i)) r at = absurd (none-some r at)

pub lives-are : IsHistoryOf choice log example_series (life_of example_series killed ∷ life_of example_series complete ∷ []) events (λ (at : ℕ). holding_of example_series (states at))
lives-are = are-lives limits choice log example_series both events states receiver-is each (no-gap example_series)
