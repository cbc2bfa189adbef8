-- What a shard that has stopped had taken and resolved of what it was put.
use Rattle.std.proofs.Common.{◌≡◌, ℕ, suc, ◌-◌, ◌≤◌, ◌==◌, true, true≢false, List, [], ◌∷◌, length, refl, sym, ap, ◌∙◌, subst, arith}
use Rattle.std.proofs.lemmas.Bool.{and_parts, eqb-true}
use Rattle.std.proofs.lemmas.List.{length-drop, length-map}
use Rattle.rw_types.specs.declared.place.Place.{Place}
use Rattle.rw_plain_queue.specs.Items.{places_in, samples_in}
use Rattle.rw_plain_queue.specs.declared.item.Item.{Item}
use Rattle.rw_plain_queue.specs.declared.item.Item.TheVariants.{Sample, Flush, End}
use Rattle.rw_worker.specs.Setups.{start_of}
use Rattle.rw_worker.specs.Steps.{after}
use Rattle.rw_worker.specs.Transcript.{Exchange}
use Rattle.rw_fleet.specs.Work.{IsWorked, is_compared, is_resolved, positions_in, put_of, taken_of}
use Rattle.rw_fleet.specs.declared.ends.Ends.{Ends}
use Rattle.rw_fleet.specs.declared.ends.Ends.TheVariants.{Compared, Apart}
use Rattle.rw_fleet.specs.declared.joined.StoppedShard.{StoppedShard}

-- if its ends were compared, it has taken all
pub same_items : (e : Ends) → is_compared e ≡ true → put_of e ≡ taken_of e
same_items (Compared w) h = refl
same_items (Apart f end) h = absurd (true≢false (sym h))

sample_count : (xs : List Item) → length (places_in xs) ≡ length (samples_in xs)
sample_count [] = refl
sample_count (Sample place t word labels ∷ xs) = ap suc (sample_count xs)
sample_count (Flush ∷ xs) = sample_count xs
sample_count (End kind ∷ xs) = sample_count xs

none_behind : (all resolved left : ℕ) → left ≡ all - resolved → left ≡ 0 → all ≤ resolved
none_behind all resolved left e h = omega arith

-- if it is resolved, it has resolved all
pub resolves-all : {T : Type 0} (tells : T → Type 0) (seen : T → List Exchange)
    (is_for : ℕ → ℕ → T → Type 0) (j : StoppedShard T) (w : IsWorked tells seen is_for j)
    → is_resolved j ≡ true → length (samples_in (put_of j.finished.ends))
    ≤ length (after (start_of j.worker.value) w.report.steps).core.resolved
resolves-all tells seen is_for j w h =
    subst (λ (n : ℕ). length (samples_in (put_of j.finished.ends)) ≤ n) w.report.counted
    (subst (λ (n : ℕ). n ≤ j.finished.resolved) same_length
    (none_behind (length (positions_in (put_of j.finished.ends))) j.finished.resolved
    (length j.abandoned.items) left (eqb-true (length j.abandoned.items) 0 none)))
  where
    same_length : length (positions_in (put_of j.finished.ends))
        ≡ length (samples_in (put_of j.finished.ends))
    same_length = length-map (places_in (put_of j.finished.ends)) (λ (p : Place). p.pos)
        ∙ sample_count (put_of j.finished.ends)

    left : length j.abandoned.items
        ≡ length (positions_in (put_of j.finished.ends)) - j.finished.resolved
    left = ap length w.abandoned
        ∙ length-drop j.finished.resolved (positions_in (put_of j.finished.ends))

    none : (length j.abandoned.items == 0) ≡ true
    none = (and_parts (is_compared j.finished.ends) (length j.abandoned.items == 0) h).1
