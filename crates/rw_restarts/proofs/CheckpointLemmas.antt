-- What comes after a checkpoint, and what the whole log owes.
use Rattle.std.proofs.Common.{◌≡◌, ℕ, ℤ, Bool, true, false, cond, List, [], ◌++◌, append-nil, refl, sym, ap, ◌∙◌, subst}
use Rattle.std.proofs.lemmas.List.{map-append}
use Rattle.std.proofs.lemmas.List.Elements.{filter-append}
use Rattle.rw_types.specs.Beginnings.{Begins}
use Rattle.rw_types.specs.Labels.{Labels}
use Rattle.rw_types.specs.Rising.{Rises}
use Rattle.rw_types.specs.declared.entry.Entry.{Entry}
use Rattle.rw_wal_format.specs.Series.{samples_after}
use Rattle.rw_kept_log.proofs.shared.AdditionLemmas.{samples_after-append}
use Rattle.rw_kept_log.proofs.shared.CheckpointLemmas.{rest-same}
use Rattle.rw_relabel.specs.declared.choice.Choice.{Choice}
use Rattle.rw_series_cache.specs.Points.{is_kept, kept_points}
use Rattle.rw_head.specs.Lists.{IsEarlier}
use Rattle.rw_head.specs.Order.{Point}
use Rattle.rw_restarts.specs.Owed.{pairs_of, rising_after, rising, owed_of, EndsWith, is_from, those_from}
use Rattle.rw_restarts.specs.Checkpoints.{IsCheckpointFor, IsInTime}
use Rattle.rw_restarts.proofs.OwedLemmas.{rising_after-append, Rises-rising_after, floor-end, all_from}

-- the samples of the log as it is read
pub whole-parts : (floor : ℤ) (full cp later : List Entry) (l : Labels) → IsCheckpointFor floor l full cp later
    → pairs_of (samples_after l [] (cp ++ later)) ≡ those_from floor (pairs_of (samples_after l [] full)) ++ pairs_of (samples_after l full later)
whole-parts floor full cp later l is =
    ap pairs_of (samples_after-append l [] cp later)
    ∙ map-append (λ (p : ℕ × ℤ × ℕ). (p.1, p.2)) (samples_after l [] cp) (samples_after l cp later)
    ∙ ap (λ ys. ys ++ pairs_of (samples_after l cp later)) is.samples
    ∙ ap (λ ys. those_from floor (pairs_of (samples_after l [] full)) ++ ys) (rest-same full cp later l is.labels)

-- ---- what is owed
-- the pairs of a kept label set, in two parts
two_parts : (choice : Choice) (xs ys : List Entry) (l : Labels) → is_kept choice l ≡ true → pairs_of (kept_points choice (xs ++ ys) l) ≡ pairs_of (samples_after l [] xs) ++ pairs_of (samples_after l xs ys)
two_parts choice xs ys l keep =
    ap (λ b. pairs_of (cond b (samples_after l [] (xs ++ ys)) [])) keep ∙ ap pairs_of (samples_after-append l [] xs ys)
    ∙ map-append (λ (p : ℕ × ℤ × ℕ). (p.1, p.2)) (samples_after l [] xs) (samples_after l xs ys)

no_points : (choice : Choice) (es : List Entry) (l : Labels) → is_kept choice l ≡ false → owed_of choice es l ≡ []
no_points choice es l drop = ap (λ b. rising (pairs_of (cond b (samples_after l [] es) []))) drop

pub owed-rises : (choice : Choice) (log : List Entry) (l : Labels) → Rises IsEarlier (owed_of choice log l)
owed-rises choice log l = Rises-rising_after [] (pairs_of (kept_points choice log l))

pub owed-longer : (choice : Choice) (log more : List Entry) (l : Labels) → Begins (owed_of choice log l) (owed_of choice (log ++ more) l)
owed-longer choice log more l = by_kept (is_kept choice l) refl
  where
    P : List Point
    P = pairs_of (samples_after l [] log)

    Q : List Point
    Q = pairs_of (samples_after l log more)

    by_kept : (b : Bool) → is_kept choice l ≡ b → Begins (owed_of choice log l) (owed_of choice (log ++ more) l)
    by_kept true keep =
        let one : owed_of choice log l ≡ rising P = ap (λ b. rising (pairs_of (cond b (samples_after l [] log) []))) keep in
        (rising_after P Q, ap rising (two_parts choice log more l keep) ∙ rising_after-append [] P Q ∙ ap (λ ys. ys ++ rising_after P Q) (sym one))
    by_kept false drop = ([], no_points choice (log ++ more) l drop ∙ sym (no_points choice log l drop) ∙ sym (append-nil (owed_of choice log l)))

pub owed-end : (choice : Choice) (floor : ℤ) (full cp later : List Entry) (l : Labels) → IsCheckpointFor floor l full cp later → IsInTime floor l full later
    → EndsWith (owed_of choice (full ++ later) l) (owed_of choice (cp ++ later) l)
owed-end choice floor full cp later l is in_time = by_kept (is_kept choice l) refl
  where
    P : List Point
    P = pairs_of (samples_after l [] full)

    Q : List Point
    Q = pairs_of (samples_after l full later)

    by_kept : (b : Bool) → is_kept choice l ≡ b → EndsWith (owed_of choice (full ++ later) l) (owed_of choice (cp ++ later) l)
    by_kept true keep =
        let whole : owed_of choice (full ++ later) l ≡ rising (P ++ Q) = ap rising (two_parts choice full later l keep) in
        let kept_parts : those_from floor (P ++ Q) ≡ those_from floor P ++ Q = filter-append (is_from floor) P Q ∙ ap (λ ys. those_from floor P ++ ys) (all_from floor Q in_time) in
        let window : owed_of choice (cp ++ later) l ≡ rising (those_from floor (P ++ Q)) =
        ap rising (two_parts choice cp later l keep ∙ ap (λ ys. ys ++ pairs_of (samples_after l cp later)) is.samples ∙ ap (λ ys. those_from floor P ++ ys) (rest-same full cp later l is.labels) ∙ sym kept_parts) in
        let end = floor-end floor (P ++ Q) in
        (end.0, whole ∙ end.1 ∙ ap (λ ys. end.0 ++ ys) (sym window))
    by_kept false drop = ([], no_points choice (full ++ later) l drop ∙ sym (no_points choice (cp ++ later) l drop))

-- and so, after some samples, a prefix of what a longer log owes
pub owed-part : (choice : Choice) (floor : ℤ) (full cp later more : List Entry) (l : Labels) → IsCheckpointFor floor l full cp later → IsInTime floor l full later
    → (earlier : List Point) × Begins (earlier ++ owed_of choice (cp ++ later) l) (owed_of choice ((full ++ later) ++ more) l)
owed-part choice floor full cp later more l is in_time =
    let end = owed-end choice floor full cp later l is in_time in
    (end.0, subst (λ ys. Begins ys (owed_of choice ((full ++ later) ++ more) l)) end.1 (owed-longer choice (full ++ later) more l))
