-- What a second receiver holds of the log of a first one.
use Rattle.std.proofs.Common.{◌≡◌, ℕ, Bool, true, false, cond, List, [], ◌∷◌, ◌++◌, length, map, slice_get, Some, refl, sym, ap, ◌∙◌, subst}
use Rattle.std.specs.Ordering.{nat_cmp}
use Rattle.std.specs.FinMap.{FinMap}
use Rattle.rw_types.specs.Beginnings.{Begins}
use Rattle.rw_types.specs.Labels.{Labels}
use Rattle.rw_types.specs.Rising.{Rises}
use Rattle.rw_types.specs.declared.entry.Entry.{Entry}
use Rattle.rw_types.proofs.shared.BeginningLemmas.{begins_itself, begins_twice}
use Rattle.rw_types.proofs.shared.RisingLemmas.{Rises-left}
use Rattle.rw_wal_format.specs.Pieces.{page_size}
use Rattle.rw_wal_format.specs.Series.{samples_after}
use Rattle.rw_relabel.specs.declared.choice.Choice.{Choice}
use Rattle.rw_series_cache.specs.Points.{is_kept, kept_points}
use Rattle.rw_kept_log.specs.Journal.{Segments}
use Rattle.rw_kept_log.specs.Logs.{entries_of}
use Rattle.rw_kept_log.specs.Additions.{samples_of_labels}
use Rattle.rw_head.specs.Growth.{EachRises}
use Rattle.rw_head.specs.Lists.{IsEarlier}
use Rattle.rw_head.specs.Order.{Point}
use Rattle.rw_head.specs.Store.{Store, list_of}
use Rattle.rw_head.specs.Verdicts.{LabelLimits}
use Rattle.rw_kept_head.specs.Kept.{SaysWhat, LiesBetween}
use Rattle.rw_restarts.specs.Owed.{pairs_of, rising, owed_of}
use Rattle.rw_restarts.specs.Runs.{SenderRun, acknowledged_in}
use Rattle.rw_restarts.specs.Receivers.{ReceiverEvent, ReceiverState, IsReceiverOf, HasNoGap}
use Rattle.rw_restarts.specs.Logs.{AreRunsOverLog, IsRunOverPart, HoldsLog}
use Rattle.rw_ledger.specs.declared.ledger.Reason.{Reason}
use Rattle.rw_machine.specs.Promises.{owed, pair_of}
use Rattle.rw_restarts.proofs.LogLemmas.{part-is-run}
use Rattle.rw_restarts.specs.Relay.{ReadsSegments, AllReadSegments, IsRelayed, IsRelayedLess}

-- a list that rises is what rises of it
abbrev RisesAsItIs : Type 0
RisesAsItIs = (ps : List Point) → Rises IsEarlier ps → rising ps ≡ ps

Rises-prefix : (xs ys : List Point) → Begins xs ys → Rises IsEarlier ys → Rises IsEarlier xs
Rises-prefix xs ys b h = Rises-left IsEarlier xs b.0 (subst (Rises IsEarlier) b.1 h)

-- of two lists that are prefixes of each other
no_more : (xs more rest : List Point) → xs ≡ (xs ++ more) ++ rest → xs ++ more ≡ xs
no_more [] [] rest e = refl
no_more [] (y ∷ more) rest e = absurd cc
no_more (x ∷ xs) more rest e = ap (λ ys. x ∷ ys) (no_more xs more rest (tail e))
  where
    tail : x ∷ xs ≡ x ∷ ((xs ++ more) ++ rest) → xs ≡ (xs ++ more) ++ rest
    tail e = cc (e)

Begins-both : (xs ys : List Point) → Begins xs ys → Begins ys xs → ys ≡ xs
Begins-both xs ys a b = a.1 ∙ no_more xs a.0 b.0 (b.1 ∙ ap (λ zs. zs ++ b.0) a.1)

pub no_samples : (xs : List Point) → Begins xs [] → xs ≡ []
no_samples [] b = refl
no_samples (x ∷ xs) b = absurd (no_cons b.1)
  where
    no_cons : [] ≡ x ∷ (xs ++ b.0) → ⊥
    no_cons e = cc (e)

-- ---- what entries owe whose samples rise
owed-kept : RisesAsItIs → (choice : Choice) (es : List Entry) (l : Labels) → is_kept choice l ≡ true → Rises IsEarlier (samples_of_labels es l) → owed_of choice es l ≡ samples_of_labels es l
owed-kept as_it_is choice es l keep up = ap (λ b. rising (pairs_of (cond b (samples_after l [] es) []))) keep ∙ as_it_is (samples_of_labels es l) up

owed-dropped : (choice : Choice) (es : List Entry) (l : Labels) → is_kept choice l ≡ false → owed_of choice es l ≡ []
owed-dropped choice es l drop = ap (λ b. rising (pairs_of (cond b (samples_after l [] es) []))) drop

module _ (as_it_is : RisesAsItIs) (choice : Choice) (first : Store) (segments : Segments) (up : EachRises first) (says : SaysWhat segments first) where
  abbrev log : List Entry
  log = entries_of page_size segments

  log_rises : (l : Labels) → Rises IsEarlier (samples_of_labels log l)
  log_rises l = subst (Rises IsEarlier) (says l) (up l)

  owed_first : (l : Labels) → is_kept choice l ≡ true → owed_of choice log l ≡ list_of first l
  owed_first l keep = owed-kept as_it_is choice log l keep (log_rises l) ∙ sym (says l)

  -- a prefix of the samples owes a prefix
  owed_prefix : (es : List Entry) (l : Labels) → Begins (samples_of_labels es l) (samples_of_labels log l) → Begins (owed_of choice es l) (owed_of choice log l)
  owed_prefix es l b = by_kept (is_kept choice l) refl
    where
      by_kept : (k : Bool) → is_kept choice l ≡ k → Begins (owed_of choice es l) (owed_of choice log l)
      by_kept true keep =
          subst (λ ys. Begins ys (owed_of choice log l)) (sym (owed-kept as_it_is choice es l keep (Rises-prefix (samples_of_labels es l) (samples_of_labels log l) b (log_rises l))))
          (subst (Begins (samples_of_labels es l)) (sym (owed-kept as_it_is choice log l keep (log_rises l))) b)
      by_kept false drop =
          subst (λ ys. Begins ys (owed_of choice log l)) (sym (owed-dropped choice es l drop)) (owed_of choice log l, refl)

  run_over : (run : SenderRun) → ReadsSegments choice segments run → IsRunOverPart choice log run
  run_over run r = record {
    read = r.read;
    part = λ l. subst (λ ys. Begins (ys ++ owed_of choice r.read l) (owed_of choice log l)) (sym (r.whole l)) (owed_prefix r.read l (r.prefix l));
    sends = r.sends;
  }

  pub runs_over : (runs : List SenderRun) → AllReadSegments choice segments runs → (l : Labels) → AreRunsOverLog choice log runs l
  runs_over runs read l i run is = part-is-run choice log run (run_over run (read i run is)) l

  module _ (runs : List SenderRun) (read : AllReadSegments choice segments runs) (l : Labels) (held : ReceiverState) (h : HoldsLog choice log runs held l) where
    in_first : Begins (list_of held.store l) (list_of first l)
    in_first = by_kept (is_kept choice l) refl
      where
        by_kept : (k : Bool) → is_kept choice l ≡ k → Begins (list_of held.store l) (list_of first l)
        by_kept true keep = subst (Begins (list_of held.store l)) (owed_first l keep) h.prefix.in_order
        by_kept false drop = begins_twice (list_of held.store l) [] (list_of first l) (subst (Begins (list_of held.store l)) (owed-dropped choice log l drop) h.prefix.in_order) (list_of first l, refl)

    -- what was acknowledged in a run is held
    entries_held : (i : ℕ) (run : SenderRun) (es : List Entry) → slice_get runs i ≡ Some run → is_kept choice l ≡ true
        → Begins (samples_of_labels es l) (samples_of_labels log l) → acknowledged_in l run.sent ≡ owed_of choice es l → Begins (samples_of_labels es l) (list_of held.store l)
    entries_held i run es is keep b all =
        let none : run.earlier l ≡ [] = (read i run is).whole l in
        let owes : owed_of choice es l ≡ samples_of_labels es l = owed-kept as_it_is choice es l keep (Rises-prefix (samples_of_labels es l) (samples_of_labels log l) b (log_rises l)) in
        let base : Begins (run.earlier l) (list_of held.acknowledged l) = subst (λ ys. Begins ys (list_of held.acknowledged l)) (sym none) (list_of held.acknowledged l, refl) in
        subst (λ ys. Begins ys (list_of held.store l)) (ap (λ ys. ys ++ owed_of choice es l) none ∙ owes) (h.complete i run es is base all)

    pub relayed : IsRelayed choice segments runs first held.store l
    relayed = record {
      prefix = in_first;
      dropped = λ drop. no_samples (list_of held.store l) (subst (Begins (list_of held.store l)) (owed-dropped choice log l drop) h.prefix.in_order);
      complete = entries_held;
      whole = λ i run is keep all.
          Begins-both (list_of first l) (list_of held.store l)
          (subst (λ ys. Begins ys (list_of held.store l)) (sym (says l)) (entries_held i run log is keep (begins_itself (samples_of_labels log l)) all)) in_first;
    }

-- ---- the law
pub relay-holds : RisesAsItIs
    → ((limits : LabelLimits) (choice : Choice) (log : List Entry) (runs : List SenderRun) (events : List ReceiverEvent) (states : ℕ → ReceiverState) (l : Labels)
    → AreRunsOverLog choice log runs l → IsReceiverOf limits runs events states → HasNoGap runs events states l → HoldsLog choice log runs (states (length events)) l)
    → (limits : LabelLimits) (choice : Choice) (first : Store) (segments : Segments) (runs : List SenderRun) (events : List ReceiverEvent) (states : ℕ → ReceiverState) (l : Labels)
    → EachRises first → SaysWhat segments first → AllReadSegments choice segments runs → IsReceiverOf limits runs events states → HasNoGap runs events states l
    → IsRelayed choice segments runs first (states (length events)).store l
relay-holds as_it_is holds_log limits choice first segments runs events states l up says read r no_gap =
    relayed as_it_is choice first segments up says runs read l (states (length events))
    (holds_log limits choice (entries_of page_size segments) runs events states l (runs_over as_it_is choice first segments up says runs read l) r no_gap)

-- ---- a log that goes on
pub read-of-more : (choice : Choice) (segments later : Segments) (run : SenderRun)
    → ((l : Labels) → Begins (samples_of_labels (entries_of page_size segments) l) (samples_of_labels (entries_of page_size later) l))
    → ReadsSegments choice segments run → ReadsSegments choice later run
read-of-more choice segments later run more r = record {
  read = r.read;
  prefix = λ l. begins_twice (samples_of_labels r.read l) (samples_of_labels (entries_of page_size segments) l) (samples_of_labels (entries_of page_size later) l) (r.prefix l) (more l);
  whole = r.whole;
  sends = r.sends;
}

pub read-when-grown : (choice : Choice) (old new : Store) (segments later : Segments) (run : SenderRun) → SaysWhat segments old → SaysWhat later new
    → ((l : Labels) → Begins (list_of old l) (list_of new l)) → ReadsSegments choice segments run → ReadsSegments choice later run
read-when-grown choice old new segments later run says says_more more =
    read-of-more choice segments later run (λ l. subst (Begins (samples_of_labels (entries_of page_size segments) l)) (says_more l) (subst (λ ys. Begins ys (list_of new l)) (says l) (more l)))

pub read-after-crash : (choice : Choice) (old new : Store) (segments left : Segments) (run : SenderRun) → SaysWhat segments old → LiesBetween old new left
    → ReadsSegments choice segments run → ReadsSegments choice left run
read-after-crash choice old new segments left run says between =
    read-of-more choice segments left run (λ l. subst (λ ys. Begins ys (samples_of_labels (entries_of page_size left) l)) (says l) (between l).0)

-- ---- one run that reports what it lacks
pub relayed-less : (choice : Choice) (names : FinMap nat_cmp Reason) (read : List Entry) (first second : Store) (segments : Segments) (l : Labels) → SaysWhat segments first
    → Begins (samples_of_labels read l) (samples_of_labels (entries_of page_size segments) l) → is_kept choice l ≡ true → list_of second l ≡ map pair_of (owed names (kept_points choice read l))
    → IsRelayedLess names read first second l
relayed-less choice names read first second segments l says b keep holds = record {
  prefix = subst (Begins (samples_of_labels read l)) (sym (says l)) b;
  less = record {
    logged = samples_after l [] read;
    first_is = refl;
    second_is = holds ∙ ap (λ k. map pair_of (owed names (cond k (samples_after l [] read) []))) keep;
  };
}
