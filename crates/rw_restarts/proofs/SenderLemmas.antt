-- What a sender puts of a log is what the log owes.
use Rattle.std.proofs.Common.{◌≡◌, ℕ, ℤ, int_lt, Bool, true, false, true≢false, ◌&&◌, cond, List, [], ◌∷◌, ◌++◌, length, map, filter, append-nil, append_assoc, refl, sym, ap, ◌∙◌, subst}
use Rattle.std.proofs.lemmas.List.{map-append}
use Rattle.std.proofs.lemmas.List.Elements.{filter-append}
use Rattle.rw_types.proofs.shared.GatherLemmas.{gather-push}
use Rattle.rw_types.specs.Labels.{Labels}
use Rattle.rw_types.specs.LabelOrder.{labels_eq}
use Rattle.rw_types.proofs.shared.OrderLemmas.{same_if_equal, equal_if_same}
use Rattle.rw_types.specs.declared.entry.Entry.{Entry}
use Rattle.rw_types.specs.declared.entry.Entry.TheVariants.{Def, Sample}
use Rattle.rw_relabel.specs.declared.choice.Choice.{Choice}
use Rattle.rw_series_cache.specs.Fates.{fate_by, kept_fate}
use Rattle.rw_series_cache.specs.Known.{Standing, Unknown, Bad, Filtered, Kept, known}
use Rattle.rw_series_cache.specs.Points.{is_kept, kept_points}
use Rattle.rw_series_cache.specs.Rising.{is_after_all, rises}
use Rattle.rw_series_cache.proofs.shared.PointLemmas.{definition_gives_none, sample_is_kept, sample_is_other}
use Rattle.rw_sender.specs.Logs.{Sent, kept_sample, sent, sent_of, sent_by_fate}
use Rattle.rw_head.specs.Order.{Point}
use Rattle.rw_restarts.specs.Owed.{pairs_of, is_after_each, rising, owed_of}
use Rattle.rw_plain_queue.specs.Items.{Placed}
use Rattle.rw_sender.specs.Placement.{as_sent}
use Rattle.rw_restarts.specs.Workers.{samples_in_batch}
use Rattle.rw_restarts.specs.Senders.{samples_sent}

abbrev Logged : Type 0
Logged = List (ℕ × ℤ × ℕ)

-- one more sample is owed if it is later than all before it
abbrev OwesNext : Type 0
OwesNext = (ps : List Point) (p : Point) → rising (ps ++ p ∷ []) ≡ rising ps ++ cond (is_after_each p.0 ps) (p ∷ []) []

same_after : (t : ℤ) (ps : Logged) → is_after_all t ps ≡ is_after_each t (pairs_of ps)
same_after t [] = refl
same_after t (p ∷ ps) = ap (λ b. int_lt p.1 t && b) (same_after t ps)

pub samples_sent-append : (l : Labels) (xs ys : List Sent) → samples_sent l (xs ++ ys) ≡ samples_sent l xs ++ samples_sent l ys
samples_sent-append l xs ys =
    ap (map (λ (s : Sent). (s.t, s.word))) (filter-append (λ (s : Sent). labels_eq l s.labels) xs ys)
    ∙ map-append (λ (s : Sent). (s.t, s.word)) (filter (λ (s : Sent). labels_eq l s.labels) xs) (filter (λ (s : Sent). labels_eq l s.labels) ys)

kept_is : (m l : Labels) → Kept m ≡ Kept l → m ≡ l
kept_is m l e = cc (e)

module _ (owes_next : OwesNext) (choice : Choice) (l : Labels) where
  -- the samples of the label set that an entry brings to be sent
  abbrev brought : List Entry → ℕ → ℤ → ℕ → Standing → List Point
  brought es r t w s = samples_sent l (sent_by_fate choice es t w (fate_by choice es t s))

  -- ---- what an entry adds
  same_owed : (es : List Entry) (e : Entry) → kept_points choice (es ++ e ∷ []) l ≡ kept_points choice es l → owed_of choice (es ++ e ∷ []) l ≡ owed_of choice es l ++ []
  same_owed es e same = ap (λ ps. rising (pairs_of ps)) same ∙ sym (append-nil (owed_of choice es l))

  rises_is : (es : List Entry) (t : ℤ) → rises choice es l t ≡ is_after_each t (pairs_of (kept_points choice es l))
  unfolding rises
  rises_is es t = same_after t (kept_points choice es l)

  own_sample : (es : List Entry) (r : ℕ) (t : ℤ) (w : ℕ) → known choice es r ≡ Kept l
      → owed_of choice (es ++ Sample r t w ∷ []) l ≡ owed_of choice es l ++ cond (rises choice es l t) ((t, w) ∷ []) []
  own_sample es r t w e =
      ap (λ ps. rising (pairs_of ps)) (sample_is_kept choice es l r t w e)
      ∙ ap rising (map-append (λ (p : ℕ × ℤ × ℕ). (p.1, p.2)) (kept_points choice es l) ((length es, t, w) ∷ []))
      ∙ owes_next (pairs_of (kept_points choice es l)) (t, w)
      ∙ ap (λ b. owed_of choice es l ++ cond b ((t, w) ∷ []) []) (sym (rises_is es t))

  own_brought : (es : List Entry) (r : ℕ) (t : ℤ) (w : ℕ) (b : Bool) → samples_sent l (sent_by_fate choice es t w (kept_fate b l)) ≡ cond b ((t, w) ∷ []) []
  own_brought es r t w true = ap (λ b. map (λ (s : Sent). (s.t, s.word)) (cond b (kept_sample choice es t w l ∷ []) [])) (equal_if_same l l refl)
  own_brought es r t w false = refl

  other_brought : (es : List Entry) (t : ℤ) (w : ℕ) (m : Labels) (b : Bool) → labels_eq l m ≡ false → samples_sent l (sent_by_fate choice es t w (kept_fate b m)) ≡ []
  other_brought es t w m true other = ap (λ b. map (λ (s : Sent). (s.t, s.word)) (cond b (kept_sample choice es t w m ∷ []) [])) other
  other_brought es t w m false other = refl

  kept_step : (es : List Entry) (r : ℕ) (t : ℤ) (w : ℕ) (m : Labels) → known choice es r ≡ Kept m → (b : Bool) → labels_eq l m ≡ b
      → owed_of choice (es ++ Sample r t w ∷ []) l ≡ owed_of choice es l ++ brought es r t w (Kept m)
  kept_step es r t w m e true here =
      let same : m ≡ l = sym (same_if_equal l m here) in
      own_sample es r t w (e ∙ ap Kept same)
      ∙ ap (λ ys. owed_of choice es l ++ ys) (sym (own_brought es r t w (rises choice es l t)))
      ∙ ap (λ k. owed_of choice es l ++ brought es r t w (Kept k)) (sym same)
  kept_step es r t w m e false other =
      same_owed es (Sample r t w) (sample_is_other choice es l r t w (λ own. absurd (true≢false (sym (equal_if_same l m (sym (kept_is m l (sym e ∙ own)))) ∙ other))))
      ∙ ap (λ ys. owed_of choice es l ++ ys) (sym (other_brought es t w m (rises choice es m t) other))

  sample_step : (es : List Entry) (r : ℕ) (t : ℤ) (w : ℕ) (s : Standing) → known choice es r ≡ s
      → owed_of choice (es ++ Sample r t w ∷ []) l ≡ owed_of choice es l ++ brought es r t w s
  sample_step es r t w (Kept m) e = kept_step es r t w m e (labels_eq l m) refl
  sample_step es r t w Unknown e = same_owed es (Sample r t w) (sample_is_other choice es l r t w (λ own. no_kept_unknown (sym e ∙ own)))
    where
      no_kept_unknown : Unknown ≡ Kept l → ⊥
      no_kept_unknown e = cc (e)
  sample_step es r t w (Bad f) e = same_owed es (Sample r t w) (sample_is_other choice es l r t w (λ own. no_kept_bad (sym e ∙ own)))
    where
      no_kept_bad : Bad f ≡ Kept l → ⊥
      no_kept_bad e = cc (e)
  sample_step es r t w Filtered e = same_owed es (Sample r t w) (sample_is_other choice es l r t w (λ own. no_kept_filtered (sym e ∙ own)))
    where
      no_kept_filtered : Filtered ≡ Kept l → ⊥
      no_kept_filtered e = cc (e)

  entry_step : (es : List Entry) (e : Entry) → owed_of choice (es ++ e ∷ []) l ≡ owed_of choice es l ++ samples_sent l (sent_of choice es e)
  entry_step es (Def r m) = same_owed es (Def r m) (definition_gives_none choice es l m r)
  entry_step es (Sample r t w) = sample_step es r t w (known choice es r) refl

  entries_from : (before es : List Entry) → samples_sent l (sent choice before) ≡ owed_of choice before l → samples_sent l (sent choice (before ++ es)) ≡ owed_of choice (before ++ es) l
  entries_from before [] h = ap (λ b. samples_sent l (sent choice b)) (append-nil before) ∙ h ∙ ap (λ b. owed_of choice b l) (sym (append-nil before))
  entries_from before (e ∷ es) h =
      let one : samples_sent l (sent choice (before ++ e ∷ [])) ≡ owed_of choice (before ++ e ∷ []) l =
      ap (samples_sent l) (gather-push (sent_of choice) before e) ∙ samples_sent-append l (sent choice before) (sent_of choice before e)
      ∙ ap (λ ys. ys ++ samples_sent l (sent_of choice before e)) h ∙ sym (entry_step before e) in
      subst (λ b. samples_sent l (sent choice b) ≡ owed_of choice b l) (append_assoc before (e ∷ []) es) (entries_from (before ++ e ∷ []) es one)

none_owed : (b : Bool) → rising (pairs_of (cond b [] [])) ≡ []
none_owed true = refl
none_owed false = refl

pub sent-is-owed : OwesNext → (choice : Choice) (log : List Entry) (l : Labels) → samples_sent l (sent choice log) ≡ owed_of choice log l
sent-is-owed owes_next choice log l = entries_from owes_next choice l [] log (sym (none_owed (is_kept choice l)))

-- ---- the samples of a queue
pub same_samples : (l : Labels) (ps : List Placed) → samples_in_batch l ps ≡ samples_sent l (map as_sent ps)
same_samples l [] = refl
same_samples l (p ∷ ps) = by_label (labels_eq l p.labels) (same_samples l ps)
  where
    placed_rest : List Placed
    placed_rest = filter (λ (x : Placed). labels_eq l x.labels) ps

    sent_rest : List Sent
    sent_rest = filter (λ (s : Sent). labels_eq l s.labels) (map as_sent ps)

    by_label : (b : Bool) → samples_in_batch l ps ≡ samples_sent l (map as_sent ps)
        → map {B = Point} (λ (x : Placed). (x.t, x.word)) (cond b (p ∷ placed_rest) placed_rest)
        ≡ map {B = Point} (λ (s : Sent). (s.t, s.word)) (cond b (as_sent p ∷ sent_rest) sent_rest)
    by_label true h = ap (λ ys. (p.t, p.word) ∷ ys) h
    by_label false h = h
