-- What is known of the series, with one entry more.
use Rattle.std.proofs.Common.{◌≡◌, ℕ, ℤ, ◌<◌, Bool, true, false, List, [], ◌∷◌, ◌++◌, length, refl, sym, ap, subst, ◌∙◌, ◌⊎◌, inl, inr, None, Result, Ok, Err, OnErr}
use Rattle.std.proofs.lemmas.Option.{slice_get_within}
use Rattle.std.specs.FinMap.{empty, insert}
use Rattle.rw_types.specs.Labels.{Labels, label_fault}
use Rattle.rw_types.specs.declared.entry.Entry.{Entry}
use Rattle.rw_types.specs.declared.label_fault.LabelFault.{LabelFault}
use Rattle.rw_types.specs.declared.entry.Entry.TheVariants.{Def, Sample}
use Rattle.rw_ledger.specs.declared.ledger.Reason.{Reason}
use Rattle.rw_relabel.specs.declared.choice.Choice.{Choice}
use Rattle.rw_series_cache.specs.Cached.{Taken}
use Rattle.rw_series_cache.specs.Known.{Standing, Unknown, Bad, Filtered, Kept, known}
use Rattle.rw_series_cache.specs.Numbers.{series_of}
use Rattle.rw_series_cache.specs.Rising.{rises, IsNoted}
use Rattle.rw_series_cache.proofs.shared.KnownLemmas.{known-definitions_of, series_of-definitions_of, definitions_of-definition, definitions_of-sample}
use Rattle.rw_series_cache.proofs.shared.RisingLemmas.{noted_at_first, noted_definition, noted_other, noted_falling, noted_rising}
use Rattle.rw_series_cache.specs.Fates.{Drops, Sends, kept_fate, fate_by, fate}
use Rattle.rw_series_cache.specs.Routing.{Knows, IsSentNext, TakesMemory}

-- nothing was placed
pub knows_none : (choice : Choice) (cache : Taken) → cache ≡ record { choice = choice; definitions = []; noted = empty } → Knows [] cache
knows_none choice cache is = subst (Knows []) (sym is) (record { defined = refl; noted = noted_at_first choice })

-- a reference stands for the same after all entries as after the definitions
pub known_before : (before : List Entry) (cache : Taken) (reference : ℕ) → Knows before cache → known cache.choice cache.definitions reference ≡ known cache.choice before reference
known_before before cache reference k =
    ap (λ ds. known cache.choice ds reference) (sym k.defined) ∙ known-definitions_of cache.choice before reference

-- memory runs out for a definition by what is known after all entries
pub takes_definition : {T E : Type 0} (r : Result T E) (before : List Entry) (cache : Taken) (reference : ℕ) (l : Labels) → Knows before cache
    → (label_fault cache.choice.names l ≡ None) ⊎ (known cache.choice cache.definitions reference ≡ Unknown) → OnErr r (TakesMemory cache.choice before (Def reference l))
takes_definition (Ok x) before cache reference l k h = tt
takes_definition (Err x) before cache reference l k h = elim h [
  | inl none ↦ inl none
  | inr unknown ↦ inr (sym (known_before before cache reference k) ∙ unknown)
]

-- a definition is known
pub knows_definition : (before : List Entry) (cache after : Taken) (reference : ℕ) (l : Labels) → Knows before cache
    → after ≡ record cache { definitions = cache.definitions ++ Def reference l ∷ [] } → Knows (before ++ Def reference l ∷ []) after
knows_definition before cache after reference l k is = subst (Knows (before ++ Def reference l ∷ [])) (sym is) (record {
  defined = definitions_of-definition before reference l ∙ ap (λ ds. ds ++ Def reference l ∷ []) k.defined;
  noted = noted_definition cache.choice before reference l cache.noted k.noted;
})

-- a sample that is not sent changes nothing
knows_other : (before : List Entry) (cache : Taken) (reference : ℕ) (t : ℤ) (word : ℕ) → IsNoted cache.choice (before ++ Sample reference t word ∷ []) cache.noted → Knows before cache
    → Knows (before ++ Sample reference t word ∷ []) cache
knows_other before cache reference t word noted k = record { defined = definitions_of-sample before reference t word ∙ k.defined; noted = noted }

pub knows_unknown : (before : List Entry) (cache : Taken) (reference : ℕ) (t : ℤ) (word : ℕ) → Unknown ≡ known cache.choice before reference → Knows before cache
    → Knows (before ++ Sample reference t word ∷ []) cache
knows_unknown before cache reference t word is k =
    knows_other before cache reference t word (noted_other cache.choice before reference t word cache.noted (λ l e. let apart : Unknown ≡ Kept l = is ∙ e in cc) k.noted) k

pub knows_bad : (before : List Entry) (cache : Taken) (reference : ℕ) (t : ℤ) (word : ℕ) (f : LabelFault) → Bad f ≡ known cache.choice before reference → Knows before cache
    → Knows (before ++ Sample reference t word ∷ []) cache
knows_bad before cache reference t word f is k =
    knows_other before cache reference t word (noted_other cache.choice before reference t word cache.noted (λ l e. let apart : Bad f ≡ Kept l = is ∙ e in cc) k.noted) k

pub knows_filtered : (before : List Entry) (cache : Taken) (reference : ℕ) (t : ℤ) (word : ℕ) → Filtered ≡ known cache.choice before reference → Knows before cache
    → Knows (before ++ Sample reference t word ∷ []) cache
knows_filtered before cache reference t word is k =
    knows_other before cache reference t word (noted_other cache.choice before reference t word cache.noted (λ l e. let apart : Filtered ≡ Kept l = is ∙ e in cc) k.noted) k

pub knows_falling : (before : List Entry) (cache : Taken) (reference : ℕ) (t : ℤ) (word : ℕ) (l : Labels) → Kept l ≡ known cache.choice before reference → rises cache.choice before l t ≡ false
    → Knows before cache → Knows (before ++ Sample reference t word ∷ []) cache
knows_falling before cache reference t word l is falls k =
    knows_other before cache reference t word (noted_falling cache.choice before reference t word l cache.noted (sym is) falls k.noted) k

kept_sends : (b : Bool) (l m : Labels) → kept_fate b l ≡ Sends m → (l ≡ m) × (b ≡ true)
kept_sends true l m e = (let same : Sends l ≡ Sends m = e in cc, refl)
kept_sends false l m e = absurd (cc)

-- a sample that is sent is of a kept series, and rises there
pub sent_kept : (choice : Choice) (before : List Entry) (reference : ℕ) (t : ℤ) (l : Labels) → fate choice before reference t ≡ Sends l
    → (known choice before reference ≡ Kept l) × (rises choice before l t ≡ true)
sent_kept choice before reference t l e = by_standing (known choice before reference) refl e
  where
    by_standing : (k : Standing) → known choice before reference ≡ k → fate_by choice before t k ≡ Sends l → (known choice before reference ≡ Kept l) × (rises choice before l t ≡ true)
    by_standing Unknown is e = absurd (cc)
    by_standing (Bad f) is e = absurd (cc)
    by_standing Filtered is e = absurd (cc)
    by_standing (Kept m) is e =
        let both = kept_sends (rises choice before m t) m l e in
        (is ∙ ap Kept both.0, ap (λ x. rises choice before x t) (sym both.0) ∙ both.1)

-- a sample that is sent is noted once it was put
pub knows_sent : (before : List Entry) (entry : Entry) (cache after : Taken) (series : ℕ) (t : ℤ) → Knows before cache → IsSentNext cache.choice before entry series t
    → after ≡ record cache { noted = insert cache.noted series t } → Knows (before ++ entry ∷ []) after
knows_sent before (Def reference l) cache after series t k next is = absurd next
knows_sent before (Sample reference u word) cache after series t k next is =
    let l = next.1.0 in
    let sent = sent_kept cache.choice before reference u l (ap (fate cache.choice before reference) next.0 ∙ next.1.1) in
    let noted = noted_rising cache.choice before reference u word l series cache.noted sent.0 next.1.2 sent.1 k.noted in
    subst (Knows (before ++ Sample reference u word ∷ [])) (sym is) (record {
      defined = definitions_of-sample before reference u word ∙ k.defined;
      noted = subst (λ v. IsNoted cache.choice (before ++ Sample reference u word ∷ []) (insert cache.noted series v)) next.0 noted;
    })

-- its series has been counted
pub sent_within : (before : List Entry) (entry : Entry) (cache : Taken) (series : ℕ) (t : ℤ) → Knows before cache → IsSentNext cache.choice before entry series t
    → series < length (series_of cache.choice cache.definitions)
sent_within before (Def reference l) cache series t k next = absurd next
sent_within before (Sample reference u word) cache series t k next =
    subst (λ (xs : List Labels). series < length xs) (sym (series_of-definitions_of cache.choice before) ∙ ap (series_of cache.choice) k.defined)
    (slice_get_within (series_of cache.choice before) series next.1.0 next.1.2.stands)

-- a sample that is dropped changes nothing
pub knows_dropped : (before : List Entry) (cache : Taken) (reference : ℕ) (t : ℤ) (word : ℕ) (reason : Reason) → fate cache.choice before reference t ≡ Drops reason → Knows before cache
    → Knows (before ++ Sample reference t word ∷ []) cache
knows_dropped before cache reference t word reason is k = by_standing (known cache.choice before reference) refl is
  where
    by_rising : (l : Labels) → known cache.choice before reference ≡ Kept l → (b : Bool) → rises cache.choice before l t ≡ b → kept_fate b l ≡ Drops reason → Knows (before ++ Sample reference t word ∷ []) cache
    by_rising l e true r is = absurd (cc)
    by_rising l e false r is = knows_falling before cache reference t word l (sym e) r k

    by_standing : (s : Standing) → known cache.choice before reference ≡ s → fate_by cache.choice before t s ≡ Drops reason → Knows (before ++ Sample reference t word ∷ []) cache
    by_standing Unknown e is = knows_unknown before cache reference t word (sym e) k
    by_standing (Bad f) e is = knows_bad before cache reference t word f (sym e) k
    by_standing Filtered e is = absurd (cc)
    by_standing (Kept l) e is = by_rising l e (rises cache.choice before l t) refl is
