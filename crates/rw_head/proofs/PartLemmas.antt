-- A series that is staged a part of its samples at a time.
use Rattle.std.proofs.Common.{◌≡◌, ◌≢◌, ℕ, List, [], ◌∷◌, ◌++◌, length, Option, Some, None, Result, Ok, Err, refl, sym, ◌∙◌, ap, subst, arith}
use Rattle.std.proofs.lemmas.List.{map-append}
use Rattle.rw_types.specs.Labels.{Labels}
use Rattle.rw_types.proofs.shared.OrderLemmas.{equal_if_same}
use Rattle.rw_write_request.specs.Message.{Sample, TimeSeries}
use Rattle.rw_write_request.specs.Parts.{series_on}
use Rattle.rw_write_request.specs.Read.{fields_in, read_series}
use Rattle.rw_write_request.specs.declared.fault.WireFault.{WireFault}
use Rattle.rw_write_request.specs.declared.fault.WireFault.TheVariants.{OutOfMemory}
use Rattle.rw_head.specs.declared.verdict.Verdict.{Verdict}
use Rattle.rw_head.specs.declared.verdict.Verdict.TheVariants.{NoMemory}
use Rattle.rw_head.specs.Bodies.{verdict_of}
use Rattle.rw_head.specs.inner.Bodies.{Takes, Refuses}
use Rattle.rw_head.specs.Head.{status_of}
use Rattle.rw_head.specs.Order.{Point, point_of, points, accept}
use Rattle.rw_head.specs.Store.{Store, list_of, with_list}
use Rattle.rw_head.specs.Verdicts.{LabelLimits, refusal, accepted, taken_unless, taken}
use Rattle.rw_head.proofs.shared.BodyLemmas.{refuses, faulty}
use Rattle.rw_head.proofs.shared.OrderLemmas.{accept-none}
use Rattle.rw_head.proofs.shared.OrderRule.{accept-append}
use Rattle.rw_head.proofs.shared.StoreLemmas.{list_of-with_list, with_list-twice}

-- ---- samples in two parts
accept-parts : (o : Option (List Point)) (p q : List Sample) → accept o (points (p ++ q)) ≡ accept (accept o (points p)) (points q)
accept-parts o p q = ap (accept o) (map-append point_of p q) ∙ accept-append o (points p) (points q)

list_of-own : (l : Labels) (xs : List Point) (s : Store) → list_of (with_list l xs s) l ≡ xs
list_of-own l xs s = let own = equal_if_same l l refl in list_of-with_list l xs s l ∙ rw own refl

accepted-twice : (l : Labels) (xs : List Point) (s : Store) (o : Option (List Point)) → accepted l (with_list l xs s) o ≡ accepted l s o
accepted-twice l xs s None = refl
accepted-twice l xs s (Some ys) = ap (λ (t : Store). Ok t) (with_list-twice l xs ys s)

accepted-more : (l : Labels) (q : List Point) (s next : Store) (o : Option (List Point)) → accepted l s o ≡ Ok next → accepted l s (accept o q) ≡ accepted l next (accept (Some (list_of next l)) q)
accepted-more l q s next None e = absurd cc
accepted-more l q s next (Some xs) e =
    let same : with_list l xs s ≡ next = cc in
    subst (λ (t : Store). accepted l s (accept (Some xs) q) ≡ accepted l t (accept (Some (list_of t l)) q)) same
    (sym (ap (λ (ys : List Point). accepted l (with_list l xs s) (accept (Some ys) q)) (list_of-own l xs s) ∙ accepted-twice l xs s (accept (Some xs) q)))

unless-more : (l : Labels) (p q : List Sample) (s next : Store) (o : Option Verdict) → taken_unless o s (record { labels = l; samples = p }) ≡ Ok next
    → taken_unless o s (record { labels = l; samples = p ++ q }) ≡ taken_unless o next (record { labels = l; samples = q })
unless-more l p q s next (Some v) e = absurd cc
unless-more l p q s next None e = ap (accepted l s) (accept-parts (Some (list_of s l)) p q) ∙ accepted-more l (points q) s next (accept (Some (list_of s l)) (points p)) e

-- what is taken in two parts is taken at once
pub taken-more : (limits : LabelLimits) (l : Labels) (p q : List Sample) (s next : Store) → taken limits s (record { labels = l; samples = p }) ≡ Ok next
    → taken limits s (record { labels = l; samples = p ++ q }) ≡ taken limits next (record { labels = l; samples = q })
taken-more limits l p q s next e = unless-more l p q s next (refusal limits l) e

accepted-bad : (l : Labels) (q : List Point) (s : Store) (o : Option (List Point)) (v : Verdict) → accepted l s o ≡ Err v → accepted l s (accept o q) ≡ Err v
accepted-bad l q s None v e = ap (accepted l s) (accept-none q) ∙ e
accepted-bad l q s (Some xs) v e = absurd cc

unless-bad : (l : Labels) (p q : List Sample) (s : Store) (o : Option Verdict) (v : Verdict) → taken_unless o s (record { labels = l; samples = p }) ≡ Err v → taken_unless o s (record { labels = l; samples = p ++ q }) ≡ Err v
unless-bad l p q s (Some w) v e = e
unless-bad l p q s None v e = ap (accepted l s) (accept-parts (Some (list_of s l)) p q) ∙ accepted-bad l (points q) s (accept (Some (list_of s l)) (points p)) v e

-- and what is refused stays refused, whatever follows
pub taken-bad : (limits : LabelLimits) (l : Labels) (p q : List Sample) (s : Store) (v : Verdict) → taken limits s (record { labels = l; samples = p }) ≡ Err v → taken limits s (record { labels = l; samples = p ++ q }) ≡ Err v
taken-bad limits l p q s v e = unless-bad l p q s (refusal limits l) v e

-- ---- a series of which a part was staged, and the rest is still to be read
pub record HasParts (limits : LabelLimits) (first store : Store) (bytes rest : List ℕ) (names : Labels) : Type 0 where
  pub whole : TimeSeries
  pub is : read_series bytes ≡ Ok whole
  pub named : whole.labels ≡ names
  pub labels : Labels
  pub samples : List Sample
  pub reads : series_on (record { labels = labels; samples = samples }) rest ≡ Ok whole
  pub takes : taken limits first (record { labels = whole.labels; samples = samples }) ≡ Ok store

pub labels_taken : (limits : LabelLimits) (first store : Store) (bytes : List ℕ) (names : Labels) (samples : List Sample) → read_series bytes ≡ Ok (record { labels = names; samples = samples })
    → taken limits first (record { labels = names; samples = [] }) ≡ Ok store → HasParts limits first store bytes bytes names
labels_taken limits first store bytes names samples is e = record { whole = record { labels = names; samples = samples }; is = is; named = refl; labels = []; samples = []; reads = is; takes = e }

-- the next samples, with what is left after them
abbrev Next : List ℕ → List ℕ → List Sample → Type 0
Next rest after part = (before whole : TimeSeries) → series_on before rest ≡ Ok whole → (labels : Labels) × (series_on (record { labels = labels; samples = before.samples ++ part }) after ≡ Ok whole)

part_taken : (limits : LabelLimits) (first store : Store) (bytes rest : List ℕ) (names : Labels) (part : List Sample) (h : HasParts limits first store bytes rest names)
    → taken limits first (record { labels = h.whole.labels; samples = h.samples ++ part }) ≡ taken limits store (record { labels = names; samples = part })
part_taken limits first store bytes rest names part h =
    taken-more limits h.whole.labels h.samples part first store h.takes ∙ ap (λ (l : Labels). taken limits store (record { labels = l; samples = part })) h.named

pub one_part : (limits : LabelLimits) (first store next : Store) (bytes rest after : List ℕ) (names : Labels) (part : List Sample) → Next rest after part
    → taken limits store (record { labels = names; samples = part }) ≡ Ok next → HasParts limits first store bytes rest names → HasParts limits first next bytes after names
one_part limits first store next bytes rest after names part goes e h =
    let more = goes (record { labels = h.labels; samples = h.samples }) h.whole h.reads in
    record {
      whole = h.whole;
      is = h.is;
      named = h.named;
      labels = more.0;
      samples = h.samples ++ part;
      reads = more.1;
      takes = part_taken limits first store bytes rest names part h ∙ e;
    }

abbrev Stays : Type 0
Stays = (bytes : List ℕ) (before whole : TimeSeries) → series_on before bytes ≡ Ok whole → (more : List Sample) × (whole.samples ≡ before.samples ++ more)

pub part_refused : (limits : LabelLimits) (first store : Store) (bytes rest after : List ℕ) (names : Labels) (part : List Sample) (v : Verdict) → Stays → Next rest after part
    → taken limits store (record { labels = names; samples = part }) ≡ Err v → HasParts limits first store bytes rest names → (status_of v ≡ 400) × Refuses limits first (read_series bytes)
part_refused limits first store bytes rest after names part v stays goes e h =
    let more = goes (record { labels = h.labels; samples = h.samples }) h.whole h.reads in
    let later = stays after (record { labels = more.0; samples = h.samples ++ part }) h.whole more.1 in
    let bad = taken-bad limits h.whole.labels (h.samples ++ part) later.0 first v (part_taken limits first store bytes rest names part h ∙ e) in
    refuses limits first (read_series bytes) h.whole v h.is (ap (λ (ss : List Sample). taken limits first (record { labels = h.whole.labels; samples = ss })) later.1 ∙ bad)

-- a series that is read has no fault further on
pub no_fault : (limits : LabelLimits) (first store : Store) (bytes rest : List ℕ) (names : Labels) (e : WireFault) → (e ≢ OutOfMemory → (before whole : TimeSeries) → series_on before rest ≢ Ok whole)
    → verdict_of e ≢ NoMemory → HasParts limits first store bytes rest names → (status_of (verdict_of e) ≡ 400) × Refuses limits first (read_series bytes)
no_fault limits first store bytes rest names e f ne h =
    faulty limits first (read_series bytes) e (λ other. absurd (f other (record { labels = h.labels; samples = h.samples }) h.whole h.reads)) ne

no_bytes : (s : TimeSeries) (rest : List ℕ) → length rest ≡ 0 → series_on s rest ≡ Ok s
unfolding fields_in
no_bytes s [] e = refl
no_bytes s (b ∷ bs) e = absurd (omega (arith, e))

same_series : (s whole : TimeSeries) (r : Result TimeSeries WireFault) → r ≡ Ok s → r ≡ Ok whole → s ≡ whole
same_series s whole r e h = cc

pub parts_taken : (limits : LabelLimits) (first store : Store) (bytes rest : List ℕ) (names : Labels) → length rest ≡ 0 → HasParts limits first store bytes rest names → Takes limits first (read_series bytes) store
parts_taken limits first store bytes rest names e h =
    let s : TimeSeries = record { labels = h.labels; samples = h.samples } in
    let same = same_series s h.whole (series_on s rest) (no_bytes s rest e) h.reads in
    (h.whole, h.is, ap (λ (ss : List Sample). taken limits first (record { labels = h.whole.labels; samples = ss })) (sym (ap (λ (x : TimeSeries). x.samples) same)) ∙ h.takes)
