-- Shards with one sample, one mark or one shard more.
use Rattle.std.proofs.Common.{◌≡◌, inl, inr, ℕ, zero, suc, ◌+◌, ◌<◌, List, [], ◌∷◌, ◌++◌, length, map, Some, None, refl, sym, ap, ◌∙◌, subst, arith}
use Rattle.std.specs.Prelude.{get_or}
use Rattle.std.proofs.Math.ListN.{set}
use Rattle.std.proofs.lemmas.List.{set-get_or}
use Rattle.rw_shard_core.specs.declared.config.ConfigFields.{ConfigFields}
use Rattle.rw_plain_queue.specs.Items.{samples_in}
use Rattle.rw_plain_queue.specs.declared.item.Item.TheVariants as item
use Rattle.rw_plain_queue.proofs.shared.Lists.{get_snoc}
use Rattle.rw_series_cache.specs.declared.sample.RoutedSample.{RoutedSample}
use Rattle.rw_fleet.specs.ShardHistories.{ShardHistory, IsSetUp, AreSetUp, AreSame, AreFresh, IsMarked, IsPut, put_as, item_as, marks_in, marked}
use Rattle.rw_fleet.specs.inner.ShardHistories.{marks}
use Rattle.rw_fleet.proofs.PutLemmas.{samples_mark}
use Rattle.rw_fleet.proofs.shared.ListLemmas.{get_at}

pub same_push : (ps qs : List ShardHistory) (p q : ShardHistory) → AreSame ps qs → q.setup ≡ p.setup → samples_in q.put ≡ samples_in p.put → AreSame (ps ++ p ∷ []) (qs ++ q ∷ [])
same_push [] [] p q h a b = (a, b, tt)
same_push [] (y ∷ ys) p q h a b = absurd h
same_push (x ∷ xs) [] p q h a b = absurd h
same_push (x ∷ xs) (y ∷ ys) p q h a b = (h.0, h.1, same_push xs ys p q h.2 a b)

pub same_length : (ps qs : List ShardHistory) → AreSame ps qs → length qs ≡ length ps
same_length [] [] h = refl
same_length [] (y ∷ ys) h = absurd h
same_length (x ∷ xs) [] h = absurd h
same_length (x ∷ xs) (y ∷ ys) h = ap suc (same_length xs ys h.2)

-- shards with one more, which is new
pub fresh_push : (e k : ℕ) (ls after : List ShardHistory) (l : ShardHistory) → AreFresh e ls → after ≡ ls ++ l ∷ [] → k ≡ length ls → l.setup.queue.epoch ≡ e → l.setup.queue.shard ≡ k → l.put ≡ [] → AreFresh e after
fresh_push e k ls after l h is len a b none = subst (AreFresh e) (sym is) (λ j r at. elim (get_snoc ls l r j at) [
  | inl was ↦ h j r was
  | inr new ↦ (ap (λ (f : ShardHistory). f.setup.queue.epoch) (sym new.1) ∙ a, ap (λ (f : ShardHistory). f.setup.queue.shard) (sym new.1) ∙ b ∙ len ∙ sym new.0, ap (λ (f : ShardHistory). f.put) (sym new.1) ∙ none)
])

pub fresh_nil : (e : ℕ) (ls : List ShardHistory) → ls ≡ [] → AreFresh e ls
fresh_nil e ls is = subst (AreFresh e) (sym is) (λ j r at. absurd (let at' : None ≡ Some r = at in cc))

-- marks leave the samples
same_marks : (n : ℕ) (ls : List ShardHistory) → AreSame ls (marks n ls)
same_marks zero [] = tt
same_marks zero (l ∷ ls) = (refl, refl, same_marks zero ls)
same_marks (suc n) [] = tt
same_marks (suc n) (l ∷ ls) = (refl, samples_mark l.put (l.put ++ item.Flush ∷ []) item.Flush refl refl, same_marks n ls)

marks_set : (n : ℕ) (ls : List ShardHistory) (l m : ShardHistory) → n < length ls → l ≡ get_or (marks n ls) n l → m ≡ marked l → set (marks n ls) n m ≡ marks (suc n) ls
marks_set zero [] l m b at is = absurd (omega arith)
marks_set zero (x ∷ xs) l m b at is = ap (λ y. y ∷ xs) (is ∙ ap marked at)
marks_set (suc n) [] l m b at is = absurd (omega arith)
marks_set (suc n) (x ∷ xs) l m b at is = ap (λ ys. marked x ∷ ys) (marks_set n xs l m (omega arith) at is)

suc_of : (m n : ℕ) → m ≡ n + 1 → m ≡ suc n
suc_of m n e = omega arith

pub marks_next : (n next : ℕ) (ls now after : List ShardHistory) (l m : ShardHistory) → now ≡ marks n ls → n < length ls → next ≡ n + 1 → l ≡ get_or now n l → m.setup ≡ l.setup → m.put ≡ l.put ++ item.Flush ∷ [] → after ≡ set now n m → after ≡ marks next ls
marks_next n next ls now after l m is b up at same put set_is =
    let m_is : m ≡ marked l = λ i. record { setup = same i; put = put i } in
    set_is ∙ ap (λ ys. set ys n m) is ∙ marks_set n ls l m b (at ∙ ap (λ ys. get_or ys n l) is) m_is ∙ ap (λ k. marks k ls) (sym (suc_of next n up))

marks_all : (ls : List ShardHistory) → marks (length ls) ls ≡ map marked ls
marks_all [] = refl
marks_all (l ∷ ls) = ap (λ ys. marked l ∷ ys) (marks_all ls)

pub marks_whole : (n : ℕ) (ls now : List ShardHistory) → now ≡ marks n ls → n ≡ length ls → now ≡ map marked ls
marks_whole n ls now is all = is ∙ ap (λ k. marks k ls) all ∙ marks_all ls

pub marks_same : (n : ℕ) (ls now : List ShardHistory) → now ≡ marks n ls → AreSame ls now
marks_same n ls now is = subst (AreSame ls) (sym is) (same_marks n ls)

-- an element written back as it was
pub marks_kept : (n : ℕ) (ls now after : List ShardHistory) (l m : ShardHistory) → now ≡ marks n ls → l ≡ get_or now n l → m ≡ l → after ≡ set now n m → AreSame ls after
marks_kept n ls now after l m is at same set_is = marks_same n ls after (set_is ∙ ap (λ y. set now n y) (same ∙ at) ∙ set-get_or now n l ∙ is)

-- one shard was put a sample
pub put_at : (k : ℕ) (s : RoutedSample) (old new : List ShardHistory) (was now : ShardHistory) → k < length old → was ≡ get_or old k was → new ≡ set old k now → now.setup ≡ was.setup → samples_in now.put ≡ samples_in was.put ++ put_as was s ∷ [] → marks_in now.put ≡ marks_in was.put
    → now.put ≡ was.put ++ item_as was s ∷ [] → IsPut k s old new
put_at k s old new was now below at is setup put marks items = record { was = was; now = now; at = get_at old was k below at; setup = setup; put = put; marks = marks; items = items; is = is }

-- one shard was put a Flush
pub mark_at : (k : ℕ) (old new : List ShardHistory) (was now : ShardHistory) → k < length old → was ≡ get_or old k was → new ≡ set old k now → now.setup ≡ was.setup → now.put ≡ was.put ++ item.Flush ∷ [] → IsMarked k old new
mark_at k old new was now below at is setup put = record { was = was; at = get_at old was k below at; is = is ∙ ap (set old k) (λ i. record { setup = setup i; put = put i }) }

pub same_self : (ls : List ShardHistory) → AreSame ls ls
same_self [] = tt
same_self (l ∷ ls) = (refl, refl, same_self ls)

pub same_at : (k : ℕ) (old new : List ShardHistory) (was now : ShardHistory) → was ≡ get_or old k was → new ≡ set old k now → now.setup ≡ was.setup → samples_in now.put ≡ samples_in was.put → AreSame old new
same_at k old new was now at is setup samples = subst (AreSame old) (sym is) (go k old at)
  where
    go : (k : ℕ) (ls : List ShardHistory) → was ≡ get_or ls k was → AreSame ls (set ls k now)
    go k [] at = tt
    go zero (x ∷ xs) at = (setup ∙ ap (λ (l : ShardHistory). l.setup) at, samples ∙ ap (λ (l : ShardHistory). samples_in l.put) at, same_self xs)
    go (suc k) (x ∷ xs) at = (refl, refl, go k xs at)

pub same_marked : (k : ℕ) (old new : List ShardHistory) (was now : ShardHistory) → was ≡ get_or old k was → new ≡ set old k now → now.setup ≡ was.setup → now.put ≡ was.put ++ item.Flush ∷ [] → AreSame old new
same_marked k old new was now at is setup put = same_at k old new was now at is setup (samples_mark was.put now.put item.Flush put refl)

pub put_back : (k : ℕ) (old new : List ShardHistory) (was now : ShardHistory) → was ≡ get_or old k was → new ≡ set old k now → now ≡ was → new ≡ old
put_back k old new was now at is same = is ∙ ap (set old k) (same ∙ at) ∙ set-get_or old k was

module _ (config : ConfigFields) where
  pub set_up_push : (ls : List ShardHistory) (l : ShardHistory) → AreSetUp config ls → IsSetUp config l.setup → AreSetUp config (ls ++ l ∷ [])
  set_up_push [] l h a = (a, tt)
  set_up_push (x ∷ xs) l h a = (h.0, set_up_push xs l h.1 a)

  pub set_up_append : (ls ms : List ShardHistory) → AreSetUp config ls → AreSetUp config ms → AreSetUp config (ls ++ ms)
  set_up_append [] ms h a = a
  set_up_append (x ∷ xs) ms h a = (h.0, set_up_append xs ms h.1 a)

  pub set_up_same : (ps qs : List ShardHistory) → AreSame ps qs → AreSetUp config ps → AreSetUp config qs
  set_up_same [] [] h a = a
  set_up_same [] (y ∷ ys) h a = absurd h
  set_up_same (x ∷ xs) [] h a = absurd h
  set_up_same (x ∷ xs) (y ∷ ys) h a = (subst (IsSetUp config) (sym h.0) a.0, set_up_same xs ys h.2 a.1)

  pub set_up_set : (k : ℕ) (ls after : List ShardHistory) (l m : ShardHistory) → AreSetUp config ls → l ≡ get_or ls k l → m.setup ≡ l.setup → after ≡ set ls k m → AreSetUp config after
  set_up_set k ls after l m h at same is = subst (AreSetUp config) (sym is) (go k ls h at)
    where
      go : (k : ℕ) (ls : List ShardHistory) → AreSetUp config ls → l ≡ get_or ls k l → AreSetUp config (set ls k m)
      go k [] h at = h
      go zero (x ∷ xs) h at = (subst (IsSetUp config) (ap (λ (f : ShardHistory). f.setup) (sym at) ∙ sym same) h.0, h.1)
      go (suc k) (x ∷ xs) h at = (h.0, go k xs h.1 at)
