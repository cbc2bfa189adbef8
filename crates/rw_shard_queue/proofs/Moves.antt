-- Each step of an end keeps the rule of the queue.
use Rattle.std.proofs.Common.{◌≡◌, ◌≢◌, ◌≤◌, ◌<◌, ◌*◌, ℕ, zero, suc, true, false, List, [], ◌∷◌, ◌++◌, length, set, sym, refl, ap, ◌∙◌, subst, ⊎_elim, append_assoc, append-nil, length-append, arith}
use Rattle.std.proofs.lemmas.Nat.{mul-le}
use Rattle.std.proofs.lemmas.Bool.{false≢true}
use mathlib.Core.Option.{some, some-ne-none, some-injective}
use lib.ListN.{get_elem?}
use Rattle.crossbeam_channel.specs.Fifo.{Pushes, Pops, Forks, Merges, Learns}
use Rattle.atomic_table.proofs.Lists.{at_set, at_snoc}
use Rattle.rw_plain_queue.specs.declared.item.Item.{Item}
use Rattle.rw_shard_queue.specs.declared.rule.Log.{Log}
use Rattle.rw_shard_queue.specs.declared.rule.Name.{Name}
use Rattle.rw_plain_queue.specs.Items.{is_end}
use Rattle.rw_plain_queue.specs.declared.item.Kind.{Kind}
use Rattle.rw_plain_queue.specs.declared.item.Item.TheVariants.{End}
use Rattle.rw_plain_queue.specs.History.{IsHistory, EndIsLast, IsOpen, IsEnded, MayFollow}
use Rattle.rw_shard_queue.specs.Rule.{Filled}
use Rattle.rw_shard_queue.specs.inner.Rule.{joined, AreBlocks, IsRoomy, both, feeder, drainer, unnamed, no_name, nobody, Fits, IsRelayed, Took, Remains}
use Rattle.rw_plain_queue.proofs.shared.Histories.{history-nil, history-front, history-put, history-end, open-put, open-push}

at_end : (l : List Log) (a b : Log) (j : ℕ) → get_elem? l j ≢ some b → get_elem? (l ++ a ∷ []) j ≡ some b → j ≡ length l
at_end [] a b zero n e = refl
at_end [] a b (suc j) n e = absurd (some-ne-none b (sym e))
at_end (x ∷ xs) a b zero n e = absurd (n e)
at_end (x ∷ xs) a b (suc j) n e = ap suc (at_end xs a b j n e)

abbrev AllViews : (ℕ → Log → Type 0) → List Log → Type 0
AllViews F views = (port : ℕ) (v : Log) → get_elem? views port ≡ some v → F port v

all_set : (F : ℕ → Log → Type 0) (views : List Log) (port : ℕ) (w : Log) → F port w → ((j : ℕ) (u : Log) → j ≢ port → get_elem? views j ≡ some u → F j u) → AllViews F (set views port w)
all_set F views port w mine others j u e = ⊎_elim (λ (x : (j ≡ port) × (w ≡ u)). subst (λ (y : ℕ × Log). F y.0 y.1) (λ i. (sym x.0 i, x.1 i)) mine)
    (λ (x : (j ≢ port) × (get_elem? views j ≡ some u)). others j u x.0 x.1) (at_set views port j w u e)

pub joined-snoc : (bs : List Filled) (b : Filled) → joined (bs ++ b ∷ []) ≡ joined bs ++ b.items
joined-snoc [] b = append-nil b.items
joined-snoc (x ∷ xs) b = ap (λ ys. x.items ++ ys) (joined-snoc xs b) ∙ sym (append_assoc x.items (joined xs) b.items)

pub blocks-snoc : (most : ℕ) (bs : List Filled) (b : Filled) → AreBlocks most bs → 0 < length b.items → length b.items ≤ most → b.most ≡ most → AreBlocks most (bs ++ b ∷ [])
blocks-snoc most [] b are any few sized = (any, few, sized, tt)
blocks-snoc most (x ∷ xs) b are any few sized = (are.0, are.1, are.2, blocks-snoc most xs b are.3 any few sized)

pub joined-most : (most : ℕ) (bs : List Filled) → AreBlocks most bs → length (joined bs) ≤ length bs * most
joined-most most [] are = omega arith
joined-most most (x ∷ xs) are = let rest = joined-most most xs are.3 in let here = are.1 in let whole = length-append x.items (joined xs) in omega arith

pub joined-within : (slots most : ℕ) (bs : List Filled) → AreBlocks most bs → length bs ≤ slots → length (joined bs) ≤ slots * most
joined-within slots most bs are few = let one = joined-most most bs are in let two = mul-le (length bs) most slots most few (omega arith) in omega arith

pub begins : IsRelayed [] (unnamed ∷ [])
begins = record {
  writer = 0;
  reader = 0;
  name = no_name;
  put = [];
  taken = [];
  split = refl;
  within = omega arith;
  sized = tt;
  history = history-nil 0 0;
  fits = one;
}
  where
    one : (port : ℕ) (v : Log) → get_elem? (unnamed ∷ []) port ≡ some v → Fits 0 0 no_name [] [] port v
    one zero v e = subst (Fits 0 0 no_name [] [] 0) (some-injective _ _ e) ((λ _. (refl, refl, refl)), (λ _. (refl, refl, refl)))
    one (suc port) v e = absurd (some-ne-none v (sym e))

-- the feeder hands over a block with which its list still is a history
pub puts : (n port : ℕ) (v : Log) (x : Filled) → v ≡ feeder v.name v.put → v.name.slots ≡ n → IsHistory v.name.epoch v.name.shard (v.put ++ x.items) → 0 < length x.items → length x.items ≤ v.name.most → x.most ≡ v.name.most → Pushes IsRelayed n port v x (λ w. w ≡ feeder v.name (v.put ++ x.items))
puts n port v x is most goes any few sized items views room h at =
    let w : Log = feeder v.name (v.put ++ x.items) in
    let mine = (h.fits port v at).0 (ap (λ (u : Log). u.feeds) is) in
    let put = h.put ++ x.items in
    let same : v.name.slots ≡ h.name.slots = ap (λ (m : Name). m.slots) mine.1 in (
      w,
      record {
        writer = h.writer;
        reader = h.reader;
        name = h.name;
        put = put;
        taken = h.taken;
        split = ap (λ l. l ++ x.items) h.split ∙ append_assoc h.taken (joined items) x.items ∙ ap (λ l. h.taken ++ l) (sym (joined-snoc items x));
        within = let longer = length-append items (x ∷ []) in omega arith;
        sized = blocks-snoc h.name.most items x h.sized any (subst (λ (m : Name). length x.items ≤ m.most) mine.1 few) (sized ∙ ap (λ (m : Name). m.most) mine.1);
        history = subst (λ (y : Name × List Item). IsHistory y.0.epoch y.0.shard (y.1 ++ x.items)) (λ i. (mine.1 i, mine.2 i)) goes;
        fits = all_set (Fits h.writer h.reader h.name put h.taken) views port w ((λ _. (mine.0, mine.1, ap (λ l. l ++ x.items) mine.2)), (λ d. absurd (false≢true d)))
            (λ j u other e. ((λ p. absurd (other (((h.fits j u e).0 p).0 ∙ sym mine.0))), (h.fits j u e).1));
      },
      refl,
    )

pub takes : (port : ℕ) (v : Log) → v ≡ drainer v.name v.taken → Pops IsRelayed port v (Took v)
takes port v is x items views h at =
    let w : Log = drainer v.name (v.taken ++ x.items) in
    let mine = (h.fits port v at).1 (ap (λ (u : Log). u.drains) is) in
    let taken = h.taken ++ x.items in
    let split : h.put ≡ taken ++ joined items = h.split ∙ sym (append_assoc h.taken x.items (joined items)) in (
      w,
      record {
        writer = h.writer;
        reader = h.reader;
        name = h.name;
        put = h.put;
        taken = taken;
        split = split;
        within = let most = h.within in omega arith;
        sized = h.sized.3;
        history = h.history;
        fits = all_set (Fits h.writer h.reader h.name h.put taken) views port w ((λ d. absurd (false≢true d)), (λ _. (mine.0, mine.1, ap (λ l. l ++ x.items) mine.2)))
            (λ j u other e. ((h.fits j u e).0, (λ p. absurd (other (((h.fits j u e).1 p).0 ∙ sym mine.0)))));
      },
      (
        refl,
        subst (λ (y : Name × List Item). IsHistory y.0.epoch y.0.shard (y.1 ++ x.items)) (λ i. (sym mine.1 i, sym mine.2 i)) (history-front h.name.epoch h.name.shard taken (joined items) (subst (IsHistory h.name.epoch h.name.shard) split h.history)),
        h.sized.0,
        subst (λ (m : Name). length x.items ≤ m.most) (sym mine.1) h.sized.1,
        h.sized.2 ∙ ap (λ (m : Name). m.most) (sym mine.1),
      ),
    )

-- one who knows both ends gives them to two hands, and may say anew what went through them
forked : (blocks : List Filled) (views : List Log) (port : ℕ) (v : Log) → IsRelayed blocks views → get_elem? views port ≡ some v → v.feeds ≡ true → v.drains ≡ true → (name : Name) (put taken : List Item) → put ≡ taken ++ joined blocks → length blocks ≤ name.slots → AreBlocks name.most blocks → IsHistory name.epoch name.shard put
    → IsRelayed blocks (set views port (feeder name put) ++ drainer name taken ∷ [])
forked blocks views port v h at feeds drains name put taken split within sized history =
    let l : Log = feeder name put in
    let r : Log = drainer name taken in
    let vs : List Log = set views port l in
    let mine = h.fits port v at in
    let Old : ℕ → Log → Type 0 = λ j u. (u.feeds ≡ true → (j ≡ port) × (u ≡ l)) × (u.drains ≢ true) in
    let old : AllViews Old vs = all_set Old views port l ((λ _. (refl, refl)), (λ d. false≢true d))
    (λ j u other e. ((λ p. absurd (other (((h.fits j u e).0 p).0 ∙ sym (mine.0 feeds).0))), (λ p. other (((h.fits j u e).1 p).0 ∙ sym (mine.1 drains).0)))) in record {
      writer = port;
      reader = length vs;
      name = name;
      put = put;
      taken = taken;
      split = split;
      within = within;
      sized = sized;
      history = history;
      fits = λ j u e. ⊎_elim
          (λ was. ((λ p. let o = (old j u was).0 p in (o.0, ap (λ (y : Log). y.name) o.1, ap (λ (y : Log). y.put) o.1)), (λ p. absurd ((old j u was).1 p))))
          (λ (new : r ≡ u). ((λ p. absurd (false≢true (ap (λ (y : Log). y.feeds) new ∙ p))), (λ p. (at_end vs r u j (λ was. (old j u was).1 p) e, ap (λ (y : Log). y.name) (sym new), ap (λ (y : Log). y.taken) (sym new)))))
          (at_snoc vs r u j e);
    }

none-left : (most : ℕ) (blocks : List Filled) → AreBlocks most blocks → length blocks ≤ 0 → blocks ≡ []
none-left most [] are few = refl
none-left most (x ∷ xs) are few = absurd (omega arith)

-- a queue that has no name yet gets one
pub opens : (port : ℕ) (v : Log) (name : Name) → v ≡ unnamed → Forks IsRelayed port v (feeder name []) (drainer name [])
opens port v name is blocks views h at =
    let feeds = ap (λ (u : Log). u.feeds) is in
    let drains = ap (λ (u : Log). u.drains) is in
    let none : h.name.slots ≡ 0 = sym (ap (λ (m : Name). m.slots) ((h.fits port v at).0 feeds).1) ∙ ap (λ (u : Log). u.name.slots) is in
    let within = h.within in
    let empty : blocks ≡ [] = none-left h.name.most blocks h.sized (omega arith) in
    forked blocks views port v h at feeds drains name [] [] (ap joined (sym empty)) (let e = ap length empty in omega arith) (subst (AreBlocks name.most) (sym empty) tt) (history-nil name.epoch name.shard)

-- the feeder takes in what the drainer knows
pub closes : (port : ℕ) (v : Log) (other : ℕ) (u : Log) → v ≡ feeder v.name v.put → u ≡ drainer u.name u.taken → Merges IsRelayed port v other u (both v.name v.put u.taken) nobody
closes port v other u is is' blocks views h at two at' =
    let b : Log = both v.name v.put u.taken in
    let vs : List Log = set views port b in
    let fed = (h.fits port v at).0 (ap (λ (y : Log). y.feeds) is) in
    let was : get_elem? views other ≡ some u = ⊎_elim (λ x. absurd (two x.0)) (λ x. x.1) (at_set views port other b u at') in
    let drained = (h.fits other u was).1 (ap (λ (y : Log). y.drains) is') in
    let Now : ℕ → Log → Type 0 = λ j y. j ≢ other → Fits h.writer port h.name h.put h.taken j y in
    let now : AllViews Now vs = all_set Now views port b (λ _. ((λ _. fed), (λ _. (refl, fed.1, drained.2))))
    (λ j y _ e apart. ((h.fits j y e).0, (λ p. absurd (apart (((h.fits j y e).1 p).0 ∙ sym drained.0))))) in record {
      writer = h.writer;
      reader = port;
      name = h.name;
      put = h.put;
      taken = h.taken;
      split = h.split;
      within = h.within;
      sized = h.sized;
      history = h.history;
      fits = all_set (Fits h.writer port h.name h.put h.taken) vs other nobody ((λ p. absurd (false≢true p)), (λ p. absurd (false≢true p))) (λ j y apart e. now j y e apart);
    }

pub compares : (port : ℕ) (v : Log) → v ≡ both v.name v.put v.taken → Learns IsRelayed port v (Remains v)
compares port v is blocks views h at =
    let mine = h.fits port v at in
    let fed = mine.0 (ap (λ (y : Log). y.feeds) is) in
    let drained = mine.1 (ap (λ (y : Log). y.drains) is) in (
      fed.2 ∙ h.split ∙ ap (λ xs. xs ++ joined blocks) (sym drained.2),
      subst EndIsLast (sym fed.2) h.history.ending,
      subst (λ (m : Name). length (joined blocks) ≤ m.slots * m.most) (sym fed.1) (joined-within h.name.slots h.name.most blocks h.sized h.within),
    )

-- what was brought into one hand goes to two again
pub parts : (port : ℕ) (v : Log) → v ≡ both v.name v.put v.taken → Forks IsRelayed port v (feeder v.name v.put) (drainer v.name v.taken)
parts port v is blocks views h at =
    let feeds = ap (λ (u : Log). u.feeds) is in
    let mine = (h.fits port v at).0 feeds in
    let history = subst (λ (y : Name × List Item). IsHistory y.0.epoch y.0.shard y.1) (λ i. (sym mine.1 i, sym mine.2 i)) h.history in
    let remains = compares port v is blocks views h at in
    forked blocks views port v h at feeds (ap (λ (u : Log). u.drains) is) v.name v.put v.taken remains.0 (subst (λ (m : Name). length blocks ≤ m.slots) (sym mine.1) h.within) (subst (λ (m : Name). AreBlocks m.most blocks) (sym mine.1) h.sized) history

-- what an end knows of its list, at a log that is known
pub met : (u : Log) (name : Name) (put taken : List Item) → u ≡ both name put taken → u ≡ both u.name u.put u.taken
met u name put taken is = subst (λ (w : Log). w ≡ both w.name w.put w.taken) (sym is) refl

-- an open end: its log, and what its invariant says of it
pub fed : (u : Log) (name : Name) (put : List Item) → u ≡ feeder name put → u ≡ feeder u.name u.put
fed u name put is = subst (λ (w : Log). w ≡ feeder w.name w.put) (sym is) refl

pub drained : (u : Log) (name : Name) (taken : List Item) → u ≡ drainer name taken → u ≡ drainer u.name u.taken
drained u name taken is = subst (λ (w : Log). w ≡ drainer w.name w.taken) (sym is) refl

-- what is held back counts as put
pub holds : (epoch shard : ℕ) (put held : List Item) (x : Item) → IsHistory epoch shard (put ++ held) → IsOpen (put ++ held) → MayFollow epoch shard (put ++ held) x → IsHistory epoch shard (put ++ (held ++ x ∷ [])) × IsOpen (put ++ (held ++ x ∷ []))
holds epoch shard put held x history still may =
    let e = append_assoc put held (x ∷ []) in
    (subst (IsHistory epoch shard) e (history-put epoch shard (put ++ held) x history still may), subst IsOpen e (open-put epoch shard (put ++ held) x still may))

pub holds-end : (epoch shard : ℕ) (put held : List Item) (kind : Kind) → IsHistory epoch shard (put ++ held) → IsOpen (put ++ held) → IsHistory epoch shard (put ++ (held ++ End kind ∷ [])) × IsEnded (put ++ (held ++ End kind ∷ []))
holds-end epoch shard put held kind history still = (subst (IsHistory epoch shard) (append_assoc put held (End kind ∷ [])) (history-end epoch shard (put ++ held) kind history still), (put ++ held, kind, sym (append_assoc put held (End kind ∷ []))))

-- an item was taken of what was received
pub next : (epoch shard : ℕ) (all taken rest now : List Item) (x : Item) → IsHistory epoch shard all → all ≡ taken ++ x ∷ rest → now ≡ taken ++ x ∷ [] → (all ≡ now ++ rest) × IsHistory epoch shard now
next epoch shard all taken rest now x history split is =
    let e : all ≡ now ++ rest = split ∙ sym (append_assoc taken (x ∷ []) rest) ∙ ap (λ xs. xs ++ rest) (sym is) in
    (e, history-front epoch shard now rest (subst (IsHistory epoch shard) e history))

pub next-open : (taken now : List Item) (x : Item) → IsOpen taken → now ≡ taken ++ x ∷ [] → is_end x ≡ false → IsOpen now
next-open taken now x still is other = subst IsOpen (sym is) (open-push taken x still other)

-- what was taken is a prefix of what was handed over
pub split-handed : (put all taken block joined : List Item) → put ≡ all ++ joined → all ≡ taken ++ block → put ≡ taken ++ (block ++ joined)
split-handed put all taken block joined e f = e ∙ ap (λ xs. xs ++ joined) f ∙ append_assoc taken block joined

-- what was taken is a prefix of what was put
pub split-on : (put all taken held block joined : List Item) → put ≡ all ++ joined → all ≡ taken ++ block → put ++ held ≡ taken ++ ((block ++ joined) ++ held)
split-on put all taken held block joined e f = ap (λ xs. xs ++ held) (e ∙ ap (λ xs. xs ++ joined) f ∙ append_assoc taken block joined) ∙ append_assoc taken (block ++ joined) held

-- what the invariant of a feeding end says of its log and of what it holds back
abbrev pub IsFeed : (List Item → Type 0) → (List Item → Type 0) → ℕ → Log → Filled → Type 0
IsFeed stands held n u b =
    (u ≡ feeder u.name u.put) × IsHistory u.name.epoch u.name.shard (u.put ++ b.items) × stands (u.put ++ b.items) × (u.name.slots ≡ n) × IsRoomy u.name × (b.most ≡ u.name.most) × (length b.items < u.name.most) × held b.items

abbrev pub any : List Item → Type 0
any items = Unit {0}

pub pushes : (n : ℕ) (v : Log) (a b : Filled) (x : Item) → b ≡ record { items = a.items ++ x ∷ []; most = a.most } → IsFeed IsOpen any n v a → MayFollow v.name.epoch v.name.shard (v.put ++ a.items) x → IsHistory v.name.epoch v.name.shard (v.put ++ b.items) × IsOpen (v.put ++ b.items)
pushes n v a b x is f may = subst (λ (y : Filled). IsHistory v.name.epoch v.name.shard (v.put ++ y.items) × IsOpen (v.put ++ y.items)) (sym is) (holds v.name.epoch v.name.shard v.put a.items x f.1 f.2 may)

pub ends : (n : ℕ) (v : Log) (a b : Filled) (kind : Kind) → b ≡ record { items = a.items ++ End kind ∷ []; most = a.most } → IsFeed IsOpen any n v a → IsHistory v.name.epoch v.name.shard (v.put ++ b.items) × IsEnded (v.put ++ b.items)
ends n v a b kind is f = subst (λ (y : Filled). IsHistory v.name.epoch v.name.shard (v.put ++ y.items) × IsEnded (v.put ++ y.items)) (sym is) (holds-end v.name.epoch v.name.shard v.put a.items kind f.1 f.2)

pub pushed : (n : ℕ) (v : Log) (a b : Filled) (x : Item) → b ≡ record { items = a.items ++ x ∷ []; most = a.most } → IsFeed IsOpen any n v a → MayFollow v.name.epoch v.name.shard (v.put ++ a.items) x → length b.items < v.name.most → IsFeed IsOpen any n v b
pushed n v a b x is f may few = let h = pushes n v a b x is f may in (f.0, h.0, h.1, f.3, f.4, ap (λ (y : Filled). y.most) is ∙ f.5, few, tt)

pub handed : (stands held : List Item → Type 0) (n : ℕ) (u v : Log) (x : List Item) (b : Filled) → u ≡ feeder v.name (v.put ++ x) → b.items ≡ [] → b.most ≡ v.name.most → IsHistory v.name.epoch v.name.shard (v.put ++ x) → stands (v.put ++ x) → v.name.slots ≡ n → IsRoomy v.name → held [] → IsFeed stands held n u b
handed stands held n u v x b is none most history stood slots roomy nothing =
    let now : Filled = record { items = []; most = v.name.most } in
    let e : b ≡ now = λ i. record { items = none i; most = most i } in
    subst (λ (y : Log × Filled). IsFeed stands held n y.0 y.1) (λ i. (sym is i, sym e i)) (refl, subst (IsHistory v.name.epoch v.name.shard) (sym (append-nil (v.put ++ x))) history, subst stands (sym (append-nil (v.put ++ x))) stood, slots, roomy, refl, roomy.0, nothing)

-- the room of a block does not change when one is handed over
pub sizes : (u v : Log) (put : List Item) (spares spare : ℕ) → u ≡ feeder v.name put → spares ≡ spare → spare ≡ v.name.most → spares ≡ u.name.most
sizes u v put spares spare is same most = same ∙ most ∙ ap (λ (l : Log). l.name.most) (sym is)

pub kept : (stands held : List Item → Type 0) (n : ℕ) (u v : Log) (a b : Filled) → u ≡ v → b.items ≡ a.items → b.most ≡ a.most → IsFeed stands held n v a → IsFeed stands held n u b
kept stands held n u v a b is same most f =
    let e : b ≡ a = λ i. record { items = same i; most = most i } in
    subst (λ (y : Log × Filled). IsFeed stands held n y.0 y.1) (λ i. (sym is i, sym e i)) f
