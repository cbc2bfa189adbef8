-- Queues that are cut by a limit, and what is counted of them.
use Rattle.std.proofs.Common.{◌≡◌, ◌≢◌, inl, inr, ℕ, ℤ, zero, suc, ◌+◌, ◌-◌, ◌<◌, ◌≤◌, List, [], ◌∷◌, ◌++◌, length, map, Bool, true, false, Some, None, refl, sym, ap, ◌∙◌, subst, append_assoc, append-nil, zero-add, arith}
use Rattle.std.specs.Prelude.{Option, set, slice_get, slice_index}
use Rattle.std.proofs.lemmas.List.{length-set, length-map}
use Rattle.std.proofs.lemmas.Option.{slice_get_within, same_Some}
use Rattle.std.proofs.lemmas.Bool.Decides.{nat_tests}
use Rattle.std.specs.Arc.{arc_value}
use Rattle.rw_types.specs.declared.place.Place.{Place}
use Rattle.rw_batch.specs.inner.Kept.{Shared}
use Rattle.rw_plain_queue.specs.Items.{samples_in}
use Rattle.rw_plain_queue.specs.declared.item.Item.{Item}
use Rattle.rw_plain_queue.specs.declared.item.Item.TheVariants as item
use Rattle.rw_sender.specs.Sizes.{size_of_sample}
use Rattle.rw_sender.specs.Marking.{item_bytes, bytes_after, open_bytes, AreOnlySamples, is_over_mark, behind_cut, counted_with, with_cuts}
use Rattle.rw_sender.specs.Rooms.{Counting, AreUncounted, Counts}
use Rattle.rw_series_cache.specs.declared.sample.RoutedSample.{RoutedSample}
use Rattle.rw_fleet.specs.ShardHistories.{ShardHistory, AreFresh, AreSame, IsPut, item_as, marked}
use Rattle.rw_sender.specs.Placement.{AreKept}
use Rattle.rw_sender.specs.Cutting.{IsCutBy, AreCutBy}
use Rattle.rw_sender.specs.inner.Cutting.{AreCounted, GoesCut, IsCutAt, HasRoomMade}
use Rattle.rw_sender.proofs.shared.PlacementLemmas.{get_set}

bytes_append : (n : ℕ) (xs ys : List Item) → bytes_after n (xs ++ ys) ≡ bytes_after (bytes_after n xs) ys
bytes_append n [] ys = refl
bytes_append n (item.Sample p t w l ∷ xs) ys = bytes_append (n + size_of_sample l.value (w, t)) xs ys
bytes_append n (item.Flush ∷ xs) ys = bytes_append 0 xs ys
bytes_append n (item.End k ∷ xs) ys = bytes_append 0 xs ys

samples_append : (xs ys : List Item) → AreOnlySamples xs → AreOnlySamples ys → AreOnlySamples (xs ++ ys)
samples_append [] ys h g = g
samples_append (item.Sample p t w l ∷ xs) ys h g = samples_append xs ys h g
samples_append (item.Flush ∷ xs) ys h g = absurd h
samples_append (item.End k ∷ xs) ys h g = absurd h

-- a sample and its mark, and then others
bytes_behind : (over : Bool) (n : ℕ) (p : Place) (t : ℤ) (w : ℕ) (l : Shared) (zs : List Item) → bytes_after n (behind_cut over (item.Sample p t w l) ++ zs) ≡ bytes_after (counted_with over n (size_of_sample l.value (w, t))) zs
bytes_behind true n p t w l zs = ap (λ m. bytes_after m zs) (zero-add (size_of_sample l.value (w, t)))
bytes_behind false n p t w l zs = refl

cuts_append : (limit : Option ℕ) (n : ℕ) (xs ys : List Item) → AreOnlySamples xs → with_cuts limit n (xs ++ ys) ≡ with_cuts limit n xs ++ with_cuts limit (bytes_after n (with_cuts limit n xs)) ys
cuts_append limit n [] ys h = refl
cuts_append limit n (item.Sample p t w l ∷ xs) ys h =
    let b = size_of_sample l.value (w, t) in
    let over = is_over_mark limit n b in
    let next = counted_with over n b in
    let first = behind_cut over (item.Sample p t w l) in
    let rest = with_cuts limit next xs in
    ap (λ zs. first ++ zs) (cuts_append limit next xs ys h)
    ∙ sym (append_assoc first rest (with_cuts limit (bytes_after next rest) ys))
    ∙ ap (λ m. (first ++ rest) ++ with_cuts limit m ys) (sym (bytes_behind over n p t w l rest))
cuts_append limit n (item.Flush ∷ xs) ys h = absurd h
cuts_append limit n (item.End k ∷ xs) ys h = absurd h

cut_both : (limit : Option ℕ) (p q r : ShardHistory) → IsCutBy limit p q → IsCutBy limit q r → IsCutBy limit p r
cut_both limit p q r h g =
    let first = with_cuts limit (open_bytes p.put) h.0 in
    let next : open_bytes q.put ≡ bytes_after (open_bytes p.put) first = ap open_bytes h.2 ∙ bytes_append 0 p.put first in (
      h.0 ++ g.0,
      samples_append h.0 g.0 h.1 g.1,
      g.2 ∙ ap (λ m. q.put ++ with_cuts limit m g.0) next ∙ ap (λ zs. zs ++ with_cuts limit (bytes_after (open_bytes p.put) first) g.0) h.2
          ∙ append_assoc p.put first (with_cuts limit (bytes_after (open_bytes p.put) first) g.0)
          ∙ ap (λ zs. p.put ++ zs) (sym (cuts_append limit (open_bytes p.put) h.0 g.0 h.1)),
    )

cut_one : (limit : Option ℕ) (p : ShardHistory) → IsCutBy limit p p
cut_one limit p = ([], tt, sym (append-nil p.put))

pub cut_self : (limit : Option ℕ) (ps : List ShardHistory) → AreCutBy limit ps ps
cut_self limit [] = tt
cut_self limit (p ∷ ps) = (cut_one limit p, cut_self limit ps)

pub cut_on : (limit : Option ℕ) (ps qs rs : List ShardHistory) → AreCutBy limit ps qs → AreCutBy limit qs rs → AreCutBy limit ps rs
cut_on limit [] [] rs h g = g
cut_on limit [] (q ∷ qs) rs h g = absurd h
cut_on limit (p ∷ ps) [] rs h g = absurd h
cut_on limit (p ∷ ps) (q ∷ qs) [] h g = absurd g
cut_on limit (p ∷ ps) (q ∷ qs) (r ∷ rs) h g = (cut_both limit p q r h.0 g.0, cut_on limit ps qs rs h.1 g.1)

cut_set : (limit : Option ℕ) (ps : List ShardHistory) (k : ℕ) (was now : ShardHistory) → slice_get ps k ≡ Some was → IsCutBy limit was now → AreCutBy limit ps (set ps k now)
cut_set limit [] k was now at h = tt
cut_set limit (p ∷ ps) zero was now at h = (subst (λ x. IsCutBy limit x now) (sym (same_Some p was at)) h, cut_self limit ps)
cut_set limit (p ∷ ps) (suc k) was now at h = (cut_one limit p, cut_set limit ps k was now at h)

pub goes_cut_on : (a b c : Counting) (x y z : List ShardHistory) → b.limit ≡ a.limit → GoesCut a b x y → GoesCut b c y z → GoesCut a c x z
goes_cut_on a b c x y z same h g = record {
  cut = cut_on a.limit x y z h.cut (subst (λ m. AreCutBy m y z) same g.cut);
  counted = g.counted;
}

pub goes_cut_self : (a : Counting) (x : List ShardHistory) → AreCounted a.limit a.rooms x → GoesCut a a x x
goes_cut_self a x h = record { cut = cut_self a.limit x; counted = h }

set_twice : (ps : List ShardHistory) (k : ℕ) (a b : ShardHistory) → set (set ps k a) k b ≡ set ps k b
set_twice [] k a b = refl
set_twice (p ∷ ps) zero a b = refl
set_twice (p ∷ ps) (suc k) a b = ap (λ qs. p ∷ qs) (set_twice ps k a b)

get_again : (ps : List ShardHistory) (k : ℕ) (was now x : ShardHistory) → slice_get ps k ≡ Some was → slice_get (set ps k now) k ≡ Some x → x ≡ now
get_again [] k was now x at there = absurd (let none : None ≡ Some was = at in cc)
get_again (p ∷ ps) zero was now x at there = sym (same_Some now x there)
get_again (p ∷ ps) (suc k) was now x at there = get_again ps k was now x at there

-- the shard that was put a sample, after a mark if that was asked for
record IsPutCut (over : Bool) (k : ℕ) (x : Item) (lane : ShardHistory) (old new : List ShardHistory) : Type 0 where
  now : ShardHistory
  items : now.put ≡ lane.put ++ behind_cut over x
  is : new ≡ set old k now

item_same : (a b : ShardHistory) (s : RoutedSample) → a.setup ≡ b.setup → samples_in a.put ≡ samples_in b.put → item_bytes (item_as a s) ≡ item_bytes (item_as b s)
item_same a b s h g = refl

put_cut : (over : Bool) (k : ℕ) (s : RoutedSample) (lane : ShardHistory) (old mid new : List ShardHistory) → slice_get old k ≡ Some lane → IsCutAt over k lane old mid → (put : IsPut k s mid new) → IsPutCut over k (item_as put.was s) lane old new
put_cut true k s lane old mid new at cut put =
    let was : put.was ≡ marked lane = get_again old k lane (marked lane) put.was at (ap (λ qs. slice_get qs k) (sym cut) ∙ put.at) in
    record {
      now = put.now;
      items = put.items ∙ ap (λ (l : ShardHistory). l.put ++ item_as put.was s ∷ []) was ∙ append_assoc lane.put (item.Flush ∷ []) (item_as put.was s ∷ []);
      is = put.is ∙ ap (λ qs. set qs k put.now) cut ∙ set_twice old k (marked lane) put.now;
    }
put_cut false k s lane old mid new at cut put =
    let was : put.was ≡ lane = sym (same_Some lane put.was (sym at ∙ ap (λ qs. slice_get qs k) (sym cut) ∙ put.at)) in
    record {
      now = put.now;
      items = put.items ∙ ap (λ (l : ShardHistory). l.put ++ item_as put.was s ∷ []) was;
      is = put.is ∙ ap (λ qs. set qs k put.now) cut;
    }

-- with one sample more
cut_item : (limit : Option ℕ) (over : Bool) (b : ℕ) (p : Place) (t : ℤ) (w : ℕ) (l : Shared) (lane now : ShardHistory) → b ≡ size_of_sample l.value (w, t) → over ≡ is_over_mark limit (open_bytes lane.put) b → now.put ≡ lane.put ++ behind_cut over (item.Sample p t w l) → IsCutBy limit lane now
cut_item limit over b p t w l lane now size is put =
    let x = item.Sample p t w l in
    (x ∷ [], tt, put ∙ ap (λ o. lane.put ++ behind_cut o x) (is ∙ ap (is_over_mark limit (open_bytes lane.put)) size) ∙ ap (λ zs. lane.put ++ zs) (sym (append-nil (behind_cut (is_over_mark limit (open_bytes lane.put) (size_of_sample l.value (w, t))) x))))

open_now : (over : Bool) (b : ℕ) (p : Place) (t : ℤ) (w : ℕ) (l : Shared) (lane now : ShardHistory) → b ≡ size_of_sample l.value (w, t) → now.put ≡ lane.put ++ behind_cut over (item.Sample p t w l) → open_bytes now.put ≡ counted_with over (open_bytes lane.put) b
open_now over b p t w l lane now size put =
    let x = item.Sample p t w l in
    ap open_bytes put ∙ bytes_append 0 lane.put (behind_cut over x) ∙ ap (bytes_after (open_bytes lane.put)) (sym (append-nil (behind_cut over x)))
    ∙ bytes_behind over (open_bytes lane.put) p t w l [] ∙ ap (counted_with over (open_bytes lane.put)) (sym size)

room_next : (limit ob room b : ℕ) (over : Bool) (old new : List ℕ) (k : ℕ) → slice_index old k ≡ limit - ob → Counts (Some limit) k b old new over → slice_index new k ≡ limit - counted_with over ob b
room_next limit ob room b true old new k is h = h.1.0
room_next limit ob room b false old new k is h = let now = h.1.0 in omega arith

room_else : (limit b : ℕ) (over : Bool) (old new : List ℕ) (k j : ℕ) → Counts (Some limit) k b old new over → j ≢ k → slice_index new j ≡ slice_index old j
room_else limit b true old new k j h ne = h.1.1 j ne
room_else limit b false old new k j h ne = h.1.1 j ne

counted_put : (limit : Option ℕ) (over : Bool) (k b : ℕ) (p : Place) (t : ℤ) (w : ℕ) (l : Shared) (lane : ShardHistory) (rooms after : List ℕ) (old new : List ShardHistory) → b ≡ size_of_sample l.value (w, t) → slice_get old k ≡ Some lane → IsPutCut over k (item.Sample p t w l) lane old new
    → Counts limit k b rooms after over → AreCounted limit rooms old → AreCounted limit after new
counted_put None over k b p t w l lane rooms after old new size at put counts h = tt
counted_put (Some limit) over k b p t w l lane rooms after old new size at put counts h = record {
  few = let len = ap length put.is ∙ length-set old k put.now in let few = h.few in omega arith;
  rooms_are = λ j r there. elim (get_set old k j put.now r (ap (λ qs. slice_get qs j) (sym put.is) ∙ there)) [
    | inl here ↦
        ap (slice_index after) here.0 ∙ room_next limit (open_bytes lane.put) 0 b over rooms after k (h.rooms_are k lane at) counts
        ∙ ap (λ n. limit - n) (sym (open_now over b p t w l lane put.now size put.items)) ∙ ap (λ (q : ShardHistory). limit - open_bytes q.put) here.1
    | inr else ↦ room_else limit b over rooms after k j counts else.0 ∙ h.rooms_are j r else.1
  ];
}

pub goes_cut_put : (a b : Counting) (k : ℕ) (s : RoutedSample) (old mid new : List ShardHistory) → b.limit ≡ a.limit → AreCounted a.limit a.rooms old → HasRoomMade k (size_of_sample (arc_value s.labels) (s.word, s.t)) a b old mid → IsPut k s mid new → GoesCut a b old new
goes_cut_put a b k s old mid new same h room put =
    let cut = put_cut room.over k s room.lane old mid new room.at room.cut put in record {
      cut = subst (AreCutBy a.limit old) (sym cut.is) (cut_set a.limit old k room.lane cut.now room.at (cut_item a.limit room.over _ _ _ _ _ room.lane cut.now refl room.over_is cut.items));
      counted = subst (λ m. AreCounted m b.rooms new) (sym same) (counted_put a.limit room.over k _ _ _ _ _ room.lane a.rooms b.rooms old new refl room.at cut room.counts h);
    }

-- the sample does not fit if its room is too small
over_so : (limit ob room b : ℕ) → room ≡ limit - ob → room < b → true ≡ is_over_mark (Some limit) ob b
over_so limit ob room b is lt = let gt : limit - ob < b = omega arith in grind (arith, nat_tests)

fits_so : (limit ob room b : ℕ) → room ≡ limit - ob → b ≤ room → false ≡ is_over_mark (Some limit) ob b
fits_so limit ob room b is le = let gt : b ≤ limit - ob = omega arith in grind (arith, nat_tests)

over_of : (limit : Option ℕ) (k b : ℕ) (rooms after : List ℕ) (over : Bool) (lane : ShardHistory) (lanes : List ShardHistory) → AreCounted limit rooms lanes → slice_get lanes k ≡ Some lane → Counts limit k b rooms after over → over ≡ is_over_mark limit (open_bytes lane.put) b
over_of None k b rooms after over lane lanes h at counts = counts
over_of (Some limit) k b rooms after true lane lanes h at counts = over_so limit (open_bytes lane.put) (slice_index rooms k) b (h.rooms_are k lane at) counts.0
over_of (Some limit) k b rooms after false lane lanes h at counts = fits_so limit (open_bytes lane.put) (slice_index rooms k) b (h.rooms_are k lane at) counts.0

pub room_made : (a b : Counting) (k n : ℕ) (over : Bool) (lane : ShardHistory) (was now : List ShardHistory) → AreCounted a.limit a.rooms was → slice_get was k ≡ Some lane → Counts a.limit k n a.rooms b.rooms over → IsCutAt over k lane was now → HasRoomMade k n a b was now
room_made a b k n over lane was now h at counts cut = record { lane = lane; at = at; over = over; over_is = over_of a.limit k n a.rooms b.rooms over lane was h at counts; cut = cut; counts = counts }

-- nothing is counted of fresh shards, nor after a mark in each
pub counted_fresh : (limit : Option ℕ) (rooms : List ℕ) (epoch n : ℕ) (ls : List ShardHistory) → AreUncounted limit rooms → length ls ≡ n → n ≤ 1000 → AreFresh epoch ls → AreCounted limit rooms ls
counted_fresh None rooms epoch n ls full len few fresh = tt
counted_fresh (Some limit) rooms epoch n ls full len few fresh = record {
  few = omega arith;
  rooms_are = λ k l at.
      let lt = slice_get_within ls k l at in
      let none : open_bytes l.put ≡ 0 = ap open_bytes (fresh k l at).2 in
      let is = full k (omega arith) in
      omega arith;
}

get_marked : (ls : List ShardHistory) (k : ℕ) (l : ShardHistory) → slice_get (map marked ls) k ≡ Some l → (p : ShardHistory) × (l ≡ marked p)
get_marked [] k l at = absurd (let none : None ≡ Some l = at in cc)
get_marked (p ∷ ps) zero l at = (p, sym (same_Some (marked p) l at))
get_marked (p ∷ ps) (suc k) l at = get_marked ps k l at

pub counted_marked : (limit : Option ℕ) (rooms after : List ℕ) (ls now : List ShardHistory) → AreCounted limit rooms ls → AreUncounted limit after → now ≡ map marked ls → AreCounted limit after now
counted_marked None rooms after ls now h full is = tt
counted_marked (Some limit) rooms after ls now h full is =
    let few : length now ≤ 1000 = let len = ap length is ∙ length-map ls marked in let was = h.few in omega arith in record {
      few = few;
      rooms_are = λ k l at.
          let p = get_marked ls k l (ap (λ qs. slice_get qs k) (sym is) ∙ at) in
          let none : open_bytes l.put ≡ 0 = ap (λ (q : ShardHistory). open_bytes q.put) p.1 ∙ bytes_append 0 p.0.put (item.Flush ∷ []) in
          let lt = slice_get_within now k l at in
          let r = full k (omega arith) in
          omega arith;
    }

-- shards with a mark more are kept
pub kept_same : (ps qs : List ShardHistory) → AreSame ps qs → AreKept ps qs
kept_same [] [] h = tt
kept_same [] (q ∷ qs) h = absurd h
kept_same (p ∷ ps) [] h = absurd h
kept_same (p ∷ ps) (q ∷ qs) h = ((h.0, [], h.1 ∙ sym (append-nil (samples_in p.put))), kept_same ps qs h.2)
