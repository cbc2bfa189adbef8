-- Epochs of a shipper, one after the other.
use mir.Val.{SFits}
use mir.Syntax.{w64}
use Rattle.std.proofs.Common.{◌≡◌, inl, inr, ℕ, zero, suc, ◌+◌, ◌<◌, List, [], ◌∷◌, ◌++◌, length, append_assoc, append-nil, Option, Some, None, refl, sym, ap, ◌∙◌, subst, arith}
use Rattle.std.specs.Prelude.{ℤ, ◌+ℤ◌, ◌≤ℤ◌, pos, Result, Ok, Err, OnErr, OnOk, IfOk, Vec}
use Rattle.std.specs.Global.{Global}
use Rattle.std.proofs.lemmas.Int.{ints}
use Rattle.rw_types.specs.declared.entry.Entry.{Entry}
use Rattle.rw_series_cache.specs.declared.sample.RoutedSample.{RoutedSample}
use Rattle.rw_fleet.specs.ShardHistories.{ShardHistory, AreFresh}
use Rattle.rw_fleet.specs.Work.{AreResolved}
use Rattle.rw_fleet.specs.Fleets.{Shards}
use Rattle.rw_sender.specs.Feeders.{Sorting, HasReadAll, Judges}
use Rattle.rw_sender.specs.Rooms.{Counting}
use Rattle.rw_sender.specs.Shipping.{Shipping, HasCompared, PlacesAll}
use Rattle.rw_sender.specs.Skews.{KeepsSkew, GoesOnPutting, GoesOnWithin, HasTurned, IsRenewed, GoesWhole, GoesOver}
use Rattle.rw_sender.specs.inner.Cutting.{AreCounted, GoesCut}
use Rattle.rw_sender.specs.inner.Reports.{IsRoomFor}
use Rattle.rw_sender.specs.Placement.{IsShardCount}
use Rattle.rw_fleet.specs.declared.running_shard.Fault.{Fault}
use Rattle.rw_wal_format.specs.declared.tail_fault.TailFault.{TailFault}
use Rattle.rw_sender.specs.inner.Shipping.{GoesOn, IsReady, IsRead, IsReckoned, IsTimed, IsSince, IsSpanned, IsWaiting, IsBegun, IsBroken, IsLonger}
use Rattle.rw_sender.specs.declared.span.Span.{Span}
use Rattle.rw_sender.proofs.shared.PlacementLemmas.{kept_self, kept_on}
use Rattle.rw_sender.proofs.CutLemmas.{cut_self, cut_on}

-- the entry in hand is a sample that is to be sent
pub is_waiting : (old new : Sorting) (e : Entry) (l : RoutedSample) → old.hand ≡ e ∷ [] → Judges old new e (Some l) → IsWaiting new l
is_waiting old new e l hand j = subst (λ (s : Sorting). IsWaiting s l) (sym j.0) (record { entry = e; hand = hand; sent = j.1; next = j.2 })

pub on_err_so : {A E : Type 0} (r : Result A E) (P : Type 0) → P → OnErr r P
on_err_so (Ok x) P h = tt
on_err_so (Err e) P h = h

-- no timestamp is later than the latest that there can be
pub latest : (e t : ℤ) (most : ℕ) → e ≡ pos 9223372036854775807 → SFits w64 t → t ≤ℤ (e +ℤ pos most)
latest e t most is fits = omega (arith, ints)

pub skew_as : (most n : ℕ) (a b : List ShardHistory) → n ≡ most → (KeepsSkew n a → KeepsSkew n b) → KeepsSkew most a → KeepsSkew most b
skew_as most n a b e h = subst (λ m. KeepsSkew m a → KeepsSkew m b) e h

pub longer_self : (a : Sorting) → IsLonger a a
longer_self a = record { choice = refl; labels = refl; pieces = refl; more = []; grown = sym (append-nil a.placed) }

pub longer_on : (a b c : Sorting) → IsLonger a b → IsLonger b c → IsLonger a c
longer_on a b c h g = record {
  choice = g.choice ∙ h.choice;
  labels = g.labels ∙ h.labels;
  pieces = g.pieces ∙ h.pieces;
  more = h.more ++ g.more;
  grown = g.grown ∙ ap (λ l. l ++ g.more) h.grown ∙ append_assoc a.placed h.more g.more;
}

module _ {T : Type 0} where
  pub putting_of : (limit : Option ℕ) (old new : Sorting) (was now : Shards T) → GoesOn limit old new was now → GoesOnPutting limit was now
  putting_of limit old new was now h = record { fleet = h.fleet; len = h.len; kept = h.kept; marks = h.marks }

  pub longer_of : (limit : Option ℕ) (old new : Sorting) (was now : Shards T) → GoesOn limit old new was now → IsLonger old new
  longer_of limit old new was now h = record { choice = h.choice; labels = h.labels; pieces = h.pieces; more = h.more; grown = h.grown }

  pub putting_on : (limit : Option ℕ) (a b c : Shards T) → GoesOnPutting limit a b → GoesOnPutting limit b c → GoesOnPutting limit a c
  putting_on limit a b c h g = record {
    fleet = g.fleet ∙ ap (λ (s : Shards T). record s { current = c.current }) h.fleet;
    len = g.len ∙ h.len;
    kept = kept_on a.current b.current c.current h.kept g.kept;
    marks = λ none. g.marks none ∙ h.marks none;
  }

  pub putting_self : (limit : Option ℕ) (a : Shards T) → GoesOnPutting limit a a
  putting_self limit a = record { fleet = refl; len = refl; kept = kept_self a.current; marks = λ _. refl }

  within_self : (limit : Option ℕ) (most : ℕ) (a : Shards T) → GoesOnWithin limit most a a
  within_self limit most a = record { putting = putting_self limit a; cut = cut_self limit a.current; skew = λ h. h }

  pub within_on : (limit : Option ℕ) (most : ℕ) (a b c : Shards T) → GoesOnWithin limit most a b → GoesOnWithin limit most b c → GoesOnWithin limit most a c
  within_on limit most a b c h g = record {
    putting = putting_on limit a b c h.putting g.putting;
    cut = cut_on limit a.current b.current c.current h.cut g.cut;
    skew = λ kept. g.skew (h.skew kept);
  }

  -- what was put in an epoch by many steps
  pub within_of : (a b : Counting) (span next : Span) (old new : Sorting) (was now : Shards T) → GoesOn a.limit old new was now → GoesCut a b was.current now.current → IsSpanned span next was.current now.current → GoesOnWithin a.limit span.most was now
  within_of a b span next old new was now goes cut spanned = record { putting = putting_of a.limit old new was now goes; cut = cut.cut; skew = spanned.skew }

  pub whole_begun : (limit : Option ℕ) (most : ℕ) (a : Shards T) → GoesWhole limit most a a
  whole_begun limit most a = record { epochs = 0; begun = a; turned = refl; within = within_self limit most a }

  pub whole_on : (limit : Option ℕ) (most : ℕ) (a b c : Shards T) → GoesWhole limit most a b → GoesOnWithin limit most b c → GoesWhole limit most a c
  whole_on limit most a b c h g = record { epochs = h.epochs; begun = h.begun; turned = h.turned; within = within_on limit most h.begun b c h.within g }

  pub whole_next : (limit : Option ℕ) (most : ℕ) (a b c : Shards T) → GoesWhole limit most a b → IsBegun limit most b c → GoesWhole limit most a c
  whole_next limit most a b c h g = record { epochs = suc h.epochs; begun = g.0; turned = (h.begun, b, h.turned, h.within, g.1); within = g.2 }

  pub over_of : (limit : Option ℕ) (most : ℕ) (log : Sorting) (a b : Shards T) → GoesWhole limit most a b → GoesOver limit most log a b
  over_of limit most log a b h = record { epochs = h.epochs; begun = h.begun; turned = h.turned; last = b; putting = h.within.putting; skew = h.within.skew; shut = inl refl }

  -- and then something was put, and no more could be
  pub over_part : (limit : Option ℕ) (most : ℕ) (log : Sorting) (a b c : Shards T) → GoesWhole limit most a b → GoesOnPutting limit b c → (KeepsSkew most b.current → KeepsSkew most c.current) → GoesOver limit most log a c
  over_part limit most log a b c h putting skew = record {
    epochs = h.epochs;
    begun = h.begun;
    turned = h.turned;
    last = c;
    putting = putting_on limit h.begun b c h.within.putting putting;
    skew = λ kept. skew (h.within.skew kept);
    shut = inl refl;
  }

  -- or the next epoch could not go on
  pub over_broken : (limit : Option ℕ) (most : ℕ) (log : Sorting) (a b c : Shards T) → GoesWhole limit most a b → IsBroken limit most log b c → GoesOver limit most log a c
  over_broken limit most log a b c h (inl (places, config, inl same)) = record {
    epochs = h.epochs;
    begun = h.begun;
    turned = h.turned;
    last = b;
    putting = h.within.putting;
    skew = h.within.skew;
    shut = inl same;
  }
  over_broken limit most log a b c h (inl (places, config, inr compared)) = record {
    epochs = h.epochs;
    begun = h.begun;
    turned = h.turned;
    last = b;
    putting = h.within.putting;
    skew = h.within.skew;
    shut = inr (places, compared, config);
  }
  over_broken limit most log a b c h (inr (mid, renewed, putting, skew)) = record {
    epochs = suc h.epochs;
    begun = mid;
    turned = (h.begun, b, h.turned, h.within, renewed);
    last = c;
    putting = putting;
    skew = skew;
    shut = inl refl;
  }

  -- an epoch was ended, and the next one begun
  pub renewed_of : (log : Sorting) (was now : Shards T) → PlacesAll log was → HasCompared was now → AreResolved now.ended → (now.epoch ≡ was.epoch + 1) × (length now.current ≡ length was.current) × AreFresh now.epoch now.current → now.config ≡ was.config → IsRenewed was now
  renewed_of log was now places compared resolved opened config = record {
    own = λ k l at. (places.dealt.each k l at).0;
    compared = compared;
    resolved = resolved;
    epoch = opened.0;
    fresh = opened.2;
    len = opened.1;
    config = config;
  }

  -- by what the limit and the bound are called
  pub putting_as : (limit same : Option ℕ) (a b : Shards T) → same ≡ limit → GoesOnPutting same a b → GoesOnPutting limit a b
  putting_as limit same a b is h = subst (λ l. GoesOnPutting l a b) is h

  pub within_as : (limit same : Option ℕ) (most n : ℕ) (a b : Shards T) → same ≡ limit → n ≡ most → GoesOnWithin same n a b → GoesOnWithin limit most a b
  within_as limit same most n a b is e h = subst (λ l. GoesOnWithin l most a b) is (subst (λ m. GoesOnWithin same m a b) e h)

  pub begun_as : (limit same : Option ℕ) (most n : ℕ) (a b : Shards T) → same ≡ limit → n ≡ most → IsBegun same n a b → IsBegun limit most a b
  begun_as limit same most n a b is e h = (h.0, h.1, within_as limit same most n h.0 b is e h.2)

  pub broken_as : (limit same : Option ℕ) (most n : ℕ) (log : Sorting) (a b : Shards T) → same ≡ limit → n ≡ most → IsBroken same n log a b → IsBroken limit most log a b
  broken_as limit same most n log a b is e h = subst (λ l. IsBroken l most log a b) is (subst (λ m. IsBroken same m log a b) e h)

  pub len_begun : (limit : Option ℕ) (most : ℕ) (a b : Shards T) → IsBegun limit most a b → length b.current ≡ length a.current
  len_begun limit most a b h = h.2.putting.len ∙ h.1.len

  pub len_turned : (limit : Option ℕ) (most n : ℕ) (a b : Shards T) → HasTurned limit most n a b → length b.current ≡ length a.current
  len_turned limit most zero a b h = ap (λ (s : Shards T). length s.current) h
  len_turned limit most (suc n) a b h = h.4.len ∙ h.3.putting.len ∙ len_turned limit most n a h.0 h.2

  pub len_whole : (limit : Option ℕ) (most : ℕ) (a b : Shards T) → GoesWhole limit most a b → length b.current ≡ length a.current
  len_whole limit most a b h = h.within.putting.len ∙ len_turned limit most h.epochs a h.begun h.turned

  -- nothing was fed
  pub over_still : (limit : Option ℕ) (most : ℕ) (log : Sorting) (s t : Shipping T) → s ≡ t → GoesOver limit most log t.fleet s.fleet
  over_still limit most log s t is = subst (λ (x : Shipping T). GoesOver limit most log x.fleet s.fleet) is (over_of limit most log s.fleet s.fleet (whole_begun limit most s.fleet))

pub ok_at : {A E : Type 0} (r : Result A E) (x : A) (P : Type 0) → r ≡ Ok x → OnOk r P → P
ok_at r x P is h = subst (λ (y : Result _ _). OnOk y P) is h

pub ok_if : {A E : Type 0} (r : Result A E) (x : A) (P : A → Type 0) → r ≡ Ok x → IfOk r P → P x
ok_if r x P is h = subst (λ (y : Result _ _). IfOk y P) is h

-- what a shipper keeps that has not failed, when all was placed over some epochs
pub record IsPlacedOver {T : Type 0} (log : Sorting) (now : Shards T) (cuts : Counting) (earliest : ℤ) (damage : Option TailFault) : Type 0 where
  pub places : PlacesAll log now
  pub hand : log.hand ≡ []
  pub number : IsShardCount (length now.current)
  pub read : HasReadAll log damage
  pub counted : AreCounted cuts.limit cuts.rooms now.current
  pub since : IsSince earliest now.current

module _ {T : Type 0} where
  kept_as : (log : Sorting) (now new : Shards T) (f : Option Fault) (cuts : Counting) (earliest : ℤ) (damage : Option TailFault) (samples : Vec ℕ Global) → new ≡ now → IsPlacedOver log now cuts earliest damage → IsRoomFor now samples
      → PlacesAll log new × IsReady log new None × IsRead log None damage × IsReckoned cuts new None × IsRoomFor new samples × IsTimed earliest new None
  kept_as log now new f cuts earliest damage samples e h room =
      subst (λ (s : Shards T). PlacesAll log s × IsReady log s None × IsRead log None damage × IsReckoned cuts s None × IsRoomFor s samples × IsTimed earliest s None) (sym e)
      (h.places, (h.hand, h.number), h.read, h.counted, room, h.since)

  pub kept_over : (log : Sorting) (now new : Shards T) (f : Option Fault) (cuts : Counting) (earliest : ℤ) (damage : Option TailFault) (samples : Vec ℕ Global) → new ≡ now → f ≡ None → IsPlacedOver log now cuts earliest damage → IsRoomFor now samples
      → PlacesAll log new × IsReady log new f × IsRead log f damage × IsReckoned cuts new f × IsRoomFor new samples × IsTimed earliest new f
  kept_over log now new f cuts earliest damage samples e is h room =
      subst (λ (x : Option Fault). PlacesAll log new × IsReady log new x × IsRead log x damage × IsReckoned cuts new x × IsRoomFor new samples × IsTimed earliest new x) (sym is)
      (kept_as log now new f cuts earliest damage samples e h room)
