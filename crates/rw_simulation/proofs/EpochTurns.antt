-- The epochs before the last one, one after the other.
use Rattle.std.proofs.Common.{◌≡◌, ℕ, suc, ◌≤◌, List, [], ◌∷◌, ◌++◌, map, length, refl, sym, ap, ◌∙◌, subst, append-nil, append_assoc, ◌⊎◌, inl, inr}
use Rattle.std.specs.List.{AllByRecursion}
use Rattle.rw_types.specs.declared.entry.Entry.{Entry}
use Rattle.rw_types.specs.Gathering.{gather_from}
use Rattle.rw_types.proofs.shared.AllLemmas.{AllByRecursion-left, AllByRecursion-right}
use Rattle.rw_wal_format.specs.Pieces.{Piece, entries}
use Rattle.rw_relabel.specs.declared.choice.Choice.{Choice}
use Rattle.rw_plain_queue.specs.declared.item.Kind.TheVariants as kind
use Rattle.rw_fleet.specs.ShardHistories.{ShardHistory, put_into}
use Rattle.rw_fleet.specs.Work.{AreEndedBy, lane_of}
use Rattle.rw_fleet.specs.declared.joined.StoppedShard.{StoppedShard}
use Rattle.rw_sender.specs.Logs.{Sent, sent_of}
use Rattle.rw_sender.specs.Placement.{IsDealt, IsShardCount, AreTurned, Places, joined_epochs}
use Rattle.rw_simulation.specs.StoppedRuns.{first_number}
use Rattle.rw_simulation.proofs.EpochRuns.{one_at_most}

-- the list after a map is two lists, if its image is
pub record Split {X Y : Type 0} (f : X → Y) (all : List X) (xs ys : List Y) : Type 0 where
  pub first : List X
  pub later : List X
  pub are : all ≡ first ++ later
  pub first_is : map f first ≡ xs
  pub later_is : map f later ≡ ys

no_cons : {Y : Type 0} (y : Y) (ys : List Y) → [] ≡ y ∷ ys → ⊥
no_cons y ys e = cc

head_of : {Y : Type 0} (x y : Y) (xs ys : List Y) → x ∷ xs ≡ y ∷ ys → x ≡ y
head_of x y xs ys e = cc

tail_of : {Y : Type 0} (x y : Y) (xs ys : List Y) → x ∷ xs ≡ y ∷ ys → xs ≡ ys
tail_of x y xs ys e = cc

pub split_map : {X Y : Type 0} (f : X → Y) (all : List X) (xs ys : List Y) → map f all ≡ xs ++ ys → Split f all xs ys
split_map f all [] ys e = record { first = []; later = all; are = refl; first_is = refl; later_is = e }
split_map f [] (x ∷ xs) ys e = absurd (no_cons x (xs ++ ys) e)
split_map f (a ∷ all) (x ∷ xs) ys e =
    let h = split_map f all xs ys (tail_of (f a) x (map f all) (xs ++ ys) e) in
    record { first = a ∷ h.first; later = h.later; are = ap (λ zs. a ∷ zs) h.are; first_is = λ j. head_of (f a) x (map f all) (xs ++ ys) e j ∷ h.first_is j; later_is = h.later_is }

-- the entries are in two parts, if the samples that they give are
record Parted (choice : Choice) (before es : List Entry) (first rest : List Sent) : Type 0 where
  pub now : List Entry
  pub later : List Entry
  pub are : es ≡ now ++ later
  pub first_is : gather_from (sent_of choice) before now ≡ first
  pub rest_is : gather_from (sent_of choice) (before ++ now) later ≡ rest

part : (choice : Choice) (before es : List Entry) (first rest : List Sent) → gather_from (sent_of choice) before es ≡ first ++ rest → Parted choice before es first rest
part choice before es [] rest e = record { now = []; later = es; are = refl; first_is = refl; rest_is = subst (λ (b : List Entry). gather_from (sent_of choice) b es ≡ rest) (sym (append-nil before)) e }
part choice before [] (x ∷ xs) rest e = absurd (no_cons x (xs ++ rest) e)
part choice before (y ∷ ys) (x ∷ xs) rest e = by_entry (λ zs given. part choice (before ++ y ∷ []) ys zs rest given) (one_at_most choice before y)
  where
    with-one : (zs : List Sent) → (h : Parted choice (before ++ y ∷ []) ys zs rest) → sent_of choice before y ++ zs ≡ x ∷ xs → Parted choice before (y ∷ ys) (x ∷ xs) rest
    with-one zs h same = record {
      now = y ∷ h.now;
      later = h.later;
      are = ap (λ es. y ∷ es) h.are;
      first_is = ap (λ ss. sent_of choice before y ++ ss) h.first_is ∙ same;
      rest_is = subst (λ (b : List Entry). gather_from (sent_of choice) b h.later ≡ rest) (append_assoc before (y ∷ []) h.now) h.rest_is;
    }

    by_entry : ((zs : List Sent) → gather_from (sent_of choice) (before ++ y ∷ []) ys ≡ zs ++ rest → Parted choice (before ++ y ∷ []) ys zs rest) → (sent_of choice before y ≡ []) ⊎ ((z : Sent) × (sent_of choice before y ≡ z ∷ [])) → Parted choice before (y ∷ ys) (x ∷ xs) rest
    by_entry go (inl none) = with-one (x ∷ xs) (go (x ∷ xs) (ap (λ ss. ss ++ gather_from (sent_of choice) (before ++ y ∷ []) ys) (sym none) ∙ e)) (ap (λ ss. ss ++ (x ∷ xs)) none)
    by_entry go (inr (z, one)) = with-one xs (go xs (tail_of z x (gather_from (sent_of choice) (before ++ y ∷ []) ys) (xs ++ rest) given)) (ap (λ ss. ss ++ xs) one ∙ ap (λ w. w ∷ xs) (head_of z x (gather_from (sent_of choice) (before ++ y ∷ []) ys) (xs ++ rest) given))
      where
        given : z ∷ gather_from (sent_of choice) (before ++ y ∷ []) ys ≡ x ∷ (xs ++ rest)
        given = ap (λ ss. ss ++ gather_from (sent_of choice) (before ++ y ∷ []) ys) (sym one) ∙ e

-- ---- the epochs before the last one: each was ended because the number of shards changed, to that
-- of the next one
abbrev pub AreBefore : List (List ShardHistory) → List ShardHistory → Type 0
AreBefore [] last = Unit {0}
AreBefore (lanes ∷ turned) last = (1 ≤ length lanes) × AreEndedBy kind.Reshard (map put_into lanes) × IsShardCount (first_number turned last) × AreBefore turned last

first_count : (turned : List (List ShardHistory)) (last : List ShardHistory) → AreTurned turned → IsShardCount (length last) → IsShardCount (first_number turned last)
first_count [] last turns number = number
first_count (x ∷ xs) last turns number = turns.0

pub turned-before : (turned : List (List ShardHistory)) (last : List ShardHistory) → AreTurned turned → IsShardCount (length last) → AreBefore turned last
turned-before [] last turns number = tt
turned-before (x ∷ xs) last turns number = (turns.0.0, turns.1, first_count xs last turns.2 number, turned-before xs last turns.2 number)

-- no shards are of no epochs
none_joined : {T : Type 0} (js : List (StoppedShard T)) → map lane_of js ≡ [] → js ≡ []
none_joined [] e = refl
none_joined (j ∷ js) e = absurd (cc)

-- what holds at the start of an epoch: of the shards before it, its number, the later epochs before
-- the last one, and the entries before it
abbrev pub StartFact : Type 0 → Type 1
StartFact T = List (StoppedShard T) → ℕ → List (List ShardHistory) → List Entry → Type 0

-- an epoch of these shards that is followed by another one, and the entries that are placed in it
pub record Turns {T : Type 0} (IsSound : StoppedShard T → Type 0) (choice : Choice) (pieces : List Piece) (last : List ShardHistory) (epoch : ℕ) (js : List (StoppedShard T)) (later : List (List ShardHistory)) (before es : List Entry) : Type 0 where
  pub sound : AllByRecursion IsSound js
  pub some : 1 ≤ length (map lane_of js)
  pub by : AreEndedBy kind.Reshard (map put_into (map lane_of js))
  pub number : IsShardCount (first_number later last)
  pub dealt : IsDealt epoch (map lane_of js) (gather_from (sent_of choice) before es)
  pub rest : List Entry
  pub begins : entries pieces ≡ before ++ (es ++ rest)

-- the last epoch has come
pub record AtLast {T : Type 0} (choice : Choice) (last : List ShardHistory) (At : StartFact T) (done : List (StoppedShard T)) (before es : List Entry) : Type 0 where
  pub epoch : ℕ
  pub now : List Entry
  pub later : List Entry
  pub are : es ≡ now ++ later
  pub dealt : IsDealt epoch last (gather_from (sent_of choice) (before ++ now) later)
  pub at : At done epoch [] (before ++ now)

module _ {T : Type 0} (IsSound : StoppedShard T → Type 0) (choice : Choice) (pieces : List Piece) (last : List ShardHistory) (rest : List Entry) (At : StartFact T)
    (turn : (done js : List (StoppedShard T)) (epoch : ℕ) (later : List (List ShardHistory)) (before es : List Entry) → Turns IsSound choice pieces last epoch js later before es → At done epoch (map lane_of js ∷ later) before → At (done ++ js) (suc epoch) later (before ++ es)) where
  -- what holds at the start of each epoch if it holds at that of the first one
  pub turn-all : (turned : List (List ShardHistory)) (epoch : ℕ) (done js : List (StoppedShard T)) (before es : List Entry) → AllByRecursion IsSound js → map lane_of js ≡ joined_epochs turned
      → Places epoch (turned ++ last ∷ []) (gather_from (sent_of choice) before es) → AreBefore turned last → entries pieces ≡ before ++ (es ++ rest) → At done epoch turned before → AtLast choice last At (done ++ js) before es
  turn-all [] epoch done js before es sound e p turns all at = record {
    epoch = epoch;
    now = [];
    later = es;
    are = refl;
    dealt = subst (λ (bs : List Entry). IsDealt epoch last (gather_from (sent_of choice) bs es)) (sym (append-nil before)) (subst (IsDealt epoch last) (sym (p.2 ∙ ap (λ (xs : List Sent). p.0 ++ xs) p.4 ∙ append-nil p.0)) p.3);
    at = subst (At (done ++ js) epoch []) (sym (append-nil before)) (subst (λ (ks : List (StoppedShard T)). At ks epoch [] before) (sym (ap (λ (ks : List (StoppedShard T)). done ++ ks) (none_joined js e) ∙ append-nil done)) at);
  }
  turn-all (lanes ∷ turned) epoch done js before es sound e p turns all at =
      with-later (turn-all turned (suc epoch) (done ++ sp.first) sp.later (before ++ pt.now) pt.later (AllByRecursion-right IsSound sp.first sp.later both) sp.later_is (subst (Places (suc epoch) (turned ++ last ∷ [])) (sym pt.rest_is) p.4) turns.3
      (begins ∙ sym (append_assoc before pt.now (pt.later ++ rest))) (turn done sp.first epoch turned before pt.now turning (subst (λ (ls : List ShardHistory). At done epoch (ls ∷ turned) before) same at)))
    where
      sp : Split lane_of js lanes (joined_epochs turned)
      sp = split_map lane_of js lanes (joined_epochs turned) e

      pt : Parted choice before es p.0 p.1
      pt = part choice before es p.0 p.1 p.2

      both : AllByRecursion IsSound (sp.first ++ sp.later)
      both = subst (AllByRecursion IsSound) sp.are sound

      same : lanes ≡ map lane_of sp.first
      same = sym sp.first_is

      begins : entries pieces ≡ before ++ (pt.now ++ (pt.later ++ rest))
      begins = all ∙ ap (λ (xs : List Entry). before ++ (xs ++ rest)) pt.are ∙ ap (λ (xs : List Entry). before ++ xs) (append_assoc pt.now pt.later rest)

      turning : Turns IsSound choice pieces last epoch sp.first turned before pt.now
      turning = record {
        sound = AllByRecursion-left IsSound sp.first sp.later both;
        some = subst (λ (ls : List ShardHistory). 1 ≤ length ls) same turns.0;
        by = subst (λ (ls : List ShardHistory). AreEndedBy kind.Reshard (map put_into ls)) same turns.1;
        number = turns.2;
        dealt = subst (λ (ls : List ShardHistory). IsDealt epoch ls (gather_from (sent_of choice) before pt.now)) same (subst (IsDealt epoch lanes) (sym pt.first_is) p.3);
        rest = pt.later ++ rest;
        begins = begins;
      }

      all_done : (done ++ sp.first) ++ sp.later ≡ done ++ js
      all_done = append_assoc done sp.first sp.later ∙ ap (λ (ks : List (StoppedShard T)). done ++ ks) (sym sp.are)

      with-later : AtLast choice last At ((done ++ sp.first) ++ sp.later) (before ++ pt.now) pt.later → AtLast choice last At (done ++ js) before es
      with-later a = record {
        epoch = a.epoch;
        now = pt.now ++ a.now;
        later = a.later;
        are = pt.are ∙ ap (λ (xs : List Entry). pt.now ++ xs) a.are ∙ sym (append_assoc pt.now a.now a.later);
        dealt = subst (λ (bs : List Entry). IsDealt a.epoch last (gather_from (sent_of choice) bs a.later)) (append_assoc before pt.now a.now) a.dealt;
        at = subst (At (done ++ js) a.epoch []) (append_assoc before pt.now a.now) (subst (λ (ks : List (StoppedShard T)). At ks a.epoch [] ((before ++ pt.now) ++ a.now)) all_done a.at);
      }
