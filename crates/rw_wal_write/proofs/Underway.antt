-- A record that is being written, fragment after fragment.
use Rattle.std.proofs.Common.{◌≡◌, ℕ, zero, suc, ◌+◌, ◌-◌, ◌%◌, ◌<◌, ◌≤◌, List, [], ◌++◌, length, take, drop, Option, Result, Bool, true, false, if◌then◌else◌, leb, refl, sym, ap, ◌∙◌, subst, arith, le-leb, append_assoc, length-append, length-drop}
use Rattle.std.proofs.lemmas.Bool.{lt-leb}
use Rattle.std.proofs.lemmas.List.{length-take-le}
use Rattle.rw_wal_format.specs.Segments.{Kind, full, first, middle, last}
use Rattle.rw_wal_format.specs.Pieces.{page_size}
use Rattle.rw_wal_format.specs.Writing.{frame, padding, frames, log_bytes}
use Rattle.rw_wal_write.specs.Sinks.{TakesAll, TakesPart, Takes}
use Rattle.rw_wal_write.proofs.Taking.{takes_none, takes_both, takes_more, takes_part_after, takes_part_before}
use Rattle.rw_wal_format.proofs.shared.Written.{length-frame}

-- the bytes left in the page at an offset
abbrev pub left_at : ℕ → ℕ
left_at offset = page_size - offset % page_size

-- a fragment that fills its page, and the fragments of the rest
pub frames_more : (k left : ℕ) (goes_on : Bool) (d : List ℕ) → left - 7 < length d
    → frames page_size (suc k) left goes_on d ≡ frame (if goes_on then middle else first) (take (left - 7) d) ++ frames page_size k page_size true (drop (left - 7) d)
frames_more k left goes_on d h = let t : leb (length d) (left - 7) ≡ false = lt-leb (length d) (left - 7) h in rw t refl

-- the last fragment
pub frames_end : (k left : ℕ) (goes_on : Bool) (d : List ℕ) → length d ≤ left - 7
    → frames page_size (suc k) left goes_on d ≡ frame (if goes_on then last else full) d ++ padding (left - 7 - length d)
frames_end k left goes_on d h = let t : leb (length d) (left - 7) ≡ true = le-leb (length d) (left - 7) h in rw t refl

-- the next page
pub next_page : (offset n : ℕ) → n ≡ left_at offset → left_at (offset + n) ≡ page_size
next_page offset n e = omega arith

module _ {W : Type 0} (contents : W → Option (List ℕ)) (has_failed : W → Bool) (room : W → ℕ) where
  -- From `start` on, as much of the whole was written as brings the offset to `at`, and of the
  -- record the rest is left.
  pub record Underway (old now : W) (start at : ℕ) (goes_on : Bool) (rest whole : List ℕ) : Type 0 where
    pub done : List ℕ
    pub fuel : ℕ
    pub taken : TakesAll contents has_failed room old now done
    pub split : done ++ frames page_size fuel (left_at at) goes_on rest ≡ whole
    pub enough : length rest + (8 - left_at at) ≤ fuel
    pub some : 0 < length rest
    pub place : 7 ≤ left_at at
    pub moved : at ≡ start + length done

  pub underway_start : (a : W) (offset : ℕ) (d : List ℕ) → 0 < length d → 7 ≤ left_at offset → Underway a a offset offset false d (log_bytes page_size offset d)
  unfolding log_bytes
  underway_start a offset d some place = record {
    done = [];
    fuel = length d + 1;
    taken = takes_none contents has_failed room a;
    split = refl;
    enough = omega arith;
    some = some;
    place = place;
    moved = omega arith;
  }

  -- the offset is within the whole
  pub underway_below : (a b : W) (start at : ℕ) (goes_on : Bool) (rest whole : List ℕ) → Underway a b start at goes_on rest whole → at ≤ start + length whole
  underway_below a b start at goes_on rest whole u =
      omega (arith, u.moved, ap length u.split, length-append u.done (frames page_size u.fuel (left_at at) goes_on rest))

  -- the whole, after one more fragment that fills its page
  split_more : (k at : ℕ) (goes_on : Bool) (done rest whole : List ℕ) → 0 < length rest → 7 ≤ left_at at → left_at at - 7 < length rest
      → length rest + (8 - left_at at) ≤ k
      → done ++ frames page_size k (left_at at) goes_on rest ≡ whole
      → (j : ℕ) × ((done ++ frame (if goes_on then middle else first) (take (left_at at - 7) rest)) ++ frames page_size j page_size true (drop (left_at at - 7) rest) ≡ whole)
      × (length (drop (left_at at - 7) rest) ≤ j)
  split_more zero at goes_on done rest whole s p l f e = absurd (omega arith)
  split_more (suc k) at goes_on done rest whole s p l f e = (
    k,
    append_assoc done (frame (if goes_on then middle else first) (take (left_at at - 7) rest)) (frames page_size k page_size true (drop (left_at at - 7) rest))
        ∙ sym (ap (λ (x : List ℕ). done ++ x) (frames_more k (left_at at) goes_on rest l))
        ∙ e,
    omega (arith, length-drop (left_at at - 7) rest),
  )

  -- one more fragment that fills its page
  step : (a b c : W) (start at n : ℕ) (goes_on : Bool) (rest whole : List ℕ) → Underway a b start at goes_on rest whole
      → left_at at - 7 ≡ n → n < length rest → TakesAll contents has_failed room b c (frame (if goes_on then middle else first) (take n rest))
      → Underway a c start (at + (7 + n)) true (drop n rest) whole
  step a b c start at n goes_on rest whole u e l t =
      let front = frame (if goes_on then middle else first) (take n rest) in
      let more = split_more u.fuel at goes_on u.done rest whole u.some u.place (omega arith) u.enough u.split in
      let more' = subst (λ (m : ℕ). (j : ℕ) × ((u.done ++ frame (if goes_on then middle else first) (take m rest)) ++ frames page_size j page_size true (drop m rest) ≡ whole) × (length (drop m rest) ≤ j)) e more in
      let page : left_at (at + (7 + n)) ≡ page_size = next_page at (7 + n) (omega (arith, u.place)) in
      let size : length front ≡ 7 + n = omega (arith, length-frame (if goes_on then middle else first) (take n rest), length-take-le n rest (omega arith)) in
      record {
        done = u.done ++ front;
        fuel = more'.0;
        taken = takes_both contents has_failed room a b c u.done front u.taken t;
        split = subst (λ (left : ℕ). (u.done ++ front) ++ frames page_size more'.0 left true (drop n rest) ≡ whole) (sym page) more'.1;
        enough = omega (arith, page, more'.2);
        some = omega (arith, length-drop n rest);
        place = omega (arith, page);
        moved = omega (arith, u.moved, size, length-append u.done front);
      }

  pub underway_step : (a b c : W) (start at n : ℕ) (goes_on : Bool) (kind : Kind) (rest part later whole : List ℕ) → Underway a b start at goes_on rest whole
      → n ≡ left_at at - 7 → n < length rest → part ≡ take n rest → later ≡ drop n rest → kind ≡ (if goes_on then middle else first)
      → TakesAll contents has_failed room b c (frame kind part) → Underway a c start (at + (7 + length part)) true later whole
  underway_step a b c start at n goes_on kind rest part later whole u e l p q k t =
      let t' = subst (λ (x : Kind). TakesAll contents has_failed room b c (frame x (take n rest))) k (subst (λ (x : List ℕ). TakesAll contents has_failed room b c (frame kind x)) p t) in
      let size : n ≡ length part = sym (ap length p ∙ length-take-le n rest (omega arith)) in
      subst (λ (m : ℕ). Underway a c start (at + (7 + m)) true later whole) size
      (subst (λ (x : List ℕ). Underway a c start (at + (7 + n)) true x whole) (sym q) (step a b c start at n goes_on rest whole u (sym e) l t'))

  -- a device that fails at such a fragment has a prefix of the whole
  pub underway_fails : (a b c : W) (start at n : ℕ) (goes_on : Bool) (kind : Kind) (rest part whole : List ℕ) → Underway a b start at goes_on rest whole
      → n ≡ left_at at - 7 → n < length rest → part ≡ take n rest → kind ≡ (if goes_on then middle else first)
      → TakesPart contents has_failed room b c (frame kind part) → TakesPart contents has_failed room a c whole
  underway_fails a b c start at n goes_on kind rest part whole u e l p k t =
      let t' = subst (λ (x : Kind). TakesPart contents has_failed room b c (frame x (take n rest))) k (subst (λ (x : List ℕ). TakesPart contents has_failed room b c (frame kind x)) p t) in
      let t'' = subst (λ (m : ℕ). TakesPart contents has_failed room b c (frame (if goes_on then middle else first) (take m rest))) e t' in
      let more = split_more u.fuel at goes_on u.done rest whole u.some u.place (omega arith) u.enough u.split in
      let front = u.done ++ frame (if goes_on then middle else first) (take (left_at at - 7) rest) in
      let behind = frames page_size more.0 page_size true (drop (left_at at - 7) rest) in
      subst (λ (x : List ℕ). TakesPart contents has_failed room a c x) more.1
      (takes_part_before contents has_failed room a c front behind (takes_part_after contents has_failed room a b c u.done _ u.taken t''))

  -- the last fragment
  split_end : (k at : ℕ) (goes_on : Bool) (done rest whole : List ℕ) → 0 < length rest → length rest + (8 - left_at at) ≤ k → length rest ≤ left_at at - 7
      → done ++ frames page_size k (left_at at) goes_on rest ≡ whole
      → done ++ (frame (if goes_on then last else full) rest ++ padding (left_at at - 7 - length rest)) ≡ whole
  split_end zero at goes_on done rest whole s f l e = absurd (omega arith)
  split_end (suc k) at goes_on done rest whole s f l e = sym (ap (λ (x : List ℕ). done ++ x) (frames_end k (left_at at) goes_on rest l)) ∙ e

  pub underway_ends : {T E : Type 0} (a b c : W) (start at n : ℕ) (goes_on : Bool) (kind : Kind) (rest whole : List ℕ) (r : Result T E) → Underway a b start at goes_on rest whole
      → n ≡ left_at at - 7 → length rest ≤ n → kind ≡ (if goes_on then last else full)
      → Takes contents has_failed room b c (frame kind rest ++ padding (n - length rest)) r → Takes contents has_failed room a c whole r
  underway_ends a b c start at n goes_on kind rest whole r u e l k t =
      let t' = subst (λ (x : Kind). Takes contents has_failed room b c (frame x rest ++ padding (n - length rest)) r) k t in
      let t'' = subst (λ (m : ℕ). Takes contents has_failed room b c (frame (if goes_on then last else full) rest ++ padding (m - length rest)) r) e t' in
      subst (λ (x : List ℕ). Takes contents has_failed room a c x r) (split_end u.fuel at goes_on u.done rest whole u.some u.enough (omega arith) u.split)
      (takes_more contents has_failed room a b c u.done _ r u.taken t'')
