-- Places in the pages of a segment.
use Rattle.std.proofs.Common.{◌≡◌, ℕ, ◌+◌, ◌-◌, ◌*◌, ◌/◌, ◌%◌, ◌<◌, ◌≤◌, true, false, ltb, refl, sym, ap, ◌∙◌, inl, inr, arith, lt-ltb, le-ltb, le_refl, div-add-mod', mod-lt, mod-eq_of_lt}
use Rattle.std.proofs.lemmas.Bool.{cases_lt}
use Rattle.std.proofs.Math.Nat.{mul-add-mod_self_right, mod_self}
use Rattle.rw_wal_format.specs.Segments.{left_after}
use Rattle.rw_kept_log.specs.Torn.{left_at, end_of_page}

pub left_pos : (page offset : ℕ) → 0 < page → 0 < left_at page offset
left_pos page offset p = omega (arith, mod-lt offset p)

-- s bytes further on
pub left_moves : (page offset s : ℕ) → 0 < page → s ≤ left_at page offset → left_after page (left_at page offset) s ≡ left_at page (offset + s)
left_moves page offset s p h =
    let m : offset % page < page = mod-lt offset p in
    let split : offset / page * page + (offset % page + s) ≡ offset + s = omega (arith, div-add-mod' offset page) in
    let e : (offset + s) % page ≡ (offset % page + s) % page = ap (λ (x : ℕ). x % page) (sym split) ∙ mul-add-mod_self_right (offset / page) page (offset % page + s) in
    elim (cases_lt s (page - offset % page)) [
      | inl l ↦
          (let t : ltb s (page - offset % page) ≡ true = lt-ltb s (page - offset % page) l in
          let r : (offset % page + s) % page ≡ offset % page + s = mod-eq_of_lt (omega arith) in
          rw t (omega (arith, e, r)))
      | inr g ↦
          (let t : ltb s (page - offset % page) ≡ false = le-ltb s (page - offset % page) g in
          let f : offset % page + s ≡ page = omega arith in
          let r : (offset % page + s) % page ≡ 0 = ap (λ (x : ℕ). x % page) f ∙ mod_self page in
          rw t (omega (arith, e, r)))
    ]

pub left_full : (page offset : ℕ) → 0 < page → left_at page (end_of_page page offset) ≡ page
left_full page offset p =
    let t : ltb (left_at page offset) (left_at page offset) ≡ false = le-ltb (left_at page offset) (left_at page offset) (le_refl (left_at page offset)) in
    sym (left_moves page offset (left_at page offset) p (le_refl (left_at page offset))) ∙ rw t refl

pub left_first : (page : ℕ) → 0 < page → left_at page 0 ≡ page
left_first page p = let m : 0 % page ≡ 0 = mod-eq_of_lt p in omega (arith, m)
