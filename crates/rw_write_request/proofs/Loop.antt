-- Reading fields one after the other, as a loop does.
use Rattle.std.proofs.Common.{◌≡◌, ℕ, zero, suc, ◌/◌, ◌%◌, ◌≤◌, ◌<◌, ltb, eqb, List, [], ◌∷◌, length, take, drop, Result, Ok, Err, refl, sym, ◌∙◌, arith, inl, inr, length-drop}
use Rattle.std.specs.Int.{w32, w64, from_le_bytes}
use Rattle.rw_write_request.specs.declared.fault.WireFault.{WireFault}
use Rattle.rw_write_request.specs.declared.fault.WireFault.TheVariants.{Truncated}
use Rattle.rw_write_request.specs.declared.kind.Kind.{Kind}
use Rattle.rw_write_request.specs.Fields.{Content, Varint, Fixed64, Bytes, Fixed32, Field}
use Rattle.rw_codes.specs.Varint.{◌>>=◌}
use Rattle.rw_write_request.specs.Read.{uvarint_at, bytes_at, content_at, judged_tag, field_at, fields_in, read_fields}
use Rattle.rw_write_request.proofs.Results.{bind_ok, guard_ok, chosen, pair_ok}
use Rattle.rw_write_request.proofs.Varints.{uvarint-shorter}

pub bytes-no_longer : (n : ℕ) (bytes : List ℕ) (x : List ℕ × List ℕ) → bytes_at n bytes ≡ Ok x → length x.1 ≤ length bytes
bytes-no_longer n bytes x e =
    let g = guard_ok (ltb (length bytes) n) Truncated (take n bytes, drop n bytes) x e in
    rw (← g.1) (omega (arith, length-drop n bytes))

pub content-no_longer : (wire : ℕ) (bytes : List ℕ) (x : Content × List ℕ) → content_at wire bytes ≡ Ok x → length x.1 ≤ length bytes
unfolding content_at
content-no_longer wire bytes x e =
    elim (chosen (eqb wire 0) _ _ (Ok x) e) [
      | inl p ↦
          let h = bind_ok (uvarint_at bytes) (λ n. Ok (Varint n.0, n.1)) x p.1 in
          let q = pair_ok (Varint h.0.0, h.0.1) x h.2 in
          rw (← q) (omega (arith, uvarint-shorter bytes h.0 h.1))
      | inr p ↦ elim (chosen (eqb wire 1) _ _ (Ok x) p.1) [
        | inl p ↦
            let h = bind_ok (bytes_at 8 bytes) (λ held. Ok (Fixed64 (from_le_bytes w64 held.0), held.1)) x p.1 in
            let q = pair_ok (Fixed64 (from_le_bytes w64 h.0.0), h.0.1) x h.2 in
            rw (← q) (bytes-no_longer 8 bytes h.0 h.1)
        | inr p ↦ elim (chosen (eqb wire 2) _ _ (Ok x) p.1) [
          | inl p ↦
              let g = bind_ok (uvarint_at bytes) (λ len. bytes_at len.0 len.1 >>= λ held. Ok (Bytes held.0, held.1)) x p.1 in
              let h = bind_ok (bytes_at g.0.0 g.0.1) (λ held. Ok (Bytes held.0, held.1)) x g.2 in
              let q = pair_ok (Bytes h.0.0, h.0.1) x h.2 in
              rw (← q) (omega (arith, uvarint-shorter bytes g.0 g.1, bytes-no_longer g.0.0 g.0.1 h.0 h.1))
          | inr p ↦ elim (chosen (eqb wire 5) _ _ (Ok x) p.1) [
            | inl p ↦
                let h = bind_ok (bytes_at 4 bytes) (λ held. Ok (Fixed32 (from_le_bytes w32 held.0), held.1)) x p.1 in
                let q = pair_ok (Fixed32 (from_le_bytes w32 h.0.0), h.0.1) x h.2 in
                rw (← q) (bytes-no_longer 4 bytes h.0 h.1)
            | inr p ↦ absurd (let r = p.1 in cc)
          ]
        ]
      ]
    ]

field_rest : (n k : ℕ) (f : Field) (rest : List ℕ) (x : Field × List ℕ) → k < n → length rest ≤ k → (let made : Field × List ℕ = (f, rest) in made ≡ x) → length x.1 < n
field_rest n k f rest x lt le q = rw (← q) (omega arith)

-- a field takes at least one byte
pub field-shorter : (kind : Kind) (bytes : List ℕ) (x : Field × List ℕ) → field_at kind bytes ≡ Ok x → length x.1 < length bytes
unfolding field_at
field-shorter kind bytes x e =
    let a = bind_ok (uvarint_at bytes) (λ tag. judged_tag kind (tag.0 / 8) (tag.0 % 8) >>= λ wire. content_at wire tag.1 >>= λ content. Ok (record { number = tag.0 / 8; content = content.0 }, content.1)) x e in
    let b = bind_ok (judged_tag kind (a.0.0 / 8) (a.0.0 % 8)) (λ wire. content_at wire a.0.1 >>= λ content. Ok (record { number = a.0.0 / 8; content = content.0 }, content.1)) x a.2 in
    let c = bind_ok (content_at b.0 a.0.1) (λ content. Ok (record { number = a.0.0 / 8; content = content.0 }, content.1)) x b.2 in
    let q = pair_ok (record { number = a.0.0 / 8; content = c.0.0 }, c.0.1) x c.2 in
    let lt = uvarint-shorter bytes a.0 a.1 in
    let le = content-no_longer b.0 a.0.1 c.0 c.1 in
    field_rest (length bytes) (length a.0.1) (record { number = a.0.0 / 8; content = c.0.0 }) c.0.1 x lt le q

-- ---- fields

step_again : {X : Type 0} (most other : ℕ) (kind : Kind) (step : X → Field → Result X WireFault) (rest : List ℕ) (next : Result X WireFault) → ((n : X) → fields_in most kind step n rest ≡ fields_in other kind step n rest) → (next >>= λ n. fields_in most kind step n rest) ≡ (next >>= λ n. fields_in other kind step n rest)
step_again most other kind step rest (Ok n) again = again n
step_again most other kind step rest (Err e) again = refl

field_again : {X : Type 0} (most other : ℕ) (kind : Kind) (step : X → Field → Result X WireFault) (so_far : X) (bytes : List ℕ) (r : Result (Field × List ℕ) WireFault) → field_at kind bytes ≡ r → length bytes ≤ suc most → length bytes ≤ suc other
    → ((n : X) (rest : List ℕ) → length rest ≤ most → length rest ≤ other → fields_in most kind step n rest ≡ fields_in other kind step n rest)
    → (r >>= λ f. step so_far f.0 >>= λ n. fields_in most kind step n f.1) ≡ (r >>= λ f. step so_far f.0 >>= λ n. fields_in other kind step n f.1)
field_again most other kind step so_far bytes (Err e) h le1 le2 again = refl
field_again most other kind step so_far bytes (Ok f) h le1 le2 again =
    let lt = field-shorter kind bytes f h in
    let l1 : length f.1 ≤ most = omega arith in
    let l2 : length f.1 ≤ other = omega arith in
    step_again most other kind step f.1 (step so_far f.0) (λ n. again n f.1 l1 l2)

-- the bound on the number of fields does not matter if it is at least the number of bytes
pub enough : {X : Type 0} (most other : ℕ) (kind : Kind) (step : X → Field → Result X WireFault) (so_far : X) (bytes : List ℕ) → length bytes ≤ most → length bytes ≤ other → fields_in most kind step so_far bytes ≡ fields_in other kind step so_far bytes
unfolding fields_in
enough zero zero kind step so_far bytes le1 le2 = refl
enough zero (suc other) kind step so_far [] le1 le2 = refl
enough zero (suc other) kind step so_far (b ∷ bytes) le1 le2 = absurd (omega arith)
enough (suc most) zero kind step so_far [] le1 le2 = refl
enough (suc most) zero kind step so_far (b ∷ bytes) le1 le2 = absurd (omega arith)
enough (suc most) (suc other) kind step so_far [] le1 le2 = refl
enough (suc most) (suc other) kind step so_far (b ∷ bytes) le1 le2 =
    field_again most other kind step so_far (b ∷ bytes) (field_at kind (b ∷ bytes)) refl le1 le2 (λ n rest l1 l2. enough most other kind step n rest l1 l2)

-- one turn
pub more : {X : Type 0} (kind : Kind) (step : X → Field → Result X WireFault) (so_far : X) (bytes : List ℕ) (f : Field) (rest : List ℕ) → 0 < length bytes → field_at kind bytes ≡ Ok (f, rest) → read_fields kind step so_far bytes ≡ (step so_far f >>= λ next. read_fields kind step next rest)
unfolding fields_in
more kind step so_far [] f rest lt h = absurd (omega arith)
more kind step so_far (b ∷ bytes) f rest lt h =
    let s = field-shorter kind (b ∷ bytes) (f, rest) h in
    let le : length rest ≤ length bytes = omega arith in
    let same : length rest ≤ length rest = omega arith in
    rw h (step_again (length bytes) (length rest) kind step rest (step so_far f) (λ n. enough (length bytes) (length rest) kind step n rest le same))

pub goes_on : {X : Type 0} (kind : Kind) (step : X → Field → Result X WireFault) (so_far next : X) (bytes : List ℕ) (f : Field) (rest : List ℕ) (total : Result X WireFault) → 0 < length bytes → field_at kind bytes ≡ Ok (f, rest) → step so_far f ≡ Ok next → read_fields kind step so_far bytes ≡ total → read_fields kind step next rest ≡ total
goes_on kind step so_far next bytes f rest total lt h s inv =
    let one = more kind step so_far bytes f rest lt h in
    let two : read_fields kind step so_far bytes ≡ read_fields kind step next rest = one ∙ rw s refl in
    sym two ∙ inv

pub bad_field : {X : Type 0} (kind : Kind) (step : X → Field → Result X WireFault) (so_far : X) (bytes : List ℕ) (e : WireFault) (total : Result X WireFault) → 0 < length bytes → field_at kind bytes ≡ Err e → read_fields kind step so_far bytes ≡ total → total ≡ Err e
unfolding fields_in
bad_field kind step so_far [] e total lt h inv = absurd (omega arith)
bad_field kind step so_far (b ∷ bytes) e total lt h inv =
    let one : read_fields kind step so_far (b ∷ bytes) ≡ Err e = rw h refl in
    sym inv ∙ one

pub bad_step : {X : Type 0} (kind : Kind) (step : X → Field → Result X WireFault) (so_far : X) (bytes : List ℕ) (f : Field) (rest : List ℕ) (e : WireFault) (total : Result X WireFault) → 0 < length bytes → field_at kind bytes ≡ Ok (f, rest) → step so_far f ≡ Err e → read_fields kind step so_far bytes ≡ total → total ≡ Err e
bad_step kind step so_far bytes f rest e total lt h s inv =
    let one : read_fields kind step so_far bytes ≡ Err e = more kind step so_far bytes f rest lt h ∙ rw s refl in
    sym inv ∙ one

pub done : {X : Type 0} (kind : Kind) (step : X → Field → Result X WireFault) (so_far : X) (bytes : List ℕ) (total : Result X WireFault) → length bytes ≡ 0 → read_fields kind step so_far bytes ≡ total → total ≡ Ok so_far
unfolding fields_in
done kind step so_far [] total e inv = sym inv
done kind step so_far (b ∷ bytes) total e inv = absurd (omega arith)
