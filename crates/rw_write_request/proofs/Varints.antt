-- A varint that is read at the front is one by itself, whatever follows it.
use Rattle.std.proofs.Common.{◌≡◌, ℕ, zero, suc, ◌+◌, ◌-◌, ◌*◌, ◌^◌, ◌<◌, ltb, List, [], ◌∷◌, ◌++◌, length, Result, Ok, Err, refl, sym, ap, ◌∙◌, arith, inl, inr}
use Rattle.std.proofs.lemmas.List.{append-nil}
use Rattle.rw_codes.specs.declared.code_fault.CodeFault.{CodeFault}
use Rattle.rw_codes.specs.declared.code_fault.CodeFault.TheVariants.{TooBig}
use Rattle.rw_codes.specs.Varint.{◌>>=◌, number_in_groups, read_uvarint, uvarint}
use Rattle.rw_codes.proofs.shared.VarintLaws.{uvarint_again}
use Rattle.rw_write_request.specs.Fields.{IsUvarint}
use Rattle.rw_write_request.specs.Read.{in_message, uvarint_at}
use Rattle.rw_write_request.proofs.Results.{bind_ok, chosen, pair_ok}

abbrev Read : Type 0
Read = Result (ℕ × List ℕ) CodeFault

abbrev read : ℕ × List ℕ → Read
read x = Ok x

-- it takes at least one byte
groups_shorter : (k : ℕ) (bytes : List ℕ) (x : ℕ × List ℕ) → number_in_groups k bytes ≡ Ok x → length x.1 < length bytes
unfolding number_in_groups
groups_shorter zero [] x e = absurd cc
groups_shorter (suc k) [] x e = absurd cc
groups_shorter zero (b ∷ rest) x e =
    elim (chosen (ltb b 2) (read (b, rest)) (Err TooBig) (Ok x) e) [
      | inl p ↦ let q = pair_ok (b, rest) x p.1 in rw (← q) (omega arith)
      | inr p ↦ absurd (let r = p.1 in cc)
    ]
groups_shorter (suc k) (b ∷ rest) x e =
    elim (chosen (ltb b 128) (read (b, rest)) (number_in_groups k rest >>= λ high. Ok (b - 128 + 128 * high.0, high.1)) (Ok x) e) [
      | inl p ↦ let q = pair_ok (b, rest) x p.1 in rw (← q) (omega arith)
      | inr p ↦
          let h = bind_ok (number_in_groups k rest) (λ high. read (b - 128 + 128 * high.0, high.1)) x p.1 in
          let q = pair_ok (b - 128 + 128 * h.0.0, h.0.1) x h.2 in
          let lt : length h.0.1 < length rest = groups_shorter k rest h.0 h.1 in
          rw (← q) (omega arith)
    ]

-- the bytes of the number at the front
record Front (k : ℕ) (bytes : List ℕ) (x : ℕ × List ℕ) : Type 0 where
  front : List ℕ
  parts : bytes ≡ front ++ x.1
  is : number_in_groups k front ≡ Ok (x.0, [])

groups-take : (k : ℕ) (bytes : List ℕ) (x : ℕ × List ℕ) → number_in_groups k bytes ≡ Ok x → Front k bytes x
unfolding number_in_groups
groups-take zero [] x e = absurd cc
groups-take (suc k) [] x e = absurd cc
groups-take zero (b ∷ rest) x e =
    elim (chosen (ltb b 2) (read (b, rest)) (Err TooBig) (Ok x) e) [
      | inl p ↦
          let q = pair_ok (b, rest) x p.1 in
          rw (← q) (record { front = b ∷ []; parts = refl; is = rw p.0 refl })
      | inr p ↦ absurd (let r = p.1 in cc)
    ]
groups-take (suc k) (b ∷ rest) x e =
    elim (chosen (ltb b 128) (read (b, rest)) (number_in_groups k rest >>= λ high. Ok (b - 128 + 128 * high.0, high.1)) (Ok x) e) [
      | inl p ↦
          let q = pair_ok (b, rest) x p.1 in
          rw (← q) (record { front = b ∷ []; parts = refl; is = rw p.0 refl })
      | inr p ↦
          let h = bind_ok (number_in_groups k rest) (λ high. read (b - 128 + 128 * high.0, high.1)) x p.1 in
          let q = pair_ok (b - 128 + 128 * h.0.0, h.0.1) x h.2 in
          let t = groups-take k rest h.0 h.1 in
          rw (← q) (record { front = b ∷ t.front; parts = ap (λ (w : List ℕ). b ∷ w) t.parts; is = rw (p.0, t.is) refl })
    ]

-- more bytes change nothing
groups-again : (k : ℕ) (front : List ℕ) (x : ℕ × List ℕ) (rest : List ℕ) → number_in_groups k front ≡ Ok x → number_in_groups k (front ++ rest) ≡ Ok (x.0, x.1 ++ rest)
unfolding number_in_groups
groups-again zero [] x rest e = absurd cc
groups-again (suc k) [] x rest e = absurd cc
groups-again zero (b ∷ front) x rest e =
    elim (chosen (ltb b 2) (read (b, front)) (Err TooBig) (Ok x) e) [
      | inl p ↦ let q = pair_ok (b, front) x p.1 in rw (p.0, ← q) refl
      | inr p ↦ absurd (let r = p.1 in cc)
    ]
groups-again (suc k) (b ∷ front) x rest e =
    elim (chosen (ltb b 128) (read (b, front)) (number_in_groups k front >>= λ high. Ok (b - 128 + 128 * high.0, high.1)) (Ok x) e) [
      | inl p ↦ let q = pair_ok (b, front) x p.1 in rw (p.0, ← q) refl
      | inr p ↦
          let h = bind_ok (number_in_groups k front) (λ high. read (b - 128 + 128 * high.0, high.1)) x p.1 in
          let q = pair_ok (b - 128 + 128 * h.0.0, h.0.1) x h.2 in
          let again : number_in_groups (suc k) (b ∷ (front ++ rest)) ≡ read (b - 128 + 128 * h.0.0, h.0.1 ++ rest) = rw (p.0, groups-again k front h.0 rest h.1) refl in
          again ∙ ap (λ (y : ℕ × List ℕ). read (y.0, y.1 ++ rest)) q
    ]

-- ---- of 64 bits, in a message

in_message_ok : (r : Read) (x : ℕ × List ℕ) → in_message r ≡ Ok x → r ≡ Ok x
unfolding in_message
in_message_ok (Ok y) x e = ap read (pair_ok y x e)
in_message_ok (Err d) x e = absurd cc

pub record Uvarint (bytes : List ℕ) (n : ℕ) (rest : List ℕ) : Type 0 where
  pub front : List ℕ
  pub parts : bytes ≡ front ++ rest
  pub is : IsUvarint front n

pub uvarint-takes : (bytes : List ℕ) (x : ℕ × List ℕ) → uvarint_at bytes ≡ Ok x → Uvarint bytes x.0 x.1
uvarint-takes bytes x e =
    let t = groups-take 9 bytes x (in_message_ok (read_uvarint bytes) x e) in
    record { front = t.front; parts = t.parts; is = t.is }

pub uvarint-again : (front : List ℕ) (n : ℕ) (rest : List ℕ) → IsUvarint front n → uvarint_at (front ++ rest) ≡ Ok (n, rest)
unfolding in_message
uvarint-again front n rest h = ap in_message (groups-again 9 front (n, []) rest h)

pub uvarint-shorter : (bytes : List ℕ) (x : ℕ × List ℕ) → uvarint_at bytes ≡ Ok x → length x.1 < length bytes
uvarint-shorter bytes x e = groups_shorter 9 bytes x (in_message_ok (read_uvarint bytes) x e)

-- the shortest varint of a number is one of it
pub uvarint-is : (n : ℕ) → n < 2 ^ 64 → IsUvarint (uvarint n) n
uvarint-is n lt = ap read_uvarint (sym (append-nil (uvarint n))) ∙ uvarint_again n [] lt
