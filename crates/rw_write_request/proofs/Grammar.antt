-- A field that is read is one by the grammar, and each by the grammar is read.
use Rattle.std.proofs.Common.{◌≡◌, ℕ, zero, suc, ◌+◌, ◌*◌, ◌/◌, ◌%◌, ◌≤◌, ◌<◌, false, ltb, eqb, List, [], ◌∷◌, ◌++◌, length, take, drop, Option, Some, None, Result, Ok, Err, refl, sym, ap, subst, ◌∙◌, eq-eqb, arith, inl, inr, append_assoc}
use Rattle.std.specs.Prelude.{IfSome}
use Rattle.std.specs.Int.{w32, w64, from_le_bytes}
use Rattle.std.specs.List.{AllByRecursion}
use Rattle.std.proofs.lemmas.Bool.{ltb-false, le-ltb, eqb-true, ne_eqb, eqb-false}
use Rattle.std.proofs.lemmas.Nat.{div-mul-add, mod-mul-add}
use Rattle.std.proofs.lemmas.List.{take_at, drop_at, take-append-drop, length-append, length-take}
use Rattle.rw_codes.specs.Varint.{◌>>=◌}
use Rattle.rw_write_request.specs.declared.fault.WireFault.{WireFault}
use Rattle.rw_write_request.specs.declared.fault.WireFault.TheVariants.{Truncated, WrongWire, BadWire, FieldZero}
use Rattle.rw_write_request.specs.declared.kind.Kind.{Kind}
use Rattle.rw_write_request.specs.Fields.{IsUvarint, Content, Varint, Fixed64, Bytes, Fixed32, Field, wire_of, IsPayload, IsField, AreFields, known_wire, HasKnownWire}
use Rattle.rw_write_request.specs.Spells.{AreFieldsOf}
use Rattle.rw_write_request.specs.Read.{uvarint_at, bytes_at, content_at, known_judged, judged_tag, field_at, fields_in, read_fields}
use Rattle.rw_write_request.proofs.Results.{bind_ok, bind-is, guard_ok, chosen, pair_ok}
use Rattle.rw_write_request.proofs.Loop.{field-shorter, more, done}
use Rattle.rw_write_request.proofs.Varints.{Uvarint, uvarint-takes, uvarint-again}

-- ---- a number of bytes

pub bytes-take : (n : ℕ) (bytes : List ℕ) (x : List ℕ × List ℕ) → bytes_at n bytes ≡ Ok x → (bytes ≡ x.0 ++ x.1) × (length x.0 ≡ n)
bytes-take n bytes x e =
    let g = guard_ok (ltb (length bytes) n) Truncated (take n bytes, drop n bytes) x e in
    let long : n ≤ length bytes = ltb-false _ _ g.0 in
    subst (λ (y : List ℕ × List ℕ). (bytes ≡ y.0 ++ y.1) × (length y.0 ≡ n)) g.1 (sym (take-append-drop n bytes), omega (arith, length-take n bytes))

pub bytes-again : (n : ℕ) (held rest : List ℕ) → length held ≡ n → bytes_at n (held ++ rest) ≡ Ok (held, rest)
bytes-again n held rest e =
    let long : ltb (length (held ++ rest)) n ≡ false = le-ltb _ _ (omega (arith, length-append held rest)) in
    rw (long, take_at held rest n e, drop_at held rest n e) refl

-- ---- what a field holds

pub record Holds (wire : ℕ) (bytes : List ℕ) (content : Content) (rest : List ℕ) : Type 0 where
  pub payload : List ℕ
  pub parts : bytes ≡ payload ++ rest
  pub is : IsPayload payload content
  pub wired : wire_of content ≡ wire

pub content-takes : (wire : ℕ) (bytes : List ℕ) (x : Content × List ℕ) → content_at wire bytes ≡ Ok x → Holds wire bytes x.0 x.1
unfolding content_at
content-takes wire bytes x e =
    elim (chosen (eqb wire 0) _ _ (Ok x) e) [
      | inl p ↦
          let h = bind_ok (uvarint_at bytes) (λ n. Ok (Varint n.0, n.1)) x p.1 in
          let t = uvarint-takes bytes h.0 h.1 in
          let made : Holds wire bytes (Varint h.0.0) h.0.1 = record { payload = t.front; parts = t.parts; is = t.is; wired = sym (eqb-true wire 0 p.0) } in
          subst (λ (y : Content × List ℕ). Holds wire bytes y.0 y.1) (pair_ok (Varint h.0.0, h.0.1) x h.2) made
      | inr p ↦ elim (chosen (eqb wire 1) _ _ (Ok x) p.1) [
        | inl p ↦
            let h = bind_ok (bytes_at 8 bytes) (λ held. Ok (Fixed64 (from_le_bytes w64 held.0), held.1)) x p.1 in
            let t = bytes-take 8 bytes h.0 h.1 in
            let made : Holds wire bytes (Fixed64 (from_le_bytes w64 h.0.0)) h.0.1 = record { payload = h.0.0; parts = t.0; is = (t.1, refl); wired = sym (eqb-true wire 1 p.0) } in
            subst (λ (y : Content × List ℕ). Holds wire bytes y.0 y.1) (pair_ok (Fixed64 (from_le_bytes w64 h.0.0), h.0.1) x h.2) made
        | inr p ↦ elim (chosen (eqb wire 2) _ _ (Ok x) p.1) [
          | inl p ↦
              let g = bind_ok (uvarint_at bytes) (λ len. bytes_at len.0 len.1 >>= λ held. Ok (Bytes held.0, held.1)) x p.1 in
              let h = bind_ok (bytes_at g.0.0 g.0.1) (λ held. Ok (Bytes held.0, held.1)) x g.2 in
              let s = uvarint-takes bytes g.0 g.1 in
              let t = bytes-take g.0.0 g.0.1 h.0 h.1 in
              let len : IsUvarint s.front (length h.0.0) = rw t.1 s.is in
              let made : Holds wire bytes (Bytes h.0.0) h.0.1 = record {
                payload = s.front ++ h.0.0;
                parts = s.parts ∙ ap (λ (w : List ℕ). s.front ++ w) t.0 ∙ sym (append_assoc s.front h.0.0 h.0.1);
                is = (s.front, len, refl);
                wired = sym (eqb-true wire 2 p.0);
              } in
              subst (λ (y : Content × List ℕ). Holds wire bytes y.0 y.1) (pair_ok (Bytes h.0.0, h.0.1) x h.2) made
          | inr p ↦ elim (chosen (eqb wire 5) _ _ (Ok x) p.1) [
            | inl p ↦
                let h = bind_ok (bytes_at 4 bytes) (λ held. Ok (Fixed32 (from_le_bytes w32 held.0), held.1)) x p.1 in
                let t = bytes-take 4 bytes h.0 h.1 in
                let made : Holds wire bytes (Fixed32 (from_le_bytes w32 h.0.0)) h.0.1 = record { payload = h.0.0; parts = t.0; is = (t.1, refl); wired = sym (eqb-true wire 5 p.0) } in
                subst (λ (y : Content × List ℕ). Holds wire bytes y.0 y.1) (pair_ok (Fixed32 (from_le_bytes w32 h.0.0), h.0.1) x h.2) made
            | inr p ↦ absurd (let r = p.1 in cc)
          ]
        ]
      ]
    ]

pub content-again : (content : Content) (payload rest : List ℕ) → IsPayload payload content → content_at (wire_of content) (payload ++ rest) ≡ Ok (content, rest)
unfolding content_at
content-again (Varint n) payload rest h = rw (uvarint-again payload n rest h) refl
content-again (Fixed64 n) payload rest h = rw (bytes-again 8 payload rest h.0, h.1) refl
content-again (Bytes held) payload rest h =
    let regrouped : payload ++ rest ≡ h.0 ++ (held ++ rest) = ap (λ (w : List ℕ). w ++ rest) h.2 ∙ append_assoc h.0 held rest in
    rw (regrouped, uvarint-again h.0 (length held) (held ++ rest) h.1, bytes-again (length held) held rest refl) refl
content-again (Fixed32 n) payload rest h = rw (bytes-again 4 payload rest h.0, h.1) refl

-- ---- the tag

pub record Judged (kind : Kind) (number wire w : ℕ) : Type 0 where
  pub same : w ≡ wire
  pub numbered : 0 < number
  pub known : IfSome (known_wire kind number) (λ k. wire ≡ k)

known-takes : (o : Option ℕ) (wire w : ℕ) → known_judged o wire ≡ Ok w → (w ≡ wire) × IfSome o (λ k. wire ≡ k)
unfolding known_judged
known-takes None wire w e = (cc, tt)
known-takes (Some k) wire w e =
    elim (chosen (eqb wire k) (Ok wire) (Err WrongWire) (Ok w) e) [
      | inl p ↦ (let r = p.1 in cc, eqb-true wire k p.0)
      | inr p ↦ absurd (let r = p.1 in cc)
    ]

pub known-again : (o : Option ℕ) (wire : ℕ) → IfSome o (λ k. wire ≡ k) → known_judged o wire ≡ Ok wire
unfolding known_judged
known-again None wire h = refl
known-again (Some k) wire h = rw (eq-eqb wire k h) refl

pub judged-takes : (kind : Kind) (number wire w : ℕ) → judged_tag kind number wire ≡ Ok w → Judged kind number wire w
unfolding judged_tag
judged-takes kind number wire w e =
    elim (chosen (eqb number 0) (Err FieldZero) _ (Ok w) e) [
      | inl p ↦ absurd (let r = p.1 in cc)
      | inr p ↦
          let numbered : 0 < number = omega (arith, eqb-false number 0 p.0) in
          let known : known_judged (known_wire kind number) wire ≡ Ok w = elim (chosen (ltb wire 3) (known_judged (known_wire kind number) wire) _ (Ok w) p.1) [
            | inl q ↦ q.1
            | inr q ↦ elim (chosen (eqb wire 5) (known_judged (known_wire kind number) wire) (Err BadWire) (Ok w) q.1) [
              | inl q ↦ q.1
              | inr q ↦ absurd (let r = q.1 in cc)
            ]
          ] in
          let t = known-takes (known_wire kind number) wire w known in
          record { same = t.0; numbered = numbered; known = t.1 }
    ]

pub judged-again : (kind : Kind) (number : ℕ) (content : Content) → 0 < number → IfSome (known_wire kind number) (λ k. wire_of content ≡ k) → judged_tag kind number (wire_of content) ≡ Ok (wire_of content)
unfolding judged_tag
judged-again kind number (Varint _) lt h = let e : eqb number 0 ≡ false = ne_eqb number 0 (omega arith) in rw e (known-again (known_wire kind number) 0 h)
judged-again kind number (Fixed64 _) lt h = let e : eqb number 0 ≡ false = ne_eqb number 0 (omega arith) in rw e (known-again (known_wire kind number) 1 h)
judged-again kind number (Bytes _) lt h = let e : eqb number 0 ≡ false = ne_eqb number 0 (omega arith) in rw e (known-again (known_wire kind number) 2 h)
judged-again kind number (Fixed32 _) lt h = let e : eqb number 0 ≡ false = ne_eqb number 0 (omega arith) in rw e (known-again (known_wire kind number) 5 h)

-- ---- a field

pub record TakesField (kind : Kind) (bytes : List ℕ) (f : Field) (rest : List ℕ) : Type 0 where
  pub front : List ℕ
  pub parts : bytes ≡ front ++ rest
  pub is : IsField front f
  pub wire : HasKnownWire kind f

split_tag : (tag : ℕ) → tag / 8 * 8 + tag % 8 ≡ tag
split_tag tag = omega arith

field_made : (kind : Kind) (bytes : List ℕ) (tag : ℕ × List ℕ) (wire : ℕ) (content : Content × List ℕ) (x : Field × List ℕ) → Uvarint bytes tag.0 tag.1 → Judged kind (tag.0 / 8) (tag.0 % 8) wire → Holds wire tag.1 content.0 content.1 → (let made : Field × List ℕ = (record { number = tag.0 / 8; content = content.0 }, content.1) in made ≡ x) → TakesField kind bytes x.0 x.1
field_made kind bytes tag wire content x t j c q =
    let wired : wire_of content.0 ≡ tag.0 % 8 = c.wired ∙ j.same in
    let joined : tag.0 ≡ tag.0 / 8 * 8 + wire_of content.0 = rw wired (sym (split_tag tag.0)) in
    let made : TakesField kind bytes (record { number = tag.0 / 8; content = content.0 }) content.1 = record {
      front = t.front ++ c.payload;
      parts = t.parts ∙ ap (λ (w : List ℕ). t.front ++ w) c.parts ∙ sym (append_assoc t.front c.payload content.1);
      is = record { tag = t.front; payload = c.payload; parts = refl; numbered = j.numbered; is_tag = subst (λ (k : ℕ). IsUvarint t.front k) joined t.is; is_payload = c.is };
      wire = rw wired j.known;
    } in
    subst (λ (y : Field × List ℕ). TakesField kind bytes y.0 y.1) q made

wire-below : (content : Content) → wire_of content < 8
wire-below (Varint _) = omega arith
wire-below (Fixed64 _) = omega arith
wire-below (Bytes _) = omega arith
wire-below (Fixed32 _) = omega arith

pub field-takes : (kind : Kind) (bytes : List ℕ) (x : Field × List ℕ) → field_at kind bytes ≡ Ok x → TakesField kind bytes x.0 x.1
unfolding field_at
field-takes kind bytes x e =
    let a = bind_ok (uvarint_at bytes) (λ tag. judged_tag kind (tag.0 / 8) (tag.0 % 8) >>= λ wire. content_at wire tag.1 >>= λ content. Ok (record { number = tag.0 / 8; content = content.0 }, content.1)) x e in
    let b = bind_ok (judged_tag kind (a.0.0 / 8) (a.0.0 % 8)) (λ wire. content_at wire a.0.1 >>= λ content. Ok (record { number = a.0.0 / 8; content = content.0 }, content.1)) x a.2 in
    let c = bind_ok (content_at b.0 a.0.1) (λ content. Ok (record { number = a.0.0 / 8; content = content.0 }, content.1)) x b.2 in
    field_made kind bytes a.0 b.0 c.0 x (uvarint-takes bytes a.0 a.1) (judged-takes kind (a.0.0 / 8) (a.0.0 % 8) b.0 b.1) (content-takes b.0 a.0.1 c.0 c.1) (pair_ok (record { number = a.0.0 / 8; content = c.0.0 }, c.0.1) x c.2)

pub field-again : (kind : Kind) (front : List ℕ) (f : Field) (rest : List ℕ) → IsField front f → HasKnownWire kind f → field_at kind (front ++ rest) ≡ Ok (f, rest)
unfolding field_at
field-again kind front f rest h known =
    let regrouped : front ++ rest ≡ h.tag ++ (h.payload ++ rest) = ap (λ (w : List ℕ). w ++ rest) h.parts ∙ append_assoc h.tag h.payload rest in
    let low : wire_of f.content < 8 = wire-below f.content in
    rw (regrouped, uvarint-again h.tag (f.number * 8 + wire_of f.content) (h.payload ++ rest) h.is_tag, div-mul-add f.number 8 (wire_of f.content) low, mod-mul-add f.number 8 (wire_of f.content) low, judged-again kind f.number f.content h.numbered known, content-again f.content h.payload rest h.is_payload) refl

-- ---- fields

abbrev pub fold_fields : {X : Type 0} → (X → Field → Result X WireFault) → X → List Field → Result X WireFault
fold_fields step so_far [] = Ok so_far
fold_fields step so_far (f ∷ fs) = step so_far f >>= λ next. fold_fields step next fs

pub record TakesFields {X : Type 0} (kind : Kind) (step : X → Field → Result X WireFault) (so_far : X) (bytes : List ℕ) (x : X) : Type 0 where
  pub fields : List Field
  pub spelled : AreFields bytes fields
  pub wires : AllByRecursion (HasKnownWire kind) fields
  pub folded : fold_fields step so_far fields ≡ Ok x

fields-take : {X : Type 0} (most : ℕ) (kind : Kind) (step : X → Field → Result X WireFault) (so_far : X) (bytes : List ℕ) (x : X) → fields_in most kind step so_far bytes ≡ Ok x → TakesFields kind step so_far bytes x
unfolding fields_in
fields-take zero kind step so_far [] x e = record { fields = []; spelled = refl; wires = tt; folded = e }
fields-take zero kind step so_far (b ∷ bytes) x e = absurd cc
fields-take (suc most) kind step so_far [] x e = record { fields = []; spelled = refl; wires = tt; folded = e }
fields-take (suc most) kind step so_far (b ∷ bytes) x e =
    let f = bind_ok (field_at kind (b ∷ bytes)) (λ f. step so_far f.0 >>= λ next. fields_in most kind step next f.1) x e in
    let n = bind_ok (step so_far f.0.0) (λ next. fields_in most kind step next f.0.1) x f.2 in
    let t = field-takes kind (b ∷ bytes) f.0 f.1 in
    let h = fields-take most kind step n.0 f.0.1 x n.2 in
    record { fields = f.0.0 ∷ h.fields; spelled = (t.front, f.0.1, t.parts, t.is, h.spelled); wires = (t.wire, h.wires); folded = bind-is (step so_far f.0.0) (λ next. fold_fields step next h.fields) n.0 (Ok x) n.1 h.folded }

pub read-takes : {X : Type 0} (kind : Kind) (step : X → Field → Result X WireFault) (so_far : X) (bytes : List ℕ) (x : X) → read_fields kind step so_far bytes ≡ Ok x → TakesFields kind step so_far bytes x
read-takes kind step so_far bytes x e = fields-take (length bytes) kind step so_far bytes x e

bind_same : {A B : Type 0} (r : Result A WireFault) (f g : A → Result B WireFault) → ((x : A) → f x ≡ g x) → (r >>= f) ≡ (r >>= g)
bind_same (Ok x) f g h = h x
bind_same (Err e) f g h = refl

fields-again : {X : Type 0} (kind : Kind) (step : X → Field → Result X WireFault) (so_far : X) (bytes : List ℕ) (fs : List Field) → AreFields bytes fs → AllByRecursion (HasKnownWire kind) fs → read_fields kind step so_far bytes ≡ fold_fields step so_far fs
fields-again kind step so_far bytes [] h w = done kind step so_far bytes (read_fields kind step so_far bytes) (ap length h) refl
fields-again kind step so_far bytes (f ∷ fs) h w =
    let rest = h.1 in
    let e : field_at kind bytes ≡ Ok (f, rest) = ap (field_at kind) h.2 ∙ field-again kind h.0 f rest h.3 w.0 in
    let s = field-shorter kind bytes (f, rest) e in
    let lt : 0 < length bytes = omega arith in
    more kind step so_far bytes f rest lt e ∙ bind_same (step so_far f) (λ n. read_fields kind step n rest) (λ n. fold_fields step n fs) (λ n. fields-again kind step n rest fs h.4 w.1)

pub read-again : {X : Type 0} (kind : Kind) (step : X → Field → Result X WireFault) (so_far : X) (bytes : List ℕ) (fs : List Field) → AreFieldsOf kind bytes fs → read_fields kind step so_far bytes ≡ fold_fields step so_far fs
read-again kind step so_far bytes fs h = fields-again kind step so_far bytes fs h.spelled h.wires
