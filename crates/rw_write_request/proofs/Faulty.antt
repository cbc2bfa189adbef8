-- A message that is not read has its first fault where reading stops.
use Rattle.std.proofs.Common.{◌≡◌, ◌≢◌, ◌⊎◌, ℕ, zero, suc, ◌+◌, ◌*◌, ◌/◌, ◌%◌, ◌≤◌, ◌<◌, pos, ltb, eqb, List, [], ◌∷◌, ◌++◌, length, take, drop, Option, Some, None, Result, Ok, Err, refl, sym, ap, subst, ◌∙◌, arith, inl, inr, append_assoc}
use Rattle.std.specs.Prelude.{IfSome, IsUtf8}
use Rattle.std.specs.Int.{w32, w64, from_le_bytes}
use Rattle.std.specs.Str.{is_utf8}
use Rattle.std.proofs.lemmas.Bool.{ltb-false, ltb-true, eqb-true, eqb-false}
use Rattle.std.proofs.lemmas.Str.{is_utf8-from_IsUtf8}
use Rattle.rw_codes.specs.Varint.{◌>>=◌, read_uvarint}
use Rattle.rw_codes.specs.declared.code_fault.CodeFault.{CodeFault}
use Rattle.rw_write_request.specs.declared.fault.WireFault.{WireFault}
use Rattle.rw_write_request.specs.declared.fault.WireFault.TheVariants.{Truncated, WrongWire, BadWire, FieldZero, NotUtf8}
use Rattle.rw_write_request.specs.declared.kind.Kind.{Kind}
use Rattle.rw_write_request.specs.declared.kind.Kind.TheVariants as kinds
use Rattle.rw_types.specs.Labels.{Label}
use Rattle.rw_write_request.specs.Message.{Sample, TimeSeries, WriteRequest}
use Rattle.rw_write_request.specs.Fields.{Content, Varint, Fixed64, Bytes, Fixed32, Field, IsUvarint, wire_of, known_wire, HasKnownWire}
use Rattle.rw_write_request.specs.Spells.{IsText, SpellsLabel, SpellsSample, SpellsSeries}
use Rattle.rw_write_request.specs.Read.{varint_fault, in_message, uvarint_at, bytes_at, content_at, known_judged, judged_tag, field_at, fields_in, text, word, timestamp, nested, label_step, read_label, sample_step, read_sample, series_step, read_series, request_step, read}
use Rattle.rw_write_request.specs.Faults.{VarintFault, TooFew, ContentFault, IsWire, IsMisfit, TagFault, IsTag, TaggedFault, FieldFault, FirstFault, HoldsSpelling, FaultyText, IsLabelField, LabelFault, SampleFault, FaultOf, IsSeriesField, SeriesFault, IsRequestField, RequestFault}
use Rattle.rw_write_request.proofs.Results.{bind_ok, chosen}
use Rattle.rw_write_request.proofs.Varints.{uvarint-takes}
use Rattle.rw_write_request.proofs.Loop.{field-shorter}
use Rattle.rw_write_request.proofs.Grammar.{field-takes, judged-takes}
use Rattle.rw_write_request.proofs.shared.Meanings.{text-takes, label-takes, sample-takes, series-takes}

-- which step failed
bind_err : {A B : Type 0} (r : Result A WireFault) (f : A → Result B WireFault) (e : WireFault) → (r >>= f) ≡ Err e → (r ≡ Err e) ⊎ ((x : A) × (r ≡ Ok x) × (f x ≡ Err e))
bind_err (Ok x) f e h = inr (x, refl, h)
bind_err (Err d) f e h = inl (let q : d ≡ e = cc in ap (λ (y : WireFault). Err y) q)

fault_is : {A : Type 0} (d e : WireFault) → (let no : WireFault → Result A WireFault = λ z. Err z in no d ≡ no e) → e ≡ d
fault_is d e h = cc

varint_err : (r : Result (ℕ × List ℕ) CodeFault) (e : WireFault) → in_message r ≡ Err e → (f : CodeFault) × (r ≡ Err f) × (e ≡ varint_fault f)
unfolding in_message
varint_err (Ok x) e h = absurd cc
varint_err (Err f) e h = (f, refl, cc)

uvarint-err : (bytes : List ℕ) (e : WireFault) → uvarint_at bytes ≡ Err e → VarintFault bytes e
uvarint-err bytes e h = varint_err (read_uvarint bytes) e h

bytes-err : (n : ℕ) (bytes : List ℕ) (e : WireFault) → bytes_at n bytes ≡ Err e → TooFew n bytes e
bytes-err n bytes e h =
    elim (chosen (ltb (length bytes) n) (Err Truncated) (Ok (take n bytes, drop n bytes)) (Err e) h) [
      | inl p ↦ (ltb-true (length bytes) n p.0, let q = p.1 in cc)
      | inr p ↦ absurd (let q = p.1 in cc)
    ]

-- ---- what a field holds

same_fault : {A B : Type 0} (r : Result A WireFault) (f : A → Result B WireFault) (e : WireFault) → (r >>= f) ≡ Err e → ((x : A) (d : WireFault) → f x ≢ Err d) → r ≡ Err e
same_fault (Ok x) f e h never = absurd (never x e h)
same_fault (Err d) f e h never = let q : d ≡ e = cc in ap (λ (y : WireFault). Err y) q

content-err : (wire : ℕ) (bytes : List ℕ) (e : WireFault) → IsWire wire → content_at wire bytes ≡ Err e → ContentFault wire bytes e
unfolding content_at
content-err wire bytes e known h =
    elim (chosen (eqb wire 0) _ _ (Err e) h) [
      | inl p ↦ inl (eqb-true wire 0 p.0, uvarint-err bytes e (same_fault (uvarint_at bytes) (λ n. Ok (Varint n.0, n.1)) e p.1 (λ x d b. absurd cc)))
      | inr p ↦ elim (chosen (eqb wire 1) _ _ (Err e) p.1) [
        | inl q ↦ inr (inl (eqb-true wire 1 q.0, bytes-err 8 bytes e (same_fault (bytes_at 8 bytes) (λ held. Ok (Fixed64 (from_le_bytes w64 held.0), held.1)) e q.1 (λ x d b. absurd cc))))
        | inr q ↦ elim (chosen (eqb wire 2) _ _ (Err e) q.1) [
          | inl t ↦ inr (inr (inl (
            eqb-true wire 2 t.0,
            elim (bind_err (uvarint_at bytes) (λ len. bytes_at len.0 len.1 >>= λ held. Ok (Bytes held.0, held.1)) e t.1) [
              | inl u ↦ inl (uvarint-err bytes e u)
              | inr u ↦
                  let v = uvarint-takes bytes u.0 u.1 in
                  let few = bytes-err u.0.0 u.0.1 e (same_fault (bytes_at u.0.0 u.0.1) (λ held. Ok (Bytes held.0, held.1)) e u.2 (λ x d b. absurd cc)) in
                  inr (record { len = v.front; rest = u.0.1; n = u.0.0; parts = v.parts; is_len = v.is; few = few })
            ],
          )))
          | inr t ↦ elim (chosen (eqb wire 5) _ _ (Err e) t.1) [
            | inl u ↦ inr (inr (inr (eqb-true wire 5 u.0, bytes-err 4 bytes e (same_fault (bytes_at 4 bytes) (λ held. Ok (Fixed32 (from_le_bytes w32 held.0), held.1)) e u.1 (λ x d b. absurd cc)))))
            | inr u ↦ absurd (no_wire wire known (eqb-false wire 0 p.0) (eqb-false wire 1 q.0) (eqb-false wire 2 t.0) (eqb-false wire 5 u.0))
          ]
        ]
      ]
    ]
  where
    no_wire : (wire : ℕ) → IsWire wire → wire ≢ 0 → wire ≢ 1 → wire ≢ 2 → wire ≢ 5 → ⊥
    no_wire wire (inl lt) n0 n1 n2 n5 = omega arith
    no_wire wire (inr is) n0 n1 n2 n5 = n5 is

-- ---- the tag

known-err : (o : Option ℕ) (wire : ℕ) (e : WireFault) → known_judged o wire ≡ Err e → IsMisfit o wire × (e ≡ WrongWire)
unfolding known_judged
known-err None wire e h = absurd cc
known-err (Some w) wire e h =
    elim (chosen (eqb wire w) (Ok wire) (Err WrongWire) (Err e) h) [
      | inl p ↦ absurd (let q = p.1 in cc)
      | inr p ↦ ((w, refl, eqb-false wire w p.0), let q = p.1 in cc)
    ]

judged_wire : (kind : Kind) (number wire w : ℕ) → judged_tag kind number wire ≡ Ok w → IsWire wire
unfolding judged_tag
judged_wire kind number wire w h =
    elim (chosen (eqb number 0) (Err FieldZero) _ (Ok w) h) [
      | inl p ↦ absurd (let q = p.1 in cc)
      | inr p ↦ elim (chosen (ltb wire 3) (known_judged (known_wire kind number) wire) _ (Ok w) p.1) [
        | inl q ↦ inl (ltb-true wire 3 q.0)
        | inr q ↦ elim (chosen (eqb wire 5) (known_judged (known_wire kind number) wire) (Err BadWire) (Ok w) q.1) [
          | inl t ↦ inr (eqb-true wire 5 t.0)
          | inr t ↦ absurd (let u = t.1 in cc)
        ]
      ]
    ]

not_wire : (wire : ℕ) → 3 ≤ wire → wire ≢ 5 → ¬ (IsWire wire)
not_wire wire le n (inl lt) = absurd (omega arith)
not_wire wire le n (inr is) = absurd (n is)

judged-err : (kind : Kind) (number wire : ℕ) (e : WireFault) → judged_tag kind number wire ≡ Err e → TagFault kind number wire e
unfolding judged_tag
judged-err kind number wire e h =
    elim (chosen (eqb number 0) (Err FieldZero) _ (Err e) h) [
      | inl p ↦ inl (eqb-true number 0 p.0, let q = p.1 in cc)
      | inr p ↦
          let some : 0 < number = omega (arith, eqb-false number 0 p.0) in
          elim (chosen (ltb wire 3) (known_judged (known_wire kind number) wire) _ (Err e) p.1) [
            | inl q ↦ let k = known-err (known_wire kind number) wire e q.1 in inr (inr (some, inl (ltb-true wire 3 q.0), k.0, k.1))
            | inr q ↦ elim (chosen (eqb wire 5) (known_judged (known_wire kind number) wire) (Err BadWire) (Err e) q.1) [
              | inl t ↦ let k = known-err (known_wire kind number) wire e t.1 in inr (inr (some, inr (eqb-true wire 5 t.0), k.0, k.1))
              | inr t ↦ inr (inl (some, not_wire wire (ltb-false wire 3 q.0) (eqb-false wire 5 t.0), let u = t.1 in cc))
            ]
          ]
    ]

-- ---- a field

tagged : (kind : Kind) (bytes : List ℕ) (tag : ℕ × List ℕ) (e : WireFault) → uvarint_at bytes ≡ Ok tag → TagFault kind (tag.0 / 8) (tag.0 % 8) e ⊎ (IsTag kind (tag.0 / 8) (tag.0 % 8) × ContentFault (tag.0 % 8) tag.1 e) → TaggedFault kind bytes e
tagged kind bytes tag e h fault =
    let t = uvarint-takes bytes tag h in
    let split : tag.0 ≡ tag.0 / 8 * 8 + tag.0 % 8 = omega arith in
    record { tag = t.front; rest = tag.1; number = tag.0 / 8; wire = tag.0 % 8; parts = t.parts; low = omega arith; is_tag = subst (λ (n : ℕ). IsUvarint t.front n) split t.is; fault = fault }

field-err : (kind : Kind) (bytes : List ℕ) (e : WireFault) → field_at kind bytes ≡ Err e → FieldFault kind bytes e
unfolding field_at
field-err kind bytes e h =
    elim (bind_err (uvarint_at bytes) (λ tag. judged_tag kind (tag.0 / 8) (tag.0 % 8) >>= λ wire. content_at wire tag.1 >>= λ content. Ok (record { number = tag.0 / 8; content = content.0 }, content.1)) e h) [
      | inl p ↦ inl (uvarint-err bytes e p)
      | inr p ↦ inr (tagged kind bytes p.0 e p.1 (elim (bind_err (judged_tag kind (p.0.0 / 8) (p.0.0 % 8)) (λ wire. content_at wire p.0.1 >>= λ content. Ok (record { number = p.0.0 / 8; content = content.0 }, content.1)) e p.2) [
        | inl q ↦ inl (judged-err kind (p.0.0 / 8) (p.0.0 % 8) e q)
        | inr q ↦
            let j = judged-takes kind (p.0.0 / 8) (p.0.0 % 8) q.0 q.1 in
            let w = judged_wire kind (p.0.0 / 8) (p.0.0 % 8) q.0 q.1 in
            let c = same_fault (content_at q.0 p.0.1) (λ content. Ok (record { number = p.0.0 / 8; content = content.0 }, content.1)) e q.2 (λ x d b. absurd cc) in
            inr ((j.numbered, j.known), content-err (p.0.0 % 8) p.0.1 e w (ap (λ (k : ℕ). content_at k p.0.1) (sym j.same) ∙ c))
      ]))
    ]

-- ---- fields

cons_is_more : (b : ℕ) (bytes : List ℕ) → b ∷ bytes ≢ []
cons_is_more b bytes h = absurd (let n = ap length h in omega arith)

fields-err : {X : Type 0} (most : ℕ) (kind : Kind) (step : X → Field → Result X WireFault) (Sound : Field → Type 0) (Inner : Field → WireFault → Type 0)
    → ((s next : X) (f : Field) → HasKnownWire kind f → step s f ≡ Ok next → Sound f) → ((s : X) (f : Field) (e : WireFault) → HasKnownWire kind f → step s f ≡ Err e → Inner f e)
    → (so_far : X) (bytes : List ℕ) (e : WireFault) → length bytes ≤ most → fields_in most kind step so_far bytes ≡ Err e → FirstFault kind Sound Inner bytes e
unfolding fields_in
fields-err zero kind step Sound Inner sound inner so_far [] e le h = absurd cc
fields-err (suc most) kind step Sound Inner sound inner so_far [] e le h = absurd cc
fields-err zero kind step Sound Inner sound inner so_far (b ∷ bytes) e le h = absurd (omega arith)
fields-err (suc most) kind step Sound Inner sound inner so_far (b ∷ bytes) e le h =
    elim (bind_err (field_at kind (b ∷ bytes)) (λ f. step so_far f.0 >>= λ next. fields_in most kind step next f.1) e h) [
      | inl p ↦ record { before = []; rest = b ∷ bytes; fields = []; parts = refl; more = cons_is_more b bytes; are = record { spelled = refl; wires = tt }; sound = tt; fault = inl (field-err kind (b ∷ bytes) e p) }
      | inr p ↦
          let f = p.0 in
          let t = field-takes kind (b ∷ bytes) f p.1 in
          elim (bind_err (step so_far f.0) (λ next. fields_in most kind step next f.1) e p.2) [
            | inl q ↦ record {
              before = [];
              rest = b ∷ bytes;
              fields = [];
              parts = refl;
              more = cons_is_more b bytes;
              are = record { spelled = refl; wires = tt };
              sound = tt;
              fault = inr (record { front = t.front; rest = f.1; field = f.0; parts = t.parts; is = t.is; wire = t.wire; inner = inner so_far f.0 e t.wire q });
            }
            | inr q ↦
                let lt = field-shorter kind (b ∷ bytes) f p.1 in
                let fewer : length f.1 ≤ most = omega arith in
                let r = fields-err most kind step Sound Inner sound inner q.0 f.1 e fewer q.2 in
                record {
                  before = t.front ++ r.before;
                  rest = r.rest;
                  fields = f.0 ∷ r.fields;
                  parts = t.parts ∙ ap (λ (w : List ℕ). t.front ++ w) r.parts ∙ sym (append_assoc t.front r.before r.rest);
                  more = r.more;
                  are = record { spelled = (t.front, r.before, refl, t.is, r.are.spelled); wires = (t.wire, r.are.wires) };
                  sound = (sound so_far q.0 f.0 t.wire q.1, r.sound);
                  fault = r.fault;
                }
          ]
    ]

-- ---- what known fields hold

pub wire_at : (kind : Kind) (k w : ℕ) (f : Field) → known_wire kind k ≡ Some w → f.number ≡ k → HasKnownWire kind f → wire_of f.content ≡ w
wire_at kind k w f e n h =
    let known : IfSome (known_wire kind k) (λ x. wire_of f.content ≡ x) = subst (λ (j : ℕ). IfSome (known_wire kind j) (λ x. wire_of f.content ≡ x)) n h in
    subst (λ (o : Option ℕ). IfSome o (λ x. wire_of f.content ≡ x)) e known

text_err : (c : Content) (e : WireFault) → wire_of c ≡ 2 → text c ≡ Err e → ((bytes : List ℕ) × (c ≡ Bytes bytes) × ¬ (IsUtf8 bytes)) × (e ≡ NotUtf8)
unfolding text
text_err (Bytes bytes) e w h =
    elim (chosen (is_utf8 bytes) (Ok bytes) (Err NotUtf8) (Err e) h) [
      | inl p ↦ absurd (let q = p.1 in cc)
      | inr p ↦ ((bytes, refl, λ u. absurd (let q = is_utf8-from_IsUtf8 bytes u in let r = p.0 in cc)), let q = p.1 in cc)
    ]
text_err (Varint n) e w h = absurd (omega arith)
text_err (Fixed64 n) e w h = absurd (omega arith)
text_err (Fixed32 n) e w h = absurd (omega arith)

word_ok : (c : Content) (e : WireFault) → wire_of c ≡ 1 → word c ≢ Err e
unfolding word
word_ok (Fixed64 n) e w h = absurd cc
word_ok (Varint n) e w h = absurd (omega arith)
word_ok (Bytes n) e w h = absurd (omega arith)
word_ok (Fixed32 n) e w h = absurd (omega arith)

timestamp_ok : (c : Content) (e : WireFault) → wire_of c ≡ 0 → timestamp c ≢ Err e
unfolding timestamp
timestamp_ok (Varint n) e w h = absurd cc
timestamp_ok (Fixed64 n) e w h = absurd (omega arith)
timestamp_ok (Bytes n) e w h = absurd (omega arith)
timestamp_ok (Fixed32 n) e w h = absurd (omega arith)

nested_err : {X : Type 0} (reader : List ℕ → Result X WireFault) (c : Content) (e : WireFault) → wire_of c ≡ 2 → nested reader c ≡ Err e → (bytes : List ℕ) × (c ≡ Bytes bytes) × (reader bytes ≡ Err e)
unfolding nested
nested_err reader (Bytes bytes) e w h = (bytes, refl, h)
nested_err reader (Varint n) e w h = absurd (omega arith)
nested_err reader (Fixed64 n) e w h = absurd (omega arith)
nested_err reader (Fixed32 n) e w h = absurd (omega arith)

nested_holds : {X : Type 0} (reader : List ℕ → Result X WireFault) (Spelling : List ℕ → X → Type 0) → ((bytes : List ℕ) (x : X) → reader bytes ≡ Ok x → Spelling bytes x)
    → (c : Content) (x : X) → nested reader c ≡ Ok x → HoldsSpelling Spelling c
unfolding nested
nested_holds reader Spelling h (Bytes bytes) x e = (bytes, x, refl, h bytes x e)
nested_holds reader Spelling h (Varint n) x e = absurd cc
nested_holds reader Spelling h (Fixed64 n) x e = absurd cc
nested_holds reader Spelling h (Fixed32 n) x e = absurd cc

-- ---- Label

is_text : (c : Content) (s : List ℕ) → text c ≡ Ok s → IsText c
is_text c s h = let t = text-takes c s h in rw t.0 t.1

label-sound : (s next : Label) (f : Field) → HasKnownWire kinds.Label f → label_step s f ≡ Ok next → IsLabelField f
unfolding label_step
label-sound s next f wire h = (
  λ n.
      let e : label_step s f ≡ (text f.content >>= λ name. Ok (name, s.1)) = rw n refl in
      let b = bind_ok (text f.content) (λ name. Ok (name, s.1)) next (sym e ∙ h) in
      is_text f.content b.0 b.1,
  λ n.
      let e : label_step s f ≡ (text f.content >>= λ value. Ok (s.0, value)) = rw n refl in
      let b = bind_ok (text f.content) (λ value. Ok (s.0, value)) next (sym e ∙ h) in
      is_text f.content b.0 b.1,
)

label-inner : (s : Label) (f : Field) (e : WireFault) → HasKnownWire kinds.Label f → label_step s f ≡ Err e → FaultyText f e
unfolding label_step
label-inner s f e wire h =
    elim (chosen (eqb f.number 1) (text f.content >>= λ name. Ok (name, s.1)) _ (Err e) h) [
      | inl p ↦
          let n : f.number ≡ 1 = eqb-true f.number 1 p.0 in
          let t = text_err f.content e (wire_at kinds.Label 1 2 f refl n wire) (same_fault (text f.content) (λ name. Ok (name, s.1)) e p.1 (λ x d b. absurd cc)) in
          (inl n, t.0, t.1)
      | inr p ↦ elim (chosen (eqb f.number 2) (text f.content >>= λ value. Ok (s.0, value)) (Ok s) (Err e) p.1) [
        | inl q ↦
            let n : f.number ≡ 2 = eqb-true f.number 2 q.0 in
            let t = text_err f.content e (wire_at kinds.Label 2 2 f refl n wire) (same_fault (text f.content) (λ value. Ok (s.0, value)) e q.1 (λ x d b. absurd cc)) in
            (inr n, t.0, t.1)
        | inr q ↦ absurd (let r = q.1 in cc)
      ]
    ]

pub label-err : (bytes : List ℕ) (e : WireFault) → read_label bytes ≡ Err e → LabelFault bytes e
label-err bytes e h = fields-err (length bytes) kinds.Label label_step IsLabelField FaultyText label-sound label-inner ([], []) bytes e (omega arith) h

-- ---- Sample

sample-inner : (s : Sample) (f : Field) (e : WireFault) → HasKnownWire kinds.Sample f → sample_step s f ≡ Err e → ⊥
unfolding sample_step
sample-inner s f e wire h =
    elim (chosen (eqb f.number 1) (word f.content >>= λ w. Ok (w, s.1)) _ (Err e) h) [
      | inl p ↦ word_ok f.content e (wire_at kinds.Sample 1 1 f refl (eqb-true f.number 1 p.0) wire) (same_fault (word f.content) (λ w. Ok (w, s.1)) e p.1 (λ x d b. absurd cc))
      | inr p ↦ elim (chosen (eqb f.number 2) (timestamp f.content >>= λ t. Ok (s.0, t)) (Ok s) (Err e) p.1) [
        | inl q ↦ timestamp_ok f.content e (wire_at kinds.Sample 2 0 f refl (eqb-true f.number 2 q.0) wire) (same_fault (timestamp f.content) (λ t. Ok (s.0, t)) e q.1 (λ x d b. absurd cc))
        | inr q ↦ absurd (let r = q.1 in cc)
      ]
    ]

pub sample-err : (bytes : List ℕ) (e : WireFault) → read_sample bytes ≡ Err e → SampleFault bytes e
sample-err bytes e h = fields-err (length bytes) kinds.Sample sample_step (λ f. Unit {0}) (λ f d. ⊥) (λ s next f wire k. tt) sample-inner (0, pos 0) bytes e (omega arith) h

-- ---- TimeSeries

abbrev with_label : TimeSeries → Label → Result TimeSeries WireFault
with_label s l = Ok (record { labels = s.labels ++ l ∷ []; samples = s.samples })

abbrev with_sample : TimeSeries → Sample → Result TimeSeries WireFault
with_sample s x = Ok (record { labels = s.labels; samples = s.samples ++ x ∷ [] })

series-sound : (s next : TimeSeries) (f : Field) → HasKnownWire kinds.TimeSeries f → series_step s f ≡ Ok next → IsSeriesField f
unfolding series_step
series-sound s next f wire h = (
  λ n.
      let e : series_step s f ≡ (nested read_label f.content >>= with_label s) = rw n refl in
      let b = bind_ok (nested read_label f.content) (with_label s) next (sym e ∙ h) in
      nested_holds read_label SpellsLabel label-takes f.content b.0 b.1,
  λ n.
      let e : series_step s f ≡ (nested read_sample f.content >>= with_sample s) = rw n refl in
      let b = bind_ok (nested read_sample f.content) (with_sample s) next (sym e ∙ h) in
      nested_holds read_sample SpellsSample sample-takes f.content b.0 b.1,
)

series-inner : (s : TimeSeries) (f : Field) (e : WireFault) → HasKnownWire kinds.TimeSeries f → series_step s f ≡ Err e → FaultOf 1 LabelFault f e ⊎ FaultOf 2 SampleFault f e
unfolding series_step
series-inner s f e wire h =
    elim (chosen (eqb f.number 1) (nested read_label f.content >>= with_label s) _ (Err e) h) [
      | inl p ↦
          let n : f.number ≡ 1 = eqb-true f.number 1 p.0 in
          let t = nested_err read_label f.content e (wire_at kinds.TimeSeries 1 2 f refl n wire) (same_fault (nested read_label f.content) (with_label s) e p.1 (λ x d b. absurd cc)) in
          inl (n, (t.0, t.1, label-err t.0 e t.2))
      | inr p ↦ elim (chosen (eqb f.number 2) (nested read_sample f.content >>= with_sample s) (Ok s) (Err e) p.1) [
        | inl q ↦
            let n : f.number ≡ 2 = eqb-true f.number 2 q.0 in
            let t = nested_err read_sample f.content e (wire_at kinds.TimeSeries 2 2 f refl n wire) (same_fault (nested read_sample f.content) (with_sample s) e q.1 (λ x d b. absurd cc)) in
            inr (n, (t.0, t.1, sample-err t.0 e t.2))
        | inr q ↦ absurd (let r = q.1 in cc)
      ]
    ]

pub series-err : (bytes : List ℕ) (e : WireFault) → read_series bytes ≡ Err e → SeriesFault bytes e
series-err bytes e h =
    fields-err (length bytes) kinds.TimeSeries series_step IsSeriesField (λ f d. FaultOf 1 LabelFault f d ⊎ FaultOf 2 SampleFault f d) series-sound series-inner (record { labels = []; samples = [] }) bytes e (omega arith) h

-- ---- WriteRequest

abbrev with_series : WriteRequest → TimeSeries → Result WriteRequest WireFault
with_series m s = Ok (m ++ s ∷ [])

request-sound : (m next : WriteRequest) (f : Field) → HasKnownWire kinds.WriteRequest f → request_step m f ≡ Ok next → IsRequestField f
unfolding request_step
request-sound m next f wire h = λ n.
    let e : request_step m f ≡ (nested read_series f.content >>= with_series m) = rw n refl in
    let b = bind_ok (nested read_series f.content) (with_series m) next (sym e ∙ h) in
    nested_holds read_series SpellsSeries series-takes f.content b.0 b.1

request-inner : (m : WriteRequest) (f : Field) (e : WireFault) → HasKnownWire kinds.WriteRequest f → request_step m f ≡ Err e → FaultOf 1 SeriesFault f e
unfolding request_step
request-inner m f e wire h =
    elim (chosen (eqb f.number 1) (nested read_series f.content >>= with_series m) (Ok m) (Err e) h) [
      | inl p ↦
          let n : f.number ≡ 1 = eqb-true f.number 1 p.0 in
          let t = nested_err read_series f.content e (wire_at kinds.WriteRequest 1 2 f refl n wire) (same_fault (nested read_series f.content) (with_series m) e p.1 (λ x d b. absurd cc)) in
          (n, (t.0, t.1, series-err t.0 e t.2))
      | inr p ↦ absurd (let r = p.1 in cc)
    ]

pub request-err : (bytes : List ℕ) (e : WireFault) → read bytes ≡ Err e → RequestFault bytes e
request-err bytes e h = fields-err (length bytes) kinds.WriteRequest request_step IsRequestField (FaultOf 1 SeriesFault) request-sound request-inner [] bytes e (omega arith) h
