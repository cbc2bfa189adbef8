-- A message with a fault is not read, and the answer is its first fault.
use Rattle.std.proofs.Common.{◌≡◌, ◌≢◌, ◌⊎◌, ℕ, ◌+◌, ◌*◌, ◌≤◌, ◌<◌, ℤ, pos, true, false, ltb, eqb, List, [], ◌∷◌, ◌++◌, length, Option, Some, Result, Ok, Err, refl, sym, ap, ◌∙◌, arith, inl, inr, append_assoc}
use Rattle.std.specs.Prelude.{IsUtf8}
use Rattle.std.specs.Int.{w32, w64, from_le_bytes, cast_signed}
use Rattle.std.specs.List.{AllByRecursion}
use Rattle.std.proofs.lemmas.Bool.{lt-ltb, le-ltb, ne_eqb, cases_eq, cases_lt}
use Rattle.std.proofs.lemmas.Nat.{div-mul-add, mod-mul-add}
use Rattle.std.proofs.lemmas.Str.{is_utf8-from_IsUtf8}
use Rattle.rw_codes.specs.Varint.{◌>>=◌}
use Rattle.rw_write_request.specs.declared.fault.WireFault.{WireFault}
use Rattle.rw_write_request.specs.declared.fault.WireFault.TheVariants.{WrongWire, NotUtf8}
use Rattle.rw_write_request.specs.declared.kind.Kind.{Kind}
use Rattle.rw_write_request.specs.declared.kind.Kind.TheVariants as kinds
use Rattle.rw_types.specs.Labels.{Label}
use Rattle.rw_write_request.specs.Message.{Sample, TimeSeries, WriteRequest}
use Rattle.rw_write_request.specs.Fields.{Content, Varint, Fixed64, Bytes, Fixed32, Field, wire_of, AreFields, known_wire, HasKnownWire}
use Rattle.rw_write_request.specs.Spells.{IsText, SpellsLabel, SpellsSample, SpellsSeries}
use Rattle.rw_write_request.specs.Read.{in_message, uvarint_at, bytes_at, content_at, known_judged, judged_tag, field_at, read_fields, text, word, timestamp, nested, label_step, read_label, sample_step, read_sample, series_step, read_series, request_step, read}
use Rattle.rw_write_request.specs.Faults.{VarintFault, TooFew, ContentFault, IsWire, TagFault, TaggedFault, FieldFault, InnerFault, HoldsSpelling, FaultyText, IsLabelField, LabelFault, SampleFault, FaultOf, IsSeriesField, SeriesFault, IsRequestField, RequestFault}
use Rattle.rw_write_request.proofs.TextReads.{text-bad}
use Rattle.rw_write_request.proofs.Varints.{uvarint-again}
use Rattle.rw_write_request.proofs.Loop.{more, bad_field, bad_step, field-shorter}
use Rattle.rw_write_request.proofs.Grammar.{field-again, known-again}
use Rattle.rw_write_request.proofs.Faulty.{wire_at}
use Rattle.rw_write_request.proofs.shared.Meanings.{label-again, sample-again, series-again}

abbrev failed : {A : Type 0} → WireFault → Result A WireFault
failed e = Err e

stops : {A B : Type 0} (r : Result A WireFault) (f : A → Result B WireFault) (e : WireFault) → r ≡ Err e → (r >>= f) ≡ Err e
stops r f e h = ap (λ (q : Result _ WireFault). q >>= f) h

uvarint-stops : (bytes : List ℕ) (e : WireFault) → VarintFault bytes e → uvarint_at bytes ≡ Err e
unfolding in_message
uvarint-stops bytes e h = ap in_message h.1 ∙ ap failed (sym h.2)

bytes-stop : (n : ℕ) (bytes : List ℕ) (e : WireFault) → TooFew n bytes e → bytes_at n bytes ≡ Err e
bytes-stop n bytes e h = let t : ltb (length bytes) n ≡ true = lt-ltb (length bytes) n h.0 in rw t (ap failed (sym h.1))

-- ---- what a field holds

content-stops : (wire : ℕ) (bytes : List ℕ) (e : WireFault) → ContentFault wire bytes e → content_at wire bytes ≡ Err e
unfolding content_at
content-stops wire bytes e (inl h) = ap (λ (w : ℕ). content_at w bytes) h.0 ∙ stops (uvarint_at bytes) (λ n. Ok (Varint n.0, n.1)) e (uvarint-stops bytes e h.1)
content-stops wire bytes e (inr (inl h)) = ap (λ (w : ℕ). content_at w bytes) h.0 ∙ stops (bytes_at 8 bytes) (λ held. Ok (Fixed64 (from_le_bytes w64 held.0), held.1)) e (bytes-stop 8 bytes e h.1)
content-stops wire bytes e (inr (inr (inl h))) = ap (λ (w : ℕ). content_at w bytes) h.0 ∙ elim h.1 [
  | inl v ↦ stops (uvarint_at bytes) (λ len. bytes_at len.0 len.1 >>= λ held. Ok (Bytes held.0, held.1)) e (uvarint-stops bytes e v)
  | inr l ↦
      let len : uvarint_at bytes ≡ Ok (l.n, l.rest) = ap uvarint_at l.parts ∙ uvarint-again l.len l.n l.rest l.is_len in
      rw len (stops (bytes_at l.n l.rest) (λ held. Ok (Bytes held.0, held.1)) e (bytes-stop l.n l.rest e l.few))
]
content-stops wire bytes e (inr (inr (inr h))) = ap (λ (w : ℕ). content_at w bytes) h.0 ∙ stops (bytes_at 4 bytes) (λ held. Ok (Fixed32 (from_le_bytes w32 held.0), held.1)) e (bytes-stop 4 bytes e h.1)

content_wire : (wire : ℕ) (bytes : List ℕ) (e : WireFault) → ContentFault wire bytes e → IsWire wire
content_wire wire bytes e (inl h) = inl (let w = h.0 in omega arith)
content_wire wire bytes e (inr (inl h)) = inl (let w = h.0 in omega arith)
content_wire wire bytes e (inr (inr (inl h))) = inl (let w = h.0 in omega arith)
content_wire wire bytes e (inr (inr (inr h))) = inr h.0

-- ---- the tag

-- after the test of the number, a wire type that there is leads to the test of a known field
judged-known : (kind : Kind) (number wire : ℕ) → 0 < number → IsWire wire → judged_tag kind number wire ≡ known_judged (known_wire kind number) wire
unfolding judged_tag
judged-known kind number wire some (inl lt) =
    let n : eqb number 0 ≡ false = ne_eqb number 0 (omega arith) in
    rw (n, lt-ltb wire 3 lt) refl
judged-known kind number wire some (inr is) =
    let n : eqb number 0 ≡ false = ne_eqb number 0 (omega arith) in
    rw (n, is) refl

misfit-stops : (o : Option ℕ) (wire w : ℕ) → o ≡ Some w → wire ≢ w → known_judged o wire ≡ Err WrongWire
unfolding known_judged
misfit-stops o wire w e ne = rw e (let t : eqb wire w ≡ false = ne_eqb wire w ne in rw t refl)

tag-stops : (kind : Kind) (number wire : ℕ) (e : WireFault) → TagFault kind number wire e → judged_tag kind number wire ≡ Err e
unfolding judged_tag
tag-stops kind number wire e (inl h) = rw h.0 (ap failed (sym h.1))
tag-stops kind number wire e (inr (inl h)) =
    let n : eqb number 0 ≡ false = ne_eqb number 0 (omega (arith, h.0)) in
    let big : 3 ≤ wire = at_least_three wire h.1 in
    let five : eqb wire 5 ≡ false = ne_eqb wire 5 (λ is. absurd (h.1 (inr is))) in
    rw (n, le-ltb wire 3 big, five) (ap failed (sym h.2))
  where
    at_least_three : (wire : ℕ) → ¬ (IsWire wire) → 3 ≤ wire
    at_least_three wire h = elim (cases_lt wire 3) [ inl lt ↦ absurd (h (inl lt)) | inr le ↦ le ]
tag-stops kind number wire e (inr (inr h)) = judged-known kind number wire h.0 h.1 ∙ misfit-stops (known_wire kind number) wire h.2.0 h.2.1 h.2.2 ∙ ap failed (sym h.3)

-- ---- a field

tagged-stops : (kind : Kind) (bytes : List ℕ) (e : WireFault) → TaggedFault kind bytes e → field_at kind bytes ≡ Err e
unfolding field_at
tagged-stops kind bytes e t =
    let tag : uvarint_at bytes ≡ Ok (t.number * 8 + t.wire, t.rest) = ap uvarint_at t.parts ∙ uvarint-again t.tag (t.number * 8 + t.wire) t.rest t.is_tag in
    rw (tag, div-mul-add t.number 8 t.wire t.low, mod-mul-add t.number 8 t.wire t.low) (elim t.fault [
      | inl h ↦ rw (tag-stops kind t.number t.wire e h) refl
      | inr h ↦
          let wire = content_wire t.wire t.rest e h.1 in
          let fine : judged_tag kind t.number t.wire ≡ Ok t.wire = judged-known kind t.number t.wire h.0.0 wire ∙ known-again (known_wire kind t.number) t.wire h.0.1 in
          rw (fine, content-stops t.wire t.rest e h.1) refl
    ])

field-stops : (kind : Kind) (bytes : List ℕ) (e : WireFault) → FieldFault kind bytes e → field_at kind bytes ≡ Err e
unfolding field_at
field-stops kind bytes e (inl h) = rw (uvarint-stops bytes e h) refl
field-stops kind bytes e (inr h) = tagged-stops kind bytes e h

-- ---- fields

some_bytes : (bytes : List ℕ) → bytes ≢ [] → 0 < length bytes
some_bytes [] h = absurd (h refl)
some_bytes (b ∷ bytes) h = omega arith

fields-stop : {X : Type 0} (kind : Kind) (step : X → Field → Result X WireFault) (Sound : Field → Type 0) (Inner : Field → WireFault → Type 0)
    → ((s : X) (f : Field) → HasKnownWire kind f → Sound f → (next : X) × (step s f ≡ Ok next)) → ((s : X) (f : Field) (e : WireFault) → HasKnownWire kind f → Inner f e → step s f ≡ Err e)
    → (fields : List Field) (so_far : X) (bytes before rest : List ℕ) (e : WireFault) → bytes ≡ before ++ rest → rest ≢ [] → AreFields before fields → AllByRecursion (HasKnownWire kind) fields → AllByRecursion Sound fields
    → FieldFault kind rest e ⊎ InnerFault Inner kind rest e → read_fields kind step so_far bytes ≡ Err e
fields-stop kind step Sound Inner fine bad [] so_far bytes before rest e parts some are wires sound fault =
    let here : bytes ≡ rest = parts ∙ ap (λ (b : List ℕ). b ++ rest) are in
    let lt : 0 < length bytes = omega (arith, some_bytes rest some, ap length here) in
    elim fault [
      | inl h ↦ bad_field kind step so_far bytes e (read_fields kind step so_far bytes) lt (ap (field_at kind) here ∙ field-stops kind rest e h) refl
      | inr h ↦
          let is : field_at kind bytes ≡ Ok (h.field, h.rest) = ap (field_at kind) (here ∙ h.parts) ∙ field-again kind h.front h.field h.rest h.is h.wire in
          bad_step kind step so_far bytes h.field h.rest e (read_fields kind step so_far bytes) lt is (bad so_far h.field e h.wire h.inner) refl
    ]
fields-stop kind step Sound Inner fine bad (f ∷ fs) so_far bytes before rest e parts some are wires sound fault =
    let split : bytes ≡ are.0 ++ (are.1 ++ rest) = parts ∙ ap (λ (b : List ℕ). b ++ rest) are.2 ∙ append_assoc are.0 are.1 rest in
    let is : field_at kind bytes ≡ Ok (f, are.1 ++ rest) = ap (field_at kind) split ∙ field-again kind are.0 f (are.1 ++ rest) are.3 wires.0 in
    let n = fine so_far f wires.0 sound.0 in
    let lt : 0 < length bytes = omega (arith, field-shorter kind bytes (f, are.1 ++ rest) is) in
    more kind step so_far bytes f (are.1 ++ rest) lt is ∙ rw n.1 (fields-stop kind step Sound Inner fine bad fs n.0 (are.1 ++ rest) are.1 rest e refl some are.4 wires.1 sound.1 fault)

-- ---- Label

text_of : (c : Content) → IsText c → (s : List ℕ) × (text c ≡ Ok s)
unfolding text
text_of (Bytes bytes) h = (bytes, rw (is_utf8-from_IsUtf8 bytes h) refl)
text_of (Varint n) h = absurd h
text_of (Fixed64 n) h = absurd h
text_of (Fixed32 n) h = absurd h

label-fine : (s : Label) (f : Field) → HasKnownWire kinds.Label f → IsLabelField f → (next : Label) × (label_step s f ≡ Ok next)
unfolding label_step
label-fine s f wire h =
    elim (cases_eq f.number 1) [
      | inl n ↦ let t = text_of f.content (h.0 n) in ((t.0, s.1), rw (n, t.1) refl)
      | inr n1 ↦ elim (cases_eq f.number 2) [
        | inl n ↦ let t = text_of f.content (h.1 n) in ((s.0, t.0), rw (n, t.1) refl)
        | inr n2 ↦ (s, rw (ne_eqb f.number 1 n1, ne_eqb f.number 2 n2) refl)
      ]
    ]

text_stops : (c : Content) (bytes : List ℕ) → c ≡ Bytes bytes → ¬ (IsUtf8 bytes) → text c ≡ Err NotUtf8
text_stops c bytes e isnt = ap text e ∙ text-bad bytes isnt

label-bad : (s : Label) (f : Field) (e : WireFault) → HasKnownWire kinds.Label f → FaultyText f e → label_step s f ≡ Err e
unfolding label_step
label-bad s f e wire h =
    let t : text f.content ≡ Err NotUtf8 = text_stops f.content h.1.0 h.1.1 h.1.2 in
    elim h.0 [
      | inl n ↦ rw (n, t) (ap failed (sym h.2))
      | inr n ↦ rw (n, t) (ap failed (sym h.2))
    ]

label-stops : (bytes : List ℕ) (e : WireFault) → LabelFault bytes e → read_label bytes ≡ Err e
label-stops bytes e h = fields-stop kinds.Label label_step IsLabelField FaultyText label-fine label-bad h.fields ([], []) bytes h.before h.rest e h.parts h.more h.are.spelled h.are.wires h.sound h.fault

-- ---- Sample

word_of : (c : Content) → wire_of c ≡ 1 → (w : ℕ) × (word c ≡ Ok w)
unfolding word
word_of (Fixed64 n) h = (n, refl)
word_of (Varint n) h = absurd (omega arith)
word_of (Bytes n) h = absurd (omega arith)
word_of (Fixed32 n) h = absurd (omega arith)

timestamp_of : (c : Content) → wire_of c ≡ 0 → (t : ℤ) × (timestamp c ≡ Ok t)
unfolding timestamp
timestamp_of (Varint n) h = (cast_signed w64 n, refl)
timestamp_of (Fixed64 n) h = absurd (omega arith)
timestamp_of (Bytes n) h = absurd (omega arith)
timestamp_of (Fixed32 n) h = absurd (omega arith)

sample-fine : (s : Sample) (f : Field) → HasKnownWire kinds.Sample f → Unit {0} → (next : Sample) × (sample_step s f ≡ Ok next)
unfolding sample_step
sample-fine s f wire u =
    elim (cases_eq f.number 1) [
      | inl n ↦
          let t = word_of f.content (wire_at kinds.Sample 1 1 f refl n wire) in
          let e : sample_step s f ≡ (word f.content >>= λ w. Ok (w, s.1)) = rw n refl in
          ((t.0, s.1), e ∙ ap (λ (r : Result ℕ WireFault). r >>= λ w. Ok (w, s.1)) t.1)
      | inr n1 ↦ elim (cases_eq f.number 2) [
        | inl n ↦
            let t = timestamp_of f.content (wire_at kinds.Sample 2 0 f refl n wire) in
            let e : sample_step s f ≡ (timestamp f.content >>= λ t. Ok (s.0, t)) = rw n refl in
            ((s.0, t.0), e ∙ ap (λ (r : Result ℤ WireFault). r >>= λ t. Ok (s.0, t)) t.1)
        | inr n2 ↦ (s, rw (ne_eqb f.number 1 n1, ne_eqb f.number 2 n2) refl)
      ]
    ]

sample-stops : (bytes : List ℕ) (e : WireFault) → SampleFault bytes e → read_sample bytes ≡ Err e
sample-stops bytes e h = fields-stop kinds.Sample sample_step (λ f. Unit {0}) (λ f d. ⊥) sample-fine (λ s f d wire b. absurd b) h.fields (0, pos 0) bytes h.before h.rest e h.parts h.more h.are.spelled h.are.wires h.sound h.fault

-- ---- nested messages

nested_fine : {X : Type 0} (reader : List ℕ → Result X WireFault) (Spelling : List ℕ → X → Type 0) → ((bytes : List ℕ) (x : X) → Spelling bytes x → reader bytes ≡ Ok x)
    → (c : Content) → HoldsSpelling Spelling c → (x : X) × (nested reader c ≡ Ok x)
unfolding nested
nested_fine reader Spelling again c h = (h.1, ap (nested reader) h.2 ∙ again h.0 h.1 h.3)

nested_stops : {X : Type 0} (reader : List ℕ → Result X WireFault) (c : Content) (bytes : List ℕ) (e : WireFault) → c ≡ Bytes bytes → reader bytes ≡ Err e → nested reader c ≡ Err e
unfolding nested
nested_stops reader c bytes e is h = ap (nested reader) is ∙ h

-- ---- TimeSeries

series-fine : (s : TimeSeries) (f : Field) → HasKnownWire kinds.TimeSeries f → IsSeriesField f → (next : TimeSeries) × (series_step s f ≡ Ok next)
unfolding series_step
series-fine s f wire h =
    elim (cases_eq f.number 1) [
      | inl n ↦ let t = nested_fine read_label SpellsLabel label-again f.content (h.0 n) in (record { labels = s.labels ++ t.0 ∷ []; samples = s.samples }, rw (n, t.1) refl)
      | inr n1 ↦ elim (cases_eq f.number 2) [
        | inl n ↦ let t = nested_fine read_sample SpellsSample sample-again f.content (h.1 n) in (record { labels = s.labels; samples = s.samples ++ t.0 ∷ [] }, rw (n, t.1) refl)
        | inr n2 ↦ (s, rw (ne_eqb f.number 1 n1, ne_eqb f.number 2 n2) refl)
      ]
    ]

series-bad : (s : TimeSeries) (f : Field) (e : WireFault) → HasKnownWire kinds.TimeSeries f → FaultOf 1 LabelFault f e ⊎ FaultOf 2 SampleFault f e → series_step s f ≡ Err e
unfolding series_step
series-bad s f e wire (inl h) = rw (h.0, nested_stops read_label f.content h.1.0 e h.1.1 (label-stops h.1.0 e h.1.2)) refl
series-bad s f e wire (inr h) = rw (h.0, nested_stops read_sample f.content h.1.0 e h.1.1 (sample-stops h.1.0 e h.1.2)) refl

series-stops : (bytes : List ℕ) (e : WireFault) → SeriesFault bytes e → read_series bytes ≡ Err e
series-stops bytes e h =
    fields-stop kinds.TimeSeries series_step IsSeriesField (λ f d. FaultOf 1 LabelFault f d ⊎ FaultOf 2 SampleFault f d) series-fine series-bad h.fields (record { labels = []; samples = [] }) bytes h.before h.rest e h.parts h.more h.are.spelled h.are.wires h.sound h.fault

-- ---- WriteRequest

request-fine : (m : WriteRequest) (f : Field) → HasKnownWire kinds.WriteRequest f → IsRequestField f → (next : WriteRequest) × (request_step m f ≡ Ok next)
unfolding request_step
request-fine m f wire h =
    elim (cases_eq f.number 1) [
      | inl n ↦ let t = nested_fine read_series SpellsSeries series-again f.content (h n) in (m ++ t.0 ∷ [], rw (n, t.1) refl)
      | inr n1 ↦ (m, rw (ne_eqb f.number 1 n1) refl)
    ]

request-bad : (m : WriteRequest) (f : Field) (e : WireFault) → HasKnownWire kinds.WriteRequest f → FaultOf 1 SeriesFault f e → request_step m f ≡ Err e
unfolding request_step
request-bad m f e wire h = rw (h.0, nested_stops read_series f.content h.1.0 e h.1.1 (series-stops h.1.0 e h.1.2)) refl

pub request-stops : (bytes : List ℕ) (e : WireFault) → RequestFault bytes e → read bytes ≡ Err e
request-stops bytes e h = fields-stop kinds.WriteRequest request_step IsRequestField (FaultOf 1 SeriesFault) request-fine request-bad h.fields [] bytes h.before h.rest e h.parts h.more h.are.spelled h.are.wires h.sound h.fault
