-- How many fields of a number are left, as a loop passes over them.
use Rattle.std.proofs.Common.{◌≡◌, ◌≢◌, ℕ, suc, ◌+◌, true, false, eqb, List, [], ◌∷◌, length, Result, Ok, Err, refl, sym, ap, subst, ◌∙◌, eq-eqb, arith}
use Rattle.std.proofs.lemmas.Bool.{ne_eqb}
use Rattle.rw_write_request.specs.declared.fault.WireFault.{WireFault}
use Rattle.rw_write_request.specs.declared.kind.Kind.{Kind}
use Rattle.rw_write_request.specs.Fields.{Field, contents}
use Rattle.rw_write_request.specs.Spells.{AreFieldsOf}
use Rattle.rw_write_request.specs.Read.{field_at}
use Rattle.rw_write_request.proofs.Results.{pair_ok}
use Rattle.rw_write_request.proofs.Loop.{field-shorter}
use Rattle.rw_write_request.proofs.Grammar.{field-again}

-- of the bytes' fields those of the rest are not counted yet
pub record Left (kind : Kind) (rest : List ℕ) (ones twos : ℕ) (fields : List Field) : Type 0 where
  pub after : List Field
  pub are : AreFieldsOf kind rest after
  pub one : ones + length (contents 1 after) ≡ length (contents 1 fields)
  pub two : twos + length (contents 2 after) ≡ length (contents 2 fields)

pub Left-start : (kind : Kind) (bytes : List ℕ) (fields : List Field) → AreFieldsOf kind bytes fields → Left kind bytes 0 0 fields
Left-start kind bytes fields are = record { after = fields; are = are; one = omega arith; two = omega arith }

abbrev found : Field × List ℕ → Result (Field × List ℕ) WireFault
found x = Ok x

-- the first of them is the one at the front
record First (kind : Kind) (rest : List ℕ) (f : Field) (next : List ℕ) (after : List Field) : Type 0 where
  others : List Field
  is : after ≡ f ∷ others
  are : AreFieldsOf kind next others

first : (kind : Kind) (rest : List ℕ) (f : Field) (next : List ℕ) (after : List Field) → field_at kind rest ≡ Ok (f, next) → AreFieldsOf kind rest after → First kind rest f next after
first kind rest f next [] e are =
    let empty : rest ≡ [] = are.spelled in
    absurd (let lt = field-shorter kind rest (f, next) e in omega (arith, lt, ap length empty))
first kind rest f next (g ∷ gs) e are =
    let h = are.spelled in
    let again : field_at kind rest ≡ Ok (g, h.1) = ap (field_at kind) h.2 ∙ field-again kind h.0 g h.1 h.3 are.wires.0 in
    let q = pair_ok (g, h.1) (f, next) (sym again ∙ e) in
    record {
      others = gs;
      is = ap (λ (x : Field × List ℕ). x.0 ∷ gs) q;
      are = subst (λ (x : Field × List ℕ). AreFieldsOf kind x.1 gs) q (record { spelled = h.4; wires = are.wires.1 });
    }

counted : (number : ℕ) (f : Field) (others : List Field) → f.number ≡ number → length (contents number (f ∷ others)) ≡ suc (length (contents number others))
counted number f others e = let t : eqb f.number number ≡ true = rw e (same number) in rw t refl
  where
    same : (n : ℕ) → eqb n n ≡ true
    same n = eq-eqb n n refl

passed : (number : ℕ) (f : Field) (others : List Field) → f.number ≢ number → length (contents number (f ∷ others)) ≡ length (contents number others)
passed number f others ne = let t : eqb f.number number ≡ false = ne_eqb f.number number ne in rw t refl

pub Left-one : (kind : Kind) (rest next : List ℕ) (f : Field) (ones twos : ℕ) (fields : List Field) → field_at kind rest ≡ Ok (f, next) → f.number ≡ 1 → Left kind rest ones twos fields → Left kind next (ones + 1) twos fields
Left-one kind rest next f ones twos fields e n l =
    let h = first kind rest f next l.after e l.are in
    let one : length (contents 1 l.after) ≡ suc (length (contents 1 h.others)) = ap (λ (fs : List Field). length (contents 1 fs)) h.is ∙ counted 1 f h.others n in
    let two : length (contents 2 l.after) ≡ length (contents 2 h.others) = ap (λ (fs : List Field). length (contents 2 fs)) h.is ∙ passed 2 f h.others (omega arith) in
    record { after = h.others; are = h.are; one = omega (arith, one, l.one); two = omega (arith, two, l.two) }

pub Left-two : (kind : Kind) (rest next : List ℕ) (f : Field) (ones twos : ℕ) (fields : List Field) → field_at kind rest ≡ Ok (f, next) → f.number ≡ 2 → Left kind rest ones twos fields → Left kind next ones (twos + 1) fields
Left-two kind rest next f ones twos fields e n l =
    let h = first kind rest f next l.after e l.are in
    let one : length (contents 1 l.after) ≡ length (contents 1 h.others) = ap (λ (fs : List Field). length (contents 1 fs)) h.is ∙ passed 1 f h.others (omega arith) in
    let two : length (contents 2 l.after) ≡ suc (length (contents 2 h.others)) = ap (λ (fs : List Field). length (contents 2 fs)) h.is ∙ counted 2 f h.others n in
    record { after = h.others; are = h.are; one = omega (arith, one, l.one); two = omega (arith, two, l.two) }

pub Left-other : (kind : Kind) (rest next : List ℕ) (f : Field) (ones twos : ℕ) (fields : List Field) → field_at kind rest ≡ Ok (f, next) → f.number ≢ 1 → f.number ≢ 2 → Left kind rest ones twos fields → Left kind next ones twos fields
Left-other kind rest next f ones twos fields e n1 n2 l =
    let h = first kind rest f next l.after e l.are in
    let one : length (contents 1 l.after) ≡ length (contents 1 h.others) = ap (λ (fs : List Field). length (contents 1 fs)) h.is ∙ passed 1 f h.others n1 in
    let two : length (contents 2 l.after) ≡ length (contents 2 h.others) = ap (λ (fs : List Field). length (contents 2 fs)) h.is ∙ passed 2 f h.others n2 in
    record { after = h.others; are = h.are; one = omega (arith, one, l.one); two = omega (arith, two, l.two) }

-- if no field is, none is left
ended : (kind : Kind) (rest : List ℕ) (fault : WireFault) (after : List Field) → field_at kind rest ≡ Err fault → AreFieldsOf kind rest after → after ≡ []
ended kind rest fault [] e are = refl
ended kind rest fault (g ∷ gs) e are =
    let h = are.spelled in
    let again : field_at kind rest ≡ found (g, h.1) = ap (field_at kind) h.2 ∙ field-again kind h.0 g h.1 h.3 are.wires.0 in
    absurd (let bad : found (g, h.1) ≡ Err fault = sym again ∙ e in cc)

pub Left-end : (kind : Kind) (rest : List ℕ) (ones twos : ℕ) (fields : List Field) (fault : WireFault) → field_at kind rest ≡ Err fault → Left kind rest ones twos fields
    → (ones ≡ length (contents 1 fields)) × (twos ≡ length (contents 2 fields))
Left-end kind rest ones twos fields fault e l =
    let none = ended kind rest fault l.after e l.are in
    let one : length (contents 1 l.after) ≡ 0 = ap (λ (fs : List Field). length (contents 1 fs)) none in
    let two : length (contents 2 l.after) ≡ 0 = ap (λ (fs : List Field). length (contents 2 fs)) none in
    (omega (arith, one, l.one), omega (arith, two, l.two))
