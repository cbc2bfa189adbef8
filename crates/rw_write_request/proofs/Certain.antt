-- Out of memory is not a fault of the bytes.
use Rattle.std.proofs.Common.{◌≡◌, ◌≢◌, ◌⊎◌, ℕ, List, Result, Ok, Err, inl, inr}
use Rattle.std.specs.Prelude.{IfErr}
use Rattle.rw_codes.specs.declared.code_fault.CodeFault.{CodeFault}
use Rattle.rw_codes.specs.declared.code_fault.CodeFault.TheVariants.{Short, TooBig}
use Rattle.rw_write_request.specs.declared.fault.WireFault.{WireFault}
use Rattle.rw_write_request.specs.declared.fault.WireFault.TheVariants.{OutOfMemory}
use Rattle.rw_write_request.specs.declared.kind.Kind.{Kind}
use Rattle.rw_write_request.specs.Fields.{Field}
use Rattle.rw_write_request.specs.Read.{varint_fault, read}
use Rattle.rw_write_request.specs.Faults.{VarintFault, TooFew, ContentFault, TagFault, FieldFault, FirstFault, FaultyText, LabelFault, SampleFault, FaultOf, SeriesFault}
use Rattle.rw_write_request.proofs.Faulty.{request-err}

code-certain : (f : CodeFault) (e : WireFault) → e ≡ varint_fault f → e ≢ OutOfMemory
code-certain Short e h = λ out. cc
code-certain TooBig e h = λ out. cc

varint-certain : (bytes : List ℕ) (e : WireFault) → VarintFault bytes e → e ≢ OutOfMemory
varint-certain bytes e h = code-certain h.0 e h.2

few-certain : (n : ℕ) (bytes : List ℕ) (e : WireFault) → TooFew n bytes e → e ≢ OutOfMemory
few-certain n bytes e h = λ out. let few = h.1 in cc

content-certain : (wire : ℕ) (bytes : List ℕ) (e : WireFault) → ContentFault wire bytes e → e ≢ OutOfMemory
content-certain wire bytes e (inl h) = varint-certain bytes e h.1
content-certain wire bytes e (inr (inl h)) = few-certain 8 bytes e h.1
content-certain wire bytes e (inr (inr (inl (is, inl h)))) = varint-certain bytes e h
content-certain wire bytes e (inr (inr (inl (is, inr h)))) = few-certain h.n h.rest e h.few
content-certain wire bytes e (inr (inr (inr h))) = few-certain 4 bytes e h.1

tag-certain : (kind : Kind) (number wire : ℕ) (e : WireFault) → TagFault kind number wire e → e ≢ OutOfMemory
tag-certain kind number wire e (inl h) = λ out. let zero_number = h.1 in cc
tag-certain kind number wire e (inr (inl h)) = λ out. let bad = h.2 in cc
tag-certain kind number wire e (inr (inr h)) = λ out. let wrong = h.3 in cc

either-certain : {A B : Type 0} (e : WireFault) → (A → e ≢ OutOfMemory) → (B → e ≢ OutOfMemory) → A ⊎ B → e ≢ OutOfMemory
either-certain e one other (inl h) = one h
either-certain e one other (inr h) = other h

field-certain : (kind : Kind) (bytes : List ℕ) (e : WireFault) → FieldFault kind bytes e → e ≢ OutOfMemory
field-certain kind bytes e (inl h) = varint-certain bytes e h
field-certain kind bytes e (inr h) = either-certain e (λ t. tag-certain kind h.number h.wire e t) (λ c. content-certain h.wire h.rest e c.1) h.fault

first-certain : (kind : Kind) (Sound : Field → Type 0) (Inner : Field → WireFault → Type 0) (bytes : List ℕ) (e : WireFault) → ((f : Field) → Inner f e → e ≢ OutOfMemory) → FirstFault kind Sound Inner bytes e → e ≢ OutOfMemory
first-certain kind Sound Inner bytes e inside h = either-certain e (λ f. field-certain kind h.rest e f) (λ i. inside i.field i.inner) h.fault

label-certain : (bytes : List ℕ) (e : WireFault) → LabelFault bytes e → e ≢ OutOfMemory
label-certain bytes e h = first-certain _ _ FaultyText bytes e (λ f i out. let bad = i.2 in cc) h

sample-certain : (bytes : List ℕ) (e : WireFault) → SampleFault bytes e → e ≢ OutOfMemory
sample-certain bytes e h = first-certain _ _ _ bytes e (λ f i. absurd i) h

series-certain : (bytes : List ℕ) (e : WireFault) → SeriesFault bytes e → e ≢ OutOfMemory
series-certain bytes e h =
    first-certain _ _ (λ f d. FaultOf 1 LabelFault f d ⊎ FaultOf 2 SampleFault f d) bytes e
    (λ f i. either-certain e (λ l. label-certain l.1.0 e l.1.2) (λ s. sample-certain s.1.0 e s.1.2) i) h

request-certain : (bytes : List ℕ) (e : WireFault) → read bytes ≡ Err e → e ≢ OutOfMemory
request-certain bytes e is = first-certain _ _ (FaultOf 1 SeriesFault) bytes e (λ f i. series-certain i.1.0 e i.1.2) (request-err bytes e is)

pub judged-certain : (bytes : List ℕ) (r : Result (Unit {0}) WireFault) → IfErr r (λ e. read bytes ≡ Err e) → IfErr r (λ e. e ≢ OutOfMemory)
judged-certain bytes (Ok u) h = tt
judged-certain bytes (Err e) h = request-certain bytes e h
