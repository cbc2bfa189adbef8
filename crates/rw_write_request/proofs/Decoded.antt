-- What reading gives, said by the grammar.
use Rattle.std.proofs.Common.{◌≡◌, ◌≢◌, ℕ, List, Result, Ok, Err, sym, ◌∙◌}
use Rattle.std.specs.Prelude.{IfOk, MatchResult}
use Rattle.rw_write_request.specs.declared.fault.WireFault.{WireFault}
use Rattle.rw_write_request.specs.declared.fault.WireFault.TheVariants.{OutOfMemory, Truncated, VarintTooBig, WrongWire, BadWire, FieldZero, NotUtf8}
use Rattle.rw_write_request.specs.Message.{WriteRequest}
use Rattle.rw_write_request.specs.Spells.{Spells}
use Rattle.rw_write_request.specs.Read.{GivesOrMemory, read}
use Rattle.rw_write_request.proofs.shared.Meanings.{ok_is, request-takes, request-again}

pub is_found : (bytes : List ℕ) (r : Result WriteRequest WireFault) → GivesOrMemory (λ m. m) r (read bytes) → IfOk r (λ m. Spells bytes m)
is_found bytes (Ok m) h = request-takes bytes m h
is_found bytes (Err e) h = tt

-- a fault that is not out of memory is not there if the bytes are read
is_memory : (e : WireFault) (m : WriteRequest) (total : Result WriteRequest WireFault) → total ≡ Ok m → (e ≢ OutOfMemory → total ≡ Err e) → e ≡ OutOfMemory
is_memory OutOfMemory m total ok h = cc
is_memory Truncated m total ok h = absurd (let bad = h (λ e. cc) in cc)
is_memory VarintTooBig m total ok h = absurd (let bad = h (λ e. cc) in cc)
is_memory WrongWire m total ok h = absurd (let bad = h (λ e. cc) in cc)
is_memory BadWire m total ok h = absurd (let bad = h (λ e. cc) in cc)
is_memory FieldZero m total ok h = absurd (let bad = h (λ e. cc) in cc)
is_memory NotUtf8 m total ok h = absurd (let bad = h (λ e. cc) in cc)

pub is_only : (bytes : List ℕ) (r : Result WriteRequest WireFault) → GivesOrMemory (λ m. m) r (read bytes) → (m : WriteRequest) → Spells bytes m → MatchResult r (λ n. n ≡ m) (λ e. e ≡ OutOfMemory)
is_only bytes (Ok n) h m s = ok_is n m (sym h ∙ request-again bytes m s)
is_only bytes (Err e) h m s = is_memory e m (read bytes) (request-again bytes m s) h
