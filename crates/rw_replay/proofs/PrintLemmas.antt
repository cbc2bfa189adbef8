-- What a script prints.
use Rattle.std.proofs.Common.{◌≡◌, ℕ, List, Result, Ok, Err, IfOk, subst}
use Rattle.rw_machine.specs.Worlds.{Setup}
use Rattle.rw_replay.specs.ScriptText.{Order}
use Rattle.rw_replay.specs.WorldText.{state_text}
use Rattle.rw_replay.specs.Played.{Played, Follows, beginning, IsPrintedState}

pub printed : (c : Setup) (orders : List Order) (first last : Played) (text : List ℕ) → first ≡ beginning c → Follows first orders last → text ≡ state_text last.machine.world → IsPrintedState c orders text
printed c orders first last text e f is = record { last = last; follows = subst (λ (p : Played). Follows p orders last) e f; is = is }

pub also_if_ok : {T E : Type 0} {P Q : T → Type 0} (r : Result T E) → ((x : T) → P x → Q x) → IfOk r P → IfOk r Q
also_if_ok (Ok x) f h = f x h
also_if_ok (Err e) f h = h
