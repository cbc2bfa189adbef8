-- What a receiver has received, and what holds of every outcome that is fine.
use Rattle.std.proofs.Common.{ℕ, Result, Ok, Err, OnOk}
use Rattle.rw_head.specs.declared.capacity.Capacity.{Capacity}
use Rattle.rw_head.specs.declared.limits.Limits.{Limits}
use Rattle.rw_head.specs.Capacity.{StaysWithin}
use Rattle.rw_head.specs.Head.{State}
use Rattle.rw_head.specs.Store.{Store}
use Rattle.rw_receive.specs.Receiving.{IsNew, HasReceived, IsReceived}

pub on_ok : {T E P Q : Type 0} (r : Result T E) → (P → Q) → OnOk r P → OnOk r Q
on_ok (Ok x) f h = f h
on_ok (Err e) f h = tt

-- the head that was asked is a new one
pub received_so : (limits : Limits) (capacity : Capacity) (opening : State) (count : ℕ) (store : Store) → IsNew limits opening → HasReceived opening count store →
    StaysWithin capacity opening.store store → IsReceived limits capacity count store
received_so limits capacity opening count store new h within = (opening, new, h, within)
