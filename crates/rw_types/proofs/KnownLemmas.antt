-- Known bytes through several calls.
use Rattle.std.proofs.Common.{ℕ, List, [], ◌++◌, Option, None, Some, sym, ◌∙◌, ap, append_assoc, append-nil}
use Rattle.std.specs.Io.KnownBytes.{Keeps, Appends, Consumes}
use Rattle.std.proofs.KnownBytes.{Consumes-trans, Consumes-nil}
use Rattle.rw_types.specs.Memory.{ReadsOnto}

-- known bytes that stayed and were then read
pub keeps_consumes : (a b c : Option (List ℕ)) (bs : List ℕ) → Keeps a b → Consumes b c bs → Consumes a c bs
keeps_consumes None b c bs p q = tt
keeps_consumes (Some x) None c bs p q = absurd p
keeps_consumes (Some x) (Some y) None bs p q = absurd q
keeps_consumes (Some x) (Some y) (Some z) bs p q = sym p ∙ q

-- known bytes that stayed and then grew
pub keeps_appends : (a b c : Option (List ℕ)) (bs : List ℕ) → Keeps a b → Appends b c bs → Appends a c bs
keeps_appends None b c bs p q = tt
keeps_appends (Some x) None c bs p q = absurd p
keeps_appends (Some x) (Some y) None bs p q = absurd q
keeps_appends (Some x) (Some y) (Some z) bs p q = q ∙ ap (λ t. t ++ bs) p

-- nothing was read
pub reads_nothing : (a : Option (List ℕ)) (before : List ℕ) → ReadsOnto a a before before
reads_nothing a before = record { text = []; appended = sym (append-nil before); consumed = Consumes-nil a }

-- one read after another
pub reads_more : (a b c : Option (List ℕ)) (x y z : List ℕ) → ReadsOnto a b x y → ReadsOnto b c y z → ReadsOnto a c x z
reads_more a b c x y z p q = record {
  text = p.text ++ q.text;
  appended = q.appended ∙ ap (λ t. t ++ q.text) p.appended ∙ append_assoc x p.text q.text;
  consumed = Consumes-trans a b c p.text q.text p.consumed q.consumed;
}
