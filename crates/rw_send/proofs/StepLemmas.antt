-- Shippers one after another.
use Rattle.std.proofs.Common.{◌≡◌, ℕ, refl, ap, ◌∙◌, subst}
use Rattle.rw_types.proofs.shared.BeginningLemmas.{begins_itself, begins_twice}
use Rattle.rw_fleet.specs.Fleets.{Shards}
use Rattle.rw_sender.specs.Shipping.{Shipping}
use Rattle.rw_send.specs.Steps.{StaysOpen}

pub stays : {T : Type 0} (s : Shipping T) → StaysOpen s s
stays s = record { setup = refl; pieces = begins_itself s.log.pieces; fleet = refl; shards = refl; limit = refl; marks = λ _. refl }

pub stays_on : {T : Type 0} (old now new : Shipping T) → StaysOpen old now → StaysOpen now new → StaysOpen old new
stays_on {T} old now new h more = record {
  setup = more.setup ∙ h.setup;
  pieces = begins_twice old.log.pieces now.log.pieces new.log.pieces h.pieces more.pieces;
  fleet = more.fleet ∙ ap (λ (f : Shards T). record f { current = new.fleet.current }) h.fleet;
  shards = more.shards ∙ h.shards;
  limit = more.limit ∙ h.limit;
  marks = λ none. more.marks (h.limit ∙ none) ∙ h.marks none;
}

-- what holds between the same numbers
pub between : (P : ℕ → ℕ → Type 0) {least greatest fewest most : ℕ} → least ≡ fewest → greatest ≡ most → P least greatest → P fewest most
between P {least} {greatest} {fewest} {most} f m h = subst (λ (k : ℕ). P k most) f (subst (λ (k : ℕ). P least k) m h)
