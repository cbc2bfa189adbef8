-- Sums over bodies, and which of them stay open.
use Rattle.std.proofs.Common.{◌≡◌, ℕ, ◌+◌, ◌-◌, ◌<◌, ◌≤◌, ◌^◌, Bool, true, false, List, [], ◌∷◌, length, take, drop, get_or, nat_lt, if◌then◌else◌, refl, sym, ap, ◌∙◌, arith, ne_eqb, lt-ltb, le-ltb}
use Rattle.std.proofs.lemmas.List.{drop_more, drop_all}
use Rattle.std.proofs.lemmas.List.Sums.{sum_by-cons, sum_by_more, sum_by-take-le, get_or-le-sum_by}
use Rattle.rw_in_flight.specs.InFlight.{held, open_held, first_open}
use Rattle.rw_in_flight.specs.declared.body.Body.{Body}

-- ---- sums

abbrev bytes_of : Body → ℕ
bytes_of b = b.bytes

abbrev open_bytes : ℕ → Body → ℕ
open_bytes first b = if nat_lt b.number first then 0 else b.bytes

part_le : (closed : Bool) (n : ℕ) → (if closed then 0 else n) ≤ n
part_le true n = omega arith
part_le false n = omega arith

pub open_le : (first : ℕ) (bodies : List Body) → open_held first bodies ≤ held bodies
open_le first [] = omega arith
open_le first (b ∷ bs) =
    let opened : open_held first (b ∷ bs) ≡ open_bytes first b + open_held first bs = sum_by-cons (open_bytes first) b bs in
    let all : held (b ∷ bs) ≡ b.bytes + held bs = sum_by-cons bytes_of b bs in
    omega (arith, opened, all, part_le (nat_lt b.number first) b.bytes, open_le first bs)

pub open_fits : (first : ℕ) (bodies : List Body) (i sum : ℕ) (d : Body) → i < length bodies → sum ≡ open_held first (take i bodies) → held bodies < 2 ^ 64 → sum + (get_or bodies i d).bytes < 2 ^ 64
open_fits first bodies i sum d below is small =
    let more : held (take (i + 1) bodies) ≡ held (take i bodies) + (get_or bodies i d).bytes = sum_by_more bytes_of bodies i d below in
    let part : held (take (i + 1) bodies) ≤ held bodies = sum_by-take-le bytes_of bodies (i + 1) in
    omega (arith, is, open_le first (take i bodies), more, part, small)

pub grown_fits : (bodies : List Body) (place : ℕ) (b : Body) (more limit used : ℕ) → place < length bodies → b ≡ get_or bodies place b → used ≡ held bodies → more ≤ limit - used → held bodies ≤ limit
    → limit < 2 ^ 64 → b.bytes + more < 2 ^ 64
grown_fits bodies place b more limit used below is all room within small =
    let part : (get_or bodies place b).bytes ≤ held bodies = get_or-le-sum_by bytes_of bodies place b below in
    let same : b.bytes ≡ (get_or bodies place b).bytes = ap bytes_of is in
    omega (arith, part, same, all, room, within, small)

-- ---- what is needed

pub need_is : (more limit opened sum : ℕ) → opened ≡ sum → sum ≤ limit → more - (limit - opened) ≡ sum + more - limit
need_is more limit opened sum is le = omega (arith, is, le)

-- ---- which stay open

pub stops : (first : ℕ) (bodies : List Body) → first_open 0 first bodies ≡ first
unfolding first_open
stops first [] = refl
stops first (b ∷ bs) = refl

ends : (need first : ℕ) → first_open need first [] ≡ first
unfolding first_open
ends need first = refl

pub ended : (need first i : ℕ) (bodies : List Body) → length bodies ≤ i → first_open need first (drop i bodies) ≡ first
ended need first i bodies past = ap (first_open need first) (drop_all i bodies past) ∙ ends need first

closes : (need first : ℕ) (b : Body) (bs : List Body) → (need ≡ 0 → ⊥) → first ≤ b.number → first_open need first (b ∷ bs) ≡ first_open (need - b.bytes) (b.number + 1) bs
unfolding first_open
closes need first b bs some stays = rw (ne_eqb need 0 some, le-ltb b.number first stays) refl

passes : (need first : ℕ) (b : Body) (bs : List Body) → (need ≡ 0 → ⊥) → b.number < first → first_open need first (b ∷ bs) ≡ first_open need first bs
unfolding first_open
passes need first b bs some closed = rw (ne_eqb need 0 some, lt-ltb b.number first closed) refl

pub one_closes : (need first i : ℕ) (bodies : List Body) (d : Body) → i < length bodies → (need ≡ 0 → ⊥) → first ≤ (get_or bodies i d).number
    → first_open need first (drop i bodies) ≡ first_open (need - (get_or bodies i d).bytes) ((get_or bodies i d).number + 1) (drop (i + 1) bodies)
one_closes need first i bodies d below some stays = ap (first_open need first) (drop_more bodies i d below) ∙ closes need first (get_or bodies i d) (drop (i + 1) bodies) some stays

pub one_passes : (need first i : ℕ) (bodies : List Body) (d : Body) → i < length bodies → (need ≡ 0 → ⊥) → (get_or bodies i d).number < first
    → first_open need first (drop i bodies) ≡ first_open need first (drop (i + 1) bodies)
one_passes need first i bodies d below some closed = ap (first_open need first) (drop_more bodies i d below) ∙ passes need first (get_or bodies i d) (drop (i + 1) bodies) some closed
