-- HOST:PORT, as a command-line argument.
use Rattle.std.specs.Prelude.{◌≡◌, ◌≢◌, ◌⊎◌, ℕ, ◌<◌, ◌≤◌, List, [], ◌∷◌, ◌++◌}
use Rattle.rw_text.specs.Numbers.{IsNumber}

-- decimal digits of a number from 1 to 65535
pub record IsPort (text : List ℕ) (port : ℕ) : Type 0 where
  pub is_number : IsNumber text port
  pub some : 0 < port
  pub most : port ≤ 65535

-- a host, a colon and a port, whose digits hold no colon
pub record IsAddress (text host : List ℕ) (port : ℕ) : Type 0 where
  pub digits : List ℕ
  pub parts : text ≡ host ++ 58 ∷ digits
  pub is_port : IsPort digits port

-- what is between the brackets of a host, or a host that has no brackets around it
abbrev pub IsName : List ℕ → List ℕ → Type 0
IsName host name = (host ≡ 91 ∷ name ++ 93 ∷ []) ⊎ ((host ≡ name) × ((inner : List ℕ) → host ≢ 91 ∷ inner ++ 93 ∷ []))
