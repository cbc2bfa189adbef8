use Rattle.std.proofs.Common.{◌≡◌, ◌≢◌, ◌∷◌, ◌++◌, [], ℕ, List, None, Some, drop, refl, sym, ap, ◌∙◌, lit<, inr}
use Rattle.std.proofs.lemmas.Str.Pattern.{strip_prefix_char, strip_suffix_char}
use Rattle.rw_text.proofs.address.Address.name.Goals as goal

pub returns-in_default : goal.returns-in_default
returns-in_default c =
    let host = c.args.self.now.host.now in
    let none : (rest : List ℕ) → host ≢ 91 ∷ rest = strip_prefix_char 91 host None c.in_default.ensures.cases (lit< tt) in
    inr (refl, λ inner. none (inner ++ 93 ∷ []))

pub returns-in-None : goal.returns-in-None
returns-in-None c =
    let host = c.args.self.now.host.now in
    let front : host ≡ 91 ∷ c.in-Some.rest.now = strip_prefix_char 91 host (Some c.in-Some.rest) c.in-Some.ensures.cases (lit< tt) in
    let none : (inner : List ℕ) → c.in-Some.rest.now ≢ inner ++ 93 ∷ [] = strip_suffix_char 93 c.in-Some.rest.now None c.in-None.ensures.cases (lit< tt) in
    inr (refl, λ inner e. none inner (ap (drop 1) (sym front ∙ e)))
