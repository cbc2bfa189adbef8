-- The order of timestamps, and numbers that an order distinguishes.
use Rattle.std.specs.Cmp.{unsigned_tied}
use Rattle.std.specs.Ordering.{nat_cmp, eq_by_cmp}
use Rattle.std.proofs.Common.{◌≡◌, ℕ, ◌<◌, ℤ, pos, negsuc, int_lt, ltb, true, false, refl, ◌∙◌, arith}
use Rattle.std.proofs.lemmas.Bool.Decides.{nat_tests}

ltb-irrefl : (a : ℕ) → ltb a a ≡ false
ltb-irrefl a = grind (arith, nat_tests)

ltb-asymm : (a b : ℕ) → ltb a b ≡ true → ltb b a ≡ false
ltb-asymm a b h = grind (arith, nat_tests)

ltb-trans : (a b c : ℕ) → ltb a b ≡ true → ltb b c ≡ true → ltb a c ≡ true
ltb-trans a b c h k = grind (arith, nat_tests)

pub int_lt-irrefl : (a : ℤ) → int_lt a a ≡ false
int_lt-irrefl (pos a) = ltb-irrefl a
int_lt-irrefl (negsuc a) = ltb-irrefl a

pub int_lt-asymm : (a b : ℤ) → int_lt a b ≡ true → int_lt b a ≡ false
int_lt-asymm (pos a) (pos b) h = ltb-asymm a b h
int_lt-asymm (pos a) (negsuc b) h = absurd cc
int_lt-asymm (negsuc a) (pos b) h = refl
int_lt-asymm (negsuc a) (negsuc b) h = ltb-asymm b a h

pub int_lt-trans : (a b c : ℤ) → int_lt a b ≡ true → int_lt b c ≡ true → int_lt a c ≡ true
int_lt-trans (pos a) (pos b) (pos c) h k = ltb-trans a b c h k
int_lt-trans (pos a) (pos b) (negsuc c) h k = absurd cc
int_lt-trans (pos a) (negsuc b) c h k = absurd cc
int_lt-trans (negsuc a) (pos b) (pos c) h k = refl
int_lt-trans (negsuc a) (pos b) (negsuc c) h k = absurd cc
int_lt-trans (negsuc a) (negsuc b) (pos c) h k = refl
int_lt-trans (negsuc a) (negsuc b) (negsuc c) h k = ltb-trans c b a k h

pub nat_cmp-apart : (p q : ℕ) → p < q → eq_by_cmp nat_cmp q p ≡ false
nat_cmp-apart p q lt = unsigned_tied q p ∙ grind (arith, nat_tests)
