-- The words of some whole numbers, by computation.
use Rattle.std.proofs.Common.{◌≡◌, pos, negsuc, Some, None, refl}
use Rattle.std.specs.Int.Count.{count_leading_zeros}
use Rattle.rw_types.specs.Words.{word_of_int}

word_0 : word_of_int (pos 0) ≡ Some 0x0000000000000000
unfolding word_of_int count_leading_zeros
word_0 = refl

word_1 : word_of_int (pos 1) ≡ Some 0x3ff0000000000000
unfolding word_of_int count_leading_zeros
word_1 = refl

word_2 : word_of_int (pos 3) ≡ Some 0x4008000000000000
unfolding word_of_int count_leading_zeros
word_2 = refl

word_3 : word_of_int (negsuc 1) ≡ Some 0xc000000000000000
unfolding word_of_int count_leading_zeros
word_3 = refl

word_4 : word_of_int (pos 9007199254740991) ≡ Some 0x433fffffffffffff
unfolding word_of_int count_leading_zeros
word_4 = refl

word_5 : word_of_int (pos 9007199254740992) ≡ Some 0x4340000000000000
unfolding word_of_int count_leading_zeros
word_5 = refl

word_6 : word_of_int (negsuc 9007199254740991) ≡ Some 0xc340000000000000
unfolding word_of_int count_leading_zeros
word_6 = refl

word_none : word_of_int (pos 9007199254740993) ≡ None
unfolding word_of_int count_leading_zeros
word_none = refl

word_none_below : word_of_int (negsuc 9007199254740992) ≡ None
unfolding word_of_int count_leading_zeros
word_none_below = refl
