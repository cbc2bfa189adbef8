use Rattle.std.proofs.Common.{rules, sym}
use Rattle.rw_types.proofs.shared.WordValues.{int_of_word-from_word, int_of_word-none}
use Rattle.rw_types.proofs.word.Word.as_int.Goals as goal

pub returns-then-is_word_of-clause-value : goal.returns-then-is_word_of-clause-value
returns-then-is_word_of-clause-value c = sym (int_of_word-from_word _ c.args.self (search rules))

pub returns-then-is_word_of-2-clause-value : goal.returns-then-is_word_of-2-clause-value
returns-then-is_word_of-2-clause-value c = sym (int_of_word-from_word _ c.args.self (search rules))

pub returns-clause-value : goal.returns-clause-value
returns-clause-value c = sym (int_of_word-none c.args.self (search rules))
