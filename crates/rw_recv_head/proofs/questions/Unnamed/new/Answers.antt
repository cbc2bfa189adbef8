use Rattle.std.proofs.Common.{[], ◌∷◌}
use Rattle.rw_recv_head.proofs.QuestionMoves.{first_kept}
use Rattle.rw_recv_head.proofs.questions.Unnamed.new.Goals as goal

pub of_words-requires : goal.of_words-requires
of_words-requires c = first_kept (0 ∷ [])
