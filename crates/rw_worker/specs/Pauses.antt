-- How long a worker waits after each of its steps (Remote-Write 1.0, "Retries & backoff"): longer
-- with each try of a batch without success, and the least pause if memory ran out.
use Rattle.std.specs.Prelude.{ℕ, ◌+◌, List, [], ◌∷◌, ◌++◌, if◌then◌else◌}
use Rattle.rw_retry.specs.Backoff.{delay_of}
use Rattle.rw_worker.specs.Transcript.{is_again}
use Rattle.rw_worker.specs.Steps.{Step, Takes, Freezes, Sends, Waits}

-- the pause after a step, if the open batch was sent this often before without success
abbrev pub pause_after : ℕ → ℕ → ℕ → Step → List ℕ
pause_after least most retries (Takes x) = []
pause_after least most retries Freezes = []
pause_after least most retries (Sends e) = if is_again e.answer then delay_of least most retries ∷ [] else []
pause_after least most retries Waits = least ∷ []

-- how often the open batch was sent without success, with this step
abbrev pub retries_after : ℕ → Step → ℕ
retries_after retries (Takes x) = retries
retries_after retries Freezes = retries
retries_after retries (Sends e) = if is_again e.answer then retries + 1 else 0
retries_after retries Waits = retries

-- with these steps
abbrev pub retries_of : ℕ → List Step → ℕ
retries_of retries [] = retries
retries_of retries (s ∷ ss) = retries_of (retries_after retries s) ss

-- the pauses after these steps, in their order
abbrev pub pauses_of : ℕ → ℕ → ℕ → List Step → List ℕ
pauses_of least most retries [] = []
pauses_of least most retries (s ∷ ss) = pause_after least most retries s ++ pauses_of least most (retries_after retries s) ss
