use Rattle.std.proofs.Common.{◌+◌, length, ◌≡◌, ℕ, ◌≤◌, List, ◌++◌, true, false, Some}
use Rattle.std.specs.Io.KnownBytes.{prepend_known}
use Rattle.rw_endpoint.proofs.ServingLemmas.{IsServedUpTo}
use Rattle.rw_endpoint.specs.inner.Reading.{ReadsMore}
use Rattle.rw_endpoint.proofs.RecordedLemmas.{IsServedSoFar}
use Rattle.rw_endpoint.proofs.requests.serve_all.Given as goal

abbrev pub invariant-loop : goal.invariant-loop
invariant-loop g l = record {
  sure : g.T.ReadFrom.is_sure l.fn.reader ≡ true → g.T.ReadFrom.is_sure l.reader ≡ true;
  so_far : (input before : List ℕ) → g.T.ReadFrom.remaining l.fn.reader ≡ Some input → g.W.Sink.contents l.fn.writer ≡ Some before →
      (text : List ℕ) × (left : List ℕ) × (g.W.Sink.contents l.writer ≡ Some (before ++ text))
      × (prepend_known l.pending (g.T.ReadFrom.remaining l.reader) ≡ Some left)
      × IsServedUpTo l.path l.intake g.A.Answer.answers input l.fn.answer text left l.answer
      × (l.counter + length left ≤ length input)
      × (g.W.Sink.has_failed l.fn.writer ≡ false →
      (g.W.Sink.has_failed l.writer ≡ false) × (g.W.Sink.room l.fn.writer ≤ g.W.Sink.room l.writer + length text));
  recorded : (before : List ℕ) → g.W.Sink.contents l.fn.writer ≡ Some before → ReadsMore (g.T.ReadFrom.past l.fn.reader) (g.T.ReadFrom.past l.reader)
      (IsServedSoFar l.path l.intake g.A.Answer.answers l.fn.answer before (g.W.Sink.contents l.writer) l.pending l.answer);
}
