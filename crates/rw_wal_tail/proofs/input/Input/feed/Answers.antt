use Rattle.std.proofs.Common.{◌≡◌, ◌∙◌, ◌<◌, ◌++◌, deque_len, List, ℕ, drop, length, map, ap, refl, arith}
use Rattle.std.proofs.lemmas.List.{drop-append-le, length-map}
use Rattle.std.proofs.lemmas.Result.{on_ok_weaker}
use Rattle.rw_wal_tail.specs.inner.Held.{Held, fed, waits_as}
use Rattle.rw_wal_tail.proofs.HeldLaws.{extended_ok, fed_ended, fed_here, fed_last, not_zero, is_zero}
use Rattle.rw_wal_tail.proofs.input.Input.feed.Goals as goal

pub returns-in_ok-push_back-clause-ok : goal.returns-in_ok-push_back-clause-ok
returns-in_ok-push_back-clause-ok c =
    let s = c.self.inside in
    let h : Held = record { segment = s.segment; offset = s.offset; rest = drop s.at s.buffer.items; later = map waits_as s.later.items; ended = s.ended; ends = s.ends } in
    let b : c.in_ok-to_vec.field-0.items ≡ c.args.piece.now = c.in_ok-to_vec.ensures.items_if_clones_equal (λ x y e. e) in
    fed_ended waits_as c.args.piece.now h s.later.items c.push_back.new.self.items _ c.if-self.true refl c.in_ok-push_back.ensures.items (ap (λ (l : List ℕ). (s.ends, l)) b)
    ∙ ap (fed c.args.piece.now) c.self.view_is

pub returns-then-is_empty-clause-ok : goal.returns-then-is_empty-clause-ok
returns-then-is_empty-clause-ok c =
    let s = c.self.inside in
    let h : Held = record { segment = s.segment; offset = s.offset; rest = drop s.at s.buffer.items; later = map waits_as s.later.items; ended = s.ended; ends = s.ends } in
    let n : length s.later.items ≡ 0 = (let k : deque_len s.later ≡ 0 = is_zero (deque_len s.later) c.is_empty.result c.is_empty.ensures c.if-is_empty.true in omega (arith, s.later.ok)) in
    on_ok_weaker c.extend_from_slice.result
    (λ q. fed_here c.args.piece.now _ h c.if-self.false (length-map s.later.items waits_as ∙ n)
    (ap (λ (xs : List ℕ). drop c.compact.new.at xs) q ∙ drop-append-le c.compact.new.at c.compact.new.buffer.items c.args.piece.now c.compact.ensures.within ∙ ap (λ (xs : List ℕ). xs ++ c.args.piece.now) c.compact.ensures.rest)
    ∙ ap (fed c.args.piece.now) c.self.view_is)
    (extended_ok c.extend_from_slice.result c.compact.new.buffer.items c.extend_from_slice.new.self.items c.args.piece.now c.extend_from_slice.ensures.items)

pub returns-else-is_empty-clause-ok : goal.returns-else-is_empty-clause-ok
returns-else-is_empty-clause-ok c =
    let s = c.self.inside in
    let h : Held = record { segment = s.segment; offset = s.offset; rest = drop s.at s.buffer.items; later = map waits_as s.later.items; ended = s.ended; ends = s.ends } in
    let n : 0 < length s.later.items = (let k : 0 < deque_len s.later = not_zero (deque_len s.later) c.is_empty.result c.is_empty.ensures c.if-is_empty.false in omega (arith, s.later.ok)) in
    on_ok_weaker c.extend_last_segment.result
    (λ e. fed_last waits_as c.args.piece.now h s.later.items c.extend_last_segment.new.later.items c.if-self.false refl n e ∙ ap (fed c.args.piece.now) c.self.view_is)
    c.extend_last_segment.ensures.ok
