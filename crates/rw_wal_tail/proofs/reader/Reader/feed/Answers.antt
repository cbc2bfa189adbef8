use Rattle.std.proofs.Common.{◌∙◌, ◌+◌, ◌≤◌, length, sym, refl, arith}
use Rattle.std.proofs.lemmas.Result.{on_ok_weaker}
use Rattle.rw_wal_tail.proofs.StepLaws.{takes_bytes, takes_nothing}
use Rattle.std.specs.Prelude.{vec_capacity}
use Rattle.rw_wal_tail.specs.inner.Held.{unread}
use Rattle.rw_wal_tail.proofs.KeptLaws.{kept_feed, open_as}
use Rattle.rw_wal_tail.proofs.reader.Reader.feed.Goals as goal

pub returns-clause-ok : goal.returns-clause-ok
returns-clause-ok c = on_ok_weaker c.feed.result (λ e. takes_bytes c.args.self.now _ c.args.piece.now c.requires (sym c.can_count.ensures ∙ c.if-not-can_count.false) e refl refl refl refl refl (open_as c.args.self.now _ c.in_ok-reserve.ensures.items) refl) c.feed.ensures.ok

pub returns-in-Some-clause-ok : goal.returns-in-Some-clause-ok
returns-in-Some-clause-ok c = takes_nothing c.args.self.now c.args.piece.now c.in-Some.field-0 c.requires c.in-Some.is

pub returns-clause-kept : goal.returns-clause-kept
returns-clause-kept c n k =
    let old = c.args.self.now in
    let room : length old.begun.items + (unread old.input + length c.args.piece.now) ≤ vec_capacity c.reserve.new.self =
    omega (arith, c.in_ok-reserve.ensures.ok, c.in_ok-reserve.ensures.len, c.in-Some-unread.ensures, old.begun.ok.0) in
    kept_feed c.feed.result old _ c.args.piece.now n c.feed.ensures.ok c.feed.ensures.err c.in_ok-reserve.ensures.items refl room c.reserve.ensures.capacity k
