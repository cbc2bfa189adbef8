use Rattle.std.proofs.Common.{◌≡◌, ◌∙◌, List, ℕ, Bool, Option, Some, None, cond, refl, sym, ap}
use Rattle.rw_wal_format.specs.Records.{◌then◌, record_entries}
use Rattle.rw_wal_format.specs.Segments.{text_of}
use Rattle.rw_wal_tail.proofs.KeptLaws.{read_if, lacks_if}
use Rattle.rw_wal_tail.proofs.reader.read_whole.Goals as goal

pub returns-then-not-is_block-clause-ok : goal.returns-then-not-is_block-clause-ok
returns-then-not-is_block-clause-ok c =
    let t : text_of (c.args.is_block, c.args.data.now) ≡ Some c.args.data.now = ap (λ (b : Bool). text_of (b, c.args.data.now)) c.if-not-is_block.true in
    read_if (c.args.is_block, c.args.data.now) c.args.data.now c.args.passed.now c.read_text.new.ready.items c.read_text.new.passed c.read_text.result t c.read_text.ensures.ok

pub returns-then-not-is_block-clause-certain : goal.returns-then-not-is_block-clause-certain
returns-then-not-is_block-clause-certain c =
    let t : text_of (c.args.is_block, c.args.data.now) ≡ Some c.args.data.now = ap (λ (b : Bool). text_of (b, c.args.data.now)) c.if-not-is_block.true in
    lacks_if (c.args.is_block, c.args.data.now) c.args.data.now _ c.read_text.result t c.read_text.ensures.certain

pub returns-then-not-decode-clause-ok : goal.returns-then-not-decode-clause-ok
returns-then-not-decode-clause-ok c =
    let t : text_of (c.args.is_block, c.args.data.now) ≡ None =
    ap (λ (b : Bool). text_of (b, c.args.data.now)) c.if-not-is_block.false ∙ c.decode.ensures.text ∙ ap (λ (b : Bool). cond b (Some c.decode.new.self.text) None) c.if-not-decode.true in
    (ap (λ (o : Option (List ℕ)). o then λ x. record_entries x) t, c.clear.ensures.items, refl)

pub returns-clause-ok : goal.returns-clause-ok
returns-clause-ok c =
    let t : text_of (c.args.is_block, c.args.data.now) ≡ Some c.text.result.now =
    ap (λ (b : Bool). text_of (b, c.args.data.now)) c.if-not-is_block.false ∙ c.decode.ensures.text ∙ ap (λ (b : Bool). cond b (Some c.decode.new.self.text) None) c.if-not-decode.false ∙ ap (λ (l : List ℕ). Some l) (sym c.text.ensures) in
    read_if (c.args.is_block, c.args.data.now) c.text.result.now c.args.passed.now c.read_text-2.new.ready.items c.read_text-2.new.passed c.read_text-2.result t c.read_text-2.ensures.ok

pub returns-clause-certain : goal.returns-clause-certain
returns-clause-certain c =
    let t : text_of (c.args.is_block, c.args.data.now) ≡ Some c.text.result.now =
    ap (λ (b : Bool). text_of (b, c.args.data.now)) c.if-not-is_block.false ∙ c.decode.ensures.text ∙ ap (λ (b : Bool). cond b (Some c.decode.new.self.text) None) c.if-not-decode.false ∙ ap (λ (l : List ℕ). Some l) (sym c.text.ensures) in
    lacks_if (c.args.is_block, c.args.data.now) c.text.result.now _ c.read_text-2.result t c.read_text-2.ensures.certain
