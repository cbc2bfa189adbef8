use Rattle.std.proofs.Common.{◌≡◌, ◌++◌, List, Vec, ℕ, ◌-◌, drop, length, take, refl, inl, inr, ◌∙◌, ap}
use Rattle.std.specs.declared.alloc.Global.{Global}
use Rattle.rw_kept_log.specs.Journal.{Segments}
use Rattle.rw_kept_log.specs.Retiring.{texts_of}
use Rattle.rw_kept_log.proofs.ImageLemmas.{elapses_to}
use Rattle.rw_kept_log.proofs.LeftLemmas.{first_replaced, replaced_synced, rest_of, within_done}
use Rattle.rw_kept_log.proofs.memory.MemoryJournalRetiringJournal.retire.Goals as goal

pub returns-in_err-put_copies-clause-crash : goal.returns-in_err-put_copies-clause-crash
returns-in_err-put_copies-clause-crash c = λ x left. inl (c.requires.synced x left)

pub returns-in_err-put_copies-2-clause-crash : goal.returns-in_err-put_copies-2-clause-crash
returns-in_err-put_copies-2-clause-crash c = λ x left. inl (c.requires.synced x left)

pub returns-clause-replaced : goal.returns-clause-replaced
returns-clause-replaced c =
    let done : texts_of c.put_copies-2.new.copies.items ≡ texts_of c.args.texts.now ++ texts_of (drop c.args.n c.args.self.now.image.done.items) =
    c.in_ok-put_copies-2.ensures
    ∙ ap (λ (ss : Segments). ss ++ texts_of (take (length c.deref.result.now - c.args.n) (drop c.args.n c.deref.result.now))) (c.in_ok-put_copies.ensures ∙ ap (λ (vs : List (Vec ℕ Global)). texts_of vs ++ texts_of c.args.texts.now) c.new-done.ensures.items)
    ∙ ap (λ (vs : List (Vec ℕ Global)). texts_of c.args.texts.now ++ texts_of (take (length vs - c.args.n) (drop c.args.n vs))) c.deref.ensures.value
    ∙ ap (λ (vs : List (Vec ℕ Global)). texts_of c.args.texts.now ++ texts_of vs) (rest_of c.args.n c.args.self.now.image.done.items) in
    first_replaced c.args.self.now.image c.put_copies-2.new.copies.items c.args.texts.now c.args.n (within_done c.args.self.now.image c.args.n c.requires.before_last) done

pub returns-clause-durable : goal.returns-clause-durable
returns-clause-durable c = replaced_synced c.args.self.now.image _ c.requires.synced refl refl

pub returns-clause-crash : goal.returns-clause-crash
returns-clause-crash c =
    let done : texts_of c.put_copies-2.new.copies.items ≡ texts_of c.args.texts.now ++ texts_of (drop c.args.n c.args.self.now.image.done.items) =
    c.in_ok-put_copies-2.ensures
    ∙ ap (λ (ss : Segments). ss ++ texts_of (take (length c.deref.result.now - c.args.n) (drop c.args.n c.deref.result.now))) (c.in_ok-put_copies.ensures ∙ ap (λ (vs : List (Vec ℕ Global)). texts_of vs ++ texts_of c.args.texts.now) c.new-done.ensures.items)
    ∙ ap (λ (vs : List (Vec ℕ Global)). texts_of c.args.texts.now ++ texts_of (take (length vs - c.args.n) (drop c.args.n vs))) c.deref.ensures.value
    ∙ ap (λ (vs : List (Vec ℕ Global)). texts_of c.args.texts.now ++ texts_of vs) (rest_of c.args.n c.args.self.now.image.done.items) in
    λ x left. inr (replaced_synced c.args.self.now.image _ c.requires.synced refl refl x left ∙ first_replaced c.args.self.now.image c.put_copies-2.new.copies.items c.args.texts.now c.args.n (within_done c.args.self.now.image c.args.n c.requires.before_last) done)

pub returns-clause-time : goal.returns-clause-time
returns-clause-time c = elapses_to _ _ _ _ c.push.ensures
