-- One text of replies.
use Rattle.std.proofs.Common.{◌≡◌, ℕ, List, [], ◌++◌, length, drop, take, Bool, true, false, Result, Ok, Err, refl, sym, subst, ◌∙◌, ap, inl, inr, arith}
use Rattle.std.proofs.Math.Seq.{take-append_seam, drop-append_seam}
use Rattle.rw_endpoint.specs.Coding.{text_of, through, IsAnswered}
use Rattle.rw_endpoint.specs.Judgement.{finding_of}
use Rattle.rw_endpoint.specs.Replies.{reply_bytes}
use Rattle.rw_endpoint.specs.Serving.{Replies, Ends, Serves, ends, stays}
use Rattle.rw_endpoint.specs.Determined.{IsFunction, IsServedWhole, AreDetermined}
use Rattle.rw_endpoint.specs.declared.coding.Coding.{Coding}
use Rattle.rw_endpoint.specs.declared.finding.Finding.TheVariants.{Refused, Body}
use Rattle.rw_endpoint.specs.declared.serve_end.ServeEnd.{ServeEnd}
use Rattle.rw_endpoint.specs.declared.serve_end.ServeEnd.TheVariants.{Eof, Closed, Torn, Device, OutOfMemory}
use Rattle.rw_endpoint.proofs.FrontLemmas.{begins_more, shorter}
use Rattle.rw_endpoint.proofs.AloneLemmas.{one_head}
use Rattle.rw_endpoint.specs.declared.intake.Intake.{Intake}

-- two fronts of one length
fronts : (a b r q : List ℕ) → a ++ r ≡ b ++ q → length a ≡ length b → (a ≡ b) × (r ≡ q)
fronts a b r q e len = (
  sym (take-append_seam a r) ∙ ap (take (length a)) e ∙ ap (λ (n : ℕ). take n (b ++ q)) len ∙ take-append_seam b q,
  sym (drop-append_seam a r) ∙ ap (drop (length a)) e ∙ ap (λ (n : ℕ). drop n (b ++ q)) len ∙ drop-append_seam b q,
)

-- two replies that are one
record IsSame {S : Type 0} (text other rest left : List ℕ) (closes ending : Bool) (new last : S) : Type 0 where
  same_text : text ≡ other
  same_end : closes ≡ ending
  same_state : new ≡ last
  same_rest : closes ≡ false → rest ≡ left

-- two answers to what one body holds
one_answer : {S : Type 0} (answers : S → List ℕ → ℕ → S → Type 0) (held : Result (List ℕ) ℕ) (old : S) (status other : ℕ) (new last : S) → IsFunction answers →
    IsAnswered answers held old status new → IsAnswered answers held old other last → (status ≡ other) × (new ≡ last)
one_answer answers (Ok text) old status other new last one a b = one old text status other new last a.0 b.0
one_answer answers (Err refusal) old status other new last one a b = (a.0 ∙ sym b.0, a.1 ∙ sym b.1)

-- two replies to one request
same_reply : {S : Type 0} (path : List ℕ) (intake : Intake) (answers : S → List ℕ → ℕ → S → Type 0) (input : List ℕ) (old : S) (text other rest left : List ℕ) (closes ending : Bool) (new last : S) →
    IsFunction answers → Replies path intake answers input old text rest closes new → Replies path intake answers input old other left ending last →
    IsSame text other rest left closes ending new last
same_reply path intake answers input old text other rest left closes ending new last one (inl a) (inl b) = record {
  same_text = a.written ∙ sym b.written;
  same_end = a.closing ∙ sym b.closing;
  same_state = a.unasked ∙ sym b.unasked;
  same_rest = λ e. absurd (let f : true ≡ false = sym a.closing ∙ e in cc);
}
same_reply path intake answers input old text other rest left closes ending new last one (inl a) (inr (inl b)) =
    absurd (a.never [] b.head (b.rest ++ []) (begins_more input [] b.head b.rest b.begins))
same_reply path intake answers input old text other rest left closes ending new last one (inl a) (inr (inr b)) =
    absurd (a.never [] b.head ((b.body ++ left) ++ []) (begins_more input [] b.head (b.body ++ left) b.begins))
same_reply path intake answers input old text other rest left closes ending new last one (inr (inl a)) (inl b) =
    absurd (b.never [] a.head (a.rest ++ []) (begins_more input [] a.head a.rest a.begins))
same_reply path intake answers input old text other rest left closes ending new last one (inr (inr a)) (inl b) =
    absurd (b.never [] a.head ((a.body ++ rest) ++ []) (begins_more input [] a.head (a.body ++ rest) a.begins))
same_reply path intake answers input old text other rest left closes ending new last one (inr (inl a)) (inr (inl b)) =
    let same = one_head input a.head b.head a.rest b.rest a.begins b.begins in
    let status : a.status ≡ b.status = (let e : Refused a.status ≡ Refused b.status = sym a.finding ∙ ap (finding_of path intake) same.0 ∙ b.finding in cc) in
    record {
      same_text = a.written ∙ ap (λ (s : ℕ). reply_bytes s true) status ∙ sym b.written;
      same_end = a.closing ∙ sym b.closing;
      same_state = a.unasked ∙ sym b.unasked;
      same_rest = λ e. absurd (let f : true ≡ false = sym a.closing ∙ e in cc);
    }
same_reply path intake answers input old text other rest left closes ending new last one (inr (inl a)) (inr (inr b)) =
    let same = one_head input a.head b.head a.rest (b.body ++ left) a.begins b.begins in
    absurd (let e : Refused a.status ≡ Body (length b.body) ending b.coding = sym a.finding ∙ ap (finding_of path intake) same.0 ∙ b.finding in cc)
same_reply path intake answers input old text other rest left closes ending new last one (inr (inr a)) (inr (inl b)) =
    let same = one_head input a.head b.head (a.body ++ rest) b.rest a.begins b.begins in
    absurd (let e : Body (length a.body) closes a.coding ≡ Refused b.status = sym a.finding ∙ ap (finding_of path intake) same.0 ∙ b.finding in cc)
same_reply path intake answers input old text other rest left closes ending new last one (inr (inr a)) (inr (inr b)) =
    let same = one_head input a.head b.head (a.body ++ rest) (b.body ++ left) a.begins b.begins in
    let e : Body (length a.body) closes a.coding ≡ Body (length b.body) ending b.coding = sym a.finding ∙ ap (finding_of path intake) same.0 ∙ b.finding in
    let len : length a.body ≡ length b.body = cc in
    let end : closes ≡ ending = cc in
    let coding : a.coding ≡ b.coding = cc in
    let parts = fronts a.body b.body rest left same.1 len in
    let given = subst (λ (k : Coding). through k answers old a.body b.status last) (sym coding) (subst (λ (t : List ℕ). through b.coding answers old t b.status last) (sym parts.0) b.status_given) in
    let told = one_answer answers (text_of a.coding a.body) old a.status b.status new last one a.status_given given in
    record {
      same_text = a.written ∙ ap (λ (s : ℕ). reply_bytes s closes) told.0 ∙ ap (reply_bytes b.status) end ∙ sym b.written;
      same_end = end;
      same_state = told.1;
      same_rest = λ f. parts.1;
    }

-- two ends of one kind
same_end : {S : Type 0} (path : List ℕ) (intake : Intake) (answers : S → List ℕ → ℕ → S → Type 0) (input : List ℕ) (old : S) (text other : List ℕ) (new last : S) (how : ServeEnd) →
    IsFunction answers → Ends path intake answers input old text new how → Ends path intake answers input old other last how → IsServedWhole how →
    (text ≡ other) × (new ≡ last)
same_end path intake answers input old text other new last Eof one a b whole = (a.1.0 ∙ sym b.1.0, a.1.1 ∙ sym b.1.1)
same_end path intake answers input old text other new last Closed one a b whole =
    let same = same_reply path intake answers input old text other a.0 b.0 true true new last one a.1 b.1 in
    (same.same_text, same.same_state)
same_end path intake answers input old text other new last Torn one a b whole = absurd whole
same_end path intake answers input old text other new last Device one a b whole = absurd whole
same_end path intake answers input old text other new last OutOfMemory one a b whole = absurd whole

-- an input that ends here does not go on
no_more : {S : Type 0} (path : List ℕ) (intake : Intake) (answers : S → List ℕ → ℕ → S → Type 0) (input : List ℕ) (old : S) (text first rest : List ℕ) (new middle : S) (how : ServeEnd) →
    IsFunction answers → Ends path intake answers input old text new how → IsServedWhole how → Replies path intake answers input old first rest false middle → ⊥
no_more path intake answers input old text first rest new middle Eof one a whole b =
    let less = shorter path intake answers input old first rest middle b in
    let none : length input ≡ 0 = ap length a.0 in
    absurd (omega (arith, less, none))
no_more path intake answers input old text first rest new middle Closed one a whole b =
    let same = same_reply path intake answers input old text first a.0 rest true false new middle one a.1 b in
    absurd (let e : true ≡ false = same.same_end in cc)
no_more path intake answers input old text first rest new middle Torn one a whole b = absurd whole
no_more path intake answers input old text first rest new middle Device one a whole b = absurd whole
no_more path intake answers input old text first rest new middle OutOfMemory one a whole b = absurd whole

pub determined : {S : Type 0} (answers : S → List ℕ → ℕ → S → Type 0) → IsFunction answers → AreDetermined answers
determined answers one path intake input old text other new last how (ends a) (ends b) whole =
    same_end path intake answers input old text other new last how one a b whole
determined answers one path intake input old text other new last how (ends a) (stays {first = first} {rest = rest} {middle = middle} b more) whole =
    absurd (no_more path intake answers input old text first rest new middle how one a whole b)
determined answers one path intake input old text other new last how (stays {first = first} {rest = rest} {middle = middle} b more) (ends a) whole =
    absurd (no_more path intake answers input old other first rest last middle how one a whole b)
determined answers one path intake input old text other new last how (stays {first = first} {rest = rest} {middle = middle} {text = tail} a more) (stays {first = begin} {rest = left} {middle = between} {text = end} b further) whole =
    let same = same_reply path intake answers input old first begin rest left false false middle between one a b in
    let same_input = subst (λ (t : List ℕ). Serves path intake answers t between end last how) (sym (same.same_rest refl)) further in
    let same_state = subst (λ (s : _). Serves path intake answers rest s end last how) (sym same.same_state) same_input in
    let after = determined answers one path intake rest middle tail end new last how more same_state whole in
    (ap (λ (t : List ℕ). t ++ tail) same.same_text ∙ ap (λ (t : List ℕ). begin ++ t) after.0, after.1)
