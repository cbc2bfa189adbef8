-- Transcripts with one item or one exchange more.
use Rattle.std.proofs.Common.{◌≡◌, ℕ, false, List, [], ◌∷◌, ◌++◌, map, Result, refl, sym, ap, ◌∙◌, subst, append_assoc, append-nil}
use Rattle.std.proofs.lemmas.List.{map-append}
use Rattle.std.specs.Prelude.{fold}
use Rattle.std.specs.Ordering.{nat_cmp}
use Rattle.std.specs.FinMap.{FinMap, empty}
use Rattle.rw_ledger.specs.declared.ledger.Reason.{Reason}
use Rattle.rw_retry.specs.Judgements.{judgement_of}
use Rattle.rw_retry.specs.declared.judgement.Judgement.TheVariants.{Again}
use Rattle.rw_plain_queue.specs.Items.{Placed}
use Rattle.rw_plain_queue.specs.declared.item.Item.{Item}
use Rattle.rw_shard_core.specs.Shard.{is_empty}
use Rattle.rw_shard_core.specs.declared.config.Target.{Target}
use Rattle.rw_worker.specs.declared.transport.Reply.{Reply}
use Rattle.rw_worker.specs.declared.transport.Lost.{Lost}
use Rattle.rw_worker.specs.Cut.{Cutting, cutting, one_of, cut_by}
use Rattle.rw_worker.specs.Transcript.{Exchange, exchange_of, reply_of_status, IsAgain, batch_request, AreTries, AreTriesOf, Settled, Settles, IsTranscript, samples_settled, with_names, Adds}
use Rattle.rw_worker.specs.Steps.{IsTranscriptOf}
use Rattle.rw_worker.proofs.CutLemmas.{cut-push}

tries-push : (request : List ℕ) (es : List Exchange) (answer : Result Reply Lost) → AreTries request es → IsAgain answer → AreTries request (es ++ exchange_of request answer ∷ [])
tries-push request [] answer h again = (refl, again, tt)
tries-push request (e ∷ es) answer h again = (h.0, h.1, tries-push request es answer h.2 again)

tries-none : (target : Target) (xs : List Placed) → AreTriesOf target xs []
tries-none target [] = refl
tries-none target (x ∷ xs) = tt

-- one batch more
transcript-push : (target : Target) (bs : List Settled) (es fs : List Exchange) (b : Settled) → IsTranscript target bs es → Settles target b fs → IsTranscript target (bs ++ b ∷ []) (es ++ fs)
transcript-push target [] es fs b h s = (fs, [], ap (λ xs. xs ++ fs) h ∙ sym (append-nil fs), s, refl)
transcript-push target (x ∷ xs) es fs b h s = (h.0, h.1 ++ fs, ap (λ ys. ys ++ fs) h.2 ∙ append_assoc h.0 h.1 fs, h.3, transcript-push target xs h.1 fs b h.4 s)

samples-push : (bs : List Settled) (b : Settled) → samples_settled (bs ++ b ∷ []) ≡ samples_settled bs ++ b.samples
samples-push [] b = append-nil b.samples
samples-push (x ∷ xs) b = ap (λ ys. x.samples ++ ys) (samples-push xs b) ∙ sym (append_assoc x.samples (samples_settled xs) b.samples)

names-push : (names : FinMap nat_cmp Reason) (bs : List Settled) (b : Settled) → fold with_names names (bs ++ b ∷ []) ≡ with_names (fold with_names names bs) b
names-push names [] b = refl
names-push names (x ∷ xs) b = names-push (with_names names x) xs b

pub adds-append : {X : Type 0} (a b c : Type 0) (old middle new first second : List X) → Adds a b old middle first → Adds b c middle new second → Adds a c old new (first ++ second)
adds-append a b c old middle new first second f s told =
    let n = s told in
    let m = f n.0 in
    (m.0, n.1 ∙ ap (λ xs. xs ++ second) m.1 ∙ append_assoc old first second)

-- an item more was taken, with which these samples are a batch and those the rest
pub transcript-take : (target : Target) (n : ℕ) (items : List Item) (es : List Exchange) (rest resolved : List Placed) (names : FinMap nat_cmp Reason) (x : Item) (unsent more : List Placed)
    → IsTranscriptOf target n items es [] rest resolved names → ((bs : List (List Placed)) → cut_by n (cutting bs rest) x ≡ cutting (bs ++ one_of unsent) more)
    → IsTranscriptOf target n (items ++ x ∷ []) es unsent more resolved names
transcript-take target n items es rest resolved names x unsent more h by =
    let ss = map (λ (b : Settled). b.samples) h.settled in record {
      settled = h.settled;
      batches = cut-push n items x ∙ ap (λ (c : Cutting). cut_by n c x) h.batches ∙ by (ss ++ []) ∙ ap (λ bs. cutting (bs ++ one_of unsent) more) (append-nil ss);
      settling = h.settling;
      tries = h.tries;
      exchanges_are = h.exchanges_are;
      transcript = h.transcript;
      tried = subst (λ ts. AreTriesOf target unsent ts) (sym h.tried) (tries-none target unsent);
      resolved_are = h.resolved_are;
      names_are = h.names_are;
    }

-- the batch was sent once more in vain
pub transcript-again : (target : Target) (n : ℕ) (items : List Item) (es : List Exchange) (unsent rest resolved : List Placed) (names : FinMap nat_cmp Reason) (answer : Result Reply Lost)
    → IsTranscriptOf target n items es unsent rest resolved names → is_empty unsent ≡ false → IsAgain answer
    → IsTranscriptOf target n items (es ++ exchange_of (batch_request target unsent) answer ∷ []) unsent rest resolved names
transcript-again target n items es [] rest resolved names answer h some again = absurd (cc)
transcript-again target n items es (x ∷ xs) rest resolved names answer h some again =
    let e = exchange_of (batch_request target (x ∷ xs)) answer in record {
      settled = h.settled;
      batches = h.batches;
      settling = h.settling;
      tries = h.tries ++ e ∷ [];
      exchanges_are = ap (λ fs. fs ++ e ∷ []) h.exchanges_are ∙ append_assoc h.settling h.tries (e ∷ []);
      transcript = h.transcript;
      tried = tries-push (batch_request target (x ∷ xs)) h.tries answer h.tried again;
      resolved_are = h.resolved_are;
      names_are = h.names_are;
    }

-- the batch was settled
pub transcript-settle : (target : Target) (n : ℕ) (items : List Item) (es : List Exchange) (unsent resolved : List Placed) (names : FinMap nat_cmp Reason) (status : ℕ)
    → IsTranscriptOf target n items es unsent [] resolved names → is_empty unsent ≡ false → (judgement_of status ≡ Again → ⊥)
    → IsTranscriptOf target n items (es ++ exchange_of (batch_request target unsent) (reply_of_status status) ∷ []) [] [] (resolved ++ unsent) (with_names names (record { samples = unsent; status = status }))
transcript-settle target n items es [] resolved names status h some final = absurd (cc)
transcript-settle target n items es (x ∷ xs) resolved names status h some final =
    let b : Settled = record { samples = x ∷ xs; status = status } in
    let e = exchange_of (batch_request target (x ∷ xs)) (reply_of_status status) in
    let settles : Settles target b (h.tries ++ e ∷ []) = record { some = refl; tries = h.tries; tried = h.tried; is = refl; final = final } in record {
      settled = h.settled ++ b ∷ [];
      batches = h.batches ∙ ap (λ bs. cutting bs []) (sym (map-append (λ (s : Settled). s.samples) h.settled (b ∷ [])) ∙ sym (append-nil (map (λ (s : Settled). s.samples) (h.settled ++ b ∷ []))));
      settling = h.settling ++ (h.tries ++ e ∷ []);
      tries = [];
      exchanges_are = ap (λ fs. fs ++ e ∷ []) h.exchanges_are ∙ append_assoc h.settling h.tries (e ∷ []) ∙ sym (append-nil (h.settling ++ (h.tries ++ e ∷ [])));
      transcript = transcript-push target h.settled h.settling (h.tries ++ e ∷ []) b h.transcript settles;
      tried = refl;
      resolved_are = ap (λ ys. ys ++ (x ∷ xs)) h.resolved_are ∙ sym (samples-push h.settled b);
      names_are = ap (λ m. with_names m b) h.names_are ∙ sym (names-push empty h.settled b);
    }
