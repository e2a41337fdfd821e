-- Two ends that were fed the same 256 packets in a row.
use Rattle.std.proofs.Common.{◌≡◌, ℕ, zero, suc, ◌+◌, ◌≤◌, List, [], ◌∷◌, ◌++◌, length, Option, Some, None, MatchOption, true, ℤ, sym, ap, ap₂, ◌∙◌, subst, arith}
use Rattle.service.specs.declared.readings.Letter.{Letter}
use Rattle.service.specs.declared.readings.Letter.TheVariants.{C, P, S, D, B, E}
use Rattle.service.specs.Letters.{is_read}
use Rattle.lsp.specs.Histories.{Event, after, packet, without_blanks}
use Rattle.lsp.specs.Laws.{Agree}
use Rattle.lsp.specs.States.{fresh}
use Rattle.lsp.proofs.Runs.{ends_agree}
use Rattle.rules.specs.Readings.{Reading, event_read, packet_read}
use Rattle.rules.specs.Ends.{Taken}
use Rattle.rules.specs.Sending.{Sent}
use Rattle.law.specs.Runs.{Frame, CallMade, arrivals_taken, frames_sent, sent_event, taken_event}
use Rattle.law.specs.Law.{InARow, FrameLspTakenAsSent, IsSent, IsTaken, LspTakenAsSent, numbered, one_if_packet, packet_count, one_if_packet_frame}
use Rattle.law.proofs.Timeline.{Spans, event_at, span}

-- what is read as sent is the same to both ends
packet_event : (f : Sent) (o : Option Reading) → MatchOption o ⊥ (λ r. (r.rate ≡ f.rate) × (r.codes.lsp ≡ f.codes.lsp)) → packet f.rate f.codes.lsp ≡ packet_read o
packet_event f None h = absurd h
packet_event f (Some r) (q, c) = ap₂ (λ q c. packet q c) (sym q) (sym c)

read_event : (f : Sent) (l : Letter) (o : Option Reading) → is_read l ≡ true → MatchOption o ⊥ (λ r. (r.rate ≡ f.rate) × (r.codes.lsp ≡ f.codes.lsp))
    → packet f.rate f.codes.lsp ≡ event_read l o
read_event f C o i h = packet_event f o h
read_event f P o i h = packet_event f o h
read_event f S o i h = packet_event f o h
read_event f D o i h = absurd cc
read_event f B o i h = absurd cc
read_event f E o i h = absurd cc

same_event : (w : Option Sent) (x : Taken) → LspTakenAsSent w x → sent_event w ≡ taken_event x
same_event (Some f) x (i, h) = read_event f x.letter x.reading i h
same_event None x e = ap (λ l. event_read l x.reading) (sym e)

module _ (h : List CallMade) (n : ℕ) where
  same_spans : (j : ℕ) → ((i : ℕ) → i ≤ j → FrameLspTakenAsSent h (n + i)) → span sent_event (frames_sent h) n j ≡ span taken_event (arrivals_taken h) n j
  unfolding span event_at
  same_spans zero each =
      let p = each 0 (omega arith) in
      let q : n + 0 ≡ n = omega arith in
      ap (λ o. event_at sent_event o ∷ []) (ap (numbered (frames_sent h)) (sym q) ∙ p.pair.is_sent)
      ∙ ap (λ e. e ∷ []) (same_event p.pair.sent.what p.pair.taken.what p.same)
      ∙ ap (λ o. event_at taken_event o ∷ []) (sym p.pair.is_taken ∙ ap (numbered (arrivals_taken h)) q)
  same_spans (suc j) each =
      let p = each (suc j) (omega arith) in
      ap₂ (λ o l. event_at sent_event o ∷ l) p.pair.is_sent (same_spans j (λ i l. each i (omega arith)))
      ∙ ap (λ e. e ∷ span taken_event (arrivals_taken h) n j) (same_event p.pair.sent.what p.pair.taken.what p.same)
      ∙ ap (λ o. event_at taken_event o ∷ span taken_event (arrivals_taken h) n j) (sym p.pair.is_taken)

  -- a packet is one event, a blank is none
  one_more : (o : Option (Frame (Option Sent))) (l : List Event) → length (without_blanks (event_at sent_event o ∷ l)) ≡ length (without_blanks l) + one_if_packet_frame o
  unfolding event_at
  one_more None l = omega arith
  one_more (Some f) l = one f.what
    where
      one : (w : Option Sent) → length (without_blanks (sent_event w ∷ l)) ≡ length (without_blanks l) + one_if_packet w
      one None = omega arith
      one (Some g) = omega arith

  span_packets : (fs : List (Frame (Option Sent))) (j : ℕ) → length (without_blanks (span sent_event fs n j)) ≡ packet_count fs n (suc j)
  unfolding span
  span_packets fs zero =
      let q : n + 0 ≡ n = omega arith in
      one_more (numbered fs n) [] ∙ ap (λ k. 0 + one_if_packet_frame (numbered fs k)) (sym q)
  span_packets fs (suc j) =
      one_more (numbered fs (n + suc j)) (span sent_event fs n j) ∙ ap (λ k. k + one_if_packet_frame (numbered fs (n + suc j))) (span_packets fs j)

-- after 256 packets in a row
module _ (h : List CallMade) (m m' : List ℤ) (e e' : ℕ) (sender : Spans sent_event (frames_sent h) m e) (receiver : Spans taken_event (arrivals_taken h) m' e') where
  pub agree : (n j : ℕ) (f : Frame (Option Sent)) (g : Frame Taken) → InARow h n j → IsSent h (n + j) f → IsTaken h (n + j) g → Agree f.memories g.memories
  agree n j f g row is_sent is_taken =
      let p = row.lsp_taken_as_sent 0 (omega arith) in
      let q : n + 0 ≡ n = omega arith in
      let first_sent : IsSent h n p.pair.sent = subst (λ k. IsSent h k p.pair.sent) q p.pair.is_sent in
      let first_taken : IsTaken h n p.pair.taken = subst (λ k. IsTaken h k p.pair.taken) q p.pair.is_taken in
      let a = sender.between n j p.pair.sent f first_sent is_sent (row.sender_era p.pair.sent f first_sent is_sent) in
      let b = receiver.between n j p.pair.taken g first_taken is_taken (row.receiver_era p.pair.taken g first_taken is_taken) in
      let same = same_spans h n j row.lsp_taken_as_sent in
      let agreed = ends_agree a.before b.before (span sent_event (frames_sent h) n j) (span taken_event (arrivals_taken h) n j) a.lawful b.lawful
      (record { same = ap without_blanks same; many = span_packets h n (frames_sent h) j ∙ row.many }) in
      subst (λ k. Agree k g.memories) (sym a.is) (subst (λ k. Agree (after fresh (span sent_event (frames_sent h) n j ++ a.before)) k) (sym b.is) agreed)
