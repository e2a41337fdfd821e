-- What a link's own line delivers.
use Rattle.std.proofs.Common.{◌≡◌, ℕ, ◌+◌, ◌-◌, List, [], ◌∷◌, ◌++◌, length, map, Ok, Err, Some, None, Option, ℤ, refl, sym, ap, ◌∙◌, append_assoc, append-nil, arith}
use Rattle.std.proofs.lemmas.List.{length-append, length-map, map-append}
use Rattle.rules.specs.Arrivals.{Arrival}
use Rattle.rules.specs.Ends.{Taken}
use Rattle.rules.specs.Sending.{Sent}
use Rattle.rules.specs.Links.{Line, Link, arrival_put, source_left, this_line, to_come, to_come_from}
use Rattle.law.specs.Runs.{Call, CallMade, Send, Blank, Disturb, Take, RestartSender, RestartReceiver, Frame, Role, frame, restarts, nothing, Run, Step, arrivals_taken, frame_of_role, frames_sent, now, receiver_role, restarts_at, sender_role, the_receiver, the_sender}
use Rattle.law.specs.Keeping.{DisturbsNothing, OwnLineDelivers, IsUndisturbed, StartsEmpty, arrival_of_frame}
use Rattle.law.proofs.Keeping.{set_length}
use Rattle.law.proofs.Steps.{blank_refused}

-- the link goes on to take from its own line
still_own : (s t : Link) (c : Call) → Step s c t → s.source ≡ this_line → t.source ≡ this_line
still_own s t (Send n p r) h own = ap (λ l. l.source) h.1 ∙ own
still_own s t (Blank r) h own = ap (λ l. l.source) h.1 ∙ own
still_own s t (Disturb n c bytes r) h own = ap (λ l. l.source) h.1 ∙ own
still_own s t (Take x) h own = ap (λ l. l.source) h.1 ∙ ap (λ u. source_left u (to_come t)) own
still_own s t RestartSender h own = ap (λ l. l.source) h ∙ own
still_own s t RestartReceiver h own = ap (λ l. l.source) h ∙ own

own_line : (s : Link) → s.source ≡ this_line → to_come s ≡ s.line.waiting
own_line s own = ap (λ u. to_come_from u s.line) own

pub own_supply : (s : Link) (h : List CallMade) → s.source ≡ this_line → Run s h → (now s h).source ≡ this_line
own_supply s [] own r = own
own_supply s (m ∷ h) own r = still_own (now s h) m.link m.call r.0 (own_supply s h own r.1)

-- what a call of this role adds to what was sent, and to what was taken
abbrev sent_by : Role (Option Sent) → List Arrival
sent_by (frame w) = arrival_of_frame w ∷ []
sent_by restarts = []
sent_by nothing = []

abbrev taken_by : Role Taken → List Arrival
taken_by (frame x) = x.arrival ∷ []
taken_by restarts = []
taken_by nothing = []

abbrev sent_list : List CallMade → List Arrival
sent_list h = map (λ f. arrival_of_frame f.what) (frames_sent h)

abbrev taken_list : List CallMade → List Arrival
taken_list h = map (λ g. g.what.arrival) (arrivals_taken h)

sent_frame : (p : Role (Option Sent)) (m : List ℤ) (n : ℕ) → map (λ (f : Frame (Option Sent)). arrival_of_frame f.what) (frame_of_role p m n) ≡ sent_by p
sent_frame (frame w) m n = refl
sent_frame restarts m n = refl
sent_frame nothing m n = refl

taken_frame : (p : Role Taken) (m : List ℤ) (n : ℕ) → map (λ (g : Frame Taken). g.what.arrival) (frame_of_role p m n) ≡ taken_by p
taken_frame (frame x) m n = refl
taken_frame restarts m n = refl
taken_frame nothing m n = refl

sent_more : (m : CallMade) (h : List CallMade) → sent_list (m ∷ h) ≡ sent_list h ++ sent_by (sender_role m.call)
sent_more m h =
    map-append (λ (f : Frame (Option Sent)). arrival_of_frame f.what) (frames_sent h) (frame_of_role (sender_role m.call) m.link.sender.memories (restarts_at the_sender h))
    ∙ ap (λ l. sent_list h ++ l) (sent_frame (sender_role m.call) m.link.sender.memories (restarts_at the_sender h))

taken_more : (m : CallMade) (h : List CallMade) → taken_list (m ∷ h) ≡ taken_list h ++ taken_by (receiver_role m.call)
taken_more m h =
    map-append (λ (g : Frame Taken). g.what.arrival) (arrivals_taken h) (frame_of_role (receiver_role m.call) m.link.receiver.memories (restarts_at the_receiver h))
    ∙ ap (λ l. taken_list h ++ l) (taken_frame (receiver_role m.call) m.link.receiver.memories (restarts_at the_receiver h))

-- ---- what each call does to the line

-- what waits, and what joins, is what is taken and what then waits
abbrev Flows : List Arrival → List Arrival → List Arrival → List Arrival → Type 0
Flows before joins taken after = before ++ joins ≡ taken ++ after

as_before : (line line' : Line) → line' ≡ line → Flows line.waiting [] [] line'.waiting
as_before line line' e = append-nil line.waiting ∙ ap (λ l. l.waiting) (sym e)

flows : (s t : Link) (c : Call) → s.source ≡ this_line → DisturbsNothing c → Step s c t → Flows s.line.waiting (sent_by (sender_role c)) (taken_by (receiver_role c)) t.line.waiting
flows s t (Send n p (Ok f)) own calm h = ap (λ l. l.waiting) (sym h.0.1.line_after)
flows s t (Send n p (Err e)) own calm h = as_before s.line t.line h.0.3
flows s t (Blank (Ok u)) own calm h = ap (λ l. l.waiting) (sym h.0.0.1)
flows s t (Blank (Err e)) own calm h = as_before s.line t.line (blank_refused s.sender t.sender s.line t.line e h.0).1
flows s t (Disturb n c bytes (Ok u)) own calm h = absurd calm
flows s t (Disturb n c bytes (Err e)) own calm h = as_before s.line t.line h.0.2
flows s t (Take (Some x)) own calm h =
    append-nil s.line.waiting ∙ sym (own_line s own) ∙ h.0.first ∙ ap (λ l. x.arrival ∷ l) (own_line t (still_own s t (Take (Some x)) h own))
flows s t (Take None) own calm h =
    append-nil s.line.waiting ∙ sym (own_line s own) ∙ h.0.0.0 ∙ sym h.0.0.1 ∙ own_line t (still_own s t (Take None) h own)
flows s t RestartSender own calm h = as_before s.line t.line (ap (λ l. l.line) h)
flows s t RestartReceiver own calm h = as_before s.line t.line (ap (λ l. l.line) h)

-- and as many arrivals, if one of them is disturbed too
as_many : (s t : Link) (c : Call) → Flows s.line.waiting (sent_by (sender_role c)) (taken_by (receiver_role c)) t.line.waiting
    → length s.line.waiting + length (sent_by (sender_role c)) ≡ length (taken_by (receiver_role c)) + length t.line.waiting
as_many s t c e =
    sym (length-append s.line.waiting (sent_by (sender_role c))) ∙ ap length e ∙ length-append (taken_by (receiver_role c)) t.line.waiting

flows_many : (s t : Link) (c : Call) → s.source ≡ this_line → Step s c t
    → length s.line.waiting + length (sent_by (sender_role c)) ≡ length (taken_by (receiver_role c)) + length t.line.waiting
flows_many s t (Disturb n c bytes (Ok u)) own h =
    let e = ap (λ l. length l.waiting) h.0.line_after in omega (arith, e, set_length s.line.waiting (n - 1) (arrival_put c bytes))
flows_many s t (Send n p r) own h = as_many s t (Send n p r) (flows s t (Send n p r) own tt h)
flows_many s t (Blank r) own h = as_many s t (Blank r) (flows s t (Blank r) own tt h)
flows_many s t (Disturb n c bytes (Err e)) own h = as_many s t (Disturb n c bytes (Err e)) (flows s t (Disturb n c bytes (Err e)) own tt h)
flows_many s t (Take x) own h = as_many s t (Take x) (flows s t (Take x) own tt h)
flows_many s t RestartSender own h = as_many s t RestartSender (flows s t RestartSender own tt h)
flows_many s t RestartReceiver own h = as_many s t RestartReceiver (flows s t RestartReceiver own tt h)

-- ---- over a run

module _ (s : Link) (empty : StartsEmpty s) where
  delivered : (h : List CallMade) → IsUndisturbed h → Run s h → sent_list h ≡ taken_list h ++ (now s h).line.waiting
  delivered [] calm r = sym empty.waiting
  delivered (m ∷ h) calm r =
      let before = delivered h calm.1 r.1 in
      let w = (now s h).line.waiting in
      let joins = sent_by (sender_role m.call) in
      let takes = taken_by (receiver_role m.call) in
      sent_more m h
      ∙ ap (λ l. l ++ joins) before
      ∙ append_assoc (taken_list h) w joins
      ∙ ap (λ l. taken_list h ++ l) (flows (now s h) m.link m.call (own_supply s h empty.source r.1) calm.0 r.0)
      ∙ sym (append_assoc (taken_list h) takes m.link.line.waiting)
      ∙ ap (λ l. l ++ m.link.line.waiting) (sym (taken_more m h))

  delivered_many : (h : List CallMade) → Run s h → length (sent_list h) ≡ length (taken_list h) + length (now s h).line.waiting
  delivered_many [] r = let e = ap length empty.waiting in omega arith
  delivered_many (m ∷ h) r =
      let before = delivered_many h r.1 in
      let more = flows_many (now s h) m.link m.call (own_supply s h empty.source r.1) r.0 in
      let joins = sent_by (sender_role m.call) in
      let takes = taken_by (receiver_role m.call) in
      omega (arith, ap length (sent_more m h) ∙ length-append (sent_list h) joins, ap length (taken_more m h) ∙ length-append (taken_list h) takes, before, more)

pub own_line_delivers : OwnLineDelivers
own_line_delivers s h empty r = record {
  many = sym (length-map (frames_sent h) _) ∙ delivered_many s empty h r ∙ ap (λ n. n + length (now s h).line.waiting) (length-map (arrivals_taken h) _);
  undisturbed = λ calm. delivered s empty h calm r;
}
