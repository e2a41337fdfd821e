-- What is known of each frame sent and of each arrival taken.
use Rattle.std.proofs.Common.{◌≡◌, ℕ, zero, suc, true, List, [], ◌∷◌, ◌++◌, Ok, Err, Some, None, Option, ℤ, sym, ap, subst, inl, inr}
use Rattle.packet.specs.Calls.{packet}
use Rattle.packet.specs.Codes.{Within}
use Rattle.rules.specs.Arrivals.{are_lawful, is_lawful}
use Rattle.rules.specs.Readings.{Reads}
use Rattle.rules.specs.Ends.{Taken}
use Rattle.rules.specs.Links.{Link, to_come}
use Rattle.rules.specs.Sending.{Sent}
use Rattle.law.specs.Runs.{Call, Send, Blank, Disturb, Take, RestartSender, RestartReceiver, Frame, CallMade, New, Role, frame, restarts, nothing, Run, LinkEnd, Step, arrivals_taken, frame_of_role, frames_at, frames_sent, now, restarts_at, receiver_role, sender_role, the_receiver, the_sender}
use Rattle.law.specs.Law.{numbered}
use Rattle.law.proofs.Keeping.{ArrivalsKept, arrivals_kept, lawful_first, to_come_kept}
use Rattle.law.proofs.Numbers.{append_nil, none_some, number_push}
use Rattle.law.proofs.Sent.{sent_within}

-- of a call that is a frame of an end
OfFrame : {A : Type 0} → (A → Type 0) → Role A → Type 0
OfFrame Q (frame a) = Q a
OfFrame Q restarts = Unit {0}
OfFrame Q nothing = Unit {0}

-- a packet that was sent is that of codes of its rate
pub IsPacket : Option Sent → Type 0
IsPacket None = Unit {0}
IsPacket (Some f) = Within f.rate f.codes × (f.bytes ≡ packet f.rate f.codes)

pub packet_facts : (f : Sent) → IsPacket (Some f) → Within f.rate f.codes × (f.bytes ≡ packet f.rate f.codes)
unfolding IsPacket
packet_facts f k = k

-- an arrival that was taken is lawful and was read by the rules
pub record WasRead (x : Taken) : Type 0 where
  pub lawful : is_lawful x.arrival ≡ true
  pub read : Reads x.arrival.category x.arrival.bytes x.letter x.reading

sender_frame : (s t : Link) (c : Call) → Step s c t → OfFrame IsPacket (sender_role c)
unfolding OfFrame IsPacket
sender_frame s t (Send n p (Ok f)) h = (sent_within f.rate p s.sender f h.0.1.coded, h.0.1.coded.bytes)
sender_frame s t (Send n p (Err e)) h = tt
sender_frame s t (Blank (Ok u)) h = tt
sender_frame s t (Blank (Err e)) h = tt
sender_frame s t (Disturb n c bytes r) h = tt
sender_frame s t (Take x) h = tt
sender_frame s t RestartSender h = tt
sender_frame s t RestartReceiver h = tt

receiver_frame : (s t : Link) (c : Call) → ArrivalsKept s → Step s c t → OfFrame WasRead (receiver_role c)
unfolding OfFrame
receiver_frame s t (Send n p r) k h = tt
receiver_frame s t (Blank r) k h = tt
receiver_frame s t (Disturb n c bytes r) k h = tt
receiver_frame s t (Take (Some x)) k h =
    record { lawful = lawful_first x.arrival (to_come t) (subst (λ l. are_lawful l ≡ true) h.0.first (to_come_kept s.source s.line k.line k.supply)); read = h.0.received.read }
receiver_frame s t (Take None) k h = tt
receiver_frame s t RestartSender k h = tt
receiver_frame s t RestartReceiver k h = tt

module _ {A : Type 0} (side : LinkEnd A) (Q : A → Type 0) where
  one_more : (p : Role A) (fs : List (Frame A)) (m : List ℤ) (e : ℕ) → OfFrame Q p → ((n : ℕ) (f : Frame A) → numbered fs n ≡ Some f → Q f.what)
      → (n : ℕ) (f : Frame A) → numbered (fs ++ frame_of_role p m e) n ≡ Some f → Q f.what
  unfolding OfFrame
  one_more (frame a) fs m e q old n f k = elim (number_push fs _ n f k) [
    | inl h ↦ old n f h.1
    | inr h ↦ subst Q (sym (ap (λ g. g.what) h.1)) q
  ]
  one_more restarts fs m e q old n f k = old n f (subst (λ l. numbered l n ≡ Some f) (append_nil fs) k)
  one_more nothing fs m e q old n f k = old n f (subst (λ l. numbered l n ≡ Some f) (append_nil fs) k)

  each_frame : (s : Link) → ((h : List CallMade) (c : Call) (t : Link) → Run s h → Step (now s h) c t → OfFrame Q (side.role c))
      → (h : List CallMade) → Run s h → (n : ℕ) (f : Frame A) → numbered (frames_at side h) n ≡ Some f → Q f.what
  each_frame s step [] r zero f k = absurd (none_some k)
  each_frame s step [] r (suc n) f k = absurd (none_some k)
  each_frame s step (m ∷ h) r n f k =
      one_more (side.role m.call) (frames_at side h) (side.memories m.link) (restarts_at side h) (step h m.call m.link r.1 r.0) (each_frame s step h r.1) n f k

pub sent_facts : (s : Link) (h : List CallMade) → New s → Run s h → (n : ℕ) (f : Frame (Option Sent)) → numbered (frames_sent h) n ≡ Some f → IsPacket f.what
sent_facts s h new r = each_frame the_sender IsPacket s (λ h c t r step. sender_frame (now s h) t c step) h r

pub taken_facts : (s : Link) (h : List CallMade) → New s → Run s h → (n : ℕ) (g : Frame Taken) → numbered (arrivals_taken h) n ≡ Some g → WasRead g.what
taken_facts s h new r = each_frame the_receiver WasRead s (λ h c t r step. receiver_frame (now s h) t c (arrivals_kept s h new r) step) h r
