-- The law of the link.
use Rattle.std.specs.Prelude.{◌≡◌, ◌↔◌, ◌⊎◌, ℕ, zero, suc, ◌+◌, ◌<◌, ◌≤◌, true, false, is_some, List, [], ◌∷◌, ◌++◌, ℤ}
use Rattle.std.specs.Prelude.{pos, Some, None, Option, MatchOption, slice_get, slice_index_or}
use Rattle.service.specs.declared.rates.Rate.TheVariants.{Full as Rate1}
use Rattle.service.specs.declared.categories.Category.TheVariants.{Full, Suspect}
use Rattle.service.specs.declared.readings.Letter.TheVariants.{B, D}
use Rattle.service.specs.Letters.{is_read}
use Rattle.lsp.specs.Histories.{Event}
use Rattle.lsp.specs.Laws.{Agree, WithinRounding}
use Rattle.rules.specs.GuardedBits.{SameGuardedCodeBits, changed_besides_pcb0, changed_guarded}
use Rattle.rules.specs.Ends.{Taken}
use Rattle.rules.specs.Sending.{Sent}
use Rattle.rules.specs.Links.{Link}
use Rattle.law.specs.Runs.{Call, CallMade, Frame, New, Run, Step, arrivals_taken, events_at, frames_sent, now}
use Rattle.law.specs.Runs.{the_receiver, the_sender}

-- the frame of a number, counted from 1
abbrev pub numbered : {A : Type 0} → List (Frame A) → ℕ → Option (Frame A)
numbered fs zero = None
numbered fs (suc n) = slice_get fs n

-- f is frame n sent; the frames are numbered over the whole run, restarts or not
abbrev pub IsSent : List CallMade → ℕ → Frame (Option Sent) → Type 0
IsSent h n f = numbered (frames_sent h) n ≡ Some f

-- g is arrival n taken, which stands for frame n sent
abbrev pub IsTaken : List CallMade → ℕ → Frame Taken → Type 0
IsTaken h n g = numbered (arrivals_taken h) n ≡ Some g

-- frame n sent, and arrival n taken
pub record Paired (h : List CallMade) (n : ℕ) : Type 0 where
  pub sent : Frame (Option Sent)
  pub taken : Frame Taken
  pub is_sent : IsSent h n sent
  pub is_taken : IsTaken h n taken

-- ---- (a) guarded bits

-- frame n was the packet f at Rate 1; arrival n was x, in category 4 or 5; and at most four of the 29 guarded bits
-- changed
pub record AtMostFourChanged (h : List CallMade) (n : ℕ) (f : Sent) (x : Taken) : Type 0 where
  pub pair : Paired h n
  pub frame : pair.sent.what ≡ Some f
  pub arrival : pair.taken.what ≡ x
  pub rate : f.rate ≡ Rate1
  pub category : (x.arrival.category ≡ Full) ⊎ (x.arrival.category ≡ Suspect)
  pub few : changed_guarded f.bytes x.arrival.bytes ≤ 4

-- then the codes that are shown, if any are, have the 18 guarded code bits that were sent, and codes are shown exactly
-- if the letter says so; category 5 is read exactly if at most one guarded bit changed, category 4 exactly if none but
-- PCB[0] changed; and what is not read is D
pub record GuardedBitsHold (f : Sent) (x : Taken) : Type 0 where
  pub shown : MatchOption x.reading (Unit {0}) (λ r. SameGuardedCodeBits r.codes f.codes)
  pub read : is_some x.reading ≡ is_read x.letter
  pub suspect :
      x.arrival.category ≡ Suspect
      → (is_read x.letter ≡ true) ↔ (changed_guarded f.bytes x.arrival.bytes ≤ 1)
  pub plain :
      x.arrival.category ≡ Full
      → (is_read x.letter ≡ true) ↔ (changed_besides_pcb0 f.bytes x.arrival.bytes ≡ 0)
  pub erased : is_read x.letter ≡ false → x.letter ≡ D

-- ---- (b) rounding

-- each of ten memories m is within 16/3 of its unrounded value U / 32^t: 3 × |m × 32^t - U| ≤ 16 × 32^t
abbrev pub Rounded : List Event → List ℤ → Type 0
Rounded events m = (i : ℕ) → i < 10 → WithinRounding i events (slice_index_or m i (pos 0))

-- ---- (c) agreement

-- of a packet, that it was read at its rate and with its LSP codes, whatever its other codes; of a blank, that it was
-- taken as one
abbrev pub LspTakenAsSent : Option Sent → Taken → Type 0
LspTakenAsSent (Some f) x =
    (is_read x.letter ≡ true) × MatchOption x.reading ⊥ (λ r. (r.rate ≡ f.rate) × (r.codes.lsp ≡ f.codes.lsp))
LspTakenAsSent None x = x.letter ≡ B

-- it is so of frame n and arrival n
pub record FrameLspTakenAsSent (h : List CallMade) (n : ℕ) : Type 0 where
  pub pair : Paired h n
  pub same : LspTakenAsSent pair.sent.what pair.taken.what

-- a packet counts, a blank does not
abbrev pub one_if_packet : Option Sent → ℕ
one_if_packet None = 0
one_if_packet (Some f) = 1

-- the same of the frame of a number, if there is one
abbrev pub one_if_packet_frame : Option (Frame (Option Sent)) → ℕ
one_if_packet_frame None = 0
one_if_packet_frame (Some f) = one_if_packet f.what

-- how many packets there are among i frames, those from number n on
abbrev pub packet_count : List (Frame (Option Sent)) → ℕ → ℕ → ℕ
packet_count fs n zero = 0
packet_count fs n (suc i) = packet_count fs n i + one_if_packet_frame (numbered fs (n + i))

-- 256 packets in a row: the packets among the frames of number n to n + j, all of which were read at their rates and
-- with their LSP codes, or taken as the blanks they are; and neither end was restarted between its own first and last
-- of these
pub record InARow (h : List CallMade) (n j : ℕ) : Type 0 where
  pub lsp_taken_as_sent : (i : ℕ) → i ≤ j → FrameLspTakenAsSent h (n + i)
  pub many : packet_count (frames_sent h) n (suc j) ≡ 256
  pub sender_era : (f f' : Frame (Option Sent)) → IsSent h n f → IsSent h (n + j) f' → f.era ≡ f'.era
  pub receiver_era : (g g' : Frame Taken) → IsTaken h n g → IsTaken h (n + j) g' → g.era ≡ g'.era

-- ---- the law

-- The law of a history h that led from the link s to where it is now.
pub record Law (s : Link) (h : List CallMade) : Type 0 where
  -- (a)
  pub guarded_bits : (n : ℕ) (f : Sent) (x : Taken) → AtMostFourChanged h n f x → GuardedBitsHold f x
  -- (b)
  pub sender_rounded : Rounded (events_at the_sender h) (now s h).sender.memories
  pub receiver_rounded : Rounded (events_at the_receiver h) (now s h).receiver.memories
  -- (c): the memories of each end are those right after its own last of the 256
  pub agreement :
      (n j : ℕ) (f : Frame (Option Sent)) (g : Frame Taken) → InARow h n j → IsSent h (n + j) f → IsTaken h (n + j) g
      → Agree f.memories g.memories

-- every run from a new link keeps the law
abbrev pub EveryRun : Type 0
EveryRun = (s : Link) (h : List CallMade) → New s → Run s h → Law s h

-- the law of a history and of each that it began with: so the law holds after each call, and before the first
abbrev pub LawThroughout : Link → List CallMade → Type 0
LawThroughout s [] = Law s []
LawThroughout s (m ∷ h) = Law s (m ∷ h) × LawThroughout s h

-- every run from a new link keeps the law after each of its calls
abbrev pub EveryRunThroughout : Type 0
EveryRunThroughout = (s : Link) (h : List CallMade) → New s → Run s h → LawThroughout s h

-- the call c took a link from t to u; so any run from a new link that led to t goes on to u, and the law holds of it
pub record Carried (t : Link) (c : Call) (u : Link) : Type 0 where
  pub step : Step t c u
  pub goes_on :
      (s : Link) (h : List CallMade) → New s → Run s h → now s h ≡ t
      → Run s (record { call = c; link = u } ∷ h) × LawThroughout s (record { call = c; link = u } ∷ h)

-- every step carries each run on, and the law with it
abbrev pub EveryStepCarries : Type 0
EveryStepCarries = (t u : Link) (c : Call) → Step t c u → Carried t c u

-- the calls h took a link from t to u; so any run from a new link that led to t goes on to u, and the law holds after
-- each call of it
pub record CarriedOver (t : Link) (h : List CallMade) (u : Link) : Type 0 where
  pub run : Run t h
  pub link : now t h ≡ u
  pub goes_on :
      (s : Link) (g : List CallMade) → New s → Run s g → now s g ≡ t → Run s (h ++ g) × LawThroughout s (h ++ g)

-- every run of calls carries each run on, and the law with it
abbrev pub EveryRunCarries : Type 0
EveryRunCarries = (t : Link) (h : List CallMade) → Run t h → CarriedOver t h (now t h)

-- two runs, one after the other, are a run
abbrev pub RunsJoin : Type 0
RunsJoin =
    (s : Link) (h h' : List CallMade) → Run s h → Run (now s h) h'
    → Run s (h' ++ h) × (now s (h' ++ h) ≡ now (now s h) h')
