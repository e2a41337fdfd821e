-- What each step does to the memories of each end.
use Rattle.std.proofs.Common.{◌≡◌, ℕ, ◌+◌, ◌^◌, ◌<◌, List, [], ◌∷◌, Option, Some, None, Ok, Err, nat_lt, refl, sym, ap, subst, inl, inr, arith}
use Rattle.service.specs.declared.rates.Rate.{Rate}
use Rattle.service.specs.declared.rates.Rate.TheVariants.{Full as Rate1, Half as Rate1/2, Quarter as Rate1/4, Eighth as Rate1/8}
use Rattle.service.specs.declared.categories.Category.{Category}
use Rattle.service.specs.declared.categories.Category.TheVariants.{Blank as BlankFrame, Eighth, Quarter, Half, Full, Suspect, Erasure}
use Rattle.service.specs.declared.readings.Letter.{Letter}
use Rattle.service.specs.declared.readings.Letter.TheVariants.{C, P, S, D, B, E}
use Rattle.service.specs.declared.refusals.Refusal.{Refusal}
use Rattle.service.specs.declared.refusals.Refusal.TheVariants.{Faulty, Frequency, Pitch, Codebook, Draws as AllOnesDrawn, LineFull, NoArrival, ShortBuffer, Codes, UnlawfulReel}
use Rattle.lsp.specs.Histories.{Lawful, after}
use Rattle.lsp.specs.Quantizers.{top_code, Within as LspWithin}
use Rattle.lsp.proofs.Ranges.{quantized_within}
use Rattle.packet_layout.specs.declared.code_bits.CodeName.TheVariants.{Lsp}
use Rattle.packet_layout.specs.CodeBits.{bits_at, width}
use Rattle.std.proofs.lemmas.Bool.{cond-true}
use Rattle.std.proofs.lemmas.Bool.Decides.{nat_tests}
use Rattle.packet.specs.declared.codes.CodeNumbers.{CodeNumbers}
use Rattle.packet.specs.Codes.{Within}
use Rattle.rules.specs.Ends.{Sender}
use Rattle.rules.specs.Readings.{Reading, Reads, event_read, packet_read}
use Rattle.rules.specs.Links.{Blanks, Line, Link}
use Rattle.law.specs.Runs.{Call, Send, Blank, Disturb, Take, RestartSender, RestartReceiver, Step, LinkEnd, the_sender, the_receiver, events_of_role}

none_some : {A : Type 0} {x : A} → Some x ≡ None → ⊥
none_some e = cc

-- the LSP codes of a record are within their rate
pub lsp_bits : (rate : Rate) (i : ℕ) → i < 10 → bits_at rate Lsp i ≡ width rate Lsp
lsp_bits rate i lt = cond-true (nat_lt i 10) (width rate Lsp) 0 (grind (arith, nat_tests))

pub top_is : (rate : Rate) → 2 ^ width rate Lsp ≡ top_code rate + 1
top_is Rate1 = refl
top_is Rate1/2 = refl
top_is Rate1/4 = refl
top_is Rate1/8 = refl

pub lsp_within : (rate : Rate) (c : CodeNumbers) → Within rate c → LspWithin rate c.lsp
lsp_within rate c w i lt =
    let f = w.lsp i (omega (arith, w.sized.lsp)) in
    omega (arith, f, ap (λ n. 2 ^ n) (lsp_bits rate i lt), top_is rate)

-- what is read is a record of codes of its rate
pub read_within : (category : Category) (bytes : List ℕ) (l : Letter) (r : Reading) → Reads category bytes l (Some r) → Within r.rate r.codes
read_within BlankFrame bytes l r h = absurd (none_some h.1)
read_within Eighth bytes l r (inl h) = absurd (none_some h.1.1)
read_within Eighth bytes l r (inr h) = subst (λ q. Within q r.codes) (sym h.1.1.0.rate) h.1.1.0.codes.within
read_within Quarter bytes l r h = subst (λ q. Within q r.codes) (sym h.1.0.rate) h.1.0.codes.within
read_within Half bytes l r h = subst (λ q. Within q r.codes) (sym h.1.0.rate) h.1.0.codes.within
read_within Full bytes l r (inl h) = subst (λ q. Within q r.codes) (sym h.1.1.0.rate) h.1.1.0.codes.within
read_within Full bytes l r (inr h) = absurd (none_some h.1.1)
read_within Suspect bytes l r (inl h) = subst (λ q. Within q r.codes) (sym h.1.1.0.rate) h.1.1.0.codes.within
read_within Suspect bytes l r (inr (inl h)) = subst (λ q. Within q r.codes) (sym h.2.1.0.rate) h.2.1.0.codes.within
read_within Suspect bytes l r (inr (inr h)) = absurd (none_some h.2.1)
read_within Erasure bytes l r h = absurd (none_some h.1)

lawful_packet : (category : Category) (bytes : List ℕ) (l : Letter) (x : Option Reading) → Reads category bytes l x → Lawful (packet_read x ∷ [])
lawful_packet category bytes l (Some r) h = (lsp_within r.rate r.codes (read_within category bytes l r h), tt)
lawful_packet category bytes l None h = tt

lawful_reading : (category : Category) (bytes : List ℕ) (l : Letter) (x : Option Reading) → Reads category bytes l x → Lawful (event_read l x ∷ [])
lawful_reading category bytes C x h = lawful_packet category bytes C x h
lawful_reading category bytes P x h = lawful_packet category bytes P x h
lawful_reading category bytes S x h = lawful_packet category bytes S x h
lawful_reading category bytes D x h = tt
lawful_reading category bytes B x h = tt
lawful_reading category bytes E x h = tt

-- a step moves an end's memories by what it is to the end, and that is lawful
pub record Moves {A : Type 0} (side : LinkEnd A) (s : Link) (c : Call) (t : Link) : Type 0 where
  pub moved : side.memories t ≡ after (side.memories s) (events_of_role side.event (side.role c))
  pub lawful : Lawful (events_of_role side.event (side.role c))

-- a blank that is refused alters nothing
pub blank_refused : (e e' : Sender) (line line' : Line) (r : Refusal) → Blanks e line (Err r) e' line' → (e' ≡ e) × (line' ≡ line)
blank_refused e e' line line' LineFull h = (h.1, h.0.1)
blank_refused e e' line line' (Faulty f) h = absurd h.0
blank_refused e e' line line' (Frequency i) h = absurd h.0
blank_refused e e' line line' (Pitch i) h = absurd h.0
blank_refused e e' line line' (Codebook i) h = absurd h.0
blank_refused e e' line line' AllOnesDrawn h = absurd h.0
blank_refused e e' line line' NoArrival h = absurd h.0
blank_refused e e' line line' ShortBuffer h = absurd h.0
blank_refused e e' line line' Codes h = absurd h.0
blank_refused e e' line line' UnlawfulReel h = absurd h.0

pub sender_moves : (s t : Link) (c : Call) → Step s c t → Moves the_sender s c t
sender_moves s t (Send n p (Ok f)) h = record {
  moved = ap (λ e. e.memories) h.0.1.sender;
  lawful = (quantized_within f.rate _ f.codes.lsp h.0.1.coded.codes.lsp, tt);
}
sender_moves s t (Send n p (Err r)) h = record { moved = ap (λ e. e.memories) h.0.2; lawful = tt }
sender_moves s t (Blank (Ok u)) h = record { moved = ap (λ e. e.memories) h.0.1; lawful = tt }
sender_moves s t (Blank (Err r)) h = record { moved = ap (λ e. e.memories) (blank_refused s.sender t.sender s.line t.line r h.0).0; lawful = tt }
sender_moves s t (Disturb n c bytes r) h = record { moved = ap (λ l. l.sender.memories) h.1; lawful = tt }
sender_moves s t (Take x) h = record { moved = ap (λ l. l.sender.memories) h.1; lawful = tt }
sender_moves s t RestartSender h = record { moved = ap (λ l. l.sender.memories) h; lawful = tt }
sender_moves s t RestartReceiver h = record { moved = ap (λ l. l.sender.memories) h; lawful = tt }

pub receiver_moves : (s t : Link) (c : Call) → Step s c t → Moves the_receiver s c t
receiver_moves s t (Send n p r) h = record { moved = ap (λ l. l.receiver.memories) h.1; lawful = tt }
receiver_moves s t (Blank r) h = record { moved = ap (λ l. l.receiver.memories) h.1; lawful = tt }
receiver_moves s t (Disturb n c bytes r) h = record { moved = ap (λ l. l.receiver.memories) h.1; lawful = tt }
receiver_moves s t (Take (Some x)) h = record {
  moved = ap (λ r. r.memories) h.0.received.receiver;
  lawful = lawful_reading x.arrival.category x.arrival.bytes x.letter x.reading h.0.received.read;
}
receiver_moves s t (Take None) h = record { moved = ap (λ r. r.memories) h.0.1; lawful = tt }
receiver_moves s t RestartSender h = record { moved = ap (λ l. l.receiver.memories) h; lawful = tt }
receiver_moves s t RestartReceiver h = record { moved = ap (λ l. l.receiver.memories) h; lawful = tt }
