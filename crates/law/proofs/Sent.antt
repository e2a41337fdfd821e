-- What an accepted send sends: codes of its rate, and their packet, which is lawful.
use Rattle.std.proofs.Common.{◌≡◌, ℕ, zero, suc, ◌^◌, ◌<◌, true, List, [], ◌∷◌, length, ℤ, refl, sym, ap, ◌∙◌, subst, arith}
use Rattle.std.proofs.lemmas.Nat.{pow_pos}
use Rattle.service.specs.declared.rates.Rate.{Rate}
use Rattle.service.specs.declared.rates.Rate.TheVariants.{Full, Half, Quarter, Eighth}
use Rattle.service.specs.Categories.{category_is, category_of}
use Rattle.service.specs.Rates.{rate_is}
use Rattle.lsp.specs.Quantizers.{Within as LspWithin}
use Rattle.lsp.proofs.Ranges.{quantized_within}
use Rattle.lsp.specs.Ten.{ten}
use Rattle.packet_layout.specs.declared.code_bits.CodeName.TheVariants.{Lsp, Cbseed}
use Rattle.packet_layout.specs.CodeBits.{Fits, bits_at}
use Rattle.packet.specs.declared.codes.CodeNumbers.{CodeNumbers}
use Rattle.packet.specs.Calls.{packet}
use Rattle.packet.specs.Codes.{Within}
use Rattle.packet.proofs.Numbers.{bit_lt}
use Rattle.packet.proofs.Packets.{each_bit}
use Rattle.packet.proofs.Trips.{unpacking_returns}
use Rattle.figures.proofs.Frames.{encoded_codes_fit}
use Rattle.rules.specs.Arrivals.{is_lawful}
use Rattle.rules.proofs.Lawful.{are_bytes_of, lawful_of}
use Rattle.rules.specs.Sending.{CodesFrame, DrawsCbseed, Encodes, Parameters, Sent, arrival_sent, cbseed_of, drawn}
use Rattle.rules.specs.Ends.{Sender}
use Rattle.law.proofs.Steps.{lsp_bits, top_is}

-- ten values are ten
pub ten_length : {A : Type 0} (f : ℕ → A) → length (ten f) ≡ 10
unfolding ten
ten_length f = refl

pub lsp_fits : (rate : Rate) (codes : List ℕ) → length codes ≡ 10 → LspWithin rate codes → Fits rate Lsp codes
lsp_fits rate codes long within i lt =
    let w = within i (omega arith) in
    omega (arith, w, ap (λ n. 2 ^ n) (lsp_bits rate i (omega arith)), top_is rate)

-- CBSEED is within its width
cbseed_lt : (seed : ℕ) → cbseed_of seed < 16
cbseed_lt seed = omega (arith, bit_lt seed 15, bit_lt seed 11, bit_lt seed 7, bit_lt seed 3)

none_fits : (rate : Rate) (n : ℕ) → n ≡ 0 → Fits rate Cbseed (n ∷ [])
none_fits rate n e zero lt = let p = pow_pos (bits_at rate Cbseed 0) in omega arith
none_fits rate n e (suc i) lt = absurd (omega arith)

seed_fits : (n : ℕ) → n < 16 → Fits Eighth Cbseed (n ∷ [])
seed_fits n h zero lt = h
seed_fits n h (suc i) lt = absurd (omega arith)

cbseed_fits : (rate : Rate) (c : CodeNumbers) (seed n : ℕ) → DrawsCbseed rate c seed n → Fits rate Cbseed (c.cbseed ∷ [])
cbseed_fits Full c seed n h = none_fits Full c.cbseed h.1
cbseed_fits Half c seed n h = none_fits Half c.cbseed h.1
cbseed_fits Quarter c seed n h = none_fits Quarter c.cbseed h.1
cbseed_fits Eighth c seed n h = seed_fits c.cbseed (omega (arith, h.1, cbseed_lt (drawn n seed)))

-- the codes of allowed parameters are codes of the rate
pub codes_within : (rate : Rate) (p : Parameters) (m : List ℤ) (c : CodeNumbers) → Encodes rate p m c → Fits rate Cbseed (c.cbseed ∷ []) → Within rate c
codes_within rate p m c e seed =
    let pitch = encoded_codes_fit.pitch rate p.pitches _ e.pitch in
    let codebook = encoded_codes_fit.codebook rate p.codebooks _ e.codebook in
    let long : length c.lsp ≡ 10 = ap length e.lsp ∙ ten_length _ in
    record {
      sized = record { lsp = long; plag = e.pitch.plag_length; pgain = e.pitch.pgain_length; cbindex = e.codebook.cbindex_length; cbgain = e.codebook.cbgain_length };
      lsp = lsp_fits rate c.lsp long (quantized_within rate _ c.lsp e.lsp);
      plag = pitch.plag;
      pgain = pitch.pgain;
      cbindex = codebook.cbindex;
      cbgain = codebook.cbgain;
      cbseed = seed;
    }

pub sent_within : (q : Rate) (p : Parameters) (e : Sender) (f : Sent) → CodesFrame q p e f → Within f.rate f.codes
sent_within q p e f a = subst (λ r. Within r f.codes) (sym a.rate) (codes_within q p e.memories f.codes a.codes (cbseed_fits q f.codes e.seed f.draws a.draws))

pub sent_bytes : (q : Rate) (p : Parameters) (e : Sender) (f : Sent) → CodesFrame q p e f → f.bytes ≡ packet f.rate f.codes
sent_bytes q p e f a = a.bytes ∙ ap (λ r. packet r f.codes) (sym a.rate)

-- ---- its packet

category_bytes : (rate : Rate) → (category_is (category_of (rate_is rate).number)).bytes ≡ (rate_is rate).bytes
category_bytes Full = refl
category_bytes Half = refl
category_bytes Quarter = refl
category_bytes Eighth = refl

pub packet_lawful : (rate : Rate) (c : CodeNumbers) → Within rate c → is_lawful (record { category = category_of (rate_is rate).number; bytes = packet rate c }) ≡ true
packet_lawful rate c within =
    let l = (unpacking_returns rate c within).lawful in
    lawful_of (category_of (rate_is rate).number) (packet rate c) (l.length ∙ sym (category_bytes rate)) l.spare (are_bytes_of (packet rate c) (each_bit rate c).bytes)

pub sent_lawful : (q : Rate) (p : Parameters) (e : Sender) (f : Sent) → CodesFrame q p e f → is_lawful (arrival_sent f) ≡ true
sent_lawful q p e f a =
    subst (λ b. is_lawful (record { category = category_of (rate_is f.rate).number; bytes = b }) ≡ true) (sym (sent_bytes q p e f a))
    (packet_lawful f.rate f.codes (sent_within q p e f a))
