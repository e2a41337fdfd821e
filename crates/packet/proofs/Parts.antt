-- Parts of the codes of a rate, and these with another CBSEED.
use Rattle.std.proofs.Common.{◌≡◌, ℕ, ◌%◌, ◌^◌, ◌<◌, ◌≤◌, [], ◌∷◌, slice_index, subst, arith}
use Rattle.std.proofs.lemmas.Bool.Decides.{nat_tests}
use Rattle.service.specs.declared.rates.Rate.{Rate}
use Rattle.service.specs.declared.rates.Rate.TheVariants.{Full, Half, Quarter, Eighth}
use Rattle.lsp.specs.Quantizers.{top_code, Within as LspWithin}
use Rattle.packet_layout.specs.declared.code_bits.CodeName.TheVariants.{Lsp, Cbseed}
use Rattle.packet_layout.specs.CodeBits.{Fits, bits_at}
use Rattle.packet.specs.declared.codes.CodeNumbers.{CodeNumbers}
use Rattle.packet.specs.Codes.{Within, with_cbseed}

-- a code of the width of LSP codes is at most the top code
at_most_top : (rate : Rate) (c i : ℕ) → i < 10 → c < 2 ^ bits_at rate Lsp i → c ≤ top_code rate
at_most_top Full c i h l = grind (arith, nat_tests)
at_most_top Half c i h l = grind (arith, nat_tests)
at_most_top Quarter c i h l = grind (arith, nat_tests)
at_most_top Eighth c i h l = grind (arith, nat_tests)

pub lsp_within : (rate : Rate) (c : CodeNumbers) → Within rate c → LspWithin rate c.lsp
lsp_within rate c within i h = at_most_top rate (slice_index c.lsp i) i h (within.lsp i (omega (arith, within.sized.lsp)))

seed_fits : (n : ℕ) → Fits Eighth Cbseed (n % 16 ∷ [])
seed_fits n i h = let z : 0 ≡ i = omega arith in subst (λ j. slice_index (n % 16 ∷ []) j < 2 ^ bits_at Eighth Cbseed j) z (omega arith)

pub seeded_within : (rate : Rate) (n : ℕ) (c : CodeNumbers) → Within rate c → Within rate (with_cbseed rate n c)
seeded_within Full n c within = within
seeded_within Half n c within = within
seeded_within Quarter n c within = within
seeded_within Eighth n c within = record {
  sized = record {
    lsp = within.sized.lsp;
    plag = within.sized.plag;
    pgain = within.sized.pgain;
    cbindex = within.sized.cbindex;
    cbgain = within.sized.cbgain;
  };
  lsp = within.lsp;
  plag = within.plag;
  pgain = within.pgain;
  cbindex = within.cbindex;
  cbgain = within.cbgain;
  cbseed = seed_fits n;
}
