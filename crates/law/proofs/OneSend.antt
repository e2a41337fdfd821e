-- Sending has one answer: the first of its tests that fails, or a packet.
use Rattle.std.proofs.Common.{◌≡◌, ◌≢◌, ℕ, ◌+◌, ◌<◌, ◌⊎◌, Bool, true, false, List, length, Ok, Err, Result, inl, inr, refl, sym, ap, ap₂, subst, ◌∙◌, arith}
use Rattle.std.proofs.lemmas.Bool.{cases_eq, cases_lt, false≢true, false_from_ne_true}
use Rattle.service.specs.declared.rates.Rate.{Rate}
use Rattle.service.specs.declared.rates.Rate.TheVariants.{Full, Half, Quarter, Eighth}
use Rattle.service.specs.declared.refusals.Refusal.{Refusal}
use Rattle.service.specs.declared.refusals.Refusal.TheVariants.{Faulty, Frequency, Pitch, Codebook, Draws as AllOnesDrawn, LineFull, NoArrival, ShortBuffer, Codes, UnlawfulReel}
use Rattle.service.specs.Rates.{rate_is}
use Rattle.service.proofs.Numbers.{distinct_numbers}
use Rattle.packet.specs.declared.codes.CodeNumbers.{CodeNumbers}
use Rattle.packet.specs.Calls.{packet}
use Rattle.service.specs.FirstToFail.{FirstToFail}
use Rattle.figures.specs.Codebook.{CodebooksAllowed, codebook_allowed, parameter_at}
use Rattle.figures.specs.Pitch.{PitchesAllowed, pair_at, pitch_allowed}
use Rattle.rules.specs.Sending.{send_answer, AreComplete, CodesFrame, AllDrawsAllOnes, Parameters, Sent, arrival_sent, sender_after}
use Rattle.law.proofs.Sent.{sent_bytes}
use Rattle.rules.specs.Ends.{Sender}
use Rattle.service.specs.Queues.{HasRoom, IsFull}
use Rattle.rules.specs.Links.{SendAnswers, Line, Sends, with_last}
use Rattle.law.specs.Answers.{OneSendAnswer}
use Rattle.law.proofs.Encoded.{codes_or_none, draws_once, encoded_once, no_draw_made, same_codes}
use Rattle.law.proofs.Once.{Once, either_once, guard_once, leaf_once}
use Rattle.law.proofs.Searches.{all_or_first, first_once}
use Rattle.lsp.specs.Offsets.{FrequenciesAllowed, frequency_allowed, frequency_at}

-- ---- the first that does not pass

known_true : (b : Bool) → (b ≡ true) ⊎ (b ≡ true → ⊥)
known_true true = inl refl
known_true false = inr false≢true

all_or_fails : (passes : ℕ → Bool) (n : ℕ) → ((i : ℕ) → i < n → passes i ≡ true) ⊎ ((i : ℕ) × FirstToFail n passes i)
all_or_fails passes n = elim (all_or_first (λ k. passes k ≡ true) (λ k. known_true (passes k)) 0 n) [
  | inl all ↦ inl (λ i h. all i (omega arith) h)
  | inr (i, l, h, before, fails) ↦ inr (i, record { within = h; fails = false_from_ne_true (passes i) fails; before = λ k less. before k (omega arith) less })
]

same_fails : (n : ℕ) (passes : ℕ → Bool) (i j : ℕ) → FirstToFail n passes i → FirstToFail n passes j → i ≡ j
same_fails n passes i j f g =
    first_once (λ k. passes k ≡ true) 0 i j (omega arith) (omega arith) (λ k l h. f.before k h) (λ t. false≢true (sym f.fails ∙ t))
    (λ k l h. g.before k h) (λ t. false≢true (sym g.fails ∙ t))

-- ---- rates by their number

rate_or_none : (n : ℕ) → ((rate : Rate) × ((rate_is rate).number ≡ n)) ⊎ ((rate : Rate) → (rate_is rate).number ≢ n)
rate_or_none n = elim (cases_eq 1 n) [
  | inl e ↦ inl (Eighth, e)
  | inr no1 ↦ elim (cases_eq 2 n) [
    | inl e ↦ inl (Quarter, e)
    | inr no2 ↦ elim (cases_eq 3 n) [
      | inl e ↦ inl (Half, e)
      | inr no3 ↦ elim (cases_eq 4 n) [ inl e ↦ inl (Full, e) | inr no4 ↦ inr (none_of n no1 no2 no3 no4) ]
    ]
  ]
] where
  none_of : (n : ℕ) → 1 ≢ n → 2 ≢ n → 3 ≢ n → 4 ≢ n → (rate : Rate) → (rate_is rate).number ≢ n
  none_of n no1 no2 no3 no4 Eighth = no1
  none_of n no1 no2 no3 no4 Quarter = no2
  none_of n no1 no2 no3 no4 Half = no3
  none_of n no1 no2 no3 no4 Full = no4

-- ---- an accepted packet

abbrev sent_of : ℕ → Rate → CodeNumbers → List ℕ → Sent
sent_of draws rate codes bytes = record { draws = draws; rate = rate; codes = codes; bytes = bytes }

same_sent : (f g : Sent) → f.rate ≡ g.rate → f.codes ≡ g.codes → f.draws ≡ g.draws → f.bytes ≡ packet f.rate f.codes → g.bytes ≡ packet g.rate g.codes → f ≡ g
same_sent f g rate codes draws bytes bytes' =
    ap (λ x. sent_of f.draws f.rate f.codes x) bytes
    ∙ ap (λ x. sent_of x f.rate f.codes (packet f.rate f.codes)) draws
    ∙ ap (λ x. sent_of g.draws x f.codes (packet x f.codes)) rate
    ∙ ap (λ x. sent_of g.draws g.rate x (packet g.rate x)) codes
    ∙ ap (λ x. sent_of g.draws g.rate g.codes x) (sym bytes')

coded_once : (q : Rate) (p : Parameters) (e : Sender) (f g : Sent) → CodesFrame q p e f → CodesFrame q p e g → f ≡ g
coded_once q p e f g a b =
    let same = encoded_once q p e.memories f.codes g.codes a.codes b.codes in
    let d = draws_once q f.codes g.codes e.seed f.draws g.draws same a.draws b.draws in
    same_sent f g (a.rate ∙ sym b.rate) (same_codes f.codes g.codes same d.1) d.0 (sent_bytes q p e f a) (sent_bytes q p e g b)

-- ---- the tests, one after another

abbrev pub Outcome : Type 0
Outcome = Result Sent Refusal × Sender × Line

module _ (e : Sender) (line : Line) (n : ℕ) (p : Parameters) where
  -- refused, and the sender and the line as they were
  abbrev refused : Refusal → Outcome
  refused r = (Err r, e, line)

  -- the first that fails is named
  abbrev Fails : (Refusal → Outcome) → ℕ → (ℕ → Bool) → (ℕ → Refusal) → Outcome → Type 0
  Fails out limit passes refusal x = (i : ℕ) × FirstToFail limit passes i × (x ≡ out (refusal (i + 1)))

  fails_once : (out : Refusal → Outcome) (limit : ℕ) (passes : ℕ → Bool) (refusal : ℕ → Refusal) → Once (Fails out limit passes refusal)
  fails_once out limit passes refusal x y (i, f, is) (j, g, is') = is ∙ ap (λ k. out (refusal (k + 1))) (same_fails limit passes i j f g) ∙ sym is'

  not_passed : (out : Refusal → Outcome) (limit : ℕ) (passes : ℕ → Bool) (refusal : ℕ → Refusal) (x : Outcome) → Fails out limit passes refusal x → ((i : ℕ) → i < limit → passes i ≡ true) → ⊥
  not_passed out limit passes refusal x (i, f, is) all = false≢true (sym f.fails ∙ all i f.within)

  abbrev NoDrawIsLeft : Rate → Outcome → Type 0
  NoDrawIsLeft rate x = AllDrawsAllOnes rate p e.memories e.seed × (x ≡ refused AllOnesDrawn)

  abbrev IsSent : Rate → Outcome → Type 0
  IsSent rate x = (f : Sent) × CodesFrame rate p e f × (x ≡ (Ok f, sender_after p f e, with_last (arrival_sent f) line))

  abbrev AtDraws : Rate → Outcome → Type 0
  AtDraws rate x = NoDrawIsLeft rate x ⊎ IsSent rate x

  abbrev codebook_passes : Rate → ℕ → Bool
  codebook_passes rate i = codebook_allowed rate (parameter_at p.codebooks i)

  abbrev pitch_passes : ℕ → Bool
  pitch_passes i = pitch_allowed (pair_at p.pitches i)

  abbrev frequency_passes : ℕ → Bool
  frequency_passes i = frequency_allowed (frequency_at p.frequencies i)

  abbrev CodebookFails : Rate → Outcome → Type 0
  CodebookFails rate x = Fails refused (rate_is rate).codebook_subframes (codebook_passes rate) (λ i. Codebook i) x

  abbrev PitchFails : Rate → Outcome → Type 0
  PitchFails rate x = Fails refused (rate_is rate).pitch_subframes pitch_passes (λ i. Pitch i) x

  abbrev FrequencyFails : Outcome → Type 0
  FrequencyFails x = Fails refused 10 frequency_passes (λ i. Frequency i) x

  abbrev AtCodebooks : Rate → Outcome → Type 0
  AtCodebooks rate x = CodebookFails rate x ⊎ (CodebooksAllowed rate p.codebooks × AtDraws rate x)

  abbrev AtPitches : Rate → Outcome → Type 0
  AtPitches rate x = PitchFails rate x ⊎ (PitchesAllowed rate p.pitches × AtCodebooks rate x)

  abbrev AtFrequencies : Rate → Outcome → Type 0
  AtFrequencies rate x = FrequencyFails x ⊎ (FrequenciesAllowed p.frequencies × AtPitches rate x)

  abbrev AtRoom : Rate → Outcome → Type 0
  AtRoom rate x = (IsFull line.places line.waiting × (x ≡ refused LineFull)) ⊎ (HasRoom line.places line.waiting × AtFrequencies rate x)

  abbrev Named : Outcome → Type 0
  Named x = (rate : Rate) × ((rate_is rate).number ≡ n) × AtRoom rate x

  abbrev Unnamed : Outcome → Type 0
  Unnamed x = ((rate : Rate) → (rate_is rate).number ≢ n) × (x ≡ refused Codes)

  -- each of them has one outcome
  sent_once : (rate : Rate) → Once (IsSent rate)
  sent_once rate x y (f, a, is) (g, b, is') = is ∙ ap (λ h. (Ok h, sender_after p h e, with_last (arrival_sent h) line)) (coded_once rate p e f g a b) ∙ sym is'

  draws_apart : (rate : Rate) (x y : Outcome) → NoDrawIsLeft rate x → IsSent rate y → ⊥
  draws_apart rate x y (none, is) (f, a, is') = no_draw_made rate p e.memories f.codes e.seed f.draws none a.codes a.draws

  at_draws_once : (rate : Rate) → Once (AtDraws rate)
  at_draws_once rate =
      either_once (NoDrawIsLeft rate) (IsSent rate) (draws_apart rate) (leaf_once (AllDrawsAllOnes rate p e.memories e.seed) (refused AllOnesDrawn)) (sent_once rate)

  at_codebooks_once : (rate : Rate) → Once (AtCodebooks rate)
  at_codebooks_once rate =
      guard_once (CodebookFails rate) (CodebooksAllowed rate p.codebooks) (AtDraws rate)
      (not_passed refused (rate_is rate).codebook_subframes (codebook_passes rate) (λ i. Codebook i))
      (fails_once refused (rate_is rate).codebook_subframes (codebook_passes rate) (λ i. Codebook i)) (at_draws_once rate)

  at_pitches_once : (rate : Rate) → Once (AtPitches rate)
  at_pitches_once rate =
      guard_once (PitchFails rate) (PitchesAllowed rate p.pitches) (AtCodebooks rate)
      (not_passed refused (rate_is rate).pitch_subframes pitch_passes (λ i. Pitch i))
      (fails_once refused (rate_is rate).pitch_subframes pitch_passes (λ i. Pitch i)) (at_codebooks_once rate)

  at_frequencies_once : (rate : Rate) → Once (AtFrequencies rate)
  at_frequencies_once rate =
      guard_once FrequencyFails (FrequenciesAllowed p.frequencies) (AtPitches rate)
      (not_passed refused 10 frequency_passes (λ i. Frequency i)) (fails_once refused 10 frequency_passes (λ i. Frequency i)) (at_pitches_once rate)

  at_room_once : (rate : Rate) → Once (AtRoom rate)
  at_room_once rate =
      guard_once (λ x. IsFull line.places line.waiting × (x ≡ refused LineFull)) (HasRoom line.places line.waiting) (AtFrequencies rate)
      (λ x full room. let f = full.0 in omega arith) (leaf_once (IsFull line.places line.waiting) (refused LineFull)) (at_frequencies_once rate)

  named_once : Once Named
  named_once x y (rate, is, a) (rate', is', b) =
      at_room_once rate x y a (subst (λ r. AtRoom r y) (distinct_numbers.rates rate' rate (is' ∙ sym is)) b)

  outcome_once : Once (λ x. Unnamed x ⊎ Named x)
  outcome_once = either_once Unnamed Named (λ x y none named. none.0 named.0 named.1) (leaf_once ((rate : Rate) → (rate_is rate).number ≢ n) (refused Codes)) named_once

  -- what the rules of sending say is one of these
  abbrev Answer : Outcome → Type 0
  Answer x = Unnamed x ⊎ Named x

  as_was : (r : Refusal) (e' : Sender) (line' : Line) → e' ≡ e → line' ≡ line → (Err r, e', line') ≡ refused r
  as_was r e' line' is is' = ap₂ (λ x y. (Err r, x, y)) is is'

  is_outcome : (r : Result Sent Refusal) (e' : Sender) (line' : Line) → Sends e line n p r e' line' → Answer (r, e', line')
  is_outcome (Ok f) e' line' (complete, a) =
      let c = a.coded in
      inr (f.rate, a.ready.0, inr (a.ready.1, inr (c.frequencies, inr (c.codes.pitch.allowed, inr (c.codes.codebook.allowed, inr (f, c, ap₂ (λ x y. (Ok f, x, y)) a.sender a.line_after))))))
  is_outcome (Err Codes) e' line' (complete, none, is, is') = inl (none, as_was Codes e' line' is is')
  is_outcome (Err LineFull) e' line' (complete, ((rate, named), full), is, is') = inr (rate, named, inl (full, as_was LineFull e' line' is is'))
  is_outcome (Err (Frequency i)) e' line' (complete, (rate, ready, (j, f, name)), is, is') =
      inr (rate, ready.0, inr (ready.1, inl (j, f, as_was (Frequency i) e' line' is is' ∙ ap refused (distinct_numbers.refusals (Frequency i) (Frequency (j + 1)) name))))
  is_outcome (Err (Pitch i)) e' line' (complete, (rate, ready, (frequencies, (j, f, name))), is, is') =
      inr (rate, ready.0, inr (ready.1, inr (frequencies, inl (j, f, as_was (Pitch i) e' line' is is' ∙ ap refused (distinct_numbers.refusals (Pitch i) (Pitch (j + 1)) name)))))
  is_outcome (Err (Codebook i)) e' line' (complete, (rate, ready, (frequencies, pitches, (j, f, name))), is, is') =
      inr (rate, ready.0, inr (ready.1, inr (frequencies, inr (pitches, inl (j, f, as_was (Codebook i) e' line' is is' ∙ ap refused (distinct_numbers.refusals (Codebook i) (Codebook (j + 1)) name))))))
  is_outcome (Err AllOnesDrawn) e' line' (complete, (rate, ready, (frequencies, pitches, codebooks, none)), is, is') =
      inr (rate, ready.0, inr (ready.1, inr (frequencies, inr (pitches, inr (codebooks, inl (none, as_was AllOnesDrawn e' line' is is'))))))
  is_outcome (Err (Faulty f)) e' line' (complete, (rate, ready, none), is, is') = absurd none
  is_outcome (Err NoArrival) e' line' (complete, (rate, ready, none), is, is') = absurd none
  is_outcome (Err ShortBuffer) e' line' (complete, (rate, ready, none), is, is') = absurd none
  is_outcome (Err UnlawfulReel) e' line' (complete, (rate, ready, none), is, is') = absurd none

  -- two answers of a send, with the sender and the line after them
  pub send_once : (r r' : Result Sent Refusal) (d d' : Sender) (l l' : Line) → Sends e line n p r d l → Sends e line n p r' d' l' → (r ≡ r') × (d ≡ d') × (l ≡ l')
  send_once r r' d d' l l' a b =
      let same = outcome_once (r, d, l) (r', d', l') (is_outcome r d l a) (is_outcome r' d' l' b) in
      (ap (λ (x : Outcome). x.0) same, ap (λ (x : Outcome). x.1) same, ap (λ (x : Outcome). x.2) same)

  -- ---- and there is one

  HasAnswer : Type 0
  HasAnswer = (r : Result Sent Refusal) × (e' : Sender) × (line' : Line) × Sends e line n p r e' line'

  at_draws : AreComplete p → (rate : Rate) → (rate_is rate).number ≡ n → HasRoom line.places line.waiting → FrequenciesAllowed p.frequencies → PitchesAllowed rate p.pitches → CodebooksAllowed rate p.codebooks → HasAnswer
  unfolding HasAnswer
  at_draws complete rate is room frequencies pitches codebooks = elim (codes_or_none rate p e.memories e.seed complete pitches codebooks) [
    | inl (c, m, encodes, d) ↦
        let f = sent_of m rate c (packet rate c) in (
          Ok f,
          sender_after p f e,
          with_last (arrival_sent f) line,
          (
            complete,
            record {
              ready = (is, room);
              coded = record { rate = refl; frequencies = frequencies; codes = encodes; draws = d; bytes = refl };
              sender = refl;
              line_after = refl;
            },
          ),
        )
    | inr none ↦ (Err AllOnesDrawn, e, line, (complete, (rate, (is, room), (frequencies, pitches, codebooks, none)), refl, refl))
  ]

  at_codebooks : AreComplete p → (rate : Rate) → (rate_is rate).number ≡ n → HasRoom line.places line.waiting → FrequenciesAllowed p.frequencies → PitchesAllowed rate p.pitches → HasAnswer
  unfolding HasAnswer
  at_codebooks complete rate is room frequencies pitches = elim (all_or_fails (codebook_passes rate) (rate_is rate).codebook_subframes) [
    | inl codebooks ↦ at_draws complete rate is room frequencies pitches codebooks
    | inr (i, f) ↦ (Err (Codebook (i + 1)), e, line, (complete, (rate, (is, room), (frequencies, pitches, (i, f, refl))), refl, refl))
  ]

  at_pitches : AreComplete p → (rate : Rate) → (rate_is rate).number ≡ n → HasRoom line.places line.waiting → FrequenciesAllowed p.frequencies → HasAnswer
  unfolding HasAnswer
  at_pitches complete rate is room frequencies = elim (all_or_fails pitch_passes (rate_is rate).pitch_subframes) [
    | inl pitches ↦ at_codebooks complete rate is room frequencies pitches
    | inr (i, f) ↦ (Err (Pitch (i + 1)), e, line, (complete, (rate, (is, room), (frequencies, (i, f, refl))), refl, refl))
  ]

  at_frequencies : AreComplete p → (rate : Rate) → (rate_is rate).number ≡ n → HasRoom line.places line.waiting → HasAnswer
  unfolding HasAnswer
  at_frequencies complete rate is room = elim (all_or_fails frequency_passes 10) [
    | inl frequencies ↦ at_pitches complete rate is room frequencies
    | inr (i, f) ↦ (Err (Frequency (i + 1)), e, line, (complete, (rate, (is, room), (i, f, refl)), refl, refl))
  ]

  pub send_some : AreComplete p → (r : Result Sent Refusal) × (e' : Sender) × (line' : Line) × Sends e line n p r e' line'
  unfolding HasAnswer
  send_some complete = elim (rate_or_none n) [
    | inr none ↦ (Err Codes, e, line, (complete, none, refl, refl))
    | inl (rate, is) ↦ elim (cases_lt (length line.waiting) line.places) [
      | inr full ↦ (Err LineFull, e, line, (complete, ((rate, is), full), refl, refl))
      | inl room ↦ at_frequencies complete rate is room
    ]
  ]

-- ---- what it answers its caller

-- behind an answer stands what was sent
sent_behind : (e d : Sender) (line l : Line) (n : ℕ) (p : Parameters) (r : Result ℕ Refusal) → SendAnswers e line n p r d l
    → (s : Result Sent Refusal) × (send_answer s ≡ r) × Sends e line n p s d l
sent_behind e d line l n p (Ok draws) (f, is, h) = (Ok f, ap Ok is, h)
sent_behind e d line l n p (Err refusal) h = (Err refusal, refl, h)

answers_as_sent : (e d : Sender) (line l : Line) (n : ℕ) (p : Parameters) (s : Result Sent Refusal) → Sends e line n p s d l
    → SendAnswers e line n p (send_answer s) d l
answers_as_sent e d line l n p (Ok f) h = (f, refl, h)
answers_as_sent e d line l n p (Err refusal) h = h

pub one_send_answer : OneSendAnswer
one_send_answer = record {
  some = λ e line n p complete.
      let (s, d, l, h) = send_some e line n p complete in (send_answer s, d, l, answers_as_sent e d line l n p s h);
  only = λ e d d' line l l' n p r r' a b.
      let (s, is, h) = sent_behind e d line l n p r a in
      let (s', is', h') = sent_behind e d' line l' n p r' b in
      let same = send_once e line n p s s' d d' l l' h h' in
      (sym is ∙ ap send_answer same.0 ∙ is', same.1, same.2);
}
