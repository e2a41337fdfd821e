-- Every call has one answer on every link.
use Rattle.std.proofs.Common.{◌≡◌, ℕ, ◌≤◌, ◌⊎◌, Bool, true, false, not, ◌&&◌, ◌-◌, List, length, set, Ok, Err, Result, inl, inr, refl, sym, ap, ap₂, subst, ◌∙◌, arith}
use Rattle.std.proofs.lemmas.Bool.{and_parts, cases_Bool, cases_lt, false≢true}
use Rattle.service.specs.declared.refusals.Fault.{Fault}
use Rattle.service.specs.declared.refusals.Fault.TheVariants.{UnknownCategory, Length, SpareBits}
use Rattle.service.specs.declared.refusals.Refusal.{Refusal}
use Rattle.service.specs.declared.refusals.Refusal.TheVariants.{Faulty, LineFull, NoArrival}
use Rattle.service.specs.declared.categories.Category.{Category}
use Rattle.service.specs.Categories.{category_of}
use Rattle.service.specs.Tests.{spare_bits_set, unknown_category, wrong_length}
use Rattle.rules.specs.Arrivals.{Arrival, MakesArrival, MakesPacket, are_bytes, blank_arrival, is_lawful}
use Rattle.rules.specs.Sending.{Parameters}
use Rattle.rules.specs.Ends.{Sender, new_receiver, new_sender}
use Rattle.service.specs.Queues.{HasRoom, IsFull, Waits}
use Rattle.rules.specs.Links.{Blanks, Disturbs, Line, Link, Sends, sender_after_blank, with_last, arrival_put}
use Rattle.law.specs.Runs.{Blank, Call, Disturb, RestartReceiver, RestartSender, Send, Step, Take}
use Rattle.law.specs.Answers.{Answered, Command, IsComplete, OneAnswerToEachCall, OneArrivalOrFault, OnePacketOrFault, blank, command_of, disturb, restart_receiver, restart_sender, send, take}
use Rattle.law.proofs.Once.{Once, guard_once, leaf_once}
use Rattle.law.proofs.OneSend.{send_once, send_some}
use Rattle.law.proofs.OneTake.{from_supply_once, from_supply_some}

-- a lawful arrival passes each test
not_not : (b : Bool) → not b ≡ true → b ≡ false
not_not true e = absurd (false≢true e)
not_not false e = refl

pub record Tests (a : Arrival) : Type 0 where
  pub size : wrong_length a.category (length a.bytes) ≡ false
  pub spare : spare_bits_set a.category a.bytes ≡ false
  pub bytes : are_bytes a.bytes ≡ true

pub lawful_parts : (a : Arrival) → is_lawful a ≡ true → Tests a
lawful_parts a lawful =
    let (tests, bytes) = and_parts (not (wrong_length a.category (length a.bytes)) && not (spare_bits_set a.category a.bytes)) (are_bytes a.bytes) lawful in
    let (size, spare) = and_parts (not (wrong_length a.category (length a.bytes))) (not (spare_bits_set a.category a.bytes)) tests in
    record { size = not_not _ size; spare = not_not _ spare; bytes = bytes }

lawful_whole : (a : Arrival) → wrong_length a.category (length a.bytes) ≡ false → spare_bits_set a.category a.bytes ≡ false → are_bytes a.bytes ≡ true → is_lawful a ≡ true
lawful_whole a size spare bytes = rw (size, spare, bytes) refl

-- ---- an arrival is made

-- what is made is shown as it is
abbrev plain : Arrival → Arrival
plain a = a

abbrev Made : Type 0
Made = Result Arrival Fault

abbrev Fails : Bool → Fault → Made → Type 0
Fails b fault r = (b ≡ true) × (r ≡ Err fault)

test_once : (b : Bool) (fault : Fault) (B : Made → Type 0) → Once B → Once (λ r. Fails b fault r ⊎ ((b ≡ false) × B r))
test_once b fault B once =
    guard_once (Fails b fault) (b ≡ false) B (λ r t f. false≢true (sym f ∙ t.0)) (leaf_once (b ≡ true) (Err fault)) once

-- by a category
module _ (place : ℕ) (category : Category) (bytes : List ℕ) where
  abbrev packet : Arrival
  packet = record { category = category; bytes = bytes }

  abbrev is_wrong : Bool
  is_wrong = wrong_length category (length bytes)

  abbrev is_set : Bool
  is_set = spare_bits_set category bytes

  abbrev IsMade : Made → Type 0
  IsMade r = r ≡ Ok packet

  abbrev AtSpare : Made → Type 0
  AtSpare r = Fails is_set (SpareBits place) r ⊎ ((is_set ≡ false) × IsMade r)

  abbrev AtLength : Made → Type 0
  AtLength r = Fails is_wrong (Length place) r ⊎ ((is_wrong ≡ false) × AtSpare r)

  length_once : Once AtLength
  length_once =
      test_once is_wrong (Length place) AtSpare
      (test_once is_set (SpareBits place) IsMade (λ r r' e d. e ∙ sym d))

  is_packet : (r : Made) → MakesPacket plain place category bytes r → AtLength r
  is_packet (Ok a) (is, lawful) =
      let tests = lawful_parts packet (subst (λ b. is_lawful b ≡ true) is lawful) in
      inr (tests.size, inr (tests.spare, ap Ok is))
  is_packet (Err (Length i)) (is, wrong) = inl (wrong, ap (λ j. Err (Length j)) is)
  is_packet (Err (SpareBits i)) (is, right, set) = inr (right, inl (set, ap (λ j. Err (SpareBits j)) is))
  is_packet (Err fault) none = absurd none

  packet_once : (r r' : Made) → MakesPacket plain place category bytes r → MakesPacket plain place category bytes r' → r ≡ r'
  packet_once r r' a b = length_once r r' (is_packet r a) (is_packet r' b)

  packet_some : are_bytes bytes ≡ true → (r : Made) × MakesPacket plain place category bytes r
  packet_some are = elim (cases_Bool is_wrong) [
    | inl wrong ↦ (Err (Length place), (refl, wrong))
    | inr right ↦ elim (cases_Bool is_set) [
      | inl set ↦ (Err (SpareBits place), (refl, right, set))
      | inr unset ↦ (Ok packet, (refl, lawful_whole packet right unset are))
    ]
  ]

pub one_packet : OnePacketOrFault
one_packet = record { some = packet_some; only = packet_once }

-- by the number of a category
module _ (place c : ℕ) (bytes : List ℕ) where
  abbrev is_unknown : Bool
  is_unknown = unknown_category c

  abbrev AtCategory : Made → Type 0
  AtCategory r = Fails is_unknown (UnknownCategory place) r ⊎ ((is_unknown ≡ false) × AtLength place (category_of c) bytes r)

  made_once : Once AtCategory
  made_once =
      test_once is_unknown (UnknownCategory place) (AtLength place (category_of c) bytes) (length_once place (category_of c) bytes)

  abbrev packet_is : (r : Made) → MakesPacket plain place (category_of c) bytes r → AtLength place (category_of c) bytes r
  packet_is = is_packet place (category_of c) bytes

  is_made : (r : Made) → MakesArrival plain place c bytes r → AtCategory r
  is_made (Ok a) (known, made) = inr (known, packet_is (Ok a) made)
  is_made (Err (UnknownCategory i)) (is, unknown) = inl (unknown, ap (λ j. Err (UnknownCategory j)) is)
  is_made (Err (Length i)) (known, fault) = inr (known, packet_is (Err (Length i)) fault)
  is_made (Err (SpareBits i)) (known, fault) = inr (known, packet_is (Err (SpareBits i)) fault)
  is_made (Err fault) none = absurd none.1

  pub arrival_once : (r r' : Made) → MakesArrival plain place c bytes r → MakesArrival plain place c bytes r' → r ≡ r'
  arrival_once r r' a b = made_once r r' (is_made r a) (is_made r' b)

  known_some : is_unknown ≡ false → (r : Made) → MakesPacket plain place (category_of c) bytes r → (r' : Made) × MakesArrival plain place c bytes r'
  known_some known (Ok a) made = (Ok a, (known, made))
  known_some known (Err (Length i)) fault = (Err (Length i), (known, fault))
  known_some known (Err (SpareBits i)) fault = (Err (SpareBits i), (known, fault))
  known_some known (Err fault) none = absurd none

  pub arrival_some : are_bytes bytes ≡ true → (r : Made) × MakesArrival plain place c bytes r
  arrival_some are = elim (cases_Bool is_unknown) [
    | inl unknown ↦ (Err (UnknownCategory place), (refl, unknown))
    | inr known ↦ let (r, made) = packet_some place (category_of c) bytes are in known_some known r made
  ]

pub one_arrival : OneArrivalOrFault
one_arrival = record { some = arrival_some; only = arrival_once }

-- ---- blank

abbrev BlankOutcome : Type 0
BlankOutcome = Result Unit Refusal × Sender × Line

module _ (e : Sender) (line : Line) where
  abbrev BlankFull : BlankOutcome → Type 0
  BlankFull x = IsFull line.places line.waiting × (x ≡ (Err LineFull, e, line))

  abbrev BlankJoins : BlankOutcome → Type 0
  BlankJoins x = x ≡ (Ok tt, sender_after_blank e, with_last blank_arrival line)

  blank_outcome_once : Once (λ x. BlankFull x ⊎ (HasRoom line.places line.waiting × BlankJoins x))
  blank_outcome_once =
      guard_once BlankFull (HasRoom line.places line.waiting) BlankJoins (λ x full room. let f = full.0 in omega arith) (leaf_once (IsFull line.places line.waiting) (Err LineFull, e, line))
      (λ x y is is'. is ∙ sym is')

  is_blank_outcome : (r : Result Unit Refusal) (d : Sender) (l : Line) → Blanks e line r d l → BlankFull (r, d, l) ⊎ (HasRoom line.places line.waiting × BlankJoins (r, d, l))
  is_blank_outcome (Ok u) d l ((room, is'), is) = inr (room, ap₂ (λ x y. (Ok u, x, y)) is is')
  is_blank_outcome (Err LineFull) d l ((full, is'), is) = inl (full, ap₂ (λ x y. (Err LineFull, x, y)) is is')
  is_blank_outcome (Err r) d l none = absurd none.0

  blank_once : (r r' : Result Unit Refusal) (d d' : Sender) (l l' : Line) → Blanks e line r d l → Blanks e line r' d' l' → (r ≡ r') × (d ≡ d') × (l ≡ l')
  blank_once r r' d d' l l' a b =
      let same = blank_outcome_once (r, d, l) (r', d', l') (is_blank_outcome r d l a) (is_blank_outcome r' d' l' b) in
      (ap (λ (x : BlankOutcome). x.0) same, ap (λ (x : BlankOutcome). x.1) same, ap (λ (x : BlankOutcome). x.2) same)

  blank_some : (r : Result Unit Refusal) × (d : Sender) × (l : Line) × Blanks e line r d l
  blank_some = elim (cases_lt (length line.waiting) line.places) [
    | inl room ↦ (Ok tt, sender_after_blank e, with_last blank_arrival line, ((room, refl), refl))
    | inr full ↦ (Err LineFull, e, line, ((full, refl), refl))
  ]

-- ---- disturb

waits_or_not : (n m : ℕ) → ((1 ≤ n) × (n ≤ m)) ⊎ ((1 ≤ n) × (n ≤ m) → ⊥)
waits_or_not n m = elim (cases_lt n 1) [
  | inl l ↦ inr (λ w. let a = w.0 in omega arith)
  | inr k ↦ elim (cases_lt m n) [ inl l ↦ inr (λ w. let a = w.1 in omega arith) | inr h ↦ inl (k, h) ]
]

abbrev DisturbOutcome : Type 0
DisturbOutcome = Result Unit Refusal × Line

module _ (line : Line) (n c : ℕ) (bytes : List ℕ) where
  -- a disturb by what the category and the bytes make
  abbrev put : Result Arrival Fault → DisturbOutcome
  put (Ok a) = (Ok tt, record line { waiting = set line.waiting (n - 1) a })
  put (Err fault) = (Err (Faulty fault), line)

  abbrev Puts : DisturbOutcome → Type 0
  Puts x = (r : Result Arrival Fault) × MakesArrival plain n c bytes r × (x ≡ put r)

  abbrev NoneWaits : DisturbOutcome → Type 0
  NoneWaits x = (Waits line.waiting n → ⊥) × (x ≡ (Err NoArrival, line))

  abbrev Disturbing : DisturbOutcome → Type 0
  Disturbing x = NoneWaits x ⊎ (Waits line.waiting n × Puts x)

  puts_once : Once Puts
  puts_once x y (r, a, is) (r', b, is') = is ∙ ap put (arrival_once n c bytes r r' a b) ∙ sym is'

  disturbing_once : Once Disturbing
  disturbing_once =
      guard_once NoneWaits (Waits line.waiting n) Puts (λ x none waits. none.0 waits) (leaf_once (Waits line.waiting n → ⊥) (Err NoArrival, line)) puts_once

  is_disturbing : (r : Result Unit Refusal) (l : Line) → Disturbs line n c bytes r l → Disturbing (r, l)
  is_disturbing (Ok u) l a = inr (a.waits, (Ok (arrival_put c bytes), a.made, ap (λ k. (Ok u, k)) a.line_after))
  is_disturbing (Err NoArrival) l (are, none, e) = inl (none, ap (λ k. (Err NoArrival, k)) e)
  is_disturbing (Err (Faulty fault)) l (are, (waits, made), e) = inr (waits, (Err fault, made, ap (λ k. (Err (Faulty fault), k)) e))
  is_disturbing (Err e) l q = absurd q.1

  disturb_once : (r r' : Result Unit Refusal) (l l' : Line) → Disturbs line n c bytes r l → Disturbs line n c bytes r' l' → (r ≡ r') × (l ≡ l')
  disturb_once r r' l l' a b =
      let same = disturbing_once (r, l) (r', l') (is_disturbing r l a) (is_disturbing r' l' b) in
      (ap (λ (x : DisturbOutcome). x.0) same, ap (λ (x : DisturbOutcome). x.1) same)

  put_made : are_bytes bytes ≡ true → Waits line.waiting n → (r : Result Arrival Fault) → MakesArrival plain n c bytes r
      → (r' : Result Unit Refusal) × (l : Line) × Disturbs line n c bytes r' l
  put_made are waits (Ok a) (known, (is, lawful)) = (
    Ok tt,
    record line { waiting = set line.waiting (n - 1) (arrival_put c bytes) },
    record { waits = waits; made = (known, (refl, subst (λ b. is_lawful b ≡ true) is lawful)); line_after = refl },
  )
  put_made are waits (Err fault) made = (Err (Faulty fault), line, (are, (waits, made), refl))

  disturb_some : are_bytes bytes ≡ true → (r : Result Unit Refusal) × (l : Line) × Disturbs line n c bytes r l
  disturb_some are = elim (waits_or_not n (length line.waiting)) [
    | inr none ↦ (Err NoArrival, line, (are, none, refl))
    | inl waits ↦ let (r, made) = arrival_some n c bytes are in put_made are waits r made
  ]

-- ---- every call

some_answer : (s : Link) (command : Command) → IsComplete command → Answered s command
some_answer s (send n p) complete =
    let (r, e, line, q) = send_some s.sender s.line n p complete in
    record { call = Send n p r; link = record s { sender = e; line = line }; given = refl; step = (q, refl) }
some_answer s blank complete =
    let (r, e, line, q) = blank_some s.sender s.line in
    record { call = Blank r; link = record s { sender = e; line = line }; given = refl; step = (q, refl) }
some_answer s (disturb n c bytes) complete =
    let (r, line, q) = disturb_some s.line n c bytes complete in
    record { call = Disturb n c bytes r; link = record s { line = line }; given = refl; step = (q, refl) }
some_answer s take complete = let (x, t, q) = from_supply_some s in record { call = Take x; link = t; given = refl; step = q }
some_answer s restart_sender complete = record { call = RestartSender; link = record s { sender = new_sender }; given = refl; step = refl }
some_answer s restart_receiver complete = record { call = RestartReceiver; link = record s { receiver = new_receiver }; given = refl; step = refl }

-- what a command was given, and which one it is
abbrev which : Command → ℕ
which (send n p) = 0
which blank = 1
which (disturb n c bytes) = 2
which take = 3
which restart_sender = 4
which restart_receiver = 5

abbrev first_number : Command → ℕ → ℕ
first_number (send n p) d = n
first_number (disturb n c bytes) d = n
first_number _ d = d

abbrev second_number : Command → ℕ → ℕ
second_number (disturb n c bytes) d = c
second_number _ d = d

abbrev parameters_of : Command → Parameters → Parameters
parameters_of (send n p) d = p
parameters_of _ d = d

abbrev bytes_of : Command → List ℕ → List ℕ
bytes_of (disturb n c bytes) d = bytes
bytes_of _ d = d

-- the same sender and line leave the same link
same_link : (s t t' : Link) → t.sender ≡ t'.sender → t.line ≡ t'.line → t ≡ record s { sender = t.sender; line = t.line }
    → t' ≡ record s { sender = t'.sender; line = t'.line } → t ≡ t'
same_link s t t' e l is is' = is ∙ ap₂ (λ x y. record s { sender = x; line = y }) e l ∙ sym is'

one_step : (s t t' : Link) (c c' : Call) → command_of c ≡ command_of c' → Step s c t → Step s c' t' → (c ≡ c') × (t ≡ t')
one_step s t t' (Send n p r) (Send n' p' r') e (a, is) (b, is') =
    let number : n' ≡ n = sym (ap (λ x. first_number x n) e) in
    let parameters : p' ≡ p = sym (ap (λ x. parameters_of x p) e) in
    let b' = subst (λ x. Sends s.sender s.line n x r' t'.sender t'.line) parameters (subst (λ x. Sends s.sender s.line x p' r' t'.sender t'.line) number b) in
    let same = send_once s.sender s.line n p r r' t.sender t'.sender t.line t'.line a b' in
    (ap (λ x. Send x p r) (sym number) ∙ ap (λ x. Send n' x r) (sym parameters) ∙ ap (λ x. Send n' p' x) same.0, same_link s t t' same.1 same.2 is is')
one_step s t t' (Blank r) (Blank r') e (a, is) (b, is') =
    let same = blank_once s.sender s.line r r' t.sender t'.sender t.line t'.line a b in (ap Blank same.0, same_link s t t' same.1 same.2 is is')
one_step s t t' (Disturb n c bytes r) (Disturb n' c' bytes' r') e (a, is) (b, is') =
    let number : n' ≡ n = sym (ap (λ x. first_number x n) e) in
    let category : c' ≡ c = sym (ap (λ x. second_number x c) e) in
    let list : bytes' ≡ bytes = sym (ap (λ x. bytes_of x bytes) e) in
    let b' = subst (λ x. Disturbs s.line n c x r' t'.line) list (subst (λ x. Disturbs s.line n x bytes' r' t'.line) category (subst (λ x. Disturbs s.line x c' bytes' r' t'.line) number b)) in
    let same = disturb_once s.line n c bytes r r' t.line t'.line a b' in (
      ap (λ x. Disturb x c bytes r) (sym number) ∙ ap (λ x. Disturb n' x bytes r) (sym category) ∙ ap (λ x. Disturb n' c' x r) (sym list)
          ∙ ap (λ x. Disturb n' c' bytes' x) same.0,
      is ∙ ap (λ x. record s { line = x }) same.1 ∙ sym is',
    )
one_step s t t' (Take x) (Take x') e a b = let same = from_supply_once s t t' x x' a b in (ap Take same.0, same.1)
one_step s t t' RestartSender RestartSender e a b = (refl, a ∙ sym b)
one_step s t t' RestartReceiver RestartReceiver e a b = (refl, a ∙ sym b)
one_step s t t' c c' e a b = absurd (omega (arith, ap which e))

pub one_answer : OneAnswerToEachCall
one_answer = record { some = some_answer; only = one_step }
