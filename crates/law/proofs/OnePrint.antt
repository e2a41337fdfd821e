-- A print has one answer, stands at its buffer's start, and keeps the buffer's length.
use Rattle.std.proofs.Common.{◌≡◌, ℕ, ◌++◌, List, length, drop, take, Ok, Err, Result, refl, sym, ap, ◌∙◌, inl, inr, arith}
use Rattle.std.proofs.lemmas.Bool.{cases_lt}
use Rattle.std.proofs.lemmas.List.{drop_at, length-append, length-drop, take_at}
use Rattle.service.specs.declared.refusals.Refusal.{Refusal}
use Rattle.service.specs.declared.refusals.Refusal.TheVariants.{ShortBuffer}
use Rattle.rules.specs.Pages.{Prints}
use Rattle.law.specs.Answers.{OnePrint, PrintsStandAtTheStart}

print_some : (text before : List ℕ) → (after : List ℕ) × (r : Result ℕ Refusal) × Prints text before after r
print_some text before = elim (cases_lt (length before) (length text)) [
  | inl short ↦ (before, Err ShortBuffer, (short, refl))
  | inr fits ↦ (text ++ drop (length text) before, Ok (length text), (fits, refl, refl))
]

print_once : (text before after after' : List ℕ) (r r' : Result ℕ Refusal) → Prints text before after r → Prints text before after' r' → (after ≡ after') × (r ≡ r')
print_once text before after after' (Ok n) (Ok m) (fits, long, is) (fits', long', is') =
    let same = long ∙ sym long' in (is ∙ ap (λ k. text ++ drop k before) same ∙ sym is', ap Ok same)
print_once text before after after' (Ok n) (Err ShortBuffer) (fits, long, is) (short, kept) = absurd (omega arith)
print_once text before after after' (Ok n) (Err r) p q = absurd q
print_once text before after after' (Err ShortBuffer) (Ok m) (short, kept) (fits, long, is) = absurd (omega arith)
print_once text before after after' (Err ShortBuffer) (Err ShortBuffer) (short, kept) (short', kept') = (kept ∙ sym kept', refl)
print_once text before after after' (Err ShortBuffer) (Err r) p q = absurd q
print_once text before after after' (Err r) r' p q = absurd p

as_long : (text before after : List ℕ) (r : Result ℕ Refusal) → Prints text before after r → length after ≡ length before
as_long text before after (Ok n) (fits, long, is) =
    omega (arith, ap length is, length-append text (drop n before), length-drop n before)
as_long text before after (Err ShortBuffer) (short, kept) = ap length kept
as_long text before after (Err r) p = absurd p

pub one_print : OnePrint
one_print = record { some = print_some; only = print_once; length = as_long }

-- ---- where it stands

at_the_start : (text before after : List ℕ) (n : ℕ) → Prints text before after (Ok n) → take n after ≡ text
at_the_start text before after n (fits, long, is) = ap (take n) is ∙ take_at text (drop n before) n (sym long)

behind_kept : (text before after : List ℕ) (n : ℕ) → Prints text before after (Ok n) → drop n after ≡ drop n before
behind_kept text before after n (fits, long, is) = ap (drop n) is ∙ drop_at text (drop n before) n (sym long)

all_kept : (text before after : List ℕ) (r : Refusal) → Prints text before after (Err r) → after ≡ before
all_kept text before after ShortBuffer (short, kept) = kept
all_kept text before after r p = absurd p

pub prints_stand_at_the_start : PrintsStandAtTheStart
prints_stand_at_the_start = record { text = at_the_start; kept = behind_kept; refused = all_kept }
