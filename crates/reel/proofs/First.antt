-- The first test of a list that fails.
use Rattle.std.proofs.Common.{◌≡◌, ℕ, zero, suc, ◌<◌, ◌≤◌, Bool, true, false, List, [], ◌∷◌, ◌++◌, Some, None, sym, refl, ◌∙◌, subst, ⊎_elim, arith}
use Rattle.std.proofs.lemmas.Bool.{cases_eq}
use Rattle.service.specs.Refusals.{Answer}
use Rattle.reel.specs.Layout.{count}
use Rattle.reel.specs.Tests.{first, concat_below, header_tests, record_tests, fault}

-- where the front passes, the rest decides
first_skip : (xs ys : List (Bool × Answer)) → first xs ≡ None → first (xs ++ ys) ≡ first ys
first_skip [] ys h = refl
first_skip ((true, e) ∷ xs) ys h = let z : ◌≡◌ {A = ℕ} 0 1 = cc in absurd (omega arith)
first_skip ((false, e) ∷ xs) ys h = first_skip xs ys h

-- where the front fails, it decides
first_stop : (xs ys : List (Bool × Answer)) (e : Answer) → first xs ≡ Some e → first (xs ++ ys) ≡ Some e
first_stop [] ys e h = let z : ◌≡◌ {A = ℕ} 0 1 = cc in absurd (omega arith)
first_stop ((true, d) ∷ xs) ys e h = h
first_stop ((false, d) ∷ xs) ys e h = first_stop xs ys e h

first_front : (xs ys : List (Bool × Answer)) → first (xs ++ ys) ≡ None → first xs ≡ None
first_front [] ys h = refl
first_front ((true, e) ∷ xs) ys h = h
first_front ((false, e) ∷ xs) ys h = first_front xs ys h

concat_stop : (f : ℕ → List (Bool × Answer)) (m n : ℕ) (e : Answer) → first (concat_below m f) ≡ Some e → m ≤ n → first (concat_below n f) ≡ Some e
concat_stop f m zero e h le = let z : m ≡ 0 = omega arith in subst (λ i. first (concat_below i f) ≡ Some e) z h
concat_stop f m (suc n) e h le =
    ⊎_elim (λ q. subst (λ i. first (concat_below i f) ≡ Some e) q h)
    (λ q. first_stop (concat_below n f) (f n) e (concat_stop f m n e h (omega arith)))
    (cases_eq m (suc n))

concat_at : (f : ℕ → List (Bool × Answer)) (n k : ℕ) → first (concat_below n f) ≡ None → k < n → first (f k) ≡ None
concat_at f zero k h lt = absurd (omega arith)
concat_at f (suc n) k h lt =
    ⊎_elim (λ q. subst (λ i. first (f i) ≡ None) (sym q) (sym (first_skip (concat_below n f) (f n) (first_front (concat_below n f) (f n) h)) ∙ h))
    (λ q. concat_at f n k (first_front (concat_below n f) (f n) h) (omega arith))
    (cases_eq k n)

-- a header that fails decides
pub fault_by_header : (bs : List ℕ) (e : Answer) → first (header_tests bs) ≡ Some e → fault bs ≡ Some e
fault_by_header bs e h = first_stop (header_tests bs) (concat_below (count bs) (record_tests bs)) e h

-- where the header passes, the records decide
pub fault_by_records : (bs : List ℕ) → first (header_tests bs) ≡ None → fault bs ≡ first (concat_below (count bs) (record_tests bs))
fault_by_records bs h = first_skip (header_tests bs) (concat_below (count bs) (record_tests bs)) h

concat_pass : (f : ℕ → List (Bool × Answer)) (n : ℕ) → ((k : ℕ) → k < n → first (f k) ≡ None) → first (concat_below n f) ≡ None
concat_pass f zero each = refl
concat_pass f (suc n) each =
    first_skip (concat_below n f) (f n) (concat_pass f n (λ k lt. each k (omega arith))) ∙ each n (omega arith)

-- the first record that fails decides
pub fault_at : (bs : List ℕ) (k : ℕ) (e : Answer) → first (header_tests bs) ≡ None → ((j : ℕ) → j < k → first (record_tests bs j) ≡ None)
    → k < count bs → first (record_tests bs k) ≡ Some e → fault bs ≡ Some e
fault_at bs k e head before lt here =
    fault_by_records bs head
    ∙ concat_stop (record_tests bs) (suc k) (count bs) e (first_skip (concat_below k (record_tests bs)) (record_tests bs k) (concat_pass (record_tests bs) k before) ∙ here) (omega arith)

-- where the header and every record pass, there is no fault
pub no_fault : (bs : List ℕ) → first (header_tests bs) ≡ None → ((k : ℕ) → k < count bs → first (record_tests bs k) ≡ None) → fault bs ≡ None
no_fault bs head each = fault_by_records bs head ∙ concat_pass (record_tests bs) (count bs) each

-- the header of a lawful reel passes, and so does each record
pub header_passes : (bs : List ℕ) → fault bs ≡ None → first (header_tests bs) ≡ None
header_passes bs h = first_front (header_tests bs) (concat_below (count bs) (record_tests bs)) h

pub record_passes : (bs : List ℕ) (k : ℕ) → fault bs ≡ None → k < count bs → first (record_tests bs k) ≡ None
record_passes bs k h lt = concat_at (record_tests bs) (count bs) k (sym (fault_by_records bs (header_passes bs h)) ∙ h) lt
