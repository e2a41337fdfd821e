-- The words of a line are found in one way.
use Rattle.std.proofs.Common.{◌≡◌, ◌≢◌, ℕ, List, [], ◌∷◌, ◌++◌, drop, Option, Some, None, Bor, sym, subst, refl, ◌∙◌, lit<}
use Rattle.std.specs.List.{All, AllByRecursion}
use Rattle.std.specs.Option.{MatchOption}
use Rattle.std.specs.Str.Pattern.{RFindsChar, SplitsAroundMatch}
use Rattle.std.proofs.lemmas.List.{take-append-drop}
use Rattle.std.proofs.lemmas.List.Elements.{All-from_get_or, recursion_from_All}
use Rattle.std.proofs.lemmas.Str.Pattern.{IsSplitOnceResult, NoCharPasses-char, drop_at_char, split_parts}
use Rattle.vector_check.specs.Words.{FirstWord, IsWord, LastWord}

abbrev NoSpace : List ℕ → Type 0
NoSpace w = AllByRecursion (λ b. b ≢ 32) w

no_space : (w : List ℕ) → IsWord w → NoSpace w
no_space w h = recursion_from_All (λ b. b ≢ 32) w h

space_in : (front rest : List ℕ) → NoSpace (front ++ (32 ∷ rest)) → ⊥
space_in [] rest h = h.0 refl
space_in (x ∷ front) rest h = space_in front rest h.1

-- a word holds no space
pub no_parts : (text front rest : List ℕ) → IsWord text → text ≡ front ++ (32 ∷ rest) → ⊥
no_parts text front rest h e = space_in front rest (subst NoSpace e (no_space text h))

first_of : (w v r s : List ℕ) → NoSpace w → NoSpace v → w ++ (32 ∷ r) ≡ v ++ (32 ∷ s) → (w ≡ v) × (r ≡ s)
first_of [] [] r s hw hv e = (refl, cc)
first_of [] (y ∷ v) r s hw hv e = let k : y ≡ 32 = cc in absurd (hv.0 k)
first_of (x ∷ w) [] r s hw hv e = let k : x ≡ 32 = cc in absurd (hw.0 k)
first_of (x ∷ w) (y ∷ v) r s hw hv e =
    let head : x ≡ y = cc in
    let tail : w ++ (32 ∷ r) ≡ v ++ (32 ∷ s) = cc in
    let p : (w ≡ v) × (r ≡ s) = first_of w v r s hw.1 hv.1 tail in
    let same : w ≡ v = p.0 in
    (cc, p.1)

last_of : (f g w v : List ℕ) → NoSpace w → NoSpace v → f ++ (32 ∷ w) ≡ g ++ (32 ∷ v) → (f ≡ g) × (w ≡ v)
last_of [] [] w v hw hv e = (refl, cc)
last_of [] (y ∷ g) w v hw hv e = let k : w ≡ g ++ (32 ∷ v) = cc in absurd (space_in g v (subst NoSpace k hw))
last_of (x ∷ f) [] w v hw hv e = let k : v ≡ f ++ (32 ∷ w) = cc in absurd (space_in f w (subst NoSpace k hv))
last_of (x ∷ f) (y ∷ g) w v hw hv e =
    let head : x ≡ y = cc in
    let tail : f ++ (32 ∷ w) ≡ g ++ (32 ∷ v) = cc in
    let p : (f ≡ g) × (w ≡ v) = last_of f g w v hw hv tail in
    let same : f ≡ g = p.0 in
    (cc, p.1)

pub same_first : (text w v r s : List ℕ) → IsWord w → IsWord v → text ≡ w ++ (32 ∷ r) → text ≡ v ++ (32 ∷ s) → (w ≡ v) × (r ≡ s)
same_first text w v r s hw hv e k = first_of w v r s (no_space w hw) (no_space v hv) (sym e ∙ k)

pub same_last : (text f g w v : List ℕ) → IsWord w → IsWord v → text ≡ f ++ (32 ∷ w) → text ≡ g ++ (32 ∷ v) → (f ≡ g) × (w ≡ v)
same_last text f g w v hw hv e k = last_of f g w v (no_space w hw) (no_space v hv) (sym e ∙ k)

-- what `split_once` and `rsplit_once` give
pub first_found : (bs : List ℕ) (r : Option (Bor (List ℕ) × Bor (List ℕ))) → IsSplitOnceResult 32 bs r
    → MatchOption r (IsWord bs) (λ x. FirstWord bs x.0.now x.1.now)
first_found bs None h =
    let k = split_parts 32 bs None h (lit< tt) in
    All-from_get_or (λ b. b ≢ 32) bs 0 k
first_found bs (Some x) h =
    let k = split_parts 32 bs (Some x) h (lit< tt) in
    record { parts = k.0; first = All-from_get_or (λ b. b ≢ 32) x.0.now 0 k.1 }

pub last_found : (bs : List ℕ) (r : Option (Bor (List ℕ) × Bor (List ℕ)))
    → MatchOption r (RFindsChar 32 bs None) (λ x. SplitsAroundMatch (RFindsChar 32) bs x.0.now x.1.now)
    → MatchOption r (IsWord bs) (λ x. LastWord bs x.0.now x.1.now)
last_found bs None h = All-from_get_or (λ b. b ≢ 32) bs 0 (λ i l. NoCharPasses-char 32 bs i h (lit< tt) l)
last_found bs (Some x) (i, j, found, front, back, ordered, short, long) =
    let e : drop i bs ≡ 32 ∷ drop j bs = drop_at_char 32 bs i j found.1 (lit< tt) in
    let k : All (λ b. b ≢ 32) (drop j bs)
    = All-from_get_or (λ b. b ≢ 32) (drop j bs) 0 (λ n l. NoCharPasses-char 32 (drop j bs) n found.0 (lit< tt) l) in
    record { parts = cc (take-append-drop i bs); last = subst (λ w. All (λ b. b ≢ 32) w) (sym back) k }
