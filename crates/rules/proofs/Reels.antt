-- The arrivals of a lawful reel.
use Rattle.std.proofs.Common.{◌≡◌, ℕ, ◌+◌, ◌-◌, ◌<◌, ◌≤◌, true, List, [], ◌∷◌, length, take, drop, get_or, slice_index, Some, None, Option, Ok, Err, refl, ap, subst, ◌∙◌, ⊎_elim, arith, length-take, length-drop, get_or-take, get_or-drop}
use Rattle.std.proofs.lemmas.Bool.{cases_lt}
use Rattle.std.proofs.lemmas.List.{drop_more, drop_all, get_or_past}
use Rattle.std.proofs.lemmas.List.FromFn.{length-map-range_with_len, get_or-map-range_with_len}
use Rattle.service.specs.Categories.{category_is}
use Rattle.service.specs.Refusals.{Answer}
use Rattle.reel.specs.Lawful.{Lawful}
use Rattle.reel.specs.Layout.{count, category_at, packet_at, packet_of}
use Rattle.reel.specs.Tests.{fault}
use Rattle.reel.proofs.Lawfulness.{lawful_from_none}
use Rattle.rules.specs.Arrivals.{Arrival, are_lawful}
use Rattle.rules.specs.Reels.{ArrivalsOfReels, arrival_at, recorded, recorded_from, recorded_unless}
use Rattle.rules.proofs.Lawful.{are_bytes_of, bytes_at, each_lawful, lawful_of}

module _ (bs : List ℕ) where
  pub length-recorded : length (recorded bs) ≡ count bs
  unfolding recorded
  length-recorded = length-map-range_with_len (arrival_at bs) 0 (count bs)

  -- the first that is left, and the others
  pub recorded_more : (k : ℕ) → k < count bs → recorded_from k bs ≡ arrival_at bs k ∷ recorded_from (k + 1) bs
  unfolding recorded
  recorded_more k h =
      let d : Arrival = arrival_at bs k in
      let long : length (recorded bs) ≡ count bs = length-recorded in
      let here : get_or (recorded bs) k d ≡ arrival_at bs k = get_or-map-range_with_len (arrival_at bs) 0 (count bs) k k d h (omega arith) in
      drop_more (recorded bs) k d (omega arith) ∙ ap (λ a. a ∷ drop (k + 1) (recorded bs)) here

  -- none is left
  pub recorded_all : (k : ℕ) → count bs ≤ k → recorded_from k bs ≡ []
  recorded_all k h = drop_all k (recorded bs) (omega (arith, length-recorded))

  -- so many are left
  pub length-recorded_from : (k : ℕ) → length (recorded_from k bs) ≡ count bs - k
  length-recorded_from k = length-drop k (recorded bs) ∙ ap (λ n. n - k) length-recorded

  -- a part of some bytes has bytes
  part_bytes : ((j : ℕ) → slice_index bs j < 256) → (n start j : ℕ) → slice_index (take n (drop start bs)) j < 256
  part_bytes each n start j = ⊎_elim
      (λ low. rw (get_or-take n (drop start bs) j 0 low, get_or-drop start bs j 0) (each (start + j)))
      (λ (high : n ≤ j). let short : length (take n (drop start bs)) ≤ j = rw length-take (omega (arith, high)) in rw (get_or_past (take n (drop start bs)) j 0 short) (omega arith))
      (cases_lt j n)

  -- a packet within the reel has its length
  packet_long : (k : ℕ) → (0 < (category_is (category_at bs k)).bytes → packet_at bs k + (category_is (category_at bs k)).bytes ≤ length bs)
      → length (packet_of bs k) ≡ (category_is (category_at bs k)).bytes
  packet_long k within =
      let n : ℕ = (category_is (category_at bs k)).bytes in
      length-take n (drop (packet_at bs k) bs)
      ∙ ⊎_elim
      (λ (some : 0 < n). let fits = within some in let l = length-drop (packet_at bs k) bs in omega arith)
      (λ (none : n ≤ 0). omega arith)
      (cases_lt 0 n)

  -- the records of a lawful reel are lawful arrivals
  pub recorded_lawful : Lawful bs → ((j : ℕ) → slice_index bs j < 256) → are_lawful (recorded bs) ≡ true
  unfolding recorded
  recorded_lawful reel each = each_lawful (arrival_at bs) 0 (count bs) (λ k low high.
      let r = reel.records k (omega arith) in
      lawful_of (category_at bs k) (packet_of bs k) (packet_long k r.within) r.spare (are_bytes_of (packet_of bs k) (part_bytes each (category_is (category_at bs k)).bytes (packet_at bs k))))

-- the list of a reel's arrivals is that of its records, and the reel is lawful
its_records : (bs : List ℕ) (f : Option Answer) (list : List Arrival) → fault bs ≡ f → recorded_unless f bs ≡ Ok list → Lawful bs × (recorded bs ≡ list)
its_records bs None list e is = (lawful_from_none bs e, cc)
its_records bs (Some a) list e is = absurd (not_ok is)
  where
    not_ok : {a : Answer} {list : List Arrival} → Err a ≡ Ok list → ⊥
    not_ok e = cc

pub arrivals_of_reels : ArrivalsOfReels
arrivals_of_reels bs list are is =
    let (lawful, same) = its_records bs (fault bs) list refl is in
    record {
      lawful = subst (λ l. are_lawful l ≡ true) same (recorded_lawful bs lawful (bytes_at bs are));
      few = subst (λ l. length l ≤ 2048) same (let n = length-recorded bs in let m = lawful.header.few in omega arith);
    }
