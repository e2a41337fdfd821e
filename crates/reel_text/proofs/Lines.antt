-- The lines of a reel's records, one by one.
use Rattle.std.proofs.Common.{◌≡◌, ℕ, suc, ◌+◌, List, [], ◌++◌, codes, sym, refl, ap, add-one}
use Rattle.reel.specs.declared.records.Record.{Record}
use Rattle.reel.specs.Records.{record_is, IsRecord}
use Rattle.reel_text.specs.Text.{record_text, record_lines}

pub lines_none : (bs : List ℕ) → record_lines bs 0 ≡ []
unfolding record_lines
lines_none bs = refl

pub lines_more : (bs : List ℕ) (k : ℕ) (r : Record) → IsRecord bs k r
    → record_lines bs (k + 1) ≡ record_lines bs k ++ (record_text (k + 1) (record_is r) ++ codes "\n")
unfolding record_lines
lines_more bs k r is = rw (add-one k) (ap (λ v. record_lines bs k ++ (record_text (suc k) v ++ codes "\n")) (sym is.values))
