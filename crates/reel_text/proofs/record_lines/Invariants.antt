use Rattle.std.proofs.Common.{◌≡◌, ◌≤◌, string_bytes}
use Rattle.reel.specs.Layout.{count}
use Rattle.reel.specs.Reels.{bytes_of}
use Rattle.reel_text.specs.Text.{record_lines}
use Rattle.reel_text.proofs.record_lines.Given as goal

-- the records before k are written, and record k is next
abbrev pub invariant-loop-k : goal.invariant-loop-k
invariant-loop-k l =
    let bs = bytes_of l.reel in
    record { next : (l.item-iterator).at ≡ l.k; of : (l.item-iterator).reel ≡ l.reel; within : l.k ≤ count bs; written : string_bytes l.text ≡ record_lines bs l.k }
