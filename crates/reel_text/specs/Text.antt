-- The text of a checked reel, byte by byte: a line for each record and a verdict.
use Rattle.std.specs.Prelude.{ℕ, zero, suc, List, [], ◌++◌, Some, None, Ok, Err, codes, decimal}
use Rattle.std.specs.Prelude.{Option, Result}
use Rattle.packet_hex.specs.Texts.{packet_text}
use Rattle.service.specs.declared.refusals.Fault.{Fault}
use Rattle.service.specs.Refusals.{Answer, fault_is}
use Rattle.service.specs.Texts.{category_text, refused_text}
use Rattle.reel.specs.Layout.{count, category_at, packet_of}
use Rattle.reel.specs.Records.{RecordValues, record_of}
use Rattle.reel.specs.Tests.{fault}

-- number;what it is;its bytes
abbrev pub record_text : ℕ → RecordValues → List ℕ
record_text n v = decimal n ++ (codes ";" ++ (category_text v.category ++ (codes ";" ++ packet_text v.bytes)))

-- the answer of a check: a reel with no fault is lawful
abbrev pub answer_text : Option Answer → List ℕ
answer_text None = codes "ok"
answer_text (Some a) = refused_text a

-- the last line: a lawful reel has so many records, or the reel has a fault
abbrev pub ok_text : ℕ → List ℕ
ok_text n = codes "ok " ++ decimal n

abbrev pub verdict_text : Result ℕ Fault → List ℕ
verdict_text (Ok n) = ok_text n
verdict_text (Err e) = refused_text (fault_is e)

-- the lines of the first n records
unfoldable pub record_lines : List ℕ → ℕ → List ℕ
record_lines bs zero = []
record_lines bs (suc k) =
    record_lines bs k ++ (record_text (suc k) (record_of (category_at bs k) (packet_of bs k)) ++ codes "\n")

-- the whole text: an unlawful reel has one line
abbrev pub text_by : List ℕ → Option Answer → List ℕ
text_by bs None = record_lines bs (count bs) ++ (ok_text (count bs) ++ codes "\n")
text_by bs (Some a) = refused_text a ++ codes "\n"

abbrev pub reel_text : List ℕ → List ℕ
reel_text bs = text_by bs (fault bs)
