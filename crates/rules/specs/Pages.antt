-- The texts of a page, byte by byte, and what a print call does with its buffer.
use Rattle.std.specs.Prelude.{◌≡◌, ℕ, ℤ, ◌+◌, ◌<◌, ◌≤◌, List, [], ◌∷◌, ◌++◌, Some, None, Option, Ok, Err, Result}
use Rattle.std.specs.Prelude.{codes, decimal, drop, length}
use Rattle.std.specs.Fmt.{signed_decimal}
use Rattle.service.specs.declared.refusals.Refusal.{Refusal}
use Rattle.service.specs.declared.refusals.Refusal.TheVariants.{ShortBuffer}
use Rattle.service.specs.Letters.{letter_is}
use Rattle.service.specs.Refusals.{Answer, refused}
use Rattle.service.specs.Texts.{refused_text}
use Rattle.rules.specs.Arrivals.{Arrival}
use Rattle.rules.specs.Reels.{arrivals_of}
use Rattle.rules.specs.Rows.{PageRows, Row}

-- the first line of a page, its columns
abbrev pub header_text : List ℕ
header_text = codes "frame;read;LSP1;LSP2;LSP3;LSP4;LSP5;LSP6;LSP7;LSP8;LSP9;LSP10;CBGAIN\n"

-- each frequency behind a semicolon, with a minus sign if it is negative
unfoldable pub frequencies_text : List ℤ → List ℕ
frequencies_text [] = []
frequencies_text (f ∷ fs) = codes ";" ++ (signed_decimal f ++ frequencies_text fs)

-- codes of CBGAIN in decimal, one after another; each that was read is one digit
unfoldable pub digits_text : List ℕ → List ℕ
digits_text [] = []
digits_text (c ∷ cs) = decimal c ++ digits_text cs

-- CBGAIN of what was read, or a hyphen
abbrev pub cbgain_text : Option (List ℕ) → List ℕ
cbgain_text (Some cbgain) = digits_text cbgain
cbgain_text None = codes "-"

-- the line of a row under the number of its frame
abbrev pub row_text : ℕ → Row → List ℕ
row_text frame row =
    decimal frame ++ (codes ";" ++ (((letter_is row.letter).byte ∷ []) ++ (frequencies_text row.frequencies
    ++ (codes ";" ++ (cbgain_text row.cbgain ++ codes "\n")))))

-- the line of a refusal, by its number alone
abbrev pub refusal_line : ℕ → List ℕ
refusal_line number = refused_text (refused number) ++ codes "\n"

-- A text is written from a buffer's start, the rest of the buffer is kept, and the text's length is answered; refusal
-- 16 exactly if the buffer is shorter than the text, and then it is as it was.
abbrev pub Prints : List ℕ → List ℕ → List ℕ → Result ℕ Refusal → Type 0
Prints text before after (Ok n) = (length text ≤ length before) × (n ≡ length text) × (after ≡ text ++ drop n before)
Prints text before after (Err ShortBuffer) = (length before < length text) × (after ≡ before)
Prints text before after (Err _) = ⊥

-- ---- the page of a reel

-- the lines of rows, whose frames are numbered from n on
unfoldable pub rows_text : ℕ → List Row → List ℕ
rows_text n [] = []
rows_text n (row ∷ rows) = row_text n row ++ rows_text (n + 1) rows

-- the page of these arrivals: the header and a line for each row, numbered from 1; or, of a reel that has a fault, the
-- line of refusal 18 and no header
abbrev pub PageOf : Result (List Arrival) Answer → List ℕ → Type 0
PageOf (Ok supply) text = (rows : List Row) × PageRows supply rows × (text ≡ header_text ++ rows_text 1 rows)
PageOf (Err cause) text = text ≡ refusal_line 18

-- the page of a reel of these bytes
abbrev pub PageText : List ℕ → List ℕ → Type 0
PageText bytes text = PageOf (arrivals_of bytes) text
