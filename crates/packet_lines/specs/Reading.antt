-- What a line asks for.
use Rattle.std.specs.Prelude.{◌≡◌, ℕ, ◌==◌, ◌&&◌, nat_lt, if◌then◌else◌, List, [], ◌∷◌, length, slice_index, drop}
use Rattle.std.specs.Prelude.{codes, Result, Ok, Err}
use Rattle.std.specs.List.{slice_split}
use Rattle.std.specs.Str.{all_ascii_digits, bytes_eq}
use Rattle.std.specs.Str.Lines.{strip_carriage_return}
use Rattle.std.specs.Str.Parse.{digits_value}
use Rattle.hex.specs.Hex.{decode_of}
use Rattle.hex.specs.declared.error.FromHexError.{FromHexError}
use Rattle.packet.specs.declared.codes.CodeNumbers.{CodeNumbers}
use Rattle.packet.specs.Codes.{numbers_of}
use Rattle.packet_lines.specs.declared.reading.Request.{Request}
use Rattle.packet_lines.specs.declared.reading.Request.TheVariants.{Pack, Unpack}
use Rattle.packet_lines.specs.declared.reasons.ReadError.{ReadError}
use Rattle.packet_lines.specs.declared.reasons.ReadError.TheVariants.{Line, OutOfMemory}
use Rattle.packet_lines.specs.declared.reasons.Unreadable.{Unreadable}
use Rattle.packet_lines.specs.declared.reasons.Unreadable.TheVariants.{Verb, PackWords, UnpackWords, Number, Packet}

-- a request, without where its bytes lie in memory
pub data Asked : Type 0 where
  pack : (rate : ℕ) (c : CodeNumbers) → Asked
  unpack : (rate : ℕ) (packet : List ℕ) → Asked

abbrev pub asked : Request → Asked
asked (Pack rate c) = pack rate c
asked (Unpack rate packet) = unpack rate packet.items

-- the second step, if the first gave a value
infixl 10 ◌>>=◌
abbrev pub ◌>>=◌ : {A B : Type 0} → Result A Unreadable → (A → Result B Unreadable) → Result B Unreadable
(Ok x) >>= f = f x
(Err e) >>= f = Err e

-- what stands between the spaces of a line; 32 is a space
abbrev pub words : List ℕ → List (List ℕ)
words line = slice_split (λ b. b == 32) line

-- decimal digits, one or more, of a number below 256
abbrev pub number : List ℕ → Result ℕ Unreadable
number w =
    if nat_lt 0 (length w)
    && (all_ascii_digits w && nat_lt (digits_value 10 w) 256) then Ok (digits_value 10 w) else Err Number

abbrev pub numbers : List (List ℕ) → Result (List ℕ) Unreadable
numbers [] = Ok []
numbers (w ∷ ws) = do
  n ← number w
  ns ← numbers ws
  Ok (n ∷ ns)

-- two hexadecimal digits a byte, in either case
abbrev pub decoded : Result (List ℕ) FromHexError → Result (List ℕ) Unreadable
decoded (Ok bytes) = Ok bytes
decoded (Err e) = Err Packet

-- the bytes that a word stands for: none for a hyphen, else two hexadecimal digits a byte
abbrev pub packet_bytes : List ℕ → Result (List ℕ) Unreadable
packet_bytes w = if bytes_eq w (codes "-") then Ok [] else if length w == 0 then Err Packet else decoded (decode_of w)

-- behind pack stand a rate and 35 codes
abbrev pub pack_words : List (List ℕ) → Result Asked Unreadable
pack_words ws =
    if length ws == 36 then (numbers ws >>= λ ns. Ok (pack (slice_index ns 0) (numbers_of (drop 1 ns))))
    else Err PackWords

-- behind unpack stand a rate and a packet
abbrev pub unpack_words : List (List ℕ) → Result Asked Unreadable
unpack_words (rate ∷ packet ∷ []) = do
  n ← number rate
  bytes ← packet_bytes packet
  Ok (unpack n bytes)
unpack_words _ = Err UnpackWords

-- the first word says which
abbrev pub request_of : List (List ℕ) → Result Asked Unreadable
request_of [] = Err Verb
request_of (verb ∷ ws) =
    if bytes_eq verb (codes "pack") then pack_words ws
    else if bytes_eq verb (codes "unpack") then unpack_words ws
    else Err Verb

-- what a line asks for, or what is wrong with it; a carriage return at its end is not looked at
abbrev pub reading : List ℕ → Result Asked Unreadable
reading line = request_of (words (strip_carriage_return line))

-- what a function returned, seen by view, is what reading gives, unless memory ran out
abbrev pub Fails : {Y : Type 0} → ReadError → Result Y Unreadable → Type 0
Fails OutOfMemory read = Unit {0}
Fails (Line e) read = read ≡ Err e

abbrev pub Gives : {X Y : Type 0} → (X → Y) → Result X ReadError → Result Y Unreadable → Type 0
Gives view (Ok x) read = read ≡ Ok (view x)
Gives view (Err e) read = Fails e read
