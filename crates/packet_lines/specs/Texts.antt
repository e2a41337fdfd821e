-- What is printed of codes, of a packet and of an unreadable line, byte by byte.
use Rattle.std.specs.Prelude.{ℕ, List, ◌++◌, codes, decimal, map}
use Rattle.std.specs.List.{flat_map, join_with_byte}
pub use Rattle.packet_hex.specs.Texts.{packet_text}
use Rattle.packet.specs.declared.codes.CodeNumbers.{CodeNumbers}
use Rattle.packet.specs.Codes.{in_order}
use Rattle.packet_lines.specs.declared.reasons.ReadError.{ReadError}
use Rattle.packet_lines.specs.declared.reasons.ReadError.TheVariants.{Line, OutOfMemory}
use Rattle.packet_lines.specs.declared.reasons.Unreadable.{Unreadable}
use Rattle.packet_lines.specs.declared.reasons.Unreadable.TheVariants.{Verb, PackWords, UnpackWords, Number, Packet}

-- numbers in decimal, each behind a space
abbrev pub spaced : List ℕ → List ℕ
spaced ns = flat_map (λ n. codes " " ++ decimal n) ns

-- the 35 codes in decimal and in order, with one space between
abbrev pub codes_text : CodeNumbers → List ℕ
codes_text c = join_with_byte 32 (map decimal (in_order c))

-- why a line asks for nothing
abbrev pub reason_text : Unreadable → List ℕ
reason_text Verb = codes "the first word is neither pack nor unpack"
reason_text PackWords = codes "pack takes a rate and 35 codes, with single spaces between"
reason_text UnpackWords = codes "unpack takes a rate and a packet, with single spaces between"
reason_text Number = codes "the rate or a code is not a decimal number from 0 to 255"
reason_text Packet = codes "the packet is neither pairs of hexadecimal digits nor a hyphen"

-- why no request was read
abbrev pub error_text : ReadError → List ℕ
error_text (Line reason) = reason_text reason
error_text OutOfMemory = codes "out of memory"
