-- A worked page, byte by byte, about the definitions that the contracts cite.
use Rattle.std.specs.Prelude.{ℕ, List, [], ◌∷◌, ◌++◌, codes}
use Rattle.rules.specs.Pages.{PageText}

-- a reel of two records, both packets at Rate 1/8, of which the second is all ones
abbrev pub listed_reel : List ℕ
listed_reel =
    0x02 ∷ 0x00 ∷ 0x00 ∷ 0x00 ∷ 0x10 ∷ 0x00 ∷ 0x00 ∷ 0x00 ∷ 0x20 ∷ 0x00 ∷ 0x00 ∷ 0x00 ∷ 0x24 ∷ 0x00 ∷ 0x00 ∷ 0x00
    ∷ 0x00 ∷ 0x00 ∷ 0x00 ∷ 0x00 ∷ 0x01 ∷ 0x02 ∷ 0x00 ∷ 0x00
    ∷ 0x02 ∷ 0x00 ∷ 0x00 ∷ 0x00 ∷ 0x01 ∷ 0x02 ∷ 0x00 ∷ 0x00
    ∷ 0x00 ∷ 0x00 ∷ 0xff ∷ 0xff ∷ []

-- its page
abbrev pub listing : List ℕ
listing =
    codes "frame;read;LSP1;LSP2;LSP3;LSP4;LSP5;LSP6;LSP7;LSP8;LSP9;LSP10;CBGAIN\n"
    ++ (codes "1;C;383385600;874905600;1366425600;1857945600;2349465600;"
    ++ (codes "2840985600;3332505600;3824025600;4315545600;4807065600;0\n"
    ++ (codes "2;D;393523200;885043200;1376563200;1868083200;2359603200;"
    ++ codes "2851123200;3342643200;3834163200;4325683200;4817203200;-\n")))

-- this is the page of this reel
abbrev pub WorkedListing : Type 0
WorkedListing = PageText listed_reel listing
