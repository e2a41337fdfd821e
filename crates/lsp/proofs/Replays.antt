-- One more event of the code is one more event in front of the history.
use Rattle.std.proofs.Common.{◌≡◌, ℕ, ◌+◌, ◌<◌, List, [], ◌∷◌, map, reverse, length, get_or, take, ℤ, sym, ap, ◌∙◌, subst}
use Rattle.std.proofs.lemmas.List.{map_more, reverse-append}
use Rattle.lsp.specs.declared.histories.Event.{Event}
use Rattle.lsp.specs.declared.histories.Event.TheVariants.{Packet, Erasure, Blank, Restart}
use Rattle.lsp.specs.Histories.{Event as PlainEvent, Lawful, after}
use Rattle.lsp.specs.Events.{event_of, history}
use Rattle.lsp.proofs.Runs.{after-++}

pub history_more : (xs : List Event) (i : ℕ) (a : Event) → i < length xs → a ≡ get_or xs i a → history (take (i + 1) xs) ≡ event_of a ∷ history (take i xs)
history_more xs i a h e =
    ap reverse (map_more event_of xs i a h)
    ∙ reverse-append (map event_of (take i xs)) (event_of (get_or xs i a) ∷ [])
    ∙ ap (λ x. event_of x ∷ history (take i xs)) (sym e)

-- the memories r after one more event a, from the memories n before it
pub after_more : (xs : List Event) (i : ℕ) (a : Event) (m n r : List ℤ) → i < length xs → a ≡ get_or xs i a → n ≡ after m (history (take i xs)) → r ≡ after n (event_of a ∷ []) → r ≡ after m (history (take (i + 1) xs))
after_more xs i a m n r h e p q =
    let past = history (take i xs) in
    q
    ∙ ap (λ (k : List ℤ). after k (event_of a ∷ [])) p
    ∙ sym (after-++ m (event_of a ∷ []) past)
    ∙ ap (after m) (sym (history_more xs i a h e))

-- the codes of a packet are within their rate, by its type
pub lawful_event : (a : Event) (past : List PlainEvent) → Lawful past → Lawful (event_of a ∷ past)
lawful_event (Packet codes) past h = (codes.within, h)
lawful_event Erasure past h = h
lawful_event Blank past h = h
lawful_event Restart past h = h

pub lawful_more : (xs : List Event) (i : ℕ) (a : Event) → i < length xs → a ≡ get_or xs i a → Lawful (history (take i xs)) → Lawful (history (take (i + 1) xs))
lawful_more xs i a h e l = subst Lawful (sym (history_more xs i a h e)) (lawful_event a (history (take i xs)) l)
