use Rattle.std.proofs.Common.{◌≡◌, take}
use Rattle.lsp.specs.Events.{history}
use Rattle.lsp.specs.Histories.{after, Lawful}
use Rattle.lsp.specs.States.{fresh}
use Rattle.lsp.proofs.histories.replay.Given as goal

abbrev pub invariant-loop-event : goal.invariant-loop-event
invariant-loop-event l =
    (l.memories.grains ≡ after fresh (history (take l.event-index l.events)))
    × Lawful (history (take l.event-index l.events))
