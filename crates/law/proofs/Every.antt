-- Every run keeps the law.
use Rattle.std.proofs.Common.{◌≡◌, ℕ, List, [], ◌∷◌, ◌++◌, length, refl, sym, ap, ◌∙◌, subst}
use Rattle.lsp.specs.Histories.{Event, after, blank, erasure, packet as packet_event, restart}
use Rattle.lsp.specs.States.{fresh}
use Rattle.packet.specs.Codes.{Within}
use Rattle.rules.specs.Ends.{Taken}
use Rattle.rules.specs.Links.{Link}
use Rattle.rules.specs.Sending.{Sent}
use Rattle.law.specs.Runs.{CallMade, New, Run, Step, now, events_at, the_receiver, the_sender}
use Rattle.law.specs.Law.{EveryRun, EveryRunCarries, EveryRunThroughout, EveryStepCarries, AtMostFourChanged, GuardedBitsHold, Law, RunsJoin}
use Rattle.law.specs.Keeping.{EveryRunKeeps, Kept, MadeLinksAreNew}
use Rattle.law.proofs.Agreement.{agree}
use Rattle.law.proofs.Facts.{IsPacket, WasRead, packet_facts, sent_facts, taken_facts}
use Rattle.law.proofs.Guarding.{guarded_bits_hold}
use Rattle.law.proofs.Keeping.{arrivals_kept, places_kept, seed_kept, to_come_kept}
use Rattle.law.proofs.Sent.{ten_length}
use Rattle.law.proofs.Steps.{receiver_moves, sender_moves}
use Rattle.law.proofs.Timeline.{held, in_range, rounded, spans}

-- there are always ten memories
ten_after : (events : List Event) → length (after fresh events) ≡ 10
ten_after [] = ten_length _
ten_after (packet_event rate codes ∷ events) = ten_length _
ten_after (erasure ∷ events) = ten_length _
ten_after (blank ∷ events) = ten_after events
ten_after (restart ∷ events) = ten_length _

module _ (s : Link) (new : New s) (h : List CallMade) (r : Run s h) where
  sender_new : s.sender.memories ≡ fresh
  sender_new = ap (λ e. e.memories) new.sender

  receiver_new : s.receiver.memories ≡ fresh
  receiver_new = ap (λ e. e.memories) new.receiver

  guarded_bits : (n : ℕ) (f : Sent) (x : Taken) → AtMostFourChanged h n f x → GuardedBitsHold f x
  guarded_bits n f x w =
      let pair = w.pair in
      let p = packet_facts f (subst IsPacket w.frame (sent_facts s h new r n pair.sent pair.is_sent)) in
      let q = subst WasRead w.arrival (taken_facts s h new r n pair.taken pair.is_taken) in
      guarded_bits_hold f x w.rate (subst (λ rate. Within rate f.codes) w.rate p.0) p.1 q.lawful q.read w.category w.few

  law : Law s h
  law = record {
    guarded_bits = guarded_bits;
    sender_rounded = rounded the_sender sender_moves s sender_new h r;
    receiver_rounded = rounded the_receiver receiver_moves s receiver_new h r;
    agreement = agree h _ _ _ _ (spans the_sender sender_moves s sender_new h r) (spans the_receiver receiver_moves s receiver_new h r);
  }

  kept : Kept (now s h)
  kept =
      let a = arrivals_kept s h new r in
      record {
        sender = (in_range the_sender sender_moves s sender_new h r, ap length (held the_sender sender_moves s sender_new h r) ∙ ten_after (events_at the_sender h));
        receiver = (in_range the_receiver receiver_moves s receiver_new h r, ap length (held the_receiver receiver_moves s receiver_new h r) ∙ ten_after (events_at the_receiver h));
        seed = seed_kept s h new r;
        waiting = a.line.waiting;
        supply = to_come_kept (now s h).source (now s h).line a.line a.supply;
      }

pub every_run : EveryRun
every_run s h new r = law s new h r

pub every_run_throughout : EveryRunThroughout
every_run_throughout s [] new r = every_run s [] new r
every_run_throughout s (m ∷ h) new r = (every_run s (m ∷ h) new r, every_run_throughout s h new r.1)

pub every_run_keeps : EveryRunKeeps
every_run_keeps = record { link = λ s h new r. kept s new h r; line = places_kept }

pub made_links_are_new : MadeLinksAreNew
made_links_are_new line source waiting to_come = record { sender = refl; receiver = refl; waiting = waiting; supply = to_come }

pub carried : EveryStepCarries
carried t u c p = record {
  step = p;
  goes_on = λ s h new r q.
      let p' : Step (now s h) c u = subst (λ y. Step y c u) (sym q) p in
      ((p', r), every_run_throughout s (record { call = c; link = u } ∷ h) new (p', r));
}

now_join : (s : Link) (h h' : List CallMade) → now s (h' ++ h) ≡ now (now s h) h'
now_join s h [] = refl
now_join s h (m ∷ h') = refl

pub join : RunsJoin
join s h [] r r' = (r, refl)
join s h (m ∷ h') r r' = ((subst (λ y. Step y m.call m.link) (sym (now_join s h h')) r'.0, (join s h h' r r'.1).0), refl)

pub carried_over : EveryRunCarries
carried_over t h r = record {
  run = r;
  link = refl;
  goes_on = λ s g new q is.
      let r' : Run (now s g) h = subst (λ l. Run l h) (sym is) r in
      let whole = (join s g h q r').0 in
      (whole, every_run_throughout s (h ++ g) new whole);
}
