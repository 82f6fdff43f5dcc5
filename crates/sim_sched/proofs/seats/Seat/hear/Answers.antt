use Rattle.std.proofs.Common.{◌≡◌, ◌∙◌, sym, true, false, Result, Ok, Err, ap, subst}
use Rattle.bft_verify.specs.Admitted.{Admitted}
use Rattle.bft_verify.specs.declared.refusals.Refusal.{Refusal}
use Rattle.run_words.specs.declared.logs.Pending.{Pending}
use Rattle.run_words.specs.declared.party.Act.{Act}
use Rattle.run_words.specs.Journal.{reads}
use Rattle.copy_reader.specs.Reading.{IsRead}
use Rattle.sim_sched.specs.Seats.{seen, seat_heard, is_read}
use Rattle.sim_sched.proofs.SeatFacts.{seat, same_copy, does_of, stays_open, heard, refused}
use Rattle.sim_sched.proofs.seats.Seat.hear.Goals as goal

pub act-requires : goal.act-requires
act-requires g c =
    let r = subst (λ (x : Result Admitted Refusal). IsRead c.args.reader.now.members.now c.args.reader.now.ring.now c.as_slice.result.now x)
    c.in-Ok.is c.in_ok-message.ensures in
    (r.0 ∙ sym c.requires.made.0, r.1 ∙ sym c.requires.made.1)

pub returns-in-Ok : goal.returns-in-Ok
returns-in-Ok g c =
    λ k e.
    let made = g.P.Party.made in
    let journal = g.P.Party.journal in
    let s = c.args.self.now in
    let m = made s.party in
    let copy = c.remove-copy.result in
    let v = c.in-Ok.message in
    let same : copy ≡ k = same_copy s.way.items c.args.place copy k c.requires.there c.remove-copy.ensures.value e in
    let r = subst (λ (x : Result Admitted Refusal). IsRead c.args.reader.now.members.now c.args.reader.now.ring.now c.as_slice.result.now x)
    c.in-Ok.is c.in_ok-message.ensures in
    let q : reads m copy.load ≡ Ok v.message = ap (reads m) (sym c.as_slice.ensures) ∙ r.2 m c.requires.made in
    let d = does_of _ _ (Act.Hear copy.origin v) _ _ c.in_default.not-NoMemory c.act.ensures.acted in
    let o = stays_open (Act.Hear copy.origin v) _ _ _ c.in_default.not-NoMemory c.act.ensures.open in
    let h = heard m _ (journal s.party) (journal c.act.new.self) c.args.place copy v _ (g.P.Party.shut s.party) _ s.way.items s.refused
    c.act.ensures.made c.requires.open o q d in
    let P : Pending → Type 0 = λ x.
    (seat (made c.act.new.self) (journal c.act.new.self) (g.P.Party.shut c.act.new.self) c.remove-copy.new.self.items s.refused
    ≡ seat_heard c.args.place x (seen made journal g.P.Party.shut s))
    × (true ≡ is_read (reads m x.load)) in
    subst P same (
      ap (λ l. seat (made c.act.new.self) (journal c.act.new.self) (g.P.Party.shut c.act.new.self) l s.refused) c.remove-copy.ensures.items
          ∙ h,
      sym (ap is_read q),
    )

pub returns : goal.returns
returns g c =
    λ k e.
    let made = g.P.Party.made in
    let journal = g.P.Party.journal in
    let s = c.args.self.now in
    let m = made s.party in
    let copy = c.remove-copy.result in
    let same : copy ≡ k = same_copy s.way.items c.args.place copy k c.requires.there c.remove-copy.ensures.value e in
    let r = subst (λ (x : Result Admitted Refusal). IsRead c.args.reader.now.members.now c.args.reader.now.ring.now c.as_slice.result.now x)
    c.in-Err.is c.in_ok-message.ensures in
    let q : reads m copy.load ≡ Err c.in-Err.refusal = ap (reads m) (sym c.as_slice.ensures) ∙ r m c.requires.made in
    let h = refused m (journal s.party) c.args.place copy c.in-Err.refusal (g.P.Party.shut s.party) s.way.items
    c.remove-copy.new.self.items s.refused (seen made journal g.P.Party.shut c.note.new.self) c.remove-copy.ensures.items
    c.in_ok-note-in-Err.ensures q in
    let P : Pending → Type 0 = λ x.
    (seen made journal g.P.Party.shut c.note.new.self ≡ seat_heard c.args.place x (seen made journal g.P.Party.shut s))
    × (false ≡ is_read (reads m x.load)) in
    subst P same (h, sym (ap is_read q))
