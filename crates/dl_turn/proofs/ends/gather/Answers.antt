use Rattle.std.proofs.Common.{rules, ◌≡◌, ◌++◌, ◌∷◌, [], true, Some, ap, sym, ◌∙◌, append_assoc, map}
use Rattle.std.proofs.lemmas.List.Elements.{All-pop}
use Rattle.dl_turn.specs.declared.lock.Seat.{Seat}
use Rattle.dl_turn.specs.Dealt.{claim}
use Rattle.dl_turn.specs.Seats.{IsOut}
use Rattle.dl_turn.proofs.MakerKeeps.{joins}
use Rattle.dl_turn.proofs.ends.gather.Goals as goal

pub join_seat-requires : goal.join_seat-requires
join_seat-requires g c =
    let i = c.loop-seat.invariant in
    let P : Seat g.row.T.Denot g.row.T-Item.Denot g.row.T-Ground.Denot → Type 0 = λ s. (s.token.table_id ≡ c.args.table.now.shared.table_id) × (s.token.me.0.is_live ≡ true) × (s.token.me.0.number ≡ s.number) × IsOut s in
    let out = All-pop P c.loop-seat.seats.items c.pop.new.self.items (Some c.in-Some.seat) c.in-Some.ensures.items i.2 in
    (i.0 ∙ c.requires.last.0, out.1.0, out.1.3.2, search rules, joins _ _ _ _ _ _ _ _ (i.1.0 ∙ c.requires.last.1) out.1.1 out.1.3.0)

pub loop-seat-preserved : goal.loop-seat-preserved
loop-seat-preserved g c =
    let i = c.loop-seat.invariant in
    let e = c.join_seat.ensures in
    let s = c.in-Some.seat in
    let P : Seat g.row.T.Denot g.row.T-Item.Denot g.row.T-Ground.Denot → Type 0 = λ s. (s.token.table_id ≡ c.args.table.now.shared.table_id) × (s.token.me.0.is_live ≡ true) × (s.token.me.0.number ≡ s.number) × IsOut s in
    let out = All-pop P c.loop-seat.seats.items c.pop.new.self.items (Some s) c.in-Some.ensures.items i.2 in
    let more = c.args.last.now.me.0.joined in (
      e.0 ∙ i.0,
      (ap (λ m. m.0.is_live) e.2 ∙ i.1.0, ap (λ m. m.0.is_waiting) e.2 ∙ i.1.1, ap (λ m. m.0.number) e.2 ∙ i.1.2, ap (λ m. m.0.seen) e.2 ∙ i.1.3, ap (λ m. m.0.ground) e.2 ∙ i.1.4),
      out.0,
      (
        s ∷ i.3.0,
        sym (append_assoc c.pop.new.self.items (s ∷ []) i.3.0) ∙ (ap (λ l. l ++ i.3.0) (sym c.in-Some.ensures.items) ∙ i.3.1),
        ap (λ m. m.0.joined) e.2 ∙ (ap (λ l. (s.token.me.0.number, s.token.me.0.seen, s.token.me.0.ground) ∷ l) i.3.2 ∙ ap (λ n. (n, s.token.me.0.seen, s.token.me.0.ground) ∷ (map claim i.3.0 ++ more)) out.1.2),
      ),
    )
