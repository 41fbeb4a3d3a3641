use Rattle.std.proofs.Common.{◌<◌, length, rules, Some, ◌∙◌, subst, IsSome}
use Rattle.std.proofs.lemmas.List.Elements.{All-pop}
use Rattle.dl_turn.specs.declared.lock.Seat.{Seat}
use Rattle.dl_turn.specs.Seats.{IsOf, IsOut}
use Rattle.dl_turn.proofs.Keeps.{off}
use Rattle.dl_turn.proofs.ListsLemmas.{StartsWith-grown, entries_of-grown}
use Rattle.dl_turn.proofs.Closing.{all_back, closed_each, some_seat}
use Rattle.dl_turn.proofs.lock.Turn.close.Goals as goal

pub unreachable-requires : goal.unreachable-requires
unreachable-requires g c = let h : 0 < length c.args.seats.items = some_seat _ c.args.seats.items c.args.self.some c.requires.all in off (subst IsSome c.in_default.is (c.pop.ensures.variant.1 (search rules)))

pub gather-requires-clause-last : goal.gather-requires-clause-last
gather-requires-clause-last g c =
    let P : Seat g.row.T.Denot g.row.T-Item.Denot g.row.T-Ground.Denot → Type 0 = λ s. IsOf c.args.self s × IsOut s in
    let out = All-pop P c.args.seats.items c.pop.new.self.items (Some c.in-Some.seat) c.in-Some.ensures.items c.requires.seats in
    (out.1.0.0, out.1.0.1)

pub gather-requires-clause-seats : goal.gather-requires-clause-seats
gather-requires-clause-seats g c =
    let P : Seat g.row.T.Denot g.row.T-Item.Denot g.row.T-Ground.Denot → Type 0 = λ s. IsOf c.args.self s × IsOut s in
    let out = All-pop P c.args.seats.items c.pop.new.self.items (Some c.in-Some.seat) c.in-Some.ensures.items c.requires.seats in
    λ k d b. (let h = out.0 k d b in (h.0.0, h.0.1, h.0.2, h.1))

pub finish-requires-clause-last : goal.finish-requires-clause-last
finish-requires-clause-last g c =
    let P : Seat g.row.T.Denot g.row.T-Item.Denot g.row.T-Ground.Denot → Type 0 = λ s. IsOf c.args.self s × IsOut s in
    let out = All-pop P c.args.seats.items c.pop.new.self.items (Some c.in-Some.seat) c.in-Some.ensures.items c.requires.seats in
    let l = c.gather.ensures.last in
    (l.0 ∙ out.1.0.0, l.1.0 ∙ out.1.0.1, l.1.1 ∙ out.1.1.0)

pub finish-requires-clause-back : goal.finish-requires-clause-back
finish-requires-clause-back g c =
    let P : Seat g.row.T.Denot g.row.T-Item.Denot g.row.T-Ground.Denot → Type 0 = λ s. IsOf c.args.self s × IsOut s in
    let out = All-pop P c.args.seats.items c.pop.new.self.items (Some c.in-Some.seat) c.in-Some.ensures.items c.requires.seats in
    all_back g.T.Book.entries g.T.Book.ground _ c.gather.new.last.me.0 c.args.seats.items _ c.in-Some.seat _ c.in-Some.ensures.items (c.gather.ensures.last.1.2 ∙ out.1.0.2) c.gather.ensures.joined c.requires.all

pub returns-clause-begins : goal.returns-clause-begins
returns-clause-begins g c =
    let P : Seat g.row.T.Denot g.row.T-Item.Denot g.row.T-Ground.Denot → Type 0 = λ s. IsOf c.args.self s × IsOut s in
    let out = All-pop P c.args.seats.items c.pop.new.self.items (Some c.in-Some.seat) c.in-Some.ensures.items c.requires.seats in
    let l = c.gather.ensures.last.1 in
    λ k d b. StartsWith-grown _ _ _ (closed_each g.T.Book.entries g.T.Book.ground _ _ _ _ c.args.seats.items _ c.in-Some.seat _ c.finish.ensures c.in-Some.ensures.items (l.2 ∙ out.1.0.2) l.3 l.4 c.gather.ensures.joined k d b).0

pub returns-clause-own : goal.returns-clause-own
returns-clause-own g c =
    let P : Seat g.row.T.Denot g.row.T-Item.Denot g.row.T-Ground.Denot → Type 0 = λ s. IsOf c.args.self s × IsOut s in
    let out = All-pop P c.args.seats.items c.pop.new.self.items (Some c.in-Some.seat) c.in-Some.ensures.items c.requires.seats in
    let l = c.gather.ensures.last.1 in
    λ k d b. entries_of-grown _ _ _ (closed_each g.T.Book.entries g.T.Book.ground _ _ _ _ c.args.seats.items _ c.in-Some.seat _ c.finish.ensures c.in-Some.ensures.items (l.2 ∙ out.1.0.2) l.3 l.4 c.gather.ensures.joined k d b).0

pub returns-clause-known : goal.returns-clause-known
returns-clause-known g c =
    let P : Seat g.row.T.Denot g.row.T-Item.Denot g.row.T-Ground.Denot → Type 0 = λ s. IsOf c.args.self s × IsOut s in
    let out = All-pop P c.args.seats.items c.pop.new.self.items (Some c.in-Some.seat) c.in-Some.ensures.items c.requires.seats in
    let l = c.gather.ensures.last.1 in
    λ k d b. (closed_each g.T.Book.entries g.T.Book.ground _ _ _ _ c.args.seats.items _ c.in-Some.seat _ c.finish.ensures c.in-Some.ensures.items (l.2 ∙ out.1.0.2) l.3 l.4 c.gather.ensures.joined k d b).1
