use Rattle.std.proofs.Common.{◌≡◌, ◌++◌, ◌∷◌, [], length, ap, arith, ◌∙◌, length-append}
use Rattle.dl_inv.specs.Joined.{nested}
use Rattle.dl_inv.proofs.Building.{onto-popped, where-ok}
use Rattle.dl_inv.proofs.joined.+join_onto.Goals as goal

pub join_onto-requires : goal.join_onto-requires
join_onto-requires t c = (omega (arith, simp length-append at (ap length c.in-Some.ensures)), tt)

pub returns-in_ok-joined-in-Some : goal.returns-in_ok-joined-in-Some
returns-in_ok-joined-in-Some t c =
    where-ok c.join_onto.result (λ made. made ≡ nested (c.pop.new.self ++ c.in_ok-joined-in-Some.joined ∷ [])) (λ made. made ≡ nested (c.args.parts.now ++ c.args.last ∷ [])) c.join_onto.ensures
    (λ made e. e ∙ onto-popped c.args.parts.now c.pop.new.self c.in-Some.part c.args.last c.in_ok-joined-in-Some.joined c.in-Some.ensures c.in_ok-joined-in-Some.ensures)
