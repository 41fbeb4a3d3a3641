use Rattle.std.proofs.Common.{◌≡◌, ◌+◌, ◌++◌, ℕ, List, ap, sym, ◌∙◌, arith, rules}
use Rattle.dl_model.specs.declared.program.Command.{Command, the_lemmas}
use Rattle.dl_sequent.specs.declared.duty.Duty.{Duty}
use Rattle.dl_triples.specs.Commands.{command_points, points_of_commands, duties_of_command, duties_of_commands}
use Rattle.dl_triples.specs.Duties.{duties_of_loop}
use Rattle.dl_triples.proofs.Running.{if-points, while-points, if-duties, while-duties}
use Rattle.dl_inv.proofs.Listing.{joined}
use Rattle.dl_duties.proofs.Listing.{where-given, where-number}
use Rattle.dl_duties.proofs.listed.+commands.Goals as goal

-- ---- the sides of a choice

pub add_of_command-add_of_commands-requires : goal.add_of_command-add_of_commands-requires
add_of_command-add_of_commands-requires t c =
    let are : command_points c.args.command.now ≡ points_of_commands c.in-If.yes + points_of_commands c.in-If.no = ap command_points c.in-If.is ∙ if-points c.in-If.test c.in-If.yes c.in-If.no in
    let one : points_of_commands c.as_slice.result.now ≡ points_of_commands c.in-If.yes = ap points_of_commands c.as_slice.ensures in
    (search (rules, the_lemmas), (omega (arith, are, one, c.requires.few), c.requires.formed))

pub add_of_command-add_of_commands-requires-in-If : goal.add_of_command-add_of_commands-requires-in-If
add_of_command-add_of_commands-requires-in-If t c =
    let are : command_points c.args.command.now ≡ points_of_commands c.in-If.yes + points_of_commands c.in-If.no = ap command_points c.in-If.is ∙ if-points c.in-If.test c.in-If.yes c.in-If.no in
    let one : points_of_commands c.as_slice.result.now ≡ points_of_commands c.in-If.yes = ap points_of_commands c.as_slice.ensures in
    let two : points_of_commands c.as_slice-in-If.result.now ≡ points_of_commands c.in-If.no = ap points_of_commands c.as_slice-in-If.ensures in
    (search (rules, the_lemmas), (omega (arith, are, one, two, c.in_ok-next-in-If.ensures.next, c.requires.few), c.requires.formed))

pub add_of_command-returns-in_ok-next-in-If-clause-added : goal.add_of_command-returns-in_ok-next-in-If-clause-added
add_of_command-returns-in_ok-next-in-If-clause-added t c =
    let d = c.args.decls.now in
    let n = c.args.number in
    let p = c.args.point in
    let yes = c.in-If.yes in
    let no = c.in-If.no in
    let now = c.args.list.now in
    let one : List Duty = duties_of_commands d n p c.as_slice.result.now in
    let two : List Duty = duties_of_commands d n c.in_ok-next-in-If.next c.as_slice-in-If.result.now in
    let left : one ≡ duties_of_commands d n p yes = ap (λ (cs : List Command). duties_of_commands d n p cs) c.as_slice.ensures in
    let place : c.in_ok-next-in-If.next ≡ p + points_of_commands yes = c.in_ok-next-in-If.ensures.next ∙ ap (λ (cs : List Command). p + points_of_commands cs) c.as_slice.ensures in
    let right : two ≡ duties_of_commands d n (p + points_of_commands yes) no =
    ap (λ (k : ℕ). duties_of_commands d n k c.as_slice-in-If.result.now) place ∙ ap (λ (cs : List Command). duties_of_commands d n (p + points_of_commands yes) cs) c.as_slice-in-If.ensures in
    let is : one ++ two ≡ duties_of_command d n p c.args.command.now =
    ap (λ (xs : List Duty). xs ++ two) left ∙ (ap (λ (xs : List Duty). duties_of_commands d n p yes ++ xs) right
    ∙ (sym (if-duties d n p c.in-If.test yes no) ∙ ap (λ (x : Command). duties_of_command d n p x) (sym c.in-If.is))) in
    where-given c.add_of_commands-in-If.result (c.add_of_commands-in-If.new.list ≡ c.add_of_commands.new.list ++ two) (c.add_of_commands-in-If.new.list ≡ now ++ duties_of_command d n p c.args.command.now)
    c.add_of_commands-in-If.ensures.added
    (λ e. joined now one two c.add_of_commands.new.list c.add_of_commands-in-If.new.list c.in_ok-next-in-If.ensures.added e ∙ ap (λ (xs : List Duty). now ++ xs) is)

pub add_of_command-returns-in_ok-next-in-If-clause-next : goal.add_of_command-returns-in_ok-next-in-If-clause-next
add_of_command-returns-in_ok-next-in-If-clause-next t c =
    let are : command_points c.args.command.now ≡ points_of_commands c.in-If.yes + points_of_commands c.in-If.no = ap command_points c.in-If.is ∙ if-points c.in-If.test c.in-If.yes c.in-If.no in
    let one : points_of_commands c.as_slice.result.now ≡ points_of_commands c.in-If.yes = ap points_of_commands c.as_slice.ensures in
    let two : points_of_commands c.as_slice-in-If.result.now ≡ points_of_commands c.in-If.no = ap points_of_commands c.as_slice-in-If.ensures in
    where-number c.add_of_commands-in-If.result (c.in_ok-next-in-If.next + points_of_commands c.as_slice-in-If.result.now) (c.args.point + command_points c.args.command.now)
    (omega (arith, are, one, two, c.in_ok-next-in-If.ensures.next)) c.add_of_commands-in-If.ensures.next

-- ---- the body of a loop

pub add_of_command-add_of_commands-requires-in-While : goal.add_of_command-add_of_commands-requires-in-While
add_of_command-add_of_commands-requires-in-While t c =
    let are : command_points c.args.command.now ≡ 1 + points_of_commands c.in-While.body = ap command_points c.in-While.is ∙ while-points c.in-While.test c.in-While.note c.in-While.body in
    let one : points_of_commands c.as_slice-in-While.result.now ≡ points_of_commands c.in-While.body = ap points_of_commands c.as_slice-in-While.ensures in
    (search (rules, the_lemmas), (omega (arith, are, one, c.requires.few), c.requires.formed))

pub add_of_command-returns-in_ok-add_of_loop-in-While-clause-added : goal.add_of_command-returns-in_ok-add_of_loop-in-While-clause-added
add_of_command-returns-in_ok-add_of_loop-in-While-clause-added t c =
    let d = c.args.decls.now in
    let n = c.args.number in
    let p = c.args.point in
    let note = c.in-While.note in
    let body = c.in-While.body in
    let now = c.args.list.now in
    let one : List Duty = duties_of_loop d n p note in
    let two : List Duty = duties_of_commands d n (p + 1) c.as_slice-in-While.result.now in
    let right : two ≡ duties_of_commands d n (p + 1) body = ap (λ (cs : List Command). duties_of_commands d n (p + 1) cs) c.as_slice-in-While.ensures in
    let is : one ++ two ≡ duties_of_command d n p c.args.command.now =
    ap (λ (xs : List Duty). one ++ xs) right ∙ (sym (while-duties d n p c.in-While.test note body) ∙ ap (λ (x : Command). duties_of_command d n p x) (sym c.in-While.is)) in
    where-given c.add_of_commands-in-While.result (c.add_of_commands-in-While.new.list ≡ c.add_of_loop.new.list ++ two) (c.add_of_commands-in-While.new.list ≡ now ++ duties_of_command d n p c.args.command.now)
    c.add_of_commands-in-While.ensures.added
    (λ e. joined now one two c.add_of_loop.new.list c.add_of_commands-in-While.new.list c.in_ok-add_of_loop-in-While.ensures e ∙ ap (λ (xs : List Duty). now ++ xs) is)

pub add_of_command-returns-in_ok-add_of_loop-in-While-clause-next : goal.add_of_command-returns-in_ok-add_of_loop-in-While-clause-next
add_of_command-returns-in_ok-add_of_loop-in-While-clause-next t c =
    let are : command_points c.args.command.now ≡ 1 + points_of_commands c.in-While.body = ap command_points c.in-While.is ∙ while-points c.in-While.test c.in-While.note c.in-While.body in
    let one : points_of_commands c.as_slice-in-While.result.now ≡ points_of_commands c.in-While.body = ap points_of_commands c.as_slice-in-While.ensures in
    where-number c.add_of_commands-in-While.result (c.args.point + 1 + points_of_commands c.as_slice-in-While.result.now) (c.args.point + command_points c.args.command.now)
    (omega (arith, are, one)) c.add_of_commands-in-While.ensures.next
