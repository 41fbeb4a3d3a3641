use Rattle.std.proofs.Common.{rules, ◌≡◌, [], ◌∷◌, List, pos, ◌∙◌, ap}
use Rattle.dl_model.specs.Lookup.{proc_at}
use Rattle.dl_model.specs.Machine.{Working, entry_names}
use Rattle.dl_prog.specs.declared.stack.Step.{Step}
use Rattle.dl_prog.specs.declared.stack.Step.TheVariants.{Enter}
use Rattle.dl_prog.specs.Stack.{Path}
use Rattle.dl_prog.specs.Slots.{named}
use Rattle.dl_prog.specs.Places.{machine_in}
use Rattle.dl_prog.proofs.PlaceLemmas.{blocks-done}
use Rattle.dl_prog.proofs.cont.Cont.make.Goals as goal

pub returns-clause-machine : goal.returns-clause-machine
returns-clause-machine c =
    let procs = c.args.procs.now in
    let slots = c.entry_slots-slots.result in
    let body = (proc_at procs c.args.proc).body in
    let path : c.push.new.self.items ≡ Enter c.args.proc 0 c.no_slots.result ∷ [] =
    ap (λ (p : Path). p.items) c.push.ensures ∙ ap (λ (p : Path). Enter c.args.proc 0 c.no_slots.result ∷ p.items) c.in_ok-steps.ensures in
    let names : named slots ≡ entry_names (proc_at procs c.args.proc) (pos c.args.node) c.args.args.now = search rules in
    ap (λ (steps : List Step). machine_in procs steps 0 slots) path
    ∙ (λ i. Working (record { proc = c.args.proc; left = blocks-done body i; names = names i }) [])
