use Rattle.std.proofs.Common.{◌≡◌, ◌↔◌, true, ℤ, List, FitsSigned, rules, sym, subst}
use Rattle.std.proofs.lemmas.Int.{to_z-of_z}
use mir.Syntax.{w64}
use Rattle.dl_model.specs.declared.history.Call.{Call}
use Rattle.dl_model.specs.Lookup.{composed}
use Rattle.dl_model.specs.Steps.{Sending, IsEnabled, Meets}
use Rattle.dl_history.specs.Taken.{IsSent, IsFreeTo}
use Rattle.dl_history.proofs.free.is_allowed.Goals as goal

pub returns-in-Send : goal.returns-in-Send
returns-in-Send c =
    let d = c.args.decls.now in
    let s = c.args.state.now.state in
    let node = c.args.node in
    let reply = c.args.reply.now in
    let label = c.in-Send.label in
    let tag = c.in-Send.tag in
    let to = c.in-Send.to in
    let fits : FitsSigned w64 to = search rules in
    let told : (c.sends_freely.result ≡ true) ↔ (IsSent s label reply × IsEnabled d.inst s node label tag to c.listed.result.now × Meets d (composed d) s node (Sending label tag to c.listed.result.now)) =
    simp to_z-of_z at c.sends_freely.ensures in
    subst (λ (call : Call). (c.sends_freely.result ≡ true) ↔ IsFreeTo d s node call reply) (sym c.in-Send.is)
    (subst (λ (vs : List ℤ). (c.sends_freely.result ≡ true) ↔ (IsSent s label reply × IsEnabled d.inst s node label tag to vs × Meets d (composed d) s node (Sending label tag to vs))) c.listed.ensures told)

pub is_receipt-requires : goal.is_receipt-requires
is_receipt-requires c = c.requires.inst

pub returns-in-Poll : goal.returns-in-Poll
returns-in-Poll c = subst (λ (call : Call). (c.is_receipt.result ≡ true) ↔ IsFreeTo c.args.decls.now c.args.state.now.state c.args.node call c.args.reply.now) (sym c.in-Poll.is) c.is_receipt.ensures
