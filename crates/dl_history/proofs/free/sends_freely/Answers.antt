use Rattle.std.proofs.Common.{◌≡◌, ◌↔◌, true, FitsSigned, rules}
use Rattle.std.proofs.lemmas.Int.{to_z-of_z}
use mir.Syntax.{w64}
use Rattle.dl_model.specs.Lookup.{composed}
use Rattle.dl_model.specs.Steps.{Sending, IsEnabled, Meets}
use Rattle.dl_history.specs.Taken.{IsSent}
use Rattle.dl_history.proofs.Telling.{told-not, told-never}
use Rattle.dl_history.proofs.free.sends_freely.Goals as goal

pub enabled-requires : goal.enabled-requires
enabled-requires c = c.requires.inst

pub returns-then-not-is_sent : goal.returns-then-not-is_sent
returns-then-not-is_sent c =
    let d = c.args.decls.now in
    let s = c.args.state.now.state in
    told-never (IsSent s c.args.label c.args.reply.now × IsEnabled d.inst s c.args.node c.args.label c.args.tag c.args.to c.args.args.now × Meets d (composed d) s c.args.node (Sending c.args.label c.args.tag c.args.to c.args.args.now))
    (λ h. told-not (IsSent s c.args.label c.args.reply.now) c.is_sent.result c.is_sent.ensures c.if-not-is_sent.true h.0)

pub returns-then-not-enabled : goal.returns-then-not-enabled
returns-then-not-enabled c =
    let d = c.args.decls.now in
    let s = c.args.state.now.state in
    let fits : FitsSigned w64 c.args.to = search rules in
    let told : (c.enabled.result ≡ true) ↔ IsEnabled d.inst s c.args.node c.args.label c.args.tag c.args.to c.args.args.now = simp to_z-of_z at c.enabled.ensures in
    told-never (IsSent s c.args.label c.args.reply.now × IsEnabled d.inst s c.args.node c.args.label c.args.tag c.args.to c.args.args.now × Meets d (composed d) s c.args.node (Sending c.args.label c.args.tag c.args.to c.args.args.now))
    (λ h. told-not (IsEnabled d.inst s c.args.node c.args.label c.args.tag c.args.to c.args.args.now) c.enabled.result told c.if-not-enabled.true h.1)

pub returns : goal.returns
returns c =
    let d = c.args.decls.now in
    let s = c.args.state.now.state in
    let fits : FitsSigned w64 c.args.to = search rules in
    let told : (c.enabled.result ≡ true) ↔ IsEnabled d.inst s c.args.node c.args.label c.args.tag c.args.to c.args.args.now = simp to_z-of_z at c.enabled.ensures in
    let met : (c.meets_hooks.result ≡ true) ↔ Meets d (composed d) s c.args.node (Sending c.args.label c.args.tag c.args.to c.args.args.now) = simp to_z-of_z at c.meets_hooks.ensures in
    record { 0 = λ t. (c.is_sent.ensures.0 c.if-not-is_sent.false, told.0 c.if-not-enabled.false, met.0 t); 1 = λ h. met.1 h.2 }
