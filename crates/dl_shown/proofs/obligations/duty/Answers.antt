use Rattle.std.proofs.Common.{◌≡◌, sym, subst, IfOk}
use Rattle.dl_shown.specs.Scripts.{duty_of}
use Rattle.dl_shown.proofs.obligations.duty.Goals as goal

pub returns-in-InitProtocol : goal.returns-in-InitProtocol
returns-in-InitProtocol c = subst (λ d. IfOk c.init_protocol.result (λ tree. tree ≡ duty_of c.args.names.now c.args.decls.now d)) (sym c.in-InitProtocol.is) c.init_protocol.ensures

pub returns-in-InitInvariant : goal.returns-in-InitInvariant
returns-in-InitInvariant c = subst (λ d. IfOk c.init_invariant.result (λ tree. tree ≡ duty_of c.args.names.now c.args.decls.now d)) (sym c.in-InitInvariant.is) c.init_invariant.ensures

pub returns-in-StepProtocol : goal.returns-in-StepProtocol
returns-in-StepProtocol c = subst (λ d. IfOk c.step_protocol.result (λ tree. tree ≡ duty_of c.args.names.now c.args.decls.now d)) (sym c.in-StepProtocol.is) c.step_protocol.ensures

pub returns-in-StepInvariant : goal.returns-in-StepInvariant
returns-in-StepInvariant c = subst (λ d. IfOk c.step_invariant.result (λ tree. tree ≡ duty_of c.args.names.now c.args.decls.now d)) (sym c.in-StepInvariant.is) c.step_invariant.ensures

pub returns-in-Start : goal.returns-in-Start
returns-in-Start c = subst (λ d. IfOk c.start.result (λ tree. tree ≡ duty_of c.args.names.now c.args.decls.now d)) (sym c.in-Start.is) c.start.ensures

pub returns-in-Guard : goal.returns-in-Guard
returns-in-Guard c = subst (λ d. IfOk c.at_point.result (λ tree. tree ≡ duty_of c.args.names.now c.args.decls.now d)) (sym c.in-Guard.is) c.at_point.ensures

pub returns-in-AfterSend : goal.returns-in-AfterSend
returns-in-AfterSend c = subst (λ d. IfOk c.at_point-in-AfterSend.result (λ tree. tree ≡ duty_of c.args.names.now c.args.decls.now d)) (sym c.in-AfterSend.is) c.at_point-in-AfterSend.ensures

pub returns-in-Got : goal.returns-in-Got
returns-in-Got c = subst (λ d. IfOk c.at_point-in-Got.result (λ tree. tree ≡ duty_of c.args.names.now c.args.decls.now d)) (sym c.in-Got.is) c.at_point-in-Got.ensures

pub returns-in-Miss : goal.returns-in-Miss
returns-in-Miss c = subst (λ d. IfOk c.at_point-in-Miss.result (λ tree. tree ≡ duty_of c.args.names.now c.args.decls.now d)) (sym c.in-Miss.is) c.at_point-in-Miss.ensures

pub returns-in-AfterRead : goal.returns-in-AfterRead
returns-in-AfterRead c = subst (λ d. IfOk c.at_point-in-AfterRead.result (λ tree. tree ≡ duty_of c.args.names.now c.args.decls.now d)) (sym c.in-AfterRead.is) c.at_point-in-AfterRead.ensures

pub returns-in-Body : goal.returns-in-Body
returns-in-Body c = subst (λ d. IfOk c.at_point-in-Body.result (λ tree. tree ≡ duty_of c.args.names.now c.args.decls.now d)) (sym c.in-Body.is) c.at_point-in-Body.ensures

pub returns-in-Exit : goal.returns-in-Exit
returns-in-Exit c = subst (λ d. IfOk c.at_point-in-Exit.result (λ tree. tree ≡ duty_of c.args.names.now c.args.decls.now d)) (sym c.in-Exit.is) c.at_point-in-Exit.ensures

pub returns-in-Enter : goal.returns-in-Enter
returns-in-Enter c = subst (λ d. IfOk c.at_point-in-Enter.result (λ tree. tree ≡ duty_of c.args.names.now c.args.decls.now d)) (sym c.in-Enter.is) c.at_point-in-Enter.ensures

pub returns-in-Leave : goal.returns-in-Leave
returns-in-Leave c = subst (λ d. IfOk c.at_point-in-Leave.result (λ tree. tree ≡ duty_of c.args.names.now c.args.decls.now d)) (sym c.in-Leave.is) c.at_point-in-Leave.ensures

pub returns-in-Stable : goal.returns-in-Stable
returns-in-Stable c = subst (λ d. IfOk c.under_step.result (λ tree. tree ≡ duty_of c.args.names.now c.args.decls.now d)) (sym c.in-Stable.is) c.under_step.ensures

pub returns-in-Frame : goal.returns-in-Frame
returns-in-Frame c = subst (λ d. IfOk c.under_step-in-Frame.result (λ tree. tree ≡ duty_of c.args.names.now c.args.decls.now d)) (sym c.in-Frame.is) c.under_step-in-Frame.ensures

pub returns-in-Deploy : goal.returns-in-Deploy
returns-in-Deploy c = subst (λ d. IfOk c.deployed.result (λ tree. tree ≡ duty_of c.args.names.now c.args.decls.now d)) (sym c.in-Deploy.is) c.deployed.ensures
