-- The sequents of steps, by what the steps are to keep.
use Rattle.std.specs.Prelude.{ℕ, Bool, true, false, List, [], ◌∷◌, ◌++◌, Option, Some, None}
use Rattle.dl_term.specs.declared.syntax.Term.{Term}
use Rattle.dl_model.specs.declared.sequent.Hypothesis.{Hypothesis}
use Rattle.dl_model.specs.declared.sequent.Sequent.{Sequent}
use Rattle.dl_model.specs.declared.file.Decls.{Decls}
use Rattle.dl_wp.specs.declared.steps.SendStep.{SendStep}
use Rattle.dl_wp.specs.declared.steps.ReceiveStep.{ReceiveStep}
use Rattle.dl_wp.specs.Steps.{send_step, receive_step}
use Rattle.dl_wp.specs.Captures.{captures, nothing_around}
use Rattle.dl_inv.specs.declared.sequents.Home.{Home}
use Rattle.dl_inv.specs.declared.sequents.Claim.{Claim}
use Rattle.dl_inv.specs.Words.{hooks_word}
use Rattle.dl_inv.specs.Joined.{all_of}
use Rattle.dl_inv.specs.Steps.{called, send_by, receive_by, send_hypotheses, receive_hypotheses}
use Rattle.dl_inv.specs.Facts.{facts_of}
use Rattle.dl_inv.specs.Obligations.{send_sequent, receive_sequent}
use Rattle.dl_inv.specs.Code.{world_with, hooks_put}

-- the facts before an invariant
abbrev pub home_facts : Decls → Option Home → List Hypothesis
home_facts decls (Some home) = facts_of decls home.position (world_with home.world)
home_facts decls None = []

-- what a step of the claim may rely on
abbrev pub before_of : Decls → Claim → List Hypothesis
before_of decls claim = home_facts decls claim.home ++ called claim.name claim.formula.now ∷ []

-- the hooks of an invariant's world, in a send with these terms
abbrev pub hooks_in : Decls → ℕ → List Term → Option Home → List Hypothesis
hooks_in decls tag terms (Some home) = called hooks_word (all_of (hooks_put decls home.label tag terms home.world.hooks.now)) ∷ []
hooks_in decls tag terms None = []

-- what is known of a send that is to keep the claim
abbrev pub send_with : Decls → Claim → SendStep → Sequent → Sequent
send_with decls claim step known =
    record known { facts = before_of decls claim ++ (send_hypotheses decls.inst known step ++ hooks_in decls step.tag (step.sender ∷ step.to ∷ step.args) claim.home) }

-- what is known of a receive that is to keep the claim
abbrev pub receive_with : Decls → Claim → ReceiveStep → Sequent → Sequent
receive_with decls claim step known = record known { facts = before_of decls claim ++ receive_hypotheses decls.inst known step }

-- a send keeps the claim
abbrev pub sent : Decls → Claim → ℕ → List ℕ → Sequent
sent decls claim tag names =
    let step = send_by claim.label tag names in
    send_sequent decls.inst claim.own claim.label tag names (before_of decls claim) (hooks_in decls tag (step.sender ∷ step.to ∷ step.args) claim.home) claim.formula.now

-- a receive keeps the claim
abbrev pub received : Decls → Claim → ℕ → List ℕ → Sequent
received decls claim tag names = receive_sequent decls.inst claim.own claim.label tag names (before_of decls claim) claim.formula.now

abbrev pub kept : Decls → Claim → ℕ → Bool → List ℕ → Sequent
kept decls claim tag true names = received decls claim tag names
kept decls claim tag false names = sent decls claim tag names

-- a name of the step is captured in the claim
abbrev pub captured_by : Decls → Claim → ℕ → Bool → List ℕ → Bool
captured_by decls claim tag true names = captures (receive_step decls.inst claim.own (receive_by claim.label tag names)) nothing_around claim.formula.now
captured_by decls claim tag false names = captures (send_step decls.inst claim.own (send_by claim.label tag names)) nothing_around claim.formula.now
