-- What formed declarations give of a tag, a hook and a coherence.
use Rattle.std.proofs.Common.{◌≡◌, ℕ, Option, Some, None, List, [], ◌∷◌, slice_get, unwrap_or, refl, subst, arith}
use Rattle.dl_term.specs.declared.syntax.Formula.{Formula, True}
use Rattle.dl_model.specs.declared.protocol.Transition.{Transition}
use Rattle.dl_model.specs.declared.protocol.Protocol.{Protocol}
use Rattle.dl_model.specs.declared.protocol.Hook.{Hook}
use Rattle.dl_model.specs.declared.protocol.Instances.{Instances}
use Rattle.dl_model.specs.declared.file.Decls.{Decls}
use Rattle.dl_model.specs.Lookup.{protocol_at, no_tag, never, hook_at}
use Rattle.dl_model.specs.Words.{me_word, to_word}
use Rattle.dl_model.specs.Scopes.{own_label, hook_label, FormulaIsKnown}
use Rattle.dl_model.specs.Formed.{IsLocalFormula, CoherenceIsFormed, HookIsFormed, InstancesAreFormed, IsFormed, TagIsFormed, TransitionIsFormed, ReceiveIsFormed}
use Rattle.dl_model.proofs.Small.{each-map}
use Rattle.dl_model.proofs.Sorted.{protocol-has}
use Rattle.dl_wp.specs.Steps.{tag_in}
use Rattle.dl_inv.proofs.Lists.{each-get}

no-tag-formed : (protocol : Protocol) → TagIsFormed protocol no_tag
no-tag-formed protocol = record {
  args = (omega arith, tt);
  names = record { distinct = tt; allowed = tt };
  send = record { guard = ((tt, tt), refl); updates = tt; once = tt };
  receive = tt;
}

pub tag-formed : (inst : Instances) (p : ℕ) (protocol : Protocol) (tag : ℕ) → InstancesAreFormed inst → slice_get inst.protocols p ≡ Some protocol → TagIsFormed protocol (tag_in (Some protocol) tag)
tag-formed inst p protocol tag formed there = each-get (TagIsFormed protocol) protocol.tags tag no_tag (no-tag-formed protocol) (formed.protocols p protocol there).tags

pub receive-formed : (protocol : Protocol) (variables : List ℕ) (o : Option Transition) → ReceiveIsFormed protocol variables o → TransitionIsFormed protocol variables (unwrap_or o never)
receive-formed protocol variables (Some transition) h = h
receive-formed protocol variables None h = record { guard = ((tt, tt), refl); updates = tt; once = tt }

pub hook-local : (d : Decls) → IsFormed d → (hook : ℕ) → IsLocalFormula (hook_label d.inst (hook_at d hook)) (me_word ∷ to_word ∷ (hook_at d hook).args) (hook_at d hook).formula
hook-local d formed hook = each-get (λ (h : Hook). IsLocalFormula (hook_label d.inst h) (me_word ∷ to_word ∷ h.args) h.formula) d.hooks hook
    (record { sym = 0; core = 0; client = 0; tag = 0; args = []; formula = True }) ((tt, tt), refl) (each-map (HookIsFormed d.inst) _ d.hooks formed.hooks (λ h k. k.formula))

pub coherence-known : (inst : Instances) → InstancesAreFormed inst → (label : ℕ) (f : Formula) → (protocol_at inst label).coherence ≡ Some f
    → (protocol : Protocol) × FormulaIsKnown (record { protocol = own_label protocol; variables = []; messages = [] }) f
coherence-known inst h label = protocol-has inst (λ protocol. (f : Formula) → protocol.coherence ≡ Some f → (p : Protocol) × FormulaIsKnown (record { protocol = own_label p; variables = []; messages = [] }) f) (λ f e. cc)
    (λ p protocol e f q. (protocol, (subst (CoherenceIsFormed protocol) q (h.protocols p protocol e).coherence).0)) (slice_get inst.of label)
