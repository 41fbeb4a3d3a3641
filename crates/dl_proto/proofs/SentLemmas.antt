-- What a send keeps, and what it adds.
use Rattle.std.proofs.Common.{◌≡◌, ◌<◌, ◌+◌, ℕ, ℤ, true, List, length, ap, sym, subst, ◌∙◌}
use Rattle.std.proofs.lemmas.List.{length_push}
use Rattle.dl_term.specs.State.{State, Statelet, soup_at}
use Rattle.dl_model.specs.declared.protocol.Instances.{Instances}
use Rattle.dl_model.specs.Lookup.{tag_at}
use Rattle.dl_model.specs.Steps.{names_of_send, statelet_sent, after_send}
use Rattle.dl_proto.specs.Shaped.{IsShaped}
use Rattle.dl_proto.proofs.UpdateLemmas.{updates-shaped, written-is}
use Rattle.dl_proto.proofs.StepLemmas.{label-known}

pub sent-shaped : (inst : Instances) (s after : State) (from label tag : ℕ) (to : ℤ) (args : List ℤ) → after ≡ after_send inst s from label tag to args → IsShaped inst s → IsShaped inst after
sent-shaped inst s after from label tag to args e h =
    subst (IsShaped inst) (sym e)
    (updates-shaped inst s s label from (names_of_send inst label tag from to args) (tag_at inst label tag).send.updates (statelet_sent inst s from label tag to args).soup h)

pub sent-longer : (inst : Instances) (s after : State) (from label tag : ℕ) (to : ℤ) (args : List ℤ) → after ≡ after_send inst s from label tag to args → IsShaped inst s → label < length inst.of
    → length (soup_at after label) ≡ length (soup_at s label) + 1
sent-longer inst s after from label tag to args e h l =
    ap (λ (t : State). length (soup_at t label)) e
    ∙ ap (λ (t : Statelet). length t.soup) (written-is s label (statelet_sent inst s from label tag to args) (label-known inst s label h l))
    ∙ length_push (soup_at s label) (record { tag = tag; from = from; to = to; live = true; args = args })
