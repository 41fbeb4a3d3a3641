-- The states that a history passes through, with its waits and without them.
use Rattle.std.proofs.Common.{◌≡◌, ℕ, ◌+◌, Bool, true, false, List, [], ◌∷◌, refl, ap, sym, ◌∙◌, cond, inl, inr}
use Rattle.dl_term.specs.State.{State}
use Rattle.dl_model.specs.declared.history.Entry.{Entry}
use Rattle.dl_model.specs.declared.protocol.Instances.{Instances}
use Rattle.dl_model.specs.declared.file.Decls.{Decls}
use Rattle.dl_model.specs.Runs.{Config, Event, Leads, state_after}
use Rattle.dl_model.specs.Histories.{is_wait, with_ticks, condensed_from, condensed}
use Rattle.dl_history.specs.Passed.{state_past, state_through, states_past, states_kept}
use Rattle.dl_history.proofs.Histories.{no-move}

event-past : (d : Decls) (before : Config) (e : Entry) (after : Config) → Event d before e after → after.state ≡ state_past d.inst before.state e
event-past d before e after h = elim h.acts [ inl p ↦ p.state | inr f ↦ f.state ]

pub leads-through : (d : Decls) (es : List Entry) (before after : Config) → Leads d before es after → after.state ≡ state_through d.inst before.state es
leads-through d [] before after l = ap (λ c. c.state) (sym l)
leads-through d (e ∷ es) before after (mid, event, l) = leads-through d es mid after l ∙ ap (λ s. state_through d.inst s es) (event-past d before e mid event)

-- a wait changes nothing
wait-past : (inst : Instances) (s : State) (e : Entry) → is_wait e ≡ true → state_past inst s e ≡ s
wait-past inst s e w = ap (state_after inst s e.node) (no-move e.call e.reply w)

abbrev KeptFrom : Instances → List Entry → Type 0
KeptFrom inst es = (s : State) (ticks : ℕ → ℕ) → states_past inst s (condensed_from ticks es) ≡ states_kept inst s es

kept-step : (inst : Instances) (e : Entry) (es : List Entry) (s : State) (ticks : ℕ → ℕ) → KeptFrom inst es → (b : Bool) → is_wait e ≡ b →
    states_past inst s (cond b (condensed_from (with_ticks ticks e.node (ticks e.node + e.ticks)) es)
    (record { node = e.node; ticks = ticks e.node + e.ticks; call = e.call; reply = e.reply } ∷ condensed_from (with_ticks ticks e.node 0) es))
    ≡ cond b (states_kept inst (state_past inst s e) es) (state_past inst s e ∷ states_kept inst (state_past inst s e) es)
kept-step inst e es s ticks more true w =
    more s (with_ticks ticks e.node (ticks e.node + e.ticks)) ∙ ap (λ k. states_kept inst k es) (sym (wait-past inst s e w))
kept-step inst e es s ticks more false w = ap (λ ss. state_past inst s e ∷ ss) (more (state_past inst s e) (with_ticks ticks e.node 0))

kept-from : (inst : Instances) (es : List Entry) → KeptFrom inst es
kept-from inst [] s ticks = refl
kept-from inst (e ∷ es) s ticks = kept-step inst e es s ticks (kept-from inst es) (is_wait e) refl

pub kept-states : (inst : Instances) (s : State) (es : List Entry) → states_past inst s (condensed es) ≡ states_kept inst s es
kept-states inst s es = kept-from inst es s (λ node. 0)
