-- What the types of the code that builds sequents stand for.
use Rattle.std.specs.Prelude.{ℕ, Bool, not, List, [], ◌∷◌, filter, map}
use Rattle.dl_term.specs.declared.syntax.Lab.{Lab}
use Rattle.dl_term.specs.declared.syntax.Lab.TheVariants.{At}
use Rattle.dl_term.specs.declared.syntax.Term.{Term}
use Rattle.dl_term.specs.declared.syntax.Formula.{Formula}
use Rattle.dl_model.specs.declared.protocol.Hook.{Hook}
use Rattle.dl_model.specs.declared.file.World.{World}
use Rattle.dl_model.specs.declared.file.Decls.{Decls}
use Rattle.dl_model.specs.declared.protocol.Update.{Update}
use Rattle.dl_model.specs.declared.sequent.Hypothesis.{Hypothesis}
use Rattle.dl_model.specs.Lookup.{hook_at, arg_names}
use Rattle.dl_model.specs.Words.{me_word, to_word}
use Rattle.dl_subst.specs.Substitution.{terms_put}
use Rattle.dl_wp.specs.declared.plan.Sight.{Sight}
use Rattle.dl_wp.specs.Code.{named_in}
use Rattle.dl_wp.specs.Steps.{Step, Receives}
use Rattle.dl_inv.specs.declared.facts.Extent.{Extent}
use Rattle.dl_inv.specs.declared.fits.Scene.{Scene}
use Rattle.dl_inv.specs.declared.hooks.Sending.{Sending}
use Rattle.std.specs.Option.{option_copied}
use Rattle.dl_inv.specs.Words.{guard_word, fits_word}
use Rattle.dl_inv.specs.Joined.{is_true}
use Rattle.dl_inv.specs.Steps.{called, update_fits, all_fit, is_hook_of}

-- a world with these labels and hooks
abbrev pub world_with : Extent → World
world_with extent = record { sym = 0; labels = extent.labels.now; hooks = extent.hooks.now }

-- a formula that is joined with others
abbrev pub says_something : Formula → Bool
says_something f = not (is_true f)

-- a step that sees what this one sees, and updates nothing
abbrev pub step_in : Sight → Step
step_in sight = record {
  label = sight.label;
  tag = 0;
  node = sight.node.now;
  named = named_in sight;
  updates = [];
  move = Receives 0;
}

-- a hook in a send with these terms: the sender, the addressee and the arguments
abbrev pub hook_put : Lab → List Term → Hook → Formula
hook_put label terms hook = terms_put hook.formula (me_word ∷ to_word ∷ hook.args) terms label

-- the hooks among these for the sends of a tag at a label
abbrev pub hooks_put : Decls → ℕ → ℕ → List Term → List ℕ → List Formula
hooks_put decls label tag terms hooks = map (λ hook. hook_put (At label) terms (hook_at decls hook)) (filter (is_hook_of decls label tag) hooks)

-- what a hook says in a send, if it says something
abbrev pub hook_said : Decls → Sending → ℕ → List Formula
hook_said decls send hook = filter says_something (hooks_put decls send.label send.tag send.terms.now (hook ∷ []))

-- ---- what a step says by the rule of its tag

-- what has to hold for an update to fit, if it is something
abbrev pub update_said : Scene → Update → List Formula
update_said scene update = filter says_something (update_fits scene.inst.now scene.known.now (step_in scene.sight) (option_copied scene.protocol) update)

-- a guard as it stands in the step
abbrev pub guard_put : Sight → Formula → Formula
guard_put sight guard = terms_put guard (me_word ∷ sight.word ∷ arg_names sight.params.now) (sight.node.now ∷ sight.other.now ∷ sight.args.now) sight.label

-- the guard holds, and the updates fit
abbrev pub rule_facts : Scene → Formula → List Update → List Hypothesis
rule_facts scene guard updates =
    called guard_word (guard_put scene.sight guard)
    ∷ called fits_word (all_fit scene.inst.now scene.known.now (step_in scene.sight) (option_copied scene.protocol) updates) ∷ []
