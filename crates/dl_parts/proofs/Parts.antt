-- What the code that builds sequents makes, part by part.
use Rattle.std.proofs.Common.{◌≡◌, ◌<◌, ◌≤◌, ◌+◌, ℕ, zero, suc, Bool, List, [], ◌∷◌, ◌++◌, length, get_or, drop, map, filter, refl, sym, ◌∙◌, ap, append_assoc, add-one, arith, None}
use Rattle.std.proofs.Math.Seq.{drop-cons}
use Rattle.std.proofs.lemmas.List.Elements.{filter-append}
use Rattle.dl_term.specs.declared.syntax.Lab.TheVariants.{At}
use Rattle.dl_term.specs.declared.syntax.Formula.{Formula}
use Rattle.dl_model.specs.declared.sequent.Hypothesis.{Hypothesis}
use Rattle.dl_model.specs.declared.sequent.Sequent.{Sequent}
use Rattle.dl_model.specs.declared.program.Proc.{Proc}
use Rattle.dl_model.specs.declared.file.World.{World}
use Rattle.dl_model.specs.declared.file.Decls.{Decls}
use Rattle.dl_model.specs.Lookup.{arg_names, hook_at}
use Rattle.dl_model.specs.Words.{result_word, to_word}
use Rattle.dl_wp.specs.declared.steps.SendStep.{SendStep}
use Rattle.dl_wp.specs.Steps.{send_step, spoken_of}
use Rattle.dl_inv.specs.declared.facts.Extent.{Extent}
use Rattle.dl_inv.specs.Joined.{all_of}
use Rattle.dl_inv.specs.Code.{hook_put, hooks_put, world_with}
use Rattle.dl_inv.specs.Facts.{facts_of}
use Rattle.dl_inv.specs.Steps.{in_step, all_fit, all_hooks, is_hook_of, hook_seen, tag_of, send_hypotheses}
use Rattle.dl_inv.proofs.Building.{in-step-is}
use Rattle.dl_triples.specs.Obligations.{send_rule, vars_of}
use Rattle.dl_triples.specs.Built.{vars_after, vars_at}
use Rattle.dl_inv.proofs.Listing.{joined}

-- the facts of a world depend on its labels and hooks alone
pub facts-same : (decls : Decls) (count n : ℕ) (extent : Extent) (world : World) → count ≡ n → extent.labels.now ≡ world.labels → extent.hooks.now ≡ world.hooks →
    facts_of decls count (world_with extent) ≡ facts_of decls n world
facts-same decls count n extent world c l h = λ i. facts_of decls (c i) (record { sym = 0; labels = l i; hooks = h i })

-- the hooks of a list, as the send meets them
pub hooks-same : (decls : Decls) (world : World) (label tag : ℕ) (step : SendStep) → step.label ≡ At label →
    all_of (hooks_put decls label tag (step.sender ∷ step.to ∷ step.args) world.hooks) ≡ all_hooks decls world label tag step
hooks-same decls world label tag step e = λ i.
    all_of (map (λ hook. seen hook i) (filter (is_hook_of decls label tag) world.hooks))
  where
    seen : (hook : ℕ) → hook_put (At label) (step.sender ∷ step.to ∷ step.args) (hook_at decls hook) ≡ hook_seen step (hook_at decls hook)
    seen hook =
        in-step-is step.sender to_word step.to (hook_at decls hook).args step.args (At label) (hook_at decls hook).formula
        ∙ ap (λ l. in_step l step.sender to_word step.to (hook_at decls hook).args step.args (hook_at decls hook).formula) (sym e)

-- the formulas of what is known of a send
pub rule-same : (decls : Decls) (given : Sequent) (label tag : ℕ) (step : SendStep) → given.own ≡ None → step.label ≡ At label → step.tag ≡ tag →
    map (λ (h : Hypothesis). h.formula) (send_hypotheses decls.inst given step) ≡ send_rule decls given label tag step
rule-same decls given label tag step o l t = λ i.
    in_step (l i) step.sender to_word step.to (arg_names (tag_of decls.inst (o i) (l i) (t i)).args) step.args (tag_of decls.inst (o i) (l i) (t i)).send.guard
    ∷ all_fit decls.inst given (send_step decls.inst (o i) step) (spoken_of decls.inst (o i) (l i)) (tag_of decls.inst (o i) (l i) (t i)).send.updates ∷ []

-- ---- parts that are added one after another

module _ {X : Type 0} (p : X → Bool) where
  pub first-added : (start one two : List X) (x : X) (rest : List X) → one ≡ start ++ filter p (x ∷ []) → two ≡ one ++ filter p rest → two ≡ start ++ filter p (x ∷ rest)
  first-added start one two x rest e f = joined start (filter p (x ∷ [])) (filter p rest) one two e f ∙ ap (λ xs. start ++ xs) (sym (filter-append p (x ∷ []) rest))

  pub then-added : (start one two : List X) (xs ys : List X) → one ≡ start ++ filter p xs → two ≡ one ++ filter p ys → two ≡ start ++ filter p (xs ++ ys)
  then-added start one two xs ys e f = joined start (filter p xs) (filter p ys) one two e f ∙ ap (λ zs. start ++ zs) (sym (filter-append p xs ys))

  -- a first one, two lists, and a last one
  pub four-added : (start one two three four : List X) (a : X) (bs cs : List X) (d : X) → one ≡ start ++ filter p (a ∷ []) → two ≡ one ++ filter p bs → three ≡ two ++ filter p cs →
      four ≡ three ++ filter p (d ∷ []) → four ≡ start ++ filter p (a ∷ (bs ++ (cs ++ d ∷ [])))
  four-added start one two three four a bs cs d e f g h =
      let last : four ≡ two ++ filter p (cs ++ d ∷ []) = then-added two three four cs (d ∷ []) g h in
      let more : four ≡ one ++ filter p (bs ++ (cs ++ d ∷ [])) = then-added one two four bs (cs ++ d ∷ []) f last in
      first-added start one four a (bs ++ (cs ++ d ∷ [])) e more

  -- a list, and two more
  pub three-added : (start one two three : List X) (bs : List X) (a d : X) → one ≡ start ++ filter p bs → two ≡ one ++ filter p (a ∷ []) → three ≡ two ++ filter p (d ∷ []) →
      three ≡ start ++ filter p (bs ++ (a ∷ d ∷ []))
  three-added start one two three bs a d e f g =
      let last : three ≡ one ++ filter p (a ∷ d ∷ []) = first-added one two three a (d ∷ []) f g in
      then-added start one three bs (a ∷ d ∷ []) e last

-- ---- the first of a list and the others

pub first-rest : {X : Type 0} (xs : List X) (x : X) → 1 ≤ length xs → x ≡ get_or xs 0 x → xs ≡ x ∷ drop 1 xs
first-rest [] x h e = absurd (omega (h, arith))
first-rest (y ∷ ys) x h e = ap (λ z. z ∷ ys) (sym e)

-- ---- the variables at a point

pub vars-first : (decls : Decls) (proc : Proc) (k : ℕ) → k ≡ 0 → vars_after decls proc result_word ≡ vars_at decls proc k
vars-first decls proc zero h = refl
vars-first decls proc (suc k) h = absurd (omega (h, arith))

pub vars-later : (decls : Decls) (proc : Proc) (k : ℕ) → 1 ≤ k → vars_of decls proc ≡ vars_at decls proc k
vars-later decls proc zero h = absurd (omega (h, arith))
vars-later decls proc (suc k) h = refl
