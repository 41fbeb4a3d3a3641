-- What the code that builds sequents makes, part by part.
use Rattle.std.proofs.Common.{◌≡◌, ℕ, pos, Bool, true, false, ◌+◌, ◌<◌, ◌==◌, if◌then◌else◌, List, [], ◌∷◌, ◌++◌, length, get_or, drop, map, filter, refl, sym, ◌∙◌, ap, eq-eqb, add-one, append_assoc, Option, Some, None, slice_get, unwrap_or}
use Rattle.std.proofs.Math.Seq.{drop-cons}
use Rattle.std.proofs.lemmas.List.Elements.{filter-append}
use Rattle.std.specs.Prelude.{Result, Ok, Err, IfOk}
use Rattle.std.specs.List.{flat_map}
use Rattle.dl_term.specs.declared.syntax.Sort.{Sort}
use Rattle.dl_term.specs.declared.syntax.Lab.{Lab}
use Rattle.dl_term.specs.declared.syntax.Lab.TheVariants.{Own, At}
use Rattle.dl_term.specs.declared.syntax.Term.{Term, Num, Word, Var, Field', Row', Len, Msg, Add', Sub', Mul', If', more_of-Term as one, end_of-Term as end}
use Rattle.dl_term.specs.declared.syntax.Part.TheVariants.{From}
use Rattle.dl_term.specs.declared.syntax.Formula.{Formula, True, And}
use Rattle.dl_term.specs.Syntax.{opened}
use Rattle.dl_model.specs.declared.protocol.Update.{Update}
use Rattle.dl_model.specs.declared.protocol.Protocol.{Protocol}
use Rattle.dl_model.specs.declared.protocol.Instances.{Instances}
use Rattle.dl_model.specs.declared.sequent.Sequent.{Sequent}
use Rattle.dl_model.specs.Sorts.{has}
use Rattle.dl_model.specs.declared.protocol.Hook.{Hook}
use Rattle.dl_model.specs.declared.sequent.Hypothesis.{Hypothesis}
use Rattle.dl_model.specs.declared.file.Decls.{Decls}
use Rattle.dl_model.specs.Lookup.{Parameter, arg_names, hook_at, receive_of}
use Rattle.dl_model.proofs.Small.{and-both}
use Rattle.dl_model.specs.Words.{me_word, to_word, from_word}
use Rattle.dl_sequent.specs.Bounds.{field_sort}
use Rattle.dl_subst.specs.Change.{changed}
use Rattle.dl_subst.specs.Substitution.{term_for, put_for_variables, label_put, terms_put}
use Rattle.dl_wp.specs.declared.steps.SendStep.{SendStep}
use Rattle.dl_wp.specs.declared.steps.ReceiveStep.{ReceiveStep}
use Rattle.dl_wp.specs.Steps.{Step, Receives, label_seen, argument_of, names_in_step, spoken_of, args_of_message, send_step, receive_step}
use Rattle.dl_inv.specs.Words.{guard_word, fits_word, mine_word}
use Rattle.dl_inv.specs.Code.{says_something, hook_put, hooks_put}
use Rattle.dl_inv.specs.Joined.{nested, all_of}
use Rattle.dl_inv.specs.Steps.{called, put_in_step, in_step, index_fits, value_fits, update_fits, all_fit, is_hook_of, is_mine, tag_of, send_hypotheses, receive_hypotheses}

-- ---- lists that a loop makes

-- one item more of those that are left
pub next-item : {A X : Type 0} (g : A → List X) (items : List A) (i : ℕ) (item : A) (now later all : List X) → i < length items → item ≡ get_or items i item →
    now ++ flat_map g (drop i items) ≡ all → later ≡ now ++ g item → later ++ flat_map g (drop (i + 1) items) ≡ all
next-item g items i item now later all h same before is =
    let here : drop i items ≡ get_or items i item ∷ drop (i + 1) items = rw (add-one, drop-cons items i item) in
    let there : drop i items ≡ item ∷ drop (i + 1) items = here ∙ ap (λ x. x ∷ drop (i + 1) items) (sym same) in
    ap (λ xs. xs ++ flat_map g (drop (i + 1) items)) is
    ∙ (append_assoc now (g item) (flat_map g (drop (i + 1) items)) ∙ (ap (λ xs. now ++ flat_map g xs) (sym there) ∙ before))

-- what passes of several lists
pub filter-flat : {A X : Type 0} (p : X → Bool) (g : A → List X) (items : List A) → filter p (flat_map g items) ≡ flat_map (λ x. filter p (g x)) items
filter-flat p g [] = refl
filter-flat p g (x ∷ xs) = filter-append p (g x) (flat_map g xs) ∙ ap (λ ys. filter p (g x) ++ ys) (filter-flat p g xs)

-- those that pass a first test, changed, of which those are taken that pass a second one
pub taken-flat : {A X : Type 0} (p : X → Bool) (f : A → X) (q : A → Bool) (items : List A) →
    filter p (map f (filter q items)) ≡ flat_map (λ x. filter p (map f (filter q (x ∷ [])))) items
taken-flat p f q [] = refl
taken-flat p f q (x ∷ xs) = go (q x) (taken-flat p f q xs)
  where
    go : (b : Bool) → filter p (map f (filter q xs)) ≡ flat_map (λ y. filter p (map f (filter q (y ∷ [])))) xs
        → filter p (map f (if b then x ∷ filter q xs else filter q xs)) ≡ filter p (map f (if b then x ∷ [] else [])) ++ flat_map (λ y. filter p (map f (filter q (y ∷ [])))) xs
    go true h = filter-append p (f x ∷ []) (map f (filter q xs)) ∙ ap (λ ys. filter p (f x ∷ []) ++ ys) h
    go false h = h

-- ---- formulas joined

pub nested-onto : (fs : List Formula) (f g : Formula) → nested (fs ++ f ∷ g ∷ []) ≡ nested (fs ++ And f g ∷ [])
nested-onto [] f g = refl
nested-onto (x ∷ []) f g = refl
nested-onto (x ∷ y ∷ ys) f g = ap (λ r. And x r) (nested-onto (y ∷ ys) f g)

-- the last formula of a list that was taken out, joined with the one that follows
pub onto-popped : (parts rest : List Formula) (part last joined : Formula) → parts ≡ rest ++ part ∷ [] → joined ≡ And part last → nested (rest ++ joined ∷ []) ≡ nested (parts ++ last ∷ [])
onto-popped parts rest part last joined popped is =
    ap (λ f. nested (rest ++ f ∷ [])) is ∙ (sym (nested-onto rest part last)
    ∙ ap nested (sym (append_assoc rest (part ∷ []) (last ∷ [])) ∙ ap (λ xs. xs ++ last ∷ []) (sym popped)))

pub where-ok : {A E : Type 0} (r : Result A E) (P Q : A → Type 0) → IfOk r P → ((a : A) → P a → Q a) → IfOk r Q
where-ok (Ok a) P Q h k = k a h
where-ok (Err e) P Q h k = h

-- ---- terms for several variables

term-for-is : (found : Term) (xs : List ℕ) (terms : List Term) (x : ℕ) → term_for found xs terms x ≡ argument_of found xs terms x
term-for-is found [] terms x = refl
term-for-is found (y ∷ ys) [] x = refl
term-for-is found (y ∷ ys) (t ∷ ts) x = term-for-is (if x == y then t else found) ys ts x

label-is : (own label : Lab) → label_put own label ≡ label_seen own label
label-is own Own = refl
label-is own (At label) = refl

module _ (node : Term) (word : ℕ) (other : Term) (names : List ℕ) (args : List Term) where
  put-is : (t : Term) → put_for_variables (me_word ∷ word ∷ names) (node ∷ other ∷ args) t ≡ put_in_step word names (names_in_step node word other names args) t
  unfolding opened
  put-is (Num v) = refl
  put-is (Word x v) = refl
  put-is (Var x) = ap (λ t. if has (me_word ∷ word ∷ names) x then Some t else None) (term-for-is (if x == word then other else if x == me_word then node else Num (pos 0)) names args x)
  put-is (Field' label field _ (one t end)) = refl
  put-is (Row' label field _ (one t end) _ (one index end)) = refl
  put-is (Len label) = refl
  put-is (Msg m part) = refl
  put-is (Add' _ (one a end) _ (one b end)) = refl
  put-is (Sub' _ (one a end) _ (one b end)) = refl
  put-is (Mul' _ (one a end) _ (one b end)) = refl
  put-is (If' _ (one a end) _ (one b end) _ (one x end) _ (one y end)) = refl

  pub in-step-is : (label : Lab) (f : Formula) → terms_put f (me_word ∷ word ∷ names) (node ∷ other ∷ args) label ≡ in_step label node word other names args f
  in-step-is label f = λ i. changed (record {
    put = λ t. put-is t i;
    label = λ l. label-is label l i;
    stops_at_variable = λ x. false;
    stops_at_message = λ m. false;
  }) f

-- ---- what a step sees of its updates

-- a step that sees the same and updates nothing
abbrev pub seeing : Step → Step
seeing step = record { label = step.label; tag = 0; node = step.node; named = step.named; updates = []; move = Receives 0 }

module _ (inst : Instances) (known : Sequent) (step : Step) where
  index-sees : (index : Option Term) → index_fits inst known (seeing step) index ≡ index_fits inst known step index
  index-sees (Some index) = refl
  index-sees None = refl

  value-sees : (value : Term) (sort : Option Sort) → value_fits inst known (seeing step) value sort ≡ value_fits inst known step value sort
  value-sees value (Some sort) = refl
  value-sees value None = refl

  update-sees : (protocol : Option Protocol) (update : Update) → update_fits inst known (seeing step) protocol update ≡ update_fits inst known step protocol update
  update-sees protocol update = λ i. index-sees update.index i ++ value-sees update.value (field_sort protocol update.field) i

  pub all-fit-sees : (protocol : Option Protocol) (updates : List Update) → all_fit inst known (seeing step) protocol updates ≡ all_fit inst known step protocol updates
  all-fit-sees protocol updates = λ i. all_of (flat_map (λ update. update-sees protocol update i) updates)

-- ---- what is said of hooks and updates

-- what was made of each part, if it says something, is joined into all of them
pub joined-said : {A : Type 0} (g : A → List Formula) (items : List A) (parts : List Formula) → parts ≡ flat_map (λ x. filter says_something (g x)) items → nested parts ≡ all_of (flat_map g items)
joined-said g items parts e = ap nested (e ∙ sym (filter-flat says_something g items))

pub hooks-said : (decls : Decls) (label tag : ℕ) (terms : List Term) (hooks : List ℕ) (parts : List Formula) →
    parts ≡ flat_map (λ hook. filter says_something (hooks_put decls label tag terms (hook ∷ []))) hooks → nested parts ≡ all_of (hooks_put decls label tag terms hooks)
hooks-said decls label tag terms hooks parts e =
    ap nested (e ∙ sym (taken-flat says_something (λ hook. hook_put (At label) terms (hook_at decls hook)) (is_hook_of decls label tag) hooks))

pub hook-made : (decls : Decls) (label tag : ℕ) (terms : List Term) (hook : ℕ) (declared : Hook) (made : Formula) → slice_get decls.hooks hook ≡ Some declared →
    declared.client ≡ label → declared.tag ≡ tag → made ≡ hook_put (At label) terms declared →
    filter says_something (made ∷ []) ≡ filter says_something (hooks_put decls label tag terms (hook ∷ []))
hook-made decls label tag terms hook declared made there client same is =
    let at : hook_at decls hook ≡ declared = ap (λ o. unwrap_or o (record { sym = 0; core = 0; client = 0; tag = 0; args = []; formula = True })) there in
    let for-it : is_hook_of decls label tag hook ≡ true =
    and-both _ _ (eq-eqb _ _ (ap (λ (h : Hook). h.client) at ∙ client)) (eq-eqb _ _ (ap (λ (h : Hook). h.tag) at ∙ same)) in
    ap (λ f. filter says_something (f ∷ [])) (is ∙ ap (λ (h : Hook). hook_put (At label) terms h) (sym at))
    ∙ ap (λ b. filter says_something (map (λ h. hook_put (At label) terms (hook_at decls h)) (if b then hook ∷ [] else []))) (sym for-it)

-- ---- the rule of a tag

abbrev pub rule_with : Instances → Sequent → Lab → (node : Term) → (word : ℕ) → (other : Term) → List Parameter → List Term → Formula → Option Protocol → List Update → List Hypothesis
rule_with inst known label node word other params args guard protocol updates =
    called guard_word (terms_put guard (me_word ∷ word ∷ arg_names params) (node ∷ other ∷ args) label)
    ∷ called fits_word (all_fit inst known (record { label = label; tag = 0; node = node; named = names_in_step node word other (arg_names params) args; updates = []; move = Receives 0 }) protocol updates) ∷ []

pub send-rule : (inst : Instances) (known : Sequent) (step : SendStep) (params : List Parameter) (args : List Term) (guard : Formula) (protocol : Option Protocol) (updates : List Update) →
    params ≡ (tag_of inst known.own step.label step.tag).args → args ≡ step.args → guard ≡ (tag_of inst known.own step.label step.tag).send.guard →
    protocol ≡ spoken_of inst known.own step.label → updates ≡ (tag_of inst known.own step.label step.tag).send.updates →
    rule_with inst known step.label step.sender to_word step.to params args guard protocol updates ≡ send_hypotheses inst known step
send-rule inst known step params args guard protocol updates p a g s u =
    let tag = tag_of inst known.own step.label step.tag in
    let there : rule_with inst known step.label step.sender to_word step.to params args guard protocol updates
    ≡ rule_with inst known step.label step.sender to_word step.to tag.args step.args tag.send.guard (spoken_of inst known.own step.label) tag.send.updates =
    λ i. rule_with inst known step.label step.sender to_word step.to (p i) (a i) (g i) (s i) (u i) in
    there
    ∙ (λ i. called guard_word (in-step-is step.sender to_word step.to (arg_names tag.args) step.args step.label tag.send.guard i)
    ∷ called fits_word (all-fit-sees inst known (send_step inst known.own step) (spoken_of inst known.own step.label) tag.send.updates i) ∷ [])

pub receive-rule : (inst : Instances) (known : Sequent) (step : ReceiveStep) (other : Term) (params : List Parameter) (args : List Term) (guard : Formula) (protocol : Option Protocol) (updates : List Update) →
    other ≡ Msg step.msg From → params ≡ (tag_of inst known.own step.label step.tag).args → args ≡ args_of_message step.msg → guard ≡ (receive_of (tag_of inst known.own step.label step.tag)).guard →
    protocol ≡ spoken_of inst known.own step.label → updates ≡ (receive_of (tag_of inst known.own step.label step.tag)).updates →
    called mine_word (is_mine step) ∷ rule_with inst known step.label step.receiver from_word other params args guard protocol updates ≡ receive_hypotheses inst known step
receive-rule inst known step other params args guard protocol updates o p a g s u =
    let tag = tag_of inst known.own step.label step.tag in
    let there : rule_with inst known step.label step.receiver from_word other params args guard protocol updates
    ≡ rule_with inst known step.label step.receiver from_word (Msg step.msg From) tag.args (args_of_message step.msg) (receive_of tag).guard (spoken_of inst known.own step.label) (receive_of tag).updates =
    λ i. rule_with inst known step.label step.receiver from_word (o i) (p i) (a i) (g i) (s i) (u i) in
    ap (λ hs. called mine_word (is_mine step) ∷ hs) there
    ∙ (λ i. called mine_word (is_mine step)
    ∷ called guard_word (in-step-is step.receiver from_word (Msg step.msg From) (arg_names tag.args) (args_of_message step.msg) step.label (receive_of tag).guard i)
    ∷ called fits_word (all-fit-sees inst known (receive_step inst known.own step) (spoken_of inst known.own step.label) (receive_of tag).updates i) ∷ [])
