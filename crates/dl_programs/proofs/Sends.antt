-- Where a program sends: the send is allowed, and what follows it is ready afterwards.
use Rattle.std.proofs.Common.{◌≡◌, ℕ, ℤ, true, false, ◌==◌, Some, None, List, [], ◌∷◌, ◌++◌, length, slice_get, refl, ap, sym, ◌∙◌, arith}
use Rattle.std.specs.List.{AllByRecursion as Each, AllZip}
use Rattle.std.proofs.lemmas.Bool.{false≢true}
use Rattle.dl_term.specs.declared.syntax.Lab.TheVariants.{At}
use Rattle.dl_term.specs.declared.syntax.Sort.{Sort}
use Rattle.dl_term.specs.declared.syntax.Term.{Term, Num, Word, Var, Field', Row', Len, Msg, Add', Sub', Mul', If', more_of-Term as one, end_of-Term as end}
use Rattle.dl_term.specs.declared.syntax.Formula.{Formula}
use Rattle.dl_term.specs.State.{State}
use Rattle.dl_term.specs.Names.{Names}
use Rattle.dl_term.specs.Meaning.{value, holds}
use Rattle.dl_model.specs.declared.protocol.Tag.{Tag}
use Rattle.dl_model.specs.declared.protocol.Protocol.{Protocol}
use Rattle.dl_model.specs.declared.program.Proc.{Proc}
use Rattle.dl_model.specs.declared.file.Decls.{Decls}
use Rattle.dl_model.specs.Block.{Block}
use Rattle.dl_model.specs.Sorts.{in_sort, all_in_sorts, has}
use Rattle.dl_model.specs.Lookup.{Parameter, arg_names, arg_sorts, tag_at, hook_at, proc_at, world_of}
use Rattle.dl_model.specs.Words.{me_word, to_word}
use Rattle.dl_model.specs.Machine.{value_of, values_of}
use Rattle.dl_model.specs.Steps.{Sending, after_step}
use Rattle.dl_model.specs.Spoken.{bound_names}
use Rattle.dl_model.specs.Scopes.{file_label, hook_label, is_tag, TermIsKnown, IsExpression}
use Rattle.dl_model.specs.Formed.{proc_variables, BlockIsFormed, IsFormed}
use Rattle.dl_model.specs.Sequents.{Fits, IsValid}
use Rattle.dl_model.proofs.Small.{and-left, and-right, and-both, or-both, or-true-left, each-front, each-back}
use Rattle.dl_sequent.specs.Bounds.{node_sort, in_sort_formula}
use Rattle.dl_wp.proofs.Model.{spoken-some, length-map}
use Rattle.dl_inv.specs.Words.{guard_word}
use Rattle.dl_inv.specs.Steps.{called, tag_of, all_hooks}
use Rattle.dl_inv.proofs.Lists.{each-append}
use Rattle.dl_inv.proofs.Clear.{IsOver}
use Rattle.dl_inv.proofs.FormedParts.{hook-local}
use Rattle.dl_sound.specs.Obligations.{Test, ready, IsAllowed, StandsAt}
use Rattle.dl_sound.proofs.Bridge.{tag-there}
use Rattle.dl_sound.proofs.StepNames.{node-in-sort}
use Rattle.dl_sound.proofs.Hypotheses.{IsTrue, all-hold}
use Rattle.dl_triples.specs.Points.{pre_of}
use Rattle.dl_triples.specs.Obligations.{all_in_sort, known_in, sending, send_rule, allowed_in, guard_sequent, sent_sequent}
use Rattle.dl_programs.proofs.Known.{file-same, file-about, binds-none}
use Rattle.dl_programs.proofs.Pure.{bare}
use Rattle.dl_programs.proofs.FileBound.{own-free, hook-free, send-guard-free}
use Rattle.dl_programs.proofs.Ready.{IsNote, bound-apart, known-pre}
use Rattle.dl_programs.proofs.Standing.{plain, plain-follows, valid-where, fits-where, all-held, in-sort-held, in-sort-said}
use Rattle.dl_programs.proofs.SendTerms.{node-back, same-tag, guard-same, fits-said, fits-meant, hooks-said, hooks-meant, after-send}
use Rattle.dl_programs.proofs.Places.{next-ready}
use Rattle.dl_programs.proofs.Calls.{is-grounded, expression-same, values-zip, foreign-apart}
use Rattle.dl_wp.specs.Before.{before_sent}
use Rattle.dl_programs.proofs.Guards.{send-guard-me}

-- an expression speaks of its variables alone
pub expression-over : (t : Term) (variables : List ℕ) → TermIsKnown (bare variables) t → IsOver variables t
expression-over (Num v) variables h p m a b = refl
expression-over (Word x v) variables h p m a b = refl
expression-over (Var x) variables h p m a b = a x h
expression-over (Field' l f _ (one node end)) variables h p m a b = absurd (false≢true h.0)
expression-over (Row' l f _ (one node end) _ (one index end)) variables h p m a b = absurd (false≢true h.0)
expression-over (Len l) variables h p m a b = refl
expression-over (Msg k part) variables h p m a b = absurd (false≢true h.0)
expression-over (Add' _ (one s end) _ (one t end)) variables h p m a b = or-both _ _ (expression-over s variables h.0 p m a b) (expression-over t variables h.1 p m a b)
expression-over (Sub' _ (one s end) _ (one t end)) variables h p m a b = or-both _ _ (expression-over s variables h.0 p m a b) (expression-over t variables h.1 p m a b)
expression-over (Mul' _ (one s end) _ (one t end)) variables h p m a b = or-both _ _ (expression-over s variables h.0 p m a b) (expression-over t variables h.1 p m a b)
expression-over (If' _ (one s end) _ (one t end) _ (one u end) _ (one w end)) variables h p m a b =
    or-both _ _ (or-both _ _ (expression-over s variables h.0 p m a b) (expression-over t variables h.1 p m a b)) (or-both _ _ (expression-over u variables h.2 p m a b) (expression-over w variables h.3 p m a b))

pub expressions-over : (ts : List Term) (variables : List ℕ) → Each (IsExpression variables) ts → Each (IsOver variables) ts
expressions-over [] variables h = tt
expressions-over (t ∷ ts) variables h = (expression-over t variables h.0.0, expressions-over ts variables h.1)

module _ (d : Decls) (formed : IsFormed d) (number : ℕ) (there : slice_get d.procs number ≡ Some (proc_at d.procs number)) where
  abbrev proc : Proc
  proc = proc_at d.procs number

  abbrev variables : List ℕ
  variables = proc_variables proc

  -- no guard and no hook binds a variable of the procedure
  pub send-guard-apart : (label tag y : ℕ) → has (bound_names (tag_at d.inst label tag).send.guard) me_word ≡ false → has (bound_names (tag_at d.inst label tag).send.guard) y ≡ true → has variables y ≡ false
  send-guard-apart label tag y no_me bound = foreign-apart d formed number there (tag_at d.inst label tag).send.guard y no_me (λ x mine. send-guard-free d formed x (own-free d formed number proc x there mine) label tag) bound

  pub hook-apart : (hook y : ℕ) → has (bound_names (hook_at d hook).formula) y ≡ true → has variables y ≡ false
  hook-apart hook y bound =
      foreign-apart d formed number there (hook_at d hook).formula y
      (binds-none (hook_at d hook).formula (record { protocol = hook_label d.inst (hook_at d hook); variables = me_word ∷ to_word ∷ (hook_at d hook).args; messages = [] }) me_word (hook-local d formed hook).0.0 (or-true-left (me_word == me_word) (has (to_word ∷ (hook_at d hook).args) me_word) refl))
      (λ x mine. hook-free d formed x (own-free d formed number proc x there mine) hook) bound

  module _ (label tag : ℕ) (to : Term) (args : List Term) (spoken : is_tag (file_label d.inst (At label)) tag ≡ true) (count : length args ≡ length (tag_at d.inst label tag).args) (to_expression : IsExpression (proc_variables (proc_at d.procs number)) to)
      (expressions : Each (IsExpression (proc_variables (proc_at d.procs number))) args) (note : Formula) (noted : IsNote d number (proc_at d.procs number) note)
      (node : ℕ) (names : Names) (state : State) (stands : StandsAt d number node names state note) where
    abbrev n : Names
    n = plain names

    abbrev to_value : ℤ
    to_value = value_of to names

    abbrev values : List ℤ
    values = values_of args names

    protocol : (p : Protocol) × (file_label d.inst (At label) ≡ Some p)
    protocol = spoken-some (file_label d.inst (At label)) (tag-there (file_label d.inst (At label)) tag spoken)

    note-there : holds note n state ≡ true
    note-there = file-same d.inst variables note n names state noted (λ x mine. refl) ∙ stands.true_there

    to-same : value to n state ≡ to_value
    to-same = expression-same to variables n names state to_expression.0 (λ x mine. refl)

    args-same : AllZip (λ t v. value t n state ≡ v) args values
    args-same = values-zip args variables n names state expressions (λ x mine. refl)

    me-over : IsOver variables (Var me_word)
    me-over p m a b = a me_word (or-true-left (me_word == me_word) (has (arg_names proc.params ++ proc.locals) me_word) refl)

    to-over : IsOver variables to
    to-over = expression-over to variables to_expression.0

    args-over : Each (IsOver variables) args
    args-over = expressions-over args variables expressions

    -- the guard's scope has `me`
    tag-same : tag_of d.inst None (At label) tag ≡ tag_at d.inst label tag
    tag-same = same-tag d formed label tag protocol.0 protocol.1 n state refl stands.sorted node stands.named.known (Var me_word) to args to_value values stands.named.me to-same args-same variables me-over to-over args-over

    guard-lacks : (y : ℕ) → has (bound_names (tag_at d.inst label tag).send.guard) y ≡ true → has variables y ≡ false
    guard-lacks y bound = send-guard-apart label tag y no-me bound
      where
        no-me : has (bound_names (tag_at d.inst label tag).send.guard) me_word ≡ false
        no-me = send-guard-me d formed label tag

    fitting : Fits (known_in d proc) 0 state n
    fitting = fits-where d formed number node names state note stands n (plain-follows d formed number names) note-there

    abbrev formulas : List Formula
    formulas = in_sort_formula d.inst (known_in d proc) to (node_sort d.inst.nodes)
        ∷ (all_in_sort d.inst (known_in d proc) args (arg_sorts (tag_of d.inst None (At label) tag).args)
        ++ (send_rule d (known_in d proc) label tag (sending label tag to args) ++ all_hooks d (world_of d number) label tag (sending label tag to args) ∷ []))

    -- ---- arguments

    sorts-said : (ts : List Term) (sorts : List Sort) → AllZip (λ t v. value t n state ≡ v) ts (values_of ts names) → all_in_sorts sorts (values_of ts names) ≡ true → Each (IsTrue n state) (all_in_sort d.inst (known_in d proc) ts sorts)
    sorts-said [] sorts z h = tt
    sorts-said (t ∷ ts) [] z h = tt
    sorts-said (t ∷ ts) (sort ∷ sorts) z h =
        (in-sort-said n state d.inst (known_in d proc) t sort (ap (in_sort sort) z.0 ∙ and-left _ _ h), sorts-said ts sorts z.1 (and-right (in_sort sort (value_of t names)) _ h))

    sorts-meant : (ts : List Term) (sorts : List Sort) → length ts ≡ length sorts → AllZip (λ t v. value t n state ≡ v) ts (values_of ts names) → Each (IsTrue n state) (all_in_sort d.inst (known_in d proc) ts sorts) → all_in_sorts sorts (values_of ts names) ≡ true
    sorts-meant [] [] e z h = refl
    sorts-meant [] (sort ∷ sorts) e z h = absurd (omega (e, arith))
    sorts-meant (t ∷ ts) [] e z h = absurd (omega (e, arith))
    sorts-meant (t ∷ ts) (sort ∷ sorts) e z h =
        and-both (in_sort sort (value_of t names)) (all_in_sorts sorts (values_of ts names))
        (ap (in_sort sort) (sym z.0) ∙ in-sort-held n state d.inst (known_in d proc) (is-grounded d formed) refl stands.sorted fitting t sort h.0)
        (sorts-meant ts sorts (omega (e, arith)) z.1 h.1)

    sorts-count : length args ≡ length (arg_sorts (tag_of d.inst None (At label) tag).args)
    sorts-count = count ∙ sym (ap (λ (t : Tag). length t.args) tag-same) ∙ sym (length-map (λ (p : Parameter). p.1) (tag_of d.inst None (At label) tag).args)

    -- ---- the send is allowed exactly where the formula says so

    pub allowed-said : IsAllowed d number node state (Sending label tag to_value values) → holds (allowed_in d proc label tag (sending label tag to args)) n state ≡ true
    allowed-said h = all-hold n state formulas (
      in-sort-said n state d.inst (known_in d proc) to (node_sort d.inst.nodes) (ap (in_sort (node_sort d.inst.nodes)) to-same ∙ node-in-sort d.inst.nodes to_value h.0.addressee),
      each-append (IsTrue n state) (all_in_sort d.inst (known_in d proc) args (arg_sorts (tag_of d.inst None (At label) tag).args)) (send_rule d (known_in d proc) label tag (sending label tag to args) ++ all_hooks d (world_of d number) label tag (sending label tag to args) ∷ [])
          (sorts-said args (arg_sorts (tag_of d.inst None (At label) tag).args) args-same (ap (λ (t : Tag). all_in_sorts (arg_sorts t.args) values) tag-same ∙ h.0.arguments)) (
            guard-same d formed label tag protocol.0 protocol.1 n state refl stands.sorted node stands.named.known (Var me_word) to args to_value values stands.named.me to-same args-same variables me-over to-over args-over guard-lacks ∙ h.0.guard,
            (
              fits-said d formed label tag protocol.0 protocol.1 n state refl stands.sorted node stands.named.known (Var me_word) to args to_value values stands.named.me to-same args-same variables me-over to-over args-over (known_in d proc) h.0.updates,
              (hooks-said d formed label tag protocol.0 protocol.1 n state refl stands.sorted node stands.named.known (Var me_word) to args to_value values stands.named.me to-same args-same variables me-over to-over args-over (world_of d number) (λ hook m q y bound. hook-apart hook y bound) h.1, tt),
            ),
          ),
    )

    pub allowed-meant : holds (allowed_in d proc label tag (sending label tag to args)) n state ≡ true → IsAllowed d number node state (Sending label tag to_value values)
    allowed-meant h =
        let each = all-held n state formulas h in
        let ruled = each-back (IsTrue n state) (all_in_sort d.inst (known_in d proc) args (arg_sorts (tag_of d.inst None (At label) tag).args)) (send_rule d (known_in d proc) label tag (sending label tag to args) ++ all_hooks d (world_of d number) label tag (sending label tag to args) ∷ []) each.1 in (
          record {
            addressee = node-back d.inst.nodes to_value (ap (in_sort (node_sort d.inst.nodes)) (sym to-same) ∙ in-sort-held n state d.inst (known_in d proc) (is-grounded d formed) refl stands.sorted fitting to (node_sort d.inst.nodes) each.0);
            arguments = sym (ap (λ (t : Tag). all_in_sorts (arg_sorts t.args) values) tag-same)
                ∙ sorts-meant args (arg_sorts (tag_of d.inst None (At label) tag).args) sorts-count args-same
                (each-front (IsTrue n state) (all_in_sort d.inst (known_in d proc) args (arg_sorts (tag_of d.inst None (At label) tag).args)) (send_rule d (known_in d proc) label tag (sending label tag to args) ++ all_hooks d (world_of d number) label tag (sending label tag to args) ∷ []) each.1);
            guard = sym (guard-same d formed label tag protocol.0 protocol.1 n state refl stands.sorted node stands.named.known (Var me_word) to args to_value values stands.named.me to-same args-same variables me-over to-over args-over guard-lacks) ∙ ruled.0;
            updates = fits-meant d formed label tag protocol.0 protocol.1 n state refl stands.sorted node stands.named.known (Var me_word) to args to_value values stands.named.me to-same args-same variables me-over to-over args-over (known_in d proc) (is-grounded d formed) refl fitting ruled.1.0;
          },
          hooks-meant d formed label tag protocol.0 protocol.1 n state refl stands.sorted node stands.named.known (Var me_word) to args to_value values stands.named.me to-same args-same variables me-over to-over args-over (world_of d number) (λ hook m q y bound. hook-apart hook y bound) ruled.1.1.0,
        )

    pub send-guarded : IsValid d.inst (guard_sequent d proc note label tag (sending label tag to args)) → IsAllowed d number node state (Sending label tag to_value values)
    send-guarded valid = allowed-meant (valid-where d formed number node names state note stands n (plain-follows d formed number names) note-there [] (allowed_in d proc label tag (sending label tag to args)) valid tt)

    pub was-sent : (rest : Block) (after : Formula) (test : Test) → BlockIsFormed d number proc rest → IsNote d number proc after → ((m : Names) (s : State) → holds after m s ≡ true → test m s ≡ true)
        → IsValid d.inst (sent_sequent d proc note label tag (sending label tag to args) (pre_of rest after)) → IsAllowed d number node state (Sending label tag to_value values)
        → ready rest test names (after_step d.inst state node (Sending label tag to_value values)) ≡ true
    was-sent rest after test formed_rest known_after ends valid allowed =
        let next = pre_of rest after in
        let known_next = known-pre d number proc rest after formed_rest known_after in
        let later = after_step d.inst state node (Sending label tag to_value values) in
        next-ready d formed number there rest after test formed_rest known_after ends names later
        (sym (file-same d.inst variables next n names later known_next (λ x mine. refl))
        ∙ sym (after-send d formed label tag protocol.0 protocol.1 n state refl stands.sorted node stands.named.known (Var me_word) to args to_value values stands.named.me to-same args-same variables me-over to-over args-over
        allowed.0 (λ m l id e. cc) next (file-about d.inst variables next known_next) (λ y bound. bound-apart d number proc next y known_next bound))
        ∙ valid-where d formed number node names state note stands n (plain-follows d formed number names) note-there (called guard_word (allowed_in d proc label tag (sending label tag to args)) ∷ [])
        (before_sent d.inst None (sending label tag to args) next) valid (allowed-said allowed, tt))
